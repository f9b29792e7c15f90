-- The reader's own table: a node is taken, those above it stay, and a tree that is placed there is what the table stands for. Assumes nothing.
use mathlib.Core.Path.{◌≡◌, refl, sym, subst, ◌∙◌}
use mathlib.Core.List.{List}
use Prim.Native.Nat.{ℕ, zero, suc, ◌+◌, ◌*◌, ◌-◌, ◌≤◌, ◌<◌}
use native.Mathlib.Omega.{arith}
use lib.ListN.{length, get_or, set, length-set}
use lib.Seq.{get_or-set_same, get_or-set_other}
use Rattle.tree.specs.Sizes.{node_cells, most_tokens}
use Rattle.tree.specs.Table.{cell_at, first_at, second_at, symbol_column}
use Rattle.tree.specs.Trees.{Label, Tree, none, node, label_at, operand_of, tree_at}
use Rattle.tree.proofs.Unfold.{operand_in, operand_zero, tree_zero, unfolds}
use Rattle.token_plain.specs.Trees.{label_with}
use Rattle.token_reader.specs.Pieces.{Kept, Placed, Stored, Grew}
use Rattle.token_reader.specs.Waiting.{Laid}

-- ---- a node is stored

-- six cells from n on
abbrev put : List ℕ → ℕ → ℕ → ℕ → ℕ → ℕ → ℕ → List ℕ
put own n form detail first second symbol = set (set (set (set (set (set own n form) (n + 1) 0) (n + 2) detail) (n + 3) first) (n + 4) second) (n + symbol_column) symbol

module _ (own : List ℕ) (n form detail first second symbol : ℕ) (h : n + node_cells ≤ length own) where
  abbrev one : List ℕ
  one = set own n form

  abbrev two : List ℕ
  two = set one (n + 1) 0

  abbrev three : List ℕ
  three = set two (n + 2) detail

  abbrev four : List ℕ
  four = set three (n + 3) first

  abbrev five : List ℕ
  five = set four (n + 4) second

  abbrev six : List ℕ
  six = set five (n + symbol_column) symbol

  length_put : length six ≡ length own
  length_put = simp length-set

  put_other : (j : ℕ) → (n ≤ j → n + node_cells ≤ j) → get_or six j 0 ≡ get_or own j 0
  put_other j k =
      get_or-set_other five (n + symbol_column) j symbol 0 (λ e. let q = k (omega arith) in omega arith)
      ∙ get_or-set_other four (n + 4) j second 0 (λ e. let q = k (omega arith) in omega arith)
      ∙ get_or-set_other three (n + 3) j first 0 (λ e. let q = k (omega arith) in omega arith)
      ∙ get_or-set_other two (n + 2) j detail 0 (λ e. let q = k (omega arith) in omega arith)
      ∙ get_or-set_other one (n + 1) j 0 0 (λ e. let q = k (omega arith) in omega arith)
      ∙ get_or-set_other own n j form 0 (λ e. let q = k (omega arith) in omega arith)

  put_5 : get_or six (n + symbol_column) 0 ≡ symbol
  put_5 = get_or-set_same five (n + symbol_column) symbol 0 (simp length-set (omega arith))

  put_4 : get_or six (n + 4) 0 ≡ second
  put_4 =
      get_or-set_other five (n + symbol_column) (n + 4) symbol 0 (λ e. omega arith)
      ∙ get_or-set_same four (n + 4) second 0 (simp length-set (omega arith))

  put_3 : get_or six (n + 3) 0 ≡ first
  put_3 =
      get_or-set_other five (n + symbol_column) (n + 3) symbol 0 (λ e. omega arith)
      ∙ get_or-set_other four (n + 4) (n + 3) second 0 (λ e. omega arith)
      ∙ get_or-set_same three (n + 3) first 0 (simp length-set (omega arith))

  put_2 : get_or six (n + 2) 0 ≡ detail
  put_2 =
      get_or-set_other five (n + symbol_column) (n + 2) symbol 0 (λ e. omega arith)
      ∙ get_or-set_other four (n + 4) (n + 2) second 0 (λ e. omega arith)
      ∙ get_or-set_other three (n + 3) (n + 2) first 0 (λ e. omega arith)
      ∙ get_or-set_same two (n + 2) detail 0 (simp length-set (omega arith))

  put_1 : get_or six (n + 1) 0 ≡ 0
  put_1 =
      get_or-set_other five (n + symbol_column) (n + 1) symbol 0 (λ e. omega arith)
      ∙ get_or-set_other four (n + 4) (n + 1) second 0 (λ e. omega arith)
      ∙ get_or-set_other three (n + 3) (n + 1) first 0 (λ e. omega arith)
      ∙ get_or-set_other two (n + 2) (n + 1) detail 0 (λ e. omega arith)
      ∙ get_or-set_same one (n + 1) 0 0 (simp length-set (omega arith))

  put_0 : get_or six (n + 0) 0 ≡ form
  put_0 =
      get_or-set_other five (n + symbol_column) (n + 0) symbol 0 (λ e. omega arith)
      ∙ get_or-set_other four (n + 4) (n + 0) second 0 (λ e. omega arith)
      ∙ get_or-set_other three (n + 3) (n + 0) first 0 (λ e. omega arith)
      ∙ get_or-set_other two (n + 2) (n + 0) detail 0 (λ e. omega arith)
      ∙ get_or-set_other one (n + 1) (n + 0) 0 0 (λ e. omega arith)
      ∙ subst (λ m. get_or one m 0 ≡ form) (let e : n ≡ n + 0 = omega arith in e) (get_or-set_same own n form 0 (omega arith))

  label_put : (a b c d : ℕ) → a ≡ form → b ≡ 0 → c ≡ detail → d ≡ symbol → ◌≡◌ {A = Label} (record { form = a; attributes = b; detail = c; symbol = d }) (label_with form detail symbol)
  label_put a b c d p q r s = rw (p, q, r, s)

stored_at : (own : List ℕ) (m form detail first second symbol : ℕ) → node_cells * m + node_cells ≤ length own → Stored own (put own (node_cells * m) form detail first second symbol) (suc m) m form detail first second symbol
unfolding cell_at label_at
stored_at own m form detail first second symbol l =
    record {
      fewer = omega arith;
      kept = λ j g. put_other own (node_cells * m) form detail first second symbol l j (λ z. omega arith);
      below = λ j g. put_other own (node_cells * m) form detail first second symbol l j (λ z. absurd (omega arith));
      same = length_put own (node_cells * m) form detail first second symbol l;
      labelled =
          label_put own (node_cells * m) form detail first second symbol l _ _ _ _ (put_0 own (node_cells * m) form detail first second symbol l) (put_1 own (node_cells * m) form detail first second symbol l) (put_2 own (node_cells * m) form detail first second symbol l) (put_5 own (node_cells * m) form detail first second symbol l);
      to_first = put_3 own (node_cells * m) form detail first second symbol l;
      to_second = put_4 own (node_cells * m) form detail first second symbol l;
    }

pub stored : (own : List ℕ) (free form detail first second symbol : ℕ) → 1 ≤ free → node_cells * free ≤ length own →
    Stored own (put own (node_cells * (free - 1)) form detail first second symbol) free (free - 1) form detail first second symbol
stored own zero form detail first second symbol h k = absurd (omega arith)
stored own (suc m) form detail first second symbol h k =
    subst (λ n. Stored own (put own (node_cells * n) form detail first second symbol) (suc m) n form detail first second symbol)
    (let e : m ≡ suc m - 1 = omega arith in e)
    (stored_at own m form detail first second symbol (omega arith))

-- ---- what waits in the first free nodes

module _ (own : List ℕ) (depth what one two least place : ℕ) (h : node_cells * depth + node_cells ≤ length own) where
  abbrev laid₁ : List ℕ
  laid₁ = set own (node_cells * depth) what

  abbrev laid₂ : List ℕ
  laid₂ = set laid₁ (node_cells * depth + 1) one

  abbrev laid₃ : List ℕ
  laid₃ = set laid₂ (node_cells * depth + 2) two

  abbrev laid₄ : List ℕ
  laid₄ = set laid₃ (node_cells * depth + 3) least

  abbrev laid₅ : List ℕ
  laid₅ = set laid₄ (node_cells * depth + 4) place

  laid_other : (j : ℕ) → (node_cells * depth ≤ j → node_cells * depth + node_cells ≤ j) → get_or laid₅ j 0 ≡ get_or own j 0
  laid_other j k =
      get_or-set_other laid₄ (node_cells * depth + 4) j place 0 (λ e. let q = k (omega arith) in omega arith)
      ∙ get_or-set_other laid₃ (node_cells * depth + 3) j least 0 (λ e. let q = k (omega arith) in omega arith)
      ∙ get_or-set_other laid₂ (node_cells * depth + 2) j two 0 (λ e. let q = k (omega arith) in omega arith)
      ∙ get_or-set_other laid₁ (node_cells * depth + 1) j one 0 (λ e. let q = k (omega arith) in omega arith)
      ∙ get_or-set_other own (node_cells * depth) j what 0 (λ e. let q = k (omega arith) in omega arith)

  pub laid : Laid own laid₅ depth what one two least place
  laid =
      record {
        same = simp length-set;
        before = λ j q. laid_other j (λ z. absurd (omega arith));
        behind = λ j q. laid_other j (λ z. q);
        what_is =
            get_or-set_other laid₄ (node_cells * depth + 4) (node_cells * depth) place 0 (λ e. omega arith)
            ∙ get_or-set_other laid₃ (node_cells * depth + 3) (node_cells * depth) least 0 (λ e. omega arith)
            ∙ get_or-set_other laid₂ (node_cells * depth + 2) (node_cells * depth) two 0 (λ e. omega arith)
            ∙ get_or-set_other laid₁ (node_cells * depth + 1) (node_cells * depth) one 0 (λ e. omega arith)
            ∙ get_or-set_same own (node_cells * depth) what 0 (omega arith);
        one_is =
            get_or-set_other laid₄ (node_cells * depth + 4) (node_cells * depth + 1) place 0 (λ e. omega arith)
            ∙ get_or-set_other laid₃ (node_cells * depth + 3) (node_cells * depth + 1) least 0 (λ e. omega arith)
            ∙ get_or-set_other laid₂ (node_cells * depth + 2) (node_cells * depth + 1) two 0 (λ e. omega arith)
            ∙ get_or-set_same laid₁ (node_cells * depth + 1) one 0 (simp length-set (omega arith));
        two_is =
            get_or-set_other laid₄ (node_cells * depth + 4) (node_cells * depth + 2) place 0 (λ e. omega arith)
            ∙ get_or-set_other laid₃ (node_cells * depth + 3) (node_cells * depth + 2) least 0 (λ e. omega arith)
            ∙ get_or-set_same laid₂ (node_cells * depth + 2) two 0 (simp length-set (omega arith));
        least_is =
            get_or-set_other laid₄ (node_cells * depth + 4) (node_cells * depth + 3) place 0 (λ e. omega arith)
            ∙ get_or-set_same laid₃ (node_cells * depth + 3) least 0 (simp length-set (omega arith));
        place_is = get_or-set_same laid₄ (node_cells * depth + 4) place 0 (simp length-set (omega arith));
      }

-- ---- what is placed stays

-- the cells of a node above the free ones
kept_cell : (own now : List ℕ) (free i k : ℕ) → Kept own now free → free < i → cell_at now i k ≡ cell_at own i k
unfolding cell_at
kept_cell own now free zero k h g = refl
kept_cell own now free (suc i) k h g = h (node_cells * i + k) (omega arith)

pub carried : (own now : List ℕ) (free low i : ℕ) (t : Tree) → Kept own now free → free ≤ low → Placed own low i t → Placed now low i t
unfolding label_at
carried own now free low i none h k p = p
carried own now free low i (node l a b) h k p =
    let cell : (n : ℕ) → cell_at now i n ≡ cell_at own i n = λ n. kept_cell own now free i n h (omega (arith, p.0)) in (
      p.0,
      p.1,
      rw (cell 0, cell 1, cell 2, cell symbol_column) p.2,
      subst (λ o. Placed now i o a) (sym (cell 3)) (carried own now free i _ a h (omega (arith, p.0)) p.3),
      subst (λ o. Placed now i o b) (sym (cell 4)) (carried own now free i _ b h (omega (arith, p.0)) p.4),
    )

pub lower : (own : List ℕ) (low to i : ℕ) (t : Tree) → to ≤ low → Placed own low i t → Placed own to i t
lower own low to i none h p = p
lower own low to i (node l a b) h p = (omega (arith, p.0), p.1, p.2, p.3, p.4)

-- a node whose operands are placed above it
pub placed : {own now : List ℕ} {free left form detail first second symbol : ℕ} (a b : Tree) (l : Label) → Stored own now free left form detail first second symbol → label_with form detail symbol ≡ l →
    free ≤ most_tokens → Placed own free first a → Placed own free second b → Placed now left (left + 1) (node l a b)
placed {own} {now} {free} {left} a b l s e h p q =
    subst (λ i. Placed now left i (node l a b)) (sym s.fewer) (
      omega (arith, s.fewer),
      h,
      s.labelled ∙ e,
      subst (λ o. Placed now free o a) (sym s.to_first) (carried own now free free _ a s.kept (omega arith) p),
      subst (λ o. Placed now free o b) (sym s.to_second) (carried own now free free _ b s.kept (omega arith) q),
    )

-- ---- the tree that the table stands for

placed_operand : (own : List ℕ) (low i : ℕ) (t : Tree) → Placed own low i t → tree_at own most_tokens (operand_of most_tokens low i) ≡ t
placed_operand own low i none p = rw (p, operand_zero most_tokens low) (tree_zero own most_tokens)
placed_operand own low i (node l a b) p =
    rw (operand_in most_tokens low i p.0 p.1)
    (unfolds own most_tokens i (omega (arith, p.0)) p.1
    ∙ rw (p.2, placed_operand own i (first_at own i) a p.3, placed_operand own i (second_at own i) b p.4))

pub placed_tree : (own : List ℕ) (low i : ℕ) (t : Tree) → 1 ≤ i → Placed own low i t → tree_at own most_tokens i ≡ t
placed_tree own low i none h p = absurd (omega arith)
placed_tree own low i (node l a b) h p =
    subst (λ o. tree_at own most_tokens o ≡ node l a b) (operand_in most_tokens low i p.0 p.1) (placed_operand own low i (node l a b) p)

-- ---- how far reading came

pub grew_none : (own : List ℕ) (at free to : ℕ) → at ≤ to → Grew own own at free to free
grew_none own at free to h = record { upto = h; room = omega arith; less = omega arith; kept = λ j k. refl; same = refl }

-- and tokens that have no node
pub grew_wider : {own now : List ℕ} {at free to left : ℕ} (at₂ to₂ : ℕ) → at₂ ≤ at → to ≤ to₂ → Grew own now at free to left → Grew own now at₂ free to₂ left
grew_wider at₂ to₂ h k g =
    record { upto = omega (arith, g.upto); room = omega (arith, g.room); less = g.less; kept = g.kept; same = g.same }

-- and a part more, perhaps with tokens between the two that have no node yet
pub grew_on : {own mid now : List ℕ} {at free to left at₂ to₂ left₂ : ℕ} (at₃ : ℕ) → at₃ + to ≤ at + at₂ → Grew own mid at free to left → Grew mid now at₂ left to₂ left₂ → Grew own now at₃ free to₂ left₂
grew_on at₃ h g k =
    record {
      upto = omega (arith, g.upto, k.upto);
      room = omega (arith, g.room, k.room);
      less = omega (arith, g.less, k.less);
      kept = λ j q. k.kept j (omega (arith, g.less)) ∙ g.kept j q;
      same = k.same ∙ g.same;
    }

-- and a node, for which a token of its own was read
pub grew_node : {own mid now : List ℕ} {at free to left : ℕ} {left₂ form detail first second symbol : ℕ} (at₂ to₂ : ℕ) → at₂ ≤ to₂ → at₂ + free + to + 1 ≤ to₂ + at + free → Grew own mid at free to left →
    Stored mid now left left₂ form detail first second symbol → Grew own now at₂ free to₂ left₂
grew_node at₂ to₂ h k g s =
    record {
      upto = h;
      room = omega (arith, g.room, s.fewer);
      less = omega (arith, g.less, s.fewer);
      kept = λ j q. s.kept j (omega (arith, g.less)) ∙ g.kept j q;
      same = s.same ∙ g.same;
    }
