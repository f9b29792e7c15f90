-- An accepted table whose operands have the numbers that they are to have holds its numbered tree. Assumes nothing.
use mathlib.Core.Path.{◌≡◌, refl, sym, ap, ◌∙◌}
use mathlib.Core.Bool.{true, false}
use mathlib.Core.List.{List, [], ◌∷◌, ◌++◌, append_assoc}
use Prim.Native.Nat.{ℕ, zero, suc, ◌+◌, ◌*◌, ◌-◌, ◌≤◌, ◌<◌}
use native.Mathlib.Omega.{arith}
use native.Mathlib.Decide.{dec_le}
use lib.Dec.{eqb}
use lib.ListN.{length, get_or, take, drop, length-drop}
use lib.Seq.{take_at, take-add, drop-drop, drop-append-add, get_or-drop, sets, length-take-le}
use borrow.Author.Tests.{ne_eqb}
use Rattle.laws.specs.Choice.{pick}
use Rattle.laws.specs.Lists.{over}
use Rattle.laws.proofs.Choice.{true_not_false}
use Rattle.laws.proofs.Lists.{sets_append, sets_over}
use Rattle.tree.specs.Sizes.{node_cells}
use Rattle.tree.specs.Table.{cell_at, form_at, attributes_at, detail_at, first_at, second_at, symbol_at}
use Rattle.tree.specs.Trees.{Tree, label_at, tree_at}
use Rattle.tree.proofs.Unfold.{tree_zero}
use Rattle.tree_rules.specs.Refusals.{Accepted}
use Rattle.tree_rules.proofs.Accepted.{count_bounds}
use Rattle.tree_numbering.specs.Numbered.{size, number_of, cells_from, numbered}
use Rattle.tree_numbering.specs.Passes.{Copied}
use Rattle.tree_numbering.proofs.Holds.{length_numbered, Holds}
use Rattle.tree_numbering.proofs.Sizes.{size_accepted}
use Rattle.tree_numbering.proofs.Owners.{node_tree, number_first, number_second, each_owner}

-- ---- the six cells of a node

six : (xs : List ℕ) → node_cells ≤ length xs → xs ≡ get_or xs 0 0 ∷ get_or xs 1 0 ∷ get_or xs 2 0 ∷ get_or xs 3 0 ∷ get_or xs 4 0 ∷ get_or xs 5 0 ∷ drop node_cells xs
six [] h = absurd (omega arith)
six (a ∷ []) h = absurd (omega arith)
six (a ∷ b ∷ []) h = absurd (omega arith)
six (a ∷ b ∷ c ∷ []) h = absurd (omega arith)
six (a ∷ b ∷ c ∷ d ∷ []) h = absurd (omega arith)
six (a ∷ b ∷ c ∷ d ∷ e ∷ []) h = absurd (omega arith)
six (a ∷ b ∷ c ∷ d ∷ e ∷ f ∷ xs) h = refl

module _ (cells : List ℕ) (j : ℕ) (fits : node_cells * suc j ≤ length cells) where
  own_cells : drop (node_cells * j) cells ≡ form_at cells (suc j) ∷ attributes_at cells (suc j) ∷ detail_at cells (suc j) ∷ first_at cells (suc j) ∷ second_at cells (suc j) ∷ symbol_at cells (suc j) ∷ drop (node_cells * suc j) cells
  unfolding cell_at
  own_cells =
      let s : node_cells * j + node_cells ≡ node_cells * suc j = omega arith in
      six (drop (node_cells * j) cells) (simp length-drop (omega arith))
      ∙ rw (get_or-drop (node_cells * j) cells 0 0, get_or-drop (node_cells * j) cells 1 0, get_or-drop (node_cells * j) cells 2 0, get_or-drop (node_cells * j) cells 3 0, get_or-drop (node_cells * j) cells 4 0, get_or-drop (node_cells * j) cells 5 0, drop-drop node_cells (node_cells * j) cells, s)

  take_node : take (node_cells * suc j) cells ≡ take (node_cells * j) cells ++ (form_at cells (suc j) ∷ attributes_at cells (suc j) ∷ detail_at cells (suc j) ∷ first_at cells (suc j) ∷ second_at cells (suc j) ∷ symbol_at cells (suc j) ∷ [])
  take_node =
      let s : node_cells * suc j ≡ node_cells * j + node_cells = omega arith in
      rw s (take-add (node_cells * j) node_cells cells ∙ rw own_cells)

-- ---- what the copy keeps

-- a node's operands have their numbers
pub record InOrder (count : ℕ) (cells : List ℕ) (i : ℕ) : Type 0 where
  pub one : pick (eqb (first_at cells i) 0) 0 (suc i) ≡ first_at cells i
  pub two : pick (eqb (second_at cells i) 0) 0 (suc (i + size (tree_at cells count (first_at cells i)))) ≡ second_at cells i

-- the first n nodes are stored, and their operands have their numbers
pub record Copying (count : ℕ) (cells : List ℕ) (n : ℕ) (before after : List ℕ) : Type 0 where
  pub stored : after ≡ sets before 0 (take (node_cells * n) cells)
  pub ordered : (i : ℕ) → 1 ≤ i → i ≤ n → InOrder count cells i

pub copy_none : (count : ℕ) (cells before : List ℕ) → Copying count cells 0 before before
copy_none count cells before = record { stored = refl; ordered = λ i p q. absurd (omega arith) }

drop_over : (new old : List ℕ) (k : ℕ) → drop (length new + k) (over new old) ≡ drop (length new + k) old
unfolding over
drop_over new old k = drop-append-add new (drop (length new) old) k ∙ drop-drop k (length new) old

module _ (context count : ℕ) (cells : List ℕ) (ok : Accepted context count cells) where
  -- ---- the whole table

  -- the cells of a node's tree follow each other
  abbrev Run : ℕ → Type 0
  Run zero = Unit {0}
  Run (suc j) = Holds cells j (tree_at cells count (suc j)) (drop (node_cells * (j + size (tree_at cells count (suc j)))) cells)

  run_operand : (o n : ℕ) → pick (eqb o 0) 0 (suc n) ≡ o → (1 ≤ o → Run o) → Holds cells n (tree_at cells count o) (drop (node_cells * (n + size (tree_at cells count o))) cells)
  unfolding pick size cells_from
  run_operand zero n e r = let z : n + 0 ≡ n = omega arith in rw (tree_zero cells count, z)
  run_operand (suc o) n e r =
      let s : suc n ≡ suc o = rw (ne_eqb (suc o) 0 (λ z. omega arith)) at e in
      let z : n ≡ o = omega arith in
      rw z (r (omega arith))

  -- the cells of two operands, one after the other
  both : (j : ℕ) (a b : Tree) → Holds cells (suc j) a (drop (node_cells * (suc j + size a)) cells) → Holds cells (suc j + size a) b (drop (node_cells * (suc j + size a + size b)) cells)
      → drop (node_cells * suc j) cells ≡ (cells_from (suc (suc j)) a ++ cells_from (suc (suc j) + size a) b) ++ drop (node_cells * (j + suc (size a + size b))) cells
  both j a b p q =
      let e : suc (suc j) + size a ≡ suc (suc j + size a) = omega arith in
      let g : j + suc (size a + size b) ≡ suc j + size a + size b = omega arith in
      rw (e, g, append_assoc, ← q) p

  run_node : ((i : ℕ) → 1 ≤ i → i ≤ count → InOrder count cells i) → (i : ℕ) → 1 ≤ i → i ≤ count → (1 ≤ first_at cells i → Run (first_at cells i)) → (1 ≤ second_at cells i → Run (second_at cells i)) → Run i
  unfolding size cells_from label_at
  run_node h zero low high f s = tt
  run_node h (suc j) low high f s =
      let k = count_bounds context count cells ok in
      let o = h (suc j) low high in
      let a = tree_at cells count (first_at cells (suc j)) in
      let b = tree_at cells count (second_at cells (suc j)) in
      let e : suc (suc j) + size a ≡ suc (suc j + size a) = omega arith in
      let nf : number_of a (suc (suc j)) ≡ first_at cells (suc j) = sym (number_first context count cells ok (suc j) low high (suc (suc j))) ∙ o.one in
      let ns : number_of b (suc (suc j) + size a) ≡ second_at cells (suc j) = ap (number_of b) e ∙ sym (number_second context count cells ok (suc j) low high (suc (suc j + size a))) ∙ o.two in
      let r = both j a b (run_operand (first_at cells (suc j)) (suc j) o.one f) (run_operand (second_at cells (suc j)) (suc j + size a) o.two s) in
      own_cells cells j (omega arith) ∙ rw (node_tree context count cells ok (suc j) low high, nf, ns, ← r)

  all_in_order : ((i : ℕ) → 1 ≤ i → i ≤ count → InOrder count cells i) → take (node_cells * count) cells ≡ numbered (tree_at cells count 1)
  unfolding numbered
  all_in_order h =
      let k = count_bounds context count cells ok in
      let s = size_accepted context count cells ok in
      let l = length_numbered (tree_at cells count 1) in
      let r : Run 1 = each_owner context count cells ok Run (run_node h) 1 (omega arith) k.0 in
      ap (take (node_cells * count)) r ∙ take_at _ _ (node_cells * count) (omega arith)

  -- ---- the copy

  module _ (n : ℕ) (before after : List ℕ) (c : Copying count cells n before after) (room : node_cells * count ≤ length before) where
    copied_rest : n ≤ count → drop (node_cells * count) after ≡ drop (node_cells * count) before
    copied_rest h =
        let k = count_bounds context count cells ok in
        let l = length-take-le (node_cells * n) cells (omega arith) in
        let e : length (take (node_cells * n) cells) + node_cells * (count - n) ≡ node_cells * count = omega arith in
        rw (c.stored, sets_over (take (node_cells * n) cells) before (omega arith)) (rw e at (drop_over (take (node_cells * n) cells) before (node_cells * (count - n))))

    pub copy_stopped : n ≤ count → Copied cells count before after false
    copy_stopped h = record { rest = copied_rest h; whole = λ e. true_not_false (sym e) }

    pub copy_whole : n ≡ count → Copied cells count before after true
    copy_whole z =
        let s = size_accepted context count cells ok in
        let l = length_numbered (tree_at cells count 1) in
        record {
          rest = copied_rest (omega arith);
          whole = λ _. c.stored ∙ rw (z, all_in_order (λ i p q. c.ordered i p (omega arith))) (sets_over (numbered (tree_at cells count 1)) before (omega arith));
        }

    -- one node more
    pub copy_more : n < count → (first second : ℕ) → first ≡ first_at cells (suc n) → second ≡ second_at cells (suc n) → (span : ℕ) → span ≡ size (tree_at cells count (first_at cells (suc n)))
        → (x : ℕ) → x ≡ pick (eqb first 0) 0 (suc (n + 1)) → x ≡ first → (y : ℕ) → y ≡ pick (eqb second 0) 0 (suc (n + 1 + span)) → y ≡ second
        → (last : List ℕ) → last ≡ sets after (node_cells * n) (form_at cells (n + 1) ∷ attributes_at cells (n + 1) ∷ detail_at cells (n + 1) ∷ first ∷ second ∷ symbol_at cells (n + 1) ∷ [])
        → Copying count cells (n + 1) before last
    copy_more h first second ef es span ep x ex xf y ey ys last e =
        let k = count_bounds context count cells ok in
        let l = length-take-le (node_cells * n) cells (omega arith) in
        let z : n + 1 ≡ suc n = omega arith in
        let w : last ≡ sets after (node_cells * n) (form_at cells (suc n) ∷ attributes_at cells (suc n) ∷ detail_at cells (suc n) ∷ first_at cells (suc n) ∷ second_at cells (suc n) ∷ symbol_at cells (suc n) ∷ []) = rw (z, ef, es) at e in
        let u : InOrder count cells (suc n) = record { one = rw (z, ef) at (sym ex ∙ xf); two = rw (z, es, ep) at (sym ey ∙ ys) } in
        rw z
        (record {
          stored = w ∙ rw (c.stored, take_node cells n (omega arith)) (sym (sets_append (take (node_cells * n) cells) _ before 0 (node_cells * n) (omega arith)));
          ordered = λ i p q. each u i p q (dec_le i n);
        })
      where
        each : InOrder count cells (suc n) → (i : ℕ) → 1 ≤ i → i ≤ suc n → Dec (i ≤ n) → InOrder count cells i
        each u i p q (yes d) = c.ordered i p d
        each u i p q (no d) = let z : i ≡ suc n = omega arith in rw z u
