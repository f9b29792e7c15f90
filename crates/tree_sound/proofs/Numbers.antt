-- A tree all of whose nodes keep 6, 7 and 9, numbered, breaks none of 6 to 9. Assumes nothing.
use mathlib.Core.Path.{◌≡◌, refl, sym, ap, ◌∙◌}
use mathlib.Core.Bool.{Bool, true, false, ◌||◌}
use mathlib.Core.List.{List, ◌++◌}
use mathlib.Core.Logic.{inl, inr}
use Prim.Native.Nat.{ℕ, zero, suc, ◌+◌, ◌-◌, ◌≤◌, ◌<◌}
use native.Mathlib.Omega.{arith}
use native.Mathlib.Decide.{dec_le, ℕ_discrete}
use lib.Dec.{eqb}
use borrow.Author.Tests.{eq-eqb, ne_eqb}
use Rattle.laws.specs.Choice.{pick}
use Rattle.laws.specs.Each.{some}
use Rattle.tree.specs.Table.{first_at, second_at}
use Rattle.tree.specs.Trees.{Label, Tree, none, node, label_at, tree_at}
use Rattle.tree_rules.specs.Refusals.{owners}
use Rattle.tree_numbering.specs.Numbered.{size, number_of, cells_from, numbered}
use Rattle.tree_numbering.proofs.Holds.{cell_held, Holds, Parts, parts, held}
use Rattle.tree_sound.proofs.Sound.{some_node}
use Rattle.tree_sound.proofs.Tables.{Stands, Ordered, node_at}

-- ---- tests over a range

pub none_some : (f : ℕ → Bool) (n : ℕ) → ((i : ℕ) → 1 ≤ i → i ≤ n → f i ≡ false) → some f n ≡ false
unfolding some
none_some f zero h = refl
none_some f (suc n) h = rw (none_some f n (λ i p q. h i p (omega arith)), h (suc n) (omega arith) (omega arith))

-- ---- the cells of a tree within a table

module _ (cells : List ℕ) where
  -- ---- operands stand after their owners

  number_stands : (t : Tree) (count i n : ℕ) → i < n → n + size t ≤ suc count → Stands count i (number_of t n)
  unfolding number_of size
  number_stands none count i n h k = inl refl
  number_stands (node l a b) count i n h k = inr (h, omega arith)

  pub record OrderedAt (count i : ℕ) : Type 0 where
    pub first_stands : Stands count i (first_at cells i)
    pub second_stands : Stands count i (second_at cells i)

  pub ordered_in : (t : Tree) (count j : ℕ) (rest : List ℕ) → j + size t ≤ count → Holds cells j t rest → (i : ℕ) → j < i → i ≤ j + size t → OrderedAt count i
  unfolding size
  ordered_in none count j rest h e i p q = absurd (omega arith)
  ordered_in (node l a b) count j rest h e i p q = go (parts cells j l a b rest e) (ℕ_discrete i (suc j)) (dec_le i (suc j + size a)) (λ x. ordered_in a count (suc j) _ (omega arith) x i) (λ x. ordered_in b count (suc j + size a) rest (omega arith) x i)
    where
      go : Parts cells j l a b rest → Dec (i ≡ suc j) → Dec (i ≤ suc j + size a)
          → (Holds cells (suc j) a (cells_from (suc (suc j + size a)) b ++ rest) → suc j < i → i ≤ suc j + size a → OrderedAt count i)
          → (Holds cells (suc j + size a) b rest → suc j + size a < i → i ≤ suc j + size a + size b → OrderedAt count i)
          → OrderedAt count i
      go r (yes z) d f g =
          rw z (record {
            first_stands = rw (cell_held cells j 3 _ r.own) (number_stands a count (suc j) (suc (suc j)) (omega arith) (omega arith));
            second_stands = rw (cell_held cells j 4 _ r.own) (number_stands b count (suc j) (suc (suc j) + size a) (omega arith) (omega arith));
          })
      go r (no z) (yes d) f g = f r.one (above z) d
        where
          above : (i ≡ suc j → ⊥) → suc j < i
          above n = go' (dec_le i (suc j))
            where
              go' : Dec (i ≤ suc j) → suc j < i
              go' (yes k) = absurd (n (omega arith))
              go' (no k) = omega arith
      go r (no z) (no d) f g = g r.two (omega arith) (omega arith)

  -- ---- a test at some node of the range is the test at some node of the tree

  or_four : (x p q r : Bool) → ((x || p) || q) || r ≡ x || (p || (q || r))
  or_four true p q r = refl
  or_four false true q r = refl
  or_four false false q r = refl

  module _ (count : ℕ) (ordered : Ordered cells count) (f : Label → Tree → Tree → Bool) (g : ℕ → Bool)
      (agree : (i : ℕ) → 1 ≤ i → i ≤ count → g i ≡ f (label_at cells i) (tree_at cells count (first_at cells i)) (tree_at cells count (second_at cells i))) where
    here : (j : ℕ) (l : Label) (a b : Tree) (rest : List ℕ) → j + size (node l a b) ≤ count → Holds cells j (node l a b) rest → g (suc j) ≡ f l a b
    unfolding size number_of
    here j l a b rest h e =
        let t = sym (node_at cells count ordered (suc j) (omega arith) (omega arith)) ∙ held cells (node l a b) count j rest h e in
        let x : label_at cells (suc j) ≡ l = cc in
        let y : tree_at cells count (first_at cells (suc j)) ≡ a = cc in
        let z : tree_at cells count (second_at cells (suc j)) ≡ b = cc in
        agree (suc j) (omega arith) (omega arith) ∙ rw (x, y, z)

    pub some_held : (t : Tree) (j : ℕ) (rest : List ℕ) → j + size t ≤ count → Holds cells j t rest → some g (j + size t) ≡ (some g j || some_node f t)
    unfolding size some some_node
    some_held none j rest h e = let z : j + 0 ≡ j = omega arith in rw z (or_none (some g j))
      where
        or_none : (x : Bool) → x ≡ (x || false)
        or_none true = refl
        or_none false = refl
    some_held (node l a b) j rest h e =
        let r = parts cells j l a b rest e in
        let s : j + suc (size a + size b) ≡ suc j + size a + size b = omega arith in
        let p = some_held a (suc j) _ (omega arith) r.one in
        let q = some_held b (suc j + size a) rest (omega arith) r.two in
        rw s (q ∙ rw (p, here j l a b rest h e) (or_four (some g j) (f l a b) (some_node f a) (some_node f b)))

  -- ---- each number of the range but the first is once an operand

  -- 1 where o is m, and where m is above lo and at most hi
  unfoldable pub same : ℕ → ℕ → ℕ
  same o m = pick (eqb o m) 1 0

  unfoldable pub inside : ℕ → ℕ → ℕ → ℕ
  inside lo hi m = (1 - (1 - (m - lo))) - (m - hi)

  pub within : (lo hi m : ℕ) → lo < m → m ≤ hi → inside lo hi m ≡ 1
  unfolding inside
  within lo hi m h k = omega arith

  before : (lo hi m : ℕ) → m ≤ lo → inside lo hi m ≡ 0
  unfolding inside
  before lo hi m h = omega arith

  past : (lo hi m : ℕ) → hi < m → inside lo hi m ≡ 0
  unfolding inside
  past lo hi m h = omega arith

  nothing : (j m : ℕ) → inside (suc j) j m ≡ 0
  unfolding inside
  nothing j m = omega arith

  is_same : (m : ℕ) → same m m ≡ 1
  unfolding same pick
  is_same m = rw (eq-eqb m m refl)

  not_same : (o m : ℕ) → (o ≡ m → ⊥) → same o m ≡ 0
  unfolding same pick
  not_same o m n = rw (ne_eqb o m n)

  -- an operand's own number, and then the nodes below it
  one_more : (t : Tree) (n m : ℕ) → 1 ≤ m → same (number_of t (suc n)) m + inside (suc n) (n + size t) m ≡ inside n (n + size t) m
  unfolding number_of size
  one_more none n m h = go (dec_le m n)
    where
      go : Dec (m ≤ n) → same 0 m + inside (suc n) (n + 0) m ≡ inside n (n + 0) m
      go (yes k) = let x = not_same 0 m (λ e. omega arith) in let y = before (suc n) (n + 0) m (omega arith) in let z = before n (n + 0) m k in omega arith
      go (no k) = let x = not_same 0 m (λ e. omega arith) in let y = past (suc n) (n + 0) m (omega arith) in let z = past n (n + 0) m (omega arith) in omega arith
  one_more (node l a b) n m h = go (dec_le m n) (dec_le m (suc n)) (dec_le m (n + suc (size a + size b)))
    where
      go : Dec (m ≤ n) → Dec (m ≤ suc n) → Dec (m ≤ n + suc (size a + size b)) → same (suc n) m + inside (suc n) (n + suc (size a + size b)) m ≡ inside n (n + suc (size a + size b)) m
      go (yes k) d e = let x = not_same (suc n) m (λ e. omega arith) in let y = before (suc n) (n + suc (size a + size b)) m (omega arith) in let z = before n (n + suc (size a + size b)) m k in omega arith
      go (no k) (yes d) e =
          let q : m ≡ suc n = omega arith in
          let x = is_same (suc n) in
          let y = before (suc n) (n + suc (size a + size b)) (suc n) (omega arith) in
          let z = within n (n + suc (size a + size b)) (suc n) (omega arith) (omega arith) in
          rw q (omega arith)
      go (no k) (no d) (yes e) = let x = not_same (suc n) m (λ e. omega arith) in let y = within (suc n) (n + suc (size a + size b)) m (omega arith) e in let z = within n (n + suc (size a + size b)) m (omega arith) e in omega arith
      go (no k) (no d) (no e) = let x = not_same (suc n) m (λ e. omega arith) in let y = past (suc n) (n + suc (size a + size b)) m (omega arith) in let z = past n (n + suc (size a + size b)) m (omega arith) in omega arith

  joined : (lo mid hi m : ℕ) → lo ≤ mid → mid ≤ hi → inside lo mid m + inside mid hi m ≡ inside lo hi m
  joined lo mid hi m h k = go (dec_le m lo) (dec_le m mid) (dec_le m hi)
    where
      go : Dec (m ≤ lo) → Dec (m ≤ mid) → Dec (m ≤ hi) → inside lo mid m + inside mid hi m ≡ inside lo hi m
      go (yes a) d e = let x = before lo mid m a in let y = before mid hi m (omega arith) in let z = before lo hi m a in omega arith
      go (no a) (yes d) e = let x = within lo mid m (omega arith) d in let y = before mid hi m d in let z = within lo hi m (omega arith) (omega arith) in omega arith
      go (no a) (no d) (yes e) = let x = past lo mid m (omega arith) in let y = within mid hi m (omega arith) e in let z = within lo hi m (omega arith) e in omega arith
      go (no a) (no d) (no e) = let x = past lo mid m (omega arith) in let y = past mid hi m (omega arith) in let z = past lo hi m (omega arith) in omega arith

  pub owners_held : (t : Tree) (j m : ℕ) (rest : List ℕ) → 1 ≤ m → Holds cells j t rest → owners cells (j + size t) m ≡ owners cells j m + inside (suc j) (j + size t) m
  unfolding size owners same
  owners_held none j m rest h e = let z : j + 0 ≡ j = omega arith in let n = nothing j m in rw z (omega arith)
  owners_held (node l a b) j m rest h e =
      let r = parts cells j l a b rest e in
      let s : j + suc (size a + size b) ≡ suc j + size a + size b = omega arith in
      let p = owners_held a (suc j) m _ h r.one in
      let q = owners_held b (suc j + size a) m rest h r.two in
      let c3 = cell_held cells j 3 _ r.own in
      let c4 = cell_held cells j 4 _ r.own ∙ ap (number_of b) shift in
      let x = one_more a (suc j) m h in
      let y = one_more b (suc j + size a) m h in
      let u = joined (suc j) (suc j + size a) (suc j + size a + size b) m (omega arith) (omega arith) in
      let o : owners cells (suc j) m ≡ owners cells j m + same (number_of a (suc (suc j))) m + same (number_of b (suc (suc j + size a))) m = rw (c3, c4) in
      rw s (omega arith)
    where
      shift : suc (suc j) + size a ≡ suc (suc j + size a)
      shift = omega arith
