-- What follows from a table with no refusal: the facts that later crates cite. Assumes nothing.
use mathlib.Core.Path.{◌≡◌, refl, sym, ap, ◌∙◌}
use mathlib.Core.Bool.{Bool, true, false, not, ◌&&◌, ◌||◌}
use mathlib.Core.List.{List, [], ◌∷◌}
use mathlib.Core.Logic.{◌⊎◌, inl, inr, ⊎_elim}
use Prim.Native.Nat.{ℕ, zero, suc, ◌+◌, ◌*◌, ◌≤◌, ◌<◌}
use native.Mathlib.Omega.{arith}
use native.Mathlib.Decide.{dec_le, ℕ_discrete}
use lib.Dec.{eqb, ltb, leb}
use lib.ListN.{length}
use borrow.Author.Tests.{eqb-true, eqb-false, ltb-false, leb-true, leb-false, le-leb, eq-eqb, ne_eqb, not-false, not-true}
use Rattle.laws.specs.Choice.{pick}
use Rattle.laws.specs.Each.{some}
use Rattle.laws.proofs.Choice.{pick_true, true_not_false, and_true, or_false}
use Rattle.laws.proofs.Each.{some_none}
use Rattle.tree.specs.Sizes.{node_cells, most_nodes, most_levels}
use Rattle.tree_places.specs.declared.place.Place.{Place}
use Rattle.tree_places.specs.declared.place.Place.TheVariants.{Nothing, Required, Optional, List as ListOf, Item, Next}
use Rattle.tree.specs.Forms.{expr_block, expr_closure, an_expression, a_type, a_link, allowed}
use Rattle.tree.specs.Table.{cell_at, form_at, attributes_at, detail_at, first_at, second_at, symbol_at, class_at, first_column, second_column}
use Rattle.tree.specs.Trees.{operand_of, operand_at, tree_at, levels}
use Rattle.tree_places.specs.Places.{first_place, second_place, wrong_class, wrong_list, wrong_item, wrong_next, wrong_at, bad_operands}
use Rattle.tree_places.specs.Steps.{is_required, wrong_present}
use Rattle.tree_places.proofs.Places.{wrong_absent, wrong_present_lem}
use Rattle.tree_rules.specs.Refusals.{refusal3, refusal4, refusal6, refusal7, refusal8, refusal9, refusal10, refusal11, bad_numbers, misplaced, bad_order, owners, bad_owner, empty, plain_block, bad_output, Refusal, refuse, first_of, node_refusals, refusal, Accepted}
use Rattle.tree_rules.proofs.Count.{count_fits}
use Rattle.tree_rules.proofs.First.{passed}
use Rattle.tree_rules.proofs.Owned.{OwnedOnce, owned_once}
use Rattle.tree.proofs.Unfold.{operand_in, operand_zero}

-- ---- no refusal applies

record Passes (context count : ℕ) (cells : List ℕ) : Type 0 where
  not3 : refusal3 context ≡ false
  not4 : refusal4 count (length cells) ≡ false
  not6 : refusal6 cells count ≡ false
  not7 : refusal7 cells count ≡ false
  not8 : refusal8 cells count ≡ false
  not9 : refusal9 cells count ≡ false
  not10 : refusal10 cells count ≡ false
  not11 : refusal11 cells count ≡ false

passes : (context count : ℕ) (cells : List ℕ) → Accepted context count cells → Passes context count cells
unfolding refusal node_refusals
passes context count cells ok =
    let r3 = passed 3 _ _ (omega arith) ok in
    let r4 = passed 4 _ _ (omega arith) r3.1 in
    let r6 = passed 6 _ _ (omega arith) r4.1 in
    let r7 = passed 7 _ _ (omega arith) r6.1 in
    let r8 = passed 8 _ _ (omega arith) r7.1 in
    let r9 = passed 9 _ _ (omega arith) r8.1 in
    let r10 = passed 10 _ _ (omega arith) r9.1 in
    let r11 = passed 11 _ _ (omega arith) r10.1 in
    record { not3 = r3.0; not4 = r4.0; not6 = r6.0; not7 = r7.0; not8 = r8.0; not9 = r9.0; not10 = r10.0; not11 = r11.0 }

-- ---- operands and their places

-- o is absent at a place of node i, or after i, within the count and of the class that the place asks for
abbrev pub Within : ℕ → ℕ → ℕ → Type 0
Within count i o = (i < o) × (o ≤ count)

-- what stands at a place of node i
abbrev pub Fits : List ℕ → ℕ → ℕ → Place → ℕ → Type 0
Fits cells count i Nothing o = o ≡ 0
Fits cells count i (Required class) o = Within count i o × (class_at cells o ≡ class)
Fits cells count i (Optional class) o = (o ≡ 0) ⊎ (Within count i o × (class_at cells o ≡ class))
Fits cells count i (ListOf class) o = (o ≡ 0) ⊎ (Within count i o × (class_at cells o ≡ a_link) × (class_at cells (first_at cells o) ≡ class))
Fits cells count i Item o = Within count i o × ((class_at cells o ≡ an_expression) ⊎ (class_at cells o ≡ a_type))
Fits cells count i Next o = (o ≡ 0) ⊎ (Within count i o × (class_at cells o ≡ a_link) × (class_at cells (first_at cells o) ≡ class_at cells (first_at cells i)))

-- an operand that is not misplaced and not absent
placed : (count i o : ℕ) → misplaced count i o ≡ false → (o ≡ 0 → ⊥) → Within count i o
unfolding misplaced
placed count i o e h =
    let d = or_false (leb o i) (ltb count o) (rw (ne_eqb o 0 h) at e) in
    (leb-false o i d.0, ltb-false count o d.1)

not_misplaced : (count i o : ℕ) → misplaced count i o ≡ false → (o ≡ 0) ⊎ Within count i o
not_misplaced count i o e = go (ℕ_discrete o 0)
  where
    go : Dec (o ≡ 0) → (o ≡ 0) ⊎ Within count i o
    go (yes z) = inl z
    go (no z) = inr (placed count i o e z)

-- ---- classes

module _ (cells : List ℕ) (count : ℕ) where
  right_class : (class o : ℕ) → o ≤ count → wrong_class cells count class o ≡ false → class_at cells o ≡ class
  unfolding wrong_class
  right_class class o h e = eqb-true (class_at cells o) class (not-false _ (rw (le-leb o count h) at e))

  -- a link whose item is of the class
  right_list : (class o : ℕ) → o ≤ count → first_at cells o ≤ count → wrong_list cells count class o ≡ false → (class_at cells o ≡ a_link) × (class_at cells (first_at cells o) ≡ class)
  unfolding wrong_list
  right_list class o h k e =
      let d = or_false (not (eqb (class_at cells o) a_link)) (wrong_class cells count class (first_at cells o)) (rw (le-leb o count h) at e) in
      (eqb-true (class_at cells o) a_link (not-false _ d.0), right_class class (first_at cells o) k d.1)

  right_item : (o : ℕ) → o ≤ count → wrong_item cells count o ≡ false → (class_at cells o ≡ an_expression) ⊎ (class_at cells o ≡ a_type)
  unfolding wrong_item
  right_item o h e = go (wrong_class cells count an_expression o) refl
    where
      go : (b : Bool) → wrong_class cells count an_expression o ≡ b → (class_at cells o ≡ an_expression) ⊎ (class_at cells o ≡ a_type)
      go true p = inr (right_class a_type o h (rw p at e))
      go false p = inl (right_class an_expression o h p)

  right_next : (i o : ℕ) → first_at cells i ≤ count → o ≤ count → first_at cells o ≤ count → wrong_next cells count (first_at cells i) o ≡ false
      → (class_at cells o ≡ a_link) × (class_at cells (first_at cells o) ≡ class_at cells (first_at cells i))
  unfolding wrong_next
  right_next i o h k l e =
      right_list (class_at cells (first_at cells i)) o k l (sym (pick_true _ _ (le-leb (first_at cells i) count h)) ∙ e)

-- ---- the facts of an accepted table

module _ (context count : ℕ) (cells : List ℕ) (ok : Accepted context count cells) where
  pub context_most : context ≤ 3
  unfolding refusal3
  context_most = ltb-false 3 context (passes context count cells ok).not3

  -- at least one node, at most 4,096, all of them in the table
  pub count_bounds : (1 ≤ count) × (count ≤ most_nodes) × (node_cells * count ≤ length cells)
  count_bounds = count_fits count (length cells) (passes context count cells ok).not4

  -- node 1 is an expression
  pub root_expression : class_at cells 1 ≡ an_expression
  unfolding refusal7
  root_expression = eqb-true (class_at cells 1) an_expression (not-false _ (or_false _ _ (passes context count cells ok).not7).0)

  -- no path from node 1 holds more than 128 nodes
  pub levels_bound : levels (tree_at cells count 1) ≤ most_levels
  unfolding refusal11
  levels_bound = ltb-false most_levels (levels (tree_at cells count 1)) (passes context count cells ok).not11

  module _ (i : ℕ) (low : 1 ≤ i) (high : i ≤ count) where
    pub numbers_allowed : allowed (form_at cells i) (attributes_at cells i) (detail_at cells i) (symbol_at cells i) ≡ true
    unfolding refusal6 bad_numbers
    numbers_allowed = not-false _ (some_none (bad_numbers cells) count (passes context count cells ok).not6 i low high)

    operands_right : bad_operands cells count i ≡ false
    unfolding refusal7
    operands_right = some_none (bad_operands cells count) count (or_false (not (eqb (class_at cells 1) an_expression)) _ (passes context count cells ok).not7).1 i low high

    order_right : bad_order cells count i ≡ false
    unfolding refusal8
    order_right = some_none (bad_order cells count) count (or_false _ _ (passes context count cells ok).not8).0 i low high

    -- a path type has a segment, bounds are not empty
    pub not_empty : empty cells i ≡ false
    unfolding refusal9
    not_empty = some_none (empty cells) count (passes context count cells ok).not9 i low high

    first_placed : misplaced count i (first_at cells i) ≡ false
    unfolding bad_order
    first_placed = (or_false _ _ order_right).0

    second_placed : misplaced count i (second_at cells i) ≡ false
    unfolding bad_order
    second_placed = (or_false (misplaced count i (first_at cells i)) _ order_right).1

    -- a number at an operand's place is 0, or a node after this one
    pub first_standing : (first_at cells i ≡ 0) ⊎ Within count i (first_at cells i)
    first_standing = not_misplaced count i (first_at cells i) first_placed

    pub second_standing : (second_at cells i ≡ 0) ⊎ Within count i (second_at cells i)
    second_standing = not_misplaced count i (second_at cells i) second_placed

    pub first_most : first_at cells i ≤ count
    first_most = ⊎_elim (λ z. omega arith) (λ w. w.1) first_standing

    pub second_most : second_at cells i ≤ count
    second_most = ⊎_elim (λ z. omega arith) (λ w. w.1) second_standing

    -- a closure with a written output has a plain block for its body
    pub output_block : form_at cells i ≡ expr_closure → detail_at cells i ≡ 1
        → (form_at cells (first_at cells i) ≡ expr_block) × (attributes_at cells (first_at cells i) ≡ 0) × (detail_at cells (first_at cells i) ≡ 0)
    unfolding refusal10 bad_output plain_block
    output_block f d =
        let b = some_none (bad_output cells) count (passes context count cells ok).not10 i low high in
        let p = not-false _ (rw (eq-eqb _ _ f, eq-eqb _ _ d) at b) in
        let q = and_true (eqb (form_at cells (first_at cells i)) expr_block) _ p in
        let r = and_true (eqb (attributes_at cells (first_at cells i)) 0) _ q.1 in
        (eqb-true _ _ q.0, eqb-true _ _ r.0, eqb-true _ _ r.1)

  -- what stands at a place fits it
  module _ (i : ℕ) (low : 1 ≤ i) (high : i ≤ count) (o : ℕ) (in_order : misplaced count i o ≡ false) where
    absent_fits : (place : Place) → o ≡ 0 → is_required place ≡ false → Fits cells count i place o
    unfolding is_required
    absent_fits Nothing z e = z
    absent_fits (Required class) z e = true_not_false e
    absent_fits (Optional class) z e = inl z
    absent_fits (ListOf class) z e = inl z
    absent_fits Item z e = true_not_false e
    absent_fits Next z e = inl z

    present_fits : (place : Place) → Within count i o → wrong_present cells count (first_at cells i) place o ≡ false → Fits cells count i place o
    unfolding wrong_present
    present_fits Nothing w e = true_not_false e
    present_fits (Required class) w e = (w, right_class cells count class o w.1 e)
    present_fits (Optional class) w e = inr (w, right_class cells count class o w.1 e)
    present_fits (ListOf class) w e = let r = right_list cells count class o w.1 (first_most o (omega arith) w.1) e in inr (w, r.0, r.1)
    present_fits Item w e = (w, right_item cells count o w.1 e)
    present_fits Next w e = let r = right_next cells count i o (first_most i low high) w.1 (first_most o (omega arith) w.1) e in inr (w, r.0, r.1)

    fits : (place : Place) → wrong_at cells count (first_at cells i) place o ≡ false → Fits cells count i place o
    fits place e = go (ℕ_discrete o 0)
      where
        go : Dec (o ≡ 0) → Fits cells count i place o
        go (yes z) = absent_fits place z (sym (wrong_absent cells count (first_at cells i) place o z) ∙ e)
        go (no z) = present_fits place (placed count i o in_order z) (sym (wrong_present_lem cells count (first_at cells i) place o z) ∙ e)

  -- operands are present exactly where their form has them, and of the right class
  pub first_fits : (i : ℕ) → 1 ≤ i → i ≤ count → Fits cells count i (first_place (form_at cells i) (detail_at cells i)) (first_at cells i)
  unfolding bad_operands
  first_fits i low high = fits i low high (first_at cells i) (first_placed i low high) _ (or_false _ _ (operands_right i low high)).0

  pub second_fits : (i : ℕ) → 1 ≤ i → i ≤ count → Fits cells count i (second_place (form_at cells i) (detail_at cells i)) (second_at cells i)
  unfolding bad_operands
  second_fits i low high = fits i low high (second_at cells i) (second_placed i low high) _ (or_false (wrong_at cells count (first_at cells i) (first_place (form_at cells i) (detail_at cells i)) (first_at cells i)) _ (operands_right i low high)).1

  -- the tree's operands are the table's numbers
  standing_operand : (i o : ℕ) → (o ≡ 0) ⊎ Within count i o → operand_of count i o ≡ o
  standing_operand i o (inl z) = rw z (operand_zero count i)
  standing_operand i o (inr w) = operand_in count i o w.0 w.1

  pub first_operand : (i : ℕ) → 1 ≤ i → i ≤ count → operand_at cells count i first_column ≡ first_at cells i
  first_operand i low high = standing_operand i (first_at cells i) (first_standing i low high)

  pub second_operand : (i : ℕ) → 1 ≤ i → i ≤ count → operand_at cells count i second_column ≡ second_at cells i
  second_operand i low high = standing_operand i (second_at cells i) (second_standing i low high)

  -- each node but 1 is counted once as an operand
  pub counted_once : (j : ℕ) → 2 ≤ j → j ≤ count → owners cells count j ≡ 1
  unfolding refusal8 bad_owner
  counted_once j low high =
      let b = some_none (bad_owner cells count) count (or_false (some (bad_order cells count) count) _ (passes context count cells ok).not8).1 j (omega arith) high in
      eqb-true (owners cells count j) 1 (not-false _ (rw (ne_eqb j 1 (λ e. omega arith)) at b))

  -- so it has exactly one owner, at one place
  pub one_owner : (j : ℕ) → 2 ≤ j → j ≤ count → OwnedOnce cells count j
  one_owner j low high = owned_once cells j count (counted_once j low high)

  -- and that owner's number is smaller
  pub owner_smaller : (j : ℕ) (o : OwnedOnce cells count j) → 2 ≤ j → o.owner < j
  owner_smaller j o low = go o.place o.is_place o.owns
    where
      stands : (x : ℕ) → x ≡ j → (x ≡ 0) ⊎ Within count o.owner x → o.owner < j
      stands x e (inl z) = absurd (omega arith)
      stands x e (inr w) = let l = w.0 in omega arith

      go : (k : ℕ) → (k ≡ first_column) ⊎ (k ≡ second_column) → cell_at cells o.owner k ≡ j → o.owner < j
      go k (inl e) h = stands (first_at cells o.owner) (rw e at h) (first_standing o.owner o.owner_low o.owner_high)
      go k (inr e) h = stands (second_at cells o.owner) (rw e at h) (second_standing o.owner o.owner_low o.owner_high)
