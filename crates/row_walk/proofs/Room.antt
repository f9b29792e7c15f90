-- The walk of an accepted table needs at most 128 entries. Assumes nothing.
use mathlib.Core.Path.{◌≡◌, sym, ◌∙◌}
use mathlib.Core.Bool.{Bool, true, false, not}
use mathlib.Core.List.{List, [], ◌∷◌}
use mathlib.Core.Logic.{inl, inr}
use Prim.Native.Nat.{ℕ, zero, suc, ◌+◌, ◌≤◌, ◌<◌, max}
use native.Mathlib.Omega.{arith}
use native.Mathlib.Decide.{dec_le}
use lib.Dec.{T, eqb}
use mir.Val.{has_key}
use borrow.Author.Tests.{eq-eqb, ne_eqb}
use Rattle.laws.specs.Choice.{pick, lookup}
use Rattle.laws.specs.Choice as choice
use Rattle.laws.proofs.Choice.{pick_false}
use Rattle.tree_places.specs.declared.place.Place.{Place}
use Rattle.tree_places.specs.declared.place.Place.TheVariants.{Nothing, Required, Optional, List as ListOf, Item, Next}
use Rattle.tree_places.specs.Places.{first_places, first_place}
use Rattle.tree.specs.Forms.{a_type, a_link}
use Rattle.tree.specs.Sizes.{most_levels}
use Rattle.tree.specs.Table.{cell_at, first_column, second_column, form_at, detail_at, first_at, class_at}
use Rattle.tree.specs.Trees.{operand_at, tree_at, own_level, levels}
use Rattle.tree.proofs.Unfold.{unfolds, operand_range, tree_zero}
use Rattle.tree_rules.specs.Refusals.{Accepted}
use Rattle.tree_rules.proofs.Accepted.{Fits, count_bounds, root_expression, levels_bound, first_fits, first_operand}
use Rattle.tree_rules.proofs.Depth.{levels_node}
use Rattle.row_walk.specs.Steps.{waiting}

-- ---- no list stands at a first place

-- a place whose operand is no link
abbrev no_link : Place → Bool
no_link Nothing = true
no_link (Required class) = not (eqb class a_link)
no_link (Optional class) = not (eqb class a_link)
no_link (ListOf class) = false
no_link Item = true
no_link Next = false

-- what every row of a table has
abbrev AllRows : List (choice.Line Place) → Type 0
AllRows [] = Unit {0}
AllRows (choice.line ns a ∷ rows) = T (no_link a) × AllRows rows

all_rows : (rows : List (choice.Line Place)) (other : Place) (n : ℕ) → AllRows rows → T (no_link other) → T (no_link (lookup rows other n))
unfolding lookup pick
all_rows [] other n all t = t
all_rows (choice.line ns a ∷ rows) other n all t = go (has_key ns n) (all_rows rows other n all.1 t)
  where
    go : (b : Bool) → T (no_link (lookup rows other n)) → T (no_link (pick b a (lookup rows other n)))
    go true r = all.0
    go false r = r

first_no_link : (form detail : ℕ) → T (no_link (first_place form detail))
unfolding first_place first_places pick
first_no_link form detail = all_rows (first_places detail) Nothing form (tt, (tt, (tt, (tt, (tt, (tt, (tt, (tt, (output (eqb detail 3), (tt, tt)))))))))) tt
  where
    output : (b : Bool) → T (no_link (pick b (Optional a_type) Nothing))
    output true = tt
    output false = tt

waiting_node : (cells : List ℕ) (count i : ℕ) → 1 ≤ i → i ≤ count
    → waiting (tree_at cells count i) ≡ max (suc (waiting (tree_at cells count (operand_at cells count i first_column)))) (waiting (tree_at cells count (operand_at cells count i second_column)))
unfolding waiting
waiting_node cells count i low high = rw (unfolds cells count i low high)

module _ (context count : ℕ) (cells : List ℕ) (ok : Accepted context count cells) where
  class_level : (o : ℕ) → (class_at cells o ≡ a_link → ⊥) → own_level (form_at cells o) ≡ 1
  unfolding own_level
  class_level o h = pick_false 0 1 (ne_eqb _ _ h)

  -- a first operand is no link
  fits_level : (place : Place) (i o : ℕ) → T (no_link place) → Fits cells count i place o → 1 ≤ o → own_level (form_at cells o) ≡ 1
  fits_level Nothing i o t f h = absurd (omega arith)
  fits_level (Required class) i o t f h = class_level o (λ e. rw (eq-eqb class a_link (sym f.1 ∙ e)) at t)
  fits_level (Optional class) i o t (inl z) h = absurd (omega arith)
  fits_level (Optional class) i o t (inr f) h = class_level o (λ e. rw (eq-eqb class a_link (sym f.1 ∙ e)) at t)
  fits_level (ListOf class) i o t f h = absurd t
  fits_level Item i o t (w, inl e) h = class_level o (λ z. omega arith)
  fits_level Item i o t (w, inr e) h = class_level o (λ z. omega arith)
  fits_level Next i o t f h = absurd t

  absent_waits : waiting (tree_at cells count 0) ≡ 0
  unfolding waiting
  absent_waits = rw (tree_zero cells count)

  abbrev Bounded : ℕ → Type 0
  Bounded n = (i : ℕ) → count < i + n → 1 ≤ i → i ≤ count → waiting (tree_at cells count i) + own_level (form_at cells i) ≤ suc (levels (tree_at cells count i))

  -- a link needs one entry more than there are levels below it: that of its list's owner, which has none, since lists are second operands
  bound : (n : ℕ) → Bounded n
  bound zero i h low high = absurd (omega arith)
  bound (suc n) i h low high =
      let w = waiting_node cells count i low high in
      let l = levels_node cells count i low high in
      let f = below_first (λ o a b c. bound n o a b c) in
      let s = below_second (λ o a b c. bound n o a b c) in
      omega arith
    where
      first_is : 1 ≤ operand_at cells count i first_column → own_level (form_at cells (operand_at cells count i first_column)) ≡ 1
      first_is there =
          let e = first_operand context count cells ok i low high in
          rw e (fits_level (first_place (form_at cells i) (detail_at cells i)) i (first_at cells i) (first_no_link (form_at cells i) (detail_at cells i)) (first_fits context count cells ok i low high) (rw (← e) there))

      below_first : Bounded n → waiting (tree_at cells count (operand_at cells count i first_column)) ≤ levels (tree_at cells count (operand_at cells count i first_column))
      below_first earlier = go (dec_le 1 (operand_at cells count i first_column))
        where
          go : Dec (1 ≤ operand_at cells count i first_column) → waiting (tree_at cells count (operand_at cells count i first_column)) ≤ levels (tree_at cells count (operand_at cells count i first_column))
          go (yes there) =
              let r = operand_range count i (cell_at cells i first_column) there in
              let b = earlier (operand_at cells count i first_column) (omega arith) there r.1 in
              let o = first_is there in
              omega arith
          go (no out) = let z : operand_at cells count i first_column ≡ 0 = omega arith in rw (z, absent_waits) (omega arith)

      below_second : Bounded n → waiting (tree_at cells count (operand_at cells count i second_column)) ≤ suc (levels (tree_at cells count (operand_at cells count i second_column)))
      below_second earlier = go (dec_le 1 (operand_at cells count i second_column))
        where
          go : Dec (1 ≤ operand_at cells count i second_column) → waiting (tree_at cells count (operand_at cells count i second_column)) ≤ suc (levels (tree_at cells count (operand_at cells count i second_column)))
          go (yes there) =
              let r = operand_range count i (cell_at cells i second_column) there in
              let b = earlier (operand_at cells count i second_column) (omega arith) there r.1 in
              omega arith
          go (no out) = let z : operand_at cells count i second_column ≡ 0 = omega arith in rw (z, absent_waits) (omega arith)

  -- no more entries than the longest path has levels, list links not counted
  pub entries_levels : waiting (tree_at cells count 1) ≤ levels (tree_at cells count 1)
  entries_levels =
      let k = count_bounds context count cells ok in
      let b = bound count 1 (omega arith) (omega arith) k.0 in
      let o = class_level 1 (λ e. let r = root_expression context count cells ok in omega arith) in
      omega arith

  pub entries_bound : waiting (tree_at cells count 1) ≤ most_levels
  entries_bound =
      let e = entries_levels in
      let l = levels_bound context count cells ok in
      omega arith
