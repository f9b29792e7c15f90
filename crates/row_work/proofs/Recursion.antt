-- scan_right is at most 128 calls deep. Assumes nothing.
use mathlib.Core.Path.{◌≡◌, refl, sym, ap, ◌∙◌}
use mathlib.Core.Bool.{Bool, true, false}
use mathlib.Core.List.{List, [], ◌∷◌}
use mathlib.Core.Logic.{◌⊎◌, inl, inr}
use Prim.Native.Nat.{ℕ, ◌+◌, ◌≤◌, max}
use native.Mathlib.Omega.{arith}
use lib.Dec.{eqb}
use lib.ListN.{length}
use Rattle.laws.specs.Choice.{pick, lookup}
use Rattle.tree.specs.Sizes.{most_levels}
use Rattle.tree.specs.Forms.{an_expression, a_type, a_link, class_of}
use Rattle.tree.specs.Table.{form_at, detail_at, first_at, class_at, first_column, second_column}
use Rattle.tree.specs.Trees.{Tree, none, node, operand_at, tree_at, own_level, levels}
use Rattle.tree_places.specs.declared.place.Place.TheVariants.{Item}
use Rattle.tree_places.specs.Places.{first_places, first_place}
use Rattle.tree_rules.specs.Refusals.{Accepted}
use Rattle.tree_rules.proofs.Accepted.{Within, count_bounds, levels_bound, first_fits, first_operand}
use Rattle.tree_rules.proofs.Depth.{levels_node}
use Rattle.fixup_scan.specs.Arms.{arm_of}
use Rattle.fixup_scan.proofs.Levels.{link_form}
use Rattle.fixup_scan.proofs.Nodes.{operand_above, operand_below}
use Rattle.row_walk.specs.Paths.{Branch, first, second, tree_by}
use Rattle.row_walk.proofs.Paths.{tree_at_lem, reached}
use Rattle.row_work.specs.Recursion.{Nested}

-- a path does not lead to more levels
path_levels : (t : Tree) (p : List Branch) → levels (tree_by t p) ≤ levels t
unfolding levels
path_levels t [] = omega arith
path_levels none (s ∷ p) = omega arith
path_levels (node l a b) (first ∷ p) = let h = path_levels a p in omega arith
path_levels (node l a b) (second ∷ p) = let h = path_levels b p in omega arith

item_place : (detail : ℕ) → first_place 56 detail ≡ Item
unfolding first_place first_places lookup pick
item_place detail = refl

own_level_lem : (form class : ℕ) → class_of form ≡ class → eqb class a_link ≡ false → own_level form ≡ 1
unfolding own_level pick
own_level_lem form class e k = rw (e, k)

module _ (context count : ℕ) (cells : List ℕ) (ok : Accepted context count cells) where
  -- no node of an accepted table has more than 128 levels
  pub levels_everywhere : (i : ℕ) → 1 ≤ i → i ≤ count → levels (tree_at cells count i) ≤ most_levels
  levels_everywhere i low high =
      let r = reached cells count context ok i low high in
      let c = (count_bounds context count cells ok).0 in
      let e : tree_at cells count i ≡ tree_by (tree_at cells count 1) r.path = ap (tree_at cells count) (sym r.leads) ∙ tree_at_lem cells count 1 r.path (omega arith) c (rw r.leads low) in
      let m = path_levels (tree_at cells count 1) r.path in
      let b = levels_bound context count cells ok in
      rw e (omega arith)

  -- and each has one: a link has an item, which is an expression or a type
  item_level : (i : ℕ) → Within count i (first_at cells i) × ((class_at cells (first_at cells i) ≡ an_expression) ⊎ (class_at cells (first_at cells i) ≡ a_type)) → 1 ≤ levels (tree_at cells count (first_at cells i))
  item_level i (w, c) = rw (levels_node cells count (first_at cells i) (omega arith) w.1, go c) (omega arith)
    where
      go : (class_at cells (first_at cells i) ≡ an_expression) ⊎ (class_at cells (first_at cells i) ≡ a_type) → own_level (form_at cells (first_at cells i)) ≡ 1
      go (inl e) = own_level_lem (form_at cells (first_at cells i)) an_expression e refl
      go (inr e) = own_level_lem (form_at cells (first_at cells i)) a_type e refl

  level_one : (i : ℕ) → 1 ≤ i → i ≤ count → 1 ≤ levels (tree_at cells count i)
  level_one i low high = rw (levels_node cells count i low high) (go (eqb (class_at cells i) a_link) refl)
    where
      go : (e : Bool) → eqb (class_at cells i) a_link ≡ e → 1 ≤ own_level (form_at cells i) + max (levels (tree_at cells count (operand_at cells count i first_column))) (levels (tree_at cells count (operand_at cells count i second_column)))
      go true e =
          let h = item_level i (rw (link_form (form_at cells i) e, item_place (detail_at cells i)) at (first_fits context count cells ok i low high)) in
          rw (first_operand context count cells ok i low high) (omega arith)
      go false e = let d = own_level_lem (form_at cells i) (class_at cells i) refl e in omega arith

  nested_levels : (i : ℕ) → 1 ≤ i → i ≤ count → (js : List ℕ) → Nested cells count i js → 1 + length js ≤ levels (tree_at cells count i)
  nested_levels i low high [] n = level_one i low high
  nested_levels i low high (j ∷ js) n =
      let s = operand_above cells count (arm_of (tree_at cells count i)) i j n.0 in
      let m = nested_levels j (omega arith) s.2 js n.1 in
      let d = operand_below cells count i (arm_of (tree_at cells count i)) refl j n.0 in
      omega arith

  -- at a node of an accepted table at most 128 calls of scan_right stand open at one time
  pub recursion_bounded : (i : ℕ) → 1 ≤ i → i ≤ count → (js : List ℕ) → Nested cells count i js → 1 + length js ≤ most_levels
  recursion_bounded i low high js n =
      let m = nested_levels i low high js n in
      let b = levels_everywhere i low high in
      omega arith
