-- A closed expression without outer attributes is Unambiguous, whatever its context. Assumes nothing.
use mathlib.Core.Path.{◌≡◌, refl, sym, ◌∙◌}
use mathlib.Core.Bool.{Bool, true, false, not, ◌&&◌, ◌||◌}
use mathlib.Core.List.{List}
use Prim.Native.Nat.{ℕ, ◌≤◌, ◌<◌}
use native.Mathlib.Omega.{arith}
use native.Mathlib.Decide.{dec_le}
use Rattle.std.proofs.Common.{◌⊎◌}
use Rattle.std.proofs.lemmas.Grind.{common_steps}
use lib.Dec.{T, eqb}
use mir.Val.{has_key}
use borrow.Author.Tests.{le-ltb, lt-leb, not-true}
use Rattle.laws.specs.Choice.{pick, is_one_of, Line, lookup}
use Rattle.laws.proofs.Choice.{pick_false, true_not_false}
use Rattle.laws.proofs.Keys.{apart_from, not_found}
use Rattle.tree.specs.Forms.{expr_verbatim, an_expression, class_of}
use Rattle.tree.specs.Table.{form_at, attributes_at}
use Rattle.tree.specs.Operands.{form_in}
use Rattle.tree.specs.Trees.{Label, Tree, none, node, label_at, tree_at}
use Rattle.tree.proofs.Unfold.{unfolds, tree_zero, tree_past}
use Rattle.tree.proofs.Matches.{form_in_lem}
use Rattle.tree.specs.Walks.{at_root, answer, walk, follow}
use Rattle.fixup_look.specs.Looks.{is_bare_jump, is_open_ahead, is_cast_to_path}
use Rattle.precedence.specs.declared.Precedence.TheVariants.{Assign, Let, Prefix, Unambiguous}
use Rattle.precedence.specs.Precedences.{rank_of, same, prefix_attrs, of_lines, closed_by, precedence_of}
use Rattle.fixup.specs.declared.context.FixupContext.{FixupContext}
use Rattle.fixup.specs.Fixup.{effective}
use Rattle.fixup_scan.specs.Scans.{loose, right_by, rightmost_precedence, bails_out, leftmost_precedence}
use Rattle.row.specs.Rows.{inner_lines, inner_pair}
use Rattle.row.specs.Closed.{closed_forms, closed_lines, is_closed}

either_way : {A : Type 0} (b : Bool) (x : A) → pick b x x ≡ x
unfolding pick
either_way true x = refl
either_way false x = refl

not_asked : {A : Type 0} (b : Bool) (x y : A) → pick (b && false) x y ≡ y
unfolding pick
not_asked true x y = refl
not_asked false x y = refl

module _ (l : Label) (a b : Tree) (closed : is_closed (node l a b) ≡ true) where
  parts : (has_key closed_forms l.form ≡ true) × (not (eqb l.attributes 2) ≡ true)
  unfolding at_root closed_lines lookup pick
  parts = go (has_key closed_forms l.form) refl
    where
      go : (k : Bool) → has_key closed_forms l.form ≡ k → (has_key closed_forms l.form ≡ true) × (not (eqb l.attributes 2) ≡ true)
      go true e = (e, rw e at closed)
      go false e = true_not_false (sym (rw e at closed))

  pub closed_key : has_key closed_forms l.form ≡ true
  closed_key = parts.0

  -- a table that names no closed form
  apart_from_lem : {A : Type 0} (lines : List (Line A)) (other : A) → T (apart_from lines closed_forms) → lookup lines other l.form ≡ other
  apart_from_lem lines other t = not_found lines other closed_forms l.form t closed_key

  no_bare_jump : is_bare_jump (node l a b) ≡ false
  unfolding is_bare_jump at_root
  no_bare_jump = apart_from_lem _ false tt

  no_open_ahead : is_open_ahead (node l a b) ≡ false
  unfolding is_open_ahead at_root
  no_open_ahead = apart_from_lem _ false tt

  no_cast : is_cast_to_path (node l a b) ≡ false
  unfolding is_cast_to_path at_root
  no_cast = apart_from_lem _ false tt

  node_inner : inner_pair (node l a b) ≡ false
  unfolding inner_lines at_root
  node_inner = apart_from_lem _ false tt

  node_precedence : precedence_of (node l a b) ≡ Unambiguous
  unfolding precedence_of walk follow of_lines closed_by prefix_attrs pick
  node_precedence =
      rw (apart_from_lem (of_lines l a b) (answer (closed_by l.form l.attributes)) tt, not-true (eqb l.attributes 2) parts.1)
      (either_way (eqb (class_of l.form) an_expression && not (eqb l.form expr_verbatim)) Unambiguous)

  node_effective : (x : FixupContext) → effective x (node l a b) ≡ Unambiguous
  unfolding effective
  node_effective x =
      rw (no_bare_jump, no_open_ahead, no_cast, node_precedence)
      (not_asked x.next_operator_can_begin_expr _ _ ∙ not_asked (not x.next_operator_can_continue_expr) _ _ ∙ not_asked x.next_operator_can_begin_generics _ _)

closed_none : is_closed none ≡ true → ⊥
unfolding at_root
closed_none e = true_not_false (sym e)

not_loose : (x : FixupContext) → rank_of x.previous_operator < 15 → loose x Unambiguous ≡ false
unfolding loose
not_loose x h =
    rw (le-ltb 15 (rank_of x.previous_operator) (omega arith), lt-leb 15 (rank_of x.previous_operator) h)
    (either_way (same x.previous_operator Assign || (same x.previous_operator Let || same x.previous_operator Prefix)) false)

module _ (t : Tree) (closed : is_closed t ≡ true) where
  pub closed_inner : inner_pair t ≡ false
  closed_inner = go t closed
    where
      go : (t : Tree) → is_closed t ≡ true → inner_pair t ≡ false
      go none e = absurd (closed_none e)
      go (node l a b) e = node_inner l a b e

  pub closed_effective : (x : FixupContext) → effective x t ≡ Unambiguous
  closed_effective x = go t closed
    where
      go : (t : Tree) → is_closed t ≡ true → effective x t ≡ Unambiguous
      go none e = absurd (closed_none e)
      go (node l a b) e = node_effective l a b e x

  -- as a left operand
  pub closed_left : (x : FixupContext) → leftmost_precedence t x ≡ Unambiguous
  unfolding leftmost_precedence
  closed_left x = rw (closed_effective x) (either_way (bails_out t x) Unambiguous)

  -- and as a right one, after an operator: no operator is Unambiguous
  pub closed_right : (x : FixupContext) → rank_of x.previous_operator < 15 → rightmost_precedence t x ≡ Unambiguous
  unfolding rightmost_precedence right_by
  closed_right x h = rw (closed_effective x, not_loose x h) (pick_false Prefix Unambiguous refl)

-- ---- of a node in a table

pub closed_at : (cells : List ℕ) (count i : ℕ) → 1 ≤ i → i ≤ count
    → is_closed (tree_at cells count i) ≡ pick (is_one_of closed_forms (form_at cells i)) (not (eqb (attributes_at cells i) 2)) false
unfolding at_root closed_lines lookup label_at
closed_at cells count i h k = rw (unfolds cells count i h k)

-- a node without a form
pub unlisted : (cells : List ℕ) (count i : ℕ) → (form_in cells count i ≡ 0) ⊎ (56 < form_in cells count i) → is_closed (tree_at cells count i) ≡ false
unfolding at_root closed_lines lookup pick label_at
unlisted cells count i e = go (dec_le 1 i) (dec_le i count)
  where
    go : Dec (1 ≤ i) → Dec (i ≤ count) → is_closed (tree_at cells count i) ≡ false
    go (yes h) (yes k) = let q = form_in_lem cells count i h k in rw (unfolds cells count i h k) (grind (arith, common_steps, q, e))
    go (yes h) (no k) = rw (tree_past cells count i (omega arith))
    go (no h) d = let z : i ≡ 0 = omega arith in rw (z, tree_zero cells count)
