-- What a closed operand gets in a quiet context, as a number. Assumes nothing.
use mathlib.Core.Path.{◌≡◌, refl, sym, ap, ◌∙◌}
use mathlib.Core.Bool.{Bool, true, false}
use mathlib.Core.List.{List, [], ◌∷◌}
use Prim.Native.Nat.{ℕ, ◌+◌, ◌*◌, ◌/◌, ◌%◌, ◌≤◌, ◌<◌}
use native.Mathlib.Omega.{arith}
use lib.Dec.{eqb}
use mir.Val.{has_key}
use Rattle.laws.specs.Choice.{pick, Line, line, lookup}
use Rattle.laws.proofs.Choice.{true_not_false}
use Rattle.laws.proofs.Keys.{Give, apart}
use Rattle.tree.specs.declared.form.Form.{Form}
use Rattle.tree.specs.FormNumbers.{number_of}
use Rattle.tree.specs.Forms.{expr_field, expr_group}
use Rattle.tree.specs.Table.{form_at}
use Rattle.tree.specs.Operands.{form_in}
use Rattle.tree.specs.Trees.{Tree, none, node, label_at, tree_at}
use Rattle.tree.proofs.Unfold.{unfolds}
use Rattle.tree.specs.Walks.{at_root, follow, walk}
use Rattle.precedence.specs.declared.Precedence.{Precedence}
use Rattle.precedence.specs.declared.Precedence.TheVariants.{Jump, Unambiguous}
use Rattle.precedence.specs.declared.Lean.TheVariants.{Left}
use Rattle.precedence.specs.declared.Binding.{Binding}
use Rattle.precedence.specs.Precedences.{rank_of, binding, operators, binop_binding}
use Rattle.fixup.specs.declared.context.FixupContext.{FixupContext}
use Rattle.fixup.specs.Contexts.{none_context, with_operator, with_dot, rightmost}
use Rattle.fixup_scan.specs.Scans.{leftmost_precedence}
use Rattle.fixup_subexpression.specs.Subexpressions.{leftmost_with_operator, leftmost_with_dot, rightmost_operand}
use Rattle.expr.specs.declared.order.CalleeOrder.{CalleeOrder}
use Rattle.expr.specs.declared.order.CalleeOrder.TheVariants.{Crates, Ours}
use Rattle.expr.specs.Handed.{grouped_by, ungrouped, neither}
use Rattle.expr.specs.Expr.{left_needs_group, right_needs_group, callee_lines, named_field, call_needs_group, first_lines, second_lines}
use Rattle.expr.specs.Steps.{given_first, given_second}
use Rattle.row_pack.specs.Cells.{of_bits, flags_of}
use Rattle.row_pack.specs.FromCells.{context_of}
use Rattle.row_pack.specs.Packs.{packed_of, unpacked_of}
use Rattle.row_pack.proofs.Cells.{rank_of_lem, flags_of_lem}
use Rattle.row_pack.proofs.Packs.{none_packed}
use Rattle.row.specs.Closed.{closed_forms, is_closed}
use Rattle.row.specs.Hands.{hand_of, is_quiet}
use Rattle.row.proofs.Closed.{closed_key, closed_effective, closed_left, closed_right}
use Rattle.row.proofs.Quiet.{Quiet, quiet}
use Rattle.row_walk.specs.Settled.{is_field, settled_in, flags_before, settled_number, left_number, right_number}

-- ---- operators

-- what holds of each line of a table, and of what it gives beside them
any_line : {A : Type 0} (P : A → Type 0) (lines : List (Line A)) (other : A) (x : ℕ) → Give P lines → P other → P (lookup lines other x)
unfolding lookup pick
any_line P [] other x g o = o
any_line P (line ks a ∷ lines) other x g o = go (has_key ks x) (any_line P lines other x g.1 o)
  where
    go : (b : Bool) → P (lookup lines other x) → P (pick b a (lookup lines other x))
    go true r = g.0
    go false r = r

-- no operator groups what is Unambiguous, and none is Unambiguous
pub record Looser (o : Binding) : Type 0 where
  pub left_free : left_needs_group o.lean o.level Unambiguous ≡ false
  pub right_free : right_needs_group o.lean o.level Unambiguous ≡ false
  pub looser : rank_of o.level < 15

pub binop_looser : (op : ℕ) → Looser (binop_binding op)
unfolding operators left_needs_group right_needs_group
binop_looser op =
    any_line Looser operators (binding Jump Left) op
    (by refl refl (omega arith), (by refl refl (omega arith), (by refl refl (omega arith), (by refl refl (omega arith), (by refl refl (omega arith), (by refl refl (omega arith), (by refl refl (omega arith), (by refl refl (omega arith), (by refl refl (omega arith), (by refl refl (omega arith), tt))))))))))
    (by refl refl (omega arith))
  where
    by : {o : Binding} → left_needs_group o.lean o.level Unambiguous ≡ false → right_needs_group o.lean o.level Unambiguous ≡ false → rank_of o.level < 15 → Looser o
    by p q r = record { left_free = p; right_free = q; looser = r }

-- ---- contexts

settled_hand : (x : FixupContext) → hand_of (settled_in x) ≡ packed_of x + settled_number
unfolding hand_of
settled_hand x = omega arith

-- the flags of what a quiet context makes
left_flags : (x : FixupContext) → Quiet x → (begins generics : Bool) (level : Precedence) → flags_of (with_operator x begins generics level) ≡ flags_before begins generics
unfolding flags_of of_bits
left_flags x s begins generics level =
    rw (s.no_stmt, s.no_leftmost_stmt, s.no_match_arm, s.no_leftmost_match_arm, s.no_condition, s.no_leftmost_optional) (omega arith)

right_flags : (x : FixupContext) → Quiet x → (level : Precedence) → flags_of (rightmost x false false level) ≡ flags_of x
unfolding flags_of
right_flags x s level =
    rw (s.no_stmt, s.no_leftmost_stmt, s.no_match_arm, s.no_leftmost_match_arm, s.no_condition, s.no_rightmost_condition, s.no_leftmost_optional)

-- before a dot as before an operator
dotted : (x : FixupContext) → Quiet x → with_dot x ≡ with_operator x false false Unambiguous
dotted x s = rw (s.no_stmt, s.no_leftmost_stmt, s.no_match_arm, s.no_leftmost_match_arm)

digits : (m : ℕ) → m % 16 + 16 * (m / 16 % 1024) ≡ m % 16384
digits m = omega arith

module _ (own : ℕ) where
  previous_rank : rank_of (unpacked_of own).previous_operator ≡ own % 16
  unfolding unpacked_of context_of
  previous_rank = rank_of_lem (own % 16) (omega arith)

  next_rank : rank_of (unpacked_of own).next_operator ≡ own / 16 % 16
  unfolding unpacked_of context_of
  next_rank = rank_of_lem (own / 16 % 16) (omega arith)

  own_flags : flags_of (unpacked_of own) ≡ own / 256 % 1024
  unfolding unpacked_of
  own_flags = flags_of_lem (own % 16) (own / 16 % 16) (own / 256 % 1024) (omega arith)

module _ (own : ℕ) (q : is_quiet (unpacked_of own) ≡ true) where
  left_hand : (begins generics : Bool) (level : Precedence) → left_number own (flags_before begins generics) level ≡ hand_of (settled_in (with_operator (unpacked_of own) begins generics level))
  unfolding packed_of
  left_hand begins generics level =
      sym (settled_hand _ ∙ rw (left_flags (unpacked_of own) (quiet (unpacked_of own) q) begins generics level, previous_rank own))

  right_hand : (level : Precedence) → right_number own level ≡ hand_of (settled_in (rightmost (unpacked_of own) false false level))
  unfolding packed_of
  right_hand level =
      let d : own / 16 / 16 ≡ own / 256 = omega arith in
      let e = rw d at (digits (own / 16)) in
      sym (settled_hand _ ∙ rw (right_flags (unpacked_of own) (quiet (unpacked_of own) q) level, next_rank own, own_flags own) (omega arith))

  module _ (a : Tree) (closed : is_closed a ≡ true) (f : Precedence → Bool) (free : f Unambiguous ≡ false) where
    pub left_grouped : (begins generics : Bool) (level : Precedence) → left_number own (flags_before begins generics) level ≡ hand_of (grouped_by (leftmost_with_operator (unpacked_of own) a begins generics level) f)
    unfolding grouped_by
    left_grouped begins generics level = left_hand begins generics level ∙ rw (closed_left a closed (with_operator (unpacked_of own) begins generics level), free)

    pub dot_grouped : left_number own (flags_before false false) Unambiguous ≡ hand_of (grouped_by (leftmost_with_dot (unpacked_of own) a) f)
    dot_grouped = left_grouped false false Unambiguous ∙ ap (λ (y : FixupContext). hand_of (grouped_by (record { precedence = leftmost_precedence a y; fixup = y }) f)) (sym (dotted (unpacked_of own) (quiet (unpacked_of own) q)))

    pub right_grouped : (level : Precedence) → rank_of level < 15 → right_number own level ≡ hand_of (grouped_by (rightmost_operand (unpacked_of own) a level) f)
    unfolding grouped_by
    right_grouped level h = right_hand level ∙ rw (closed_right a closed (rightmost (unpacked_of own) false false level) h, free)

-- in NONE
pub alone_settled : (a : Tree) → is_closed a ≡ true → settled_number ≡ hand_of (neither none_context a)
unfolding neither ungrouped
alone_settled a closed = sym (settled_hand none_context ∙ rw none_packed) ∙ rw (closed_effective a closed none_context)

-- ---- what is called

-- a closed expression that is no Field
no_field : (t : Tree) → is_closed t ≡ true → false ≡ is_field t → named_field t ≡ false
unfolding named_field walk callee_lines follow lookup at_root pick
no_field none closed e = refl
no_field (node l a b) closed e =
    rw (
      key (has_key (expr_field ∷ []) l.form) (sym e),
      apart closed_forms (expr_group ∷ []) l.form tt (closed_key l a b closed),
    )
  where
    key : (b : Bool) → pick b true false ≡ false → b ≡ false
    key true h = h
    key false h = refl

-- whatever is asked of a Field
no_line : (t : Tree) → false ≡ is_field t → false ≡ at_root (λ l a b. line (expr_field ∷ []) (eqb l.detail 0) ∷ []) false t
unfolding at_root lookup pick
no_line none e = refl
no_line (node l a b) e = go (has_key (expr_field ∷ []) l.form) e
  where
    go : (k : Bool) → false ≡ pick k true false → false ≡ pick k (eqb l.detail 0) false
    go true h = absurd (true_not_false (sym h))
    go false h = refl

pub called : (order : CalleeOrder) (t : Tree) → is_closed t ≡ true → false ≡ is_field t → call_needs_group order t Unambiguous ≡ false
unfolding call_needs_group
called Crates t closed d = sym (no_line t d)
called Ours t closed d = no_field t closed d

-- ---- the line of a node's form

-- what is known of a node with a form
abbrev pub Has : List ℕ → ℕ → ℕ → Form → Type 0
Has cells count i form = (1 ≤ i) × (i ≤ count) × (number_of form ≡ form_at cells i) × (number_of form ≡ form_in cells count i)

module _ (cells : List ℕ) (count i : ℕ) (form at : Form) (h : Has cells count i form) (e : form ≡ at) where
  number : form_at cells i ≡ number_of at
  number = sym h.2 ∙ ap number_of e

  pub first_arm : (order : CalleeOrder) (x : FixupContext) (operand : Tree)
      → lookup (first_lines order x (label_at cells i) operand) (neither none_context operand) (number_of at) ≡ given_first order x (tree_at cells count i) operand
  unfolding given_first at_root label_at
  first_arm order x operand = rw (unfolds cells count i h.0 h.1, number)

  pub second_arm : (x : FixupContext) (operand : Tree)
      → lookup (second_lines x (label_at cells i) operand) (neither none_context operand) (number_of at) ≡ given_second x (tree_at cells count i) operand
  unfolding given_second at_root label_at
  second_arm x operand = rw (unfolds cells count i h.0 h.1, number)
