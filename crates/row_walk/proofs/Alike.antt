-- Rows do not look at symbols, and of a Binary's operator only at how it binds, and at whether it can begin an expression or generics. Assumes nothing.
use mathlib.Core.Path.{◌≡◌, refl, sym, ap, ◌∙◌, fun_ext}
use mathlib.Core.Bool.{true, false}
use mathlib.Core.List.{List}
use Prim.Native.Nat.{ℕ}
use Rattle.laws.specs.Choice.{pick, Line, lookup}
use Rattle.tree.specs.Forms.{expr_binary}
use Rattle.tree.specs.Trees.{Label, Tree, none, node}
use Rattle.tree.specs.Walks.{Ask, answer, is_there, at_root, walk}
use Rattle.precedence.specs.declared.Precedence.{Precedence}
use Rattle.precedence.specs.declared.Binding.{Binding}
use Rattle.precedence.specs.declared.Precedence.TheVariants.{Jump, Unambiguous}
use Rattle.precedence.specs.Precedences.{binop_binding, of_binop, of_lines, closed_by, precedence_of}
use Rattle.classify.specs.Classify.{comma_lines, requires_comma, requires_semi, path_lines, trailing_path, label_lines, leading_label}
use Rattle.fixup_look.specs.Looks.{is_let, is_struct, is_bare_return, is_open_ended, is_plain_block, is_bare_jump, is_open_ahead, is_cast_to_path}
use Rattle.fixup.specs.declared.context.FixupContext.{FixupContext}
use Rattle.fixup.specs.Contexts.{none_context}
use Rattle.fixup.specs.Fixup.{parenthesize, effective, scan_left_lines, scan_left}
use Rattle.fixup_scan.specs.declared.arm.Arm.{Arm}
use Rattle.fixup_scan.specs.declared.arm.Arm.TheVariants.{Assign, Binary, Prefix, Range, Break, Return, Closure, Let, Group, Closed}
use Rattle.fixup_scan.specs.Scans.{Scans, consume_by, right_by, scan_right, rightmost_precedence, bails_out, leftmost_precedence}
use Rattle.fixup_scan.specs.Arms.{arm_lines, arm_of, operand_by, visit_by, scan_by}
use Rattle.fixup_scan.specs.Linear.{onwards}
use Rattle.fixup_scan.proofs.Spine.{along, scan_along}
use Rattle.expr.specs.declared.Handed.{Handed}
use Rattle.expr.specs.declared.order.CalleeOrder.{CalleeOrder}
use Rattle.expr.specs.declared.order.CalleeOrder.TheVariants.{Crates, Ours}
use Rattle.expr.specs.Handed.{neither}
use Rattle.expr.specs.Expr.{can_begin_expr, can_begin_generics, callee_lines, named_field, call_needs_group, binary_left, binary_right, first_lines, hands_first, second_lines, hands_second}
use Rattle.row.specs.Rows.{outer_pair, inner_lines, inner_pair, expression_row, is_expression, row_of, own_context, rows_of}
use Rattle.row_walk.specs.Walk.{context_numbered, root_handed}

-- ---- trees alike

-- what expr.rs asks of an operator
pub record SameOperator (o p : ℕ) : Type 0 where
  pub binding : binop_binding o ≡ binop_binding p
  pub begins : can_begin_expr o ≡ can_begin_expr p
  pub generics : can_begin_generics o ≡ can_begin_generics p

abbrev pub label : ℕ → ℕ → ℕ → ℕ → Label
label f a d s = record { form = f; attributes = a; detail = d; symbol = s }

-- the same but for symbols, and for operators that are asked the same
pub data Alike : Tree → Tree → Type 0 where
  gone : Alike none none
  kept : (f a d s s' : ℕ) {x y z w : Tree} → Alike x z → Alike y w → Alike (node (label f a d s) x y) (node (label f a d s') z w)
  other : (a o p s s' : ℕ) {x y z w : Tree} → SameOperator o p → Alike x z → Alike y w → Alike (node (label expr_binary a o s) x y) (node (label expr_binary a p s') z w)

-- ---- questions that go down one side of a tree

there_like : {s t : Tree} → Alike s t → is_there s ≡ is_there t
there_like gone = refl
there_like (kept f a d s s' u v) = refl
there_like (other a o p s s' e u v) = refl

level_like : {o p : ℕ} → SameOperator o p → of_binop o ≡ of_binop p
unfolding of_binop
level_like e = ap (λ (b : Binding). b.level) e.binding

module _ {A : Type 0} (lines : Label → Tree → Tree → List (Line (Ask A))) (rest : Label → A) (absent : A)
    (same : (f a d s s' : ℕ) (x y z w : Tree) → Alike x z → Alike y w → lines (label f a d s) x y ≡ lines (label f a d s') z w)
    (others : (f a d s s' : ℕ) → rest (label f a d s) ≡ rest (label f a d s'))
    (binary : (a o p s s' : ℕ) (x y z w : Tree) → SameOperator o p
    → lookup (lines (label expr_binary a o s) x y) (answer (rest (label expr_binary a o s))) expr_binary ≡ lookup (lines (label expr_binary a p s') z w) (answer (rest (label expr_binary a p s'))) expr_binary) where
  walked : {s t : Tree} → Alike s t → walk lines rest absent s ≡ walk lines rest absent t
  unfolding walk
  walked gone = refl
  walked (kept f a d s s' {x} {y} {z} {w} u v) = rw (same f a d s s' x y z w u v, others f a d s s', walked u, walked v)
  walked (other a o p s s' {x} {y} {z} {w} e u v) = rw (binary a o p s s' x y z w e, walked u, walked v)

precedence_like : {s t : Tree} → Alike s t → precedence_of s ≡ precedence_of t
unfolding precedence_of of_lines lookup pick
precedence_like u = walked of_lines (λ l. closed_by l.form l.attributes) Unambiguous (λ f a d s s' k l m n i j. rw (there_like i)) (λ f a d s s'. refl) (λ a o p s s' k l m n e. rw (level_like e)) u

comma_like : {s t : Tree} → Alike s t → requires_comma s ≡ requires_comma t
unfolding requires_comma comma_lines lookup pick
comma_like u = walked comma_lines (λ l. true) true (λ f a d s s' k l m n i j. refl) (λ f a d s s'. refl) (λ a o p s s' k l m n e. refl) u

trailing_like : {s t : Tree} → Alike s t → trailing_path s ≡ trailing_path t
unfolding trailing_path path_lines lookup pick
trailing_like u = walked path_lines (λ l. false) false (λ f a d s s' k l m n i j. refl) (λ f a d s s'. refl) (λ a o p s s' k l m n e. refl) u

leading_like : {s t : Tree} → Alike s t → leading_label s ≡ leading_label t
unfolding leading_label label_lines lookup pick
leading_like u = walked label_lines (λ l. false) false (λ f a d s s' k l m n i j. refl) (λ f a d s s'. refl) (λ a o p s s' k l m n e. refl) u

named_like : {s t : Tree} → Alike s t → named_field s ≡ named_field t
unfolding named_field callee_lines lookup pick
named_like u = walked callee_lines (λ l. false) false (λ f a d s s' k l m n i j. refl) (λ f a d s s'. refl) (λ a o p s s' k l m n e. refl) u

-- ---- questions that a node answers by itself

module _ {A : Type 0} (lines : Label → Tree → Tree → List (Line A)) (absent : A)
    (same : (f a d s s' : ℕ) (x y z w : Tree) → Alike x z → Alike y w → lines (label f a d s) x y ≡ lines (label f a d s') z w)
    (binary : (a o p s s' : ℕ) (x y z w : Tree) → SameOperator o p → lookup (lines (label expr_binary a o s) x y) absent expr_binary ≡ lookup (lines (label expr_binary a p s') z w) absent expr_binary) where
  rooted : {s t : Tree} → Alike s t → at_root lines absent s ≡ at_root lines absent t
  unfolding at_root
  rooted gone = refl
  rooted (kept f a d s s' {x} {y} {z} {w} u v) = rw (same f a d s s' x y z w u v)
  rooted (other a o p s s' {x} {y} {z} {w} e u v) = binary a o p s s' x y z w e

semi_like : {s t : Tree} → Alike s t → requires_semi s ≡ requires_semi t
unfolding requires_semi lookup pick
semi_like u = rw (comma_like u) (rooted _ _ (λ f a d s s' k l m n i j. refl) (λ a o p s s' k l m n e. refl) u)

let_like : {s t : Tree} → Alike s t → is_let s ≡ is_let t
unfolding is_let lookup pick
let_like u = rooted _ _ (λ f a d s s' k l m n i j. refl) (λ a o p s s' k l m n e. refl) u

struct_like : {s t : Tree} → Alike s t → is_struct s ≡ is_struct t
unfolding is_struct lookup pick
struct_like u = rooted _ _ (λ f a d s s' k l m n i j. refl) (λ a o p s s' k l m n e. refl) u

return_like : {s t : Tree} → Alike s t → is_bare_return s ≡ is_bare_return t
unfolding is_bare_return lookup pick
return_like u = rooted _ _ (λ f a d s s' k l m n i j. rw (there_like i)) (λ a o p s s' k l m n e. refl) u

ended_like : {s t : Tree} → Alike s t → is_open_ended s ≡ is_open_ended t
unfolding is_open_ended lookup pick
ended_like u = rooted _ _ (λ f a d s s' k l m n i j. rw (there_like i, there_like j)) (λ a o p s s' k l m n e. refl) u

block_like : {s t : Tree} → Alike s t → is_plain_block s ≡ is_plain_block t
unfolding is_plain_block lookup pick
block_like u = rooted _ _ (λ f a d s s' k l m n i j. refl) (λ a o p s s' k l m n e. refl) u

jump_like : {s t : Tree} → Alike s t → is_bare_jump s ≡ is_bare_jump t
unfolding is_bare_jump lookup pick
jump_like u = rooted _ _ (λ f a d s s' k l m n i j. rw (there_like i)) (λ a o p s s' k l m n e. refl) u

ahead_like : {s t : Tree} → Alike s t → is_open_ahead s ≡ is_open_ahead t
unfolding is_open_ahead lookup pick
ahead_like u = rooted _ _ (λ f a d s s' k l m n i j. rw (there_like i)) (λ a o p s s' k l m n e. refl) u

cast_like : {s t : Tree} → Alike s t → is_cast_to_path s ≡ is_cast_to_path t
unfolding is_cast_to_path lookup pick
cast_like u = rooted _ _ (λ f a d s s' k l m n i j. rw (trailing_like j)) (λ a o p s s' k l m n e. refl) u

left_like : {s t : Tree} → Alike s t → (x : FixupContext) → scan_left s x ≡ scan_left t x
unfolding scan_left scan_left_lines lookup pick
left_like u x = rooted (scan_left_lines x) true (λ f a d s s' k l m n i j. rw (there_like i)) (λ a o p s s' k l m n e. rw (level_like e)) u

arm_like : {s t : Tree} → Alike s t → arm_of s ≡ arm_of t
unfolding arm_of arm_lines lookup pick
arm_like u = rooted arm_lines Closed (λ f a d s s' k l m n i j. rw (leading_like i)) (λ a o p s s' k l m n e. rw (level_like e)) u

call_like : {s t : Tree} → Alike s t → (order : CalleeOrder) → call_needs_group order s ≡ call_needs_group order t
unfolding call_needs_group lookup pick
call_like u Crates = fun_ext (λ left. rooted _ _ (λ f a d s s' k l m n i j. refl) (λ a o p s s' k l m n e. refl) u)
call_like u Ours = fun_ext (λ left. rw (named_like u))

inner_like : {s t : Tree} → Alike s t → inner_pair s ≡ inner_pair t
unfolding inner_lines lookup pick
inner_like u = rooted inner_lines false (λ f a d s s' k l m n i j. refl) (λ a o p s s' k l m n e. refl) u

class_like : {s t : Tree} → Alike s t → is_expression s ≡ is_expression t
class_like gone = refl
class_like (kept f a d s s' u v) = refl
class_like (other a o p s s' e u v) = refl

-- ---- precedences

parenthesize_like : {s t : Tree} → Alike s t → (x : FixupContext) → parenthesize x s ≡ parenthesize x t
unfolding parenthesize
parenthesize_like u x = rw (semi_like u, let_like u, comma_like u, struct_like u, return_like u, ended_like u, block_like u)

effective_like : {s t : Tree} → Alike s t → (x : FixupContext) → effective x s ≡ effective x t
unfolding effective
effective_like u x = rw (jump_like u, ahead_like u, cast_like u, precedence_like u)

operand_like : (arm : Arm) {a b c d : Tree} → Alike a c → Alike b d → Alike (operand_by arm none a b) (operand_by arm none c d)
operand_like Assign u v = v
operand_like (Binary q) u v = v
operand_like Prefix u v = u
operand_like Range u v = v
operand_like (Break lost) u v = u
operand_like Return u v = u
operand_like Closure u v = gone
operand_like Let u v = u
operand_like Group u v = u
operand_like Closed u v = gone

onwards_like : {s t : Tree} → Alike s t → Alike (onwards s) (onwards t)
unfolding onwards
onwards_like gone = gone
onwards_like (kept f a d s s' {x} {y} {z} {w} u v) = rw (arm_like (kept f a d s s' u v)) (operand_like (arm_of (node (label f a d s') z w)) u v)
onwards_like (other a o p s s' {x} {y} {z} {w} e u v) = rw (arm_like (other a o p s s' e u v)) (operand_like (arm_of (node (label expr_binary a p s') z w)) u v)

right_like : {s t : Tree} → Alike s t → (scans : Scans) (x : FixupContext) → right_by s scans x ≡ right_by t scans x
unfolding right_by
right_like u scans x = rw (effective_like u x, left_like u x)

by_like : (arm : Arm) {s t : Tree} → Alike s t → (scans : Scans) (x : FixupContext) (p : Precedence) (f b : ℕ) → scan_by arm s scans x p f b ≡ scan_by arm t scans x p f b
unfolding scan_by
by_like arm u scans x p f b = rw (there_like u, right_like u scans (visit_by arm x p f b).context)

abbrev Scanned : Tree → Type 0
Scanned t = (s : Tree) → Alike s t → (x : FixupContext) (p : Precedence) (f b : ℕ) → scan_right s x p f b ≡ scan_right t x p f b

same_scans : {s t : Tree} → Alike s t → Scanned t → scan_right s ≡ scan_right t
same_scans {s} u h = fun_ext (λ x. fun_ext (λ p. fun_ext (λ f. fun_ext (λ b. h s u x p f b))))

scanned_by : (arm : Arm) {s t : Tree} → Alike s t → (is_there t ≡ true → Scanned t) → (x : FixupContext) (p : Precedence) (f b : ℕ) → scan_by arm s (scan_right s) x p f b ≡ scan_by arm t (scan_right t) x p f b
scanned_by arm gone h c p f b = refl
scanned_by arm (kept g a d s s' {x} {y} {z} {w} i j) h c p f b =
    let u = kept g a d s s' i j in
    let t = node (label g a d s') z w in
    by_like arm u (scan_right (node (label g a d s) x y)) c p f b ∙ ap (λ (r : Scans). scan_by arm t r c p f b) (same_scans u (h refl))
scanned_by arm (other a o q s s' {x} {y} {z} {w} e i j) h c p f b =
    let u = other a o q s s' e i j in
    let t = node (label expr_binary a q s') z w in
    by_like arm u (scan_right (node (label expr_binary a o s) x y)) c p f b ∙ ap (λ (r : Scans). scan_by arm t r c p f b) (same_scans u (h refl))

scan_like : (t : Tree) → Scanned t
scan_like =
    along Scanned (λ t h s u x p f b.
    scan_along s x p f b
    ∙ rw (parenthesize_like u x, arm_like u)
    (ap (pick (parenthesize x t) (consume_by p x.next_operator)) (scanned_by (arm_of t) (onwards_like u) h x p f b) ∙ sym (scan_along t x p f b)))

leftmosts : {s t : Tree} → Alike s t → leftmost_precedence s ≡ leftmost_precedence t
unfolding leftmost_precedence bails_out
leftmosts {s} {t} u = fun_ext (λ x. rw (scan_like t s u x Jump 0 0, left_like u x, effective_like u x))

rightmosts : {s t : Tree} → Alike s t → rightmost_precedence s ≡ rightmost_precedence t
unfolding rightmost_precedence
rightmosts {s} {t} u = fun_ext (λ x. right_like u (scan_right s) x ∙ ap (λ (r : Scans). right_by t r x) (same_scans u (scan_like t)))

-- ---- what an owner hands down

neither_like : {s t : Tree} → Alike s t → (x : FixupContext) → neither x s ≡ neither x t
unfolding neither
neither_like u x = rw (effective_like u x)

first_like : {s t : Tree} → Alike s t → (order : CalleeOrder) (x : FixupContext) → hands_first order x s ≡ hands_first order x t
unfolding hands_first first_lines binary_left lookup pick
first_like gone order x = refl
first_like (kept f a d s s' u v) order x = rw (leftmosts u, rightmosts u, call_like u order, leading_like u, neither_like u x, neither_like u none_context)
first_like (other a o p s s' e u v) order x = rw (leftmosts u, e.binding, e.begins, e.generics)

second_like : {s t : Tree} → Alike s t → (x : FixupContext) → hands_second x s ≡ hands_second x t
unfolding hands_second second_lines binary_right lookup pick
second_like gone x = refl
second_like (kept f a d s s' u v) x = rw (rightmosts v, neither_like v none_context)
second_like (other a o p s s' e u v) x = rw (rightmosts v, e.binding)

-- ---- rows

outer_like : {s t : Tree} → Alike s t → (h : Handed) → outer_pair h s ≡ outer_pair h t
unfolding outer_pair
outer_like u h = rw (parenthesize_like u h.fixup)

row_like : {s t : Tree} → Alike s t → (h : Handed) → row_of h s ≡ row_of h t
unfolding row_of expression_row
row_like u h = rw (class_like u, outer_like u h, inner_like u)

own_like : {s t : Tree} → Alike s t → (h : Handed) → own_context h s ≡ own_context h t
unfolding own_context
own_like u h = rw (class_like u, outer_like u h)

-- at a node, by the rows of its operands
module _ (order : CalleeOrder) {l m : Label} {a b c d : Tree} (u : Alike (node l a b) (node m c d))
    (first : (h : Handed) → rows_of order h a ≡ rows_of order h c) (second : (h : Handed) → rows_of order h b ≡ rows_of order h d) where
  rows_node : (h : Handed) → rows_of order h (node l a b) ≡ rows_of order h (node m c d)
  unfolding rows_of
  rows_node h =
      let x = own_context h (node m c d) in
      rw (row_like u h, own_like u h, first_like u order x, second_like u x, first (hands_first order x (node m c d)), second (hands_second x (node m c d)))

pub rows_like : (order : CalleeOrder) {s t : Tree} → Alike s t → (h : Handed) → rows_of order h s ≡ rows_of order h t
unfolding rows_of
rows_like order gone h = refl
rows_like order (kept f a d s s' u v) h = rows_node order (kept f a d s s' u v) (λ g. rows_like order u g) (λ g. rows_like order v g) h
rows_like order (other a o p s s' e u v) h = rows_node order (other a o p s s' e u v) (λ g. rows_like order u g) (λ g. rows_like order v g) h

-- the rows of a whole tree, in any context of a file
pub all_rows_like : (order : CalleeOrder) (context : ℕ) {s t : Tree} → Alike s t → rows_of order (root_handed context s) s ≡ rows_of order (root_handed context t) t
all_rows_like order context u = rw (neither_like u (context_numbered context)) (rows_like order u (root_handed context _))
