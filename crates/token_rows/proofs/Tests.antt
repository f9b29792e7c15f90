-- The owners' grouping tests on plain operands in contexts 0 and 3: an operand gets a pair where the context excludes it or it is weaker than its place allows. Assumes nothing.
use mathlib.Core.Path.{◌≡◌, refl, sym, ap, ap₂, ◌∙◌}
use mathlib.Core.Bool.{Bool, true, false, not, ◌||◌}
use Prim.Native.Nat.compare
use Prim.Native.Nat.{ℕ, suc, ◌≤◌, ◌<◌}
use native.Mathlib.Omega.{arith}
use lib.Dec.{T, eqb, ltb, eqb→eq}
use native.Mathlib.Decide.{dec_le}
use borrow.Author.Tests.{lt-ltb, le-ltb, ltb-true, ltb-false}
use Rattle.laws.specs.Choice.{pick, lookup}
use Rattle.laws.proofs.Choice.{alike, alike_same}
use Rattle.tree.specs.Walks.{follow, walk}
use Rattle.precedence.specs.declared.Precedence.{Precedence}
use Rattle.precedence.specs.declared.Precedence.TheVariants as rank
use Rattle.precedence.specs.declared.Lean.{Lean}
use Rattle.precedence.specs.declared.Lean.TheVariants.{Left, Right, Neither}
use Rattle.precedence.specs.Precedences.{rank_of, at_most, operators, binop_binding, of_binop}
use Rattle.fixup.specs.declared.context.FixupContext.{FixupContext}
use Rattle.fixup.specs.Contexts.{with_operator, with_dot, rightmost}
use Rattle.fixup.specs.Fixup.{effective}
use Rattle.fixup_scan.specs.Scans.{scanned}
use Rattle.fixup_subexpression.specs.Subexpressions.{operand, leftmost_with_operator, leftmost_with_dot, rightmost_operand}
use Rattle.expr.specs.Handed.{grouped_by, ungrouped, neither}
use Rattle.expr.specs.declared.order.CalleeOrder.TheVariants.{Ours}
use Rattle.expr.specs.Expr.{can_begin_expr, can_begin_generics, left_needs_group, right_needs_group, callee_lines, named_field, call_needs_group}
use Rattle.row.specs.Rows.{outer_pair}
use Rattle.token_grammar.specs.Tokens.{Operator, number}
use Rattle.token_grammar.specs.Tokens as token
use Rattle.token_grammar.specs.Levels.{kind, level, before, postfixes}
use Rattle.token_grammar.specs.Types.{one}
use Rattle.token_grammar.specs.Expressions.{path, literal, structure, neg, deref, invert, ref, ref_mut, by_name, by_number, awaited, Expr, atom, paren, prefix, binary, cast, member, try, index, call, method, ends_in_dot_name}
use Rattle.token_grammar.specs.Grammar.{Context, opens_arguments, excluded}
use Rattle.token_grammar.proofs.Added.{strength}
use Rattle.token_grammar.proofs.Tokens.{of_operators, each_operator}
use Rattle.token_grammar.proofs.Levels.{operator_high}
use Rattle.token_grammar.proofs.Pairs.{strength_no_range, right_lowest}
use Rattle.token_plain.specs.Trees.{operator_label, tree_of}
use Rattle.token_rows.proofs.Contexts.{begun, Calm, calm_begun, calm_parenthesize, calm_operator, calm_dot, calm_rightmost}
use Rattle.token_rows.proofs.Nodes.{effective_is}
use Rattle.token_rows.proofs.Operands.{left_is, Settled, right_is}

-- ---- a test by the operand's strength

-- what a test says of every precedence that has the operand's strength
abbrev pub Groups : (Precedence → Bool) → Bool → Expr one → Bool → Type 0
Groups group g e v = (p : Precedence) → rank_of p ≡ strength g e → group p ≡ v

swap : (a b : Bool) → a || b ≡ b || a
swap true true = refl
swap true false = refl
swap false true = refl
swap false false = refl

-- an operand whose precedence is the effective one, in a calm context
by_strength : (k : Context) (x : FixupContext) (q : Precedence) (group : Precedence → Bool) (e : Expr one) (v : Bool) → Calm k x → q ≡ effective x (tree_of e) → Groups group x.next_operator_can_begin_generics e v
    → outer_pair (grouped_by (operand q x) group) (tree_of e) ≡ excluded k e || v
unfolding outer_pair grouped_by
by_strength k x q group e v c w h = rw (calm_parenthesize k x e c) (swap (group q) (excluded k e) ∙ ap (λ b. excluded k e || b) (h q (ap rank_of w ∙ effective_is x e)))

module _ (k : Context) (x : FixupContext) (c : Calm k x) (e : Expr one) (group : Precedence → Bool) (v : Bool) where
  pub operator_pair : (begins generics : Bool) (next : Precedence) → 1 ≤ rank_of next → Groups group generics e v
      → outer_pair (grouped_by (leftmost_with_operator x (tree_of e) begins generics next) group) (tree_of e) ≡ excluded k e || v
  operator_pair begins generics next h w =
      let y = calm_operator k x c begins generics next in
      by_strength k (with_operator x begins generics next) _ group e v y (left_is k e (with_operator x begins generics next) y h) w

  pub dot_pair : Groups group false e v → outer_pair (grouped_by (leftmost_with_dot x (tree_of e)) group) (tree_of e) ≡ excluded k e || v
  dot_pair w = by_strength k (with_dot x) _ group e v (calm_dot k x c) (left_is k e (with_dot x) (calm_dot k x c) (omega arith)) w

  pub end_pair : (previous : Precedence) → Settled x → rank_of previous ≤ 14 → Groups group x.next_operator_can_begin_generics e v
      → outer_pair (grouped_by (rightmost_operand x (tree_of e) previous) group) (tree_of e) ≡ excluded k e || v
  unfolding scanned
  end_pair previous s h w = by_strength k (rightmost x false false previous) _ group e v (calm_rightmost k x c previous) (right_is e (rightmost x false false previous) s h) w

-- where no owner tests, the context alone asks for a pair
pub root_pair : (k : Context) (e : Expr one) → outer_pair (neither (begun k) (tree_of e)) (tree_of e) ≡ excluded k e
unfolding outer_pair neither ungrouped
root_pair k e = calm_parenthesize k (begun k) e (calm_begun k)

-- ---- operators

-- a rule that holds for every operator but `=`, which is no Binary operator
but_assign : (p : Operator → Bool) → T (of_operators (λ o. eqb (number o) 28 || p o)) → (o : Operator) → number o < 28 → T (p o)
but_assign p h o k = go (eqb (number o) 28) refl (each_operator (λ q. eqb (number q) 28 || p q) h o)
  where
    go : (b : Bool) → eqb (number o) 28 ≡ b → T (b || p o) → T (p o)
    go true e t = absurd (omega (arith, eqb→eq (number o) 28 (rw e tt)))
    go false e t = t

implied : (a b : Bool) → a ≡ true → T (not a || not b) → b ≡ false
implied a true h t = absurd (rw h at t)
implied a false h t = refl

equal_when : (a : Bool) (m n : ℕ) → a ≡ true → T (not a || eqb m n) → m ≡ n
equal_when a m n h t = eqb→eq m n (rw h at t)

equal_unless : (a : Bool) (m n : ℕ) → a ≡ false → T (a || eqb m n) → m ≡ n
equal_unless a m n h t = eqb→eq m n (rw h at t)

pub generics_is : (o : Operator) → number o < 28 → can_begin_generics (number o) ≡ opens_arguments o
unfolding can_begin_generics lookup pick opens_arguments
generics_is o h = alike_same _ _ (but_assign (λ q. alike (can_begin_generics (number q)) (opens_arguments q)) tt o h)

-- `<` and `<<` can begin an expression, and are neither a range nor `||` nor `&&`
pub operator_settled : (x : FixupContext) (o : Operator) → number o < 28 → Settled (with_operator x (can_begin_expr (number o)) (can_begin_generics (number o)) (of_binop (number o)))
unfolding can_begin_expr can_begin_generics lookup pick of_binop operators scanned
operator_settled x o h g =
    implied _ _ g (but_assign (λ q. not (can_begin_generics (number q)) || not (scanned (with_operator x (can_begin_expr (number q)) (can_begin_generics (number q)) (of_binop (number q))))) tt o h)

-- left of an operator. The crate tests against Range's level left of an assignment; no strength is Range's
no_two : (s : ℕ) → (s ≤ 2 → s < 2) → ltb s 3 ≡ ltb s 2
no_two s h = go (ltb s 2) refl
  where
    go : (b : Bool) → ltb s 2 ≡ b → ltb s 3 ≡ b
    go true e = let l = ltb-true s 2 e in lt-ltb s 3 (omega arith)
    go false e = let l = ltb-false s 2 e in le-ltb s 3 (three (dec_le s 2))
      where
        three : Dec (s ≤ 2) → 3 ≤ s
        three (yes k) = let m = h k in absurd (let l = ltb-false s 2 e in omega arith)
        three (no k) = omega arith

pub assign_test : (g : Bool) (a : Expr one) → ltb (strength g a) 3 ≡ ltb (strength g a) 2
assign_test g a = no_two (strength g a) (strength_no_range g a)

-- the tests on either side of a Binary operator, by its level and lean: each is a comparison of ranks
abbrev left_rank : Lean → Precedence → ℕ
left_rank Left p = rank_of p
left_rank Right p = 3
left_rank Neither p = suc (rank_of p)

abbrev right_rank : Lean → Precedence → ℕ
right_rank Left p = suc (rank_of p)
right_rank Right p = 0
right_rank Neither p = suc (rank_of p)

up_to : (p q : Precedence) → at_most p q ≡ ltb (rank_of p) (suc (rank_of q))
up_to p q = rw compare.suc-suc

left_rank_lem : (n : Lean) (l p : Precedence) → left_needs_group n l p ≡ ltb (rank_of p) (left_rank n l)
unfolding left_needs_group
left_rank_lem Left l p = refl
left_rank_lem Right l p = up_to p rank.Range
left_rank_lem Neither l p = up_to p l

right_rank_lem : (n : Lean) (l p : Precedence) → right_needs_group n l p ≡ ltb (rank_of p) (right_rank n l)
unfolding right_needs_group
right_rank_lem Left l p = up_to p l
right_rank_lem Right l p = sym (le-ltb (rank_of p) 0 (omega arith))
right_rank_lem Neither l p = up_to p l

abbrev test_left : Operator → ℕ
test_left o = left_rank (binop_binding (number o)).lean (of_binop (number o))

abbrev test_right : Operator → ℕ
test_right o = right_rank (binop_binding (number o)).lean (of_binop (number o))

pub assign_left : (a : Expr one) → Groups (left_needs_group Right rank.Assign) false a (ltb (strength false a) (before (kind token.assign)))
unfolding kind opens_arguments lookup pick
assign_left a p e = left_rank_lem Right rank.Assign p ∙ ap (λ n. ltb n 3) e ∙ assign_test false a

pub left_test : (o : Operator) → number o < 28 → (g : Bool) (a : Expr one) → Groups (left_needs_group (binop_binding (number o)).lean (of_binop (number o))) g a (ltb (strength g a) (before (kind o)))
unfolding of_binop operators lookup pick kind
left_test o h g a p s = left_rank_lem (binop_binding (number o)).lean (of_binop (number o)) p ∙ ap (λ n. ltb n (test_left o)) s ∙ go (eqb (level (kind o)) 1) refl
  where
    go : (b : Bool) → eqb (level (kind o)) 1 ≡ b → ltb (strength g a) (test_left o) ≡ ltb (strength g a) (before (kind o))
    go true e =
        let own = eqb (level (kind o)) 1 in
        let l = equal_when own (test_left o) 3 e (but_assign (λ q. not (eqb (level (kind q)) 1) || eqb (test_left q) 3) tt o h) in
        let r = equal_when own (before (kind o)) 2 e (but_assign (λ q. not (eqb (level (kind q)) 1) || eqb (before (kind q)) 2) tt o h) in
        ap (ltb (strength g a)) l ∙ assign_test g a ∙ sym (ap (ltb (strength g a)) r)
    go false e =
        ap (ltb (strength g a))
        (equal_unless (eqb (level (kind o)) 1) (test_left o) (before (kind o)) e (but_assign (λ q. eqb (level (kind q)) 1 || eqb (test_left q) (before (kind q))) tt o h))

pub right_test : (o : Operator) → number o < 28 → (g : Bool) (b : Expr one) → Groups (right_needs_group (binop_binding (number o)).lean (of_binop (number o))) g b (ltb (strength g b) (right_lowest (kind o)))
unfolding of_binop operators lookup pick kind
right_test o h g b p s =
    right_rank_lem (binop_binding (number o)).lean (of_binop (number o)) p
    ∙ ap₂ ltb s (eqb→eq (test_right o) (right_lowest (kind o)) (but_assign (λ q. eqb (test_right q) (right_lowest (kind q))) tt o h))

-- ---- what is called, in our callee order: by its strength, or a named Field. Nothing plain is a Group

abbrev pub weak_or_dot_name : Expr one → Bool
weak_or_dot_name a = ltb (strength false a) (before postfixes) || ends_in_dot_name a

abbrev weak_or_named : Expr one → Bool
weak_or_named a = ltb (strength false a) 15 || named_field (tree_of a)

-- what ends in a dot and a name without being a Field is weaker
weak_or_named_lem : (a : Expr one) → weak_or_named a ≡ weak_or_dot_name a
unfolding named_field walk follow callee_lines lookup pick strength operator_label kind
weak_or_named_lem (atom (path y)) = refl
weak_or_named_lem (atom (literal y)) = refl
weak_or_named_lem (atom structure) = refl
weak_or_named_lem (paren a) = refl
weak_or_named_lem (prefix neg a) = refl
weak_or_named_lem (prefix deref a) = refl
weak_or_named_lem (prefix invert a) = refl
weak_or_named_lem (prefix ref a) = refl
weak_or_named_lem (prefix ref_mut a) = refl
weak_or_named_lem (binary o a b) = rw (lt-ltb (strength false (binary o a b)) 15 (omega (arith, operator_high o)))
weak_or_named_lem (cast a t) = refl
weak_or_named_lem (member (by_name y) a) = refl
weak_or_named_lem (member (by_number y) a) = refl
weak_or_named_lem (member awaited a) = refl
weak_or_named_lem (try a) = refl
weak_or_named_lem (index a b) = refl
weak_or_named_lem (call a l) = refl
weak_or_named_lem (method y a l) = refl

pub call_test : (a : Expr one) → Groups (call_needs_group Ours (tree_of a)) false a (weak_or_dot_name a)
unfolding call_needs_group
call_test a p s = ap (λ n. ltb n 15 || named_field (tree_of a)) s ∙ weak_or_named_lem a
