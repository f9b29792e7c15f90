-- What a plain owner in contexts 0 and 3 hands to each of its operands: a calm context, the flag of `<` and `<<`, and the pair that strength and the context ask for. Assumes nothing.
use mathlib.Core.Path.{◌≡◌, refl, sym, subst, ap, ◌∙◌}
use mathlib.Core.Bool.{Bool, true, false, ◌||◌}
use Prim.Native.Nat.{ℕ, ◌≤◌, ◌<◌}
use native.Mathlib.Omega.{arith}
use lib.Dec.{ltb}
use borrow.Author.Tests.{le-ltb}
use Rattle.laws.specs.Choice.{pick, lookup}
use Rattle.laws.proofs.Choice.{true_not_false}
use Rattle.tree.specs.Forms.{link}
use Rattle.tree.specs.Trees.{Tree, node}
use Rattle.precedence.specs.declared.Precedence.{Precedence}
use Rattle.precedence.specs.declared.Precedence.TheVariants as rank
use Rattle.precedence.specs.declared.Lean.TheVariants.{Right}
use Rattle.precedence.specs.Precedences.{rank_of, below, binop_binding, of_binop}
use Rattle.fixup.specs.declared.context.FixupContext.{FixupContext}
use Rattle.fixup.specs.Contexts.{none_context}
use Rattle.fixup_scan.specs.Scans.{scanned}
use Rattle.fixup_subexpression.specs.Subexpressions.{leftmost_with_operator, leftmost_with_dot, rightmost_operand}
use Rattle.expr.specs.declared.Handed.{Handed}
use Rattle.expr.specs.Handed.{grouped_by, ungrouped, neither}
use Rattle.expr.specs.declared.order.CalleeOrder.TheVariants.{Ours}
use Rattle.expr.specs.Expr.{can_begin_expr, can_begin_generics, left_needs_group, right_needs_group, binary_left, binary_right, call_needs_group, first_lines, hands_first, second_lines, hands_second}
use Rattle.row.specs.Rows.{outer_pair}
use Rattle.token_grammar.specs.Tokens.{Operator, number}
use Rattle.token_grammar.specs.Levels.{kind, before, after, casts, prefixes, postfixes}
use Rattle.token_grammar.specs.Types.{one, list, Ty}
use Rattle.token_grammar.specs.Expressions.{Prefix, neg, deref, invert, ref, ref_mut, Member, by_name, by_number, awaited, Expr, paren, prefix, binary, cast, member, try, index, call, method, ends_in_dot_name}
use Rattle.token_grammar.specs.Grammar.{Context, opens_arguments, excluded}
use Rattle.token_grammar.specs.Grammar as grammar
use Rattle.token_grammar.proofs.Added.{strength, too_weak, too_weak_before, too_weak_after, too_weak_to_call}
use Rattle.token_grammar.proofs.Levels.{binop_level, operator_low, operator_high}
use Rattle.token_plain.specs.Trees.{label, operator_label, tree_of}
use Rattle.token_rows.proofs.Contexts.{begun, Calm, calm_begun, calm_operator, calm_dot, calm_rightmost}
use Rattle.token_rows.proofs.Nodes.{Operating, assigning, operating, operated}
use Rattle.token_rows.proofs.Operands.{Settled}
use Rattle.token_rows.proofs.Tests.{Groups, operator_pair, dot_pair, end_pair, root_pair, generics_is, operator_settled, assign_left, left_test, right_test, weak_or_dot_name, call_test}

-- an operand that gets h has a pair where p says so, and the flag g stands over it
pub record Operand (k : Context) (h : Handed) (a : Expr one) (p g : Bool) : Type 0 where
  pub calm : Calm k h.fixup
  pub settled : Settled h.fixup
  pub pair : outer_pair h (tree_of a) ≡ p
  pub flag : h.fixup.next_operator_can_begin_generics ≡ g

-- what is handed down with no owner's test: the root, and an item, an index, what stands in parentheses
pub root : (k : Context) (a : Expr one) → Operand k (neither (begun k) (tree_of a)) a (excluded k a) false
unfolding neither ungrouped
root k a = record { calm = calm_begun k; settled = λ e. true_not_false (sym e); pair = root_pair k a; flag = refl }

pub alone : (a : Expr one) → Operand grammar.NONE (neither none_context (tree_of a)) a false false
alone a = root grammar.NONE a

regroup : (a b c : Bool) → a || (b || c) ≡ (a || b) || c
regroup true b c = refl
regroup false b c = refl

module _ (k : Context) (x : FixupContext) (c : Calm k x) (s : Settled x) where
  abbrev g : Bool
  g = x.next_operator_can_begin_generics

  -- an operand before an operator without the flag
  before_other : (begins : Bool) (next : Precedence) (group : Precedence → Bool) (a : Expr one) (v : Bool) → 1 ≤ rank_of next → Groups group false a v
      → Operand k (grouped_by (leftmost_with_operator x (tree_of a) begins false next) group) a (excluded k a || v) false
  unfolding grouped_by
  before_other begins next group a v h e =
      record {
        calm = calm_operator k x c begins false next;
        settled = λ e. true_not_false (sym e);
        pair = operator_pair k x c a group v begins false next h e;
        flag = refl;
      }

  before_binary : (o : Operator) → number o < 28 → (a : Expr one) → Operand k (binary_left x (tree_of a) (number o)) a (too_weak_before k o a) (opens_arguments o)
  unfolding binary_left grouped_by of_binop
  before_binary o h a =
      let begins = can_begin_expr (number o) in
      let generics = can_begin_generics (number o) in
      let next = of_binop (number o) in
      record {
        calm = calm_operator k x c begins generics next;
        settled = operator_settled x o h;
        pair =
            operator_pair k x c a (left_needs_group (binop_binding (number o)).lean next) _ begins generics next (rw (binop_level o h) (operator_low o)) (left_test o h generics a)
            ∙ ap (λ f. too_weak k (before (kind o)) f a) (generics_is o h);
        flag = generics_is o h;
      }

  before_dot : (a : Expr one) → Operand k (grouped_by (leftmost_with_dot x (tree_of a)) (λ left. below left rank.Unambiguous)) a (too_weak k (before postfixes) false a) false
  unfolding grouped_by
  before_dot a =
      record {
        calm = calm_dot k x c;
        settled = λ e. true_not_false (sym e);
        pair = dot_pair k x c a (λ left. below left rank.Unambiguous) _ (λ p e. ap (λ n. ltb n 15) e);
        flag = refl;
      }

  at_end : (previous : Precedence) (group : Precedence → Bool) (a : Expr one) (v : Bool) → rank_of previous ≤ 14 → Groups group g a v
      → Operand k (grouped_by (rightmost_operand x (tree_of a) previous) group) a (excluded k a || v) g
  unfolding grouped_by scanned
  at_end previous group a v h e = record { calm = calm_rightmost k x c previous; settled = s; pair = end_pair k x c a group v previous s h e; flag = refl }

  after_prefix : (a : Expr one) → Operand k (grouped_by (rightmost_operand x (tree_of a) rank.Prefix) (λ right. below right rank.Prefix)) a (too_weak k (after prefixes) g a) g
  after_prefix a = at_end rank.Prefix (λ right. below right rank.Prefix) a _ (omega arith) (λ p e. ap (λ n. ltb n 14) e)

  -- ---- owner by owner

  pub prefix_first : (p : Prefix) (a : Expr one) → Operand k (hands_first Ours x (tree_of (prefix p a))) a (too_weak k (after prefixes) g a) g
  unfolding hands_first first_lines lookup pick
  prefix_first neg a = after_prefix a
  prefix_first deref a = after_prefix a
  prefix_first invert a = after_prefix a
  prefix_first ref a = after_prefix a
  prefix_first ref_mut a = after_prefix a

  pub binary_first : (o : Operator) (a b : Expr one) → Operand k (hands_first Ours x (tree_of (binary o a b))) a (too_weak_before k o a) (opens_arguments o)
  unfolding hands_first first_lines lookup pick operator_label opens_arguments kind
  binary_first o a b = go (operated o)
    where
      go : Operating o → Operand k (hands_first Ours x (tree_of (binary o a b))) a (too_weak_before k o a) (opens_arguments o)
      go (assigning e) = rw e (before_other false rank.Assign (left_needs_group Right rank.Assign) a _ (omega arith) (assign_left a))
      go (operating h e) = rw e (before_binary o h a)

  pub binary_second : (o : Operator) (a b : Expr one) → Operand k (hands_second x (tree_of (binary o a b))) b (too_weak_after k o g b) g
  unfolding hands_second second_lines lookup pick operator_label binary_right right_needs_group kind of_binop
  binary_second o a b = go (operated o)
    where
      go : Operating o → Operand k (hands_second x (tree_of (binary o a b))) b (too_weak_after k o g b) g
      go (assigning e) = rw e (at_end rank.Assign (right_needs_group Right rank.Assign) b _ (omega arith) (λ p q. sym (le-ltb (strength g b) 0 (omega arith))))
      go (operating h e) =
          rw e
          (at_end (of_binop (number o)) (right_needs_group (binop_binding (number o)).lean (of_binop (number o))) b _ (rw (binop_level o h) (omega (arith, operator_high o))) (right_test o h g b))

  pub cast_first : (a : Expr one) (t : Ty one) → Operand k (hands_first Ours x (tree_of (cast a t))) a (too_weak k (before casts) false a) false
  unfolding hands_first first_lines lookup pick
  cast_first a t = before_other false rank.Cast (λ left. below left rank.Cast) a _ (omega arith) (λ p e. ap (λ n. ltb n 13) e)

  pub member_first : (m : Member) (a : Expr one) → Operand k (hands_first Ours x (tree_of (member m a))) a (too_weak k (before postfixes) false a) false
  unfolding hands_first first_lines lookup pick
  member_first (by_name y) a = before_dot a
  member_first (by_number y) a = before_dot a
  member_first awaited a = before_dot a

  pub try_first : (a : Expr one) → Operand k (hands_first Ours x (tree_of (try a))) a (too_weak k (before postfixes) false a) false
  unfolding hands_first first_lines lookup pick
  try_first a = before_dot a

  pub index_first : (a b : Expr one) → Operand k (hands_first Ours x (tree_of (index a b))) a (too_weak k (before postfixes) false a) false
  unfolding hands_first first_lines lookup pick
  index_first a b = before_other true rank.Unambiguous (λ left. below left rank.Unambiguous) a _ (omega arith) (λ p e. ap (λ n. ltb n 15) e)

  pub call_first : (a : Expr one) (l : Expr list) → Operand k (hands_first Ours x (tree_of (call a l))) a (too_weak_to_call k a) false
  unfolding hands_first first_lines lookup pick
  call_first a l =
      subst (λ p. Operand k (hands_first Ours x (tree_of (call a l))) a p false) (regroup (excluded k a) (ltb (strength false a) 15) (ends_in_dot_name a))
      (before_other true rank.Unambiguous (call_needs_group Ours (tree_of a)) a (weak_or_dot_name a) (omega arith) (call_test a))

  pub method_first : (y : ℕ) (a : Expr one) (l : Expr list) → Operand k (hands_first Ours x (tree_of (method y a l))) a (too_weak k (before postfixes) false a) false
  unfolding hands_first first_lines lookup pick
  method_first y a l = before_dot a

-- ---- owners that hand down NONE

pub paren_first : (x : FixupContext) (a : Expr one) → hands_first Ours x (tree_of (paren a)) ≡ neither none_context (tree_of a)
unfolding hands_first first_lines lookup pick
paren_first x a = refl

pub index_second : (x : FixupContext) (a b : Expr one) → hands_second x (tree_of (index a b)) ≡ neither none_context (tree_of b)
unfolding hands_second second_lines lookup pick
index_second x a b = refl

pub link_first : (x : FixupContext) (a b : Tree) → hands_first Ours x (node (label link 0) a b) ≡ neither none_context a
unfolding hands_first first_lines lookup pick
link_first x a b = refl
