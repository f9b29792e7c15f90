-- The rows of an accepted plain table have the pairs that levels ask for: tokens and pairs by places are those by rows. Assumes nothing.
use mathlib.Core.Path.{◌≡◌, refl, sym, subst, ap, ap₂, ◌∙◌}
use mathlib.Core.Bool.{Bool, true, false, ◌&&◌, ◌||◌}
use mathlib.Core.List.{List}
use Prim.Native.Nat.{ℕ, suc, ◌+◌, ◌/◌, ◌%◌, ◌≤◌, ◌<◌}
use native.Mathlib.Omega.{arith}
use lib.Dec.{ltb}
use borrow.Author.Tests.{lt-ltb, le-ltb}
use Rattle.bools.specs.Bits.{bit_of}
use Rattle.laws.specs.Choice.{pick, lookup}
use Rattle.laws.proofs.Choice.{pick_true, pick_false, true_not_false}
use Rattle.tree.specs.Forms.{class_of}
use Rattle.tree.specs.Trees.{Tree, none, node}
use Rattle.fixup.specs.declared.context.FixupContext.{FixupContext}
use Rattle.fixup.specs.Contexts.{none_context}
use Rattle.expr.specs.declared.Handed.{Handed}
use Rattle.expr.specs.Handed.{neither}
use Rattle.expr.specs.declared.order.CalleeOrder.TheVariants.{Ours}
use Rattle.expr.specs.Expr.{hands_first, hands_second}
use Rattle.row.specs.Rows.{is_expression, own_context}
use Rattle.token_grammar.specs.Tokens.{Operator, Token}
use Rattle.token_grammar.specs.Levels.{kind, level, leans_left, leans_right, lowest, before, after, casts, prefixes, postfixes}
use Rattle.token_grammar.specs.Types.{Sort, one, list, items, const_ptr, mut_ptr, shared_ref, mut_ref, infer, never, Ty, named, applied, pointing, sign, no_types, types, last_type, more_types, type_ends_in_name}
use Rattle.token_grammar.specs.Expressions.{path, literal, structure, Prefix, neg, deref, invert, ref, ref_mut, Member, by_name, by_number, awaited, Expr, atom, paren, prefix, binary, cast, member, try, index, call, method, no_arguments, arguments, last_argument, more_arguments, ends_in_dot_name, is_struct}
use Rattle.token_grammar.specs.Grammar.{Context, CONDITION, opens_arguments, excluded}
use Rattle.token_grammar.specs.Grammar as grammar
use Rattle.token_grammar.proofs.Added.{strength, too_weak, lowest_right, too_weak_to_call}
use Rattle.token_grammar.proofs.Levels.{operator_high}
use Rattle.token_grammar.proofs.Tokens.{operator_number}
use Rattle.token_plain.specs.Trees.{prefix_label, operator_label, member_label, tree_of, tree_of_type}
use Rattle.token_plain.specs.Written.{signs_of}
use Rattle.token_rows.proofs.Contexts.{begun, Calm, calm_none}
use Rattle.token_rows.proofs.Contexts as rows
use Rattle.token_rows.proofs.Nodes.{Operating, assigning, operating, operated, facts, path_ends}
use Rattle.token_rows.proofs.Operands.{Settled}
use Rattle.token_rows.proofs.Handed.{Operand, root, alone, prefix_first, binary_first, binary_second, cast_first, member_first, try_first, index_first, call_first, method_first, paren_first, index_second, link_first}
use Rattle.token_rows.proofs.Tokens.{marked, tokens_for, marked_other, marked_expression, own_expression}
use Rattle.token_rows.proofs.Numbers.{within_by, inside_by}
use Rattle.token_writer.specs.Levels.{opening, conditional, place, lowest_in, opens_in, condition_in, callable, closed, strength_lines, strength_of, needs_by, needs, lowest_after, first_lines, first_by, second_lines, second_by, kept, tokens_by, pairs_by}

-- ---- what a place's number says

module _ (n : ℕ) (low : n < opening) where
  pub lowest_in_lem : (g c : Bool) → lowest_in (place n g c) ≡ n
  unfolding lowest_in
  lowest_in_lem true true = omega arith
  lowest_in_lem true false = omega arith
  lowest_in_lem false true = omega arith
  lowest_in_lem false false = omega arith

  pub opens_in_lem : (g c : Bool) → opens_in (place n g c) ≡ g
  unfolding opens_in
  opens_in_lem true true = let e : (place n true true) / opening % 2 ≡ 1 = omega arith in rw e
  opens_in_lem true false = let e : (place n true false) / opening % 2 ≡ 1 = omega arith in rw e
  opens_in_lem false true = let e : (place n false true) / opening % 2 ≡ 0 = omega arith in rw e
  opens_in_lem false false = let e : (place n false false) / opening % 2 ≡ 0 = omega arith in rw e

  pub condition_in_lem : (g c : Bool) → condition_in (place n g c) ≡ c
  unfolding condition_in
  condition_in_lem true true = let e : (place n true true) / conditional ≡ 1 = omega arith in rw e
  condition_in_lem true false = let e : (place n true false) / conditional ≡ 0 = omega arith in rw e
  condition_in_lem false true = let e : (place n false true) / conditional ≡ 1 = omega arith in rw e
  condition_in_lem false false = let e : (place n false false) / conditional ≡ 0 = omega arith in rw e

-- ---- what a plain expression needs

-- the pair of the tree at a place
abbrev pub needs_at : ℕ → Tree → Bool
needs_at p none = false
needs_at p (node l a b) = needs p l b

abbrev needs_in : ℕ → Bool → Bool → Tree → Bool
needs_in n g c none = false
needs_in n g c (node l a b) = needs_by n g c l b

needs_in_lem : (n : ℕ) → n < opening → (g c : Bool) (t : Tree) → needs_at (place n g c) t ≡ needs_in n g c t
unfolding needs
needs_in_lem n h g c none = refl
needs_in_lem n h g c (node l a b) = rw (lowest_in_lem n h g c, opens_in_lem n h g c, condition_in_lem n h g c)

needs_zero : (t : Tree) → needs_at 0 t ≡ false
unfolding needs_by
needs_zero none = refl
needs_zero (node l a b) = needs_in_lem 0 (omega arith) false false (node l a b) ∙ le-ltb (strength_of false l b) 0 (omega arith)

-- strengths as levels have them, with those that may be called above all
abbrev strong : Bool → Expr one → ℕ
strong g (atom x) = closed
strong g (paren a) = closed
strong g (prefix p a) = level prefixes
strong g (binary o a b) = level (kind o)
strong g (cast a t) = pick (g && type_ends_in_name t) 0 (level casts)
strong g (member (by_name y) a) = level postfixes
strong g (member (by_number y) a) = closed
strong g (member awaited a) = closed
strong g (try a) = closed
strong g (index a b) = closed
strong g (call a l) = closed
strong g (method y a l) = closed

needs_strong : (n : ℕ) (g c : Bool) (e : Expr one) → needs_in n g c (tree_of e) ≡ (c && is_struct e) || ltb (strong g e) n
unfolding needs_by strength_of strength_lines lookup pick operator_label kind
needs_strong n g c (atom (path y)) = refl
needs_strong n g c (atom (literal y)) = refl
needs_strong n g c (atom structure) = refl
needs_strong n g c (paren a) = refl
needs_strong n g c (prefix neg a) = refl
needs_strong n g c (prefix deref a) = refl
needs_strong n g c (prefix invert a) = refl
needs_strong n g c (prefix ref a) = refl
needs_strong n g c (prefix ref_mut a) = refl
needs_strong n g c (binary o a b) = go (operated o)
  where
    go : Operating o → needs_in n g c (tree_of (binary o a b)) ≡ (c && false) || ltb (level (kind o)) n
    go (assigning e) = rw e
    go (operating h e) = rw (e, operator_number o)
needs_strong n g c (cast a t) = rw (path_ends t)
needs_strong n g c (member (by_name y) a) = refl
needs_strong n g c (member (by_number y) a) = refl
needs_strong n g c (member awaited a) = refl
needs_strong n g c (try a) = refl
needs_strong n g c (index a b) = refl
needs_strong n g c (call a l) = refl
needs_strong n g c (method y a l) = refl

both_strong : (n : ℕ) → n ≤ level postfixes → ltb closed n ≡ ltb (level postfixes) n
both_strong n h = le-ltb closed n (omega arith) ∙ sym (le-ltb (level postfixes) n (omega arith))

off : (b : Bool) → b && false ≡ false
off true = refl
off false = refl

low_strong : (n : ℕ) → n ≤ level postfixes → (g : Bool) (e : Expr one) → ltb (strong g e) n ≡ ltb (strength g e) n
unfolding strength pick
low_strong n h g (atom x) = rw (off g) (both_strong n h)
low_strong n h g (paren a) = rw (off g) (both_strong n h)
low_strong n h g (prefix p a) = rw (off g)
low_strong n h g (binary o a b) = rw (off g)
low_strong n h g (cast a t) = refl
low_strong n h g (member (by_name y) a) = rw (off g)
low_strong n h g (member (by_number y) a) = rw (off g) (both_strong n h)
low_strong n h g (member awaited a) = rw (off g) (both_strong n h)
low_strong n h g (try a) = rw (off g) (both_strong n h)
low_strong n h g (index a b) = rw (off g) (both_strong n h)
low_strong n h g (call a l) = rw (off g) (both_strong n h)
low_strong n h g (method y a l) = rw (off g) (both_strong n h)

-- what may be called
call_strong : (e : Expr one) → ltb (strong false e) callable ≡ ltb (strength false e) (level postfixes) || ends_in_dot_name e
unfolding strength pick
call_strong (atom x) = refl
call_strong (paren a) = refl
call_strong (prefix p a) = refl
call_strong (binary o a b) = rw (lt-ltb (level (kind o)) (level postfixes) (omega (arith, operator_high o)), lt-ltb (level (kind o)) callable (omega (arith, operator_high o)))
call_strong (cast a t) = refl
call_strong (member (by_name y) a) = refl
call_strong (member (by_number y) a) = refl
call_strong (member awaited a) = refl
call_strong (try a) = refl
call_strong (index a b) = refl
call_strong (call a l) = refl
call_strong (method y a l) = refl

-- the context's flag
abbrev pub flag : Context → Bool
flag c = rows.conditional c

excluded_by : (k : Context) (e : Expr one) → flag k && is_struct e ≡ excluded k e
excluded_by grammar.NONE e = refl
excluded_by CONDITION e = refl

needs_low : (k : Context) (n : ℕ) → n ≤ level postfixes → (g : Bool) (e : Expr one) → needs_at (place n g (flag k)) (tree_of e) ≡ too_weak k n g e
needs_low k n h g e =
    needs_in_lem n (omega arith) g (flag k) (tree_of e) ∙ needs_strong n g (flag k) e ∙ ap₂ ◌||◌ (excluded_by k e) (low_strong n h g e)

needs_call : (k : Context) (e : Expr one) → needs_at (place callable false (flag k)) (tree_of e) ≡ too_weak_to_call k e
needs_call k e =
    needs_in_lem callable (omega arith) false (flag k) (tree_of e)
    ∙ needs_strong callable false (flag k) e
    ∙ ap₂ ◌||◌ (excluded_by k e) (call_strong e)
    ∙ regroup (excluded k e) (ltb (strength false e) (level postfixes)) (ends_in_dot_name e)
  where
    regroup : (a b c : Bool) → a || (b || c) ≡ (a || b) || c
    regroup true b c = refl
    regroup false b c = refl

-- ---- the pairs that rows have and those that places ask for

-- inside a node that has the context x, and where the flags g and c hold
abbrev Inside : FixupContext → Bool → Bool → Tree → Type 0
Inside x g c none = Unit {0}
Inside x g c (node l a b) =
    (let h = hands_first Ours x (node l a b) in let p = first_by g c l in
    (marked h a ≡ needs_at p a) × Inside (own_context h a) (kept (needs_at p a) (opens_in p)) (kept (needs_at p a) (condition_in p)) a)
    × (let h = hands_second x (node l a b) in let p = second_by g c l in
    (marked h b ≡ needs_at p b) × Inside (own_context h b) (kept (needs_at p b) (opens_in p)) (kept (needs_at p b) (condition_in p)) b)

-- all of a tree that gets h and stands at p
abbrev pub Same : Handed → ℕ → Tree → Type 0
Same h p t = (marked h t ≡ needs_at p t) × Inside (own_context h t) (kept (needs_at p t) (opens_in p)) (kept (needs_at p t) (condition_in p)) t

-- the tokens
pub tokens_same : (t : Tree) (h : Handed) (p : ℕ) → Same h p t → (rest : List Token) → tokens_for h t rest ≡ tokens_by p t rest
unfolding tokens_for tokens_by
tokens_same none h p s rest = refl
tokens_same (node l a b) h p s rest = within_by s.0 (inside_by (signs_of l b) (tokens_same a _ _ s.1.0) (tokens_same b _ _ s.1.1)) rest

-- the pairs
unfoldable pub pairs_for : Handed → Tree → ℕ
pairs_for h none = 0
pairs_for h (node l a b) =
    bit_of (marked h (node l a b))
    + (pairs_for (hands_first Ours (own_context h (node l a b)) (node l a b)) a + pairs_for (hands_second (own_context h (node l a b)) (node l a b)) b)

pub pairs_same : (t : Tree) (h : Handed) (p : ℕ) → Same h p t → pairs_for h t ≡ pairs_by p t
unfolding pairs_for pairs_by
pairs_same none h p s = refl
pairs_same (node l a b) h p s = ap₂ ◌+◌ (ap bit_of s.0) (ap₂ ◌+◌ (pairs_same a _ _ s.1.0) (pairs_same b _ _ s.1.1))

-- ---- types and links have no pairs, and stand at 0

other_same : (h : Handed) (t : Tree) → is_expression t ≡ false → Inside (own_context h t) false false t → Same h 0 t
unfolding opens_in condition_in pick
other_same h t e i = (marked_other h t e ∙ sym (needs_zero t), rw (needs_zero t) i)

none_same : (h : Handed) → Same h 0 none
none_same h = other_same h none refl tt

types_same : {s : Sort} (t : Ty s) (h : Handed) → Same h 0 (tree_of_type t)
unfolding first_by first_lines second_by second_lines lookup pick class_of
types_same (named y) h = other_same h _ refl (none_same _, none_same _)
types_same (applied y l) h = other_same h _ refl (none_same _, types_same l _)
types_same (pointing const_ptr t) h = other_same h _ refl (types_same t _, none_same _)
types_same (pointing mut_ptr t) h = other_same h _ refl (types_same t _, none_same _)
types_same (pointing shared_ref t) h = other_same h _ refl (types_same t _, none_same _)
types_same (pointing mut_ref t) h = other_same h _ refl (types_same t _, none_same _)
types_same (sign infer) h = other_same h _ refl (none_same _, none_same _)
types_same (sign never) h = other_same h _ refl (none_same _, none_same _)
types_same no_types h = none_same h
types_same (types l) h = types_same l h
types_same (last_type comma t) h = other_same h _ refl (types_same t _, none_same _)
types_same (more_types t l) h = other_same h _ refl (types_same t _, types_same l _)

-- ---- expressions, operand by operand

abbrev InsideSame : Expr one → Type 0
InsideSame e = (k : Context) (x : FixupContext) → Calm k x → Settled x → Inside x x.next_operator_can_begin_generics (flag k) (tree_of e)

operand_same : {k : Context} {h : Handed} {a : Expr one} {p g : Bool} → Operand k h a p g → InsideSame a → (n : ℕ) → n < opening → needs_at (place n g (flag k)) (tree_of a) ≡ p → Same h (place n g (flag k)) (tree_of a)
operand_same {k} {h} {a} {p} {g} o is n low e = (
  marked_expression h (tree_of a) (facts a).expression ∙ o.pair ∙ sym e,
  rw (e, opens_in_lem n low g (flag k), condition_in_lem n low g (flag k), own_expression h (tree_of a) (facts a).expression ∙ ap (λ b. pick b none_context h.fixup) o.pair) (by p),
)
  where
    by : (p : Bool) → Inside (pick p none_context h.fixup) (kept p g) (kept p (flag k)) (tree_of a)
    by true = rw (pick_true none_context h.fixup refl, pick_true false g refl, pick_true false (flag k) refl) (is grammar.NONE none_context calm_none (λ e. true_not_false (sym e)))
    by false = rw (pick_false none_context h.fixup refl, pick_false false g refl, pick_false false (flag k) refl, ← o.flag) (is k h.fixup o.calm o.settled)

alone_same : (a : Expr one) → InsideSame a → Same (neither none_context (tree_of a)) 0 (tree_of a)
alone_same a is = operand_same (alone a) is 0 (omega arith) (needs_zero (tree_of a))

abbrev IsSame : (s : Sort) → Expr s → Type 0
IsSame one e = InsideSame e
IsSame list l = (h : Handed) → Same h 0 (tree_of l)
IsSame items l = (h : Handed) → Same h 0 (tree_of l)

pub right_low : (o : Operator) → lowest_after o ≤ level postfixes
unfolding pick
right_low o = go (leans_right (kind o))
  where
    go : (b : Bool) → pick b 0 (suc (level (kind o))) ≤ level postfixes
    go true = omega arith
    go false = omega (arith, operator_high o)

pub left_low : (o : Operator) → before (kind o) ≤ level postfixes
left_low o = go (leans_left (kind o))
  where
    go : (b : Bool) → lowest b (level (kind o)) ≤ level postfixes
    go true = omega (arith, operator_high o)
    go false = omega (arith, operator_high o)

-- what owners with more than one label hand down
module _ (g c : Bool) where
  prefix_place : (p : Prefix) → first_by g c (prefix_label p) ≡ place (after prefixes) g c
  unfolding first_by first_lines lookup pick
  prefix_place neg = refl
  prefix_place deref = refl
  prefix_place invert = refl
  prefix_place ref = refl
  prefix_place ref_mut = refl

  prefix_none : (p : Prefix) → second_by g c (prefix_label p) ≡ 0
  unfolding second_by second_lines lookup pick
  prefix_none neg = refl
  prefix_none deref = refl
  prefix_none invert = refl
  prefix_none ref = refl
  prefix_none ref_mut = refl

  member_none : (m : Member) → second_by g c (member_label m) ≡ 0
  unfolding second_by second_lines lookup pick
  member_none (by_name y) = refl
  member_none (by_number y) = refl
  member_none awaited = refl

  member_place : (m : Member) → first_by g c (member_label m) ≡ place (before postfixes) false c
  unfolding first_by first_lines lookup pick
  member_place (by_name y) = refl
  member_place (by_number y) = refl
  member_place awaited = refl

  left_place : (o : Operator) → first_by g c (operator_label o) ≡ place (before (kind o)) (opens_arguments o) c
  unfolding first_by first_lines lookup pick operator_label opens_arguments
  left_place o = go (operated o)
    where
      go : Operating o → first_by g c (operator_label o) ≡ place (before (kind o)) (opens_arguments o) c
      go (assigning e) = rw e
      go (operating h e) = rw (e, operator_number o)

  right_place : (o : Operator) → second_by g c (operator_label o) ≡ place (lowest_after o) g c
  unfolding second_by second_lines lookup pick operator_label
  right_place o = go (operated o)
    where
      go : Operating o → second_by g c (operator_label o) ≡ place (lowest_after o) g c
      go (assigning e) = rw e
      go (operating h e) = rw (e, operator_number o)

at_place : (h : Handed) (t : Tree) {p q : ℕ} → p ≡ q → Same h q t → Same h p t
at_place h t e s = subst (λ r. Same h r t) (sym e) s

lowest_after_lem : (o : Operator) → lowest_after o ≡ lowest_right (leans_right (kind o)) (level (kind o))
unfolding pick
lowest_after_lem o = go (leans_right (kind o))
  where
    go : (b : Bool) → pick b 0 (suc (level (kind o))) ≡ lowest_right b (level (kind o))
    go true = refl
    go false = refl

is_same : (s : Sort) (e : Expr s) → IsSame s e
unfolding first_by first_lines second_by second_lines lookup pick class_of
is_same s (atom (path y)) = λ k x c w. (none_same _, none_same _)
is_same s (atom (literal y)) = λ k x c w. (none_same _, none_same _)
is_same s (atom structure) = λ k x c w. (none_same _, none_same _)
is_same s (paren a) = λ k x c w. (rw (paren_first x a) (alone_same a (is_same one a)), none_same _)
is_same s (prefix p a) = λ k x c w.
    let g = x.next_operator_can_begin_generics in (
      at_place (hands_first Ours x (tree_of (prefix p a))) (tree_of a) (prefix_place g (flag k) p) (operand_same (prefix_first k x c w p a) (is_same one a) (after prefixes) (omega arith) (needs_low k (after prefixes) (omega arith) g a)),
      at_place (hands_second x (tree_of (prefix p a))) none (prefix_none g (flag k) p) (none_same _),
    )
is_same s (binary o a b) = λ k x c w.
    let g = x.next_operator_can_begin_generics in (
      at_place (hands_first Ours x (tree_of (binary o a b))) (tree_of a) (left_place g (flag k) o)
          (operand_same (binary_first k x c w o a b) (is_same one a) (before (kind o)) (omega (arith, left_low o)) (needs_low k (before (kind o)) (left_low o) (opens_arguments o) a)),
      at_place (hands_second x (tree_of (binary o a b))) (tree_of b) (right_place g (flag k) o)
          (operand_same (binary_second k x c w o a b) (is_same one b) (lowest_after o) (omega (arith, right_low o))
          (needs_low k (lowest_after o) (right_low o) g b ∙ ap (λ n. too_weak k n g b) (lowest_after_lem o))),
    )
is_same s (cast a t) = λ k x c w. (operand_same (cast_first k x c w a t) (is_same one a) (before casts) (omega arith) (needs_low k (before casts) (omega arith) false a), types_same t _)
is_same s (member m a) = λ k x c w.
    let g = x.next_operator_can_begin_generics in (
      at_place (hands_first Ours x (tree_of (member m a))) (tree_of a) (member_place g (flag k) m) (operand_same (member_first k x c w m a) (is_same one a) (before postfixes) (omega arith) (needs_low k (before postfixes) (omega arith) false a)),
      at_place (hands_second x (tree_of (member m a))) none (member_none g (flag k) m) (none_same _),
    )
is_same s (try a) = λ k x c w. (operand_same (try_first k x c w a) (is_same one a) (before postfixes) (omega arith) (needs_low k (before postfixes) (omega arith) false a), none_same _)
is_same s (index a b) = λ k x c w. (
  operand_same (index_first k x c w a b) (is_same one a) (before postfixes) (omega arith) (needs_low k (before postfixes) (omega arith) false a),
  rw (index_second x a b) (alone_same b (is_same one b)),
)
is_same s (call a l) = λ k x c w.
    (operand_same (call_first k x c w a l) (is_same one a) callable (omega arith) (needs_call k a), is_same list l _)
is_same s (method y a l) = λ k x c w.
    (operand_same (method_first k x c w y a l) (is_same one a) (before postfixes) (omega arith) (needs_low k (before postfixes) (omega arith) false a), is_same list l _)
is_same s no_arguments = λ h. none_same h
is_same s (arguments l) = λ h. is_same items l h
is_same s (last_argument comma a) = λ h. other_same h _ refl (rw (link_first (own_context h (tree_of (last_argument comma a))) (tree_of a) none) (alone_same a (is_same one a)), none_same _)
is_same s (more_arguments a l) = λ h. other_same h _ refl (rw (link_first (own_context h (tree_of (more_arguments a l))) (tree_of a) (tree_of l)) (alone_same a (is_same one a)), is_same items l _)

-- ---- the root

pub root_same : (k : Context) (e : Expr one) → Same (neither (begun k) (tree_of e)) (place 0 false (flag k)) (tree_of e)
root_same k e = operand_same (root k e) (is_same one e) 0 (omega arith) (needs_low k 0 (omega arith) false e ∙ off_weak (excluded k e) (strength false e))
  where
    off_weak : (b : Bool) (s : ℕ) → b || ltb s 0 ≡ b
    off_weak true s = refl
    off_weak false s = le-ltb s 0 (omega arith)
