-- What the rows of a plain tree in context 0 or 3 write is the tree with the pairs that it needs. Assumes nothing.
use mathlib.Core.Path.{◌≡◌, refl, sym, ap, ◌∙◌}
use mathlib.Core.Bool.{Bool, true, false}
use mathlib.Core.List.{List, [], ◌∷◌, ◌++◌}
use lib.Dec.{eqb}
use Rattle.laws.specs.Choice.{pick, lookup, is_one_of}
use Rattle.laws.proofs.Choice.{pick_true, pick_false, true_not_false}
use Rattle.tree.specs.Forms.{link, class_of}
use Rattle.tree.specs.Trees.{Label, Tree, none, node}
use Rattle.fixup.specs.declared.context.FixupContext.{FixupContext}
use Rattle.fixup.specs.Contexts.{none_context}
use Rattle.expr.specs.declared.Handed.{Handed}
use Rattle.expr.specs.Handed.{neither}
use Rattle.expr.specs.declared.order.CalleeOrder.TheVariants.{Ours}
use Rattle.expr.specs.Expr.{hands_first, hands_second}
use Rattle.row.specs.Rows.{is_expression, outer_pair, inner_pair, pair_by, expression_row, row_of, own_context}
use Rattle.token_grammar.specs.Tokens.{Operator, Token, operator, lt, gt, as_token, name_token, dot, left_paren, right_paren, left_bracket, right_bracket, comma_token, question}
use Rattle.token_grammar.specs.Types.{Sort, one, list, items, TypePrefix, const_ptr, mut_ptr, shared_ref, mut_ref, TypeSign, infer, never, Ty, named, applied, pointing, sign, no_types, types, last_type, more_types, type_prefix_token, type_sign_token, write_type}
use Rattle.token_grammar.specs.Expressions.{Atom, path, literal, structure, Prefix, neg, deref, invert, ref, ref_mut, Member, by_name, by_number, awaited, Expr, atom, paren, prefix, binary, cast, member, try, index, call, method, no_arguments, arguments, last_argument, more_arguments, atom_token, prefix_token, member_token, write}
use Rattle.token_grammar.specs.Grammar.{Context}
use Rattle.token_grammar.specs.Grammar as grammar
use Rattle.token_grammar.specs.Commas.{without_type_commas, without_commas}
use Rattle.token_grammar.proofs.Added.{with_pair, add_pairs, add_all}
use Rattle.token_grammar.proofs.Tokens.{operator_number}
use Rattle.token_plain.specs.Trees.{label, atom_label, prefix_label, operator_label, member_label, type_prefix_label, type_sign_label, tree_of, tree_of_type}
use Rattle.token_plain.specs.Written.{Signs, signs, sign_lines, signs_of, within}
use Rattle.token_rows.proofs.Contexts.{begun, Calm, calm_none}
use Rattle.token_rows.proofs.Nodes.{Operating, assigning, operating, operated, facts}
use Rattle.token_rows.proofs.Operands.{Settled}
use Rattle.token_rows.proofs.Handed.{Operand, root, alone, prefix_first, binary_first, binary_second, cast_first, member_first, try_first, index_first, call_first, method_first, paren_first, index_second, link_first}

-- ---- tokens by what is handed down, from the root on

-- whether a row has an outer pair
unfoldable pub marked : Handed → Tree → Bool
marked h t = is_one_of (1 ∷ 3 ∷ []) (row_of h t).pair

-- a node's own signs with what its operands write
abbrev pub inside : Signs → (List Token → List Token) → (List Token → List Token) → List Token → List Token
inside s first second end = s.before ++ first (s.between ++ second (s.behind ++ end))

-- the tokens of a tree that gets h
unfoldable pub tokens_for : Handed → Tree → List Token → List Token
tokens_for h none rest = rest
tokens_for h (node l a b) rest =
    within
    (marked h (node l a b))
    (inside (signs_of l b) (tokens_for (hands_first Ours (own_context h (node l a b)) (node l a b)) a) (tokens_for (hands_second (own_context h (node l a b)) (node l a b)) b))
    rest

-- without a pair of its own, in its own context x
unfoldable pub inside_for : FixupContext → Tree → List Token → List Token
inside_for x none rest = rest
inside_for x (node l a b) rest = inside (signs_of l b) (tokens_for (hands_first Ours x (node l a b)) a) (tokens_for (hands_second x (node l a b)) b) rest

-- ---- rows

pub marked_other : (h : Handed) (t : Tree) → is_expression t ≡ false → marked h t ≡ false
unfolding marked row_of
marked_other h t e = rw (pick_false (expression_row h t) _ e)

pub marked_expression : (h : Handed) (t : Tree) → is_expression t ≡ true → marked h t ≡ outer_pair h t
unfolding marked row_of expression_row
marked_expression h t e = ap (λ r. is_one_of (1 ∷ 3 ∷ []) r.pair) (pick_true (expression_row h t) _ e) ∙ by (outer_pair h t) (inner_pair t)
  where
    by : (o i : Bool) → is_one_of (1 ∷ 3 ∷ []) (pair_by o i) ≡ o
    by true true = refl
    by true false = refl
    by false true = refl
    by false false = refl

pub own_expression : (h : Handed) (t : Tree) → is_expression t ≡ true → own_context h t ≡ pick (outer_pair h t) none_context h.fixup
unfolding own_context
own_expression h t e = pick_true _ _ e

tokens_by : (h : Handed) (t : Tree) (rest : List Token) → tokens_for h t rest ≡ within (marked h t) (inside_for (own_context h t) t) rest
unfolding tokens_for inside_for
tokens_by h none rest = rw (marked_other h none refl)
tokens_by h (node l a b) rest = refl

-- ---- the signs of plain nodes

pub atom_signs : (x : Atom) → signs_of (atom_label x) none ≡ signs (atom_token x ∷ []) [] []
unfolding signs_of sign_lines lookup pick
atom_signs (path y) = refl
atom_signs (literal y) = refl
atom_signs structure = refl

pub prefix_signs : (p : Prefix) → signs_of (prefix_label p) none ≡ signs (prefix_token p ∷ []) [] []
unfolding signs_of sign_lines lookup pick
prefix_signs neg = refl
prefix_signs deref = refl
prefix_signs invert = refl
prefix_signs ref = refl
prefix_signs ref_mut = refl

pub operator_signs : (o : Operator) (b : Tree) → signs_of (operator_label o) b ≡ signs [] (operator o ∷ []) []
unfolding signs_of sign_lines lookup pick operator_label
operator_signs o b = go (operated o)
  where
    go : Operating o → signs_of (operator_label o) b ≡ signs [] (operator o ∷ []) []
    go (assigning e) = rw e
    go (operating h e) = rw e (ap (λ p. signs [] (operator p ∷ []) []) (operator_number o))

pub member_signs : (m : Member) → signs_of (member_label m) none ≡ signs [] (dot ∷ member_token m ∷ []) []
unfolding signs_of sign_lines lookup pick
member_signs (by_name y) = refl
member_signs (by_number y) = refl
member_signs awaited = refl

pub type_prefix_signs : (p : TypePrefix) → signs_of (type_prefix_label p) none ≡ signs (type_prefix_token p ∷ []) [] []
unfolding signs_of sign_lines lookup pick
type_prefix_signs const_ptr = refl
type_prefix_signs mut_ptr = refl
type_prefix_signs shared_ref = refl
type_prefix_signs mut_ref = refl

pub type_sign_signs : (x : TypeSign) → signs_of (type_sign_label x) none ≡ signs (type_sign_token x ∷ []) [] []
unfolding signs_of sign_lines lookup pick
type_sign_signs infer = refl
type_sign_signs never = refl

-- a link before another, and the last
pub link_signs : (l : Expr items) → signs_of (label link 0) (tree_of l) ≡ signs [] (comma_token ∷ []) []
unfolding signs_of sign_lines lookup pick
link_signs (last_argument comma b) = refl
link_signs (more_arguments b l) = refl

pub type_link_signs : (l : Ty items) → signs_of (label link 0) (tree_of_type l) ≡ signs [] (comma_token ∷ []) []
unfolding signs_of sign_lines lookup pick
type_link_signs (last_type comma t) = refl
type_link_signs (more_types t l) = refl

-- a node's own tokens by its signs
inside_at : (x : FixupContext) (l : Label) (a b : Tree) (s : Signs) → signs_of l b ≡ s → (end : List Token)
    → inside_for x (node l a b) end ≡ inside s (tokens_for (hands_first Ours x (node l a b)) a) (tokens_for (hands_second x (node l a b)) b) end
unfolding inside_for
inside_at x l a b s e end = ap (λ z. inside z (tokens_for (hands_first Ours x (node l a b)) a) (tokens_for (hands_second x (node l a b)) b) end) e

-- ---- types have no pairs

abbrev close : Sort → List Token → List Token
close one rest = rest
close list rest = operator gt ∷ rest
close items rest = operator gt ∷ rest

tokens_other : (h : Handed) (l : Label) (a b : Tree) (rest : List Token) → is_expression (node l a b) ≡ false → (s : Signs) → signs_of l b ≡ s
    → (let x = own_context h (node l a b) in tokens_for h (node l a b) rest ≡ inside s (tokens_for (hands_first Ours x (node l a b)) a) (tokens_for (hands_second x (node l a b)) b) rest)
tokens_other h l a b rest e s q = tokens_by h (node l a b) rest ∙ rw (marked_other h (node l a b) e) (inside_at (own_context h (node l a b)) l a b s q rest)

pub types_are : {s : Sort} (t : Ty s) (h : Handed) (rest : List Token) → tokens_for h (tree_of_type t) (close s rest) ≡ write_type (without_type_commas t) rest
unfolding tokens_for signs_of sign_lines lookup pick class_of
types_are (named y) h rest = tokens_other h _ _ _ rest refl (signs (name_token y ∷ []) [] []) refl
types_are (applied y l) h rest =
    tokens_other h _ _ _ rest refl (signs (name_token y ∷ operator lt ∷ []) [] (operator gt ∷ [])) refl ∙ ap (λ r. name_token y ∷ operator lt ∷ r) (types_are l _ rest)
types_are (pointing p t) h rest =
    tokens_other h _ _ _ rest (prefix_type p) (signs (type_prefix_token p ∷ []) [] []) (type_prefix_signs p) ∙ ap (λ r. type_prefix_token p ∷ r) (types_are t _ rest)
  where
    prefix_type : (p : TypePrefix) → eqb (class_of (type_prefix_label p).form) 1 ≡ false
    prefix_type const_ptr = refl
    prefix_type mut_ptr = refl
    prefix_type shared_ref = refl
    prefix_type mut_ref = refl
types_are (sign x) h rest = tokens_other h _ _ _ rest (sign_type x) (signs (type_sign_token x ∷ []) [] []) (type_sign_signs x)
  where
    sign_type : (x : TypeSign) → eqb (class_of (type_sign_label x).form) 1 ≡ false
    sign_type infer = refl
    sign_type never = refl
types_are no_types h rest = refl
types_are (types l) h rest = types_are l h rest
types_are (last_type comma t) h rest = tokens_other h _ _ _ _ refl (signs [] [] []) refl ∙ types_are t _ _
types_are (more_types t l) h rest =
    tokens_other h _ _ _ _ refl (signs [] (comma_token ∷ []) []) (type_link_signs l) ∙ types_are t _ _ ∙ ap (λ r. write_type (without_type_commas t) (comma_token ∷ r)) (types_are l _ rest)

-- ---- expressions, operand by operand

abbrev pub InsideIs : Expr one → Type 0
InsideIs e = (k : Context) (x : FixupContext) → Calm k x → Settled x → (end : List Token) → inside_for x (tree_of e) end ≡ write (without_commas (add_pairs e k x.next_operator_can_begin_generics)) end

pub operand_is : {k : Context} {h : Handed} {a : Expr one} {p g : Bool} → Operand k h a p g → InsideIs a → (rest : List Token) → tokens_for h (tree_of a) rest ≡ write (without_commas (with_pair p k g (add_pairs a))) rest
operand_is {k} {h} {a} {p} {g} o is rest =
    tokens_by h (tree_of a) rest
    ∙ rw (marked_expression h (tree_of a) (facts a).expression ∙ o.pair, own_expression h (tree_of a) (facts a).expression ∙ ap (λ b. pick b none_context h.fixup) o.pair) (by p)
  where
    by : (p : Bool) → within p (inside_for (pick p none_context h.fixup) (tree_of a)) rest ≡ write (without_commas (with_pair p k g (add_pairs a))) rest
    by true = rw (pick_true none_context h.fixup refl) (ap (λ r. left_paren ∷ r) (is grammar.NONE none_context calm_none (λ e. true_not_false (sym e)) (right_paren ∷ rest)))
    by false = rw (pick_false none_context h.fixup refl) (is k h.fixup o.calm o.settled rest ∙ ap (λ f. write (without_commas (add_pairs a k f)) rest) o.flag)

abbrev pub Is : (s : Sort) → Expr s → Type 0
Is one e = InsideIs e
Is list l = (k : Context) (h : Handed) (end : List Token) → tokens_for h (tree_of l) (right_paren ∷ end) ≡ write (without_commas (add_pairs l k false)) end
Is items l = (k : Context) (h : Handed) (end : List Token) → tokens_for h (tree_of l) (right_paren ∷ end) ≡ write (without_commas (add_pairs l k false)) end

pub is : (s : Sort) (e : Expr s) → Is s e
unfolding tokens_for signs_of sign_lines lookup pick class_of
is s (atom y) = λ k x c w end. inside_at x _ _ _ (signs (atom_token y ∷ []) [] []) (atom_signs y) end
is s (paren a) = λ k x c w end.
    inside_at x _ _ _ (signs (left_paren ∷ []) (right_paren ∷ []) []) refl end
    ∙ ap (λ h. left_paren ∷ tokens_for h (tree_of a) (right_paren ∷ end)) (paren_first x a)
    ∙ ap (λ r. left_paren ∷ r) (operand_is (alone a) (is one a) (right_paren ∷ end))
is s (prefix p a) = λ k x c w end.
    inside_at x _ _ _ (signs (prefix_token p ∷ []) [] []) (prefix_signs p) end ∙ ap (λ r. prefix_token p ∷ r) (operand_is (prefix_first k x c w p a) (is one a) end)
is s (binary o a b) = λ k x c w end.
    inside_at x _ _ _ (signs [] (operator o ∷ []) []) (operator_signs o (tree_of b)) end
    ∙ ap (λ r. tokens_for (hands_first Ours x (tree_of (binary o a b))) (tree_of a) (operator o ∷ r)) (operand_is (binary_second k x c w o a b) (is one b) end)
    ∙ operand_is (binary_first k x c w o a b) (is one a) _
is s (cast a t) = λ k x c w end.
    inside_at x _ _ _ (signs [] (as_token ∷ []) []) refl end
    ∙ ap (λ r. tokens_for (hands_first Ours x (tree_of (cast a t))) (tree_of a) (as_token ∷ r)) (types_are t (hands_second x (tree_of (cast a t))) end)
    ∙ operand_is (cast_first k x c w a t) (is one a) _
is s (member m a) = λ k x c w end.
    inside_at x _ _ _ (signs [] (dot ∷ member_token m ∷ []) []) (member_signs m) end ∙ operand_is (member_first k x c w m a) (is one a) _
is s (try a) = λ k x c w end. inside_at x _ _ _ (signs [] (question ∷ []) []) refl end ∙ operand_is (try_first k x c w a) (is one a) _
is s (index a b) = λ k x c w end.
    inside_at x _ _ _ (signs [] (left_bracket ∷ []) (right_bracket ∷ [])) refl end
    ∙ ap (λ h. tokens_for (hands_first Ours x (tree_of (index a b))) (tree_of a) (left_bracket ∷ tokens_for h (tree_of b) (right_bracket ∷ end))) (index_second x a b)
    ∙ ap (λ r. tokens_for (hands_first Ours x (tree_of (index a b))) (tree_of a) (left_bracket ∷ r)) (operand_is (alone b) (is one b) (right_bracket ∷ end))
    ∙ operand_is (index_first k x c w a b) (is one a) _
is s (call a l) = λ k x c w end.
    inside_at x _ _ _ (signs [] (left_paren ∷ []) (right_paren ∷ [])) refl end
    ∙ ap (λ r. tokens_for (hands_first Ours x (tree_of (call a l))) (tree_of a) (left_paren ∷ r)) (is list l k (hands_second x (tree_of (call a l))) end)
    ∙ operand_is (call_first k x c w a l) (is one a) _
is s (method y a l) = λ k x c w end.
    inside_at x _ _ _ (signs [] (dot ∷ name_token y ∷ left_paren ∷ []) (right_paren ∷ [])) refl end
    ∙ ap (λ r. tokens_for (hands_first Ours x (tree_of (method y a l))) (tree_of a) (dot ∷ name_token y ∷ left_paren ∷ r)) (is list l k (hands_second x (tree_of (method y a l))) end)
    ∙ operand_is (method_first k x c w y a l) (is one a) _
is s no_arguments = λ d h end. refl
is s (arguments l) = λ d h end. is items l d h end
is s (last_argument comma a) = λ d h end.
    tokens_other h _ _ _ _ refl (signs [] [] []) refl
    ∙ ap (λ k. tokens_for k (tree_of a) (right_paren ∷ end)) (link_first (own_context h (tree_of (last_argument comma a))) (tree_of a) none)
    ∙ operand_is (alone a) (is one a) _
is s (more_arguments a l) = λ d h end.
    let x = own_context h (tree_of (more_arguments a l)) in
    let k = hands_second x (tree_of (more_arguments a l)) in
    tokens_other h _ _ _ _ refl (signs [] (comma_token ∷ []) []) (link_signs l)
    ∙ ap (λ k'. tokens_for k' (tree_of a) (comma_token ∷ tokens_for k (tree_of l) (right_paren ∷ end))) (link_first x (tree_of a) (tree_of l))
    ∙ ap (λ r. tokens_for (neither none_context (tree_of a)) (tree_of a) (comma_token ∷ r)) (is items l d k end)
    ∙ operand_is (alone a) (is one a) _

-- What is written for the root: the pairs that it needs, and no comma after a last item.
pub tokens_are : (k : Context) (e : Expr one) (rest : List Token) → tokens_for (neither (begun k) (tree_of e)) (tree_of e) rest ≡ write (without_commas (add_all k e)) rest
tokens_are k e rest = operand_is (root k e) (is one e) rest
