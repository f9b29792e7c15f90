-- Expressions are told apart by their trees, but for commas after last items: the way back from a tree. Assumes nothing.
use mathlib.Core.Path.{◌≡◌, refl, sym, ap, ap₂, ◌∙◌}
use mathlib.Core.Bool.{Bool, true, false}
use mathlib.Core.List.{[], ◌∷◌}
use lib.Dec.{eqb}
use borrow.Author.Tests.{eqb-true}
use Rattle.laws.specs.Choice.{line, lookup, pick}
use Rattle.tree.specs.Forms.{expr_assign, expr_await, expr_binary, expr_call, expr_cast, expr_field, expr_index, expr_lit, expr_method_call, expr_paren, expr_reference, expr_struct, expr_try, expr_unary, type_infer, type_path, type_ptr, type_reference}
use Rattle.tree.specs.Trees.{Label, Tree, none, node}
use Rattle.token_grammar.specs.Tokens.{Operator, number, assign, operator_of}
use Rattle.token_grammar.specs.Types.{Sort, one, list, items, const_ptr, mut_ptr, shared_ref, mut_ref, infer, never, Ty, named, applied, pointing, sign, no_types, types, last_type, more_types}
use Rattle.token_grammar.specs.Expressions.{path, literal, structure, neg, deref, invert, ref, ref_mut, by_name, by_number, awaited, Expr, atom, paren, prefix, binary, cast, member, try, index, call, method, no_arguments, arguments, last_argument, more_arguments}
use Rattle.token_grammar.specs.Commas.{without_type_commas, without_commas}
use Rattle.token_grammar.proofs.Tokens.{operator_number}
use Rattle.token_plain.specs.Trees.{label, operator_label, tree_of, tree_of_type}

-- what a tree is in each class; what does not fit is filled in anyhow
record Parts : Type 0 where
  expr : Expr one
  exprs : Expr items
  type : Ty one
  typed : Ty items
  there : Bool

abbrev list_of : Parts → Expr list
list_of p = pick p.there (arguments p.exprs) no_arguments

abbrev types_of : Parts → Ty list
types_of p = pick p.there (types p.typed) no_types

expr_by : Label → Parts → Parts → Expr one
expr_by l a b =
    lookup
    (line (expr_lit ∷ []) (atom (literal l.symbol)) ∷
    line (expr_struct ∷ []) (atom structure) ∷
    line (expr_paren ∷ []) (paren a.expr) ∷
    line (expr_unary ∷ []) (prefix (pick (eqb l.detail 0) deref (pick (eqb l.detail 1) invert neg)) a.expr) ∷
    line (expr_reference ∷ []) (prefix (pick (eqb l.detail 0) ref ref_mut) a.expr) ∷
    line (expr_binary ∷ []) (binary (operator_of l.detail) a.expr b.expr) ∷
    line (expr_assign ∷ []) (binary assign a.expr b.expr) ∷
    line (expr_cast ∷ []) (cast a.expr b.type) ∷
    line (expr_field ∷ []) (member (pick (eqb l.detail 0) (by_name l.symbol) (by_number l.symbol)) a.expr) ∷
    line (expr_await ∷ []) (member awaited a.expr) ∷
    line (expr_try ∷ []) (try a.expr) ∷
    line (expr_index ∷ []) (index a.expr b.expr) ∷
    line (expr_call ∷ []) (call a.expr (list_of b)) ∷
    line (expr_method_call ∷ []) (method l.symbol a.expr (list_of b)) ∷
    [])
    (atom (path l.symbol))
    l.form

type_by : Label → Parts → Parts → Ty one
type_by l a b =
    lookup
    (line (type_path ∷ []) (pick (eqb l.detail 2) (applied l.symbol (types_of b)) (named l.symbol)) ∷
    line (type_ptr ∷ []) (pointing (pick (eqb l.detail 0) const_ptr mut_ptr) a.type) ∷
    line (type_reference ∷ []) (pointing (pick (eqb l.detail 0) shared_ref mut_ref) a.type) ∷
    line (type_infer ∷ []) (sign infer) ∷
    [])
    (sign never)
    l.form

parts_of : Tree → Parts
parts_of none = record { expr = atom (path 0); exprs = last_argument false (atom (path 0)); type = named 0; typed = last_type false (named 0); there = false }
parts_of (node l a b) =
    record {
      expr = expr_by l (parts_of a) (parts_of b);
      exprs = pick (parts_of b).there (more_arguments (parts_of a).expr (parts_of b).exprs) (last_argument false (parts_of a).expr);
      type = type_by l (parts_of a) (parts_of b);
      typed = pick (parts_of b).there (more_types (parts_of a).type (parts_of b).typed) (last_type false (parts_of a).type);
      there = true;
    }

-- ---- back again

abbrev BackType : (s : Sort) → Ty s → Type 0
BackType one t = (parts_of (tree_of_type t)).type ≡ without_type_commas t
BackType list l = types_of (parts_of (tree_of_type l)) ≡ without_type_commas l
BackType items l = ((parts_of (tree_of_type l)).typed ≡ without_type_commas l) × ((parts_of (tree_of_type l)).there ≡ true)

back_type : (s : Sort) (t : Ty s) → BackType s t
unfolding parts_of type_by lookup pick
back_type s (named y) = refl
back_type s (applied y l) = ap (applied y) (back_type list l)
back_type s (pointing const_ptr t) = ap (pointing const_ptr) (back_type one t)
back_type s (pointing mut_ptr t) = ap (pointing mut_ptr) (back_type one t)
back_type s (pointing shared_ref t) = ap (pointing shared_ref) (back_type one t)
back_type s (pointing mut_ref t) = ap (pointing mut_ref) (back_type one t)
back_type s (sign infer) = refl
back_type s (sign never) = refl
back_type s no_types = refl
back_type s (types l) = let h = back_type items l in rw (h.1, h.0)
back_type s (last_type comma t) = (ap (last_type false) (back_type one t), refl)
back_type s (more_types t l) = let h = back_type items l in (rw (h.1, h.0, back_type one t), refl)

abbrev Back : (s : Sort) → Expr s → Type 0
Back one e = (parts_of (tree_of e)).expr ≡ without_commas e
Back list l = list_of (parts_of (tree_of l)) ≡ without_commas l
Back items l = ((parts_of (tree_of l)).exprs ≡ without_commas l) × ((parts_of (tree_of l)).there ≡ true)

-- an operator's node has its number, but for `=`
back_operator : (o : Operator) (a b : Parts) → expr_by (operator_label o) a b ≡ binary o a.expr b.expr
unfolding expr_by operator_label lookup pick operator_of
back_operator o a b = go (eqb (number o) (number assign)) refl
  where
    go : (c : Bool) → eqb (number o) (number assign) ≡ c → expr_by (pick c (label expr_assign 0) (label expr_binary (number o))) a b ≡ binary o a.expr b.expr
    go true e = ap (λ p. binary p a.expr b.expr) (sym (ap operator_of (eqb-true (number o) (number assign) e)) ∙ operator_number o)
    go false e = ap (λ p. binary p a.expr b.expr) (operator_number o)

back : (s : Sort) (e : Expr s) → Back s e
unfolding parts_of expr_by lookup pick
back s (atom (path y)) = refl
back s (atom (literal y)) = refl
back s (atom structure) = refl
back s (paren a) = ap paren (back one a)
back s (prefix neg a) = ap (prefix neg) (back one a)
back s (prefix deref a) = ap (prefix deref) (back one a)
back s (prefix invert a) = ap (prefix invert) (back one a)
back s (prefix ref a) = ap (prefix ref) (back one a)
back s (prefix ref_mut a) = ap (prefix ref_mut) (back one a)
back s (binary o a b) = back_operator o (parts_of (tree_of a)) (parts_of (tree_of b)) ∙ ap₂ (binary o) (back one a) (back one b)
back s (cast a t) = ap₂ cast (back one a) (back_type one t)
back s (member (by_name y) a) = ap (member (by_name y)) (back one a)
back s (member (by_number y) a) = ap (member (by_number y)) (back one a)
back s (member awaited a) = ap (member awaited) (back one a)
back s (try a) = ap try (back one a)
back s (index a b) = ap₂ index (back one a) (back one b)
back s (call a l) = ap₂ call (back one a) (back list l)
back s (method y a l) = ap₂ (method y) (back one a) (back list l)
back s no_arguments = refl
back s (arguments l) = let h = back items l in rw (h.1, h.0)
back s (last_argument comma a) = (ap (last_argument false) (back one a), refl)
back s (more_arguments a l) = let h = back items l in (rw (h.1, h.0, back one a), refl)

-- Expressions with one tree are one but for commas.
pub tree_same : (d e : Expr one) → tree_of d ≡ tree_of e → without_commas d ≡ without_commas e
tree_same d e q = sym (back one d) ∙ ap (λ t. (parts_of t).expr) q ∙ back one e
