-- A comma after a last item leaves no node. Assumes nothing.
use mathlib.Core.Path.{◌≡◌, refl, ap, ap₂}
use Rattle.tree.specs.Forms.{expr_call, expr_cast, expr_index, expr_method_call, expr_paren, expr_try, type_path, link}
use Rattle.tree.specs.Trees.{none, node}
use Rattle.token_grammar.specs.Types.{Sort, Ty, named, applied, pointing, sign, no_types, types, last_type, more_types}
use Rattle.token_grammar.specs.Expressions.{Expr, atom, paren, prefix, binary, cast, member, try, index, call, method, no_arguments, arguments, last_argument, more_arguments}
use Rattle.token_grammar.specs.Commas.{without_type_commas, without_commas}
use Rattle.token_plain.specs.Trees.{label_with, label, prefix_label, operator_label, member_label, type_prefix_label, tree_of, tree_of_type}

pub type_without : {s : Sort} (t : Ty s) → tree_of_type (without_type_commas t) ≡ tree_of_type t
type_without (named y) = refl
type_without (applied y l) = ap (node (label_with type_path 2 y) none) (type_without l)
type_without (pointing p t) = ap (λ x. node (type_prefix_label p) x none) (type_without t)
type_without (sign x) = refl
type_without no_types = refl
type_without (types l) = type_without l
type_without (last_type comma t) = ap (λ x. node (label link 0) x none) (type_without t)
type_without (more_types t l) = ap₂ (node (label link 0)) (type_without t) (type_without l)

pub tree_without : {s : Sort} (e : Expr s) → tree_of (without_commas e) ≡ tree_of e
tree_without (atom x) = refl
tree_without (paren a) = ap (λ x. node (label expr_paren 0) x none) (tree_without a)
tree_without (prefix p a) = ap (λ x. node (prefix_label p) x none) (tree_without a)
tree_without (binary o a b) = ap₂ (node (operator_label o)) (tree_without a) (tree_without b)
tree_without (cast a t) = ap₂ (node (label expr_cast 0)) (tree_without a) (type_without t)
tree_without (member m a) = ap (λ x. node (member_label m) x none) (tree_without a)
tree_without (try a) = ap (λ x. node (label expr_try 0) x none) (tree_without a)
tree_without (index a b) = ap₂ (node (label expr_index 0)) (tree_without a) (tree_without b)
tree_without (call a l) = ap₂ (node (label expr_call 0)) (tree_without a) (tree_without l)
tree_without (method y a l) = ap₂ (node (label_with expr_method_call 0 y)) (tree_without a) (tree_without l)
tree_without no_arguments = refl
tree_without (arguments l) = tree_without l
tree_without (last_argument comma a) = ap (λ x. node (label link 0) x none) (tree_without a)
tree_without (more_arguments a l) = ap₂ (node (label link 0)) (tree_without a) (tree_without l)
