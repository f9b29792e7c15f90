-- The tree that a parse tree is, node by node, and "T without its own parentheses".
use Rattle.std.specs.Prelude.{ℕ, eqb}
use Rattle.laws.specs.Choice.{pick}
use Rattle.tree.specs.Forms.{expr_assign, expr_await, expr_binary, expr_call, expr_cast, expr_field, expr_index, expr_lit, expr_method_call, expr_paren, expr_path, expr_reference, expr_struct, expr_try, expr_unary, type_infer, type_never, type_path, type_ptr, type_reference, link}
use Rattle.tree.specs.Trees.{Label, Tree, none, node}
use Rattle.token_grammar.specs.Tokens.{Operator, assign, number}
use Rattle.token_grammar.specs.Types.{Sort, TypePrefix, const_ptr, mut_ptr, shared_ref, mut_ref, TypeSign, infer, never, Ty, named, applied, pointing, sign, no_types, types, last_type, more_types}
use Rattle.token_grammar.specs.Expressions.{Atom, path, literal, structure, Prefix, neg, deref, invert, ref, ref_mut, Member, by_name, by_number, awaited, Expr, atom, paren, prefix, binary, cast, member, try, index, call, method, no_arguments, arguments, last_argument, more_arguments}

-- a form, its detail and its symbol, with no attributes
abbrev pub label_with : ℕ → ℕ → ℕ → Label
label_with form detail symbol = record { form = form; attributes = 0; detail = detail; symbol = symbol }

-- and one without a symbol
abbrev pub label : ℕ → ℕ → Label
label form detail = label_with form detail 0

abbrev pub atom_label : Atom → Label
atom_label (path y) = label_with expr_path 0 y
atom_label (literal y) = label_with expr_lit 0 y
atom_label structure = label expr_struct 0

-- "Unary: Deref, Not, Neg as 0 to 2." ".. both References: 1 mutable."
abbrev pub prefix_label : Prefix → Label
prefix_label neg = label expr_unary 2
prefix_label deref = label expr_unary 0
prefix_label invert = label expr_unary 1
prefix_label ref = label expr_reference 0
prefix_label ref_mut = label expr_reference 1

-- "Binary 0 to 27"; 28 is `=`, of Assign
unfoldable pub operator_label : Operator → Label
operator_label o = pick (eqb (number o) (number assign)) (label expr_assign 0) (label expr_binary (number o))

-- "Field: 0 named, 1 numbered."
abbrev pub member_label : Member → Label
member_label (by_name y) = label_with expr_field 0 y
member_label (by_number y) = label_with expr_field 1 y
member_label awaited = label expr_await 0

-- "Ptr, .. both References: 1 mutable."
abbrev pub type_prefix_label : TypePrefix → Label
type_prefix_label const_ptr = label type_ptr 0
type_prefix_label mut_ptr = label type_ptr 1
type_prefix_label shared_ref = label type_reference 0
type_prefix_label mut_ref = label type_reference 1

abbrev pub type_sign_label : TypeSign → Label
type_sign_label infer = label type_infer 0
type_sign_label never = label type_never 0

-- "Path type, by last segment: .. 1 no arguments, 2 angle"; "56 is a list link: first an item, second the next link or 0."
abbrev pub tree_of_type : {s : Sort} → Ty s → Tree
tree_of_type (named y) = node (label_with type_path 1 y) none none
tree_of_type (applied y l) = node (label_with type_path 2 y) none (tree_of_type l)
tree_of_type (pointing p t) = node (type_prefix_label p) (tree_of_type t) none
tree_of_type (sign x) = node (type_sign_label x) none none
tree_of_type no_types = none
tree_of_type (types l) = tree_of_type l
tree_of_type (last_type comma t) = node (label link 0) (tree_of_type t) none
tree_of_type (more_types t l) = node (label link 0) (tree_of_type t) (tree_of_type l)

-- document 01, 'Operands'
abbrev pub tree_of : {s : Sort} → Expr s → Tree
tree_of (atom x) = node (atom_label x) none none
tree_of (paren a) = node (label expr_paren 0) (tree_of a) none
tree_of (prefix p a) = node (prefix_label p) (tree_of a) none
tree_of (binary o a b) = node (operator_label o) (tree_of a) (tree_of b)
tree_of (cast a t) = node (label expr_cast 0) (tree_of a) (tree_of_type t)
tree_of (member m a) = node (member_label m) (tree_of a) none
tree_of (try a) = node (label expr_try 0) (tree_of a) none
tree_of (index a b) = node (label expr_index 0) (tree_of a) (tree_of b)
tree_of (call a l) = node (label expr_call 0) (tree_of a) (tree_of l)
tree_of (method y a l) = node (label_with expr_method_call 0 y) (tree_of a) (tree_of l)
tree_of no_arguments = none
tree_of (arguments l) = tree_of l
tree_of (last_argument comma a) = node (label link 0) (tree_of a) none
tree_of (more_arguments a l) = node (label link 0) (tree_of a) (tree_of l)

-- "T without its own parentheses has in place of each Paren, root included, the first node below it that is no Paren."
unfoldable pub without_parens : Tree → Tree
without_parens none = none
without_parens (node l a b) = pick (eqb l.form expr_paren) (without_parens a) (node l (without_parens a) (without_parens b))
