-- The shape of a parse tree's tree is the tree of its shape. Assumes nothing.
use mathlib.Core.Path.{◌≡◌, refl}
use mathlib.Core.Bool.{Bool, true, false}
use lib.Dec.{eqb}
use Rattle.laws.specs.Choice.{pick}
use Rattle.tree.specs.Forms.{expr_assign, expr_binary}
use Rattle.tree.specs.Trees.{Label, Tree, node}
use Rattle.tree.specs.Erase.{unnamed, erase}
use Rattle.token_grammar.specs.Tokens.{Operator, assign, number}
use Rattle.token_grammar.specs.Types.{Sort, TypePrefix, const_ptr, mut_ptr, shared_ref, mut_ref, TypeSign, infer, never, Ty, named, applied, pointing, sign, no_types, types, last_type, more_types}
use Rattle.token_grammar.specs.Expressions.{Atom, path, literal, structure, Prefix, neg, deref, invert, ref, ref_mut, Member, by_name, by_number, awaited, Expr, atom, paren, prefix, binary, cast, member, try, index, call, method, no_arguments, arguments, last_argument, more_arguments}
use Rattle.token_grammar.proofs.Erased.{atom_with, member_with, erased_type, erased}
use Rattle.token_plain.specs.Trees.{label, atom_label, prefix_label, operator_label, member_label, type_prefix_label, type_sign_label, tree_of, tree_of_type}

-- a node of an erased label
over : (l m : Label) {a b c d : Tree} → l ≡ m → a ≡ c → b ≡ d → node l a b ≡ node m c d
over l m e p q = rw (e, p, q)

atom_shape : (x : Atom) → atom_label (atom_with 0 x) ≡ unnamed (atom_label x)
atom_shape (path y) = refl
atom_shape (literal y) = refl
atom_shape structure = refl

prefix_shape : (p : Prefix) → prefix_label p ≡ unnamed (prefix_label p)
prefix_shape neg = refl
prefix_shape deref = refl
prefix_shape invert = refl
prefix_shape ref = refl
prefix_shape ref_mut = refl

operator_shape : (o : Operator) → operator_label o ≡ unnamed (operator_label o)
unfolding operator_label pick
operator_shape o = go (eqb (number o) (number assign))
  where
    go : (b : Bool) → pick b (label expr_assign 0) (label expr_binary (number o)) ≡ unnamed (pick b (label expr_assign 0) (label expr_binary (number o)))
    go true = refl
    go false = refl

member_shape : (m : Member) → member_label (member_with 0 m) ≡ unnamed (member_label m)
member_shape (by_name y) = refl
member_shape (by_number y) = refl
member_shape awaited = refl

pointing_shape : (p : TypePrefix) → type_prefix_label p ≡ unnamed (type_prefix_label p)
pointing_shape const_ptr = refl
pointing_shape mut_ptr = refl
pointing_shape shared_ref = refl
pointing_shape mut_ref = refl

sign_shape : (x : TypeSign) → type_sign_label x ≡ unnamed (type_sign_label x)
sign_shape infer = refl
sign_shape never = refl

type_shape : {s : Sort} (t : Ty s) → tree_of_type (erased_type t) ≡ erase (tree_of_type t)
unfolding erase
type_shape (named y) = refl
type_shape (applied y l) = over _ _ refl refl (type_shape l)
type_shape (pointing p t) = over _ _ (pointing_shape p) (type_shape t) refl
type_shape (sign x) = over _ _ (sign_shape x) refl refl
type_shape no_types = refl
type_shape (types l) = type_shape l
type_shape (last_type comma t) = over _ _ refl (type_shape t) refl
type_shape (more_types t l) = over _ _ refl (type_shape t) (type_shape l)

pub shape_tree : {s : Sort} (e : Expr s) → tree_of (erased e) ≡ erase (tree_of e)
unfolding erase
shape_tree (atom x) = over _ _ (atom_shape x) refl refl
shape_tree (paren a) = over _ _ refl (shape_tree a) refl
shape_tree (prefix p a) = over _ _ (prefix_shape p) (shape_tree a) refl
shape_tree (binary o a b) = over _ _ (operator_shape o) (shape_tree a) (shape_tree b)
shape_tree (cast a t) = over _ _ refl (shape_tree a) (type_shape t)
shape_tree (member m a) = over _ _ (member_shape m) (shape_tree a) refl
shape_tree (try a) = over _ _ refl (shape_tree a) refl
shape_tree (index a b) = over _ _ refl (shape_tree a) (shape_tree b)
shape_tree (call a l) = over _ _ refl (shape_tree a) (shape_tree l)
shape_tree (method y a l) = over _ _ refl (shape_tree a) (shape_tree l)
shape_tree no_arguments = refl
shape_tree (arguments l) = shape_tree l
shape_tree (last_argument comma a) = over _ _ refl (shape_tree a) refl
shape_tree (more_arguments a l) = over _ _ refl (shape_tree a) (shape_tree l)
