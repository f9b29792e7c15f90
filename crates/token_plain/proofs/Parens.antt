-- A parse tree without its parentheses is its tree without its own parentheses. Assumes nothing.
use mathlib.Core.Path.{◌≡◌, refl, ap₂, ◌∙◌}
use mathlib.Core.Bool.{Bool, true, false}
use lib.Dec.{eqb}
use Rattle.laws.specs.Choice.{pick}
use Rattle.laws.proofs.Choice.{pick_false}
use Rattle.tree.specs.Forms.{expr_assign, expr_binary, expr_paren}
use Rattle.tree.specs.Trees.{Label, Tree, none, node}
use Rattle.token_grammar.specs.Tokens.{Operator, assign, number}
use Rattle.token_grammar.specs.Types.{Sort, TypePrefix, const_ptr, mut_ptr, shared_ref, mut_ref, TypeSign, infer, never, Ty, named, applied, pointing, sign, no_types, types, last_type, more_types}
use Rattle.token_grammar.specs.Expressions.{Atom, path, literal, structure, Prefix, neg, deref, invert, ref, ref_mut, Member, by_name, by_number, awaited, Expr, atom, paren, prefix, binary, cast, member, try, index, call, method, no_arguments, arguments, last_argument, more_arguments}
use Rattle.token_grammar.specs.Bare.{bare}
use Rattle.token_plain.specs.Trees.{label, atom_label, prefix_label, operator_label, member_label, type_prefix_label, type_sign_label, tree_of, tree_of_type, without_parens}

-- a node that is no Paren stays
keeps : {c d : Tree} (l : Label) (a b : Tree) → eqb l.form expr_paren ≡ false → without_parens a ≡ c → without_parens b ≡ d → without_parens (node l a b) ≡ node l c d
unfolding without_parens
keeps l a b e p q = pick_false _ _ e ∙ ap₂ (node l) p q

nothing : without_parens none ≡ none
unfolding without_parens
nothing = refl

atom_keeps : (x : Atom) → eqb (atom_label x).form expr_paren ≡ false
atom_keeps (path y) = refl
atom_keeps (literal y) = refl
atom_keeps structure = refl

prefix_keeps : (p : Prefix) → eqb (prefix_label p).form expr_paren ≡ false
prefix_keeps neg = refl
prefix_keeps deref = refl
prefix_keeps invert = refl
prefix_keeps ref = refl
prefix_keeps ref_mut = refl

operator_keeps : (o : Operator) → eqb (operator_label o).form expr_paren ≡ false
unfolding operator_label pick
operator_keeps o = go (eqb (number o) (number assign))
  where
    go : (b : Bool) → eqb (pick {A = Label} b (label expr_assign 0) (label expr_binary (number o))).form expr_paren ≡ false
    go true = refl
    go false = refl

member_keeps : (m : Member) → eqb (member_label m).form expr_paren ≡ false
member_keeps (by_name y) = refl
member_keeps (by_number y) = refl
member_keeps awaited = refl

type_keeps : (p : TypePrefix) → eqb (type_prefix_label p).form expr_paren ≡ false
type_keeps const_ptr = refl
type_keeps mut_ptr = refl
type_keeps shared_ref = refl
type_keeps mut_ref = refl

sign_keeps : (x : TypeSign) → eqb (type_sign_label x).form expr_paren ≡ false
sign_keeps infer = refl
sign_keeps never = refl

without_types : {s : Sort} (t : Ty s) → without_parens (tree_of_type t) ≡ tree_of_type t
without_types (named y) = keeps _ _ _ refl nothing nothing
without_types (applied y l) = keeps _ _ _ refl nothing (without_types l)
without_types (pointing p t) = keeps _ _ _ (type_keeps p) (without_types t) nothing
without_types (sign x) = keeps _ _ _ (sign_keeps x) nothing nothing
without_types no_types = nothing
without_types (types l) = without_types l
without_types (last_type comma t) = keeps _ _ _ refl (without_types t) nothing
without_types (more_types t l) = keeps _ _ _ refl (without_types t) (without_types l)

-- a Paren goes
goes : (a : Tree) → without_parens (node (label expr_paren 0) a none) ≡ without_parens a
unfolding without_parens pick
goes a = refl

pub without_bare : {s : Sort} (e : Expr s) → without_parens (tree_of e) ≡ tree_of (bare e)
without_bare (atom x) = keeps _ _ _ (atom_keeps x) nothing nothing
without_bare (paren a) = goes (tree_of a) ∙ without_bare a
without_bare (prefix p a) = keeps _ _ _ (prefix_keeps p) (without_bare a) nothing
without_bare (binary o a b) = keeps _ _ _ (operator_keeps o) (without_bare a) (without_bare b)
without_bare (cast a t) = keeps _ _ _ refl (without_bare a) (without_types t)
without_bare (member m a) = keeps _ _ _ (member_keeps m) (without_bare a) nothing
without_bare (try a) = keeps _ _ _ refl (without_bare a) nothing
without_bare (index a b) = keeps _ _ _ refl (without_bare a) (without_bare b)
without_bare (call a l) = keeps _ _ _ refl (without_bare a) (without_bare l)
without_bare (method y a l) = keeps _ _ _ refl (without_bare a) (without_bare l)
without_bare no_arguments = nothing
without_bare (arguments l) = without_bare l
without_bare (last_argument comma a) = keeps _ _ _ refl (without_bare a) nothing
without_bare (more_arguments a l) = keeps _ _ _ refl (without_bare a) (without_bare l)
