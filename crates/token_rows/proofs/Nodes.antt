-- What the crate asks of a plain node: its precedence, how the scans go on from it. Assumes nothing.
use mathlib.Core.Path.{◌≡◌, refl, sym, ap, ◌∙◌}
use mathlib.Core.Bool.{Bool, true, false, not, ◌&&◌}
use Prim.Native.Nat.{◌<◌}
use native.Mathlib.Omega.{arith}
use lib.Dec.{eqb}
use borrow.Author.Tests.{eqb-true, eqb-false}
use Rattle.laws.specs.Choice.{pick, lookup}
use Rattle.laws.proofs.Choice.{pick_false}
use Rattle.tree.specs.Forms.{class_of}
use Rattle.tree.specs.Walks.{is_there, walk, follow, at_root}
use Rattle.precedence.specs.declared.Precedence.TheVariants as rank
use Rattle.precedence.specs.Precedences.{rank_of, of_binop, of_lines, closed_by, prefix_attrs, precedence_of}
use Rattle.classify.specs.Classify.{last_type_in_path, path_lines, trailing_path}
use Rattle.fixup.specs.declared.context.FixupContext.{FixupContext}
use Rattle.fixup_look.specs.Looks.{is_struct as is_struct_tree, is_bare_return, is_bare_jump, is_open_ahead, is_cast_to_path}
use Rattle.fixup.specs.Fixup.{effective}
use Rattle.token_grammar.specs.Tokens.{Operator, number, operator_of}
use Rattle.token_grammar.specs.Tokens as token
use Rattle.token_grammar.specs.Levels.{kind, level}
use Rattle.token_grammar.specs.Types.{one, const_ptr, mut_ptr, shared_ref, mut_ref, infer, never, Ty, named, applied, pointing, sign, type_ends_in_name}
use Rattle.token_grammar.specs.Expressions.{path, literal, structure, neg, deref, invert, ref, ref_mut, by_name, by_number, awaited, Expr, atom, paren, prefix, binary, cast, member, try, index, call, method, kind_of, is_struct}
use Rattle.token_grammar.proofs.Added.{is_cast_to_name, strength}
use Rattle.token_grammar.proofs.Tokens.{operator_number, number_below}
use Rattle.token_grammar.proofs.Levels.{binop_level}
use Rattle.token_plain.specs.Trees.{label, operator_label, tree_of, tree_of_type}
use Rattle.row.specs.Rows.{is_expression}

-- ---- operators: `=`, whose node is an Assign, and the others

pub data Operating (o : Operator) : Type 0 where
  assigning : o ≡ token.assign → Operating o
  operating : number o < 28 → operator_label o ≡ label 5 (number o) → Operating o

pub operated : (o : Operator) → Operating o
unfolding operator_label operator_of
operated o = go (eqb (number o) 28) refl
  where
    go : (b : Bool) → eqb (number o) 28 ≡ b → Operating o
    go true e = assigning (sym (operator_number o) ∙ ap operator_of (eqb-true (number o) 28 e))
    go false e = operating (let n = eqb-false (number o) 28 e in omega (arith, number_below o)) (pick_false _ _ e)

-- ---- types: a type name at the end

pub path_ends : (t : Ty one) → trailing_path (tree_of_type t) ≡ type_ends_in_name t
unfolding trailing_path walk follow path_lines last_type_in_path lookup pick
path_ends (named y) = refl
path_ends (applied y l) = refl
path_ends (pointing const_ptr t) = path_ends t
path_ends (pointing mut_ptr t) = path_ends t
path_ends (pointing shared_ref t) = path_ends t
path_ends (pointing mut_ref t) = path_ends t
path_ends (sign infer) = refl
path_ends (sign never) = refl

-- ---- what a plain expression is to `precedence` and the rows

pub record Facts (e : Expr one) : Type 0 where
  pub precedence : rank_of (precedence_of (tree_of e)) ≡ level (kind_of e)
  pub cast_to_path : is_cast_to_path (tree_of e) ≡ is_cast_to_name e
  pub struct : is_struct_tree (tree_of e) ≡ is_struct e
  pub no_return : is_bare_return (tree_of e) ≡ false
  pub no_jump : is_bare_jump (tree_of e) ≡ false
  pub not_ahead : is_open_ahead (tree_of e) ≡ false
  pub expression : is_expression (tree_of e) ≡ true
  pub there : is_there (tree_of e) ≡ true

pub facts : (e : Expr one) → Facts e
unfolding precedence_of walk follow of_lines closed_by prefix_attrs is_cast_to_path is_struct_tree is_bare_return is_bare_jump is_open_ahead at_root lookup pick class_of operator_label of_binop kind
facts (atom (path y)) = record { precedence = refl; cast_to_path = refl; struct = refl; no_return = refl; no_jump = refl; not_ahead = refl; expression = refl; there = refl }
facts (atom (literal y)) = record { precedence = refl; cast_to_path = refl; struct = refl; no_return = refl; no_jump = refl; not_ahead = refl; expression = refl; there = refl }
facts (atom structure) = record { precedence = refl; cast_to_path = refl; struct = refl; no_return = refl; no_jump = refl; not_ahead = refl; expression = refl; there = refl }
facts (paren a) = record { precedence = refl; cast_to_path = refl; struct = refl; no_return = refl; no_jump = refl; not_ahead = refl; expression = refl; there = refl }
facts (prefix neg a) = record { precedence = refl; cast_to_path = refl; struct = refl; no_return = refl; no_jump = refl; not_ahead = refl; expression = refl; there = refl }
facts (prefix deref a) = record { precedence = refl; cast_to_path = refl; struct = refl; no_return = refl; no_jump = refl; not_ahead = refl; expression = refl; there = refl }
facts (prefix invert a) = record { precedence = refl; cast_to_path = refl; struct = refl; no_return = refl; no_jump = refl; not_ahead = refl; expression = refl; there = refl }
facts (prefix ref a) = record { precedence = refl; cast_to_path = refl; struct = refl; no_return = refl; no_jump = refl; not_ahead = refl; expression = refl; there = refl }
facts (prefix ref_mut a) = record { precedence = refl; cast_to_path = refl; struct = refl; no_return = refl; no_jump = refl; not_ahead = refl; expression = refl; there = refl }
facts (binary o a b) = go (operated o)
  where
    go : Operating o → Facts (binary o a b)
    go (assigning e) = rw e (record { precedence = refl; cast_to_path = refl; struct = refl; no_return = refl; no_jump = refl; not_ahead = refl; expression = refl; there = refl })
    go (operating h e) = record { precedence = rw e (binop_level o h); cast_to_path = rw e; struct = rw e; no_return = rw e; no_jump = rw e; not_ahead = rw e; expression = rw e; there = refl }
facts (cast a t) = record { precedence = refl; cast_to_path = path_ends t; struct = refl; no_return = refl; no_jump = refl; not_ahead = refl; expression = refl; there = refl }
facts (member (by_name y) a) = record { precedence = refl; cast_to_path = refl; struct = refl; no_return = refl; no_jump = refl; not_ahead = refl; expression = refl; there = refl }
facts (member (by_number y) a) = record { precedence = refl; cast_to_path = refl; struct = refl; no_return = refl; no_jump = refl; not_ahead = refl; expression = refl; there = refl }
facts (member awaited a) = record { precedence = refl; cast_to_path = refl; struct = refl; no_return = refl; no_jump = refl; not_ahead = refl; expression = refl; there = refl }
facts (try a) = record { precedence = refl; cast_to_path = refl; struct = refl; no_return = refl; no_jump = refl; not_ahead = refl; expression = refl; there = refl }
facts (index a b) = record { precedence = refl; cast_to_path = refl; struct = refl; no_return = refl; no_jump = refl; not_ahead = refl; expression = refl; there = refl }
facts (call a l) = record { precedence = refl; cast_to_path = refl; struct = refl; no_return = refl; no_jump = refl; not_ahead = refl; expression = refl; there = refl }
facts (method y a l) = record { precedence = refl; cast_to_path = refl; struct = refl; no_return = refl; no_jump = refl; not_ahead = refl; expression = refl; there = refl }

-- the effective precedence is the strength
pub effective_is : (x : FixupContext) (e : Expr one) → rank_of (effective x (tree_of e)) ≡ strength x.next_operator_can_begin_generics e
unfolding effective strength pick
effective_is x e =
    let f = facts e in
    rw (f.no_jump, f.not_ahead, f.cast_to_path, off x.next_operator_can_begin_expr, off (not x.next_operator_can_continue_expr))
    (by (x.next_operator_can_begin_generics && is_cast_to_name e))
  where
    off : (b : Bool) → b && false ≡ false
    off true = refl
    off false = refl

    by : (b : Bool) → rank_of (pick b rank.Jump (precedence_of (tree_of e))) ≡ pick b 0 (level (kind_of e))
    by true = refl
    by false = (facts e).precedence
