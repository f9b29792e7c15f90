-- In contexts 0 and 3 the flags of statements and match arms stay down, and parenthesize asks for a Struct's pair in a condition alone. Assumes nothing.
use mathlib.Core.Path.{◌≡◌, refl, ◌∙◌}
use mathlib.Core.Bool.{Bool, true, false, not, ◌&&◌, ◌||◌}
use Rattle.precedence.specs.declared.Precedence.{Precedence}
use Rattle.fixup.specs.declared.context.FixupContext.{FixupContext}
use Rattle.fixup.specs.Contexts.{new_context, none_context, with_operator, with_dot, rightmost}
use Rattle.fixup.specs.Fixup.{parenthesize}
use Rattle.token_grammar.specs.Types.{one}
use Rattle.token_grammar.specs.Expressions.{Expr, is_struct}
use Rattle.token_grammar.specs.Grammar.{Context, CONDITION, excluded}
use Rattle.token_grammar.specs.Grammar as grammar
use Rattle.token_plain.specs.Trees.{tree_of}
use Rattle.token_rows.proofs.Nodes.{facts}

-- the flag `condition` of the crate's context that a tree begins with, NONE or new_condition
abbrev pub conditional : Context → Bool
conditional grammar.NONE = false
conditional CONDITION = true

abbrev pub begun : Context → FixupContext
begun c = new_context false false (conditional c)

-- The flag `condition` is the context's; `rightmost_subexpression_in_condition` is up only with it.
pub record Calm (c : Context) (x : FixupContext) : Type 0 where
  pub no_stmt : x.stmt ≡ false
  pub no_left_stmt : x.leftmost_subexpression_in_stmt ≡ false
  pub no_arm : x.match_arm ≡ false
  pub no_left_arm : x.leftmost_subexpression_in_match_arm ≡ false
  pub in_condition : x.condition ≡ conditional c
  pub right_with_it : x.rightmost_subexpression_in_condition && not x.condition ≡ false
  pub no_optional : x.leftmost_subexpression_in_optional_operand ≡ false

and_false : (b : Bool) → b && false ≡ false
and_false true = refl
and_false false = refl

and_on : (b : Bool) → b && true ≡ b
and_on true = refl
and_on false = refl

pub or_off : (b : Bool) → b || false ≡ b
or_off true = refl
or_off false = refl

excluded_is : (c : Context) (e : Expr one) → conditional c && is_struct e ≡ excluded c e
excluded_is grammar.NONE e = refl
excluded_is CONDITION e = refl

pub calm_parenthesize : (c : Context) (x : FixupContext) (e : Expr one) → Calm c x → parenthesize x (tree_of e) ≡ excluded c e
unfolding parenthesize
calm_parenthesize c x e k =
    let f = facts e in
    rw (k.no_stmt, k.no_left_stmt, k.no_left_arm, k.right_with_it, k.no_optional, f.struct, f.no_return, k.in_condition, and_false x.rightmost_subexpression_in_condition)
    (or_off (conditional c && is_struct e) ∙ excluded_is c e)

pub calm_begun : (c : Context) → Calm c (begun c)
calm_begun c =
    record {
      no_stmt = refl;
      no_left_stmt = refl;
      no_arm = refl;
      no_left_arm = refl;
      in_condition = refl;
      right_with_it = never (conditional c);
      no_optional = refl;
    }
  where
    never : (b : Bool) → b && not b ≡ false
    never true = refl
    never false = refl

pub calm_none : Calm grammar.NONE none_context
calm_none = calm_begun grammar.NONE

module _ (c : Context) (x : FixupContext) (k : Calm c x) where
  pub calm_operator : (begins generics : Bool) (next : Precedence) → Calm c (with_operator x begins generics next)
  calm_operator begins generics next =
      record {
        no_stmt = refl;
        no_left_stmt = rw (k.no_stmt, k.no_left_stmt);
        no_arm = refl;
        no_left_arm = rw (k.no_arm, k.no_left_arm);
        in_condition = k.in_condition;
        right_with_it = refl;
        no_optional = k.no_optional;
      }

  pub calm_dot : Calm c (with_dot x)
  calm_dot =
      record {
        no_stmt = rw (k.no_stmt, k.no_left_stmt);
        no_left_stmt = refl;
        no_arm = rw (k.no_arm, k.no_left_arm);
        no_left_arm = refl;
        in_condition = k.in_condition;
        right_with_it = refl;
        no_optional = k.no_optional;
      }

  -- plain owners neither reset the condition nor have an optional operand
  pub calm_rightmost : (previous : Precedence) → Calm c (rightmost x false false previous)
  calm_rightmost previous =
      record {
        no_stmt = refl;
        no_left_stmt = refl;
        no_arm = refl;
        no_left_arm = refl;
        in_condition = and_on x.condition ∙ k.in_condition;
        right_with_it = rw (and_on x.condition) k.right_with_it;
        no_optional = and_false x.condition;
      }
