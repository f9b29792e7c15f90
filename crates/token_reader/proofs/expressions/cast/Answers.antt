-- `token_reader::expressions::cast` meets its contract. Assumes nothing.
use mathlib.Core.Path.{◌∙◌}
use native.Mathlib.Omega.{arith}
use Rattle.token_reader.proofs.Tells.{ready_on, stores}
use Rattle.token_reader.proofs.ExprEnds.{cast_none, cast_stored}
use Rattle.token_reader.proofs.expressions.cast.Goals as goal

pub ty-target-requires : goal.ty-target-requires
ty-target-requires c = (ready_on _ (omega arith) (omega arith) c.requires.0, omega arith)

pub returns-then-target-tokens : goal.returns-then-target-tokens
returns-then-target-tokens c = (cast_none _ c.requires.0 c.if-target-tokens.true c.ty-target.ensures.0 c.no_expr.ensures, λ q. absurd (omega arith))

pub overflow_add-target : goal.overflow_add-target
overflow_add-target c = let w = c.ty-target.ensures.0.grew c.if-target-tokens.false in omega (arith, c.requires.0.most, w.less)

pub store-requires : goal.store-requires
store-requires c = stores c.requires.0 (c.ty-target.ensures.0.grew c.if-target-tokens.false) (omega (arith, c.if-target-tokens.false))

pub returns : goal.returns
returns c =
    let g = (c.ty-target.ensures.0.grew c.if-target-tokens.false).room in
    (cast_stored _ c.requires.0 _ c.if-target-tokens.false c.ty-target.ensures.0 c.store.ensures, λ q. λ j h. c.store.ensures.below j (omega arith) ∙ c.ty-target.ensures.1 j h)
