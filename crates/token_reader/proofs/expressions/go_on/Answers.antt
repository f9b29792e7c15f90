-- `token_reader::expressions::go_on` meets its contract. Assumes nothing.
use mathlib.Core.Path.{refl, sym, ap, ◌∙◌}
use native.Mathlib.Omega.{arith}
use Rattle.token_reader.specs.Tables.{goes_on_with}
use Rattle.token_reader.specs.Turns.{on, all, part}
use Rattle.token_reader.proofs.ExprEnds.{goes_inside}
use Rattle.token_reader.proofs.expressions.go_on.Goals as goal

pub step-requires : goal.step-requires
step-requires c = (c.requires.0, c.code_at-code.ensures, goes_inside c.args.tokens.now c.args.s.left.at c.args.s.least c.args.s.left.level c.args.s.left.named c.args.s.left.dotted c.requires.1 (sym (ap (goes_on_with c.args.s.least c.args.s.left.level c.args.s.left.named c.args.s.left.dotted) c.code_at-code.ensures) ∙ sym c.goes_on.ensures ∙ c.if-goes_on.true))

pub returns-then-goes_on : goal.returns-then-goes_on
returns-then-goes_on c = on (sym (ap (goes_on_with c.args.s.least c.args.s.left.level c.args.s.left.named c.args.s.left.dotted) c.code_at-code.ensures) ∙ sym c.goes_on.ensures ∙ c.if-goes_on.true) c.step.ensures

pub returns-then-s-eq0 : goal.returns-then-s-eq0
returns-then-s-eq0 c = all (sym (ap (goes_on_with c.args.s.least c.args.s.left.level c.args.s.left.named c.args.s.left.dotted) c.code_at-code.ensures) ∙ sym c.goes_on.ensures ∙ c.if-goes_on.false) c.if-s-eq0.true refl c.if-s-eq0.true refl refl

pub returns : goal.returns
returns c = part (sym (ap (goes_on_with c.args.s.least c.args.s.left.level c.args.s.left.named c.args.s.left.dotted) c.code_at-code.ensures) ∙ sym c.goes_on.ensures ∙ c.if-goes_on.false) (omega (arith, c.if-s-eq0.false)) c.take.ensures
