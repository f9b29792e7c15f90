-- `token_reader::expressions::call` meets its contract. Assumes nothing.
use mathlib.Core.Path.{sym, ◌∙◌}
use Prim.Native.Nat.{◌+◌}
use native.Mathlib.Omega.{arith}
use Rattle.token_grammar.specs.Tokens.{right_paren, code}
use Rattle.token_reader.specs.Kinds.{number_of}
use Rattle.token_reader.specs.Turns.{step, calls}
use Rattle.token_reader.proofs.First.{there}
use Rattle.token_reader.proofs.Tells.{ready_on}
use Rattle.token_reader.proofs.ExprEnds.{call_empty}
use Rattle.token_reader.proofs.expressions.call.Goals as goal

pub returns-then-code_at-eq-RIGHT_PAREN : goal.returns-then-code_at-eq-RIGHT_PAREN
returns-then-code_at-eq-RIGHT_PAREN c =
    let e = sym c.code_at.ensures ∙ c.if-code_at-eq-RIGHT_PAREN.true in
    let i = there c.args.tokens.now (c.args.at + 1) (code right_paren) e (omega arith) in
    step _ (c.requires.3.steps _ _ _ c.requires.0.ready (call_empty (ready_on c.args.at c.requires.3.from (omega arith) c.requires.0.ready) (omega arith) e c.store-free.ensures c.strongest.ensures)) (omega arith) (λ j q. c.store-free.ensures.below j (omega arith)) c.came.ensures

pub returns : goal.returns
returns c = calls c.args.at (number_of c.args.what) c.args.symbol c.requires.1 (rw c.requires.2 at c.requires.3) (λ z. c.if-code_at-eq-RIGHT_PAREN.false (c.code_at.ensures ∙ z)) c.wait.ensures.0 c.wait.ensures.1
