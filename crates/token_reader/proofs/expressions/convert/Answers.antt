-- `token_reader::expressions::convert` meets its contract. Assumes nothing.
use native.Mathlib.Omega.{arith}
use Rattle.token_grammar.specs.Tokens.{as_token, code}
use Rattle.token_reader.specs.Turns.{lost, step}
use Rattle.token_reader.proofs.First.{there}
use Rattle.token_reader.proofs.ExprEnds.{step_cast}
use Rattle.token_reader.proofs.ExprTurns.{step_lost}
use Rattle.token_reader.proofs.expressions.convert.Goals as goal

pub cast-left-requires : goal.cast-left-requires
cast-left-requires c = (c.requires.0.ready, there c.args.tokens.now c.args.s.left.at (code as_token) c.requires.1 (omega arith), c.requires.0.deep)

pub returns-then-left-tokens : goal.returns-then-left-tokens
returns-then-left-tokens c = lost (step_lost _ _ c.if-left-tokens.true c.failed.ensures.past (step_cast _ c.requires.0.ready c.requires.1 c.cast-left.ensures.0)) c.failed.ensures

pub returns : goal.returns
returns c = step _ (step_cast _ c.requires.0.ready c.requires.1 c.cast-left.ensures.0) c.if-left-tokens.false (c.cast-left.ensures.1 c.if-left-tokens.false) c.came.ensures
