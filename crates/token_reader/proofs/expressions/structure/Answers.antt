-- `token_reader::expressions::structure` meets its contract. Assumes nothing.
use mathlib.Core.Path.{ap}
use native.Mathlib.Omega.{arith}
use Rattle.laws.proofs.Keys.{arm}
use Rattle.token_grammar.specs.Tokens.{struct_token, code, carries}
use Rattle.token_grammar.specs.Codes.{token_symbol_at}
use Rattle.token_grammar.specs.Parser.{no_start, start_lines}
use Rattle.token_reader.specs.Turns.{absent, whole}
use Rattle.token_reader.proofs.First.{there, no_symbol}
use Rattle.token_reader.proofs.ExprEnds.{operand_struct, struct_excluded, struct_read}
use Rattle.token_reader.proofs.expressions.structure.Goals as goal

pub returns-then-s : goal.returns-then-s
returns-then-s c = absent (rw c.if-s.true (operand_struct c.requires.0.ready (arm (start_lines (token_symbol_at c.args.tokens.now c.args.s.left.at)) no_start _ 8 tt c.requires.1) (struct_excluded c.requires.0.ready c.failed.ensures.past))) c.failed.ensures

pub atom-requires : goal.atom-requires
atom-requires c = (c.requires.0.ready, there c.args.tokens.now c.args.s.left.at (code struct_token) c.requires.1 (omega arith))

pub returns : goal.returns
returns c =
    let h = there c.args.tokens.now c.args.s.left.at (code struct_token) c.requires.1 (omega arith) in
    whole c.atom.result (rw c.if-s.false (operand_struct c.requires.0.ready (arm (start_lines (token_symbol_at c.args.tokens.now c.args.s.left.at)) no_start _ 8 tt c.requires.1) (struct_read c.requires.0.ready (no_symbol c.args.tokens.now c.args.s.left.at c.requires.0.ready.known (ap carries c.requires.1)) c.atom.ensures))) (omega arith) (λ j q. c.atom.ensures.below j (omega arith)) c.came.ensures
