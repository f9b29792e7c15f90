-- `token_reader::token::code_at` meets its contract. Assumes nothing.
use mathlib.Core.Path.{sym}
use native.Mathlib.Omega.{arith}
use Rattle.token_reader.proofs.First.{past_tokens}
use Rattle.token_reader.proofs.Cells.{code_in}
use Rattle.token_reader.proofs.token.code_at.Goals as goal

pub returns-then-at-tokens : goal.returns-then-at-tokens
returns-then-at-tokens c = code_in c.args.tokens.now c.args.at (omega arith)

pub returns-else-at-tokens : goal.returns-else-at-tokens
returns-else-at-tokens c = sym (past_tokens c.args.tokens.now c.args.at (omega arith))
