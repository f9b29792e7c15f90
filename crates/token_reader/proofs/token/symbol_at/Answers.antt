-- `token_reader::token::symbol_at` meets its contract. Assumes nothing.
use mathlib.Core.Path.{sym}
use native.Mathlib.Omega.{arith}
use Rattle.token_reader.proofs.Cells.{symbol_in, symbol_past}
use Rattle.token_reader.proofs.token.symbol_at.Goals as goal

pub returns-then-at-tokens : goal.returns-then-at-tokens
returns-then-at-tokens c = symbol_in c.args.tokens.now c.args.at (omega arith)

pub returns-else-at-tokens : goal.returns-else-at-tokens
returns-else-at-tokens c = sym (symbol_past c.args.tokens.now c.args.at (omega arith))
