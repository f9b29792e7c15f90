-- `tokens::put_column` meets its contract. Assumes nothing.
use native.Mathlib.Omega.{arith}
use Rattle.text.proofs.Growing.{grown_none, grown_more}
use Rattle.tokens.proofs.Lines.{parted_none, parted_next}
use borrow.Author.Rules.{rules}
use Rattle.tokens.proofs.put_column.Goals as goal

pub returns-then-numbers-from : goal.returns-then-numbers-from
returns-then-numbers-from c = rw (parted_none c.args.numbers.now c.args.from c.if-numbers-from.true) (grown_none _ _)

pub returns : goal.returns
returns c = rw (parted_next c.args.numbers.now c.args.from (omega arith)) (grown_more c.put_number-first.ensures c.put_every.ensures)
