-- `text::put_line` meets its contract. Assumes nothing.
use Rattle.text.specs.Numbers.{line}
use Rattle.text.proofs.Growing.{grown_more}
use borrow.Author.Rules.{rules}
use Rattle.text.proofs.put_line.Goals as goal

pub returns : goal.returns
unfolding line
returns c =
    grown_more c.put_number-first.ensures
    (grown_more c.put_spaced-last.ensures c.put_byte.ensures)
