-- `parens::put_lines` meets its contract. Assumes nothing.
use Rattle.parens.specs.Text.{lines_of}
use Rattle.text.specs.Growth.{Grown}
use Rattle.parens.proofs.put_lines.Given as goal

abbrev pub invariant-loop-done : goal.invariant-loop-done
invariant-loop-done l = Grown l.initial.out l.end (lines_of l.table.count l.table.cells.now l.rows l.done) l.out l.at
