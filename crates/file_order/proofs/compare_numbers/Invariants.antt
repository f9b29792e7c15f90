-- `file_order::compare_numbers` meets its contract. Assumes nothing.
use Rattle.file_order.proofs.Runs.{Beside}
use Rattle.file_order.proofs.compare_numbers.Given as goal

abbrev pub invariant-loop-done : goal.invariant-loop-done
invariant-loop-done l = Beside l.first l.second l.one l.many l.two l.others l.at l.beside l.done
