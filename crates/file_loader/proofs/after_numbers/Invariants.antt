-- `file_loader::after_numbers` meets its contract. Assumes nothing.
use Rattle.file_loader.proofs.Several.{ReadTo}
use Rattle.file_loader.proofs.after_numbers.Given as goal

abbrev pub invariant-loop-done : goal.invariant-loop-done
invariant-loop-done l = ReadTo l._done l.file l.from l.at
