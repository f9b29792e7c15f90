-- `file_loader::store` meets its contract. Assumes nothing.
use Rattle.file_loader.proofs.Storing.{StoredTo}
use Rattle.file_loader.proofs.store.Given as goal

abbrev pub invariant-loop-done : goal.invariant-loop-done
invariant-loop-done l = StoredTo l.file l.from l.initial.table l.table l.done l.at
