-- `token_writer::plainness::is_plain_table` meets its contract. Assumes nothing.
use Rattle.std.proofs.Common.{◌≡◌, false, not, ℕ}
use Rattle.laws.specs.Each.{some}
use Rattle.tree.specs.Trees.{label_at}
use Rattle.token_plain.specs.Plain.{is_plain}
use Rattle.token_writer.proofs.plainness.is_plain_table.Given as goal

abbrev pub invariant-loop-done : goal.invariant-loop-done
invariant-loop-done l = some (λ (i : ℕ). not (is_plain (label_at l.table.cells.now i))) l.done ≡ false
