-- `token_reader::numbering::measure` meets its contract. The loop's invariant: the trees at the nodes behind the one that it has come to are measured. Assumes nothing.
use Rattle.std.proofs.Common.{◌≡◌, ◌≤◌, length}
use Rattle.token_reader.specs.Mirrored.{Measured}
use Rattle.token_reader.proofs.numbering.measure.Given as goal

abbrev pub invariant-loop-before : goal.invariant-loop-before
invariant-loop-before l = (l.base ≤ l.before) × (length l.spans ≡ length l.initial.spans) × (length l.heights ≡ length l.initial.heights) × Measured l.own l.nodes l.base l.before l.spans l.heights
