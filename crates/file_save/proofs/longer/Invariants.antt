-- `file_save::longer` meets its contract. Assumes nothing.
use Rattle.std.proofs.Common.{◌≡◌, ◌≤◌, take}
use lib.Dec.{leb}
use Rattle.std.specs.Prelude.{count_by}
use Rattle.file_save.proofs.longer.Given as goal

abbrev pub invariant-loop-number : goal.invariant-loop-number
invariant-loop-number l = (l.found ≤ l.number-index) × (l.found ≡ count_by (λ n. leb 128 n) (take l.number-index l.fn.numbers))
