-- `file_save::left_after` meets its contract. Assumes nothing.
use Rattle.std.proofs.Common.{◌≡◌, ◌+◌, length, take}
use Rattle.file_bytes.specs.Bytes.{all_bytes}
use Rattle.file_save.proofs.left_after.Given as goal

abbrev pub invariant-loop-number : goal.invariant-loop-number
invariant-loop-number l = l.left + length (all_bytes (take l.number-index l.fn.numbers)) ≡ l.fn.room
