-- `file_save::put_all` meets its contract. Assumes nothing.
use Rattle.std.proofs.Common.{take}
use Rattle.laws.specs.Puts.{Put}
use Rattle.file_bytes.specs.Bytes.{all_bytes}
use Rattle.file_save.proofs.put_all.Given as goal

abbrev pub invariant-loop-number : goal.invariant-loop-number
invariant-loop-number l = Put l.initial.file l.fn.from (all_bytes (take l.number-index l.fn.numbers)) l.file l.at
