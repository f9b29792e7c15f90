-- lists::gather keeps the length of what is lent.
use Rattle.std.proofs.Common.{◌≡◌, length}
use Rattle.recorded.proofs.lists.gather.Given as goal

abbrev pub invariant-loop-at : goal.invariant-loop-at
invariant-loop-at l = length l.codes ≡ length l.initial.codes
