-- No more blocks are counted than were met.
use Rattle.std.proofs.Common.{◌≤◌}
use Rattle.spines.proofs.run.Given as goal

abbrev pub invariant-loop-block : goal.invariant-loop-block
invariant-loop-block g l = (l.done ≤ l.block) × (l.different ≤ l.block)
