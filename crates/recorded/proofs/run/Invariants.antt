-- No more records differ than were met.
use Rattle.std.proofs.Common.{◌≤◌}
use Rattle.recorded.proofs.run.Given as goal

abbrev pub invariant-loop-files : goal.invariant-loop-files
invariant-loop-files g l = l.different ≤ l.files
