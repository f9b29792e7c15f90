-- `file_save::save` meets its contract. Assumes nothing.
use Rattle.std.proofs.Common.{arith}
use Rattle.tree_rules.proofs.Accepted.{count_bounds}
use Rattle.file_save.proofs.save.Goals as goal

pub save_by-requires-in_default-clause-room : goal.save_by-requires-in_default-clause-room
save_by-requires-in_default-clause-room c = λ ok. let k = count_bounds _ _ _ ok in omega (arith, k.1)
