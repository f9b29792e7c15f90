-- `file_columns::count_in` meets its contract. Assumes nothing.
use Rattle.file_loader.specs.Several.{values_in}
use Rattle.file_loader.specs.Files.{header, count_in}
use Rattle.file_columns.proofs.count_in.Goals as goal

pub returns-in-Some : goal.returns-in-Some
unfolding count_in header values_in
returns-in-Some c = rw c.in-Some.ensures.read.0

pub returns-in-None : goal.returns-in-None
unfolding count_in header values_in
returns-in-None c = rw c.in-None.ensures.read
