-- `file_loader::is_bad_body` meets its contract. Assumes nothing.
use Rattle.file_loader.proofs.Files.{broken_body, ended_body}
use Rattle.file_loader.proofs.is_bad_body.Goals as goal

pub returns-in_default : goal.returns-in_default
returns-in_default c = broken_body c.in_default.ensures

pub returns : goal.returns
returns c = ended_body _ _ _ _ c.in-Some.ensures
