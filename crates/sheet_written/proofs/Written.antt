-- A right sheet is still right after any run of edits, and a right sheet that is plain is written as promised. Assumes nothing.
use Rattle.token_grammar.specs.Grammar.{context_number}
use Rattle.tree_rules.specs.Refusals.{Accepted}
use Rattle.token_theorem.proofs.Promise.{promise}
use Rattle.sheet_edit.specs.Runs.{Sheet, Right}
use Rattle.sheet_edit.proofs.Runs.{ran_right}
use Rattle.sheet_written.specs.Statement.{Promised, StillWritten}

right_promised : (s : Sheet) → Right s → Promised s
right_promised s right k context plain =
    let ok : Accepted (context_number k) s.count s.table = rw context at right.accepted in
    promise k s.count s.table ok plain

pub written_as_promised : StillWritten
written_as_promised s cs right = right_promised _ (ran_right s cs right)
