-- `classify_braces::cast_brace` at a type that is there. Assumes nothing.
use Rattle.classify_braces.proofs.cast_brace.Goals as goal

pub returns : goal.returns
returns c = rw c.in-Some.is c.type_trailing_brace.ensures
