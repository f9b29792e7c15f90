-- `classify::requires_semi_to_be_stmt` at a macro call. Assumes nothing.
use Rattle.std.proofs.Common.{rules, sym}
use Rattle.laws.specs.Choice.{pick, lookup}
use Rattle.tree.specs.Trees.{label_at}
use Rattle.tree.specs.Walks.{at_root}
use Rattle.tree.proofs.Unfold.{unfolds}
use Rattle.classify.specs.Classify.{requires_semi}
use Rattle.classify.proofs.requires_semi_to_be_stmt.Goals as goal

pub returns-in-Some-ExprMacro : goal.returns-in-Some-ExprMacro
unfolding requires_semi at_root lookup pick label_at
returns-in-Some-ExprMacro c =
    let f = rw c.in-Some-ExprMacro.is at c.form.ensures in
    let form = rw c.in-Some-ExprMacro.field-0-is at f.2 in
    rw (unfolds _ _ _ f.0 f.1, sym form) (search rules)
