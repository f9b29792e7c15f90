use Rattle.std.proofs.Common.{◌≡◌, ◌-◌}
use Rattle.tree.specs.Trees.{tree_at}
use Rattle.tree.specs.Walks.{walk}
use Rattle.tree.proofs.question.walk.Given as goal

abbrev pub invariant-down : goal.invariant-down
invariant-down g l =
    walk g.Q.Question.lines g.Q.Question.other g.Q.Question.absent (tree_at l.table.cells.now l.table.count l.at)
    ≡ walk g.Q.Question.lines g.Q.Question.other g.Q.Question.absent (tree_at l.table.cells.now l.table.count l.fn.node)

abbrev pub decreases-down : goal.decreases-down
decreases-down g l = l.table.count - l.at
