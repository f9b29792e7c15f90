-- `expr::field_else_below` meets its contract. Assumes nothing.
use Rattle.std.proofs.Common.{rules, ◌≡◌, ◌∙◌}
use Rattle.laws.specs.Choice.{pick, lookup}
use Rattle.precedence.specs.Precedences.{below}
use Rattle.precedence.specs.declared.Precedence.TheVariants.{Unambiguous}
use Rattle.expr.proofs.Operands.{crates_in}
use Rattle.expr.proofs.field_else_below.Goals.{in_default-via-in-Some+in_default, in_default-via-in_default}
use Rattle.expr.proofs.field_else_below.Goals as goal

pub returns-in_default : goal.returns-in_default
unfolding lookup pick
returns-in_default c = (let e : c.lt.result ≡ below c.args.left Unambiguous = search rules in e) ∙ rw (crates_in c.args.table.now.cells.now c.args.table.now.count c.args.func c.args.left) (elim c.in_default.branch [ in_default-via-in-Some+in_default w ↦ search rules | in_default-via-in_default w ↦ search rules ])
