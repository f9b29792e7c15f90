-- `row_walk::root_hand` meets its contract. Assumes nothing.
use mathlib.Core.Path.{◌≡◌, refl}
use native.Mathlib.Omega.{arith}
use Rattle.laws.specs.Choice.{pick, lookup}
use Rattle.fixup.specs.Contexts.{none_context}
use Rattle.expr.specs.Handed.{ungrouped, neither}
use Rattle.row_pack.proofs.Packs.{none_packed}
use Rattle.row.specs.Hands.{hand_of}
use Rattle.row_walk.specs.Walk.{contexts, context_numbered}
use Rattle.row_walk.proofs.root_hand.Goals as goal

context_0 : context_numbered 0 ≡ none_context
unfolding context_numbered contexts lookup pick
context_0 = refl

pub returns-then-context-eq0 : goal.returns-then-context-eq0
unfolding hand_of neither ungrouped
returns-then-context-eq0 c = rw (c.from.ensures, c.rank.ensures, c.precedence-precedence.ensures, c.none-none.ensures, c.if-context-eq0.true, context_0, none_packed) (omega arith)
