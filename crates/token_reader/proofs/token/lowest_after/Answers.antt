-- `token_reader::token::lowest_after` meets its contract. Assumes nothing.
use mathlib.Core.Path.{sym}
use borrow.Author.Tests.{eq-eqb, ne_eqb}
use Rattle.laws.proofs.Choice.{pick_true, pick_false}
use Rattle.token_reader.specs.Tables.{after_of}
use Rattle.token_reader.proofs.token.lowest_after.Goals as goal

pub returns-then-made-eq-ASSIGNMENTS : goal.returns-then-made-eq-ASSIGNMENTS
unfolding after_of
returns-then-made-eq-ASSIGNMENTS c = sym (pick_true _ _ (eq-eqb _ _ c.if-made-eq-ASSIGNMENTS.true))

pub returns-else-made-eq-ASSIGNMENTS : goal.returns-else-made-eq-ASSIGNMENTS
unfolding after_of
returns-else-made-eq-ASSIGNMENTS c = sym (pick_false _ _ (ne_eqb _ _ c.if-made-eq-ASSIGNMENTS.false))
