-- `token_reader::types::ty` meets its contract. Assumes nothing.
use mathlib.Core.Path.{◌≡◌}
use lib.ListN.{length}
use Rattle.token_reader.specs.Waiting.{Stays}
use Rattle.token_reader.proofs.TypeTurns.{On, left_to_do}
use Rattle.token_reader.proofs.types.ty.Given as goal

abbrev pub invariant-loop-own : goal.invariant-loop-own
invariant-loop-own l = (length l.own ≡ length l.initial.own) × On l.tokens l.initial.own l.base l.at l.free l.own l.s × Stays l.initial.own l.own l.base

abbrev pub decreases-loop-own : goal.decreases-loop-own
decreases-loop-own l = left_to_do l.tokens l.s
