-- `token_reader::types::ty` meets its contract. Assumes nothing.
use mathlib.Core.Path.{refl, ◌∙◌}
use borrow.Author.Rules.{rules}
use Rattle.token_reader.proofs.Modes.{goes, stops}
use Rattle.token_reader.proofs.TypeTurns.{on_start, on_end, on_turnable, on_turned, on_less, on_stays}
use Rattle.token_reader.proofs.types.ty.Goals as goal

pub loop-own-init : goal.loop-own-init
loop-own-init c = (refl, on_start _ _ _ _ _ _ c.requires.0 c.requires.1 refl, λ j q. refl)

pub turn-s-requires : goal.turn-s-requires
turn-s-requires c = on_turnable _ _ _ _ _ c.loop-own.invariant.1 (goes _ c.ne.ensures c.loop-own-test.true)

pub loop-own-smaller : goal.loop-own-smaller
loop-own-smaller c = on_less c.loop-own.invariant.1 (goes _ c.ne.ensures c.loop-own-test.true) c.turn-s.ensures

pub loop-own-preserved : goal.loop-own-preserved
loop-own-preserved c = (search rules, on_turned _ _ _ _ _ c.loop-own.invariant.1 (goes _ c.ne.ensures c.loop-own-test.true) c.turn-s.ensures, λ j q. on_stays c.loop-own.invariant.1 (goes _ c.ne.ensures c.loop-own-test.true) c.turn-s.ensures j q ∙ c.loop-own.invariant.2 j q)

pub returns : goal.returns
returns c = (on_end _ _ _ _ _ c.loop-own.invariant.1 (stops _ c.ne.ensures c.loop-own-test.false), c.loop-own.invariant.2)
