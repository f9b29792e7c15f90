-- `token_reader::types::take` meets its contract. Assumes nothing.
use Rattle.std.proofs.Common.{refl, sym, ◌∙◌, arith}
use Rattle.token_reader.specs.Waiting.{pointed, all, part}
use Rattle.token_reader.proofs.types.take.Goals as goal

pub returns-then-s-base : goal.returns-then-s-base
returns-then-s-base c = all c.if-s-base.true refl refl refl refl

pub after_item-requires : goal.after_item-requires
after_item-requires c = (c.requires.able, omega (arith, c.requires.above, c.if-s-base.false), λ z. c.if-own-top.true (z ∙ sym c.number.ensures))

pub returns-then-own-top : goal.returns-then-own-top
returns-then-own-top c = part c.if-s-base.false c.after_item.ensures

pub returns : goal.returns
returns c = rw c.pop.ensures (part c.if-s-base.false (pointed (c.if-own-top.false ∙ c.number.ensures) c.store-free.ensures refl (omega (arith, c.if-s-base.false), refl, refl)))
