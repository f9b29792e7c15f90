-- `token_reader::types::close` meets its contract. Assumes nothing.
use Rattle.std.proofs.Common.{refl, sym, ◌∙◌, arith}
use Rattle.token_reader.specs.Waiting.{more, applied}
use Rattle.token_reader.proofs.types.close.Goals as goal

pub returns-then-own-top : goal.returns-then-own-top
returns-then-own-top c = rw c.pop.ensures (more (c.if-own-top.true ∙ c.number.ensures) c.store-free.ensures refl (omega (arith, c.requires.1), refl, refl))

pub returns : goal.returns
returns c = rw c.pop-2.ensures (applied (λ z. c.if-own-top.false (z ∙ sym c.number.ensures)) c.store-free-2.ensures refl (omega (arith, c.requires.1), refl, refl))
