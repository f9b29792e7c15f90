-- `token_writer::lay` meets its contract. Assumes nothing.
use mathlib.Core.Path.{refl}
use native.Mathlib.Omega.{arith}
use Rattle.token_writer.proofs.lay.Goals as goal

pub push-one-requires : goal.push-one-requires
push-one-requires c = omega arith

pub push-two-requires : goal.push-two-requires
push-two-requires c = omega (arith, c.requires, c.push-one.ensures.1, c.push-one.ensures.2)

pub push-three-requires : goal.push-three-requires
push-three-requires c = omega (arith, c.requires, c.push-one.ensures.1, c.push-one.ensures.2, c.push-two.ensures.1, c.push-two.ensures.2)

pub push-requires : goal.push-requires
push-requires c = omega (arith, c.requires, c.push-one.ensures.1, c.push-one.ensures.2, c.push-two.ensures.1, c.push-two.ensures.2, c.push-three.ensures.1, c.push-three.ensures.2)

pub returns : goal.returns
returns c = rw (c.push.ensures.0, c.push.ensures.1, c.push-three.ensures.0, c.push-three.ensures.1, c.push-two.ensures.0, c.push-two.ensures.1, c.push-one.ensures.0, c.push-one.ensures.1) (refl, omega arith)
