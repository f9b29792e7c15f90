-- `token_writer::lay_three` meets its contract. Assumes nothing.
use mathlib.Core.Path.{refl}
use native.Mathlib.Omega.{arith}
use Rattle.token_writer.proofs.lay_three.Goals as goal

pub push-one-requires : goal.push-one-requires
push-one-requires c = omega arith

pub overflow_add-code : goal.overflow_add-code
overflow_add-code c = record { fits = omega arith }

pub push-two-requires : goal.push-two-requires
push-two-requires c = omega (arith, c.requires.0, c.push-one.ensures.1, c.push-one.ensures.2)

pub push-requires : goal.push-requires
push-requires c = omega (arith, c.requires.0, c.push-one.ensures.1, c.push-one.ensures.2, c.push-two.ensures.1, c.push-two.ensures.2)

pub returns : goal.returns
returns c = rw (c.push.ensures.0, c.push.ensures.1, c.push-two.ensures.0, c.push-two.ensures.1, c.push-one.ensures.0, c.push-one.ensures.1) (refl, omega arith)
