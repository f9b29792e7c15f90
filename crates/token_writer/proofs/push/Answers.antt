-- `token_writer::push` meets its contract. Assumes nothing.
use mathlib.Core.Path.{refl}
use lib.ListN.{length-set}
use native.Mathlib.Omega.{arith}
use Rattle.token_writer.proofs.push.Goals as goal

pub returns : goal.returns
returns c = (refl, omega arith, simp length-set)
