-- `token_reader::types::sign` meets its contract. Assumes nothing.
use mathlib.Core.Path.{refl}
use native.Mathlib.Omega.{arith}
use Rattle.token_reader.proofs.TypeEnds.{sign_stored}
use Rattle.token_reader.proofs.types.sign.Goals as goal

pub returns : goal.returns
returns c = rw c.came.ensures (sign_stored c.requires.0.ready c.requires.1 c.store-free.ensures, λ j q. c.store-free.ensures.below j (omega arith), refl, refl, refl)
