-- What a reply says of its number. Assumes nothing.
use mathlib.Core.Path.{◌≡◌, refl, sym, ap, ◌∙◌}
use mathlib.Core.Bool.{Bool, true, false}
use Prim.Native.Nat.{ℕ, zero, suc}
use native.Mathlib.Omega.{arith}
use lib.Dec.{eqb}
use Rattle.std.specs.Prelude.{Result, Ok, Err}
use Rattle.std.proofs.Common.{rules}
use Rattle.std.proofs.lemmas.Grind.{common_steps}
use Rattle.laws.specs.Choice.{pick}
use Rattle.tree.specs.declared.refusal.Refusal.{Refusal}
use Rattle.tree.specs.Replies.{replied}

-- a reply by another number that is the same
pub says : {A : Type 0} (k : ℕ) (a : A) {n : ℕ} → k ≡ n → replied k a ≡ replied n a
says k a e = ap (λ m. replied m a) e

-- done: the number is 0
pub replied_ok : {A : Type 0} (n : ℕ) (a v : A) → Ok v ≡ replied n a → n ≡ 0
unfolding replied pick
replied_ok n a v e = grind (arith, common_steps, e)

-- refused: the number is not 0
pub replied_err : {A : Type 0} (n : ℕ) (a : A) (r : Refusal) → Err r ≡ replied n a → n ≡ 0 → ⊥
unfolding replied pick
replied_err n a r e z = grind (arith, common_steps, e, z)

-- then the value is no matter
pub refused_any : {A B : Type 0} (n : ℕ) (a : A) (b : B) (r : Refusal) → Err r ≡ replied n a → Err r ≡ replied n b
unfolding replied pick
refused_any n a b r e = grind (arith, common_steps, e)
