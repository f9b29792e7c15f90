-- What a reply says of its number. Assumes nothing.
use mathlib.Core.Path.{◌≡◌, ap}
use Prim.Native.Nat.{ℕ}
use native.Mathlib.Omega.{arith}
use Rattle.std.specs.Prelude.{Result, Ok, Err, IsErrAnd}
use Rattle.std.specs.Result.{IsErr}
use Rattle.std.proofs.lemmas.Grind.{common_steps}
use Rattle.laws.specs.Choice.{pick}
use Rattle.tree.specs.declared.refusal.Refusal.{Refusal}
use Rattle.tree.specs.Replies.{replied}

-- done: the number is 0
pub replied_ok : {A : Type 0} (n : ℕ) (a v : A) → Ok v ≡ replied n a → n ≡ 0
unfolding replied pick
replied_ok n a v e = grind (arith, common_steps, e)

-- and the value is this
pub replied_value : {A : Type 0} (n : ℕ) (a v : A) → Ok v ≡ replied n a → v ≡ a
unfolding replied pick
replied_value n a v e = grind (arith, common_steps, e)

-- refused: the number is not 0
pub replied_err : {A : Type 0} (n : ℕ) (a : A) (r : Refusal) → Err r ≡ replied n a → n ≡ 0 → ⊥
unfolding replied pick
replied_err n a r e z = grind (arith, common_steps, e, z)

-- then the value is no matter
pub refused_any : {A B : Type 0} (n : ℕ) (a : A) (b : B) (r : Refusal) → Err r ≡ replied n a → Err r ≡ replied n b
unfolding replied pick
refused_any n a b r e = grind (arith, common_steps, e)

-- a refusal that `?` passes on
pub passed_up : {A : Type 0} (r : Result A Refusal) (e : Refusal) → IsErr r → IsErrAnd r (λ x. x ≡ e) → r ≡ Err e
passed_up (Ok a) e i h = absurd h
passed_up (Err x) e i h = ap Err h
