-- Lists one after the other. Assumes nothing.
use mathlib.Core.Path.{◌≡◌}
use mathlib.Core.List.{List}
use Prim.Native.Nat.{ℕ, zero, suc, ◌*◌}
use native.Mathlib.Omega.{arith}
use lib.ListN.{length, length-append}
use Rattle.laws.specs.Puts.{Put}
use Rattle.laws.proofs.Putting.{put_none, put_more}
use Rattle.file_columns.specs.Columns.{joined}

-- put one after the other
pub join_put_none : (g : ℕ → List ℕ) (before : List ℕ) (at : ℕ) → Put before at (joined g 0) before at
unfolding joined
join_put_none g before at = put_none before at

pub join_put : (g : ℕ → List ℕ) (n m : ℕ) {before mid after : List ℕ} {from at next : ℕ} → m ≡ suc n → Put before from (joined g n) mid at → Put mid at (g n) after next → Put before from (joined g m) after next
unfolding joined
join_put g n m e p q = rw e (put_more p q)

-- of lists of one, and of any length
pub join_length : (w : ℕ) (g : ℕ → List ℕ) (n : ℕ) → ((i : ℕ) → length (g i) ≡ w) → length (joined g n) ≡ w * n
unfolding joined
join_length w g zero h = omega arith
join_length w g (suc n) h =
    let r = join_length w g n h in
    let l = h n in
    simp length-append (omega arith)
