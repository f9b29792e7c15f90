-- Numbers at their places in lists that are one after the other. Assumes nothing.
use mathlib.Core.Path.{◌≡◌, refl, ◌∙◌}
use mathlib.Core.List.{List, [], ◌∷◌, ◌++◌}
use Prim.Native.Nat.{ℕ, zero, suc, ◌+◌, ◌*◌, ◌≤◌, ◌<◌}
use native.Mathlib.Omega.{arith}
use native.Mathlib.Decide.{dec_le}
use lib.ListN.{length, get_or, take, get_or-append}
use lib.Seq.{take-suc, get_or-append-add}
use Rattle.file_bytes.proofs.Below.{AllBelow, below_none, below_append}
use Rattle.file_columns.specs.Columns.{joined}
use Rattle.file_columns.proofs.Joined.{join_length}

-- a part ends before the list does
pub more_parts : (w i n : ℕ) → i < n → w * i + w ≤ w * n
more_parts w i zero h = absurd (omega arith)
more_parts w i (suc n) h = go (dec_le n i) (more_parts w i n)
  where
    go : Dec (n ≤ i) → (i < n → w * i + w ≤ w * n) → w * i + w ≤ w * suc n
    go (yes l) ih = let e : i ≡ n = omega arith in rw e (omega arith)
    go (no l) ih = let r = ih (omega arith) in omega arith

-- the number at place j of part i
pub part_at : (w : ℕ) (g : ℕ → List ℕ) (n : ℕ) → ((i : ℕ) → length (g i) ≡ w) → (i j : ℕ) → i < n → j < w → get_or (joined g n) (w * i + j) 0 ≡ get_or (g i) j 0
unfolding joined
part_at w g zero l i j h k = absurd (omega arith)
part_at w g (suc n) l i j h k = go (dec_le n i) (part_at w g n l i j)
  where
    go : Dec (n ≤ i) → (i < n → j < w → get_or (joined g n) (w * i + j) 0 ≡ get_or (g i) j 0) → get_or (joined g n ++ g n) (w * i + j) 0 ≡ get_or (g i) j 0
    go (yes p) ih =
        let e : i ≡ n = omega arith in
        let m = join_length w g n l in
        rw (e, ← m) (get_or-append-add (joined g n) (g n) j 0)
    go (no p) ih =
        let m = join_length w g n l in
        let r = more_parts w i n (omega arith) in
        get_or-append (joined g n) (g n) 0 (w * i + j) (omega arith) ∙ ih (omega arith) k

-- a list is its numbers, one after the other
pub singles : (l : List ℕ) (n : ℕ) → n ≤ length l → take n l ≡ joined (λ i. get_or l i 0 ∷ []) n
unfolding joined
singles l zero h = refl
singles l (suc n) h = take-suc l n 0 (omega arith) ∙ rw (singles l n (omega arith))

-- all numbers are below a bound where those of each part are
pub below_joined : {most : ℕ} (g : ℕ → List ℕ) (n : ℕ) → 0 < most → ((i : ℕ) → i < n → AllBelow most (g i)) → AllBelow most (joined g n)
unfolding joined
below_joined g zero p h = below_none p
below_joined g (suc n) p h = below_append (joined g n) (g n) (below_joined g n p (λ i l. h i (omega arith))) (h n (omega arith))
