-- Laws of lists written over, and of runs of stores. Assumes nothing.
use mathlib.Core.Path.{◌≡◌, refl, sym, ◌∙◌}
use mathlib.Core.List.{List, [], ◌∷◌, ◌++◌}
use Prim.Native.Nat.{ℕ, suc, ◌+◌, ◌≤◌, ◌<◌}
use native.Mathlib.Omega.{arith}
use lib.ListN.{length, take, drop, get_or, set, length-append, length-drop}
use lib.Seq.{length-take-le, drop-cons, take-suc, set_at, append_snoc, sets, sets-eq}
use Rattle.laws.specs.Lists.{over}

pub length_over : {A : Type 0} (new old : List A) → length new ≤ length old → length (over new old) ≡ length old
unfolding over
length_over new old h = simp (length-append, length-drop) (omega arith)

-- a loop that copies one element after the other: before the first
pub over_none : {A : Type 0} (new old : List A) → over (take 0 new) old ≡ old
unfolding over
over_none new old = refl

-- and one element more
pub over_more : {A : Type 0} (new old : List A) (j : ℕ) (d : A) → j < length new → j < length old → set (over (take j new) old) j (get_or new j d) ≡ over (take (suc j) new) old
unfolding over
over_more new old j d h k =
    let l = length-take-le j new (omega arith) in
    let m = length-take-le (suc j) new (omega arith) in
    rw (l, m, drop-cons old j d k)
    (set_at (take j new) (get_or old j d) (drop (suc j) old) (get_or new j d) j l
    ∙ sym (append_snoc (take j new) (get_or new j d) (drop (suc j) old))
    ∙ rw (← take-suc new j d h))

-- ---- runs of stores

-- one run after the other
pub sets_append : {A : Type 0} (xs ys l : List A) (i j : ℕ) → j ≡ i + length xs → sets l i (xs ++ ys) ≡ sets (sets l i xs) j ys
sets_append [] ys l i j e = let s : j ≡ i = omega arith in rw s
sets_append (x ∷ xs) ys l i j e = sets_append xs ys (set l i x) (suc i) j (omega arith)

-- a run from the start on
pub sets_over : {A : Type 0} (xs l : List A) → length xs ≤ length l → sets l 0 xs ≡ over xs l
unfolding over
sets_over xs l h = let z : 0 + length xs ≡ length xs = omega arith in sets-eq xs l 0 (omega arith) ∙ rw z
