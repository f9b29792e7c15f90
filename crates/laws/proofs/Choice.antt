-- Laws of choice by a test, and of tests that are joined. Assumes nothing.
use mathlib.Core.Path.{◌≡◌, refl, sym, ◌∙◌}
use mathlib.Core.Bool.{Bool, true, false, not, ◌&&◌, ◌||◌}
use Prim.Native.Nat.{ℕ, ◌<◌}
use native.Mathlib.Omega.{arith}
use lib.Dec.{T}
use Rattle.laws.specs.Choice.{pick}

pub pick_true : {A : Type 0} {b : Bool} (x y : A) → b ≡ true → pick b x y ≡ x
unfolding pick
pick_true x y e = rw e

pub pick_false : {A : Type 0} {b : Bool} (x y : A) → b ≡ false → pick b x y ≡ y
unfolding pick
pick_false x y e = rw e

pub true_not_false : {A : Type 0} → true ≡ false → A
true_not_false e = absurd (let z : ◌≡◌ {A = ℕ} 0 1 = cc in omega arith)

pub true_of : {b : Bool} → T b → b ≡ true
true_of {b} t = go b t
  where
    go : (b : Bool) → T b → b ≡ true
    go true t = refl
    go false t = absurd t

pub of_true : {b : Bool} → b ≡ true → T b
of_true {b} e = rw e tt

-- whether two tests say the same, for tests over every number of a table
abbrev pub alike : Bool → Bool → Bool
alike true b = b
alike false b = not b

pub alike_same : (a b : Bool) → T (alike a b) → a ≡ b
alike_same true true t = refl
alike_same true false t = absurd t
alike_same false true t = absurd t
alike_same false false t = refl

pub and_true : (a b : Bool) → a && b ≡ true → (a ≡ true) × (b ≡ true)
and_true true b e = (refl, e)
and_true false b e = true_not_false (sym e)

pub or_false : (a b : Bool) → a || b ≡ false → (a ≡ false) × (b ≡ false)
or_false true b e = true_not_false e
or_false false b e = (refl, e)

-- a choice between a number above 0 and another that gives 0: the test fails, and the other is 0
pub pick_zero : (b : Bool) (n m : ℕ) → 0 < n → pick b n m ≡ 0 → (b ≡ false) × (m ≡ 0)
unfolding pick
pick_zero true n m h e = absurd (omega arith)
pick_zero false n m h e = (refl, e)

-- alternatives in a row: one that holds, and one that is passed over
pub or_here : {a : Bool} (b : Bool) → a ≡ true → a || b ≡ true
or_here b e = rw e

pub or_next : {a : Bool} (b : Bool) → a ≡ false → a || b ≡ b
or_next b e = rw e

pub and_here : {a : Bool} (b : Bool) → a ≡ true → a && b ≡ b
and_here b e = rw e

-- two tests joined, by what each of them says
pub and_by : {a b c d r v : Bool} → a ≡ c → b ≡ d → r ≡ (a && b) → r ≡ v → c && d ≡ v
and_by p q e h = cc

pub or_by : {a b c d r v : Bool} → a ≡ c → b ≡ d → r ≡ (a || b) → r ≡ v → c || d ≡ v
or_by p q e h = cc

-- a choice, by what its test and its two sides are
pub pick_by : {A : Type 0} {b c : Bool} {x y z w : A} → b ≡ c → x ≡ z → y ≡ w → pick b x y ≡ pick c z w
pick_by p q r = cc
