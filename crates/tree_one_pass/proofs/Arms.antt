-- Rules for the arms of a `match`, each one computed test. Assumes nothing.
use mathlib.Core.Path.{◌≡◌, refl, sym}
use mathlib.Core.Bool.{Bool, true, false, ◌&&◌}
use mathlib.Core.List.{List, [], ◌∷◌}
use Prim.Native.Nat.{ℕ}
use lib.Dec.{T, eqb}
use borrow.Author.Tests.{eqb-true}
use types.Run.{OneOf}
use mir.Val.{has_key}
use Rattle.laws.proofs.Choice.{true_not_false, true_of, of_true, and_true}
use Rattle.laws.proofs.Keys.{among}

-- a test that holds at each of the numbers of an arm: one computed test gives the rule for the arm
abbrev pub all_of : (ℕ → Bool) → List ℕ → Bool
all_of f [] = true
all_of f (k ∷ ks) = f k && all_of f ks

has_each : (f : ℕ → Bool) (ks : List ℕ) (x : ℕ) → T (all_of f ks) → has_key ks x ≡ true → f x ≡ true
has_each f [] x t h = true_not_false (sym h)
has_each f (k ∷ ks) x t h = go (eqb k x) refl (and_true (f k) (all_of f ks) (true_of t)) (λ p q. has_each f ks x p q)
  where
    go : (b : Bool) → eqb k x ≡ b → (f k ≡ true) × (all_of f ks ≡ true) → (T (all_of f ks) → has_key ks x ≡ true → f x ≡ true) → f x ≡ true
    go true e d r = rw (← eqb-true k x e) d.0
    go false e d r = r (of_true d.1) (rw e at h)

pub each : (f : ℕ → Bool) (ks : List ℕ) (x : ℕ) → T (all_of f ks) → OneOf ks x → f x ≡ true
each f ks x t h = has_each f ks x t (among ks x h)
