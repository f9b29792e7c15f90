-- Laws of runs of stores. Assumes nothing.
use mathlib.Core.Path.{◌≡◌, refl, ◌∙◌}
use mathlib.Core.List.{List, [], ◌∷◌, ◌++◌}
use Prim.Native.Nat.{ℕ, suc, ◌+◌, ◌≤◌, ◌<◌}
use native.Mathlib.Omega.{arith}
use native.Mathlib.Numerals.{towards_suc}
use lib.ListN.{length, set}
use lib.Seq.{sets, set_comm}
use Rattle.tree.specs.Table.{symbol_column}
use Rattle.laws.proofs.Lists.{sets_append}

-- a store before a run, made after it
set_sets : (ys l : List ℕ) (i j x : ℕ) → i < j → set (sets l j ys) i x ≡ sets (set l i x) j ys
set_sets [] l i j x h = refl
set_sets (y ∷ ys) l i j x h = set_sets ys (set l j y) i (suc j) x (omega arith) ∙ rw (set_comm l j i y x (λ e. omega arith))

sets_sets : (xs ys l : List ℕ) (i j : ℕ) → i + length xs ≤ j → sets (sets l j ys) i xs ≡ sets (sets l i xs) j ys
sets_sets [] ys l i j h = refl
sets_sets (x ∷ xs) ys l i j h = rw (set_sets ys l i j x (omega arith)) (sets_sets xs ys (set l i x) (suc i) j (omega arith))

-- three runs in a row, of which the first is stored after the second
pub three_runs : (xs ys zs l : List ℕ) (i j k : ℕ) → j ≡ i + length xs → k ≡ j + length ys → sets (sets (sets l j ys) i xs) k zs ≡ sets l i (xs ++ (ys ++ zs))
three_runs xs ys zs l i j k e f =
    rw (sets_sets xs ys l i j (omega arith), sets_append xs (ys ++ zs) l i j e, sets_append ys zs (sets l i xs) j k f)

-- six stores in a row
pub six_stores : (l : List ℕ) (i a b c d e f : ℕ) → set (set (set (set (set (set l i a) (i + 1) b) (i + 2) c) (i + 3) d) (i + 4) e) (i + symbol_column) f ≡ sets l i (a ∷ b ∷ c ∷ d ∷ e ∷ f ∷ [])
six_stores l i a b c d e f = simp towards_suc
