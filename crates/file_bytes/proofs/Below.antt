-- Lists all of whose numbers are below a bound. Assumes nothing.
use mathlib.Core.List.{List, [], ◌∷◌, ◌++◌}
use Prim.Native.Nat.{ℕ, zero, suc, ◌<◌}
use lib.ListN.{get_or, drop}

-- what lies outside the list reads as 0
pub record AllBelow (most : ℕ) (ns : List ℕ) : Type 0 where
  pub at : (k : ℕ) → get_or ns k 0 < most

pub below_none : {most : ℕ} → 0 < most → AllBelow most []
below_none h = record { at = λ k. h }

pub below_more : {most : ℕ} (n : ℕ) {ns : List ℕ} → n < most → AllBelow most ns → AllBelow most (n ∷ ns)
below_more {most} n {ns} h small = record { at = go }
  where
    go : (k : ℕ) → get_or (n ∷ ns) k 0 < most
    go zero = h
    go (suc k) = small.at k

pub below_rest : {most n : ℕ} {ns : List ℕ} → AllBelow most (n ∷ ns) → AllBelow most ns
below_rest small = record { at = λ k. small.at (suc k) }

pub below_append : {most : ℕ} (xs ys : List ℕ) → AllBelow most xs → AllBelow most ys → AllBelow most (xs ++ ys)
below_append [] ys one two = two
below_append (x ∷ xs) ys one two = below_more x (one.at 0) (below_append xs ys (below_rest one) two)

pub below_after : {most : ℕ} (k : ℕ) (ns : List ℕ) → AllBelow most ns → AllBelow most (drop k ns)
below_after zero ns small = small
below_after (suc k) [] small = small
below_after (suc k) (n ∷ ns) small = below_after k ns (below_rest small)
