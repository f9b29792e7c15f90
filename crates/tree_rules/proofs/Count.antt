-- What refusal 4 says of a count. Assumes nothing.
use mathlib.Core.Path.{◌≡◌, refl, sym}
use mathlib.Core.Bool.{Bool, true, false, ◌||◌}
use Prim.Native.Nat.{ℕ, ◌*◌, ◌≤◌}
use native.Mathlib.Omega.{arith}
use lib.Dec.{eqb, ltb}
use borrow.Author.Tests.{eqb-false, ltb-false, ne_eqb, le-ltb}
use Rattle.laws.proofs.Choice.{or_false, true_not_false}
use Rattle.tree.specs.Sizes.{node_cells, most_nodes}
use Rattle.tree_rules.specs.Refusals.{refusal4}

pub count_fits : (count cells : ℕ) → refusal4 count cells ≡ false → (1 ≤ count) × (count ≤ most_nodes) × (node_cells * count ≤ cells)
unfolding refusal4
count_fits count cells e =
    let a = or_false (eqb count 0) (ltb most_nodes count || ltb cells (node_cells * count)) e in
    let b = or_false (ltb most_nodes count) (ltb cells (node_cells * count)) a.1 in
    let z = eqb-false count 0 a.0 in
    (omega arith, ltb-false most_nodes count b.0, ltb-false cells (node_cells * count) b.1)

pub fits_count : (count cells : ℕ) → 1 ≤ count → count ≤ most_nodes → node_cells * count ≤ cells → refusal4 count cells ≡ false
unfolding refusal4
fits_count count cells p q r = rw (ne_eqb count 0 (λ z. omega arith), le-ltb most_nodes count q, le-ltb cells (node_cells * count) r)

-- a count that is 0 or above 4,096, and one that is not
pub no_count : (count cells : ℕ) → (eqb count 0 || ltb most_nodes count) ≡ true → true ≡ refusal4 count cells
unfolding refusal4
no_count count cells e = go (eqb count 0) (ltb most_nodes count) e
  where
    go : (a b : Bool) → (a || b) ≡ true → true ≡ (a || (b || ltb cells (node_cells * count)))
    go true b h = refl
    go false true h = refl
    go false false h = absurd (true_not_false (sym h))

pub some_count : (count cells : ℕ) → (eqb count 0 || ltb most_nodes count) ≡ false → ltb cells (node_cells * count) ≡ refusal4 count cells
unfolding refusal4
some_count count cells e =
    let a = or_false (eqb count 0) (ltb most_nodes count) e in
    rw (a.0, a.1)
