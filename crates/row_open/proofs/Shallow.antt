-- A choice of operators leaves the walk entries enough. Assumes nothing.
use mathlib.Core.Path.{◌≡◌, refl, sym, ap, ◌∙◌}
use mathlib.Core.List.{List}
use Prim.Native.Nat.{ℕ, zero, suc, ◌+◌, ◌*◌, ◌-◌, ◌≤◌}
use native.Mathlib.Omega.{arith}
use lib.ListN.{length, set, take}
use lib.Seq.{set-set, get_or-take, length-take-le}
use Rattle.laws.specs.Lists.{over}
use Rattle.tree.specs.Sizes.{node_cells}
use Rattle.tree.specs.Table.{first_at, second_at, detail_column, first_column, second_column}
use Rattle.tree.specs.Trees.{operand_of, operand_at, tree_to, tree_at}
use Rattle.tree.proofs.Unfold.{operand_most}
use Rattle.row_walk.specs.Steps.{waiting}
use Rattle.row_open.specs.Open.{with_operator}
use Rattle.row_open.specs.Steps.{Shallow}
use Rattle.row_open.proofs.Near.{Near, put_column, near_cells}
use Rattle.row_open.proofs.Looked.{over_start}

-- entries go by the operands' numbers alone
module _ (count : ℕ) (cells after : List ℕ)
    (first : (i : ℕ) → 1 ≤ i → i ≤ count → first_at cells i ≡ first_at after i) (second : (i : ℕ) → 1 ≤ i → i ≤ count → second_at cells i ≡ second_at after i) where
  waiting_to : (n i : ℕ) → i ≤ count → waiting (tree_to cells count n i) ≡ waiting (tree_to after count n i)
  unfolding tree_to waiting
  waiting_to zero i h = refl
  waiting_to (suc n) zero h = refl
  waiting_to (suc n) (suc i) h =
      rw (
        first (suc i) (omega arith) h,
        second (suc i) (omega arith) h,
        waiting_to n (operand_at after count (suc i) first_column) (operand_most count (suc i) _),
        waiting_to n (operand_at after count (suc i) second_column) (operand_most count (suc i) _),
      )

  same_waiting : waiting (tree_at cells count 1) ≡ waiting (tree_at after count 1)
  unfolding tree_at
  same_waiting = waiting_to count (operand_of count 0 1) (operand_most count 0 1)

-- a table with another operator
module _ (count n : ℕ) (low : 1 ≤ n) (cells : List ℕ) (shallow : Shallow count cells) where
  shallow_operator : (o : ℕ) → Shallow count (with_operator n o cells)
  shallow_operator o =
      rw (same_waiting count (with_operator n o cells) cells
      (λ i h k. put_column n o low cells i first_column (omega arith) (λ e. omega arith))
      (λ i h k. put_column n o low cells i second_column (omega arith) (λ e. omega arith)))
      shallow

  -- in a table that differs from it in that cell alone
  pub shallow_put : (place : ℕ) → place ≡ node_cells * (n - 1) + detail_column → (table : List ℕ) (own o : ℕ) → set table place own ≡ cells → Shallow count (set table place o)
  unfolding with_operator
  shallow_put place p table own o e =
      let q : set table place o ≡ with_operator n o cells = sym (set-set {A = ℕ} table place own o) ∙ ap (λ (t : List ℕ). set t place o) e ∙ ap (λ (k : ℕ). set cells k o) p in
      rw q (shallow_operator o)

-- a table copied over the start of a buffer
module _ (count : ℕ) (cells own own' : List ℕ) (nodes : node_cells * count ≤ length cells) (c : own' ≡ over (take (node_cells * count) cells) own) where
  pub near_copied : Near count own' cells
  near_copied = near_cells count own' cells (λ k h. rw c (over_start (take (node_cells * count) cells) own k (rw (length-take-le (node_cells * count) cells nodes) h) ∙ get_or-take (node_cells * count) cells k 0 h))

  pub shallow_copied : Shallow count cells → Shallow count own'
  shallow_copied shallow = rw (same_waiting count own' cells (λ i h k. (near_copied i h k).first) (λ i h k. (near_copied i h k).second)) shallow
