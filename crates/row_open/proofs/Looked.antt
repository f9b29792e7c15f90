-- One walk in cleared rows: its pairs are those of the table's tree. Assumes nothing.
use mathlib.Core.Path.{◌≡◌, ap, ◌∙◌}
use mathlib.Core.List.{List}
use Prim.Native.Nat.{ℕ, ◌*◌, ◌-◌, ◌%◌, ◌≤◌, ◌<◌}
use native.Mathlib.Omega.{arith}
use lib.Dec.{eqb}
use lib.ListN.{length, get_or, replicate, length-replicate, get_or-append}
use Rattle.laws.specs.Lists.{over}
use Rattle.laws.proofs.Lists.{length_over}
use Rattle.tree.specs.Sizes.{row_cells}
use Rattle.tree.specs.Trees.{tree_at}
use Rattle.expr.specs.declared.order.CalleeOrder.{CalleeOrder}
use Rattle.row_walk.specs.Walk.{tree_rows, walked_after}
use Rattle.row_walk.proofs.Placed.{length_placed}
use Rattle.row_walk.proofs.Replies.{reached}
use Rattle.row_open.specs.Open.{outer_in, has_outer}
use Rattle.row_open.specs.Steps.{Shallow}
use Rattle.row_open.proofs.Near.{Agree, agree_placed}

-- the start of what is written over
pub over_start : (new old : List ℕ) (k : ℕ) → k < length new → get_or (over new old) k 0 ≡ get_or new k 0
unfolding over
over_start new old k h = get_or-append new _ 0 k h

module _ (order : CalleeOrder) (context count : ℕ) (cells rows cleared after : List ℕ) (long : row_cells * count ≤ length rows) (shallow : Shallow count cells)
    (f : cleared ≡ over (replicate (row_cells * count) 0) rows) (w : after ≡ walked_after order context count cells cleared) where
  length_cleared : length cleared ≡ length rows
  length_cleared = ap length f ∙ length_over (replicate (row_cells * count) 0) rows (simp length-replicate long)

  is_walked : after ≡ tree_rows order context count (tree_at cells count 1) cells cleared
  is_walked = w ∙ reached order context count cells cleared shallow (rw length_cleared long)

  pub length_looked : length after ≡ length rows
  length_looked = ap length is_walked ∙ length_placed cells count 1 _ cleared ∙ length_cleared

  blank : Agree (row_cells * count) cleared (replicate (row_cells * count) 0)
  blank = record {
    first_long = rw length_cleared long;
    second_long = simp length-replicate (omega arith);
    cells = λ k h. rw f (over_start (replicate (row_cells * count) 0) rows k (simp length-replicate h));
  }

  pub outer_looked : (i : ℕ) → 1 ≤ i → i ≤ count → outer_in after i ≡ has_outer order context count cells i
  unfolding has_outer
  outer_looked i h k =
      ap (λ (n : ℕ). eqb (n % 2) 1)
      (ap (λ (l : List ℕ). get_or l (row_cells * (i - 1)) 0) is_walked
      ∙ (agree_placed cells count 1 _ blank).cells (row_cells * (i - 1)) (omega arith))
