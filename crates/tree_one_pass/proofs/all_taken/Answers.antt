-- `tree_one_pass::all_taken` meets its contract. The loop's invariant: no mark up to the node that it has come to is above all their bits. Assumes nothing.
use mathlib.Core.Path.{◌≡◌}
use mathlib.Core.List.{List}
use Prim.Native.Nat.{ℕ, ◌+◌, ◌-◌, ◌≤◌, ◌<◌}
use native.Mathlib.Omega.{arith}
use native.Mathlib.Decide.{dec_le}
use borrow.Author.Tests.{eqb-true}
use borrow.Author.Rules.{rules}
use lib.Bits.{bit_or, or_add_and, and_le_l, and_le_r}
use lib.ListN.{get_or}
use Rattle.tree.specs.Sizes.{most_nodes}
use Rattle.tree_one_pass.proofs.all_taken.Goals as goal

-- no number is above its bits and others
or_above : (a b : ℕ) → (a ≤ bit_or a b) × (b ≤ bit_or a b)
or_above a b =
    let s = or_add_and a b in
    let l = and_le_l a b in
    let r = and_le_r a b in
    (omega arith, omega arith)

-- one mark more
none_above : (marks : List ℕ) (n left more : ℕ) → ((j : ℕ) → 2 ≤ j → j ≤ n → get_or marks j 0 ≤ left) → left ≤ more → get_or marks (n + 1) 0 ≤ more → (j : ℕ) → 2 ≤ j → j ≤ n + 1 → get_or marks j 0 ≤ more
none_above marks n left more f up last j h k = go (dec_le j n)
  where
    go : Dec (j ≤ n) → get_or marks j 0 ≤ more
    go (yes p) = let m = f j h p in omega arith
    go (no p) = let e : j ≡ n + 1 = omega arith in rw e last

pub loop-done-preserved : goal.loop-done-preserved
loop-done-preserved c =
    let o = or_above c.loop-done.left (get_or c.args.marks.now (c.loop-done.done + 1) 0) in
    rw c.from.ensures
    (omega arith, omega arith, none_above c.args.marks.now c.loop-done.done c.loop-done.left _ c.loop-done.invariant.2 o.0 o.1)
