-- block::with_ends is safe: the digest stays below the prime.
use borrow.Author.Rules.{rules}
use Prim.Native.Nat.{◌<◌}
use Rattle.spines.proofs.block.with_ends.Given as goal

abbrev pub invariant-loop-end : goal.invariant-loop-end
invariant-loop-end l = l.sum < 70_368_744_177_643
