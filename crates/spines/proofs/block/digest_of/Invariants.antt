-- block::digest_of is safe: the digest stays below the prime.
use borrow.Author.Rules.{rules}
use Prim.Native.Nat.{◌<◌}
use Rattle.spines.proofs.block.digest_of.Given as goal

abbrev pub invariant-loop-next : goal.invariant-loop-next
invariant-loop-next l = l.sum < 70_368_744_177_643
