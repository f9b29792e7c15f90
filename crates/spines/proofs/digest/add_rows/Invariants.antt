-- digest::add_rows is safe: the digest stays below the prime.
use borrow.Author.Rules.{rules}
use Prim.Native.Nat.{◌<◌}
use Rattle.spines.proofs.digest.add_rows.Given as goal

abbrev pub invariant-loop-node : goal.invariant-loop-node
invariant-loop-node l = l.sum < 70_368_744_177_643
