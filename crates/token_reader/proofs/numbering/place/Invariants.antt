-- `token_reader::numbering::place` meets its contract. The loop's invariant: the nodes that are left lead to the whole tree's cells. Assumes nothing.
use mathlib.Core.Path.{◌≡◌}
use Prim.Native.Nat.{suc, ◌-◌, ◌≤◌}
use lib.ListN.{length}
use lib.Seq.{sets}
use Rattle.tree.specs.Sizes.{most_tokens}
use Rattle.tree.specs.Trees.{tree_at}
use Rattle.tree_numbering.specs.Numbered.{size, cells_from}
use Rattle.token_reader.proofs.Mirrored.{Leads}
use Rattle.token_reader.proofs.numbering.place.Given as goal

abbrev pub invariant-loop-done : goal.invariant-loop-done
invariant-loop-done l = (length l.numbers ≡ length l.initial.numbers) × (length l.out ≡ length l.initial.out) × Leads l.own l.spans l.base (size (tree_at l.own most_tokens (suc l.base))) (l.end - l.done) l.done l.numbers l.out (sets l.initial.out 0 (cells_from 1 (tree_at l.own most_tokens (suc l.base))))
