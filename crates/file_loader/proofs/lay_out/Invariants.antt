-- `file_loader::lay_out` meets its contract. Assumes nothing.
use mathlib.Core.Path.{◌≡◌}
use mathlib.Core.List.{◌∷◌}
use Prim.Native.Nat.{suc, ◌*◌}
use lib.ListN.{length, take, drop}
use Rattle.tree.specs.Sizes.{node_cells}
use Rattle.tree_source.specs.Source.{runs}
use Rattle.file_loader.specs.Several.{numbers, numbers_of}
use Rattle.file_loader.proofs.lay_out.Given as goal

abbrev pub invariant-loop-done : goal.invariant-loop-done
invariant-loop-done l = (length l.places ≡ length l.initial.places) × (numbers_of (node_cells * suc l.done) (drop l.from l.file) ≡ numbers (runs l.file (l.from ∷ take l.done l.places)) (drop l.at l.file))
