-- `tree_one_pass::sound_levels` meets its contract. The loop's invariant: the nodes above the one that it has come to break no rule, and the array holds the marks of those that no owner has taken yet. Assumes nothing.
use mathlib.Core.Path.{◌≡◌, refl, ◌∙◌}
use Prim.Native.Nat.{◌≤◌}
use native.Mathlib.Omega.{arith}
use borrow.Author.Rules.{rules}
use lib.ListN.{length}
use borrow.Author.Tests.{not-false}
use Rattle.tree_source.specs.Source.{cells_of}
use Rattle.tree_one_pass.specs.Marks.{Marked}
use Rattle.tree_one_pass.proofs.Fine.{takes_length, first_most, second_most, second_size, length_more, marked_more, marked_none, by_levels_lem}
use Rattle.tree_one_pass.proofs.sound_levels.Given as goal

abbrev pub invariant-loop-done : goal.invariant-loop-done
invariant-loop-done l = (length l.marks ≡ length l.initial.marks) × Marked (cells_of l.source.file.now l.source.held.now) l.count l.done l.marks
