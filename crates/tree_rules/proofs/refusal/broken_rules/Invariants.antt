-- `tree_rules::refusal::broken_rules` meets its contract. Assumes nothing.
use mathlib.Core.Path.{◌≡◌, refl, sym, ◌∙◌}
use mathlib.Core.Bool.{false}
use Prim.Native.Nat.{◌+◌, ◌-◌, ◌≤◌}
use native.Mathlib.Omega.{arith}
use lib.ListN.{length}
use Rattle.laws.specs.Each.{some}
use Rattle.laws.proofs.Each.{some_more, some_found}
use Rattle.laws.proofs.Choice.{true_not_false}
use Rattle.laws.proofs.Calls.{free}
use Rattle.tree_source.specs.Source.{cells_of}
use Rattle.tree_rules.specs.Refusals.{bad_numbers, refusal6}
use Rattle.tree_rules.specs.Passes.{BrokenBy, Counted}
use Rattle.tree_rules.proofs.Owners.{length_counted, room_first, room_second, counted_more}
use Rattle.tree_rules.proofs.Broken.{numbers_by, broken_none, broken_more}
use Rattle.tree_rules.proofs.refusal.broken_rules.Given as goal

abbrev pub invariant-loop-done : goal.invariant-loop-done
invariant-loop-done l = (length l.owners ≡ length l.initial.owners) × Counted (cells_of l.source.file.now l.source.held.now) l.done l.owners × (some (bad_numbers (cells_of l.source.file.now l.source.held.now)) l.done ≡ false) × (l.broken.numbers ≡ false) × BrokenBy (cells_of l.source.file.now l.source.held.now) l.count l.done l.broken
