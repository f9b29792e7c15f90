-- What some node breaks, by the numbers of one node after the other. Assumes nothing.
use mathlib.Core.Path.{◌≡◌, ◌∙◌}
use mathlib.Core.Bool.{false, not}
use mathlib.Core.List.{List}
use Prim.Native.Nat.{ℕ, ◌+◌, ◌<◌}
use lib.ListN.{length}
use Rattle.laws.specs.Each.{some}
use Rattle.laws.proofs.Each.{some_next, some_same}
use Rattle.tree_source.specs.declared.Node.{Node}
use Rattle.tree_source.specs.Nodes.{NodeAt}
use Rattle.tree.specs.Forms.{allowed}
use Rattle.tree_places.specs.Places.{bad_operands}
use Rattle.tree_rules.specs.declared.refusal.Broken.{Broken}
use Rattle.tree_rules.specs.Refusals.{bad_numbers, bad_order, bad_owner, empty, bad_output}
use Rattle.tree_rules.specs.Passes.{BrokenWith, BrokenBy, Counted, badly_owned}
use Rattle.tree_rules.proofs.Owners.{owned_badly}

-- the test on a node's numbers is the rule
pub numbers_by : (cells : List ℕ) (i : ℕ) (n : Node) → NodeAt cells i n → not (allowed n.form n.attributes n.detail n.symbol) ≡ bad_numbers cells i
unfolding bad_numbers
numbers_by cells i n at = rw (at.form, at.attributes, at.detail, at.symbol)

-- nothing is broken by no node
pub broken_none : (cells : List ℕ) (count : ℕ) (b : Broken) → b.operands ≡ false → b.order ≡ false → b.empty ≡ false → b.output ≡ false → BrokenBy cells count 0 b
unfolding some
broken_none cells count b p q r s = record { operands = p; order = q; empties = r; output = s }

-- what the next node breaks is added
pub broken_more : (cells : List ℕ) (count n : ℕ) (node : Node) → NodeAt cells (n + 1) node → (b r : Broken) → BrokenWith b cells count (n + 1) node r → BrokenBy cells count n b → BrokenBy cells count (n + 1) r
unfolding bad_operands bad_order empty bad_output
broken_more cells count n node at b r w k = record {
  operands = w.operands ∙ rw k.operands (some_next _ n _ (rw (at.form, at.detail, at.first, at.second)));
  order = w.order ∙ rw k.order (some_next _ n _ (rw (at.first, at.second)));
  empties = w.empties ∙ rw k.empties (some_next _ n _ (rw (at.form, at.detail)));
  output = w.output ∙ rw k.output (some_next _ n _ (rw (at.form, at.detail, at.first)));
}

-- the test on all counts is the rule
pub owned_by : (cells : List ℕ) (count : ℕ) (xs : List ℕ) → Counted cells count xs → count < length xs → some (badly_owned xs) count ≡ some (bad_owner cells count) count
owned_by cells count xs k s = some_same _ _ count (owned_badly cells count xs k s)
