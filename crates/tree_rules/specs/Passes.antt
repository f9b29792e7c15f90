-- What the passes over the nodes ask of each node, and what they keep in their own arrays. Nothing here is to be believed.
use Rattle.std.specs.Prelude.{Bool, false, not, ◌&&◌, ◌||◌, List, ◌≡◌, ℕ, ◌+◌, ◌≤◌, ◌<◌, eqb, ltb, length, get_or, set, take}
use Rattle.laws.specs.Choice.{pick}
use Rattle.laws.specs.Each.{some}
use Rattle.tree.specs.Trees.{tree_at, levels}
use Rattle.tree_source.specs.declared.Node.{Node}
use Rattle.tree_places.specs.Places.{wrong_operands, bad_operands}
use Rattle.tree_rules.specs.declared.refusal.Broken.{Broken}
use Rattle.tree_rules.specs.Refusals.{misplaced, bad_order, owners, empty_numbers, empty, bad_output_of, bad_output, first_of, node_refusals}

-- ---- what one pass finds

-- how many of the refusals of the nodes: 6 to 10
abbrev pub ruled : ℕ
ruled = 5

-- the first of these that applies, or 0
abbrev pub first_ruled : ℕ → List ℕ → ℕ
first_ruled count cells = first_of (take ruled (node_refusals count cells))

-- what some node breaks, with node i and its numbers
pub record BrokenWith (b : Broken) (cells : List ℕ) (count i : ℕ) (n : Node) (r : Broken) : Type 0 where
  pub numbers : r.numbers ≡ false
  pub operands : r.operands ≡ (b.operands || wrong_operands cells count n.form n.detail n.first n.second)
  pub order : r.order ≡ (b.order || (misplaced count i n.first || misplaced count i n.second))
  pub empties : r.empty ≡ (b.empty || empty_numbers n.form n.detail)
  pub output : r.output ≡ (b.output || bad_output_of cells n.form n.detail n.first)

-- what some of the nodes 1 to n breaks
pub record BrokenBy (cells : List ℕ) (count n : ℕ) (b : Broken) : Type 0 where
  pub operands : b.operands ≡ some (bad_operands cells count) n
  pub order : b.order ≡ some (bad_order cells count) n
  pub empties : b.empty ≡ some (empty cells) n
  pub output : b.output ≡ some (bad_output cells) n

-- ---- the arrays

-- one more owner for node o, where there is a cell for it
unfoldable pub counted : List ℕ → ℕ → List ℕ
counted xs o = pick (ltb o (length xs)) (set xs o (get_or xs o 0 + 1)) xs

-- the array holds how many of the operands of the nodes 1 to n each number is
pub record Counted (cells : List ℕ) (n : ℕ) (xs : List ℕ) : Type 0 where
  pub at : (j : ℕ) → j < length xs → get_or xs j 0 ≡ owners cells n j

-- by such an array, node j but 1 is not owned exactly once
unfoldable pub badly_owned : List ℕ → ℕ → Bool
badly_owned xs j = not (eqb j 1) && not (eqb (get_or xs j 0) 1)

-- the array, which has a cell for each node, holds the levels of the tree at each number but 1 to n
pub record Levelled (cells : List ℕ) (count n : ℕ) (xs : List ℕ) : Type 0 where
  pub size : count < length xs
  pub at : (j : ℕ) → j < length xs → (1 ≤ j → n < j) → get_or xs j 0 ≡ levels (tree_at cells count j)
