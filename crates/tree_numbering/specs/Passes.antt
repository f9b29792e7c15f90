-- What the passes over an accepted table say of their arrays. Nothing here is to be believed.
use Rattle.std.specs.Prelude.{Bool, true, List, ◌≡◌, ℕ, ◌*◌, ◌≤◌, ◌<◌, length, get_or, drop}
use Rattle.laws.specs.Lists.{over}
use Rattle.tree.specs.Sizes.{node_cells}
use Rattle.tree.specs.Trees.{tree_at}
use Rattle.tree_numbering.specs.Numbered.{size, numbered}

-- the array holds the size of the tree at each number but 1 to n
pub record Measured (cells : List ℕ) (count n : ℕ) (spans : List ℕ) : Type 0 where
  pub room : count < length spans
  pub at : (j : ℕ) → j ≤ count → (1 ≤ j → n < j) → get_or spans j 0 ≡ size (tree_at cells count j)

-- the lent table after a copy that may have ended early: past the nodes as it was, and whole where the answer is true
pub record Copied (cells : List ℕ) (count : ℕ) (out after : List ℕ) (r : Bool) : Type 0 where
  pub rest : drop (node_cells * count) after ≡ drop (node_cells * count) out
  pub whole : r ≡ true → after ≡ over (numbered (tree_at cells count 1)) out
