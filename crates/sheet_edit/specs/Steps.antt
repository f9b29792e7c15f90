-- What the private functions of an edit say of each other. Nothing here is to be believed.
use Rattle.std.specs.Prelude.{Bool, ◌&&◌, List, ◌≡◌, ℕ, ◌*◌, ◌≤◌, eqb}
use Rattle.laws.specs.Lists.{over}
use Rattle.tree.specs.Sizes.{node_cells, most_nodes}
use Rattle.tree.specs.Forms.{expr_closure}
use Rattle.tree.specs.Table.{form_at, detail_at, first_at}
use Rattle.tree.specs.Trees.{Tree, tree_at}
use Rattle.tree_numbering.specs.Numbered.{size, numbered}
use Rattle.sheet_edit.specs.Edits.{edited}

-- the result's tree, by the sheet's table and count, the named node, and the second tree's table and count
abbrev pub joined : List ℕ → ℕ → ℕ → List ℕ → ℕ → Tree
joined cells count j second nodes = edited cells count j (tree_at second nodes 1)

-- node i is a closure with a written output whose body is node j
unfoldable pub owns_output : List ℕ → ℕ → ℕ → Bool
owns_output cells j i = eqb (form_at cells i) expr_closure && (eqb (detail_at cells i) 1 && eqb (first_at cells i) j)

-- the result t numbered over a table, and how many nodes it has
abbrev pub Numbers : Tree → List ℕ → ℕ → List ℕ → Type 0
Numbers t cells n table = (n ≡ size t) × (table ≡ over (numbered t) cells)

-- what the result t asks of the second tree's count, and of the lengths of the array that it is numbered into and of the table
pub record FitsIn (t : Tree) (nodes own table : ℕ) : Type 0 where
  pub there : 1 ≤ nodes
  pub few : size t ≤ most_nodes
  pub own_room : node_cells * size t ≤ own
  pub table_room : node_cells * size t ≤ table
