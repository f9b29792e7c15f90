-- The numbers of nodes where they stand: in a table's cells, or in a file from each node's place on.
use Rattle.std.specs.Prelude.{List, [], ◌∷◌, ◌++◌, ℕ, zero, suc, eqb, length, Option, Some, None}
use Rattle.laws.specs.Choice.{pick}
use Rattle.tree.specs.Sizes.{node_cells}
use Rattle.file_numbers.specs.Standing.{stands_at}

unfoldable pub value_in : Option (ℕ × ℕ) → ℕ
value_in None = 0
value_in (Some p) = p.0

unfoldable pub next_in : Option (ℕ × ℕ) → ℕ
next_in None = 0
next_in (Some p) = p.1

-- the number at a place of a file, and the place after it; 0 where it is malformed
abbrev pub value_at : List ℕ → ℕ → ℕ
value_at file at = value_in (stands_at file at)

abbrev pub next_at : List ℕ → ℕ → ℕ
next_at file at = next_in (stands_at file at)

-- the place after n numbers
unfoldable pub skip : ℕ → List ℕ → ℕ → ℕ
skip zero file at = at
skip (suc n) file at = skip n file (next_at file at)

-- n numbers from a place on
unfoldable pub run : ℕ → List ℕ → ℕ → List ℕ
run zero file at = []
run (suc n) file at = value_at file at ∷ run n file (next_at file at)

-- a node's numbers from each of several places on
unfoldable pub runs : List ℕ → List ℕ → List ℕ
runs file [] = []
runs file (at ∷ places) = run node_cells file at ++ runs file places

-- the place behind the two numbers of the header, where node 1 begins
unfoldable pub behind_header : List ℕ → ℕ
behind_header file = skip 2 file 0

-- the cells of a source: without a file those that are held, with a file the numbers at node 1 and at the places that are held
unfoldable pub cells_of : List ℕ → List ℕ → List ℕ
cells_of file held = pick (eqb (length file) 0) held (runs file (behind_header file ∷ held))
