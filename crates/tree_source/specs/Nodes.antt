-- A node's six numbers, taken from a list of cells or from a file.
use Rattle.std.specs.Prelude.{List, ◌≡◌, Bool, true, false, ◌||◌, ℕ, ◌+◌, ltb, length, get_or, Option, IsSomeAnd, IsNone}
use Rattle.tree.specs.Table.{form_at, attributes_at, detail_at, first_at, second_at, symbol_at, attributes_column, detail_column, first_column, second_column, symbol_column}
use Rattle.tree_source.specs.declared.Node.{Node}
use Rattle.tree_source.specs.Source.{value_at, skip}

-- these are the numbers of node i
pub record NodeAt (cells : List ℕ) (i : ℕ) (n : Node) : Type 0 where
  pub form : n.form ≡ form_at cells i
  pub attributes : n.attributes ≡ attributes_at cells i
  pub detail : n.detail ≡ detail_at cells i
  pub first : n.first ≡ first_at cells i
  pub second : n.second ≡ second_at cells i
  pub symbol : n.symbol ≡ symbol_at cells i

-- these are the six numbers from a place of a file on
pub record NodeFrom (file : List ℕ) (at : ℕ) (n : Node) : Type 0 where
  pub form : n.form ≡ value_at file at
  pub attributes : n.attributes ≡ value_at file (skip attributes_column file at)
  pub detail : n.detail ≡ value_at file (skip detail_column file at)
  pub first : n.first ≡ value_at file (skip first_column file at)
  pub second : n.second ≡ value_at file (skip second_column file at)
  pub symbol : n.symbol ≡ value_at file (skip symbol_column file at)

-- a node whose first three numbers are a byte each has at most so many bytes
abbrev pub quick_bytes : ℕ
quick_bytes = 12

-- from this place on fewer bytes are left, or the first three numbers are not small
unfoldable pub is_slow : List ℕ → ℕ → Bool
is_slow file at = ltb (length file) (at + quick_bytes) || ltb 127 (get_or file at 0 + get_or file (at + 1) 0 + get_or file (at + 2) 0)

-- these are the six numbers from a place of a file on, or none where they are not quickly read
pub record QuickFrom (file : List ℕ) (at : ℕ) (r : Option Node) : Type 0 where
  pub quick : is_slow file at ≡ false → IsSomeAnd r (NodeFrom file at)
  pub slow : is_slow file at ≡ true → IsNone r
