-- Document 02, Paper 11: the numbers of nodes in columns, and the nodes restored from them.
use Rattle.std.specs.Prelude.{Bool, ◌||◌, List, [], ◌∷◌, ◌++◌, ℕ, zero, suc, ◌+◌, ◌*◌, ◌-◌, ◌/◌, ◌%◌, eqb, leb, ltb, get_or}
use Rattle.laws.specs.Choice.{pick}
use Rattle.laws.specs.Each.{some}
use Rattle.tree.specs.Sizes.{node_cells}
use Rattle.tree.specs.Table.{cell_at, form_at, form_column, attributes_column, detail_column, first_column, second_column, symbol_column}
use Rattle.file_bytes.specs.Bytes.{all_bytes}

-- g 0, .., g (n - 1), one after the other
unfoldable pub joined : (ℕ → List ℕ) → ℕ → List ℕ
joined g zero = []
joined g (suc n) = joined g n ++ g n

-- ---- from nodes to columns

-- "A difference d is held as 2 × d when not negative and as -2 × d - 1 otherwise." The difference of a number from the one before it
unfoldable pub held_difference : ℕ → ℕ → ℕ
held_difference before number = pick (leb before number) (2 * (number - before)) (2 * (before - number) - 1)

-- "A form is held as its difference from the form before it, the first from 0." Node 0's form reads as 0
unfoldable pub held_form : List ℕ → ℕ → ℕ
held_form cells i = held_difference (form_at cells (i - 1)) (form_at cells i)

-- "An operand is held as its distance from its owner, or 0 when absent."
unfoldable pub held_operand : ℕ → ℕ → ℕ
held_operand owner operand = pick (eqb operand 0) 0 (operand - owner)

-- what is held of the number in column k of node i
unfoldable pub held_at : List ℕ → ℕ → ℕ → ℕ
held_at cells k i =
    pick (eqb k form_column) (held_form cells i)
    (pick (eqb k first_column || eqb k second_column) (held_operand i (cell_at cells i k)) (cell_at cells i k))

-- "header, then all forms, all attributes, all details, all first operands, all second operands, all symbols"
unfoldable pub held_column : ℕ → List ℕ → ℕ → List ℕ
held_column count cells k = joined (λ i. held_at cells k (suc i) ∷ []) count

unfoldable pub arranged : ℕ → List ℕ → List ℕ
arranged count cells = joined (held_column count cells) node_cells

-- the bytes of the rearranged file of a context and a table. "Numbers use the same seven-bit groups."
unfoldable pub columns_of : ℕ → ℕ → List ℕ → List ℕ
columns_of context count cells = all_bytes (context ∷ count ∷ arranged count cells)

-- ---- from columns to nodes

-- what is held for node i in column k, of columns of `count` numbers each; node 1 is the first
unfoldable pub column_at : ℕ → List ℕ → ℕ → ℕ → ℕ
column_at count held k zero = 0
column_at count held k (suc i) = get_or held (count * k + i) 0

-- the difference that is held, as what it adds and what it takes: of the two one is 0
unfoldable pub rise : ℕ → ℕ
rise held = pick (eqb (held % 2) 0) (held / 2) 0

unfoldable pub fall : ℕ → ℕ
fall held = pick (eqb (held % 2) 0) 0 ((held + 1) / 2)

-- all that the differences up to node i add, and all that they take: the form of node i is the integer between them
unfoldable pub rises : ℕ → List ℕ → ℕ → ℕ
rises count held zero = 0
rises count held (suc i) = rises count held i + rise (column_at count held form_column (suc i))

unfoldable pub falls : ℕ → List ℕ → ℕ → ℕ
falls count held zero = 0
falls count held (suc i) = falls count held i + fall (column_at count held form_column (suc i))

unfoldable pub restored_form : ℕ → List ℕ → ℕ → ℕ
restored_form count held i = rises count held i - falls count held i

unfoldable pub restored_operand : ℕ → ℕ → ℕ
restored_operand owner distance = pick (eqb distance 0) 0 (owner + distance)

-- the operand of node i in column k
abbrev pub operand_in : ℕ → List ℕ → ℕ → ℕ → ℕ
operand_in count held k i = restored_operand i (column_at count held k i)

-- node i: "form, attributes, detail, first, second", symbol
unfoldable pub restored_node : ℕ → List ℕ → ℕ → List ℕ
restored_node count held i =
    restored_form count held i ∷
    column_at count held attributes_column i ∷
    column_at count held detail_column i ∷
    operand_in count held first_column i ∷
    operand_in count held second_column i ∷
    column_at count held symbol_column i ∷
    []

unfoldable pub restored : ℕ → List ℕ → List ℕ
restored count held = joined (λ i. restored_node count held (suc i)) count

-- 19. "a form or operand restored from the columns falls outside 0 to 65,535"
abbrev pub most_restored : ℕ
most_restored = 65535

unfoldable pub outside_form : ℕ → List ℕ → ℕ → Bool
outside_form count held i = ltb (rises count held i) (falls count held i) || ltb (falls count held i + most_restored) (rises count held i)

unfoldable pub outside : ℕ → List ℕ → ℕ → Bool
outside count held i =
    outside_form count held i
    || (ltb most_restored (operand_in count held first_column i)
    || ltb most_restored (operand_in count held second_column i))

unfoldable pub refusal19 : ℕ → List ℕ → Bool
refusal19 count held = some (outside count held) count
