-- Document 01, 'Tree file': "A node table holds the same five numbers a node in 16-bit cells": form, attributes, detail, first, second; and, by document 02, Paper 4, a sixth: symbol.
use Rattle.std.specs.Prelude.{List, ℕ, zero, suc, ◌+◌, ◌*◌, get_or}
use Rattle.tree.specs.Sizes.{node_cells}
use Rattle.tree.specs.Forms.{class_of}

-- "five numbers a node: form, attributes, detail, first, second": which of them it is, the first being 0
abbrev pub form_column : ℕ
form_column = 0

abbrev pub attributes_column : ℕ
attributes_column = 1

abbrev pub detail_column : ℕ
detail_column = 2

abbrev pub first_column : ℕ
first_column = 3

abbrev pub second_column : ℕ
second_column = 4

-- Paper 4: "a sixth number, a symbol"
abbrev pub symbol_column : ℕ
symbol_column = 5

-- the number in column k of node i's six; node 1 is the first, and what lies outside the table reads as 0
unfoldable pub cell_at : List ℕ → ℕ → ℕ → ℕ
cell_at cells zero k = 0
cell_at cells (suc i) k = get_or cells (node_cells * i + k) 0

abbrev pub form_at : List ℕ → ℕ → ℕ
form_at cells i = cell_at cells i form_column

abbrev pub attributes_at : List ℕ → ℕ → ℕ
attributes_at cells i = cell_at cells i attributes_column

abbrev pub detail_at : List ℕ → ℕ → ℕ
detail_at cells i = cell_at cells i detail_column

abbrev pub first_at : List ℕ → ℕ → ℕ
first_at cells i = cell_at cells i first_column

abbrev pub second_at : List ℕ → ℕ → ℕ
second_at cells i = cell_at cells i second_column

abbrev pub symbol_at : List ℕ → ℕ → ℕ
symbol_at cells i = cell_at cells i symbol_column

abbrev pub class_at : List ℕ → ℕ → ℕ
class_at cells i = class_of (form_at cells i)
