-- Document 02, Paper 2: the order on tree files, and what comparing two of them answers.
use Rattle.std.specs.Prelude.{List, [], ◌∷◌, ℕ, ◌*◌, eqb, ltb, Result, Ok, Err}
use Rattle.tree.specs.Sizes.{node_cells, most_nodes}
use Rattle.laws.specs.Choice.{pick}
use Rattle.file_loader.specs.Files.{context_in, cells_in, file_refusal}
use Rattle.std.specs.declared.cmp.Ordering.{Ordering}
use Rattle.std.specs.declared.cmp.Ordering.TheVariants.{Less, Equal, Greater}
use Rattle.tree.specs.declared.refusal.Refusal.{Refusal}
use Rattle.tree.specs.Replies.{number_of, replied}

-- the cells of a table with room for every count
abbrev pub most_cells : ℕ
most_cells = node_cells * most_nodes

-- "contexts first, then nodes in turn, number by number": the count is not compared
unfoldable pub key_of : List ℕ → List ℕ
key_of file = context_in file ∷ cells_in file

-- "a file that ends earlier coming first"
unfoldable pub in_order : List ℕ → List ℕ → Ordering
in_order [] [] = Equal
in_order [] (y ∷ ys) = Less
in_order (x ∷ xs) [] = Greater
in_order (x ∷ xs) (y ∷ ys) = pick (ltb x y) Less (pick (ltb y x) Greater (in_order xs ys))

-- the first of 1 to 11 that applies to a file, or 0. No table is lent, so that 4 speaks of the count alone
unfoldable pub checks_of : List ℕ → ℕ
checks_of file = file_refusal file most_cells

-- "The first file's checks come before the second's." The first that applies to two files, or 0
unfoldable pub compare_refusal : List ℕ → List ℕ → ℕ
compare_refusal first second = pick (eqb (checks_of first) 0) (checks_of second) (checks_of first)

unfoldable pub compared : List ℕ → List ℕ → Result Ordering Refusal
compared first second = replied (compare_refusal first second) (in_order (key_of first) (key_of second))

-- "When an answer is an enum, a definition gives this paper's number and values for each of its cases." The reply number, 0 for done, and behind it 0 before, 1 equal, 2 after
abbrev pub order_in_numbers : Ordering → ℕ
order_in_numbers Less = 0
order_in_numbers Equal = 1
order_in_numbers Greater = 2

abbrev pub compared_in_numbers : Result Ordering Refusal → List ℕ
compared_in_numbers (Err refusal) = number_of refusal ∷ []
compared_in_numbers (Ok order) = 0 ∷ order_in_numbers order ∷ []
