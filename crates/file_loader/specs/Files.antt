-- Document 01, 'Tree file' and 'Reply numbers': what a file holds, its refusals, and what loading it answers and stores.
use Rattle.std.specs.Prelude.{Bool, ◌||◌, List, [], ◌∷◌, ◌≡◌, ℕ, ◌*◌, eqb, ltb, length, drop, get_or, Option, None, Some, Result, Ok, Err}
use Rattle.laws.specs.Choice.{pick}
use Rattle.laws.specs.Lists.{over}
use Rattle.tree.specs.Sizes.{node_cells, most_file_bytes}
use Rattle.tree.specs.declared.refusal.Refusal.{Refusal as Refused}
use Rattle.tree.specs.Replies.{number_of, replied}
use Rattle.tree_source.specs.Source.{behind_header}
use Rattle.tree_rules.specs.Refusals.{refusal3, refusal4, Refusal, refuse, first_of, node_refusals}
use Rattle.file_loader.specs.declared.Header.{Header}
use Rattle.file_loader.specs.declared.Loaded.{Loaded}
use Rattle.file_loader.specs.Several.{Numbers, numbers_of, is_broken, values_in, bytes_after, broken, numbers}

-- ---- "The header is context and count; then five numbers a node: form, attributes, detail, first, second." Document 02, Paper 4: "Tree files then have six numbers a node"

unfoldable pub header : List ℕ → Numbers
header file = numbers_of 2 file

unfoldable pub context_in : List ℕ → ℕ
context_in file = get_or (values_in (header file)) 0 0

unfoldable pub count_in : List ℕ → ℕ
count_in file = get_or (values_in (header file)) 1 0

-- what a reader of the header answers: none where a number of it is malformed, or its two numbers and the place behind them
unfoldable pub header_in : List ℕ → Option Header
header_in file = pick (is_broken (header file)) None (Some (record { context = context_in file; count = count_in file; body = behind_header file }))

-- the header: malformed, or two numbers with the body behind them
abbrev pub HeaderRead : List ℕ → Option Header → Type 0
HeaderRead file None = header file ≡ broken
HeaderRead file (Some h) = (header file ≡ numbers (h.context ∷ h.count ∷ []) (drop h.body file)) × (h.body ≡ behind_header file)

unfoldable pub body : List ℕ → Numbers
body file = numbers_of (node_cells * count_in file) (bytes_after (header file))

-- the six numbers of each node
unfoldable pub cells_in : List ℕ → List ℕ
cells_in file = values_in (body file)

-- ---- the refusals of a file

-- 1. "The tree file is longer than 65,536 bytes."
unfoldable pub refusal1 : List ℕ → Bool
refusal1 file = ltb most_file_bytes (length file)

-- 2. "A header number is malformed."
unfoldable pub refusal2 : List ℕ → Bool
refusal2 file = is_broken (header file)

-- 5. "A body number is malformed, or bytes follow the last one."
unfoldable pub bad_body : Numbers → Bool
bad_body ns = is_broken ns || ltb 0 (length (bytes_after ns))

unfoldable pub refusal5 : List ℕ → Bool
refusal5 file = bad_body (body file)

-- the refusals of a file and a lent table of so many cells that come before those of its nodes, in order, and then others
unfoldable pub number_refusals : List ℕ → ℕ → List Refusal → List Refusal
number_refusals file lent others =
    refuse 1 (refusal1 file) ∷
    refuse 2 (refusal2 file) ∷
    refuse 3 (refusal3 (context_in file)) ∷
    refuse 4 (refusal4 (count_in file) lent) ∷
    refuse 5 (refusal5 file) ∷
    others

-- the first refusal that applies to a file and a lent table of so many cells, or 0
unfoldable pub file_refusal : List ℕ → ℕ → ℕ
file_refusal file lent = first_of (number_refusals file lent (node_refusals (count_in file) (cells_in file)))

-- ---- what loading answers and stores

-- the answer: the context and the count, or the refusal
unfoldable pub loaded : List ℕ → ℕ → Result Loaded Refused
loaded file lent = replied (file_refusal file lent) (record { context = context_in file; count = count_in file })

-- the lent table afterwards: the file's numbers over its start, or, on a refusal, as it was
unfoldable pub loaded_table : List ℕ → List ℕ → List ℕ
loaded_table file table = pick (eqb (file_refusal file (length table)) 0) (over (cells_in file) table) table

-- ---- the numbers alone, as they stand

-- the first of 1 to 5 that applies, or 0: document 02, Paper 11, "Loading a rearranged file runs refusals 1 to 11 as for tree files", and there the numbers of the body are no nodes yet
unfoldable pub numbers_refusal : List ℕ → ℕ → ℕ
numbers_refusal file lent = first_of (number_refusals file lent [])

unfoldable pub numbers_loaded : List ℕ → ℕ → Result Loaded Refused
numbers_loaded file lent = replied (numbers_refusal file lent) (record { context = context_in file; count = count_in file })

unfoldable pub numbers_table : List ℕ → List ℕ → List ℕ
numbers_table file table = pick (eqb (numbers_refusal file (length table)) 0) (over (cells_in file) table) table

-- "When an answer is an enum, a definition gives this paper's number and values for each of its cases." The reply number, 0 for done, and behind it the values
abbrev pub loaded_in_numbers : Result Loaded Refused → List ℕ
loaded_in_numbers (Err refusal) = number_of refusal ∷ []
loaded_in_numbers (Ok loaded) = 0 ∷ loaded.context ∷ loaded.count ∷ []
