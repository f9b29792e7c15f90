-- What `reading` prints for a file of numbers, the context and then a code and a symbol for each token, as ASCII codes.
use Rattle.std.specs.Prelude.{◌≡◌, List, [], ◌∷◌, ◌++◌, ℕ, zero, suc, ◌*◌, leb, length, replicate, Option, None, Some, Result, Ok, Err}
use Rattle.laws.specs.Choice.{pick}
use Rattle.tree.specs.Sizes.{node_cells, most_nodes}
use Rattle.file_numbers.specs.Standing.{stands_at}
use Rattle.tree.specs.declared.refusal.Refusal.{Refusal}
use Rattle.tree.specs.Replies.{number_of}
use Rattle.token_reader.specs.Reading.{Answers}
use Rattle.text.specs.Numbers.{row_line, joined, ok_line, no_line}

-- the lines of nodes 1 to n: of each its number and its six numbers, which stand in `cells`
abbrev pub nodes_text : List ℕ → ℕ → List ℕ
nodes_text cells n = joined (row_line node_cells cells) n

-- "ok" and the number of nodes, then their lines
unfoldable pub table_text : List ℕ → ℕ → List ℕ
table_text cells n = ok_line n ++ nodes_text cells n

-- what is printed for the reader's answer and the table afterwards: on a refusal "no" and the number
unfoldable pub answer_text : Result ℕ Refusal → List ℕ → List ℕ
answer_text (Err e) cells = no_line (number_of e)
answer_text (Ok n) cells = table_text cells n

-- the text is what is printed for the answer to the cells in a context, with a table of 4,096 nodes lent to the reader
pub record Answered (context : ℕ) (cells text : List ℕ) : Type 0 where
  pub reply : Result ℕ Refusal
  pub after : List ℕ
  pub answers : Answers context cells (replicate (node_cells * most_nodes) 0) reply after
  pub prints : text ≡ answer_text reply after

-- the numbers of a file, or that one is malformed
pub data Numbers : Type 0 where
  broken : Numbers
  numbers : List ℕ → Numbers

-- a number before others
abbrev pub before : ℕ → Numbers → Numbers
before n broken = broken
before n (numbers ns) = numbers (n ∷ ns)

-- those from a place on, of which there are no more than `most`
unfoldable pub numbers_from : ℕ → List ℕ → ℕ → Numbers
numbers_from zero file at = numbers []
numbers_from (suc most) file at =
    pick (leb (length file) at) (numbers []) (elim (stands_at file at) [ None ↦ broken | Some p ↦ before p.0 (numbers_from most file p.1) ])

-- a number has a byte at least
abbrev pub numbers_in : List ℕ → ℕ → Numbers
numbers_in file at = numbers_from (length file) file at

-- The cells of tokens. "a malformed or missing number is 14": a missing symbol leaves an odd number of cells, which the reader refuses by 14, and so does a
-- malformed number, which is read as a cell by itself. Refusals 3 and 13 of the context come before both
abbrev pub tokens_in : Numbers → List ℕ
tokens_in broken = 0 ∷ []
tokens_in (numbers cells) = cells

-- what is printed for a file: 14 where its first number, the context, is malformed or missing
pub record Printed (file text : List ℕ) : Type 0 where
  pub bad : stands_at file 0 ≡ None → text ≡ no_line 14
  pub good : (context next : ℕ) → stands_at file 0 ≡ Some (context, next) → Answered context (tokens_in (numbers_in file next)) text
