-- What `tokens` prints for a file, as ASCII codes.
use Rattle.std.specs.Prelude.{List, [], ◌∷◌, ◌++◌, ℕ, ◌*◌, ◌/◌, length, drop, Result, Ok, Err}
use Rattle.tree.specs.Sizes.{node_cells, token_cells, most_nodes, most_tokens}
use Rattle.file_loader.specs.declared.Loaded.{Loaded}
use Rattle.tree.specs.declared.refusal.Refusal.{Refusal}
use Rattle.tree.specs.Replies.{number_of}
use Rattle.file_loader.specs.Files.{cells_in}
use Rattle.file_loader.specs.Files as files
use Rattle.token_grammar.specs.Tokens.{cells_of}
use Rattle.tree.specs.declared.refusal.Refusal.{Refusal}
use Rattle.tree.specs.Replies.{number_of}
use Rattle.token_writer.specs.declared.Written.{Written}
use Rattle.token_writer.specs.Writes.{written, answered}
use Rattle.text.specs.Numbers.{newline, decimal, spaced, ok_line, no_line}

-- numbers with a space between two
unfoldable pub parted : List ℕ → List ℕ
parted [] = []
parted (n ∷ ns) = decimal n ++ spaced ns

-- the first of each two numbers
abbrev pub evens : List ℕ → List ℕ
evens [] = []
evens (n ∷ []) = n ∷ []
evens (n ∷ m ∷ ns) = n ∷ evens ns

-- "ok" and the number of tokens, then a line with their codes, and a line with their symbols
unfoldable pub listed : List ℕ → List ℕ
listed cells = ok_line (length cells / token_cells) ++ (parted (evens cells) ++ (newline ∷ (parted (evens (drop 1 cells)) ++ (newline ∷ []))))

-- what is printed for the writer's answer
unfoldable pub answer_text : List ℕ → Result Written Refusal → List ℕ
answer_text cells (Err e) = no_line (number_of e)
answer_text cells (Ok w) = listed cells

-- what is printed for a table, with a buffer of 24,576 tokens lent to the writer
unfoldable pub table_text : ℕ → ℕ → List ℕ → List ℕ
table_text context count cells = answer_text (cells_of (written context count cells)) (answered context count cells (token_cells * most_tokens))

-- what is printed for the loader's answer
unfoldable pub loaded_text : List ℕ → Result Loaded Refusal → List ℕ
loaded_text cells (Err refusal) = no_line (number_of refusal)
loaded_text cells (Ok loaded) = table_text loaded.context loaded.count cells

-- what is printed for a file, with a table of 4,096 nodes lent to the loader
unfoldable pub printed : List ℕ → List ℕ
printed file = loaded_text (cells_in file) (files.loaded file (node_cells * most_nodes))
