-- Document 02, Paper 2: the file of a tree, what saving a node table answers, and what the lent buffer holds afterwards.
use Rattle.std.specs.Prelude.{Bool, List, [], ◌∷◌, ℕ, ◌-◌, eqb, ltb, length, Result, Ok, Err}
use Rattle.laws.specs.Choice.{pick}
use Rattle.laws.specs.Lists.{over}
use Rattle.tree.specs.Sizes.{most_file_bytes}
use Rattle.tree.specs.Trees.{Tree, tree_at}
use Rattle.tree.specs.declared.refusal.Refusal.{Refusal}
use Rattle.tree.specs.Replies.{number_of, replied}
use Rattle.tree_rules.specs.Refusals.{refusal, refuse, first_of}
use Rattle.tree_numbering.specs.Numbered.{size, numbered}
use Rattle.file_bytes.specs.Bytes.{all_bytes}

-- "a writer of tree files that numbers parents before operands and the first operand's nodes before the second's" (`numbered`): "The header is context and count; then five numbers a node", six by Paper 4
unfoldable pub file : ℕ → Tree → List ℕ
file context t = all_bytes (context ∷ size t ∷ numbered t)

-- the file of the tree that a node table stands for
abbrev pub file_of : ℕ → ℕ → List ℕ → List ℕ
file_of context count cells = file context (tree_at cells count 1)

-- 12. "An output buffer shorter than the bytes to be written meets refusal 12." `lent` is the buffer's length
unfoldable pub save_refusal12 : List ℕ → ℕ → Bool
save_refusal12 bytes lent = ltb lent (length bytes)

-- numbers as a file, once nothing else is refused: 12, or how many bytes they are; and the buffer afterwards, on 12 as it was, else the bytes over its start. `room` is how many bytes are taken
unfoldable pub stored : List ℕ → ℕ → Result ℕ Refusal
stored bytes room = replied (first_of (refuse 12 (save_refusal12 bytes room) ∷ [])) (length bytes)

unfoldable pub stored_after : List ℕ → ℕ → List ℕ → List ℕ
stored_after bytes room buffer = pick (save_refusal12 bytes room) buffer (over bytes buffer)

-- those of a buffer that a 16-bit answer can count; all that are written for an accepted table are fewer
unfoldable pub counted_of : ℕ → ℕ
counted_of lent = pick (ltb lent most_file_bytes) lent (most_file_bytes - 1)

-- the first that applies: the table's refusals, then 12; or 0
unfoldable pub save_refusal : ℕ → ℕ → List ℕ → ℕ → ℕ
save_refusal context count cells lent =
    pick
    (eqb (refusal context count cells) 0)
    (first_of (refuse 12 (save_refusal12 (file_of context count cells) lent) ∷ []))
    (refusal context count cells)

-- the answer: the number of bytes, or the refusal
unfoldable pub saved : ℕ → ℕ → List ℕ → ℕ → Result ℕ Refusal
saved context count cells lent = replied (save_refusal context count cells lent) (length (file_of context count cells))

-- the buffer afterwards: on a refusal as it was; else the file over its start
unfoldable pub saved_after : ℕ → ℕ → List ℕ → List ℕ → List ℕ
saved_after context count cells buffer =
    pick (eqb (save_refusal context count cells (length buffer)) 0) (over (file_of context count cells) buffer) buffer

-- "When an answer is an enum, a definition gives this paper's number and values for each of its cases." The reply number, 0 for done, and behind it the value
abbrev pub saved_in_numbers : Result ℕ Refusal → List ℕ
saved_in_numbers (Err refusal) = number_of refusal ∷ []
saved_in_numbers (Ok n) = 0 ∷ n ∷ []
