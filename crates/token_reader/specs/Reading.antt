-- What reading a token list answers, and what the lent table holds afterwards: by the grammar's readings.
use Rattle.std.specs.Prelude.{◌≡◌, Bool, true, false, not, ◌||◌, List, [], ◌∷◌, ℕ, ◌*◌, eqb, ltb, length, Result, Ok, Err}
use Rattle.laws.specs.Choice.{pick, is_one_of}
use Rattle.laws.specs.Lists.{over}
use Rattle.tree.specs.Sizes.{node_cells, token_cells, most_nodes, most_tokens}
use Rattle.tree.specs.Trees.{Tree}
use Rattle.tree_rules.specs.Refusals.{refusal3}
use Rattle.tree_numbering.specs.Numbered.{size, numbered, too_large}
use Rattle.token_grammar.specs.Codes.{are_tokens}
use Rattle.token_grammar.specs.Grammar.{Context, NONE, CONDITION, context_number}
use Rattle.token_plain.specs.Reads.{Reads}
use Rattle.tree.specs.declared.refusal.Refusal.{Refusal}
use Rattle.tree.specs.Replies.{number_of, replied}

-- a refusal, by its number
abbrev pub refused : ℕ → Result ℕ Refusal
refused n = replied n 0

-- 12. "A lent buffer is too short: .. a table of 4,096 nodes for the token reader." `lent` is the table's length
unfoldable pub read_refusal12 : ℕ → Bool
read_refusal12 lent = ltb lent (node_cells * most_nodes)

-- 14. "A token list is longer than 24,576 or holds a code above 45." Document 02, Paper 4: "A symbol that is not 0 .. on another token under 14, and so does
-- a token list with an odd number of cells; its 24,576 counts tokens." Paper 5: "Refusal 14 now begins at code 47."
unfoldable pub refusal14 : List ℕ → Bool
refusal14 tokens = ltb (token_cells * most_tokens) (length tokens) || not (are_tokens tokens)

-- 16, or the count of the reading's nodes
unfoldable pub count_or_large : Tree → Result ℕ Refusal
count_or_large t = pick (too_large t) (refused 16) (Ok (size t))

-- "On 0 the reader's table holds the reading of its token list", and cells past it are as they were
unfoldable pub read_table : Tree → List ℕ → List ℕ
read_table t table = pick (too_large t) table (over (numbered t) table)

-- The reply and the table afterwards in a context that the reader takes. A token list has a reading or has none (`read_or_not` in token_plain/proofs/Readings),
-- and at most one (`one_reading` there): both are fixed for every input (`Answers-one` in proofs/Function).
pub record AnswersIn (c : Context) (tokens table : List ℕ) (reply : Result ℕ Refusal) (after : List ℕ) : Type 0 where
  pub short : read_refusal12 (length table) ≡ true → (reply ≡ refused 12) × (after ≡ table)
  pub unknown : read_refusal12 (length table) ≡ false → refusal14 tokens ≡ true → (reply ≡ refused 14) × (after ≡ table)
  -- 15. "The grammar below gives the token list no reading."
  pub unread : read_refusal12 (length table) ≡ false → refusal14 tokens ≡ false → ((t : Tree) → Reads c tokens t → ⊥) → (reply ≡ refused 15) × (after ≡ table)
  pub read : read_refusal12 (length table) ≡ false → refusal14 tokens ≡ false → (t : Tree) → Reads c tokens t → (reply ≡ count_or_large t) × (after ≡ read_table t table)

-- document 02, Paper 5: "it refuses contexts 1 and 2 by 13 straight after"
unfoldable pub read_refusal13 : ℕ → Bool
read_refusal13 context = is_one_of (1 ∷ 2 ∷ []) context

-- "writer and reader take context 3 as well as 0"
unfoldable pub context_of : ℕ → Context
context_of context = pick (eqb context (context_number CONDITION)) CONDITION NONE

-- The same in any context: "The token reader checks its context first, by refusal 3"
pub record Answers (context : ℕ) (tokens table : List ℕ) (reply : Result ℕ Refusal) (after : List ℕ) : Type 0 where
  pub above : refusal3 context ≡ true → (reply ≡ refused 3) × (after ≡ table)
  pub other : refusal3 context ≡ false → read_refusal13 context ≡ true → (reply ≡ refused 13) × (after ≡ table)
  pub inside : refusal3 context ≡ false → read_refusal13 context ≡ false → AnswersIn (context_of context) tokens table reply after

-- "When an answer is an enum, a definition gives this paper's number and values for each of its cases." The reply number, 0 for done, and behind it the value
abbrev pub reply_in_numbers : Result ℕ Refusal → List ℕ
reply_in_numbers (Err e) = number_of e ∷ []
reply_in_numbers (Ok n) = 0 ∷ n ∷ []
