-- What writing answers, and what the lent buffer holds afterwards.
use Rattle.std.specs.Prelude.{Bool, not, ◌||◌, List, [], ◌∷◌, ℕ, ◌*◌, ◌-◌, eqb, ltb, length, get_or, replicate, Result, Ok, Err}
use Rattle.bools.specs.Bits.{bit_of}
use Rattle.laws.specs.Choice.{pick, is_one_of}
use Rattle.laws.specs.Lists.{over}
use Rattle.tree.specs.Sizes.{row_cells, token_cells, tokens_per_node}
use Rattle.tree.specs.Trees.{tree_at}
use Rattle.tree.specs.declared.refusal.Refusal.{Refusal}
use Rattle.tree.specs.Replies.{number_of, replied}
use Rattle.tree_rules.specs.Refusals.{refusal, refuse, first_of}
use Rattle.expr.specs.declared.order.CalleeOrder.TheVariants.{Ours}
use Rattle.tree_numbering.specs.Sums.{sum}
use Rattle.row_walk.specs.Walk.{rows_after}
use Rattle.token_grammar.specs.Tokens.{Token, cells_of}
use Rattle.token_grammar.specs.Grammar.{NONE, CONDITION, context_number}
use Rattle.token_plain.specs.Plain.{plain_table}
use Rattle.token_plain.specs.Written.{tokens_at, has_pair}
use Rattle.token_writer.specs.declared.Written.{Written}

-- the rows of a table in a context and in our callee order, in a buffer of just the length that they need
unfoldable pub rows_for : ℕ → ℕ → List ℕ → List ℕ
rows_for context count cells = rows_after Ours context count cells (replicate (row_cells * count) 0)

-- "Written for a plain tree are its nodes' tokens in the grammar's order"
unfoldable pub written : ℕ → ℕ → List ℕ → List Token
written context count cells = tokens_at cells count (has_pair (rows_for context count cells)) 1 (tree_at cells count 1) []

-- 1 where the pair of node i's row, which is its first cell, is 1; otherwise 0
unfoldable pub one_pair : List ℕ → ℕ → ℕ
one_pair rows i = bit_of (eqb (get_or rows (row_cells * (i - 1)) 0) 1)

-- document 02, Paper 14: "The count of pairs written .. equals the number of rows whose pair is 1."
unfoldable pub pairs_written : ℕ → ℕ → List ℕ → ℕ
pairs_written context count cells = sum (one_pair (rows_for context count cells)) count

-- 12. "A lent buffer is too short: .. six for the writer's tokens"; document 02, Paper 4: "so the writer's buffer needs twelve cells a node". `lent` is the buffer's length
unfoldable pub write_refusal12 : ℕ → ℕ → Bool
write_refusal12 count lent = ltb lent (token_cells * tokens_per_node * count)

-- document 02, Paper 5: "writer and reader take context 3 as well as 0"
unfoldable pub takes_context : ℕ → Bool
takes_context context = is_one_of (context_number NONE ∷ context_number CONDITION ∷ []) context

-- 13. "The writer is given a tree that is not plain or a context that is not 0", nor 3
unfoldable pub refusal13 : ℕ → ℕ → List ℕ → Bool
refusal13 context count cells = not (takes_context context) || not (plain_table count cells)

-- the first that applies: the table's refusals, then 12, then 13; or 0
unfoldable pub write_refusal : ℕ → ℕ → List ℕ → ℕ → ℕ
write_refusal context count cells lent =
    pick
    (eqb (refusal context count cells) 0)
    (first_of (refuse 12 (write_refusal12 count lent) ∷ refuse 13 (refusal13 context count cells) ∷ []))
    (refusal context count cells)

-- so many pairs and tokens
abbrev pub counted : ℕ → ℕ → Written
counted pairs n = record { pairs = pairs; tokens = n }

-- the answer: the numbers of pairs and of tokens, or the refusal
unfoldable pub answered : ℕ → ℕ → List ℕ → ℕ → Result Written Refusal
answered context count cells lent =
    replied (write_refusal context count cells lent) (counted (pairs_written context count cells) (length (written context count cells)))

-- the buffer afterwards: on a refusal as it was; else the tokens' cells over its start
unfoldable pub tokens_after : ℕ → ℕ → List ℕ → List ℕ → List ℕ
tokens_after context count cells tokens =
    pick (eqb (write_refusal context count cells (length tokens)) 0) (over (cells_of (written context count cells)) tokens) tokens

-- "When an answer is an enum, a definition gives this paper's number and values for each of its cases." The reply number, 0 for done, and behind it the values
abbrev pub written_in_numbers : Result Written Refusal → List ℕ
written_in_numbers (Err e) = number_of e ∷ []
written_in_numbers (Ok w) = 0 ∷ w.pairs ∷ w.tokens ∷ []
