-- What is promised of every accepted plain tree in context 0 or 3, however its nodes are numbered.
use Rattle.std.specs.Prelude.{◌≡◌, true, false, List, [], ◌∷◌, ◌++◌, ℕ, ◌*◌, ◌≤◌, eqb, length, Result, Ok}
use Rattle.laws.specs.Lists.{over}
use Rattle.tree.specs.Sizes.{node_cells, token_cells, tokens_per_node, most_nodes}
use Rattle.tree.specs.Forms.{expr_struct}
use Rattle.tree.specs.Trees.{Tree, none, node, tree_at}
use Rattle.tree.specs.Erase.{erase}
use Rattle.tree_rules.specs.Refusals.{Accepted}
use Rattle.expr.specs.declared.order.CalleeOrder.TheVariants.{Crates, Ours}
use Rattle.row_walk.specs.Walk.{rows_after}
use Rattle.token_grammar.specs.Tokens.{Token, left_paren, right_paren, cells_of}
use Rattle.token_grammar.specs.Grammar.{Context, NONE, context_number}
use Rattle.token_grammar.specs.Commas.{NoLastComma}
use Rattle.token_plain.specs.Plain.{plain_table}
use Rattle.token_plain.specs.Trees.{without_parens}
use Rattle.token_plain.specs.Written.{tokens_at, has_pair, but_at}
use Rattle.token_plain.specs.Reads.{Reads}
use Rattle.tree_numbering.specs.Numbered.{size, numbered}
use Rattle.file_loader.specs.Files.{context_in, count_in, cells_in, file_refusal}
use Rattle.token_writer.specs.Writes.{rows_for, written, pairs_written, counted, answered, tokens_after}
use Rattle.tree.specs.declared.refusal.Refusal.{Refusal}
use Rattle.token_reader.specs.Reading.{Answers}

-- T without its own parentheses, where T is the tree of the table
abbrev pub meant : ℕ → List ℕ → Tree
meant count cells = without_parens (tree_at cells count 1)

-- node j's row has an outer pair: "a pair we added"
abbrev pub Added : Context → ℕ → List ℕ → ℕ → Type 0
Added k count cells j = (1 ≤ j) × (j ≤ count) × (has_pair (rows_for (context_number k) count cells) j ≡ true)

-- the tokens of node i and of all below it, written without the pair of node j
abbrev pub written_but : Context → ℕ → ℕ → List ℕ → ℕ → List Token
written_but k j count cells i = tokens_at cells count (but_at j (has_pair (rows_for (context_number k) count cells))) i (tree_at cells count i) []

-- "leaving it out removes them and no other token": a `(` and a `)`, with `inside` between them
pub record Removed (inside before after : List Token) : Type 0 where
  pub front : List Token
  pub behind : List Token
  pub had : front ++ (left_paren ∷ (inside ++ (right_paren ∷ behind))) ≡ before
  pub has : front ++ (inside ++ behind) ≡ after

-- Document 02, Paper 5: "Demand 3 holds in both contexts, with writer, reader and grammar in the same one."
pub record Demand3 (k : Context) (count : ℕ) (cells : List ℕ) : Type 0 where
  -- The writer stores the tokens written, two cells each, over the start of any buffer of twelve cells a node, and answers how many pairs and tokens they are.
  pub stores : (tokens : List ℕ) → token_cells * tokens_per_node * count ≤ length tokens
      → (answered (context_number k) count cells (length tokens) ≡ Ok (counted (pairs_written (context_number k) count cells) (length (written (context_number k) count cells))))
      × (tokens_after (context_number k) count cells tokens ≡ over (cells_of (written (context_number k) count cells)) tokens)
  -- They have a reading, which is T without its own parentheses,
  pub reads : Reads k (cells_of (written (context_number k) count cells)) (meant count cells)
  -- and no other.
  pub only : (t : Tree) → Reads k (cells_of (written (context_number k) count cells)) t → t ≡ meant count cells
  -- The reader stores it over the start of any table of 4,096 nodes, and answers how many nodes it has.
  pub returned : (table after : List ℕ) (reply : Result ℕ Refusal) → node_cells * most_nodes ≤ length table → Answers (context_number k) (cells_of (written (context_number k) count cells)) table reply after
      → (reply ≡ Ok (size (meant count cells))) × (after ≡ over (numbered (meant count cells)) table)
  -- Leaving out a pair that we added removes its two tokens, between which node j's own stand, and no other,
  pub left_out : (j : ℕ) → Added k count cells j → Removed (written_but k j count cells j) (written (context_number k) count cells) (written_but k j count cells 1)
  -- and no reading of what remains is that tree, nor one that differs from it in symbols alone.
  pub needed : (j : ℕ) → Added k count cells j → (t : Tree) → Reads k (cells_of (written_but k j count cells 1)) t → erase t ≡ erase (meant count cells) → ⊥

-- Of every table that is accepted in context 0 or 3 and plain,
abbrev pub Promise : Type 0
Promise = (k : Context) (count : ℕ) (cells : List ℕ) → Accepted (context_number k) count cells → plain_table count cells ≡ true → Demand3 k count cells

-- and so of every tree file that is not refused, whose context is 0 or 3 and whose table is plain.
abbrev pub FilePromise : Type 0
FilePromise =
    (k : Context) (file : List ℕ) (lent : ℕ) → file_refusal file lent ≡ 0 → context_in file ≡ context_number k → plain_table (count_in file) (cells_in file) ≡ true
    → Demand3 k (count_in file) (cells_in file)

-- Document 02, Paper 1: "The token writer still writes none." What is written has no comma straight before a `)` or a `>`.
abbrev pub WritesNone : Type 0
WritesNone = (k : Context) (count : ℕ) (cells : List ℕ) → Accepted (context_number k) count cells → plain_table count cells ≡ true → NoLastComma (cells_of (written (context_number k) count cells))

-- a tree without a Struct
abbrev pub NoStruct : Tree → Type 0
NoStruct none = Unit {0}
NoStruct (node l a b) = (eqb l.form expr_struct ≡ false) × NoStruct a × NoStruct b

-- For such a tree the tokens written are the same in both contexts, and so, as the promise says, is their reading.
abbrev pub SameTokens : Type 0
SameTokens =
    (k : Context) (count : ℕ) (cells : List ℕ) → Accepted (context_number k) count cells → plain_table count cells ≡ true → NoStruct (tree_at cells count 1)
    → written (context_number k) count cells ≡ written (context_number NONE) count cells

-- Document 02, Paper 9: "Plain trees have neither, so their tokens do not move." The rows of a plain table are the same in both callee orders, in any context.
abbrev pub PlainOrders : Type 0
PlainOrders =
    (context count : ℕ) (cells rows : List ℕ) → plain_table count cells ≡ true
    → rows_after Crates context count cells rows ≡ rows_after Ours context count cells rows
