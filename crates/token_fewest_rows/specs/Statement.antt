-- Document 02, Paper 14, of every accepted plain tree, however its nodes are numbered: as few pairs as can be, and their count.
use Rattle.std.specs.Prelude.{◌≡◌, true, List, [], ◌∷◌, ◌++◌, ℕ, zero, suc, ◌+◌, ◌≤◌}
use Rattle.bools.specs.Bits.{bit_of}
use Rattle.laws.specs.Choice.{is_one_of}
use Rattle.tree.specs.Forms.{expr_call, expr_method_call, expr_paren}
use Rattle.tree.specs.Table.{first_column, second_column}
use Rattle.tree.specs.Trees.{Tree, none, node, operand_at, tree_at}
use Rattle.tree_rules.specs.Refusals.{Accepted}
use Rattle.tree_numbering.specs.Sums.{sum}
use Rattle.token_grammar.specs.Tokens.{Token, left_paren, right_paren, cells_of}
use Rattle.token_grammar.specs.Grammar.{Context, NONE, context_number}
use Rattle.token_grammar.specs.Commas.{CommasPut}
use Rattle.token_plain.specs.Plain.{plain_table}
use Rattle.token_plain.specs.Trees.{without_parens}
use Rattle.token_plain.specs.Written.{signs_of}
use Rattle.token_plain.specs.Reads.{Reads}
use Rattle.token_writer.specs.Writes.{rows_for, written, one_pair, pairs_written}
use Rattle.token_fewest.specs.Openings.{openings}

-- ---- ways of putting pairs

-- what `inside` puts before a rest, within n pairs
abbrev pub round : ℕ → (List Token → List Token) → List Token → List Token
round zero inside rest = inside rest
round (suc n) inside rest = left_paren ∷ round n inside (right_paren ∷ rest)

-- "every way of putting pairs round its operands": the tokens of the tree at node i, with `way j` pairs round each node j, and then `rest`
unfoldable pub tokens_with : List ℕ → ℕ → (ℕ → ℕ) → ℕ → Tree → List Token → List Token
tokens_with cells count way i none rest = rest
tokens_with cells count way i (node l a b) rest =
    round
    (way i)
    (λ end.
    (signs_of l b).before
    ++ tokens_with cells count way (operand_at cells count i first_column) a
    ((signs_of l b).between ++ tokens_with cells count way (operand_at cells count i second_column) b ((signs_of l b).behind ++ end)))
    rest

abbrev pub cells_with : ℕ → List ℕ → (ℕ → ℕ) → List ℕ
cells_with count cells way = cells_of (tokens_with cells count way 1 (tree_at cells count 1) [])

-- ---- as few pairs as can be

abbrev pub ours : ℕ → List ℕ → List ℕ
ours count cells = cells_of (written (context_number NONE) count cells)

pub record Fewest (count : ℕ) (cells : List ℕ) : Type 0 where
  -- "consider every way of putting pairs round its operands whose tokens read back as that tree. None of them has fewer pairs than the tokens we write."
  -- The root, which is no operand, may have pairs as well.
  pub fewest : (way : ℕ → ℕ) → Reads NONE (cells_with count cells way) (tree_at cells count 1) → pairs_written (context_number NONE) count cells ≤ sum way count
  -- What we write is one of these ways: a pair round each node whose row's pair is 1.
  pub among : cells_with count cells (one_pair (rows_for (context_number NONE) count cells)) ≡ ours count cells
  pub reads : Reads NONE (ours count cells) (tree_at cells count 1)
  -- Of all token lists that read as the tree, commas after last items included, none has fewer `(`.
  pub fewest_tokens : (list : List ℕ) → Reads NONE list (tree_at cells count 1) → openings (ours count cells) ≤ openings list
  -- These ways are all: each such list is that of a way, with commas put in straight before a `)` or a `>`.
  pub every : (list : List ℕ) → Reads NONE list (tree_at cells count 1) → (way : ℕ → ℕ) × CommasPut (cells_with count cells way) list

-- "For a plain tree without Paren nodes, in context 0"
abbrev pub FewestPairs : Type 0
FewestPairs =
    (count : ℕ) (cells : List ℕ) → Accepted (context_number NONE) count cells → plain_table count cells ≡ true → without_parens (tree_at cells count 1) ≡ tree_at cells count 1
    → Fewest count cells

-- ---- the count of pairs

-- how many Calls, MethodCalls and Parens a tree has, each with a `(` of its own
abbrev pub own_openings : Tree → ℕ
own_openings none = 0
own_openings (node l a b) = bit_of (is_one_of (expr_call ∷ expr_method_call ∷ expr_paren ∷ []) l.form) + (own_openings a + own_openings b)

-- "The count of pairs written .. equals the number of rows whose pair is 1.", which `pairs_written` is: in both contexts, with Paren nodes too, it is the number of `(` but for theirs.
abbrev pub PairsCounted : Type 0
PairsCounted =
    (k : Context) (count : ℕ) (cells : List ℕ) → Accepted (context_number k) count cells → plain_table count cells ≡ true
    → openings (cells_of (written (context_number k) count cells)) ≡ pairs_written (context_number k) count cells + own_openings (tree_at cells count 1)
