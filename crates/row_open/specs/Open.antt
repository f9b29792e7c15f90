-- Document 02, Paper 12: "Sheet drafts leave an operator open, as 'plus or minus'." The pairs of a tree over all choices of its open operators.
use Rattle.std.specs.Prelude.{Bool, true, false, not, ◌&&◌, ◌||◌, List, [], ◌∷◌, ◌++◌, map, ℕ, zero, suc, ◌+◌, ◌*◌, ◌-◌, ◌%◌, eqb, ltb, length, get_or, set, replicate}
use Rattle.laws.specs.Choice.{pick, is_one_of}
use Rattle.tree.specs.Sizes.{node_cells, row_cells}
use Rattle.tree.specs.Forms.{expr_binary}
use Rattle.tree.specs.Table.{detail_column}
use Rattle.tree.specs.Trees.{tree_at}
use Rattle.tree.specs.Operands.{form_in}
use Rattle.tree_rules.specs.Refusals.{refuse, first_of, refusal_then}
use Rattle.expr.specs.declared.order.CalleeOrder.{CalleeOrder}
use Rattle.row_walk.specs.Walk.{tree_rows}
use Rattle.row_open.specs.declared.Entry.{Entry}
use Rattle.row_open.specs.declared.Answer.{Answer}
use Rattle.row_open.specs.declared.Answer.TheVariants.{Never, Always, Depends}

-- ---- entries

-- "up to three entries"
abbrev pub most_entries : ℕ
most_entries = 3

-- three numbers an entry
abbrev pub entry_cells : ℕ
entry_cells = 3

-- 22: "highest above 27"; document 01, 'Details': "Binary 0 to 27"
abbrev pub last_binary : ℕ
last_binary = 27

-- "each a Binary node with a lowest and a highest operator number, ends included": the entry in the k-th three cells of a buffer, from 0
abbrev pub entry_at : List ℕ → ℕ → Entry
entry_at numbers k =
    let at = entry_cells * k in
    record { node = get_or numbers at 0; lowest = get_or numbers (at + 1) 0; highest = get_or numbers (at + 2) 0 }

-- the first n entries of a buffer, the last of them first
unfoldable pub entries_in : ℕ → List ℕ → List Entry
entries_in zero numbers = []
entries_in (suc n) numbers = entry_at numbers n ∷ entries_in n numbers

abbrev pub nodes_of : List Entry → List ℕ
nodes_of es = map (λ (e : Entry). e.node) es

-- ---- choices

-- n numbers from o on
unfoldable pub from : ℕ → ℕ → List ℕ
from o zero = []
from o (suc n) = o ∷ from (suc o) n

-- the operators that an entry leaves open, "ends included"
abbrev pub open_at : Entry → List ℕ
open_at e = from e.lowest (suc e.highest - e.lowest)

-- each of some operators before each of some choices
unfoldable pub before : List ℕ → List (List ℕ) → List (List ℕ)
before [] cs = []
before (o ∷ os) cs = map (λ c. o ∷ c) cs ++ before os cs

-- all choices, an operator for each entry
unfoldable pub choices : List Entry → List (List ℕ)
choices [] = [] ∷ []
choices (e ∷ es) = before (open_at e) (choices es)

-- a table with another operator at a node
unfoldable pub with_operator : ℕ → ℕ → List ℕ → List ℕ
with_operator node o cells = set cells (node_cells * (node - 1) + detail_column) o

-- a table with the operators of a choice at the entries' nodes
unfoldable pub chosen : List Entry → List ℕ → List ℕ → List ℕ
chosen [] os cells = cells
chosen (e ∷ es) [] cells = cells
chosen (e ∷ es) (o ∷ os) cells = chosen es os (with_operator e.node o cells)

-- ---- answers

-- "0 never, 1 always, 2 depends"
abbrev pub answer_number : Answer → ℕ
answer_number Never = 0
answer_number Always = 1
answer_number Depends = 2

unfoldable pub all_of : List Bool → Bool
all_of [] = true
all_of (b ∷ bs) = b && all_of bs

-- "Always means an outer pair for every choice; never, for none; depends, when one choice gives the pair and another does not."
unfoldable pub answer_by : List Bool → Answer
answer_by pairs = pick (all_of pairs) Always (pick (all_of (map not pairs)) Never Depends)

-- document 01: "Pair: 1 outer pair .., plus 2 for the inner pair". Whether the row of node i has the outer pair
abbrev pub outer_in : List ℕ → ℕ → Bool
outer_in rows i = eqb (get_or rows (row_cells * (i - 1)) 0 % 2) 1

-- whether node i of a table's tree has it. "Answers follow the callee order of the sheet in use."
unfoldable pub has_outer : CalleeOrder → ℕ → ℕ → List ℕ → ℕ → Bool
has_outer order context count cells i = outer_in (tree_rows order context count (tree_at cells count 1) cells (replicate (row_cells * count) 0)) i

-- node i's answer over all choices
unfoldable pub answer_at : CalleeOrder → ℕ → ℕ → List Entry → List ℕ → ℕ → Answer
answer_at order context count es cells i = answer_by (map (λ os. has_outer order context count (chosen es os cells) i) (choices es))

-- "Answers take one cell a node": those of nodes 1 to n over the start of a buffer
unfoldable pub told : ℕ → (ℕ → Answer) → List ℕ → List ℕ
told zero answer cells = cells
told (suc n) answer cells = set (told n answer cells) n (answer_number (answer (suc n)))

-- ---- refusals

-- 12. "a shorter buffer meets refusal 12"; the entries' own buffer too
unfoldable pub open_refusal12 : ℕ → ℕ → ℕ → ℕ → Bool
open_refusal12 count entered numbers answers = ltb answers count || ltb numbers (entry_cells * entered)

-- 20. "more than three entries"
unfoldable pub refusal20 : ℕ → Bool
refusal20 entered = ltb most_entries entered

-- 21. "an entry's node is no Binary or is entered twice"
unfoldable pub refusal21 : List ℕ → ℕ → List Entry → Bool
refusal21 cells count [] = false
refusal21 cells count (e ∷ es) =
    not (eqb (form_in cells count e.node) expr_binary) || (is_one_of (nodes_of es) e.node || refusal21 cells count es)

-- 22. "lowest above highest or highest above 27"
unfoldable pub refusal22 : List Entry → Bool
refusal22 [] = false
refusal22 (e ∷ es) = (ltb e.highest e.lowest || ltb last_binary e.highest) || refusal22 es

-- the first of these that applies, or 0, where a table is accepted: "checked in that order after refusal 12"
unfoldable pub entry_refusal : ℕ → List ℕ → ℕ → List ℕ → ℕ → ℕ
entry_refusal count cells entered numbers answers =
    first_of (
    refuse 12 (open_refusal12 count entered (length numbers) answers) ∷
    refuse 20 (refusal20 entered) ∷
    refuse 21 (refusal21 cells count (entries_in entered numbers)) ∷
    refuse 22 (refusal22 (entries_in entered numbers)) ∷
    [])

-- ---- the reply, and the answers afterwards

-- a draft: a callee order, a context, a count and a table; how many entries, and their numbers
pub record Draft : Type 0 where
  pub order : CalleeOrder
  pub context : ℕ
  pub count : ℕ
  pub cells : List ℕ
  pub entered : ℕ
  pub numbers : List ℕ

abbrev pub draft_of : CalleeOrder → ℕ → ℕ → List ℕ → ℕ → List ℕ → Draft
draft_of order context count cells entered numbers = record { order = order; context = context; count = count; cells = cells; entered = entered; numbers = numbers }

-- the table's refusal, then the entries', or 0
unfoldable pub open_refusal : Draft → ℕ → ℕ
open_refusal d answers = refusal_then d.context d.count d.cells (entry_refusal d.count d.cells d.entered d.numbers answers)

-- the answers over the start of a buffer. "Answers take one cell a node"; what lies behind them stays
abbrev pub answers_of : Draft → List ℕ → List ℕ
answers_of d answers = told d.count (answer_at d.order d.context d.count (entries_in d.entered d.numbers) d.cells) answers

-- a refusal leaves every cell
unfoldable pub answers_after : Draft → List ℕ → List ℕ
answers_after d answers = pick (eqb (open_refusal d (length answers)) 0) (answers_of d answers) answers
