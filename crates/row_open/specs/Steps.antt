-- What the private functions give: the answers on the way, and the operators that are tried. Nothing here is to be believed.
use Rattle.std.specs.Prelude.{◌≡◌, Bool, true, false, ◌||◌, List, [], ◌∷◌, ℕ, zero, suc, ◌*◌, ◌-◌, ◌≤◌, ◌<◌, eqb, ltb, length, get_or, set}
use Rattle.bools.specs.Bits.{bit_of}
use Rattle.laws.specs.Choice.{pick, line, lookup}
use Rattle.tree.specs.Sizes.{node_cells, row_cells, most_nodes, most_levels}
use Rattle.tree.specs.Trees.{tree_at}
use Rattle.expr.specs.declared.order.CalleeOrder.{CalleeOrder}
use Rattle.row_walk.specs.Steps.{waiting}
use Rattle.row_open.specs.declared.Entry.{Entry}
use Rattle.row_open.specs.Open.{entry_cells, entries_in, last_binary, with_operator, has_outer, refusal21, refusal22}

-- ---- cells on the way

-- the cell of a node of which no choice has been asked yet
abbrev pub unasked : ℕ
unasked = 3

-- a cell, and whether a further choice gives the outer pair
unfoldable pub joined : ℕ → Bool → ℕ
joined seen outer = pick (eqb seen unasked) (bit_of outer) (pick (eqb seen (bit_of outer)) seen 2)

-- the cells of nodes 1 to n with one choice's pairs
unfoldable pub joined_to : ℕ → (ℕ → Bool) → List ℕ → List ℕ
joined_to zero outer seen = seen
joined_to (suc n) outer seen =
    let before = joined_to n outer seen in
    set before n (joined (get_or before n 0) (outer (suc n)))

-- ---- operators of one class: they agree in level, in whether they can begin an expression, and in whether they can begin generics

-- the operator before it in its class, and itself where it is the first
unfoldable pub previous : ℕ → ℕ
previous op = lookup (line (4 ∷ []) 3 ∷ line (14 ∷ []) 12 ∷ line (18 ∷ []) 18 ∷ []) (pick (ltb 14 op) (op - 1) op) op

-- the first of its class from `lowest` on
unfoldable pub is_new : ℕ → ℕ → Bool
is_new lowest op = eqb (previous op) op || ltb (previous op) lowest

-- of n operators from op on those that are the first of their classes
unfoldable pub news : ℕ → ℕ → ℕ → List ℕ
news lowest op zero = []
news lowest op (suc n) = pick (is_new lowest op) (op ∷ news lowest (suc op) n) (news lowest (suc op) n)

-- the next operator of a range that is the first of its class, or the number behind the range
pub record Next (lowest highest op next : ℕ) : Type 0 where
  pub above : op < next
  pub within : next ≤ suc highest
  pub new : next ≤ highest → is_new lowest next ≡ true
  pub rest : news lowest (suc op) (suc highest - suc op) ≡ news lowest next (suc highest - next)

-- ---- all that is tried

-- a step for each number of a list
unfoldable pub sweep : {A : Type 0} → List ℕ → (ℕ → A → A) → A → A
sweep [] step a = a
sweep (o ∷ os) step a = sweep os step (step o a)

abbrev pub new_at : Entry → List ℕ
new_at e = news e.lowest e.lowest (suc e.highest - e.lowest)

-- the cells after a walk for each choice of classes
unfoldable pub varied : CalleeOrder → ℕ → ℕ → List Entry → List ℕ → List ℕ → List ℕ
varied order context count [] cells seen = joined_to count (has_outer order context count cells) seen
varied order context count (e ∷ es) cells seen = sweep (new_at e) (λ o. varied order context count es (with_operator e.node o cells)) seen

-- what `vary` leaves: the table as it was, rows of the same length, and the cells
pub record Varies (order : CalleeOrder) (context count : ℕ) (es : List Entry) (cells rows seen cells' rows' seen' : List ℕ) : Type 0 where
  pub same_table : cells' ≡ cells
  pub same_length : length rows' ≡ length rows
  pub told : seen' ≡ varied order context count es cells seen

-- each entry's node is in the table, and its operators are some
pub data Within (cells : ℕ) : List Entry → Type 0 where
  none : Within cells []
  entry : {e : Entry} {es : List Entry} → 1 ≤ e.node → node_cells * e.node ≤ cells → e.highest ≤ last_binary → Within cells es → Within cells (e ∷ es)

-- an entry's numbers are in the buffer; the tables of the walks, their rows and the answers have room
pub record Room (entered count numbers table rows answers : ℕ) : Type 0 where
  pub entries : entry_cells * entered ≤ numbers
  pub nodes : node_cells * count ≤ table
  pub wide : row_cells * count ≤ rows
  pub told : count ≤ answers

-- the walk's entries are enough for a table's tree
abbrev pub Shallow : ℕ → List ℕ → Type 0
Shallow count cells = waiting (tree_at cells count 1) ≤ most_levels

-- a checked table with checked entries
pub record Taken (count : ℕ) (cells : List ℕ) (entered : ℕ) (numbers : List ℕ) : Type 0 where
  pub few : count ≤ most_nodes
  pub nodes : node_cells * count ≤ length cells
  pub shallow : Shallow count cells
  pub entries : entry_cells * entered ≤ length numbers
  pub binaries : refusal21 cells count (entries_in entered numbers) ≡ false
  pub ends : refusal22 (entries_in entered numbers) ≡ false
