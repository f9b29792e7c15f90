-- What waits while a tree is written, as a stack of numbers. Nothing here is to be believed.
use Rattle.std.specs.Prelude.{◌≡◌, Bool, false, List, [], ◌∷◌, ◌++◌, ℕ, zero, suc, ◌+◌, ◌*◌, ◌-◌, ◌/◌, ◌%◌, ◌<◌, eqb, ltb, length, set, get_or}
use Rattle.laws.specs.Choice.{pick}
use Rattle.laws.specs.Puts.{Put}
use Rattle.tree.specs.Table.{first_column, second_column}
use Rattle.tree.specs.Trees.{label_at, operand_at, tree_at}
use Rattle.tree_numbering.specs.Numbered.{size}
use Rattle.token_grammar.specs.Tokens.{Token, right_paren, cells_of}
use Rattle.token_grammar.specs.Grammar.{CONDITION, context_number}
use Rattle.token_plain.specs.Written.{Signs, signs_of}
use Rattle.token_writer.specs.declared.Turn.{Turn}
use Rattle.token_writer.specs.Levels.{place, first_from, second_from, tokens_by, pairs_by}

-- ---- tasks: a node's number, and so many steps more for what is to be done with it

abbrev pub task_step : ℕ
task_step = 65536

abbrev pub task_of : ℕ → ℕ → ℕ
task_of node what = node + task_step * what

unfoldable pub node_in : ℕ → ℕ
node_in task = task % task_step

unfoldable pub what_in : ℕ → ℕ
what_in task = task / task_step

-- below these are places: the tree at the node is to be written there. Else what stands between its operands, or behind them, or behind them with the end of its pair
abbrev pub between_task : ℕ
between_task = 256

abbrev pub behind_task : ℕ
behind_task = 257

abbrev pub last_task : ℕ
last_task = 258

-- from here on a code without a symbol is to be put
abbrev pub code_task : ℕ
code_task = 512

-- ---- what a task writes

abbrev pub signs_at : List ℕ → ℕ → ℕ → Signs
signs_at cells count i = signs_of (label_at cells i) (tree_at cells count (operand_at cells count i second_column))

unfoldable pub cells_by : List ℕ → ℕ → ℕ → ℕ → List ℕ
cells_by cells count p i = cells_of (tokens_by p (tree_at cells count i) [])

abbrev pub pairs_at : List ℕ → ℕ → ℕ → ℕ → ℕ
pairs_at cells count p i = pairs_by p (tree_at cells count i)

-- the end of a pair, where there is one
abbrev pub closing : Bool → List Token
closing pair = pick pair (right_paren ∷ []) []

unfoldable pub sign_cells : List ℕ → ℕ → ℕ → ℕ → List ℕ
sign_cells cells count what i =
    pick
    (eqb what between_task)
    (cells_of (signs_at cells count i).between)
    (cells_of (signs_at cells count i).behind ++ cells_of (closing (eqb what last_task)))

abbrev pub code_cells : ℕ → List ℕ
code_cells what = (what - code_task) ∷ 0 ∷ []

-- of a task that is no place
unfoldable pub own_cells : List ℕ → ℕ → ℕ → ℕ → List ℕ
own_cells cells count what i = pick (ltb what code_task) (sign_cells cells count what i) (code_cells what)

unfoldable pub task_cells : List ℕ → ℕ → ℕ → List ℕ
task_cells cells count task =
    pick (ltb (what_in task) between_task) (cells_by cells count (what_in task) (node_in task)) (own_cells cells count (what_in task) (node_in task))

-- how many pairs it opens
unfoldable pub task_pairs : List ℕ → ℕ → ℕ → ℕ
task_pairs cells count task = pick (ltb (what_in task) between_task) (pairs_by (what_in task) (tree_at cells count (node_in task))) 0

-- and how many turns it takes at most: a node's own, and one for each task that it leaves
unfoldable pub enter_work : List ℕ → ℕ → ℕ → ℕ
enter_work cells count i = 1 + 4 * size (tree_at cells count i)

unfoldable pub task_work : List ℕ → ℕ → ℕ → ℕ
task_work cells count task = pick (ltb (what_in task) between_task) (enter_work cells count (node_in task)) 1

-- ---- what waits: `depth` tasks, the last of them first

unfoldable pub pile : {A : Type 0} → (ℕ → A → A) → A → List ℕ → ℕ → A
pile f z stack zero = z
pile f z stack (suc depth) = f (get_or stack depth 0) (pile f z stack depth)

abbrev pub waiting_cells : List ℕ → ℕ → List ℕ → ℕ → List ℕ
waiting_cells cells count = pile (λ task r. task_cells cells count task ++ r) []

abbrev pub waiting_pairs : List ℕ → ℕ → List ℕ → ℕ → ℕ
waiting_pairs cells count = pile (λ task r. task_pairs cells count task + r) 0

abbrev pub waiting_work : List ℕ → ℕ → List ℕ → ℕ → ℕ
waiting_work cells count = pile (λ task r. task_work cells count task + r) 0

-- four more tasks
abbrev pub laid : List ℕ → ℕ → ℕ → ℕ → ℕ → ℕ → List ℕ
laid stack depth a b c d = set (set (set (set stack depth a) (1 + depth) b) (1 + (1 + depth)) c) (1 + (1 + (1 + depth))) d

-- three
abbrev pub laid_three : List ℕ → ℕ → ℕ → ℕ → ℕ → List ℕ
laid_three stack depth a b c = set (set (set stack depth a) (1 + depth) b) (1 + (1 + depth)) c

-- those that a node leaves at a place
abbrev pub waiting : List ℕ → ℕ → ℕ → ℕ → Bool → List ℕ → ℕ → List ℕ
waiting cells count i p pair stack depth =
    laid
    stack
    depth
    (task_of i (pick pair last_task behind_task))
    (task_of (operand_at cells count i second_column) (second_from p pair (label_at cells i)))
    (task_of i between_task)
    (task_of (operand_at cells count i first_column) (first_from p pair (label_at cells i)))

-- ---- a turn: a task is taken from the stack, some of its cells are put, and the rest of it waits

pub record Turned (cells : List ℕ) (count task : ℕ) (stack : List ℕ) (depth : ℕ) (tokens : List ℕ) (at : ℕ) (new_stack new_tokens : List ℕ) (turn : Turn) : Type 0 where
  pub first : List ℕ
  pub puts : Put tokens at first new_tokens turn.at
  pub same : task_cells cells count task ++ waiting_cells cells count stack depth ≡ first ++ waiting_cells cells count new_stack turn.depth
  pub pairs : task_pairs cells count task + waiting_pairs cells count stack depth ≡ turn.pairs + waiting_pairs cells count new_stack turn.depth
  pub less : waiting_work cells count new_stack turn.depth < task_work cells count task + waiting_work cells count stack depth
  pub room : length new_stack ≡ length stack

-- one that puts nothing, whatever the buffer is
abbrev pub TurnedOnly : List ℕ → ℕ → ℕ → List ℕ → ℕ → ℕ → List ℕ → Turn → Type 0
TurnedOnly cells count task stack depth at new_stack turn = (tokens : List ℕ) → Turned cells count task stack depth tokens at new_stack tokens turn

-- ---- the whole

-- where the root stands
abbrev pub root_in : ℕ → ℕ
root_in context = place 0 false (eqb context (context_number CONDITION))

-- as many tasks as may wait while a tree of so many nodes is written
abbrev pub tasks_for : ℕ → ℕ
tasks_for nodes = 1 + 4 * nodes
