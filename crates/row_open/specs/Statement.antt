-- Document 02, Paper 12: what is promised of answers over all choices.
use Rattle.std.specs.Prelude.{List, [], ◌∷◌, ◌⊎◌, ◌≢◌, ◌≡◌, ℕ, ◌*◌, ◌≤◌, length}
use Rattle.laws.specs.Choice.{pick}
use Rattle.tree.specs.Sizes.{row_cells}
use Rattle.tree.specs.Forms.{expr_binary}
use Rattle.tree.specs.Table.{form_at}
use Rattle.tree.specs.Trees.{tree_at}
use Rattle.tree_rules.specs.Refusals.{Accepted}
use Rattle.precedence.specs.Precedences.{of_binop}
use Rattle.expr.specs.declared.order.CalleeOrder.{CalleeOrder}
use Rattle.expr.specs.Expr.{can_begin_expr, can_begin_generics}
use Rattle.row_walk.specs.Walk.{tree_rows, walked_after}
use Rattle.row_open.specs.declared.Entry.{Entry}
use Rattle.row_open.specs.declared.Answer.TheVariants.{Never, Always, Depends}
use Rattle.row_open.specs.Open.{last_binary, with_operator, outer_in, answer_at}

-- "With no entries, always is the row's outer pair and never its absence": the row of an accepted table's walk, whatever was in the buffer before.
abbrev pub NoEntries : Type 0
NoEntries =
    (order : CalleeOrder) (context count : ℕ) (cells rows : List ℕ) → Accepted context count cells → row_cells * count ≤ length rows
    → (i : ℕ) → 1 ≤ i → i ≤ count
    → answer_at order context count [] cells i ≡ pick (outer_in (walked_after order context count cells rows) i) Always Never

-- An entry whose ends are one operator is the table with that operator.
abbrev pub OneChoice : Type 0
OneChoice =
    (order : CalleeOrder) (context count : ℕ) (e : Entry) (es : List Entry) (cells : List ℕ) → e.lowest ≡ e.highest
    → (i : ℕ) → answer_at order context count (e ∷ es) cells i ≡ answer_at order context count es (with_operator e.node e.lowest cells) i

-- entries at the same nodes, each within the ends of another that is as wide or wider
pub data Wider : List Entry → List Entry → Type 0 where
  none : Wider [] []
  entry : {e f : Entry} {es fs : List Entry} → f.node ≡ e.node → f.lowest ≤ e.lowest → e.lowest ≤ e.highest → e.highest ≤ f.highest → Wider es fs → Wider (e ∷ es) (f ∷ fs)

-- Wider entries leave an answer as it is or turn it into depends; never into always or always into never.
abbrev pub WiderDepends : Type 0
WiderDepends =
    (order : CalleeOrder) (context count : ℕ) (cells : List ℕ) (es fs : List Entry) → Wider es fs
    → (i : ℕ) → (answer_at order context count fs cells i ≡ answer_at order context count es cells i) ⊎ (answer_at order context count fs cells i ≡ Depends)

-- entries in another order; those that change places have different nodes
pub data Reordered : List Entry → List Entry → Type 0 where
  none : Reordered [] []
  same : {e : Entry} {es fs : List Entry} → Reordered es fs → Reordered (e ∷ es) (e ∷ fs)
  turned : {e f : Entry} {es : List Entry} → 1 ≤ e.node → 1 ≤ f.node → e.node ≢ f.node → Reordered (e ∷ f ∷ es) (f ∷ e ∷ es)
  then : {es fs gs : List Entry} → Reordered es fs → Reordered fs gs → Reordered es gs

-- Answers do not depend on the order of the entries.
abbrev pub AnyOrder : Type 0
AnyOrder =
    (order : CalleeOrder) (context count : ℕ) (es fs : List Entry) → Reordered es fs
    → (cells : List ℕ) (i : ℕ) → answer_at order context count es cells i ≡ answer_at order context count fs cells i

-- operators of one class: the same level, and a token that can begin an expression or generics, or can't
pub record SameClass (o p : ℕ) : Type 0 where
  pub level : of_binop o ≡ of_binop p
  pub begins : can_begin_expr o ≡ can_begin_expr p
  pub generics : can_begin_generics o ≡ can_begin_generics p

-- Operators of one class at a Binary of an accepted table give the same rows everywhere.
abbrev pub ClassRows : Type 0
ClassRows =
    (order : CalleeOrder) (context count : ℕ) (cells : List ℕ) → Accepted context count cells
    → (node : ℕ) → 1 ≤ node → node ≤ count → form_at cells node ≡ expr_binary
    → (o p : ℕ) → o ≤ last_binary → p ≤ last_binary → SameClass o p → (rows : List ℕ)
    → tree_rows order context count (tree_at (with_operator node o cells) count 1) (with_operator node o cells) rows
    ≡ tree_rows order context count (tree_at (with_operator node p cells) count 1) (with_operator node p cells) rows
