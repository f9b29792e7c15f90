-- What the one pass over the nodes keeps of each: its mark. Private contracts cite it. Nothing here is to be believed.
use Rattle.std.specs.Prelude.{◌≡◌, false, true, ◌&&◌, List, ◌⊎◌, ℕ, ◌+◌, ◌*◌, ◌/◌, ◌%◌, ◌≤◌, ◌<◌, max, eqb, ltb, length, get_or, set}
use Rattle.laws.specs.Choice.{pick}
use Rattle.tree_places.specs.declared.place.Place.{Place}
use Rattle.tree_places.specs.declared.place.Place.TheVariants.{Nothing, Required, Optional, List as ListOf, Item, Next}
use Rattle.tree.specs.Sizes.{most_levels}
use Rattle.tree.specs.Forms.{a_link}
use Rattle.tree.specs.Table.{form_at, detail_at, first_at, class_at}
use Rattle.tree.specs.Trees.{tree_at, levels}
use Rattle.tree_places.specs.Places.{first_place, second_place, bad_operands}
use Rattle.tree_one_pass.specs.Rows.{fits_by, code_by}
use Rattle.tree_rules.specs.Refusals.{bad_numbers, bad_order, owners, empty, bad_output}

-- ---- kinds: 0 nothing, 1 an expression, 2 a type, 3 a link whose item is an expression, 4 a link whose item is a type

-- the kind of a node, by its class and the kind of its first operand
unfoldable pub kind_by : ℕ → ℕ → ℕ
kind_by class item = pick (eqb class a_link) (item + 2) class

unfoldable pub kind_at : List ℕ → ℕ → ℕ
kind_at cells i = kind_by (class_at cells i) (class_at cells (first_at cells i))

-- an expression or a type, of this class
abbrev pub IsKind : ℕ → ℕ → Type 0
IsKind class kind = (1 ≤ kind) × (kind ≤ 2) × (kind ≡ class)

-- a link whose item is of this class
abbrev pub IsList : ℕ → ℕ → Type 0
IsList class kind = (3 ≤ kind) × (kind ≡ class + 2)

-- a kind fits a place of a node whose first operand is of kind `item`
unfoldable pub Fits : Place → ℕ → ℕ → Type 0
Fits Nothing item kind = kind ≡ 0
Fits (Required class) item kind = IsKind class kind
Fits (Optional class) item kind = (kind ≡ 0) ⊎ IsKind class kind
Fits (ListOf class) item kind = (kind ≡ 0) ⊎ IsList class kind
Fits Item item kind = (1 ≤ kind) × (kind ≤ 2)
Fits Next item kind = (kind ≡ 0) ⊎ ((item ≤ 2) × IsList item kind)

-- ---- marks: a kind, and eight times the levels

unfoldable pub mark_by : ℕ → ℕ → ℕ → ℕ
mark_by class item below = pick (eqb class a_link) (item + 2 + 8 * below) (class + 8 * (below + 1))

unfoldable pub mark_at : List ℕ → ℕ → ℕ → ℕ
mark_at cells count i = kind_at cells i + 8 * levels (tree_at cells count i)

-- the operand o is taken out of the marks, unless it is absent; 7 where it is past the count or has no mark
pub data Takes (count o : ℕ) (xs : List ℕ) : ℕ → List ℕ → Type 0 where
  absent : o ≡ 0 → Takes count o xs 0 xs
  taken : o ≤ count → (get_or xs o 0 ≡ 0 → ⊥) → Takes count o xs (get_or xs o 0) (set xs o 0)
  refused : Takes count o xs 7 xs

-- the numbers are allowed by the row, and the first operand fits where the row says
abbrev pub Opens : ℕ → ℕ → ℕ → ℕ → Type 0
Opens row attributes detail one = (attributes ≤ row / 4 % 4) × (detail ≤ row / 1024) × (fits_by (row / 16 % 8) (one % 8) ≡ true)

-- there is a row, the second operand fits where it says, and this is the node's mark
abbrev pub Closes : ℕ → ℕ → ℕ → ℕ → Type 0
Closes row one two mark = (row % 4 ≡ 0 → ⊥) × (fits_by (code_by row one) (two % 8) ≡ true) × (mark ≡ mark_by (row % 4) (one % 8) (max (one / 8) (two / 8)))

-- node i with operands of these marks breaks no rule that looks at one node, and has this mark itself
pub record Marks (cells : List ℕ) (i one two mark : ℕ) : Type 0 where
  pub numbers : bad_numbers cells i ≡ false
  pub first : Fits (first_place (form_at cells i) (detail_at cells i)) (one % 8) (one % 8)
  pub second : Fits (second_place (form_at cells i) (detail_at cells i)) (one % 8) (two % 8)
  pub full : empty cells i ≡ false
  pub output : bad_output cells i ≡ false
  pub is : mark ≡ mark_by (class_at cells i) (one % 8) (max (one / 8) (two / 8))

-- no rule that looks at one node is broken at node i; a link has an item with a class
pub record Sound (cells : List ℕ) (count i : ℕ) : Type 0 where
  pub numbers : bad_numbers cells i ≡ false
  pub operands : bad_operands cells count i ≡ false
  pub order : bad_order cells count i ≡ false
  pub full : empty cells i ≡ false
  pub output : bad_output cells i ≡ false
  pub item : class_at cells i ≡ a_link → 1 ≤ class_at cells (first_at cells i)

-- the first refusal where none of 6 to 10 applies, by the levels
unfoldable pub by_levels : ℕ → ℕ
by_levels most = pick (ltb most_levels most) 11 0

-- 1 for a node above n that an owner above n has taken
unfoldable pub claim : ℕ → List ℕ → ℕ → ℕ
claim n xs j = pick (ltb n j && eqb (get_or xs j 0) 0) 1 0

-- the nodes above n are done: each that no owner has taken yet has its mark, and the others have none
pub record Marked (cells : List ℕ) (count n : ℕ) (xs : List ℕ) : Type 0 where
  pub size : count < length xs
  pub fresh : (j : ℕ) → j ≤ n → get_or xs j 0 ≡ 0
  pub marks : (j : ℕ) → n < j → j ≤ count → (get_or xs j 0 ≡ 0 → ⊥) → get_or xs j 0 ≡ mark_at cells count j
  pub owned : (j : ℕ) → 1 ≤ j → j ≤ count → owners cells count j ≡ owners cells n j + claim n xs j
  pub sound : (j : ℕ) → n < j → j ≤ count → Sound cells count j
