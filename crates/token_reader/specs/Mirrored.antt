-- What the passes over the reader's own table say of their arrays. Nothing here is to be believed.
use Rattle.std.specs.Prelude.{◌≡◌, ◌⊎◌, List, [], ◌∷◌, ℕ, suc, ◌+◌, ◌*◌, ◌-◌, ◌≤◌, ◌<◌, eqb, length, get_or, set}
use Rattle.std.proofs.lemmas.List.Edits.{sets}
use Rattle.laws.specs.Choice.{pick}
use Rattle.tree.specs.Sizes.{node_cells, most_tokens}
use Rattle.tree.specs.Table.{form_at, attributes_at, detail_at, first_at, second_at, symbol_at}
use Rattle.tree.specs.Trees.{Tree, none, node, label_at, tree_at, levels}
use Rattle.tree_numbering.specs.Numbered.{size, number_of}

-- an operand that is absent, or has the number that is due
abbrev pub Due : ℕ → ℕ → ℕ → Type 0
Due nodes due operand = (operand ≡ 0) ⊎ ((operand ≡ due) × (due ≤ nodes))

-- a tree whose root is node i, each second operand straight behind its owner, each first operand behind all nodes of the second
abbrev pub Laid : List ℕ → ℕ → Tree → Type 0
Laid own i none = Unit {0}
Laid own i (node l a b) =
    (tree_at own most_tokens i ≡ node l a b) × (label_at own i ≡ l) × (first_at own i ≡ number_of a (suc i + size b)) × (second_at own i ≡ number_of b (suc i))
    × Laid own (suc i + size b) a × Laid own (suc i) b

-- the trees at the nodes behind `low` are laid so, and the array holds their sizes
pub record Spanned (own : List ℕ) (nodes base low : ℕ) (spans : List ℕ) : Type 0 where
  pub room : nodes - base < length spans
  pub absent : get_or spans 0 0 ≡ 0
  pub laid : (j : ℕ) → low < j → j ≤ nodes → Laid own j (tree_at own most_tokens j)
  pub within : (j : ℕ) → low < j → j ≤ nodes → j + size (tree_at own most_tokens j) ≤ suc nodes
  pub at : (j : ℕ) → low < j → j ≤ nodes → get_or spans (j - base) 0 ≡ size (tree_at own most_tokens j)

-- and another their levels
pub record Measured (own : List ℕ) (nodes base low : ℕ) (spans heights : List ℕ) : Type 0 where
  pub sizes : Spanned own nodes base low spans
  pub room : nodes - base < length heights
  pub absent : get_or heights 0 0 ≡ 0
  pub at : (j : ℕ) → low < j → j ≤ nodes → get_or heights (j - base) 0 ≡ levels (tree_at own most_tokens j)

-- ---- the pass from the root on: the node behind the first `done` has its number in the array

abbrev pub span_of : List ℕ → ℕ → List ℕ → ℕ → ℕ
span_of own base spans done = get_or spans (first_at own (suc done) - base) 0

abbrev pub number_at : ℕ → ℕ → List ℕ → ℕ
number_at base done numbers = get_or numbers (suc done - base) 0

-- its operands get theirs
abbrev pub numbers_on : List ℕ → ℕ → List ℕ → ℕ → List ℕ → List ℕ
numbers_on own base spans done numbers =
    set (set numbers (first_at own (suc done) - base) (number_at base done numbers + 1)) (second_at own (suc done) - base) (number_at base done numbers + 1 + span_of own base spans done)

-- and its six cells are stored there
abbrev pub stored_on : List ℕ → ℕ → List ℕ → ℕ → List ℕ → List ℕ → List ℕ
stored_on own base spans done numbers out =
    sets out (node_cells * (number_at base done numbers - 1))
    (form_at own (suc done) ∷ attributes_at own (suc done) ∷ detail_at own (suc done)
    ∷ pick (eqb (first_at own (suc done)) 0) 0 (number_at base done numbers + 1)
    ∷ pick (eqb (second_at own (suc done)) 0) 0 (number_at base done numbers + 1 + span_of own base spans done)
    ∷ symbol_at own (suc done) ∷ [])

-- where that can be done
pub record Placeable (own : List ℕ) (base done : ℕ) (spans numbers out : List ℕ) : Type 0 where
  pub cells : node_cells * suc done ≤ length own
  pub few : done < most_tokens
  pub behind : base ≤ done
  pub first_behind : 1 ≤ first_at own (suc done) → base ≤ first_at own (suc done)
  pub second_behind : 1 ≤ second_at own (suc done) → base ≤ second_at own (suc done)
  pub here : suc done - base < length numbers
  pub first_here : first_at own (suc done) - base < length numbers
  pub second_here : second_at own (suc done) - base < length numbers
  pub span_here : first_at own (suc done) - base < length spans
  pub low : 1 ≤ number_at base done numbers
  pub after : number_at base done numbers + 1 + span_of own base spans done ≤ suc most_tokens
  pub room : node_cells * number_at base done numbers ≤ length out
