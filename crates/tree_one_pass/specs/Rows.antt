-- What the one pass knows of a form: its row, one number. Private contracts cite it. Nothing here is to be believed.
use Rattle.std.specs.Prelude.{◌≡◌, Bool, false, true, not, ◌&&◌, ◌||◌, List, [], ◌∷◌, ℕ, ◌+◌, ◌/◌, ◌%◌, eqb, leb}
use Rattle.laws.specs.Choice.{pick, is_one_of}
use Rattle.tree_places.specs.declared.place.Place.{Place}
use Rattle.tree_places.specs.declared.place.Place.TheVariants.{Nothing, Required, Optional, List as ListOf, Item, Next}
use Rattle.tree.specs.Forms.{type_impl_trait, type_path, type_trait_object, a_link, class_of, highest_attributes, highest_detail}
use Rattle.tree.specs.Table.{form_at, detail_at}
use Rattle.tree_places.specs.Places.{first_place, second_place}
use Rattle.tree_rules.specs.Refusals.{bad_output}

-- the codes of places: 0 nothing, 1 and 2 required, 3 and 4 optional, 5 and 6 a list, of expressions and of types, 7 an item
unfoldable pub code_is : Place → ℕ → Bool
code_is Nothing code = eqb code 0
code_is (Required class) code = (leb 1 class && leb class 2) && eqb code class
code_is (Optional class) code = (leb 1 class && leb class 2) && eqb code (class + 2)
code_is (ListOf class) code = (leb 1 class && leb class 2) && eqb code (class + 4)
code_is Item code = eqb code 7
code_is Next code = eqb code 0

-- a kind fits a place with this code
unfoldable pub fits_by : ℕ → ℕ → Bool
fits_by code kind =
    pick (eqb code 0) (eqb kind 0) (pick (leb code 2) (eqb kind code) (pick (leb code 6) (eqb kind 0 || eqb (kind + 2) code) (eqb kind 1 || eqb kind 2)))

-- the code of a node's second place, by its row and the mark of its first operand: the next link has the item's class
unfoldable pub code_by : ℕ → ℕ → ℕ
code_by row one = pick (eqb (row % 4) a_link) (one % 4 + 4) (row / 128 % 8)

-- a row says of a form with this detail what it is: class, highest attributes, the codes of both places, highest detail; and nothing is empty
unfoldable pub suits : ℕ → ℕ → ℕ → Bool
suits form detail row =
    (eqb (row % 4) (class_of form) && not (eqb (row % 4) 0))
    && ((eqb (row / 4 % 4) (highest_attributes form) && eqb (row / 1024) (highest_detail form))
    && ((code_is (first_place form detail) (row / 16 % 8) && code_is (second_place form detail) (row / 128 % 8))
    && not (is_one_of (type_impl_trait ∷ type_path ∷ type_trait_object ∷ []) form && eqb detail 0)))

-- the row of node i, whose output is none that is refused
abbrev pub RowAt : List ℕ → ℕ → ℕ → Type 0
RowAt cells i row = (suits (form_at cells i) (detail_at cells i) row ≡ true) × (bad_output cells i ≡ false)
