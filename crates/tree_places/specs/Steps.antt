-- What the private functions of places answer. Nothing here is to be believed.
use Rattle.std.specs.Prelude.{Bool, true, false, List, ℕ}
use Rattle.tree_places.specs.declared.place.Place.{Place}
use Rattle.tree_places.specs.declared.place.Place.TheVariants.{Nothing, Required, Optional, List as ListOf, Item, Next}
use Rattle.tree_places.specs.Places.{wrong_class, wrong_list, wrong_item, wrong_next}

-- the places that must have an operand
unfoldable pub is_required : Place → Bool
is_required Nothing = false
is_required (Required class) = true
is_required (Optional class) = false
is_required (ListOf class) = false
is_required Item = true
is_required Next = false

-- an operand that is present at a place of a node whose first number is f
unfoldable pub wrong_present : List ℕ → ℕ → ℕ → Place → ℕ → Bool
wrong_present cells count f Nothing o = true
wrong_present cells count f (Required class) o = wrong_class cells count class o
wrong_present cells count f (Optional class) o = wrong_class cells count class o
wrong_present cells count f (ListOf class) o = wrong_list cells count class o
wrong_present cells count f Item o = wrong_item cells count o
wrong_present cells count f Next o = wrong_next cells count f o
