-- A place's number by whether it is 0. Assumes nothing.
use mathlib.Core.Path.{◌≡◌}
use mathlib.Core.Bool.{true, false}
use mathlib.Core.List.{List}
use Prim.Native.Nat.{ℕ}
use lib.Dec.{eqb}
use borrow.Author.Tests.{eq-eqb, ne_eqb}
use Rattle.tree_places.specs.declared.place.Place.{Place}
use Rattle.tree_places.specs.declared.place.Place.TheVariants.{Nothing, Required, Optional, List as ListOf, Item, Next}
use Rattle.tree_places.specs.Places.{wrong_at}
use Rattle.tree_places.specs.Steps.{is_required, wrong_present}

module _ (cells : List ℕ) (count f : ℕ) (place : Place) (o : ℕ) where
  pub wrong_absent : o ≡ 0 → wrong_at cells count f place o ≡ is_required place
  unfolding wrong_at is_required
  wrong_absent z = go place (eq-eqb o 0 z)
    where
      go : (p : Place) → eqb o 0 ≡ true → wrong_at cells count f p o ≡ is_required p
      go Nothing e = rw e
      go (Required class) e = rw e
      go (Optional class) e = rw e
      go (ListOf class) e = rw e
      go Item e = rw e
      go Next e = rw e

  pub wrong_present_lem : (o ≡ 0 → ⊥) → wrong_at cells count f place o ≡ wrong_present cells count f place o
  unfolding wrong_at wrong_present
  wrong_present_lem n = go place (ne_eqb o 0 n)
    where
      go : (p : Place) → eqb o 0 ≡ false → wrong_at cells count f p o ≡ wrong_present cells count f p o
      go Nothing e = rw e
      go (Required class) e = rw e
      go (Optional class) e = rw e
      go (ListOf class) e = rw e
      go Item e = rw e
      go Next e = rw e
