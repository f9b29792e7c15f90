-- What a `match` on a node's form knows of the node's shape. Assumes nothing.
use mathlib.Core.Path.{◌≡◌, refl}
use mathlib.Core.List.{List}
use Prim.Native.Nat.{ℕ}
use lib.Dec.{T}
use types.Run.{OneOf}
use Rattle.laws.proofs.Keys.{among, numbers_at, given_at, within, apart_before, found, numbers_of, found_any}
use Rattle.tree.specs.Operands.{form_in}
use Rattle.tree.proofs.Matches.{first_at, second_at}
use Rattle.tree_shapes.specs.declared.Shape.{Shape}
use Rattle.tree_shapes.specs.declared.Shape.TheVariants.{Closed}
use Rattle.tree_shapes.specs.Shapes.{shape_lines, shape_at, first_in_shape}

module _ (cells : List ℕ) (count i : ℕ) where
  -- the shape of a node whose form is one of ks, all of which stand in row j
  pub shape_is : (form : ℕ) → form ≡ form_in cells count i → (ks : List ℕ) → OneOf ks form → (j : ℕ) → T (within ks (numbers_at (shape_lines (first_at cells count i) (second_at cells count i)) j)) → T (apart_before (shape_lines (first_at cells count i) (second_at cells count i)) j ks)
      → shape_at cells count i ≡ given_at (shape_lines (first_at cells count i) (second_at cells count i)) Closed j
  unfolding shape_at
  shape_is form e ks o j t u = rw (← e) (found (shape_lines (first_at cells count i) (second_at cells count i)) Closed j ks form t u (among ks form o))

  -- the first operand of a node whose form is one of ks, which all have a first place
  pub first_is : (form : ℕ) → form ≡ form_in cells count i → (ks : List ℕ) → OneOf ks form → T (within ks (numbers_of (shape_lines (first_at cells count i) (second_at cells count i)))) → first_in_shape (shape_at cells count i) ≡ first_at cells count i
  unfolding shape_at shape_lines first_in_shape
  first_is form e ks o t =
      rw (← e)
      (found_any (λ (s : Shape). first_in_shape s ≡ first_at cells count i) (shape_lines (first_at cells count i) (second_at cells count i)) Closed ks form t (refl, (refl, (refl, (refl, (refl, (refl, tt)))))) (among ks form o))
