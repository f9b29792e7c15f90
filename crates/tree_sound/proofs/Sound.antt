-- The rules 6, 7, 9 and 10 of one node, by its label and the trees at its operands; trees all of whose nodes keep them.
use mathlib.Core.Bool.{Bool, true, false, not, ◌&&◌, ◌||◌}
use mathlib.Core.List.{[], ◌∷◌}
use mathlib.Core.Path.{◌≡◌}
use Prim.Native.Nat.{ℕ}
use lib.Dec.{eqb}
use Rattle.laws.specs.Choice.{pick, is_one_of}
use Rattle.tree_places.specs.declared.place.Place.{Place}
use Rattle.tree_places.specs.declared.place.Place.TheVariants.{Nothing, Required, Optional, List as ListOf, Item, Next}
use Rattle.tree_places.specs.Places.{first_place, second_place}
use Rattle.tree_places.specs.Steps.{is_required}
use Rattle.tree.specs.Forms.{expr_block, expr_closure, type_impl_trait, type_path, type_trait_object, an_expression, a_type, a_link, class_of, allowed}
use Rattle.tree.specs.Trees.{Label, Tree, none, node}
use Rattle.tree.specs.Walks.{is_there}

-- the class of the root; none has none, 0
abbrev pub root_class : Tree → ℕ
root_class none = 0
root_class (node l a b) = class_of l.form

-- the class of a link's item
abbrev pub item_class : Tree → ℕ
item_class none = 0
item_class (node l a b) = root_class a

abbrev pub other_class : ℕ → Tree → Bool
other_class class t = not (eqb (root_class t) class)

abbrev pub other_list : ℕ → Tree → Bool
other_list class t = not (eqb (root_class t) a_link) || not (eqb (item_class t) class)

-- a tree that is present at a place of a node whose first operand is f
unfoldable pub other_present : Place → Tree → Tree → Bool
other_present Nothing f t = true
other_present (Required class) f t = other_class class t
other_present (Optional class) f t = other_class class t
other_present (ListOf class) f t = other_list class t
other_present Item f t = other_class an_expression t && other_class a_type t
other_present Next f t = other_list (root_class f) t

-- 7, at one place
unfoldable pub other_at : Place → Tree → Tree → Bool
other_at place f t = pick (is_there t) (other_present place f t) (is_required place)

unfoldable pub other_operands : Label → Tree → Tree → Bool
other_operands l a b = other_at (first_place l.form l.detail) a a || other_at (second_place l.form l.detail) a b

-- 9
unfoldable pub empty_label : Label → Bool
empty_label l = is_one_of (type_impl_trait ∷ type_path ∷ type_trait_object ∷ []) l.form && eqb l.detail 0

-- 6
unfoldable pub bad_label : Label → Bool
bad_label l = not (allowed l.form l.attributes l.detail l.symbol)

-- 10
abbrev pub is_plain_block : Tree → Bool
is_plain_block none = false
is_plain_block (node l a b) = eqb l.form expr_block && (eqb l.attributes 0 && eqb l.detail 0)

unfoldable pub output_broken : Label → Tree → Bool
output_broken l a = eqb l.form expr_closure && (eqb l.detail 1 && not (is_plain_block a))

-- whether a test of a node's label and operands holds at some node of a tree
unfoldable pub some_node : (Label → Tree → Tree → Bool) → Tree → Bool
some_node f none = false
some_node f (node l a b) = f l a b || (some_node f a || some_node f b)

-- no node of a tree breaks 6, 7 or 9
pub record Sound (t : Tree) : Type 0 where
  pub not6 : some_node (λ l a b. bad_label l) t ≡ false
  pub not7 : some_node other_operands t ≡ false
  pub not9 : some_node (λ l a b. empty_label l) t ≡ false
