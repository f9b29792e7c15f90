-- Document 01, 'Reply numbers': the refusals of a context, a count and a node table, each by the sentence above it, and the first that applies.
use Rattle.std.specs.Prelude.{Bool, not, ◌&&◌, ◌||◌, List, [], ◌∷◌, ◌≡◌, ℕ, zero, suc, ◌+◌, ◌*◌, eqb, ltb, leb, length}
use Rattle.laws.specs.Choice.{pick, is_one_of}
use Rattle.laws.specs.Each.{some}
use Rattle.tree.specs.Sizes.{node_cells, most_nodes, most_levels}
use Rattle.tree.specs.Forms.{expr_block, expr_closure, type_impl_trait, type_path, type_trait_object, an_expression, allowed}
use Rattle.tree.specs.Table.{form_at, attributes_at, detail_at, first_at, second_at, symbol_at, class_at}
use Rattle.tree.specs.Trees.{tree_at, levels}
use Rattle.tree_places.specs.Places.{bad_operands}

-- 3. "The context is above 3."
unfoldable pub refusal3 : ℕ → Bool
refusal3 context = ltb 3 context

-- 4. "The node count is 0 or above 4,096, or a lent table is shorter than that many nodes." `cells` is the lent table's length
unfoldable pub refusal4 : ℕ → ℕ → Bool
refusal4 count cells = eqb count 0 || (ltb most_nodes count || ltb cells (node_cells * count))

-- 6. "A form, attribute or detail number is not allowed below." Document 02, Paper 4: "A symbol that is not 0 on another form falls under refusal 6"
unfoldable pub bad_numbers : List ℕ → ℕ → Bool
bad_numbers cells i = not (allowed (form_at cells i) (attributes_at cells i) (detail_at cells i) (symbol_at cells i))

unfoldable pub refusal6 : List ℕ → ℕ → Bool
refusal6 cells count = some (bad_numbers cells) count

-- 7. "An operand is absent where required, present where forbidden, or of the wrong class; or node 1 is no expression."
unfoldable pub refusal7 : List ℕ → ℕ → Bool
refusal7 cells count = not (eqb (class_at cells 1) an_expression) || some (bad_operands cells count) count

-- 8. "An operand's number is not above its owner's, is above the count, or some node but 1 is not owned exactly once."
unfoldable pub misplaced : ℕ → ℕ → ℕ → Bool
misplaced count i o = not (eqb o 0) && (leb o i || ltb count o)

unfoldable pub bad_order : List ℕ → ℕ → ℕ → Bool
bad_order cells count i = misplaced count i (first_at cells i) || misplaced count i (second_at cells i)

-- how many operands of the nodes 1 to n are node j
unfoldable pub owners : List ℕ → ℕ → ℕ → ℕ
owners cells zero j = 0
owners cells (suc n) j = owners cells n j + pick (eqb (first_at cells (suc n)) j) 1 0 + pick (eqb (second_at cells (suc n)) j) 1 0

unfoldable pub bad_owner : List ℕ → ℕ → ℕ → Bool
bad_owner cells count j = not (eqb j 1) && not (eqb (owners cells count j) 1)

unfoldable pub refusal8 : List ℕ → ℕ → Bool
refusal8 cells count = some (bad_order cells count) count || some (bad_owner cells count) count

-- 9. "A path type has no segment, or a bound list is empty." Their detail is then 0
abbrev pub empty_numbers : ℕ → ℕ → Bool
empty_numbers form detail = is_one_of (type_impl_trait ∷ type_path ∷ type_trait_object ∷ []) form && eqb detail 0

unfoldable pub empty : List ℕ → ℕ → Bool
empty cells i = empty_numbers (form_at cells i) (detail_at cells i)

unfoldable pub refusal9 : List ℕ → ℕ → Bool
refusal9 cells count = some (empty cells) count

-- 10. "A closure with a written output has a body other than an attribute-free, unlabelled Block."
unfoldable pub plain_block : List ℕ → ℕ → Bool
plain_block cells i = eqb (form_at cells i) expr_block && (eqb (attributes_at cells i) 0 && eqb (detail_at cells i) 0)

abbrev pub bad_output_of : List ℕ → ℕ → ℕ → ℕ → Bool
bad_output_of cells form detail body = eqb form expr_closure && (eqb detail 1 && not (plain_block cells body))

unfoldable pub bad_output : List ℕ → ℕ → Bool
bad_output cells i = bad_output_of cells (form_at cells i) (detail_at cells i) (first_at cells i)

unfoldable pub refusal10 : List ℕ → ℕ → Bool
refusal10 cells count = some (bad_output cells) count

-- 11. "A path from node 1 holds more than 128 nodes, list links not counted."
unfoldable pub refusal11 : List ℕ → ℕ → Bool
refusal11 cells count = ltb most_levels (levels (tree_at cells count 1))

-- ---- the first that applies

-- a refusal's number, and whether it applies
pub record Refusal : Type 0 where
  pub number : ℕ
  pub applies : Bool

abbrev pub refuse : ℕ → Bool → Refusal
refuse n b = record { number = n; applies = b }

-- "0 means done. Otherwise the first that applies is returned"
unfoldable pub first_of : List Refusal → ℕ
first_of [] = 0
first_of (r ∷ rs) = pick r.applies r.number (first_of rs)

-- the refusals of the nodes, in order
unfoldable pub node_refusals : ℕ → List ℕ → List Refusal
node_refusals count cells =
    refuse 6 (refusal6 cells count) ∷
    refuse 7 (refusal7 cells count) ∷
    refuse 8 (refusal8 cells count) ∷
    refuse 9 (refusal9 cells count) ∷
    refuse 10 (refusal10 cells count) ∷
    refuse 11 (refusal11 cells count) ∷
    []

-- the refusal of a context, a count and a table, or 0. "Entries that take a node table run 3, 4 and 6 to 11 on it again."
unfoldable pub refusal : ℕ → ℕ → List ℕ → ℕ
refusal context count cells =
    first_of (refuse 3 (refusal3 context) ∷ refuse 4 (refusal4 count (length cells)) ∷ node_refusals count cells)

-- the same, and after it other refusals: the number of the first that applies, or 0
unfoldable pub refusal_then : ℕ → ℕ → List ℕ → ℕ → ℕ
refusal_then context count cells others = pick (eqb (refusal context count cells) 0) others (refusal context count cells)

-- "A tree is accepted when .. none of 3, 4 and 6 to 11 [applies] to its node table."
abbrev pub Accepted : ℕ → ℕ → List ℕ → Type 0
Accepted context count cells = refusal context count cells ≡ 0
