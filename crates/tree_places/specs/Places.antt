-- Document 01, 'Operands': what may stand at the two operand places of a node, and when an operand does not fit its place (7).
use Rattle.std.specs.Prelude.{Bool, not, ◌&&◌, ◌||◌, List, [], ◌∷◌, ℕ, eqb, leb}
use Rattle.laws.specs.Choice.{pick, Line, line, lookup}
use Rattle.tree_places.specs.declared.place.Place.{Place}
use Rattle.tree_places.specs.declared.place.Place.TheVariants.{Nothing, Required, Optional, List as ListOf, Item, Next}
use Rattle.tree.specs.Forms.{expr_assign, expr_await, expr_binary, expr_break, expr_call, expr_cast, expr_closure, expr_field, expr_group, expr_index, expr_let, expr_method_call, expr_paren, expr_range, expr_raw_addr, expr_reference, expr_return, expr_try, expr_unary, expr_yield, type_fn_ptr, type_impl_trait, type_path, type_ptr, type_reference, type_trait_object, link, an_expression, a_type, a_link}
use Rattle.tree.specs.Table.{form_at, detail_at, first_at, second_at, class_at}

-- the first place, by form; "All others: none."
unfoldable pub first_places : ℕ → List (Line Place)
first_places detail =
    -- "Assign, Binary, Index: both."
    line (expr_assign ∷ expr_binary ∷ expr_index ∷ []) (Required an_expression) ∷
    -- "Cast: expression, type."
    line (expr_cast ∷ []) (Required an_expression) ∷
    -- "Await, Closure (body), Field, Group, Let, Paren, RawAddr, Reference, Try, Unary: first only"
    line
    (expr_await ∷ expr_closure ∷ expr_field ∷ expr_group ∷ expr_let ∷ expr_paren ∷ expr_raw_addr ∷ expr_reference ∷ expr_try ∷ expr_unary ∷ [])
    (Required an_expression) ∷
    -- "also types Ptr and Reference"
    line (type_ptr ∷ type_reference ∷ []) (Required a_type) ∷
    -- "Break, Return, Yield, and FnPtr (output): optional first."
    line (expr_break ∷ expr_return ∷ expr_yield ∷ []) (Optional an_expression) ∷
    line (type_fn_ptr ∷ []) (Optional a_type) ∷
    -- "Range: each optional."
    line (expr_range ∷ []) (Optional an_expression) ∷
    -- "Call, MethodCall: first"
    line (expr_call ∷ expr_method_call ∷ []) (Required an_expression) ∷
    -- "Types Path, ImplTrait and TraitObject with 3: optional first, the output type."
    line (type_path ∷ type_impl_trait ∷ type_trait_object ∷ []) (pick (eqb detail 3) (Optional a_type) Nothing) ∷
    -- "56 is a list link: first an item"
    line (link ∷ []) Item ∷
    []

unfoldable pub first_place : ℕ → ℕ → Place
first_place form detail = lookup (first_places detail) Nothing form

-- the second place, by form; "All others: none."
unfoldable pub second_places : ℕ → List (Line Place)
second_places detail =
    -- "Assign, Binary, Index: both."
    line (expr_assign ∷ expr_binary ∷ expr_index ∷ []) (Required an_expression) ∷
    -- "Cast: expression, type."
    line (expr_cast ∷ []) (Required a_type) ∷
    -- "Range: each optional."
    line (expr_range ∷ []) (Optional an_expression) ∷
    -- "Call, MethodCall: first, and second an expression list or 0."
    line (expr_call ∷ expr_method_call ∷ []) (ListOf an_expression) ∷
    -- "Path type with 2: second a type list or 0."
    line (type_path ∷ []) (pick (eqb detail 2) (ListOf a_type) Nothing) ∷
    -- "second the next link or 0"
    line (link ∷ []) Next ∷
    []

unfoldable pub second_place : ℕ → ℕ → Place
second_place form detail = lookup (second_places detail) Nothing form

-- ---- when an operand does not fit

-- o is a node of another class. "An operand above the count has no class"
unfoldable pub wrong_class : List ℕ → ℕ → ℕ → ℕ → Bool
wrong_class cells count class o = leb o count && not (eqb (class_at cells o) class)

-- o is no link, or its item is of another class. "In a list the first link's item must be of the list's class"
unfoldable pub wrong_list : List ℕ → ℕ → ℕ → ℕ → Bool
wrong_list cells count class o = leb o count && (not (eqb (class_at cells o) a_link) || wrong_class cells count class (first_at cells o))

-- an item is an expression or a type
unfoldable pub wrong_item : List ℕ → ℕ → ℕ → Bool
wrong_item cells count o = wrong_class cells count an_expression o && wrong_class cells count a_type o

-- "and each next link's item of the class of the item before it"; an item above the count has no class to compare with
unfoldable pub wrong_next : List ℕ → ℕ → ℕ → ℕ → Bool
wrong_next cells count item o =
    pick (leb item count) (wrong_list cells count (class_at cells item) o) (wrong_class cells count a_link o)

-- the number o at a place of a node whose first number is f, a link's item: "An operand is absent where required, present where forbidden, or of the wrong class"
unfoldable pub wrong_at : List ℕ → ℕ → ℕ → Place → ℕ → Bool
wrong_at cells count f Nothing o = not (eqb o 0)
wrong_at cells count f (Required class) o = eqb o 0 || wrong_class cells count class o
wrong_at cells count f (Optional class) o = not (eqb o 0) && wrong_class cells count class o
wrong_at cells count f (ListOf class) o = not (eqb o 0) && wrong_list cells count class o
wrong_at cells count f Item o = eqb o 0 || wrong_item cells count o
wrong_at cells count f Next o = not (eqb o 0) && wrong_next cells count f o

-- 7, of a node with these numbers: at its first place, or at its second
abbrev pub wrong_operands : List ℕ → ℕ → ℕ → ℕ → ℕ → ℕ → Bool
wrong_operands cells count form detail f s =
    wrong_at cells count f (first_place form detail) f || wrong_at cells count f (second_place form detail) s

-- and of node i
unfoldable pub bad_operands : List ℕ → ℕ → ℕ → Bool
bad_operands cells count i = wrong_operands cells count (form_at cells i) (detail_at cells i) (first_at cells i) (second_at cells i)
