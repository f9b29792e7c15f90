-- prettyplease's classify.rs, function by function, on trees; expr_trailing_brace is in crate classify_braces.
use Rattle.std.specs.Prelude.{Bool, true, false, not, List, [], ◌∷◌, ℕ, eqb}
use Rattle.laws.specs.Choice.{pick, Line, line}
use Rattle.tree.specs.Forms.{expr_assign, expr_await, expr_binary, expr_block, expr_call, expr_cast, expr_const, expr_field, expr_for_loop, expr_group, expr_if, expr_index, expr_loop, expr_macro, expr_match, expr_method_call, expr_range, expr_try, expr_try_block, expr_unsafe, expr_while, type_fn_ptr, type_impl_trait, type_path, type_ptr, type_reference, type_trait_object}
use Rattle.tree.specs.Trees.{Label, Tree}
use Rattle.tree.specs.Walks.{at_root, Ask, answer, first, walk}

-- ---- requires_comma_to_be_match_arm: all but these; Groups are looked through, whatever attributes they have

unfoldable pub comma_lines : Label → Tree → Tree → List (Line (Ask Bool))
comma_lines l a b =
    line
    (expr_if ∷ expr_match ∷ expr_block ∷ expr_unsafe ∷ expr_while ∷ expr_loop ∷ expr_for_loop ∷ expr_try_block ∷ expr_const ∷ [])
    (answer false) ∷
    line (expr_group ∷ []) first ∷
    []

unfoldable pub requires_comma : Tree → Bool
requires_comma t = walk comma_lines (λ l. true) true t

-- ---- requires_semi_to_be_stmt: a macro call unless it has braces; otherwise the same

unfoldable pub requires_semi : Tree → Bool
requires_semi t = at_root (λ l a b. line (expr_macro ∷ []) (not (eqb l.detail 2)) ∷ []) (requires_comma t) t

-- ---- trailing_unparameterized_path

-- last_type_in_path, by the last segment's arguments: none; in parentheses, with an output perhaps; in angle brackets
unfoldable pub last_type_in_path : ℕ → Ask Bool
last_type_in_path detail = pick (eqb detail 1) (answer true) (pick (eqb detail 3) first (answer false))

-- ImplTrait and TraitObject: last_type_in_bounds. A bound that is a path has the path's detail, the others end the question with no
unfoldable pub path_lines : Label → Tree → Tree → List (Line (Ask Bool))
path_lines l a b =
    line (type_fn_ptr ∷ type_ptr ∷ type_reference ∷ []) first ∷
    line (type_impl_trait ∷ type_path ∷ type_trait_object ∷ []) (last_type_in_path l.detail) ∷
    []

unfoldable pub trailing_path : Tree → Bool
trailing_path t = walk path_lines (λ l. false) false t

-- ---- expr_leading_label: "Whether the expression's first token is the label of a loop/block."

unfoldable pub label_lines : Label → Tree → Tree → List (Line (Ask Bool))
label_lines l a b =
    line (expr_block ∷ expr_for_loop ∷ expr_loop ∷ expr_while ∷ []) (answer (eqb l.detail 1)) ∷
    line
    (expr_assign ∷ expr_await ∷ expr_binary ∷ expr_call ∷ expr_cast ∷ expr_field ∷ expr_index ∷ expr_method_call ∷ expr_range ∷ expr_try ∷ [])
    first ∷
    -- a Group that has attributes, inner or outer, ends the question
    line (expr_group ∷ []) (pick (eqb l.attributes 0) first (answer false)) ∷
    []

unfoldable pub leading_label : Tree → Bool
leading_label t = walk label_lines (λ l. false) false t
