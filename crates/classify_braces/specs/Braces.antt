-- prettyplease's classify.rs: expr_trailing_brace, on trees.
use Rattle.std.specs.Prelude.{Bool, true, false, List, [], ◌∷◌, ℕ, eqb}
use Rattle.laws.specs.Choice.{pick, Line, line}
use Rattle.tree.specs.Forms.{expr_assign, expr_binary, expr_block, expr_break, expr_cast, expr_closure, expr_const, expr_for_loop, expr_group, expr_if, expr_let, expr_loop, expr_macro, expr_match, expr_range, expr_raw_addr, expr_reference, expr_return, expr_struct, expr_try_block, expr_unary, expr_unsafe, expr_verbatim, expr_while, expr_yield, type_fn_ptr, type_impl_trait, type_macro, type_path, type_ptr, type_reference, type_trait_object, type_verbatim}
use Rattle.tree.specs.Trees.{Label, Tree}
use Rattle.tree.specs.Walks.{Ask, answer, first, second, walk}

-- no other definition names this form
abbrev expr_async : ℕ
expr_async = 3

-- ---- expr_trailing_brace: "Whether the expression's last token is `}`."; tokens_trailing_brace is a detail

-- last_type_in_path there: only the output of parenthesised arguments goes on
unfoldable pub brace_in_path : ℕ → Ask Bool
brace_in_path detail = pick (eqb detail 3) first (answer false)

-- last_type_in_bounds there: a path, or tokens that end in braces
unfoldable pub brace_in_bounds : ℕ → Ask Bool
brace_in_bounds detail = pick (eqb detail 3) first (answer (eqb detail 7))

unfoldable pub type_brace_lines : Label → Tree → Tree → List (Line (Ask Bool))
type_brace_lines l a b =
    line (type_fn_ptr ∷ type_ptr ∷ type_reference ∷ []) first ∷
    line (type_impl_trait ∷ type_trait_object ∷ []) (brace_in_bounds l.detail) ∷
    line (type_macro ∷ []) (answer (eqb l.detail 2)) ∷
    line (type_path ∷ []) (brace_in_path l.detail) ∷
    line (type_verbatim ∷ []) (answer (eqb l.detail 1)) ∷
    []

-- type_trailing_brace
unfoldable pub type_trailing_brace : Tree → Bool
type_trailing_brace t = walk type_brace_lines (λ l. false) false t

unfoldable pub brace_lines : Label → Tree → Tree → List (Line (Ask Bool))
brace_lines l a b =
    line
    (expr_async ∷ expr_block ∷ expr_const ∷ expr_for_loop ∷ expr_if ∷ expr_loop ∷ expr_match ∷ expr_struct ∷ expr_try_block ∷ expr_unsafe ∷ expr_while ∷ [])
    (answer true) ∷
    line (expr_assign ∷ expr_binary ∷ expr_range ∷ []) second ∷
    line
    (expr_break ∷ expr_closure ∷ expr_group ∷ expr_let ∷ expr_raw_addr ∷ expr_reference ∷ expr_return ∷ expr_unary ∷ expr_yield ∷ [])
    first ∷
    line (expr_cast ∷ []) (answer (type_trailing_brace b)) ∷
    line (expr_macro ∷ []) (answer (eqb l.detail 2)) ∷
    line (expr_verbatim ∷ []) (answer (eqb l.detail 1)) ∷
    []

unfoldable pub trailing_brace : Tree → Bool
trailing_brace t = walk brace_lines (λ l. false) false t
