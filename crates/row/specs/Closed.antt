-- precedence.rs, `Precedence::of`: the forms of the arm that ends in prefix_attrs, and Verbatim, are Unambiguous without outer attributes; fixup.rs's `precedence` changes that for none of them (`closed_effective` in proofs/Closed). A Closure, which prefix_attrs answers where it has an output, is none of these.
use Rattle.std.specs.Prelude.{Bool, false, not, List, [], ◌∷◌, ℕ, eqb}
use Rattle.laws.specs.Choice.{Line, line}
use Rattle.tree.specs.Forms.{expr_await, expr_block, expr_call, expr_const, expr_field, expr_for_loop, expr_if, expr_index, expr_lit, expr_loop, expr_macro, expr_match, expr_method_call, expr_paren, expr_path, expr_struct, expr_try, expr_try_block, expr_unsafe, expr_verbatim, expr_while}
use Rattle.tree.specs.Trees.{Label, Tree}
use Rattle.tree.specs.Walks.{at_root}

-- the forms that no other definition names
abbrev expr_array : ℕ
expr_array = 1

abbrev expr_async : ℕ
expr_async = 3

abbrev expr_continue : ℕ
expr_continue = 12

abbrev expr_infer : ℕ
expr_infer = 18

abbrev expr_repeat : ℕ
expr_repeat = 30

abbrev expr_tuple : ℕ
expr_tuple = 35

-- all but the 13 forms that do not close themselves: Assign, Binary, Break, Cast, Closure, Group, Let, Range, RawAddr, Reference, Return, Unary, Yield
abbrev pub closed_forms : List ℕ
closed_forms =
    expr_array ∷
    expr_async ∷
    expr_await ∷
    expr_block ∷
    expr_call ∷
    expr_const ∷
    expr_continue ∷
    expr_field ∷
    expr_for_loop ∷
    expr_if ∷
    expr_index ∷
    expr_infer ∷
    expr_lit ∷
    expr_loop ∷
    expr_macro ∷
    expr_match ∷
    expr_method_call ∷
    expr_paren ∷
    expr_path ∷
    expr_repeat ∷
    expr_struct ∷
    expr_try ∷
    expr_try_block ∷
    expr_tuple ∷
    expr_unsafe ∷
    expr_verbatim ∷
    expr_while ∷
    []

-- without outer attributes, which bind like a prefix
unfoldable pub closed_lines : Label → Tree → Tree → List (Line Bool)
closed_lines l a b = line closed_forms (not (eqb l.attributes 2)) ∷ []

abbrev pub is_closed : Tree → Bool
is_closed t = at_root closed_lines false t
