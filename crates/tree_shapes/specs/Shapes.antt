-- The shape of a node. ("a node's shape holds, per place, an operand present or absent")
use Rattle.std.specs.Prelude.{List, [], ◌∷◌, ℕ}
use Rattle.laws.specs.Choice.{Line, line, lookup}
use Rattle.std.specs.Prelude.{Option}
use Rattle.std.specs.Prelude.{None, Some}
use Rattle.tree_shapes.specs.declared.Shape.{Shape}
use Rattle.tree_shapes.specs.declared.Shape.TheVariants.{Closed, One, Two}
use Rattle.tree.specs.Forms.{expr_assign, expr_await, expr_binary, expr_break, expr_call, expr_cast, expr_closure, expr_field, expr_group, expr_index, expr_let, expr_method_call, expr_paren, expr_range, expr_raw_addr, expr_reference, expr_return, expr_try, expr_unary, expr_yield, type_fn_ptr, type_impl_trait, type_path, type_ptr, type_reference, type_trait_object, link}
use Rattle.tree.specs.Table.{first_column, second_column}
use Rattle.tree.specs.Trees.{operand_at}
use Rattle.tree.specs.Operands.{presence, form_in}

-- document 01, 'Operands': the forms that have a place for two operands, and those that have one; all others are closed
unfoldable pub shape_lines : Option ℕ → Option ℕ → List (Line Shape)
shape_lines first second =
    line (expr_assign ∷ expr_binary ∷ expr_call ∷ expr_index ∷ expr_method_call ∷ expr_range ∷ []) (Two first second) ∷
    line (expr_cast ∷ type_path ∷ link ∷ []) (Two first second) ∷
    line
    (expr_await ∷ expr_break ∷ expr_closure ∷ expr_field ∷ expr_group ∷ expr_let ∷ expr_paren ∷ expr_raw_addr ∷ expr_return ∷ expr_try ∷ expr_unary ∷ expr_yield ∷ [])
    (One first) ∷
    line (expr_reference ∷ []) (One first) ∷
    line (type_fn_ptr ∷ type_impl_trait ∷ type_ptr ∷ type_trait_object ∷ []) (One first) ∷
    line (type_reference ∷ []) (One first) ∷
    []

unfoldable pub shape_at : List ℕ → ℕ → ℕ → Shape
shape_at cells count i =
    lookup (shape_lines (presence (operand_at cells count i first_column)) (presence (operand_at cells count i second_column))) Closed (form_in cells count i)

unfoldable pub first_in_shape : Shape → Option ℕ
first_in_shape Closed = None
first_in_shape (One a) = a
first_in_shape (Two a b) = a

unfoldable pub second_in_shape : Shape → Option ℕ
second_in_shape Closed = None
second_in_shape (One a) = None
second_in_shape (Two a b) = b

-- "Operand 0 is absent."
abbrev pub operand_number : Option ℕ → ℕ
operand_number None = 0
operand_number (Some n) = n
