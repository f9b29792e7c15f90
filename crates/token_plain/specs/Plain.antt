-- Document 01, 'Plain tokens and their grammar': which nodes, and which tables, are plain.
use Rattle.std.specs.Prelude.{Bool, not, ◌&&◌, ◌||◌, List, [], ◌∷◌, ℕ, eqb}
use Rattle.laws.specs.Choice.{is_one_of}
use Rattle.laws.specs.Each.{some}
use Rattle.tree.specs.Forms.{expr_assign, expr_await, expr_binary, expr_call, expr_cast, expr_field, expr_index, expr_lit, expr_method_call, expr_paren, expr_path, expr_reference, expr_struct, expr_try, expr_unary, type_infer, type_never, type_path, type_ptr, type_reference, link}
use Rattle.tree.specs.Trees.{Label, label_at}

-- Document 02, Paper 5: "Struct becomes plain".
-- "Plain: Path, Lit, Paren, Unary, Reference, Binary, Assign, Cast, Field, Index, Call, MethodCall, Try, Await, ..
abbrev pub plain_expressions : List ℕ
plain_expressions =
    expr_path ∷ expr_lit ∷ expr_paren ∷ expr_unary ∷ expr_reference ∷ expr_binary ∷ expr_assign ∷ expr_cast ∷ expr_field ∷ expr_index ∷ expr_call ∷ expr_method_call ∷ expr_try ∷ expr_await ∷ expr_struct ∷ []

-- .. types Path (1 or 2), Ptr, Reference, Infer, Never; and the links of their lists."
abbrev pub plain_types : List ℕ
plain_types = type_ptr ∷ type_reference ∷ type_infer ∷ type_never ∷ link ∷ []

-- "no attributes"
unfoldable pub is_plain : Label → Bool
is_plain l =
    eqb l.attributes 0
    && (is_one_of plain_expressions l.form || (is_one_of plain_types l.form || (eqb l.form type_path && is_one_of (1 ∷ 2 ∷ []) l.detail)))

-- a table each of whose nodes is plain. In an accepted table each node belongs to the tree
unfoldable pub plain_table : ℕ → List ℕ → Bool
plain_table count cells = not (some (λ i. not (is_plain (label_at cells i))) count)
