-- "Written for a plain tree are its nodes' tokens in the grammar's order: a Paren puts 35 and 36 round its operand,
-- and each expression whose row has an outer pair stands between a further 35 and 36."
use Rattle.std.specs.Prelude.{Bool, true, false, not, ◌&&◌, List, [], ◌∷◌, ◌++◌, ℕ, ◌*◌, ◌-◌, eqb, get_or}
use Rattle.laws.specs.Choice.{Line, line, lookup, pick, is_one_of}
use Rattle.tree.specs.Sizes.{row_cells}
use Rattle.tree.specs.Forms.{expr_assign, expr_await, expr_binary, expr_call, expr_cast, expr_field, expr_index, expr_lit, expr_method_call, expr_paren, expr_path, expr_reference, expr_struct, expr_try, expr_unary, type_infer, type_never, type_path, type_ptr, type_reference, link}
use Rattle.tree.specs.Table.{first_column, second_column}
use Rattle.tree.specs.Trees.{Label, Tree, none, node, operand_at}
use Rattle.tree.specs.Walks.{is_there}
use Rattle.token_grammar.specs.Tokens.{Token, operator, sub, mul, bit_and, lt, gt, assign, bang, and_mut, as_token, name_token, literal_token, dot, left_paren, right_paren, left_bracket, right_bracket, comma_token, question, star_const, star_mut, underscore, numbered_member, await, struct_token, operator_of}

-- A node's own tokens: before its first operand, between the two, and behind the second.
pub record Signs : Type 0 where
  pub before : List Token
  pub between : List Token
  pub behind : List Token

abbrev pub signs : List Token → List Token → List Token → Signs
signs before between behind = record { before = before; between = between; behind = behind }

-- the first token for detail 0, the second for detail 1
abbrev pub by_detail : ℕ → Token → Token → Token
by_detail detail zero one = pick (eqb detail 0) zero one

-- "Unary: Deref, Not, Neg as 0 to 2."
abbrev pub unary : ℕ → Token
unary detail = pick (eqb detail 0) (operator mul) (by_detail (detail - 1) bang (operator sub))

-- a comma where another link follows
abbrev pub comma : Bool → List Token
comma more = pick more (comma_token ∷ []) []

-- Document 02, Paper 4: "A written plain tree reads back with each symbol where it was. Symbols stand on tokens 32, 33 and 44."
unfoldable pub sign_lines : ℕ → ℕ → Bool → List (Line Signs)
sign_lines detail symbol second =
    line (expr_path ∷ []) (signs (name_token symbol ∷ []) [] []) ∷
    line (expr_lit ∷ []) (signs (literal_token symbol ∷ []) [] []) ∷
    line (expr_paren ∷ []) (signs (left_paren ∷ []) (right_paren ∷ []) []) ∷
    line (expr_unary ∷ []) (signs (unary detail ∷ []) [] []) ∷
    line (expr_reference ∷ type_reference ∷ []) (signs (by_detail detail (operator bit_and) and_mut ∷ []) [] []) ∷
    line (expr_binary ∷ []) (signs [] (operator (operator_of detail) ∷ []) []) ∷
    line (expr_assign ∷ []) (signs [] (operator assign ∷ []) []) ∷
    line (expr_cast ∷ []) (signs [] (as_token ∷ []) []) ∷
    line (expr_field ∷ []) (signs [] (dot ∷ by_detail detail (name_token symbol) (numbered_member symbol) ∷ []) []) ∷
    line (expr_index ∷ []) (signs [] (left_bracket ∷ []) (right_bracket ∷ [])) ∷
    line (expr_call ∷ []) (signs [] (left_paren ∷ []) (right_paren ∷ [])) ∷
    line (expr_method_call ∷ []) (signs [] (dot ∷ name_token symbol ∷ left_paren ∷ []) (right_paren ∷ [])) ∷
    line (expr_try ∷ []) (signs [] (question ∷ []) []) ∷
    line (expr_await ∷ []) (signs [] (dot ∷ await ∷ []) []) ∷
    line (type_path ∷ []) (pick (eqb detail 2) (signs (name_token symbol ∷ operator lt ∷ []) [] (operator gt ∷ [])) (signs (name_token symbol ∷ []) [] [])) ∷
    line (type_ptr ∷ []) (signs (by_detail detail star_const star_mut ∷ []) [] []) ∷
    line (type_infer ∷ []) (signs (underscore ∷ []) [] []) ∷
    line (type_never ∷ []) (signs (bang ∷ []) [] []) ∷
    line (link ∷ []) (signs [] (comma second) []) ∷
    line (expr_struct ∷ []) (signs (struct_token ∷ []) [] []) ∷
    []

unfoldable pub signs_of : Label → Tree → Signs
signs_of l second = lookup (sign_lines l.detail l.symbol (is_there second)) (signs [] [] []) l.form

-- what `inside` puts before a rest, within a further `(` and `)` where there is a pair
abbrev pub within : Bool → (List Token → List Token) → List Token → List Token
within true inside rest = left_paren ∷ inside (right_paren ∷ rest)
within false inside rest = inside rest

-- The tokens of the tree at node i, and then `rest`; `pair` says of each node number whether it has a pair.
unfoldable pub tokens_at : List ℕ → ℕ → (ℕ → Bool) → ℕ → Tree → List Token → List Token
tokens_at cells count pair i none rest = rest
tokens_at cells count pair i (node l a b) rest =
    within
    (pair i)
    (λ end.
    (signs_of l b).before
    ++ tokens_at cells count pair (operand_at cells count i first_column) a
    ((signs_of l b).between ++ tokens_at cells count pair (operand_at cells count i second_column) b ((signs_of l b).behind ++ end)))
    rest

-- whether node i's row has an outer pair: "Pair: 1 outer pair .., plus 2 for the inner pair"
unfoldable pub has_pair : List ℕ → ℕ → Bool
has_pair rows i = is_one_of (1 ∷ 3 ∷ []) (get_or rows (row_cells * (i - 1)) 0)

-- the pairs but that of node j. "leaving it out removes them and no other token"
unfoldable pub but_at : ℕ → (ℕ → Bool) → ℕ → Bool
but_at j pair i = not (eqb i j) && pair i
