-- The pairs of a plain tree by levels, handed down from the root. Nothing here is to be believed: proofs/Pairs says that they are those of the rows.
use Rattle.std.specs.Prelude.{Bool, false, ◌&&◌, ◌||◌, List, [], ◌∷◌, ◌++◌, ℕ, suc, ◌+◌, ◌*◌, ◌/◌, ◌%◌, eqb, ltb}
use Rattle.bools.specs.Bits.{bit_of}
use Rattle.laws.specs.Choice.{pick, Line, line, lookup}
use Rattle.tree.specs.Forms.{expr_assign, expr_await, expr_binary, expr_call, expr_cast, expr_field, expr_index, expr_method_call, expr_reference, expr_struct, expr_try, expr_unary}
use Rattle.tree.specs.Trees.{Label, Tree, none, node}
use Rattle.classify.specs.Classify.{trailing_path}
use Rattle.token_grammar.specs.Tokens.{Operator, assign, Token, operator_of}
use Rattle.token_grammar.specs.Levels.{casts, prefixes, postfixes, kind, level, leans_right, before, after}
use Rattle.token_grammar.specs.Grammar.{opens_arguments}
use Rattle.token_plain.specs.Written.{signs_of, within}

-- ---- places

-- Where an expression stands, in one number: the lowest strength that it must have there, `opening` more where `<` or `<<` stands straight after it, `conditional` more in a condition.
abbrev pub opening : ℕ
opening = 32

abbrev pub conditional : ℕ
conditional = 64

abbrev pub place : ℕ → Bool → Bool → ℕ
place lowest opens condition = lowest + (opening * bit_of opens + conditional * bit_of condition)

unfoldable pub lowest_in : ℕ → ℕ
lowest_in p = p % opening

unfoldable pub opens_in : ℕ → Bool
opens_in p = eqb (p / opening % 2) 1

unfoldable pub condition_in : ℕ → Bool
condition_in p = eqb (p / conditional) 1

-- ---- strengths

-- what may be called must be stronger than a postfix form, as all others are but a named Field
abbrev pub callable : ℕ
callable = suc (level postfixes)

-- stronger than any place asks for
abbrev pub closed : ℕ
closed = opening

-- by a node's detail; a Cast that ends in a type name before `<` or `<<` is too weak for any place
unfoldable pub strength_lines : Bool → ℕ → List (Line ℕ)
strength_lines weak detail =
    line (expr_binary ∷ []) (level (kind (operator_of detail))) ∷
    line (expr_assign ∷ []) (level (kind assign)) ∷
    line (expr_cast ∷ []) (pick weak 0 (level casts)) ∷
    line (expr_unary ∷ expr_reference ∷ []) (level prefixes) ∷
    line (expr_field ∷ []) (pick (eqb detail 0) (level postfixes) closed) ∷
    []

-- b is the node's second operand
unfoldable pub strength_of : Bool → Label → Tree → ℕ
strength_of opens l b = lookup (strength_lines (opens && trailing_path b) l.detail) closed l.form

-- whether the node gets a pair at a place: a Struct in a condition, or what is weaker than the place allows
unfoldable pub needs_by : ℕ → Bool → Bool → Label → Tree → Bool
needs_by lowest opens condition l b = (condition && eqb l.form expr_struct) || ltb (strength_of opens l b) lowest

unfoldable pub needs : ℕ → Label → Tree → Bool
needs p l b = needs_by (lowest_in p) (opens_in p) (condition_in p) l b

-- ---- what is handed down

-- right of an operator. An assignment's level is the lowest, so that nothing is too weak there
abbrev pub lowest_after : Operator → ℕ
lowest_after o = pick (leans_right (kind o)) 0 (suc (level (kind o)))

-- what the first operand gets, by what holds within the node's own pair if it has one
unfoldable pub first_lines : Bool → Bool → ℕ → List (Line ℕ)
first_lines opens condition detail =
    line (expr_binary ∷ []) (place (before (kind (operator_of detail))) (opens_arguments (operator_of detail)) condition) ∷
    line (expr_assign ∷ []) (place (before (kind assign)) false condition) ∷
    line (expr_cast ∷ []) (place (before casts) false condition) ∷
    line (expr_unary ∷ expr_reference ∷ []) (place (after prefixes) opens condition) ∷
    line (expr_await ∷ expr_field ∷ expr_index ∷ expr_method_call ∷ expr_try ∷ []) (place (before postfixes) false condition) ∷
    line (expr_call ∷ []) (place callable false condition) ∷
    []

unfoldable pub first_by : Bool → Bool → Label → ℕ
first_by opens condition l = lookup (first_lines opens condition l.detail) 0 l.form

-- and the second
unfoldable pub second_lines : Bool → Bool → ℕ → List (Line ℕ)
second_lines opens condition detail =
    line (expr_binary ∷ []) (place (lowest_after (operator_of detail)) opens condition) ∷
    line (expr_assign ∷ []) (place (lowest_after assign) opens condition) ∷
    []

unfoldable pub second_by : Bool → Bool → Label → ℕ
second_by opens condition l = lookup (second_lines opens condition l.detail) 0 l.form

-- inside a pair nothing of the place holds any more
abbrev pub kept : Bool → Bool → Bool
kept pair flag = pick pair false flag

abbrev pub first_from : ℕ → Bool → Label → ℕ
first_from p pair l = first_by (kept pair (opens_in p)) (kept pair (condition_in p)) l

abbrev pub second_from : ℕ → Bool → Label → ℕ
second_from p pair l = second_by (kept pair (opens_in p)) (kept pair (condition_in p)) l

-- ---- a tree at a place

-- its tokens, and then `rest`
unfoldable pub tokens_by : ℕ → Tree → List Token → List Token
tokens_by p none rest = rest
tokens_by p (node l a b) rest =
    within
    (needs p l b)
    (λ end.
    (signs_of l b).before
    ++ tokens_by (first_from p (needs p l b) l) a
    ((signs_of l b).between ++ tokens_by (second_from p (needs p l b) l) b ((signs_of l b).behind ++ end)))
    rest

-- how many pairs they have
unfoldable pub pairs_by : ℕ → Tree → ℕ
pairs_by p none = 0
pairs_by p (node l a b) = bit_of (needs p l b) + (pairs_by (first_from p (needs p l b) l) a + pairs_by (second_from p (needs p l b) l) b)
