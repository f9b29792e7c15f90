-- prettyplease's precedence.rs: the precedences, their order, and what they are for operators and expressions.
use Rattle.std.specs.Prelude.{Bool, not, ◌&&◌, List, [], ◌∷◌, ℕ, eqb, leb, ltb}
use Rattle.laws.specs.Choice.{pick, Line, line, lookup}
use Rattle.tree.specs.Forms.{expr_assign, expr_binary, expr_break, expr_cast, expr_closure, expr_group, expr_let, expr_range, expr_raw_addr, expr_reference, expr_return, expr_unary, expr_verbatim, expr_yield, an_expression, class_of}
use Rattle.tree.specs.Trees.{Label, Tree}
use Rattle.tree.specs.Walks.{Ask, answer, first, is_there, walk}
use Rattle.precedence.specs.declared.Precedence.{Precedence}
use Rattle.precedence.specs.declared.Lean.{Lean}
use Rattle.precedence.specs.declared.Lean.TheVariants.{Left, Right, Neither}
use Rattle.precedence.specs.declared.Binding.{Binding}
use Rattle.precedence.specs.declared.Precedence.TheVariants.{Jump, Assign, Range, Or, And, Let, Compare, BitOr, BitXor, BitAnd, Shift, Sum, Product, Cast, Prefix, Unambiguous}

-- document 01: "Precedence numbers follow the enum's order: Jump 0 to Unambiguous 15."
abbrev pub rank_of : Precedence → ℕ
rank_of Jump = 0
rank_of Assign = 1
rank_of Range = 2
rank_of Or = 3
rank_of And = 4
rank_of Let = 5
rank_of Compare = 6
rank_of BitOr = 7
rank_of BitXor = 8
rank_of BitAnd = 9
rank_of Shift = 10
rank_of Sum = 11
rank_of Product = 12
rank_of Cast = 13
rank_of Prefix = 14
rank_of Unambiguous = 15

-- the derived order and equality: p < q, p <= q and p == q
abbrev pub below : Precedence → Precedence → Bool
below p q = ltb (rank_of p) (rank_of q)

abbrev pub at_most : Precedence → Precedence → Bool
at_most p q = leb (rank_of p) (rank_of q)

abbrev pub same : Precedence → Precedence → Bool
same p q = eqb (rank_of p) (rank_of q)

-- ---- operators, by document 01's numbers. Document 02: "The answer for an operator shall hold its level and which way it leans"

-- the enum's order, as for precedences
abbrev pub lean_number : Lean → ℕ
lean_number Left = 0
lean_number Right = 1
lean_number Neither = 2

abbrev pub binding : Precedence → Lean → Binding
binding p s = record { level = p; lean = s }

-- "left, right (assigning operators) or neither (comparisons)"; the levels are of_binop's
unfoldable pub operators : List (Line Binding)
operators =
    -- Add, Sub
    line (0 ∷ 1 ∷ []) (binding Sum Left) ∷
    -- Mul, Div, Rem
    line (2 ∷ 3 ∷ 4 ∷ []) (binding Product Left) ∷
    line (5 ∷ []) (binding And Left) ∷
    line (6 ∷ []) (binding Or Left) ∷
    line (7 ∷ []) (binding BitXor Left) ∷
    line (8 ∷ []) (binding BitAnd Left) ∷
    line (9 ∷ []) (binding BitOr Left) ∷
    -- Shl, Shr
    line (10 ∷ 11 ∷ []) (binding Shift Left) ∷
    -- Eq, Lt, Le, Ne, Ge, Gt
    line (12 ∷ 13 ∷ 14 ∷ 15 ∷ 16 ∷ 17 ∷ []) (binding Compare Neither) ∷
    -- the ten assigning operators
    line (18 ∷ 19 ∷ 20 ∷ 21 ∷ 22 ∷ 23 ∷ 24 ∷ 25 ∷ 26 ∷ 27 ∷ []) (binding Assign Right) ∷
    []

-- past them the crate's MIN
abbrev pub binop_binding : ℕ → Binding
binop_binding op = lookup operators (binding Jump Left) op

-- "Range and `=`, which are no Binary operators, get the same kind of answer: neither, and right."
abbrev pub assigns : Binding
assigns = binding Assign Right

abbrev pub ranges : Binding
ranges = binding Range Neither

-- any of them: 28 is `=`, 29 Range's
unfoldable pub binding_of : ℕ → Binding
binding_of op = lookup (line (28 ∷ []) assigns ∷ line (29 ∷ []) ranges ∷ []) (binop_binding op) op

-- Precedence::of_binop
unfoldable pub of_binop : ℕ → Precedence
of_binop op = (binop_binding op).level

-- ---- expressions

-- prefix_attrs: "prefix precedence needs 2", some outer attribute
unfoldable pub prefix_attrs : ℕ → Precedence
prefix_attrs attributes = pick (eqb attributes 2) Prefix Unambiguous

-- Precedence::of, by form
unfoldable pub of_lines : Label → Tree → Tree → List (Line (Ask Precedence))
of_lines l a b =
    -- without a written output, or with one
    line (expr_closure ∷ []) (answer (pick (eqb l.detail 0) Jump (prefix_attrs l.attributes))) ∷
    -- with a value, or without
    line (expr_break ∷ expr_return ∷ expr_yield ∷ []) (answer (pick (is_there a) Jump Unambiguous)) ∷
    line (expr_assign ∷ []) (answer Assign) ∷
    line (expr_range ∷ []) (answer Range) ∷
    line (expr_binary ∷ []) (answer (of_binop l.detail)) ∷
    line (expr_let ∷ []) (answer Let) ∷
    line (expr_cast ∷ []) (answer Cast) ∷
    line (expr_raw_addr ∷ expr_reference ∷ expr_unary ∷ []) (answer Prefix) ∷
    line (expr_group ∷ []) first ∷
    []

-- all other expressions: by their attributes; Verbatim, and what is no expression: Unambiguous
unfoldable pub closed_by : ℕ → ℕ → Precedence
closed_by form attributes = pick (eqb (class_of form) an_expression && not (eqb form expr_verbatim)) (prefix_attrs attributes) Unambiguous

unfoldable pub precedence_of : Tree → Precedence
precedence_of t = walk of_lines (λ l. closed_by l.form l.attributes) Unambiguous t
