-- Document 01, 'Marked for proof': P1 to P12 as one table.
use Rattle.std.specs.Prelude.{Bool, true, false, ◌&&◌, List, [], ◌∷◌, ℕ, ◌*◌, ◌-◌, ◌/◌, eqb, length, take, drop, replicate}
use Rattle.tree.specs.Sizes.{node_cells, row_cells}
use Rattle.tree.specs.Forms.{expr_binary, expr_break, expr_call, expr_cast, expr_field, expr_group, expr_loop, expr_match, expr_path, expr_return, expr_struct, type_path, link}
use Rattle.expr.specs.declared.order.CalleeOrder.TheVariants.{Ours}
use Rattle.row_walk.specs.Walk.{decided, rows_after}

-- what is expected of a node: its whole row, or its pair
pub data Expected : Type 0 where
  row : List ℕ → Expected
  pair : ℕ → Expected

pub record Case : Type 0 where
  pub context : ℕ
  pub cells : List ℕ
  pub node : ℕ
  pub expected : Expected

abbrev case : ℕ → List ℕ → ℕ → Expected → Case
case context cells node expected = record { context = context; cells = cells; node = node; expected = expected }

-- ---- whether a case holds: the reply is 0, and the node's cells are as expected, in a buffer of just the length needed

abbrev pub count : Case → ℕ
count k = length k.cells / node_cells

-- a buffer that holds no row before
abbrev blank : ℕ → List ℕ
blank n = replicate n 99

abbrev pub row_at : Case → List ℕ
row_at k = take row_cells (drop (row_cells * (k.node - 1)) (rows_after Ours k.context (count k) k.cells (blank (row_cells * count k))))

abbrev same : List ℕ → List ℕ → Bool
same [] [] = true
same [] (n ∷ ns) = false
same (m ∷ ms) [] = false
same (m ∷ ms) (n ∷ ns) = eqb m n && same ms ns

abbrev meets : List ℕ → Expected → Bool
meets cells (row expected) = same cells expected
meets cells (pair expected) = same (take 1 cells) (expected ∷ [])

abbrev pub holds : Case → Bool
holds k = eqb (decided k.context (count k) k.cells (row_cells * count k)) 0 && meets (row_at k) k.expected

abbrev pub all_hold : List Case → Bool
all_hold [] = true
all_hold (k ∷ ks) = holds k && all_hold ks

-- ---- the trees

-- a node's numbers before those of the nodes after it. Document 02, Paper 4: "In the file of 01's listing each node gains a 0", the symbol
abbrev n : ℕ → ℕ → ℕ → ℕ → ℕ → List ℕ → List ℕ
n form attributes detail first second rest = form ∷ attributes ∷ detail ∷ first ∷ second ∷ 0 ∷ rest

abbrev name : List ℕ → List ℕ
name rest = n expr_path 0 0 0 0 rest

-- a binary operator over nodes 2 and 3
abbrev operator : ℕ → List ℕ → List ℕ
operator op rest = n expr_binary 0 op 2 3 rest

-- (x op y) op' z, and x op (y op' z)
abbrev left_nested : ℕ → ℕ → List ℕ
left_nested outer inner = operator outer (n expr_binary 0 inner 4 5 (name (name (name []))))

abbrev right_nested : ℕ → ℕ → List ℕ
right_nested outer inner = operator outer (name (n expr_binary 0 inner 4 5 (name (name []))))

-- (a as T) op b, with a last segment of T that has no arguments, or type arguments
abbrev cast_before : ℕ → List ℕ
cast_before op = operator op (n expr_cast 0 0 4 5 (name (name (n type_path 0 1 0 0 []))))

abbrev cast_with_arguments : ℕ → List ℕ
cast_with_arguments op = operator op (n expr_cast 0 0 4 5 (name (name (n type_path 0 2 0 6 (n link 0 0 7 0 (n type_path 0 1 0 0 []))))))

abbrev sum_with_cast : List ℕ
sum_with_cast = operator 13 (n expr_binary 0 0 4 5 (name (name (n expr_cast 0 0 6 7 (name (n type_path 0 1 0 0 []))))))

abbrev call_of_field : ℕ → List ℕ
call_of_field member = n expr_call 0 0 2 0 (n expr_field 0 member 3 0 (name []))

abbrev return_before : ℕ → List ℕ
return_before op = operator op (n expr_return 0 0 0 0 (name []))

abbrev break_over_group : ℕ → List ℕ
break_over_group attributes = n expr_break 0 0 2 0 (n expr_group attributes 0 3 0 (n expr_loop 0 1 0 0 []))

-- ---- P7 for all pairs of operators

-- Eq Lt Le Ne Ge Gt
abbrev comparisons : List ℕ
comparisons = 12 ∷ 13 ∷ 14 ∷ 15 ∷ 16 ∷ 17 ∷ []

-- an operator over each inner one, on the left and on the right, before other cases
abbrev over_each : ℕ → List ℕ → List Case → List Case
over_each outer [] rest = rest
over_each outer (inner ∷ others) rest = case 0 (left_nested outer inner) 2 (pair 1) ∷ case 0 (right_nested outer inner) 3 (pair 1) ∷ over_each outer others rest

-- each outer operator over each inner one
abbrev every_pair : List ℕ → List ℕ → List Case → List Case
every_pair [] inners rest = rest
every_pair (outer ∷ others) inners rest = over_each outer inners (every_pair others inners rest)

-- ---- the table

abbrev pub cases : List Case
cases =
    -- P1 "the listing above": (a + b) * c
    case 0 (left_nested 2 0) 1 (row (0 ∷ 12 ∷ 0 ∷ 0 ∷ 0 ∷ [])) ∷
    case 0 (left_nested 2 0) 2 (row (1 ∷ 11 ∷ 0 ∷ 12 ∷ 384 ∷ [])) ∷
    case 0 (left_nested 2 0) 3 (row (0 ∷ 15 ∷ 12 ∷ 0 ∷ 0 ∷ [])) ∷
    case 0 (left_nested 2 0) 4 (row (0 ∷ 15 ∷ 0 ∷ 11 ∷ 256 ∷ [])) ∷
    case 0 (left_nested 2 0) 5 (row (0 ∷ 15 ∷ 11 ∷ 0 ∷ 0 ∷ [])) ∷
    -- P2 "`a - (b - c)` keeps its pair; `(a - b) - c` gets none."
    case 0 (right_nested 1 1) 3 (pair 1) ∷
    case 0 (left_nested 1 1) 2 (pair 0) ∷
    -- P3 "Cast to a bare path left of `<`: pair; left of `<=`: none."
    case 0 (cast_before 13) 2 (pair 1) ∷
    case 0 (cast_before 14) 2 (pair 0) ∷
    -- P4 "argument list `T<A>` before `<`: none."
    case 0 (cast_with_arguments 13) 2 (pair 0) ∷
    -- P5 "`x + (a as T) < b`: the pair stands round the cast."
    case 0 sum_with_cast 2 (pair 0) ∷
    case 0 sum_with_cast 5 (pair 1) ∷
    -- P6 "Call of a named Field: pair; of a numbered one: none."
    case 0 (call_of_field 0) 2 (pair 1) ∷
    case 0 (call_of_field 1) 2 (pair 0) ∷
    -- P7 "comparison under comparison, either side: pair."
    every_pair comparisons comparisons (
    -- P8 "context 1, Match left of `+`: pair; Match under Field: none."
    case 1 (operator 0 (n expr_match 0 0 0 0 (name []))) 2 (pair 1) ∷
    case 1 (n expr_field 0 0 2 0 (n expr_match 0 0 0 0 [])) 2 (pair 0) ∷
    -- P9 "context 3, Struct right of `==`: pair."
    case 3 (operator 12 (name (n expr_struct 0 0 0 0 []))) 3 (pair 1) ∷
    -- P10 "valueless Return left of `-`: pair; left of `+`: none."
    case 0 (return_before 1) 2 (pair 1) ∷
    case 0 (return_before 0) 2 (pair 0) ∷
    -- P11 "Binary with inner attributes only, as root: 2."
    case 0 (n expr_binary 1 0 2 3 (name (name []))) 1 (pair 2) ∷
    -- P12 "unlabelled Break over a Group over a labelled Loop: pair; Group with attributes: none."
    case 0 (break_over_group 0) 2 (pair 1) ∷
    case 0 (break_over_group 1) 2 (pair 0) ∷
    case 0 (break_over_group 2) 2 (pair 0) ∷
    [])
