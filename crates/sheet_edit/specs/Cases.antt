-- Edits whose answers are computed.
use Rattle.std.specs.Prelude.{Bool, true, false, ◌&&◌, List, [], ◌∷◌, ℕ, eqb, length, take, drop, replicate}
use Rattle.tree.specs.Forms.{expr_assign, expr_binary, expr_block, expr_call, expr_closure, expr_field, expr_group, expr_path, expr_range, type_path, expr_cast}
use Rattle.expr.specs.declared.order.CalleeOrder.{CalleeOrder}
use Rattle.expr.specs.declared.order.CalleeOrder.TheVariants.{Crates, Ours}
use Rattle.row_walk.specs.Walk.{rows_after}
use Rattle.sheet_edit.specs.Edits.{Edit, edit_of, edit_refusal, table_after, edited_rows}

abbrev same : List ℕ → List ℕ → Bool
same [] [] = true
same [] (n ∷ ns) = false
same (m ∷ ms) [] = false
same (m ∷ ms) (n ∷ ns) = eqb m n && same ms ns

abbrev n : ℕ → ℕ → ℕ → ℕ → ℕ → List ℕ → List ℕ
n form attributes detail first second rest = form ∷ attributes ∷ detail ∷ first ∷ second ∷ 0 ∷ rest

abbrev name : List ℕ → List ℕ
name rest = n expr_path 0 0 0 0 rest

-- with the sheet's own table, and rows of so many cells
abbrev refusal_of : Edit → ℕ → ℕ
refusal_of e rows = edit_refusal e (length e.cells) rows

-- ---- a + b, numbered with the second operand first; b becomes a closure over a block. What lies behind the result stays
abbrev sum : List ℕ
sum = n expr_binary 0 0 3 2 (name (name (7 ∷ 7 ∷ 7 ∷ 7 ∷ 7 ∷ 7 ∷ 8 ∷ [])))

abbrev closure : List ℕ
closure = n expr_closure 0 1 2 0 (n expr_block 0 0 0 0 [])

abbrev grows : Bool
grows =
    eqb (refusal_of (edit_of 0 3 sum 2 3 2 closure) 20) 0
    && same (table_after (edit_of 0 3 sum 2 3 2 closure) 20) (n expr_binary 0 0 2 3 (name (n expr_closure 0 1 4 0 (n expr_block 0 0 0 0 (8 ∷ [])))))

-- ---- refusals: 17 at 0, above the count and at a type; 18 at the body of a closure with an output; 12 at rows one cell short; the second tree's 3 before 17
abbrev cast : List ℕ
cast = n expr_cast 0 0 2 3 (name (n type_path 0 1 0 0 []))

abbrev refuses : Bool
refuses =
    eqb (refusal_of (edit_of 0 3 cast 0 0 2 closure) 99) 17
    && (eqb (refusal_of (edit_of 0 3 cast 4 0 2 closure) 99) 17
    && (eqb (refusal_of (edit_of 0 3 cast 3 0 2 closure) 99) 17
    && (eqb (refusal_of (edit_of 0 3 cast 4 4 2 closure) 99) 3
    && (eqb (refusal_of (edit_of 0 2 closure 2 0 1 (name [])) 99) 18
    && (eqb (refusal_of (edit_of 0 2 closure 1 0 1 (name [])) 5) 0
    && (eqb (refusal_of (edit_of 0 2 closure 1 0 1 (name [])) 4) 12
    && eqb (refusal_of (edit_of 0 3 cast 2 0 2 closure) 99) 12))))))

-- ---- rows beside the edited place: `(a = b) ..` in context 1, where b becomes `.. x`, loses the Assign's pair, and the flags of a go from 256 to 258
abbrev half : List ℕ
half = n expr_range 0 0 2 0 (n expr_assign 0 0 3 4 (name (name (0 ∷ 0 ∷ 0 ∷ 0 ∷ 0 ∷ 0 ∷ []))))

abbrev up_to : List ℕ
up_to = n expr_range 0 0 0 2 (name [])

abbrev noise : List ℕ
noise = replicate 25 99

abbrev before : List ℕ
before = rows_after Ours 1 4 half noise

abbrev after : List ℕ
after = edited_rows Ours (edit_of 1 4 half 4 0 2 up_to) noise

abbrev beside : Bool
beside =
    same (take 1 (drop 5 before)) (1 ∷ [])
    && (same (take 1 (drop 14 before)) (256 ∷ [])
    && (same (take 1 (drop 5 after)) (0 ∷ [])
    && same (take 1 (drop 14 after)) (258 ∷ [])))

-- ---- in the sheet's own order: `f()`, where f becomes a Group over the named Field `a.b`, gets the callee's pair in our order alone
abbrev call : List ℕ
call = n expr_call 0 0 2 0 (name (replicate 12 0))

abbrev grouped : List ℕ
grouped = n expr_group 0 0 2 0 (n expr_field 0 0 3 0 (name []))

abbrev callee_in : CalleeOrder → List ℕ
callee_in order = take 1 (drop 5 (edited_rows order (edit_of 0 2 call 2 0 3 grouped) noise))

abbrev in_order : Bool
in_order = same (callee_in Crates) (0 ∷ []) && same (callee_in Ours) (1 ∷ [])

abbrev pub all_hold : Bool
all_hold = grows && (refuses && (beside && in_order))
