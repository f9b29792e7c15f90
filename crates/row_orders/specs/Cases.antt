-- The smallest trees of Paper 9's two cases, and their neighbours, with the rows of both orders, computed.
use Rattle.std.specs.Prelude.{Bool, true, false, ◌&&◌, List, [], ◌∷◌, ℕ, ◌*◌, ◌/◌, eqb, length, replicate}
use Rattle.tree.specs.Sizes.{node_cells, row_cells}
use Rattle.tree.specs.Forms.{expr_call, expr_field, expr_group, expr_path, expr_struct}
use Rattle.expr.specs.declared.order.CalleeOrder.{CalleeOrder}
use Rattle.expr.specs.declared.order.CalleeOrder.TheVariants.{Crates, Ours}
use Rattle.row_walk.specs.Walk.{decided, rows_after}

-- a context, a table, and the rows of all its nodes in the crate's order and in ours
pub record Case : Type 0 where
  pub context : ℕ
  pub cells : List ℕ
  pub crates : List ℕ
  pub ours : List ℕ

abbrev case : ℕ → List ℕ → List ℕ → List ℕ → Case
case context cells crates ours = record { context = context; cells = cells; crates = crates; ours = ours }

-- ---- whether a case holds, in a buffer of just the length needed that holds no row before

abbrev blank : ℕ → List ℕ
blank n = replicate n 99

abbrev rows_in : CalleeOrder → Case → ℕ → List ℕ
rows_in order k count = rows_after order k.context count k.cells (blank (row_cells * count))

abbrev same : List ℕ → List ℕ → Bool
same [] [] = true
same [] (n ∷ ns) = false
same (m ∷ ms) [] = false
same (m ∷ ms) (n ∷ ns) = eqb m n && same ms ns

abbrev holds_for : Case → ℕ → Bool
holds_for k count =
    eqb (decided k.context count k.cells (row_cells * count)) 0
    && (same (rows_in Crates k count) k.crates && same (rows_in Ours k count) k.ours)

abbrev pub all_hold : List Case → Bool
all_hold [] = true
all_hold (k ∷ ks) = holds_for k (length k.cells / node_cells) && all_hold ks

-- ---- trees and rows

abbrev n : ℕ → ℕ → ℕ → ℕ → List ℕ → List ℕ
n form attributes detail first rest = form ∷ attributes ∷ detail ∷ first ∷ 0 ∷ 0 ∷ rest

abbrev r : ℕ → ℕ → ℕ → ℕ → ℕ → List ℕ → List ℕ
r pair precedence previous next flags rest = pair ∷ precedence ∷ previous ∷ next ∷ flags ∷ rest

-- a Call of a Field of a name, and of such a Field in a Group
abbrev of_field : ℕ → ℕ → List ℕ
of_field attributes member = n expr_call 0 0 2 (n expr_field attributes member 3 (n expr_path 0 0 0 []))

abbrev of_group : ℕ → ℕ → ℕ → ℕ → List ℕ
of_group own attributes member content = n expr_call 0 0 2 (n expr_group own 0 3 (n expr_field attributes member 4 (n content 0 0 0 [])))

abbrev pub cases : List Case
cases =
    -- "a numbered Field with an outer attribute gets a pair"
    case 0 (of_field 2 1)
    (r 0 15 0 0 0 (r 0 14 0 15 384 (r 0 15 0 15 256 [])))
    (r 0 15 0 0 0 (r 1 14 0 15 384 (r 0 15 0 15 256 []))) ∷
    -- with inner ones only, or with none, it has none in both
    case 0 (of_field 1 1)
    (r 0 15 0 0 0 (r 0 15 0 15 384 (r 0 15 0 15 256 [])))
    (r 0 15 0 0 0 (r 0 15 0 15 384 (r 0 15 0 15 256 []))) ∷
    -- "a Group gets one when the first thing below it that is no Group is a named Field and it had none"; the Field starts from NONE
    case 0 (of_group 0 0 0 expr_path)
    (r 0 15 0 0 0 (r 0 15 0 15 384 (r 0 15 0 15 384 (r 0 15 0 15 256 []))))
    (r 0 15 0 0 0 (r 1 15 0 15 384 (r 0 15 0 0 0 (r 0 15 0 15 256 [])))) ∷
    -- whatever attributes the Group itself has
    case 0 (of_group 2 0 0 expr_path)
    (r 0 15 0 0 0 (r 0 15 0 15 384 (r 0 15 0 15 384 (r 0 15 0 15 256 []))))
    (r 0 15 0 0 0 (r 1 15 0 15 384 (r 0 15 0 0 0 (r 0 15 0 15 256 [])))) ∷
    -- over a named Field with an outer attribute it had one
    case 0 (of_group 0 2 0 expr_path)
    (r 0 15 0 0 0 (r 1 14 0 15 384 (r 0 14 0 0 0 (r 0 15 0 15 256 []))))
    (r 0 15 0 0 0 (r 1 14 0 15 384 (r 0 14 0 0 0 (r 0 15 0 15 256 [])))) ∷
    -- over a numbered Field it has none in both
    case 0 (of_group 0 0 1 expr_path)
    (r 0 15 0 0 0 (r 0 15 0 15 384 (r 0 15 0 15 384 (r 0 15 0 15 256 []))))
    (r 0 15 0 0 0 (r 0 15 0 15 384 (r 0 15 0 15 384 (r 0 15 0 15 256 [])))) ∷
    -- Groups over Groups
    case 0 (n expr_call 0 0 2 (n expr_group 0 0 3 (n expr_group 0 0 4 (n expr_field 0 0 5 (n expr_path 0 0 0 [])))))
    (r 0 15 0 0 0 (r 0 15 0 15 384 (r 0 15 0 15 384 (r 0 15 0 15 384 (r 0 15 0 15 256 [])))))
    (r 0 15 0 0 0 (r 1 15 0 15 384 (r 0 15 0 0 0 (r 0 15 0 0 0 (r 0 15 0 15 256 []))))) ∷
    -- context 3: the Struct's pair goes and the Group's comes
    case 3 (of_group 0 0 0 expr_struct)
    (r 0 15 0 0 48 (r 0 15 0 15 400 (r 0 15 0 15 400 (r 1 15 0 15 272 []))))
    (r 0 15 0 0 48 (r 1 15 0 15 400 (r 0 15 0 0 0 (r 0 15 0 15 256 [])))) ∷
    []
