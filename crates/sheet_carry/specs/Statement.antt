-- Document 02, Paper 10: what is promised of carrying open sheets across the rule change.
use Rattle.std.specs.Prelude.{List, ◌≡◌, ℕ, eqb, length}
use Rattle.laws.specs.Choice.{pick}
use Rattle.expr.specs.declared.order.CalleeOrder.TheVariants.{Crates, Ours}
use Rattle.sheet_edit.specs.Runs.{Sheet, opened, Change, ran, Right}
use Rattle.sheet_carry.specs.Carries.{carry_refusal, carried_rows}

-- ---- the sheet afterwards

abbrev pub refusal_of : Sheet → ℕ
refusal_of s = carry_refusal s.context s.count s.table (length s.rows)

-- "the tree stays", and so does its numbering; the order is ours from then on, unless carrying is refused
unfoldable pub carried : Sheet → Sheet
carried s =
    record {
      context = s.context;
      count = s.count;
      order = pick (eqb (refusal_of s) 0) Ours s.order;
      table = s.table;
      rows = carried_rows s.context s.count s.order s.table s.rows;
    }

-- the same sheet opened in our order, in the same buffers
abbrev pub reopened : Sheet → Sheet
reopened s = opened Ours s.context s.count s.table s.rows

-- ---- what holds of it

-- "Carry an open sheet from the crate's callee order to ours: the tree stays, and the rows become those of a fresh walk under the new order." Nothing of the sheet differs from
-- one that is opened in our order, whatever its rows were; and its rows are right.
pub record CarriedOver (s : Sheet) : Type 0 where
  pub as_opened : s.order ≡ Crates → carried s ≡ reopened s
  pub in_ours : (carried s).order ≡ Ours
  pub right : s.order ≡ Crates → Right (carried s)

abbrev pub IsCarried : Type 0
IsCarried = (s : Sheet) → refusal_of s ≡ 0 → CarriedOver s

-- "a sheet that holds our order it then leaves as it is", where its rows are wrong too; so carrying twice is carrying once. What is refused stays.
pub record CarriedAgain (s : Sheet) : Type 0 where
  pub ours_stays : s.order ≡ Ours → carried s ≡ s
  pub refused_stays : (refusal_of s ≡ 0 → ⊥) → carried s ≡ s
  pub twice : carried (carried s) ≡ carried s

abbrev pub StaysCarried : Type 0
StaysCarried = (s : Sheet) → CarriedAgain s

-- "A later edit gives what it would on a sheet opened under the new order": after any run of edits, refused ones among them, the same sheet.
abbrev pub CarriedThenEdited : Type 0
CarriedThenEdited =
    (s : Sheet) → refusal_of s ≡ 0 → s.order ≡ Crates → (cs : List Change) → ran (carried s) cs ≡ ran (reopened s) cs

-- a right sheet is never refused, and stays right
abbrev pub RightCarried : Type 0
RightCarried = (s : Sheet) → Right s → (refusal_of s ≡ 0) × Right (carried s)

-- "Sheets that hold the crate's order go on with it": after any run of edits the sheet holds it, and its rows are those of a fresh walk in it.
abbrev pub CrateSheetsGoOn : Type 0
CrateSheetsGoOn = (s : Sheet) (cs : List Change) → Right s → s.order ≡ Crates → ((ran s cs).order ≡ Crates) × Right (ran s cs)
