-- How far the walk's stack reaches. Document 02, Paper 13: "a stack of 128 entries held by value, one for each level of the path being walked, with list links costing none".
use Rattle.std.specs.Prelude.{Bool, true, false, ◌&&◌, ℕ, ◌-◌, eqb}
use Rattle.bools.specs.Bits.{bit_of}
use Rattle.laws.specs.Choice.{pick}
use Rattle.row.specs.Rows.{Rows, absent, present}

abbrev pub is_there : Rows → Bool
is_there absent = false
is_there (present r a b) = true

-- the rows that a walk with n entries reaches: an owner with two operands takes one while its first is walked; where none is left its second is left out. Of an accepted table 128 reach all (`all_reached`)
unfoldable pub within : ℕ → Rows → Rows
within n absent = absent
within n (present r a b) =
    present
    r
    (within (n - bit_of (is_there a && is_there b)) a)
    (pick (is_there a && is_there b && eqb n 0) absent (within n b))
