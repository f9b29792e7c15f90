-- A node's operands, each present or absent, and its form.
use Rattle.std.specs.Prelude.{◌&&◌, List, ℕ, zero, suc, leb}
use Rattle.laws.specs.Choice.{pick}
use Rattle.std.specs.Prelude.{Option}
use Rattle.std.specs.Prelude.{None, Some}
use Rattle.tree.specs.Table.{form_at}

-- "Operand 0 is absent."
unfoldable pub presence : ℕ → Option ℕ
presence zero = None
presence (suc n) = Some (suc n)

-- the form of node i; 0 where i is 0 or above the count
unfoldable pub form_in : List ℕ → ℕ → ℕ → ℕ
form_in cells count i = pick (leb 1 i && leb i count) (form_at cells i) 0
