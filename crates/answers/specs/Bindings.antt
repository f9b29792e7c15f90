-- An operator's answer as one number: the level times 4, and the lean; 65535 for a number that is no operator's.
use Rattle.std.specs.Prelude.{ℕ, ◌+◌, ◌*◌, leb}
use Rattle.laws.specs.Choice.{pick}
use Rattle.precedence.specs.declared.Binding.{Binding}
use Rattle.precedence.specs.Precedences.{rank_of, lean_number, binding_of}

-- 0 to 27 are the operators of Binary, 28 is `=`, and this is Range's
abbrev pub last_operator : ℕ
last_operator = 29

abbrev pub no_operator : ℕ
no_operator = 65535

abbrev pub level_unit : ℕ
level_unit = 4

abbrev pub in_one_number : Binding → ℕ
in_one_number o = level_unit * rank_of o.level + lean_number o.lean

unfoldable pub binding_number : ℕ → ℕ
binding_number op = pick (leb op last_operator) (in_one_number (binding_of op)) no_operator
