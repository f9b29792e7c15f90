-- What callers in Rust and C ask besides the questions by number.
use Rattle.std.specs.Prelude.{Bool, not, ℕ, eqb}
use Rattle.tree.specs.Trees.{Tree}
use Rattle.precedence.specs.declared.Precedence.{Precedence}
use Rattle.fixup.specs.declared.context.FixupContext.{FixupContext}
use Rattle.fixup_scan.specs.Scans.{scan_number, scan_right}

-- scan_right, by its number: it has a precedence and two offsets besides the context
unfoldable pub scan_answered : FixupContext → Precedence → ℕ → ℕ → Tree → ℕ
scan_answered x p fail bailout t = scan_number (scan_right t x p fail bailout)

-- a boolean as a number: 0 is false, every other true
abbrev pub is_yes : ℕ → Bool
is_yes n = not (eqb n 0)
