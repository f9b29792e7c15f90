-- A context in one number, as the walk's stack keeps it: four bits for each of its operators' ranks, ten for its flags.
use Rattle.std.specs.Prelude.{ℕ, ◌+◌, ◌*◌, ◌/◌, ◌%◌}
use Rattle.precedence.specs.Precedences.{rank_of}
use Rattle.fixup.specs.declared.context.FixupContext.{FixupContext}
use Rattle.row_pack.specs.Cells.{flags_of}
use Rattle.row_pack.specs.FromCells.{context_of}

abbrev pub packed_cells : ℕ → ℕ → ℕ → ℕ
packed_cells previous next flags = previous + 16 * next + 256 * flags

unfoldable pub packed_of : FixupContext → ℕ
packed_of x = packed_cells (rank_of x.previous_operator) (rank_of x.next_operator) (flags_of x)

unfoldable pub unpacked_of : ℕ → FixupContext
unpacked_of n = context_of (n % 16) (n / 16 % 16) (n / 256 % 1024)
