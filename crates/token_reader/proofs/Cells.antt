-- The two cells of a token, by its number. Assumes nothing.
use mathlib.Core.Path.{◌≡◌, refl}
use mathlib.Core.List.{List, [], ◌∷◌}
use Prim.Native.Nat.{ℕ, zero, suc, ◌+◌, ◌*◌, ◌≤◌, ◌<◌}
use native.Mathlib.Omega.{arith}
use lib.ListN.{get_or}
use Rattle.tree.specs.Sizes.{token_cells}
use Rattle.token_grammar.specs.Codes.{code_at, token_symbol_at}
use Rattle.token_reader.specs.Pieces.{many}

pub code_in : (tokens : List ℕ) (at : ℕ) → at < many tokens → get_or tokens (token_cells * at) 0 ≡ code_at tokens at
code_in [] at h = absurd (omega arith)
code_in (n ∷ []) at h = absurd (omega arith)
code_in (n ∷ y ∷ ns) zero h = refl
code_in (n ∷ y ∷ ns) (suc at) h = let e : 2 * suc at ≡ suc (suc (2 * at)) = omega arith in rw e (code_in ns at (omega arith))

pub symbol_in : (tokens : List ℕ) (at : ℕ) → at < many tokens → get_or tokens (token_cells * at + 1) 0 ≡ token_symbol_at tokens at
symbol_in [] at h = absurd (omega arith)
symbol_in (n ∷ []) at h = absurd (omega arith)
symbol_in (n ∷ y ∷ ns) zero h = refl
symbol_in (n ∷ y ∷ ns) (suc at) h = let e : 2 * suc at + 1 ≡ suc (suc (2 * at + 1)) = omega arith in rw e (symbol_in ns at (omega arith))

pub symbol_past : (tokens : List ℕ) (at : ℕ) → many tokens ≤ at → token_symbol_at tokens at ≡ 0
symbol_past [] at h = refl
symbol_past (n ∷ []) at h = refl
symbol_past (n ∷ y ∷ ns) zero h = absurd (omega arith)
symbol_past (n ∷ y ∷ ns) (suc at) h = symbol_past ns at (omega arith)
