-- Whether cells are tokens', looked at from a place on. Assumes nothing.
use mathlib.Core.Path.{◌≡◌, refl, ap, ◌∙◌}
use mathlib.Core.Bool.{Bool, true, false, ◌&&◌}
use mathlib.Core.List.{List, [], ◌∷◌}
use Prim.Native.Nat.{ℕ, suc, ◌+◌, ◌*◌, ◌/◌, ◌≤◌, ◌<◌}
use native.Mathlib.Omega.{arith}
use lib.ListN.{length, drop, get_or, length-drop}
use lib.Seq.{drop-cons}
use Rattle.tree.specs.Sizes.{token_cells}
use Rattle.token_grammar.specs.Codes.{is_token, are_tokens}

-- an odd number of cells
pub are_odd : (cells : List ℕ) → token_cells * (length cells / token_cells) < length cells → are_tokens cells ≡ false
are_odd [] h = absurd (omega arith)
are_odd (n ∷ []) h = refl
are_odd (n ∷ y ∷ cells) h = ap (λ b. is_token n y && b) (are_odd cells (omega arith)) ∙ and_false (is_token n y)
  where
    and_false : (b : Bool) → b && false ≡ false
    and_false true = refl
    and_false false = refl

module _ (cells : List ℕ) (at : ℕ) where
  two : at + 1 < length cells → drop at cells ≡ get_or cells at 0 ∷ get_or cells (at + 1) 0 ∷ drop (at + 2) cells
  two h =
      let e : at + 1 ≡ suc at = omega arith in
      let f : at + 2 ≡ suc (suc at) = omega arith in
      drop-cons cells at 0 (omega arith) ∙ ap (λ l. get_or cells at 0 ∷ l) (rw (e, f) (drop-cons cells (suc at) 0 (omega arith)))

  pub are_not : at + 1 < length cells → is_token (get_or cells at 0) (get_or cells (at + 1) 0) ≡ false → are_tokens (drop at cells) ≡ false
  are_not h e = ap are_tokens (two h) ∙ rw e

  pub are_next : at + 1 < length cells → is_token (get_or cells at 0) (get_or cells (at + 1) 0) ≡ true → are_tokens (drop at cells) ≡ are_tokens (drop (at + 2) cells)
  are_next h e = ap are_tokens (two h) ∙ rw e

  pub are_end : length cells ≤ at → are_tokens (drop at cells) ≡ true
  are_end h = go (drop at cells) (let e = length-drop at cells in omega arith)
    where
      go : (l : List ℕ) → length l ≡ 0 → are_tokens l ≡ true
      go [] e = refl
      go (n ∷ ns) e = absurd (omega arith)
