-- What the parser sees of the tokens from a place on, by the code and the symbol that stand there. Assumes nothing.
use mathlib.Core.Path.{◌≡◌, refl, sym, ap, ap₂, ◌∙◌}
use mathlib.Core.Bool.{true, false, ◌||◌}
use mathlib.Core.List.{List, [], ◌∷◌}
use Prim.Native.Nat.{ℕ, zero, suc, ◌+◌, ◌≤◌, ◌<◌}
use native.Mathlib.Omega.{arith}
use native.Mathlib.Numerals.{add-one}
use lib.Dec.{eqb, leb, leb→le}
use borrow.Author.Tests.{eq-eqb, ne_eqb}
use Rattle.laws.specs.Choice.{pick, lookup}
use Rattle.laws.proofs.Choice.{of_true, and_true}
use Rattle.tree.specs.Sizes.{last_code, list_end}
use Rattle.token_grammar.specs.Tokens.{Token, code, symbol_of, carries}
use Rattle.token_grammar.specs.Codes.{token_of, sign_of, code_at, token_symbol_at, is_token, are_tokens}
use Rattle.token_grammar.specs.Parser.{tail, is_first, first_by, no_start, start_by, start_of, start, no_type, type_start_by, type_start_of, type_start, no_member, after_dot_by, after_dot_of, after_dot, next}
use Rattle.token_grammar.specs.Next.{next_of}
use Rattle.token_grammar.proofs.Tokens.{sign_symbol, code_token, symbol_token, code_below, next_sign}
use Rattle.token_reader.specs.Pieces.{many, from}

-- a code stands in the list where no place past its end says otherwise
pub there : (tokens : List ℕ) (at k : ℕ) → code_at tokens at ≡ k → k < list_end → at < many tokens
there [] at k e h = absurd (omega arith)
there (n ∷ []) at k e h = absurd (omega arith)
there (n ∷ y ∷ ns) zero k e h = omega arith
there (n ∷ y ∷ ns) (suc at) k e h = omega (arith, there ns at k e h)

-- the first of the cells that are tokens' is a token's, and the others are
first_token : (n y : ℕ) (ns : List ℕ) → are_tokens (n ∷ y ∷ ns) ≡ true → (n < list_end) × (is_token n y ≡ true) × (are_tokens ns ≡ true)
first_token n y ns h =
    let d = and_true (is_token n y) (are_tokens ns) h in
    (omega (arith, leb→le n last_code (of_true (and_true (leb n last_code) (carries n || eqb y 0) d.0).0)), d.0, d.1)

-- what stands past its end reads as `list_end`
pub past_tokens : (tokens : List ℕ) (at : ℕ) → many tokens ≤ at → code_at tokens at ≡ list_end
past_tokens [] at h = refl
past_tokens (n ∷ []) at h = refl
past_tokens (n ∷ y ∷ ns) zero h = absurd (omega arith)
past_tokens (n ∷ y ∷ ns) (suc at) h = past_tokens ns at (omega arith)

pub code_most : (tokens : List ℕ) (at : ℕ) → are_tokens tokens ≡ true → code_at tokens at < list_end + 1
code_most [] at h = omega arith
code_most (n ∷ []) at h = omega arith
code_most (n ∷ y ∷ ns) zero h = omega (arith, (first_token n y ns h).0)
code_most (n ∷ y ∷ ns) (suc at) h = code_most ns at (first_token n y ns h).2

-- a token that may have no symbol has none
pub no_symbol : (tokens : List ℕ) (at : ℕ) → are_tokens tokens ≡ true → carries (code_at tokens at) ≡ false → token_symbol_at tokens at ≡ 0
no_symbol [] at h e = refl
no_symbol (n ∷ []) at h e = refl
no_symbol (n ∷ y ∷ ns) zero h e =
    let d = first_token n y ns h in
    sym (symbol_token n y (of_true d.1)) ∙ sign_symbol (token_of n y) (ap carries (code_token n y d.0) ∙ e)
no_symbol (n ∷ y ∷ ns) (suc at) h e = no_symbol ns at (first_token n y ns h).2 e

pub tail_from : (tokens : List ℕ) (at : ℕ) → tail (from tokens at) ≡ from tokens (at + 1)
tail_from tokens at = go tokens at ∙ ap (from tokens) (sym (add-one at))
  where
    go : (ns : List ℕ) (n : ℕ) → tail (from ns n) ≡ from ns (suc n)
    go [] zero = refl
    go [] (suc n) = refl
    go (m ∷ []) zero = refl
    go (m ∷ []) (suc n) = refl
    go (m ∷ y ∷ ms) zero = refl
    go (m ∷ y ∷ ms) (suc n) = go ms n

pub tail_from_next : (tokens : List ℕ) (at : ℕ) → tail (from tokens (at + 1)) ≡ from tokens (at + 2)
tail_from_next tokens at = tail_from tokens (at + 1) ∙ ap (from tokens) (let e : at + 1 + 1 ≡ at + 2 = omega arith in e)

first_at : {A : Type 0} (none : A) (by : Token → A) (say : ℕ → ℕ → A) → ((t : Token) → by t ≡ say (code t) (symbol_of t)) → say list_end 0 ≡ none →
    (tokens : List ℕ) (at : ℕ) → are_tokens tokens ≡ true → first_by none by (from tokens at) ≡ say (code_at tokens at) (token_symbol_at tokens at)
first_at none by say same past [] zero h = sym past
first_at none by say same past [] (suc at) h = sym past
first_at none by say same past (n ∷ []) zero h = sym past
first_at none by say same past (n ∷ []) (suc at) h = sym past
first_at none by say same past (n ∷ y ∷ ns) zero h =
    let d = first_token n y ns h in
    same (token_of n y) ∙ ap₂ say (code_token n y d.0) (symbol_token n y (of_true d.1))
first_at none by say same past (n ∷ y ∷ ns) (suc at) h = first_at none by say same past ns at (first_token n y ns h).2

pub is_first_lem : (t : Token) (tokens : List ℕ) (at : ℕ) → are_tokens tokens ≡ true → is_first t (from tokens at) ≡ eqb (code_at tokens at) (code t)
is_first_lem t tokens at h =
    go (from tokens at) ∙ first_at false (λ u. eqb (code u) (code t)) (λ n y. eqb n (code t)) (λ u. refl) (ne_eqb list_end (code t) (λ e. omega (arith, code_below t))) tokens at h
  where
    go : (ts : List Token) → is_first t ts ≡ first_by false (λ u. eqb (code u) (code t)) ts
    go [] = refl
    go (u ∷ ts) = refl

pub first_there : (t : Token) (tokens : List ℕ) (at : ℕ) → are_tokens tokens ≡ true → code_at tokens at ≡ code t → is_first t (from tokens at) ≡ true
first_there t tokens at h e = is_first_lem t tokens at h ∙ eq-eqb _ _ e

pub first_other : (t : Token) (tokens : List ℕ) (at : ℕ) → are_tokens tokens ≡ true → (code_at tokens at ≡ code t → ⊥) → is_first t (from tokens at) ≡ false
first_other t tokens at h e = is_first_lem t tokens at h ∙ ne_eqb _ _ e

pub start_at : (tokens : List ℕ) (at : ℕ) → are_tokens tokens ≡ true → start (from tokens at) ≡ start_by (code_at tokens at) (token_symbol_at tokens at)
unfolding start_of lookup pick
start_at = first_at no_start start_of start_by (λ t. refl) refl

pub type_start_at : (tokens : List ℕ) (at : ℕ) → are_tokens tokens ≡ true → type_start (from tokens at) ≡ type_start_by (code_at tokens at) (token_symbol_at tokens at)
unfolding type_start_of lookup pick
type_start_at = first_at no_type type_start_of type_start_by (λ t. refl) refl

pub after_dot_at : (tokens : List ℕ) (at : ℕ) → are_tokens tokens ≡ true → after_dot (from tokens at) ≡ after_dot_by (code_at tokens at) (token_symbol_at tokens at)
unfolding after_dot_of lookup pick
after_dot_at = first_at no_member after_dot_of after_dot_by (λ t. refl) refl

pub next_at : (tokens : List ℕ) (at : ℕ) → next (from tokens at) ≡ next_of (sign_of (code_at tokens at))
unfolding token_of
next_at [] zero = refl
next_at [] (suc at) = refl
next_at (n ∷ []) zero = refl
next_at (n ∷ []) (suc at) = refl
next_at (n ∷ y ∷ ns) zero = next_sign n y
next_at (n ∷ y ∷ ns) (suc at) = next_at ns at
