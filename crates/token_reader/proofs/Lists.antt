-- Where a list closes behind an item, by the tokens that stand there: what the parser sees. Assumes nothing.
use mathlib.Core.Path.{◌≡◌, refl, sym, subst, ap, ◌∙◌}
use mathlib.Core.Bool.{Bool, true, false, ◌&&◌}
use mathlib.Core.List.{List}
use Prim.Native.Nat.{ℕ, ◌+◌, ◌≤◌, ◌<◌}
use native.Mathlib.Omega.{arith}
use lib.Dec.{eqb}
use borrow.Author.Tests.{eqb-true, eqb-false, eq-eqb, ne_eqb}
use Rattle.laws.specs.Choice.{pick}
use Rattle.laws.proofs.Choice.{pick_true, pick_false}
use Rattle.token_grammar.specs.Tokens.{Token, comma_token, code}
use Rattle.token_grammar.specs.Codes.{code_at, are_tokens}
use Rattle.token_grammar.specs.Parser.{tail, is_first, AfterItem, closes, another, no_item, after_item, behind}
use Rattle.token_grammar.proofs.Tokens.{code_below}
use Rattle.token_reader.specs.Tables.{past_comma}
use Rattle.token_reader.specs.Pieces.{many, from}
use Rattle.token_reader.proofs.First.{there, tail_from, is_first_lem}

-- the parser's tests, once they are answered
abbrev item_by : Bool → Bool → Bool → AfterItem
item_by last comma next = elim last [ true ↦ closes false | false ↦ elim comma [ false ↦ no_item | true ↦ elim next [ true ↦ closes true | false ↦ another ] ] ]

module _ (tokens : List ℕ) (at close : ℕ) where
  pub passed_none : (code_at tokens at ≡ code comma_token → ⊥) → past_comma tokens at close ≡ at
  unfolding past_comma
  passed_none n = pick_false _ _ (ap (λ b. b && eqb (code_at tokens (at + 1)) close) (ne_eqb _ _ n))

  pub passed_other : (code_at tokens (at + 1) ≡ close → ⊥) → past_comma tokens at close ≡ at
  unfolding past_comma
  passed_other n = pick_false _ _ (ap (λ b. eqb (code_at tokens at) (code comma_token) && b) (ne_eqb _ _ n) ∙ and_false (eqb (code_at tokens at) (code comma_token)))
    where
      and_false : (b : Bool) → b && false ≡ false
      and_false true = refl
      and_false false = refl

  pub passed_one : code_at tokens at ≡ code comma_token → code_at tokens (at + 1) ≡ close → past_comma tokens at close ≡ at + 1
  unfolding past_comma
  passed_one e h = pick_true _ _ (rw (eq-eqb (code_at tokens at) (code comma_token) e, eq-eqb (code_at tokens (at + 1)) close h))

-- `to` is the place that past_comma gives behind an item that ends at `at`; the sign that closes is no comma
module _ (tokens : List ℕ) (at : ℕ) {to : ℕ} (close : Token) (other : code close ≡ code comma_token → ⊥) (is : to ≡ past_comma tokens at (code close)) where
  abbrev passed : Bool → Bool → ℕ
  passed comma next = pick (comma && next) (at + 1) at

  -- a fact of that place, by the two tests
  by_tests : (P : ℕ → Type 0) → ((b c : Bool) → eqb (code_at tokens at) (code comma_token) ≡ b → eqb (code_at tokens (at + 1)) (code close) ≡ c → P (passed b c)) → P to
  unfolding past_comma
  by_tests P go = subst P (sym is) (go (eqb (code_at tokens at) (code comma_token)) (eqb (code_at tokens (at + 1)) (code close)) refl refl)

  past_least : at ≤ to
  unfolding pick
  past_least = by_tests (λ n. at ≤ n) go
    where
      go : (b c : Bool) → eqb (code_at tokens at) (code comma_token) ≡ b → eqb (code_at tokens (at + 1)) (code close) ≡ c → at ≤ passed b c
      go true true p q = omega arith
      go true false p q = omega arith
      go false c p q = omega arith

  -- a comma that is left was not passed over
  past_stays : code_at tokens to ≡ code comma_token → code_at tokens at ≡ code comma_token
  unfolding pick
  past_stays = by_tests (λ n. code_at tokens n ≡ code comma_token → code_at tokens at ≡ code comma_token) go
    where
      go : (b c : Bool) → eqb (code_at tokens at) (code comma_token) ≡ b → eqb (code_at tokens (at + 1)) (code close) ≡ c → code_at tokens (passed b c) ≡ code comma_token → code_at tokens at ≡ code comma_token
      go true true p q e = absurd (other (sym (eqb-true _ _ q) ∙ e))
      go true false p q e = e
      go false c p q e = e

  pub closed_past : code_at tokens to ≡ code close → (at ≤ to) × (to < many tokens)
  closed_past e = (past_least, there tokens to (code close) e (code_below close))

  pub comma_there : code_at tokens to ≡ code comma_token → at < many tokens
  comma_there e = there tokens at (code comma_token) (past_stays e) (omega arith)

  module _ (known : are_tokens tokens ≡ true) where
    abbrev Says : AfterItem → Type 0
    Says x = after_item close (from tokens at) ≡ x

    item_is : Says (item_by (eqb (code_at tokens at) (code close)) (eqb (code_at tokens at) (code comma_token)) (eqb (code_at tokens (at + 1)) (code close)))
    unfolding after_item
    item_is =
        ap (λ z. item_by z (is_first comma_token (from tokens at)) (is_first close (tail (from tokens at)))) (is_first_lem close tokens at known)
        ∙ ap (λ z. item_by (eqb (code_at tokens at) (code close)) z (is_first close (tail (from tokens at)))) (is_first_lem comma_token tokens at known)
        ∙ ap (item_by (eqb (code_at tokens at) (code close)) (eqb (code_at tokens at) (code comma_token))) (ap (is_first close) (tail_from tokens at) ∙ is_first_lem close tokens (at + 1) known)

    pub closed_at : code_at tokens to ≡ code close → (comma : Bool) × Says (closes comma) × (behind comma (from tokens at) ≡ from tokens (to + 1))
    unfolding pick
    closed_at = by_tests (λ n. code_at tokens n ≡ code close → (comma : Bool) × Says (closes comma) × (behind comma (from tokens at) ≡ from tokens (n + 1))) go
      where
        go : (b c : Bool) → eqb (code_at tokens at) (code comma_token) ≡ b → eqb (code_at tokens (at + 1)) (code close) ≡ c → code_at tokens (passed b c) ≡ code close →
            (comma : Bool) × Says (closes comma) × (behind comma (from tokens at) ≡ from tokens (passed b c + 1))
        go true true p q e = (
          true,
          item_is ∙ rw (ne_eqb (code_at tokens at) (code close) (λ z. other (sym z ∙ eqb-true _ _ p)), p, q),
          ap tail (tail_from tokens at) ∙ tail_from tokens (at + 1),
        )
        go true false p q e = (false, item_is ∙ rw (eq-eqb (code_at tokens at) (code close) e), tail_from tokens at)
        go false c p q e = (false, item_is ∙ rw (eq-eqb (code_at tokens at) (code close) e), tail_from tokens at)

    pub more_at : (code_at tokens to ≡ code close → ⊥) → code_at tokens to ≡ code comma_token → Says another
    unfolding pick
    more_at = by_tests (λ n. (code_at tokens n ≡ code close → ⊥) → code_at tokens n ≡ code comma_token → Says another) go
      where
        go : (b c : Bool) → eqb (code_at tokens at) (code comma_token) ≡ b → eqb (code_at tokens (at + 1)) (code close) ≡ c → (code_at tokens (passed b c) ≡ code close → ⊥) → code_at tokens (passed b c) ≡ code comma_token → Says another
        go true true p q n e = absurd (n (eqb-true _ _ q))
        go true false p q n e = item_is ∙ rw (ne_eqb (code_at tokens at) (code close) n, p, q)
        go false c p q n e = absurd (eqb-false _ _ p e)

    pub none_at : (code_at tokens to ≡ code close → ⊥) → (code_at tokens to ≡ code comma_token → ⊥) → Says no_item
    unfolding pick
    none_at = by_tests (λ n. (code_at tokens n ≡ code close → ⊥) → (code_at tokens n ≡ code comma_token → ⊥) → Says no_item) go
      where
        go : (b c : Bool) → eqb (code_at tokens at) (code comma_token) ≡ b → eqb (code_at tokens (at + 1)) (code close) ≡ c → (code_at tokens (passed b c) ≡ code close → ⊥) → (code_at tokens (passed b c) ≡ code comma_token → ⊥) → Says no_item
        go true true p q n m = absurd (n (eqb-true _ _ q))
        go true false p q n m = absurd (m (eqb-true _ _ p))
        go false c p q n m = item_is ∙ rw (ne_eqb (code_at tokens at) (code close) n, p)
