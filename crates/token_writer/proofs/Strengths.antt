-- Levels of operators by their numbers. Assumes nothing.
use mathlib.Core.Path.{◌≡◌, refl, sym, ap, ◌∙◌}
use mathlib.Core.Bool.{Bool, true, false, ◌&&◌, ◌||◌}
use mathlib.Core.List.{List, [], ◌∷◌}
use Prim.Native.Nat.{ℕ, suc, ◌≤◌, ◌<◌}
use native.Mathlib.Omega.{arith}
use native.Mathlib.Decide.{dec_le}
use lib.Dec.{eqb, ltb, eqb→eq, ltb→lt}
use mir.Val.{has_key}
use Rattle.laws.specs.Choice.{pick, lookup}
use Rattle.laws.proofs.Choice.{true_of, of_true, and_true}
use Rattle.laws.proofs.Keys.{past}
use Rattle.token_grammar.specs.Tokens.{Operator, shl, lt, assign, number, operator_of}
use Rattle.token_grammar.specs.Levels.{kind, level}
use Rattle.token_grammar.specs.Grammar.{opens_arguments}
use Rattle.token_grammar.specs.Codes.{token_of, sign_of}
use Rattle.token_grammar.specs.Next.{next_of, level_at}
use Rattle.token_grammar.specs.Bounds.{highest}
use Rattle.token_grammar.proofs.Tokens.{each_operator}
use Rattle.token_writer.proofs.Spelling.{operator_low, operator_high}

-- a rule of an operator's number that is the same from `=` on holds of any number
by_number : {A : Type 0} (f : ℕ → A) → ((n : ℕ) → number assign ≤ n → f n ≡ f (number assign)) → (n : ℕ) → f (number (operator_of n)) ≡ f n
by_number f h n = go (dec_le (number assign) n)
  where
    go : Dec (number assign ≤ n) → f (number (operator_of n)) ≡ f n
    go (yes p) = ap f (operator_high n p) ∙ sym (h n p)
    go (no p) = ap f (operator_low n (omega arith))

-- an operator's level is that of what follows an expression by its code
by_operator : (o : Operator) → (level_at (next_of (sign_of (number o))) ≡ level (kind o)) × (level (kind o) < suc highest)
unfolding operator_of token_of kind lookup pick
by_operator o =
    let d = and_true (eqb (level_at (next_of (sign_of (number o)))) (level (kind o))) (ltb (level (kind o)) (suc highest)) (true_of (each_operator (λ x. eqb (level_at (next_of (sign_of (number x)))) (level (kind x)) && ltb (level (kind x)) (suc highest)) tt o)) in
    (eqb→eq _ _ (of_true d.0), ltb→lt _ _ (of_true d.1))

pub operator_level : (n c r : ℕ) → c ≡ number (operator_of n) → r ≡ level_at (next_of (sign_of c)) → (r ≡ level (kind (operator_of n))) × (r ≤ highest)
operator_level n c r e f =
    let b = by_operator (operator_of n) in
    let g : r ≡ level (kind (operator_of n)) = f ∙ ap (λ m. level_at (next_of (sign_of m))) e ∙ b.0 in
    (g, omega (arith, g, b.1))

-- `<` and `<<`
abbrev pub opening_codes : List ℕ
opening_codes = number shl ∷ number lt ∷ []

pub opens_by : (n : ℕ) → opens_arguments (operator_of n) ≡ has_key opening_codes n
unfolding opens_arguments
opens_by n = swap (eqb (number lt) (number (operator_of n))) (eqb (number shl) (number (operator_of n))) ∙ by_number (has_key opening_codes) (λ m h. past opening_codes (number assign) m tt h ∙ sym (past opening_codes (number assign) (number assign) tt (omega arith))) n
  where
    swap : (a b : Bool) → a || (b || false) ≡ b || (a || false)
    swap true true = refl
    swap true false = refl
    swap false true = refl
    swap false false = refl
