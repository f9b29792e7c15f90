-- A token for each code below `list_end`; a rule for every operator, or for every token, is one computed test. Assumes nothing.
use mathlib.Core.Path.{◌≡◌, refl, sym, subst, ap, ap₂, ◌∙◌}
use mathlib.Core.Bool.{Bool, true, false, ◌&&◌, ◌||◌}
use mathlib.Core.List.{List, [], ◌∷◌}
use Prim.Native.Nat.{ℕ, zero, suc, ◌<◌}
use native.Mathlib.Omega.{arith}
use lib.Dec.{T, eqb, leb, ltb, eqb→eq, leb→le, ltb→lt}
use lib.ListN.{get_or, length}
use borrow.Author.Tests.{eqb-true, eq-eqb, le-leb}
use Rattle.laws.proofs.Choice.{true_not_false, true_of, of_true, and_true}
use Rattle.laws.proofs.Each.{all_at}
use Rattle.tree.specs.Sizes.{last_code, list_end}
use Rattle.token_grammar.specs.Tokens.{Operator, add, sub, mul, div, rem, and, or, bit_xor, bit_and, bit_or, shl, shr, eq, lt, le, ne, ge, gt, add_assign, sub_assign, mul_assign, div_assign, rem_assign, bit_xor_assign, bit_and_assign, bit_or_assign, shl_assign, shr_assign, assign, number, Token, operator, code, bang, and_mut, as_token, name_token, literal_token, dot, left_paren, right_paren, left_bracket, right_bracket, comma_token, question, star_const, star_mut, underscore, numbered_member, await, struct_token, all_operators, operator_of, symbol_of, carries, cells_of}
use Rattle.token_grammar.specs.Bounds.{past_operators}
use Rattle.token_grammar.specs.Codes.{spelled, token_of, sign_of, tokens_of, is_token, are_tokens}
use Rattle.token_grammar.specs.Next.{Next, next_of}

-- ---- the operators, by number

pub operator_number : (o : Operator) → operator_of (number o) ≡ o
unfolding operator_of
operator_number add = refl
operator_number sub = refl
operator_number mul = refl
operator_number div = refl
operator_number rem = refl
operator_number and = refl
operator_number or = refl
operator_number bit_xor = refl
operator_number bit_and = refl
operator_number bit_or = refl
operator_number shl = refl
operator_number shr = refl
operator_number eq = refl
operator_number lt = refl
operator_number le = refl
operator_number ne = refl
operator_number ge = refl
operator_number gt = refl
operator_number add_assign = refl
operator_number sub_assign = refl
operator_number mul_assign = refl
operator_number div_assign = refl
operator_number rem_assign = refl
operator_number bit_xor_assign = refl
operator_number bit_and_assign = refl
operator_number bit_or_assign = refl
operator_number shl_assign = refl
operator_number shr_assign = refl
operator_number assign = refl

-- a test that holds at each element of a list holds at each place, and past them where it holds of what is put there
abbrev pub all_in : {A : Type 0} → (A → Bool) → List A → Bool
all_in p [] = true
all_in p (a ∷ more) = p a && all_in p more

pub all_in_lem : {A : Type 0} (p : A → Bool) (d : A) (l : List A) → T (p d) → T (all_in p l) → (n : ℕ) → T (p (get_or l n d))
all_in_lem p d [] t h n = t
all_in_lem p d (a ∷ more) t h zero = of_true (and_true (p a) (all_in p more) (true_of h)).0
all_in_lem p d (a ∷ more) t h (suc n) = all_in_lem p d more t (of_true (and_true (p a) (all_in p more) (true_of h)).1) n

-- a rule for every operator is one computed test
abbrev pub of_operators : (Operator → Bool) → Bool
of_operators p = p assign && all_in p all_operators

pub each_operator : (p : Operator → Bool) → T (of_operators p) → (o : Operator) → T (p o)
unfolding operator_of
each_operator p h o =
    let d = and_true (p assign) (all_in p all_operators) (true_of h) in
    subst (λ x. T (p x)) (operator_number o) (all_in_lem p assign all_operators (of_true d.0) (of_true d.1) (number o))

pub number_operator : (n : ℕ) → n < past_operators → number (operator_of n) ≡ n
unfolding operator_of
number_operator n h = eqb→eq (number (operator_of n)) n (all_at (λ m. eqb (number (operator_of m)) m) past_operators tt n h)

pub number_below : (o : Operator) → number o < past_operators
number_below o = ltb→lt (number o) past_operators (each_operator (λ x. ltb (number x) past_operators) tt o)

-- ---- a token has one code, and each code below `list_end` a token

-- along the list of operators, the token at a place is the operator's
at_place : (y : ℕ) (os : List Operator) (n : ℕ) (d : Operator) → n < length os → get_or (spelled y os) n await ≡ operator (get_or os n d)
at_place y [] n d h = absurd (omega arith)
at_place y (o ∷ os) zero d h = refl
at_place y (o ∷ os) (suc n) d h = at_place y os n d (omega arith)

pub token_code : (t : Token) → token_of (code t) (symbol_of t) ≡ t
unfolding token_of operator_of
token_code (operator o) = at_place 0 all_operators (number o) assign (number_below o) ∙ ap operator (operator_number o)
token_code bang = refl
token_code and_mut = refl
token_code as_token = refl
token_code (name_token y) = refl
token_code (literal_token y) = refl
token_code dot = refl
token_code left_paren = refl
token_code right_paren = refl
token_code left_bracket = refl
token_code right_bracket = refl
token_code comma_token = refl
token_code question = refl
token_code star_const = refl
token_code star_mut = refl
token_code underscore = refl
token_code (numbered_member y) = refl
token_code await = refl
token_code struct_token = refl

pub code_same : (t u : Token) → code t ≡ code u → symbol_of t ≡ symbol_of u → t ≡ u
code_same t u e h = sym (token_code t) ∙ ap₂ token_of e h ∙ token_code u

-- a token whose code carries no symbol is known by its code
pub sign_symbol : (t : Token) → carries (code t) ≡ false → symbol_of t ≡ 0
sign_symbol (operator o) h = refl
sign_symbol bang h = refl
sign_symbol and_mut h = refl
sign_symbol as_token h = refl
sign_symbol (name_token y) h = true_not_false h
sign_symbol (literal_token y) h = true_not_false h
sign_symbol dot h = refl
sign_symbol left_paren h = refl
sign_symbol right_paren h = refl
sign_symbol left_bracket h = refl
sign_symbol right_bracket h = refl
sign_symbol comma_token h = refl
sign_symbol question h = refl
sign_symbol star_const h = refl
sign_symbol star_mut h = refl
sign_symbol underscore h = refl
sign_symbol (numbered_member y) h = true_not_false h
sign_symbol await h = refl
sign_symbol struct_token h = refl

pub sign_same : (t u : Token) → carries (code t) ≡ false → code t ≡ code u → t ≡ u
sign_same t u h e = code_same t u e (sign_symbol t h ∙ sym (sign_symbol u (sym (ap carries e) ∙ h)))

pub code_token : (n y : ℕ) → n < list_end → code (token_of n y) ≡ n
unfolding token_of
code_token n y h = eqb→eq (code (token_of n y)) n (all_at (λ m. eqb (code (token_of m y)) m) list_end tt n h)

-- a code that carries a symbol is one of three
carried : (n y : ℕ) → carries n ≡ true → symbol_of (token_of n y) ≡ y
unfolding token_of
carried n y h = go (eqb 32 n) (eqb 33 n) (eqb 44 n) refl refl refl h
  where
    at : (m : ℕ) → eqb m n ≡ true → symbol_of (token_of m y) ≡ y → symbol_of (token_of n y) ≡ y
    at m e q = subst (λ k. symbol_of (token_of k y) ≡ y) (eqb-true m n e) q

    go : (a b c : Bool) → eqb 32 n ≡ a → eqb 33 n ≡ b → eqb 44 n ≡ c → a || (b || (c || false)) ≡ true → symbol_of (token_of n y) ≡ y
    go true b c p q r k = at 32 p refl
    go false true c p q r k = at 33 q refl
    go false false true p q r k = at 44 r refl
    go false false false p q r k = true_not_false (sym k)

pub symbol_token : (n y : ℕ) → T (is_token n y) → symbol_of (token_of n y) ≡ y
symbol_token n y h = go (carries n) refl (and_true (leb n last_code) (carries n || eqb y 0) (true_of h)).1
  where
    below : n < list_end
    below = omega (arith, leb→le n last_code (of_true (and_true (leb n last_code) (carries n || eqb y 0) (true_of h)).0))

    go : (b : Bool) → carries n ≡ b → b || eqb y 0 ≡ true → symbol_of (token_of n y) ≡ y
    go true e k = carried n y e
    go false e k = sign_symbol (token_of n y) (ap carries (code_token n y below) ∙ e) ∙ sym (eqb-true y 0 k)

pub tokens_cells : (ts : List Token) → tokens_of (cells_of ts) ≡ ts
tokens_cells [] = refl
tokens_cells (t ∷ ts) = ap₂ ◌∷◌ (token_code t) (tokens_cells ts)

pub cells_tokens : (cells : List ℕ) → T (are_tokens cells) → cells_of (tokens_of cells) ≡ cells
cells_tokens [] h = refl
cells_tokens (n ∷ []) h = absurd h
cells_tokens (n ∷ y ∷ cells) h =
    let d = and_true (is_token n y) (are_tokens cells) (true_of h) in
    let below : n < list_end = omega (arith, leb→le n last_code (of_true (and_true (leb n last_code) (carries n || eqb y 0) d.0).0)) in
    ap₂ (λ m r. m ∷ r) (code_token n y below) (ap₂ ◌∷◌ (symbol_token n y (of_true d.0)) (cells_tokens cells (of_true d.1)))

-- a rule for every token is one computed test
abbrev pub of_tokens : (Token → Bool) → ℕ → Bool
of_tokens p y = p await && all_in p (spelled y all_operators)

pub each_token : (p : Token → Bool) → ((y : ℕ) → T (of_tokens p y)) → (t : Token) → T (p t)
unfolding token_of
each_token p h t =
    let d = and_true (p await) (all_in p (spelled (symbol_of t) all_operators)) (true_of (h (symbol_of t))) in
    subst (λ x. T (p x)) (token_code t) (all_in_lem p await (spelled (symbol_of t) all_operators) (of_true d.0) (of_true d.1) (code t))

pub code_below : (t : Token) → code t < list_end
code_below t = ltb→lt (code t) list_end (each_token (λ x. ltb (code x) list_end) (λ y. tt) t)

-- the cells of tokens are those of tokens
cell_is : (t : Token) → is_token (code t) (symbol_of t) ≡ true
cell_is t = rw (le-leb (code t) last_code (omega (arith, code_below t))) (go (carries (code t)) refl)
  where
    go : (b : Bool) → carries (code t) ≡ b → b || eqb (symbol_of t) 0 ≡ true
    go true e = refl
    go false e = eq-eqb (symbol_of t) 0 (sign_symbol t e)

pub cells_are : (ts : List Token) → T (are_tokens (cells_of ts))
cells_are [] = tt
cells_are (t ∷ ts) = rw (cell_is t) (cells_are ts)

-- ---- what stands after an expression is known by the code alone

abbrev nexts : List Token → List Next
nexts [] = []
nexts (t ∷ ts) = next_of t ∷ nexts ts

next_place : (l : List Token) (n : ℕ) → next_of (get_or l n await) ≡ get_or (nexts l) n (next_of await)
next_place [] n = refl
next_place (t ∷ l) zero = refl
next_place (t ∷ l) (suc n) = next_place l n

pub next_sign : (n y : ℕ) → next_of (token_of n y) ≡ next_of (sign_of n)
unfolding token_of
next_sign n y = next_place (spelled y all_operators) n ∙ sym (next_place (spelled 0 all_operators) n)
