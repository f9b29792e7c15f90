-- The reader's tables give what the parser asks of the token that a code stands for. Assumes nothing.
use mathlib.Core.Path.{◌≡◌, refl, sym, ap, ◌∙◌}
use mathlib.Core.Bool.{Bool, true, false, not, ◌&&◌, ◌||◌}
use mathlib.Core.List.{List, [], ◌∷◌}
use Prim.Native.Nat.{ℕ, ◌+◌, ◌≤◌, ◌<◌}
use native.Mathlib.Omega.{arith}
use lib.Dec.{T, eqb, leb, ltb, eqb→eq, leb→le}
use borrow.Author.Tests.{le-leb, ne_eqb, le-ltb}
use Rattle.laws.specs.Choice.{pick, lookup, is_one_of}
use Rattle.laws.proofs.Choice.{of_true, and_true}
use Rattle.laws.proofs.Each.{all_at}
use Rattle.tree.specs.Sizes.{list_end}
use Rattle.tree.specs.Forms.{expr_assign, expr_binary}
use Rattle.token_grammar.specs.Tokens.{assign, number, operator, as_token, dot, left_paren, left_bracket, question, code, operator_of, carries}
use Rattle.token_grammar.specs.Codes.{token_of, sign_of}
use Rattle.token_grammar.specs.Levels.{kind, level, after}
use Rattle.token_grammar.specs.Bounds.{past_operators, highest}
use Rattle.token_grammar.specs.Types.{one}
use Rattle.token_grammar.specs.Expressions.{Expr, kind_of, ends_in_type_name, ends_in_dot_name}
use Rattle.token_grammar.specs.Next.{Next, stops, operates, casts_to, dots, calls, indexes, tries, next_of, level_at}
use Rattle.token_grammar.specs.Parser.{follows, goes_on}
use Rattle.token_grammar.proofs.Tokens.{number_operator, code_same, sign_symbol, code_token}
use Rattle.token_grammar.proofs.FirstTokens.{operator_bare}
use Rattle.token_plain.specs.Trees.{label, operator_label}
use Rattle.token_follow.specs.Follow.{before_at, barred_at, goes_on_by}
use Rattle.token_reader.specs.Tables.{level_of, after_of, goes_on_with, operator_form, operator_detail}

-- ---- operators

pub operator_token : (n : ℕ) → n < past_operators → sign_of n ≡ operator (operator_of n)
operator_token n h =
    let e = code_token n 0 (omega arith) ∙ sym (number_operator n h) in
    code_same (sign_of n) (operator (operator_of n)) e (sign_symbol (sign_of n) (ap carries e ∙ operator_bare (operator_of n)))

pub operator_level : (n : ℕ) → n < past_operators → level_of n ≡ level (kind (operator_of n))
unfolding operator_of token_of kind lookup pick
operator_level n h = eqb→eq (level_of n) (level (kind (operator_of n))) (all_at (λ m. eqb (level_of m) (level (kind (operator_of m)))) past_operators tt n h)

pub operator_after : (n : ℕ) → n < past_operators → after_of (level_of n) ≡ after (kind (operator_of n))
unfolding operator_of token_of after_of kind lookup pick
operator_after n h = eqb→eq (after_of (level_of n)) (after (kind (operator_of n))) (all_at (λ m. eqb (after_of (level_of m)) (after (kind (operator_of m)))) past_operators tt n h)

pub level_most : (n : ℕ) → n < past_operators → level_of n ≤ highest
unfolding token_of kind lookup pick
level_most n h = leb→le (level_of n) highest (all_at (λ m. leb (level_of m) highest) past_operators tt n h)

pub after_least : (n : ℕ) → n < past_operators → 1 ≤ after_of (level_of n)
unfolding token_of after_of kind lookup pick
after_least n h = leb→le 1 (after_of (level_of n)) (all_at (λ m. leb 1 (after_of (level_of m))) past_operators tt n h)

pub operator_labelled : (n : ℕ) → n < past_operators → label (operator_form n) (operator_detail n) ≡ operator_label (operator_of n)
unfolding operator_form operator_detail operator_label pick
operator_labelled n h = go (number (operator_of n)) (number_operator n h)
  where
    by : (b : Bool) → label (pick b expr_assign expr_binary) (pick b 0 n) ≡ pick b (label expr_assign 0) (label expr_binary n)
    by true = refl
    by false = refl

    go : (m : ℕ) → m ≡ n → label (pick (eqb n (number assign)) expr_assign expr_binary) (pick (eqb n (number assign)) 0 n) ≡ pick (eqb m (number assign)) (label expr_assign 0) (label expr_binary m)
    go m e = by (eqb n (number assign)) ∙ ap (λ k. pick (eqb k (number assign)) (label expr_assign 0) (label expr_binary k)) (sym e)

-- ---- what may follow

and_yes : (b : Bool) → b && true ≡ b
and_yes true = refl
and_yes false = refl

follows_by : (e : Expr one) (x : Next) → (leb (before_at x) (level (kind_of e)) && not (barred_at (ends_in_type_name e) (ends_in_dot_name e) x)) ≡ follows e x
follows_by e stops = rw (le-leb 0 (level (kind_of e)) (omega arith))
follows_by e (operates o) = refl
follows_by e casts_to = and_yes _
follows_by e dots = and_yes _
follows_by e calls = refl
follows_by e indexes = and_yes _
follows_by e tries = and_yes _

pub goes_on_at : (least : ℕ) (e : Expr one) (x : Next) → goes_on_by least (level (kind_of e)) (ends_in_type_name e) (ends_in_dot_name e) x ≡ goes_on least e x
unfolding goes_on_by goes_on
goes_on_at least e x = ap (λ b. leb least (level_at x) && b) (follows_by e x)

-- nothing goes on with a token that makes nothing
pub stops_not : (least : ℕ) (e : Expr one) → 1 ≤ least → goes_on least e stops ≡ true → ⊥
unfolding goes_on
stops_not least e h q = go (leb least 0) refl q
  where
    go : (b : Bool) → leb least 0 ≡ b → (b && true) ≡ true → ⊥
    go true k r = absurd (omega (arith, leb→le least 0 (rw k tt)))
    go false k r = let z : ◌≡◌ {A = ℕ} 0 1 = cc in omega arith

-- nor with the code that stands for the end
pub past_goes : (least strength : ℕ) (t d : Bool) → 1 ≤ least → goes_on_with least strength t d list_end ≡ true → ⊥
unfolding goes_on_by token_of
past_goes least strength t d h q = absurd (omega (arith, leb→le least 0 (of_true (and_true (leb least 0) _ q).0)))

-- a token that is no operator and makes no other form
abbrev is_stop : Next → Bool
is_stop stops = true
is_stop (operates o) = false
is_stop casts_to = false
is_stop dots = false
is_stop calls = false
is_stop indexes = false
is_stop tries = false

stop_is : (x : Next) → T (is_stop x) → x ≡ stops
stop_is stops t = refl
stop_is (operates o) t = absurd t
stop_is casts_to t = absurd t
stop_is dots t = absurd t
stop_is calls t = absurd t
stop_is indexes t = absurd t
stop_is tries t = absurd t

-- the tokens but the operators that make a form there
abbrev pub form_codes : List ℕ
form_codes = code as_token ∷ code dot ∷ code left_paren ∷ code left_bracket ∷ code question ∷ []

pub others_stop : (n : ℕ) → n < list_end + 1 → past_operators ≤ n → is_one_of form_codes n ≡ false → next_of (sign_of n) ≡ stops
unfolding token_of
others_stop n h k e =
    stop_is (next_of (sign_of n))
    (rw (le-ltb n past_operators k, e) at (all_at (λ m. ltb m past_operators || (is_one_of form_codes m || is_stop (next_of (sign_of m)))) (list_end + 1) tt n h))

-- what the reader's last arm knows of a code
pub no_form : (n : ℕ) → (n ≡ code as_token → ⊥) → (n ≡ code dot → ⊥) → (n ≡ code left_paren → ⊥) → (n ≡ code left_bracket → ⊥) → (n ≡ code question → ⊥) → is_one_of form_codes n ≡ false
no_form n a b c d e =
    rw (ne_eqb (code as_token) n (λ q. a (sym q)), ne_eqb (code dot) n (λ q. b (sym q)), ne_eqb (code left_paren) n (λ q. c (sym q)), ne_eqb (code left_bracket) n (λ q. d (sym q)), ne_eqb (code question) n (λ q. e (sym q)))
