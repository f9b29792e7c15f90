-- What the parser's tests say of a token list: its first token is the one that the test stands for. Assumes nothing.
use mathlib.Core.Path.{◌≡◌, refl, sym, subst, ap, ◌∙◌}
use mathlib.Core.Bool.{Bool, true, false}
use mathlib.Core.List.{List, [], ◌∷◌}
use Prim.Native.Nat.{ℕ}
use lib.Dec.{T, eqb, eqb→eq}
use borrow.Author.Tests.{eqb-true}
use Rattle.laws.specs.Choice.{pick, lookup}
use Rattle.laws.proofs.Choice.{true_not_false, alike, alike_same}
use Rattle.token_grammar.specs.Tokens.{Operator, Token, operator, code, bang, and_mut, as_token, name_token, literal_token, dot, left_paren, right_paren, left_bracket, right_bracket, comma_token, question, star_const, star_mut, underscore, numbered_member, await, struct_token, number, symbol_of, carries}
use Rattle.token_grammar.specs.Types.{type_prefix_token, type_sign_token, closing}
use Rattle.token_grammar.specs.Expressions.{atom_token, prefix_token, member_token}
use Rattle.token_grammar.specs.Parser.{tail, is_first, first_by, Start, no_start, an_atom, a_prefix, a_group, start_of, start, TypeStart, no_type, a_name, a_type_prefix, a_sign, type_start_of, type_start, AfterDot, no_member, a_member, after_dot_of, after_dot, next, AfterItem, closes, another, no_item, after_item, behind}
use Rattle.token_grammar.specs.Next.{Next, stops, operates, casts_to, dots, calls, indexes, tries, next_of}
use Rattle.token_grammar.proofs.Tokens.{code_same, sign_symbol, sign_same, each_operator, of_tokens, each_token}

-- t has no symbol
pub first_is : (t : Token) (ts : List Token) → carries (code t) ≡ false → is_first t ts ≡ true → t ∷ tail ts ≡ ts
first_is t [] k e = true_not_false (sym e)
first_is t (u ∷ ts) k e = ap (λ x. x ∷ ts) (sign_same t u k (sym (eqb-true (code u) (code t) e)))

-- a list whose first token, if there is one to put, is u
abbrev begun : List Token → List Token → List Token
begun [] ts = ts
begun (u ∷ us) ts = u ∷ tail ts

abbrev agrees : List Token → Token → Bool
agrees [] t = true
agrees (u ∷ us) t = eqb (code u) (code t)

pub operator_bare : (o : Operator) → carries (number o) ≡ false
operator_bare o = alike_same (carries (number o)) false (each_operator (λ x. alike (carries (number x)) false) tt o)

-- the symbol of that token
abbrev Agrees : List Token → Token → Type 0
Agrees [] t = Unit {0}
Agrees (u ∷ us) t = symbol_of u ≡ symbol_of t

-- what is found for a token with a symbol has it
abbrev Keeps : {A : Type 0} → (Token → A) → (A → List Token) → Type 0
Keeps by token = (y : ℕ) → Agrees (token (by (name_token y))) (name_token y) × Agrees (token (by (literal_token y))) (literal_token y) × Agrees (token (by (numbered_member y))) (numbered_member y)

-- A class of tokens, with the token that each of its cases stands for: a list of that case begins with it.
module _ {A : Type 0} (none : A) (by : Token → A) (token : A → List Token) (past : token none ≡ []) (codes : (y : ℕ) → T (of_tokens (λ t. agrees (token (by t)) t) y)) (keeps : Keeps by token) where
  agree : (t : Token) → T (agrees (token (by t)) t)
  agree = each_token (λ u. agrees (token (by u)) u) codes

  -- a token without a symbol has the symbol 0, and so has one of the same code
  bare : (t : Token) → carries (code t) ≡ false → (l : List Token) → T (agrees l t) → Agrees l t
  bare t n [] k = tt
  bare t n (u ∷ us) k = sign_symbol u (ap carries (eqb→eq (code u) (code t) k) ∙ n) ∙ sym (sign_symbol t n)

  same : (t : Token) → Agrees (token (by t)) t
  same (operator o) = bare (operator o) (operator_bare o) (token (by (operator o))) (agree (operator o))
  same bang = bare bang refl (token (by bang)) (agree bang)
  same and_mut = bare and_mut refl (token (by and_mut)) (agree and_mut)
  same as_token = bare as_token refl (token (by as_token)) (agree as_token)
  same (name_token y) = (keeps y).0
  same (literal_token y) = (keeps y).1
  same dot = bare dot refl (token (by dot)) (agree dot)
  same left_paren = bare left_paren refl (token (by left_paren)) (agree left_paren)
  same right_paren = bare right_paren refl (token (by right_paren)) (agree right_paren)
  same left_bracket = bare left_bracket refl (token (by left_bracket)) (agree left_bracket)
  same right_bracket = bare right_bracket refl (token (by right_bracket)) (agree right_bracket)
  same comma_token = bare comma_token refl (token (by comma_token)) (agree comma_token)
  same question = bare question refl (token (by question)) (agree question)
  same star_const = bare star_const refl (token (by star_const)) (agree star_const)
  same star_mut = bare star_mut refl (token (by star_mut)) (agree star_mut)
  same underscore = bare underscore refl (token (by underscore)) (agree underscore)
  same (numbered_member y) = (keeps y).2
  same await = bare await refl (token (by await)) (agree await)
  same struct_token = bare struct_token refl (token (by struct_token)) (agree struct_token)

  first_of : (ts : List Token) (x : A) → first_by none by ts ≡ x → begun (token x) ts ≡ ts
  first_of [] x q = subst (λ y. begun (token y) [] ≡ []) q (ap (λ l. begun l []) past)
  first_of (t ∷ ts) x q = subst (λ y. begun (token y) (t ∷ ts) ≡ t ∷ ts) q (go (token (by t)) (agree t) (same t))
    where
      go : (l : List Token) → T (agrees l t) → Agrees l t → begun l (t ∷ ts) ≡ t ∷ ts
      go [] k s = refl
      go (u ∷ us) k s = ap (λ y. y ∷ ts) (code_same u t (eqb→eq (code u) (code t) k) s)

abbrev start_token : Start → List Token
start_token no_start = []
start_token (an_atom x) = atom_token x ∷ []
start_token (a_prefix p) = prefix_token p ∷ []
start_token a_group = left_paren ∷ []

pub start_is : (ts : List Token) (x : Start) → start ts ≡ x → begun (start_token x) ts ≡ ts
unfolding start_of lookup pick
start_is = first_of no_start start_of start_token refl (λ y. tt) (λ y. (refl, refl, tt))

abbrev type_start_token : TypeStart → List Token
type_start_token no_type = []
type_start_token (a_name y) = name_token y ∷ []
type_start_token (a_type_prefix p) = type_prefix_token p ∷ []
type_start_token (a_sign x) = type_sign_token x ∷ []

pub type_start_is : (ts : List Token) (x : TypeStart) → type_start ts ≡ x → begun (type_start_token x) ts ≡ ts
unfolding type_start_of lookup pick
type_start_is = first_of no_type type_start_of type_start_token refl (λ y. tt) (λ y. (refl, tt, tt))

abbrev after_dot_token : AfterDot → List Token
after_dot_token no_member = []
after_dot_token (a_member m) = member_token m ∷ []

pub after_dot_is : (ts : List Token) (x : AfterDot) → after_dot ts ≡ x → begun (after_dot_token x) ts ≡ ts
unfolding after_dot_of lookup pick
after_dot_is = first_of no_member after_dot_of after_dot_token refl (λ y. tt) (λ y. (refl, tt, refl))

abbrev next_token : Next → List Token
next_token stops = []
next_token (operates o) = operator o ∷ []
next_token casts_to = as_token ∷ []
next_token dots = dot ∷ []
next_token calls = left_paren ∷ []
next_token indexes = left_bracket ∷ []
next_token tries = question ∷ []

pub next_is : (ts : List Token) (x : Next) → next ts ≡ x → begun (next_token x) ts ≡ ts
next_is = first_of stops next_of next_token refl (λ y. tt) (λ y. (tt, tt, tt))

-- ---- after an item of a list

abbrev item_tokens : Token → AfterItem → List Token → List Token
item_tokens close (closes comma) r = closing comma close (behind comma r)
item_tokens close another r = comma_token ∷ tail r
item_tokens close no_item r = r

pub after_item_is : (close : Token) (r : List Token) (x : AfterItem) → carries (code close) ≡ false → after_item close r ≡ x → item_tokens close x r ≡ r
unfolding after_item
after_item_is close r x k e = subst (λ y. item_tokens close y r ≡ r) e (go (is_first close r) (is_first comma_token r) (is_first close (tail r)) refl refl refl)
  where
    go : (b c d : Bool) → is_first close r ≡ b → is_first comma_token r ≡ c → is_first close (tail r) ≡ d →
        item_tokens close (elim b [ true ↦ closes false | false ↦ elim c [ false ↦ no_item | true ↦ elim d [ true ↦ closes true | false ↦ another ] ] ]) r ≡ r
    go true c d p q s = first_is close r k p
    go false false d p q s = refl
    go false true true p q s = ap (λ z. comma_token ∷ z) (first_is close (tail r) k s) ∙ first_is comma_token r refl q
    go false true false p q s = first_is comma_token r refl q

-- a comma before what does not close the list
pub item_more : (close : Token) (r : List Token) → is_first close (comma_token ∷ r) ≡ false → is_first close r ≡ false → after_item close (comma_token ∷ r) ≡ another
unfolding after_item
item_more close r e h = rw (e, h, after_item)

-- ---- what begins no expression, or no type, is not the first token of one

abbrev pub is_start : Start → Bool
is_start no_start = false
is_start (an_atom x) = true
is_start (a_prefix p) = true
is_start a_group = true

abbrev pub is_type_start : TypeStart → Bool
is_type_start no_type = false
is_type_start (a_name y) = true
is_type_start (a_type_prefix p) = true
is_type_start (a_sign x) = true

-- a test tells two tokens apart, of which the first has no symbol
told : (p : Token → Bool) (t u : Token) (r : List Token) → carries (code t) ≡ false → p t ≡ false → p u ≡ true → is_first t (u ∷ r) ≡ false
told p t u r k n h = go (eqb (code u) (code t)) refl
  where
    go : (b : Bool) → eqb (code u) (code t) ≡ b → b ≡ false
    go true e = true_not_false (sym h ∙ ap p (sym (sign_same t u k (sym (eqb-true (code u) (code t) e)))) ∙ n)
    go false e = refl

pub begins : (t u : Token) (r : List Token) → carries (code t) ≡ false → is_start (start_of t) ≡ false → is_start (start_of u) ≡ true → is_first t (u ∷ r) ≡ false
begins = told (λ t. is_start (start_of t))

pub type_begins : (t u : Token) (r : List Token) → carries (code t) ≡ false → is_type_start (type_start_of t) ≡ false → is_type_start (type_start_of u) ≡ true → is_first t (u ∷ r) ≡ false
type_begins = told (λ t. is_type_start (type_start_of t))
