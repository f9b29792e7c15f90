-- A parser of the plain grammar as a function: precedence climbing, with fuel. Nothing here is to be believed: proofs/Readings says what it gives.
use Rattle.std.specs.Prelude.{Bool, true, false, not, ◌&&◌, List, [], ◌∷◌, ℕ, zero, suc, ◌*◌, leb, eqb, length}
use Rattle.laws.specs.Choice.{Line, line, lookup}
use Rattle.token_grammar.specs.Tokens.{sub, mul, bit_and, lt, gt, number, Token, operator, code, symbol_of, bang, and_mut, name_token, literal_token, left_paren, right_paren, right_bracket, comma_token, star_const, star_mut, underscore, numbered_member, await, struct_token}
use Rattle.token_grammar.specs.Levels.{casts, prefixes, postfixes, kind, level, before, after}
use Rattle.token_grammar.specs.Bounds.{loosest}
use Rattle.token_grammar.specs.Next.{Next, stops, operates, casts_to, dots, calls, indexes, tries, next_of, level_at}
use Rattle.token_grammar.specs.Types.{one, list, items, TypePrefix, const_ptr, mut_ptr, shared_ref, mut_ref, TypeSign, infer, never, Ty, named, applied, pointing, sign, no_types, types, last_type, more_types}
use Rattle.token_grammar.specs.Expressions.{Atom, path, literal, structure, Prefix, neg, deref, invert, ref, ref_mut, Member, by_name, by_number, awaited, Expr, atom, paren, prefix, binary, cast, member, try, index, call, method, no_arguments, arguments, last_argument, more_arguments, kind_of, ends_in_type_name, ends_in_dot_name}
use Rattle.token_grammar.specs.Grammar.{Context, NONE, opens_arguments, excluded}

-- no answer, or one with the tokens that were not read
pub data Out (A : Type 0) : Type 0 where
  fail : Out A
  ok : A → List Token → Out A

abbrev pub then : {A B : Type 0} → Out A → (A → List Token → Out B) → Out B
then fail k = fail
then (ok a rest) k = k a rest

-- ---- what the first tokens say, by their codes

abbrev pub tail : List Token → List Token
tail [] = []
tail (t ∷ ts) = ts

abbrev pub is_first : Token → List Token → Bool
is_first t [] = false
is_first t (u ∷ ts) = eqb (code u) (code t)

abbrev pub first_by : {A : Type 0} → A → (Token → A) → List Token → A
first_by none by [] = none
first_by none by (t ∷ ts) = by t

-- where an expression is due
pub data Start : Type 0 where
  no_start : Start
  an_atom : Atom → Start
  a_prefix : Prefix → Start
  a_group : Start

-- by a token's code and its symbol
abbrev pub start_lines : ℕ → List (Line Start)
start_lines y =
    line (number sub ∷ []) (a_prefix neg) ∷
    line (number mul ∷ []) (a_prefix deref) ∷
    line (number bit_and ∷ []) (a_prefix ref) ∷
    line (code bang ∷ []) (a_prefix invert) ∷
    line (code and_mut ∷ []) (a_prefix ref_mut) ∷
    line (code (name_token y) ∷ []) (an_atom (path y)) ∷
    line (code (literal_token y) ∷ []) (an_atom (literal y)) ∷
    line (code left_paren ∷ []) a_group ∷
    line (code struct_token ∷ []) (an_atom structure) ∷
    []

abbrev pub start_by : ℕ → ℕ → Start
start_by n y = lookup (start_lines y) no_start n

unfoldable pub start_of : Token → Start
start_of t = start_by (code t) (symbol_of t)

abbrev pub start : List Token → Start
start ts = first_by no_start start_of ts

-- where a type is due
pub data TypeStart : Type 0 where
  no_type : TypeStart
  a_name : ℕ → TypeStart
  a_type_prefix : TypePrefix → TypeStart
  a_sign : TypeSign → TypeStart

abbrev pub type_start_lines : ℕ → List (Line TypeStart)
type_start_lines y =
    line (number bit_and ∷ []) (a_type_prefix shared_ref) ∷
    line (code bang ∷ []) (a_sign never) ∷
    line (code and_mut ∷ []) (a_type_prefix mut_ref) ∷
    line (code (name_token y) ∷ []) (a_name y) ∷
    line (code star_const ∷ []) (a_type_prefix const_ptr) ∷
    line (code star_mut ∷ []) (a_type_prefix mut_ptr) ∷
    line (code underscore ∷ []) (a_sign infer) ∷
    []

abbrev pub type_start_by : ℕ → ℕ → TypeStart
type_start_by n y = lookup (type_start_lines y) no_type n

unfoldable pub type_start_of : Token → TypeStart
type_start_of t = type_start_by (code t) (symbol_of t)

abbrev pub type_start : List Token → TypeStart
type_start ts = first_by no_type type_start_of ts

-- after a dot
pub data AfterDot : Type 0 where
  no_member : AfterDot
  a_member : Member → AfterDot

abbrev pub after_dot_lines : ℕ → List (Line AfterDot)
after_dot_lines y =
    line (code (name_token y) ∷ []) (a_member (by_name y)) ∷
    line (code (numbered_member y) ∷ []) (a_member (by_number y)) ∷
    line (code await ∷ []) (a_member awaited) ∷
    []

abbrev pub after_dot_by : ℕ → ℕ → AfterDot
after_dot_by n y = lookup (after_dot_lines y) no_member n

unfoldable pub after_dot_of : Token → AfterDot
after_dot_of t = after_dot_by (code t) (symbol_of t)

abbrev pub after_dot : List Token → AfterDot
after_dot ts = first_by no_member after_dot_of ts

abbrev pub is_by_name : Member → Bool
is_by_name (by_name y) = true
is_by_name (by_number y) = false
is_by_name awaited = false

abbrev pub member_symbol : Member → ℕ
member_symbol (by_name y) = y
member_symbol (by_number y) = y
member_symbol awaited = 0

-- after an expression
abbrev pub next : List Token → Next
next ts = first_by stops next_of ts

-- after an item of a list: the sign that closes the list, perhaps behind one comma; a comma before another item; neither
pub data AfterItem : Type 0 where
  closes : Bool → AfterItem
  another no_item : AfterItem

unfoldable pub after_item : Token → List Token → AfterItem
after_item close r =
    elim (is_first close r) [
      | true ↦ closes false
      | false ↦ elim (is_first comma_token r) [ false ↦ no_item | true ↦ elim (is_first close (tail r)) [ true ↦ closes true | false ↦ another ] ]
    ]

-- the tokens behind the sign that closes the list
abbrev pub behind : Bool → List Token → List Token
behind true r = tail (tail r)
behind false r = tail r

-- whether it may follow an expression
abbrev pub follows : Expr one → Next → Bool
follows e stops = true
follows e (operates o) = leb (before (kind o)) (level (kind_of e)) && not (opens_arguments o && ends_in_type_name e)
follows e casts_to = leb (before casts) (level (kind_of e))
follows e dots = leb (before postfixes) (level (kind_of e))
follows e calls = leb (before postfixes) (level (kind_of e)) && not (ends_in_dot_name e)
follows e indexes = leb (before postfixes) (level (kind_of e))
follows e tries = leb (before postfixes) (level (kind_of e))

-- whether an expression goes on with it where the lowest level is n
unfoldable pub goes_on : ℕ → Expr one → Next → Bool
goes_on n e x = leb n (level_at x) && follows e x

-- ---- the parsers

unfoldable mutual
  pub type_by : ℕ → List Token → Out (Ty one)
  type_by zero ts = fail
  type_by (suc f) ts =
      elim (type_start ts) [
        | no_type ↦ fail
        | a_name y ↦ elim (is_first (operator lt) (tail ts)) [ true ↦ then (types_by f (tail (tail ts))) (λ l r. ok (applied y l) r) | false ↦ ok (named y) (tail ts) ]
        | a_type_prefix p ↦ then (type_by f (tail ts)) (λ t r. ok (pointing p t) r)
        | a_sign x ↦ ok (sign x) (tail ts)
      ]

  pub types_by : ℕ → List Token → Out (Ty list)
  types_by zero ts = fail
  types_by (suc f) ts = elim (is_first (operator gt) ts) [ true ↦ ok no_types (tail ts) | false ↦ then (some_types_by f ts) (λ l r. ok (types l) r) ]

  pub some_types_by : ℕ → List Token → Out (Ty items)
  some_types_by zero ts = fail
  some_types_by (suc f) ts =
      then (type_by f ts) (λ t r.
      elim (after_item (operator gt) r) [
        | closes comma ↦ ok (last_type comma t) (behind comma r)
        | another ↦ then (some_types_by f (tail r)) (λ l q. ok (more_types t l) q)
        | no_item ↦ fail
      ])

unfoldable mutual
  -- an expression of level n or more
  pub expr_by : ℕ → Context → ℕ → List Token → Out (Expr one)
  expr_by zero c n ts = fail
  expr_by (suc f) c n ts =
      elim (start ts) [
        | no_start ↦ fail
        | an_atom x ↦ elim (excluded c (atom x)) [ true ↦ fail | false ↦ on_by f c n (atom x) (tail ts) ]
        | a_prefix p ↦ then (expr_by f c (after prefixes) (tail ts)) (λ a r. on_by f c n (prefix p a) r)
        | a_group ↦ then (expr_by f NONE loosest (tail ts)) (λ a r. elim (is_first right_paren r) [ true ↦ on_by f c n (paren a) (tail r) | false ↦ fail ])
      ]

  -- an expression that begins with e, which was read
  pub on_by : ℕ → Context → ℕ → Expr one → List Token → Out (Expr one)
  on_by zero c n e ts = fail
  on_by (suc f) c n e ts =
      elim (goes_on n e (next ts)) [
        | false ↦ ok e ts
        | true ↦ elim (next ts) [
          | stops ↦ ok e ts
          | operates o ↦ then (expr_by f c (after (kind o)) (tail ts)) (λ b r. on_by f c n (binary o e b) r)
          | casts_to ↦ then (type_by f (tail ts)) (λ t r. on_by f c n (cast e t) r)
          | dots ↦ elim (after_dot (tail ts)) [
            | no_member ↦ fail
            | a_member m ↦ elim (is_by_name m && is_first left_paren (tail (tail ts))) [
              | true ↦ then (arguments_by f (tail (tail (tail ts)))) (λ l r. on_by f c n (method (member_symbol m) e l) r)
              | false ↦ on_by f c n (member m e) (tail (tail ts))
            ]
          ]
          | calls ↦ then (arguments_by f (tail ts)) (λ l r. on_by f c n (call e l) r)
          | indexes ↦ then (expr_by f NONE loosest (tail ts)) (λ b r. elim (is_first right_bracket r) [ true ↦ on_by f c n (index e b) (tail r) | false ↦ fail ])
          | tries ↦ on_by f c n (try e) (tail ts)
        ]
      ]

  pub arguments_by : ℕ → List Token → Out (Expr list)
  arguments_by zero ts = fail
  arguments_by (suc f) ts = elim (is_first right_paren ts) [ true ↦ ok no_arguments (tail ts) | false ↦ then (some_arguments_by f ts) (λ l r. ok (arguments l) r) ]

  pub some_arguments_by : ℕ → List Token → Out (Expr items)
  some_arguments_by zero ts = fail
  some_arguments_by (suc f) ts =
      then (expr_by f NONE loosest ts) (λ a r.
      elim (after_item right_paren r) [
        | closes comma ↦ ok (last_argument comma a) (behind comma r)
        | another ↦ then (some_arguments_by f (tail r)) (λ l q. ok (more_arguments a l) q)
        | no_item ↦ fail
      ])

-- twice the tokens are fuel enough
unfoldable pub parse : Context → List Token → Out (Expr one)
parse c ts = expr_by (2 * length ts) c loosest ts
