-- The parser reads back what a fitting tree writes, whatever stands after it that may follow it. Assumes nothing.
use mathlib.Core.Path.{◌≡◌, refl, sym, subst, ap, ◌∙◌}
use mathlib.Core.Bool.{Bool, true, false, ◌&&◌}
use mathlib.Core.List.{List, ◌∷◌}
use Prim.Native.Nat.{ℕ, zero, suc, ◌+◌, ◌-◌, ◌*◌, ◌≤◌, ◌<◌}
use native.Mathlib.Omega.{arith}
use lib.ListN.{length}
use Rattle.laws.specs.Choice.{pick, lookup}
use Rattle.token_grammar.specs.Tokens.{lt, Token, operator, code, as_token, name_token, dot, left_paren, right_paren, left_bracket, right_bracket, comma_token, question, carries}
use Rattle.token_grammar.specs.Levels.{prefixes, kind, level, after}
use Rattle.token_grammar.specs.Bounds.{loosest}
use Rattle.token_grammar.specs.Types.{Sort, one, list, items, Ty, closing, write_type}
use Rattle.token_grammar.specs.Expressions.{Atom, path, literal, structure, Prefix, neg, deref, invert, ref, ref_mut, Member, by_name, by_number, awaited, Expr, atom, paren, prefix, binary, cast, member, try, index, call, method, no_arguments, arguments, last_argument, more_arguments, atom_token, prefix_token, member_token, write, kind_of}
use Rattle.token_grammar.specs.Grammar.{Context, NONE, opens_arguments, excluded, Fits}
use Rattle.token_grammar.specs.Parser.{Out, fail, ok, then, tail, is_first, start_of, an_atom, a_prefix, AfterDot, no_member, a_member, after_dot_of, after_dot, is_by_name, member_symbol, next, AfterItem, closes, another, no_item, after_item, behind, goes_on, type_by, expr_by, on_by, arguments_by, some_arguments_by}
use Rattle.token_grammar.specs.Next.{Next, stops, operates, casts_to, dots, calls, indexes, tries, level_at}
use Rattle.token_grammar.proofs.FirstTokens.{first_is, item_more, is_start, begins}
use Rattle.token_grammar.proofs.Levels.{level_before, operator_low, operator_high, after_low}
use Rattle.token_grammar.proofs.Types.{type_size, reads_type, slack, type_bound, TypeMayEnd}
use Rattle.token_grammar.proofs.Follows.{Follows, goes_on_lem, goes_not, at_end, not_taken}

-- ---- fuel: `cost` is what the left spine uses up, `room` what must then be left

abbrev pub cost : {s : Sort} → Expr s → ℕ
cost (atom x) = 1
cost (paren a) = 1
cost (prefix p a) = 1
cost (binary o a b) = suc (cost a)
cost (cast a t) = suc (cost a)
cost (member m a) = suc (cost a)
cost (try a) = suc (cost a)
cost (index a b) = suc (cost a)
cost (call a l) = suc (cost a)
cost (method y a l) = suc (cost a)
cost no_arguments = 0
cost (arguments l) = 0
cost (last_argument comma a) = 0
cost (more_arguments a l) = 0

abbrev pub room : {s : Sort} → Expr s → ℕ
room (atom x) = 0
room (paren a) = suc (cost a + room a)
room (prefix p a) = suc (cost a + room a)
room (binary o a b) = room a + suc (cost b + room b)
room (cast a t) = room a + type_size t
room (member m a) = room a
room (try a) = room a
room (index a b) = room a + suc (cost b + room b)
room (call a l) = room a + room l
room (method y a l) = room a + room l
room no_arguments = 1
room (arguments l) = suc (room l)
room (last_argument comma a) = suc (suc (cost a + room a))
room (more_arguments a l) = suc (suc (cost a + room a) + room l)

-- twice the tokens are enough
pub bound : (s : Sort) (e : Expr s) (r : List Token) → slack s + cost e + room e + 2 * length r ≤ 2 * length (write e r)
bound s (atom x) r = omega arith
bound s (paren a) r = omega (arith, bound one a (right_paren ∷ r))
bound s (prefix p a) r = omega (arith, bound one a r)
bound s (binary o a b) r = omega (arith, bound one a (operator o ∷ write b r), bound one b r)
bound s (cast a t) r = omega (arith, bound one a (as_token ∷ write_type t r), type_bound one t r)
bound s (member m a) r = omega (arith, bound one a (dot ∷ member_token m ∷ r))
bound s (try a) r = omega (arith, bound one a (question ∷ r))
bound s (index a b) r = omega (arith, bound one a (left_bracket ∷ write b (right_bracket ∷ r)), bound one b (right_bracket ∷ r))
bound s (call a l) r = omega (arith, bound one a (left_paren ∷ write l r), bound list l r)
bound s (method y a l) r = omega (arith, bound one a (dot ∷ name_token y ∷ left_paren ∷ write l r), bound list l r)
bound s no_arguments r = omega arith
bound s (arguments l) r = omega (arith, bound items l r)
bound s (last_argument true a) r = omega (arith, bound one a (comma_token ∷ right_paren ∷ r))
bound s (last_argument false a) r = omega (arith, bound one a (right_paren ∷ r))
bound s (more_arguments a l) r = omega (arith, bound one a (comma_token ∷ write l r), bound items l r)

-- n + f, by steps that leave f as it stands
abbrev up : ℕ → ℕ → ℕ
up zero f = f
up (suc n) f = up n (suc f)

up_add : (n f : ℕ) → up n f ≡ n + f
up_add zero f = omega arith
up_add (suc n) f = omega (arith, up_add n (suc f))

split : (n k f : ℕ) → suc (n + k) ≤ f → (g : ℕ) × (f ≡ up n (suc g)) × (k ≤ suc g)
split n k f h = (f - suc n, omega (arith, up_add n (suc (f - suc n))), omega arith)

-- ---- first tokens

pub start_atom : (x : Atom) → start_of (atom_token x) ≡ an_atom x
unfolding start_of lookup pick
start_atom (path y) = refl
start_atom (literal y) = refl
start_atom structure = refl

pub start_prefix : (p : Prefix) → start_of (prefix_token p) ≡ a_prefix p
unfolding start_of lookup pick
start_prefix neg = refl
start_prefix deref = refl
start_prefix invert = refl
start_prefix ref = refl
start_prefix ref_mut = refl

after_member : (m : Member) → after_dot_of (member_token m) ≡ a_member m
unfolding after_dot_of lookup pick
after_member (by_name y) = refl
after_member (by_number y) = refl
after_member awaited = refl

-- a token that begins no expression does not stand first
expr_first : (u : Token) → carries (code u) ≡ false → is_start (start_of u) ≡ false → (e : Expr one) (r : List Token) → is_first u (write e r) ≡ false
unfolding start_of lookup pick
expr_first u k n (atom x) r = begins u (atom_token x) r k n (ap is_start (start_atom x))
expr_first u k n (paren a) r = begins u left_paren (write a (right_paren ∷ r)) k n refl
expr_first u k n (prefix p a) r = begins u (prefix_token p) (write a r) k n (ap is_start (start_prefix p))
expr_first u k n (binary o a b) r = expr_first u k n a (operator o ∷ write b r)
expr_first u k n (cast a t) r = expr_first u k n a (as_token ∷ write_type t r)
expr_first u k n (member m a) r = expr_first u k n a (dot ∷ member_token m ∷ r)
expr_first u k n (try a) r = expr_first u k n a (question ∷ r)
expr_first u k n (index a b) r = expr_first u k n a (left_bracket ∷ write b (right_bracket ∷ r))
expr_first u k n (call a l) r = expr_first u k n a (left_paren ∷ write l r)
expr_first u k n (method y a l) r = expr_first u k n a (dot ∷ name_token y ∷ left_paren ∷ write l r)

pub items_first : (u : Token) → carries (code u) ≡ false → is_start (start_of u) ≡ false → (l : Expr items) (r : List Token) → is_first u (write l r) ≡ false
items_first u k n (last_argument comma a) r = expr_first u k n a (closing comma right_paren r)
items_first u k n (more_arguments a l) r = expr_first u k n a (comma_token ∷ write l r)

-- ---- one step of a parser whose tests are answered

by_atom : (f : ℕ) (c : Context) (n : ℕ) (x : Atom) (ts : List Token) → excluded c (atom x) ≡ false → expr_by (suc f) c n (atom_token x ∷ ts) ≡ on_by f c n (atom x) ts
unfolding expr_by
by_atom f c n x ts h = rw (start_atom x, h, expr_by)

by_prefix : (f : ℕ) (c : Context) (n : ℕ) (p : Prefix) (ts : List Token) → expr_by (suc f) c n (prefix_token p ∷ ts) ≡ then (expr_by f c (after prefixes) ts) (λ a r. on_by f c n (prefix p a) r)
unfolding expr_by
by_prefix f c n p ts = rw (start_prefix p, expr_by)

pub on_stop : (f : ℕ) (c : Context) (n : ℕ) (e : Expr one) (ts : List Token) → goes_on n e (next ts) ≡ false → on_by (suc f) c n e ts ≡ ok e ts
unfolding on_by
on_stop f c n e ts h = rw (h, on_by)

abbrev pub dot_step : ℕ → Context → ℕ → Expr one → List Token → AfterDot → Out (Expr one)
dot_step f c n e us x =
    elim x [
      | no_member ↦ fail
      | a_member m ↦ elim (is_by_name m && is_first left_paren (tail us)) [
        | true ↦ then (arguments_by f (tail (tail us))) (λ l r. on_by f c n (method (member_symbol m) e l) r)
        | false ↦ on_by f c n (member m e) (tail us)
      ]
    ]

-- what an expression goes on with
abbrev pub on_step : ℕ → Context → ℕ → Expr one → List Token → Next → Out (Expr one)
on_step f c n e ts x =
    elim x [
      | stops ↦ ok e ts
      | operates o ↦ then (expr_by f c (after (kind o)) (tail ts)) (λ b r. on_by f c n (binary o e b) r)
      | casts_to ↦ then (type_by f (tail ts)) (λ t r. on_by f c n (cast e t) r)
      | dots ↦ dot_step f c n e (tail ts) (after_dot (tail ts))
      | calls ↦ then (arguments_by f (tail ts)) (λ l r. on_by f c n (call e l) r)
      | indexes ↦ then (expr_by f NONE loosest (tail ts)) (λ b r. elim (is_first right_bracket r) [ true ↦ on_by f c n (index e b) (tail r) | false ↦ fail ])
      | tries ↦ on_by f c n (try e) (tail ts)
    ]

pub on_step_lem : (f : ℕ) (c : Context) (n : ℕ) (e : Expr one) (ts : List Token) → goes_on n e (next ts) ≡ true → on_by (suc f) c n e ts ≡ on_step f c n e ts (next ts)
unfolding on_by
on_step_lem f c n e ts h = rw (h, on_by)

dot_member : (f : ℕ) (c : Context) (n : ℕ) (e : Expr one) (m : Member) (r : List Token) → is_by_name m && is_first left_paren r ≡ false → dot_step f c n e (member_token m ∷ r) (after_dot_of (member_token m)) ≡ on_by f c n (member m e) r
dot_member f c n e m r h = rw (after_member m, dot_step) (rw h)

by_items : (f : ℕ) (ts : List Token) → is_first right_paren ts ≡ false → arguments_by (suc f) ts ≡ then (some_arguments_by f ts) (λ l r. ok (arguments l) r)
unfolding arguments_by
by_items f ts e = rw (e, arguments_by)

abbrev pub some_step : ℕ → Expr one → List Token → AfterItem → Out (Expr items)
some_step f a r x =
    elim x [
      | closes comma ↦ ok (last_argument comma a) (behind comma r)
      | another ↦ then (some_arguments_by f (tail r)) (λ l q. ok (more_arguments a l) q)
      | no_item ↦ fail
    ]

by_item : (f : ℕ) (a : Expr one) (ts r : List Token) (x : AfterItem) → expr_by f NONE loosest ts ≡ ok a r → after_item right_paren r ≡ x → some_arguments_by (suc f) ts ≡ some_step f a r x
unfolding some_arguments_by
by_item f a ts r x e q = ap (λ o. then o (λ a r. some_step f a r (after_item right_paren r))) e ∙ ap (some_step f a r) q

-- ---- what may follow

-- a cast to a type that ends in a name is not followed by `<`
type_end : (a : Expr one) (t : Ty one) (r : List Token) → Follows (cast a t) (next r) → TypeMayEnd t r
unfolding opens_arguments
type_end a t r h e = go (is_first (operator lt) r) refl
  where
    go : (b : Bool) → is_first (operator lt) r ≡ b → b ≡ false
    go false q = refl
    go true q =
        let k : Follows (cast a t) (next (operator lt ∷ tail r)) = subst (λ x. Follows (cast a t) (next x)) (sym (first_is (operator lt) r refl q)) h in
        sym (sym k.1 ∙ e)

-- a member access by name is not followed by `(`
member_end : (m : Member) (a : Expr one) (r : List Token) → Follows (member m a) (next r) → is_by_name m && is_first left_paren r ≡ false
member_end (by_name y) a r h = go (is_first left_paren r) refl
  where
    go : (b : Bool) → is_first left_paren r ≡ b → b ≡ false
    go false q = refl
    go true q =
        let k : Follows (member (by_name y) a) (next (left_paren ∷ tail r)) = subst (λ x. Follows (member (by_name y) a) (next x)) (sym (first_is left_paren r refl q)) h in
        k.1
member_end (by_number y) a r h = refl
member_end awaited a r h = refl

pub low : (e : Expr one) → 1 ≤ level (kind_of e)
low (atom x) = omega arith
low (paren a) = omega arith
low (prefix p a) = omega arith
low (binary o a b) = operator_low o
low (cast a t) = omega arith
low (member m a) = omega arith
low (try a) = omega arith
low (index a b) = omega arith
low (call a l) = omega arith
low (method y a l) = omega arith

-- ---- to parse what e writes is to go on with e

abbrev pub Reads : (s : Sort) → Context → Expr s → Type 0
Reads one c e =
    (n f : ℕ) (r : List Token) → room e ≤ f → n ≤ level (kind_of e) → Follows e (next r) →
    expr_by (up (cost e) f) c n (write e r) ≡ on_by f c n e r
Reads list c l = (f : ℕ) (r : List Token) → room l ≤ f → arguments_by f (write l r) ≡ ok l r
Reads items c l = (f : ℕ) (r : List Token) → room l ≤ f → some_arguments_by f (write l r) ≡ ok l r

-- the same of one fuel
abbrev ListBy : Expr list → ℕ → Type 0
ListBy l f = (r : List Token) → room l ≤ f → arguments_by f (write l r) ≡ ok l r

abbrev ItemsBy : Expr items → ℕ → Type 0
ItemsBy l f = (r : List Token) → room l ≤ f → some_arguments_by f (write l r) ≡ ok l r

-- A whole operand is read where what follows is not taken at the operand's place.
pub reads_whole : (c : Context) (e : Expr one) → Reads one c e → (n f : ℕ) (r : List Token) → suc (cost e + room e) ≤ f → n ≤ level (kind_of e) →
    Follows e (next r) → level_at (next r) < n → expr_by f c n (write e r) ≡ ok e r
reads_whole c e ih n f r h k p q =
    let s = split (cost e) (room e) f h in
    subst (λ g. expr_by g c n (write e r) ≡ ok e r) (sym s.1)
    (ih n (suc s.0) r s.2 k p ∙ on_stop s.0 c n e r (goes_not n e (next r) q))

pub reads : (s : Sort) (c : Context) (e : Expr s) → Fits c e → Reads s c e
unfolding expr_by on_by arguments_by some_arguments_by after_item start_of after_dot_of lookup pick
reads s c (atom x) k = λ n f r h l p. by_atom f c n x r k
reads s c (paren a) k =
    λ n f r h l p. rw (reads_whole NONE a (reads one NONE a k) 1 f (right_paren ∷ r) h (low a) tt (omega arith))
reads s c (prefix p a) k = λ n f r h l q.
    by_prefix f c n p (write a r)
    ∙ rw (reads_whole c a (reads one c a k.1) 14 f r h k.0 (at_end (prefix p a) a (next r) k.0 (omega arith) refl q) (not_taken (prefix p a) (next r) q))
reads s c (binary o a b) k = λ n f r h l q.
    reads one c a k.3 n (suc f) (operator o ∷ write b r) (omega arith) (omega (arith, k.0, level_before (kind o))) (k.0, k.2)
    ∙ on_step_lem f c n a (operator o ∷ write b r) (goes_on_lem n a (operates o) l (k.0, k.2))
    ∙ rw (reads_whole c b (reads one c b k.4) (after (kind o)) f r (omega arith) k.1
    (at_end (binary o a b) b (next r) (omega (arith, after_low o, k.1)) (omega (arith, operator_high o)) refl q)
    (not_taken (binary o a b) (next r) q))
reads s c (cast a t) k = λ n f r h l q.
    reads one c a k.1 n (suc f) (as_token ∷ write_type t r) (omega arith) (omega (arith, k.0)) k.0
    ∙ on_step_lem f c n a (as_token ∷ write_type t r) (goes_on_lem n a casts_to l k.0)
    ∙ rw (reads_type one f t (omega arith) r (type_end a t r q))
reads s c (member m a) k = λ n f r h l q.
    reads one c a k.1 n (suc f) (dot ∷ member_token m ∷ r) (omega arith) (omega (arith, k.0)) k.0
    ∙ on_step_lem f c n a (dot ∷ member_token m ∷ r) (goes_on_lem n a dots l k.0)
    ∙ dot_member f c n a m r (member_end m a r q)
reads s c (try a) k = λ n f r h l q.
    reads one c a k.1 n (suc f) (question ∷ r) (omega arith) (omega (arith, k.0)) k.0
    ∙ on_step_lem f c n a (question ∷ r) (goes_on_lem n a tries l k.0)
reads s c (index a b) k = λ n f r h l q.
    reads one c a k.1 n (suc f) (left_bracket ∷ write b (right_bracket ∷ r)) (omega arith) (omega (arith, k.0)) k.0
    ∙ on_step_lem f c n a (left_bracket ∷ write b (right_bracket ∷ r)) (goes_on_lem n a indexes l k.0)
    ∙ rw (reads_whole NONE b (reads one NONE b k.2) 1 f (right_bracket ∷ r) (omega arith) (low b) tt (omega arith))
reads s c (call a ls) k = λ n f r h l q.
    reads one c a k.2 n (suc f) (left_paren ∷ write ls r) (omega arith) (omega (arith, k.0)) (k.0, k.1)
    ∙ on_step_lem f c n a (left_paren ∷ write ls r) (goes_on_lem n a calls l (k.0, k.1))
    ∙ rw (reads list c ls k.3 f r (omega arith))
reads s c (method y a ls) k = λ n f r h l q.
    reads one c a k.1 n (suc f) (dot ∷ name_token y ∷ left_paren ∷ write ls r) (omega arith) (omega (arith, k.0)) k.0
    ∙ on_step_lem f c n a (dot ∷ name_token y ∷ left_paren ∷ write ls r) (goes_on_lem n a dots l k.0)
    ∙ rw (reads list c ls k.2 f r (omega arith))
reads s c no_arguments k = λ f. elim f as (ListBy no_arguments) [ zero ↦ λ r h. absurd (omega arith) | suc g ↦ λ r h. refl ]
reads s c (arguments l) k = λ f. elim f as (ListBy (arguments l)) [
  | zero ↦ λ r h. absurd (omega arith)
  | suc g ↦ λ r h. by_items g (write l r) (items_first right_paren refl refl l r) ∙ rw (reads items c l k g r (omega arith))
]
reads s c (last_argument true a) k = λ f. elim f as (ItemsBy (last_argument true a)) [
  | zero ↦ λ r h. absurd (omega arith)
  | suc g ↦ λ r h. by_item g a _ _ (closes true) (reads_whole NONE a (reads one NONE a k) loosest g (comma_token ∷ right_paren ∷ r) (omega arith) (low a) tt (omega arith)) refl
]
reads s c (last_argument false a) k = λ f. elim f as (ItemsBy (last_argument false a)) [
  | zero ↦ λ r h. absurd (omega arith)
  | suc g ↦ λ r h. by_item g a _ _ (closes false) (reads_whole NONE a (reads one NONE a k) loosest g (right_paren ∷ r) (omega arith) (low a) tt (omega arith)) refl
]
reads s c (more_arguments a l) k = λ f. elim f as (ItemsBy (more_arguments a l)) [
  | zero ↦ λ r h. absurd (omega arith)
  | suc g ↦ λ r h.
      by_item g a _ _ another (reads_whole NONE a (reads one NONE a k.0) loosest g (comma_token ∷ write l r) (omega arith) (low a) tt (omega arith)) (item_more right_paren (write l r) refl (items_first right_paren refl refl l r))
      ∙ rw (reads items c l k.1 g r (omega arith))
]
