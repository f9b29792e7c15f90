-- The parser of types reads back what is written, and writes what it read. Assumes nothing.
use mathlib.Core.Path.{◌≡◌, refl, ap, ◌∙◌}
use mathlib.Core.Bool.{Bool, true, false}
use mathlib.Core.List.{List, ◌∷◌}
use Prim.Native.Nat.{ℕ, zero, suc, ◌+◌, ◌*◌, ◌≤◌}
use native.Mathlib.Omega.{arith}
use lib.ListN.{length}
use Rattle.laws.specs.Choice.{pick, lookup}
use Rattle.token_grammar.specs.Tokens.{lt, gt, Token, operator, code, comma_token, name_token, carries}
use Rattle.token_grammar.specs.Types.{Sort, one, list, items, TypePrefix, const_ptr, mut_ptr, shared_ref, mut_ref, TypeSign, infer, never, Ty, named, applied, pointing, sign, no_types, types, last_type, more_types, type_prefix_token, type_sign_token, closing, write_type, type_ends_in_name}
use Rattle.token_grammar.specs.Parser.{Out, fail, ok, then, tail, is_first, TypeStart, no_type, a_name, a_type_prefix, a_sign, type_start_of, type_start, AfterItem, closes, another, no_item, after_item, behind, type_by, types_by, some_types_by}
use Rattle.token_grammar.proofs.FirstTokens.{first_is, type_start_is, after_item_is, item_more, is_type_start, type_begins}
use Rattle.token_grammar.proofs.Answers.{Good, good_then}

-- ---- what is written is read back

-- fuel
abbrev pub type_size : {s : Sort} → Ty s → ℕ
type_size (named y) = 1
type_size (applied y l) = suc (type_size l)
type_size (pointing p t) = suc (type_size t)
type_size (sign x) = 1
type_size no_types = 1
type_size (types l) = suc (type_size l)
type_size (last_type comma t) = suc (type_size t)
type_size (more_types t l) = suc (type_size t + type_size l)

size_positive : {s : Sort} (t : Ty s) → 1 ≤ type_size t
size_positive (named y) = omega arith
size_positive (applied y l) = omega arith
size_positive (pointing p t) = omega arith
size_positive (sign x) = omega arith
size_positive no_types = omega arith
size_positive (types l) = omega arith
size_positive (last_type comma t) = omega arith
size_positive (more_types t l) = omega arith

pub start_prefix : (p : TypePrefix) → type_start_of (type_prefix_token p) ≡ a_type_prefix p
unfolding type_start_of lookup pick
start_prefix const_ptr = refl
start_prefix mut_ptr = refl
start_prefix shared_ref = refl
start_prefix mut_ref = refl

pub start_sign : (x : TypeSign) → type_start_of (type_sign_token x) ≡ a_sign x
unfolding type_start_of lookup pick
start_sign infer = refl
start_sign never = refl

-- a token that begins no type does not stand first
type_first : (u : Token) → carries (code u) ≡ false → is_type_start (type_start_of u) ≡ false → (t : Ty one) (r : List Token) → is_first u (write_type t r) ≡ false
unfolding type_start_of lookup pick
type_first u k n (named y) r = type_begins u (name_token y) r k n refl
type_first u k n (applied y l) r = type_begins u (name_token y) (operator lt ∷ write_type l r) k n refl
type_first u k n (pointing p t) r = type_begins u (type_prefix_token p) (write_type t r) k n (ap is_type_start (start_prefix p))
type_first u k n (sign x) r = type_begins u (type_sign_token x) r k n (ap is_type_start (start_sign x))

pub items_first : (u : Token) → carries (code u) ≡ false → is_type_start (type_start_of u) ≡ false → (l : Ty items) (r : List Token) → is_first u (write_type l r) ≡ false
items_first u k n (last_type comma t) r = type_first u k n t (closing comma (operator gt) r)
items_first u k n (more_types t l) r = type_first u k n t (comma_token ∷ write_type l r)

-- one step of a parser whose test is answered
by_prefix : (f : ℕ) (p : TypePrefix) (ts : List Token) → type_by (suc f) (type_prefix_token p ∷ ts) ≡ then (type_by f ts) (λ t r. ok (pointing p t) r)
unfolding type_by
by_prefix f p ts = rw (start_prefix p, type_by)

by_sign : (f : ℕ) (x : TypeSign) (ts : List Token) → type_by (suc f) (type_sign_token x ∷ ts) ≡ ok (sign x) ts
unfolding type_by
by_sign f x ts = rw (start_sign x, type_by)

by_items : (f : ℕ) (ts : List Token) → is_first (operator gt) ts ≡ false → types_by (suc f) ts ≡ then (some_types_by f ts) (λ l r. ok (types l) r)
unfolding types_by
by_items f ts e = rw (e, types_by)

abbrev some_types_step : ℕ → Ty one → List Token → AfterItem → Out (Ty items)
some_types_step f t r x =
    elim x [
      | closes comma ↦ ok (last_type comma t) (behind comma r)
      | another ↦ then (some_types_by f (tail r)) (λ l q. ok (more_types t l) q)
      | no_item ↦ fail
    ]

by_item : (f : ℕ) (t : Ty one) (ts r : List Token) (x : AfterItem) → type_by f ts ≡ ok t r → after_item (operator gt) r ≡ x → some_types_by (suc f) ts ≡ some_types_step f t r x
unfolding some_types_by
by_item f t ts r x e q = ap (λ o. then o (λ t r. some_types_step f t r (after_item (operator gt) r))) e ∙ ap (some_types_step f t r) q

-- A type that ends in a name is not followed by `<`.
abbrev pub TypeMayEnd : Ty one → List Token → Type 0
TypeMayEnd t r = type_ends_in_name t ≡ true → is_first (operator lt) r ≡ false

abbrev pub ReadsType : (s : Sort) → ℕ → Ty s → Type 0
ReadsType one f t = (r : List Token) → TypeMayEnd t r → type_by f (write_type t r) ≡ ok t r
ReadsType list f l = (r : List Token) → types_by f (write_type l r) ≡ ok l r
ReadsType items f l = (r : List Token) → some_types_by f (write_type l r) ≡ ok l r

pub reads_type : (s : Sort) (f : ℕ) (t : Ty s) → type_size t ≤ f → ReadsType s f t
unfolding type_by types_by some_types_by after_item type_start_of lookup pick
reads_type s zero t h = absurd (omega (arith, size_positive t))
reads_type s (suc f) (named y) h = λ r e. rw (e refl, type_by)
reads_type s (suc f) (applied y l) h = λ r e. rw (reads_type list f l (omega arith) r)
reads_type s (suc f) (pointing p t) h = λ r e. by_prefix f p (write_type t r) ∙ rw (reads_type one f t (omega arith) r e)
reads_type s (suc f) (sign x) h = λ r e. by_sign f x r
reads_type s (suc f) no_types h = λ r. refl
reads_type s (suc f) (types l) h = λ r. by_items f (write_type l r) (items_first (operator gt) refl refl l r) ∙ rw (reads_type items f l (omega arith) r)
reads_type s (suc f) (last_type true t) h =
    λ r. by_item f t (write_type t (comma_token ∷ operator gt ∷ r)) _ (closes true) (reads_type one f t (omega arith) (comma_token ∷ operator gt ∷ r) (λ e. refl)) refl
reads_type s (suc f) (last_type false t) h =
    λ r. by_item f t (write_type t (operator gt ∷ r)) _ (closes false) (reads_type one f t (omega arith) (operator gt ∷ r) (λ e. refl)) refl
reads_type s (suc f) (more_types t l) h = λ r.
    by_item f t (write_type t (comma_token ∷ write_type l r)) _ another (reads_type one f t (omega arith) (comma_token ∷ write_type l r) (λ e. refl)) (item_more (operator gt) (write_type l r) refl (items_first (operator gt) refl refl l r))
    ∙ rw (reads_type items f l (omega arith) r)

-- The fuel is at most twice the tokens.
abbrev pub slack : Sort → ℕ
slack one = 1
slack list = 0
slack items = 1

pub type_bound : (s : Sort) (t : Ty s) (r : List Token) → slack s + type_size t + 2 * length r ≤ 2 * length (write_type t r)
type_bound s (named y) r = omega arith
type_bound s (applied y l) r = omega (arith, type_bound list l r)
type_bound s (pointing p t) r = omega (arith, type_bound one t r)
type_bound s (sign x) r = omega arith
type_bound s no_types r = omega arith
type_bound s (types l) r = omega (arith, type_bound items l r)
type_bound s (last_type true t) r = omega (arith, type_bound one t (comma_token ∷ operator gt ∷ r))
type_bound s (last_type false t) r = omega (arith, type_bound one t (operator gt ∷ r))
type_bound s (more_types t l) r = omega (arith, type_bound one t (comma_token ∷ write_type l r), type_bound items l r)

-- ---- what is read was written

abbrev pub TypeSound : {s : Sort} → List Token → Ty s → List Token → Type 0
TypeSound ts t r = write_type t r ≡ ts

abbrev pub TypeSounds : ℕ → Type 0
TypeSounds f =
    ((ts : List Token) → Good (TypeSound ts) (type_by f ts))
    × ((ts : List Token) → Good (TypeSound ts) (types_by f ts))
    × ((ts : List Token) → Good (TypeSound ts) (some_types_by f ts))

-- the parsers once their tests are answered
abbrev type_step : ℕ → List Token → TypeStart → Bool → Out (Ty one)
type_step f ts x y =
    elim x [
      | no_type ↦ fail
      | a_name m ↦ elim y [ true ↦ then (types_by f (tail (tail ts))) (λ l r. ok (applied m l) r) | false ↦ ok (named m) (tail ts) ]
      | a_type_prefix p ↦ then (type_by f (tail ts)) (λ t r. ok (pointing p t) r)
      | a_sign z ↦ ok (sign z) (tail ts)
    ]

abbrev types_step : ℕ → List Token → Bool → Out (Ty list)
types_step f ts y = elim y [ true ↦ ok no_types (tail ts) | false ↦ then (some_types_by f ts) (λ l r. ok (types l) r) ]

module _ (f : ℕ) (ih : TypeSounds f) (ts : List Token) where
  sound_type : (x : TypeStart) (y : Bool) → type_start ts ≡ x → is_first (operator lt) (tail ts) ≡ y → Good (TypeSound {s = one} ts) (type_step f ts x y)
  sound_type no_type y e q = tt
  sound_type (a_name m) true e q =
      let u : name_token m ∷ tail ts ≡ ts = type_start_is ts (a_name m) e in
      let v = first_is (operator lt) (tail ts) refl q in
      good_then (TypeSound {s = list} (tail (tail ts))) (TypeSound {s = one} ts) (types_by f (tail (tail ts))) (λ l r. ok (applied m l) r) (ih.1 (tail (tail ts)))
      (λ l r h. cc)
  sound_type (a_name m) false e q = type_start_is ts (a_name m) e
  sound_type (a_type_prefix p) y e q =
      let u : type_prefix_token p ∷ tail ts ≡ ts = type_start_is ts (a_type_prefix p) e in
      good_then (TypeSound {s = one} (tail ts)) (TypeSound {s = one} ts) (type_by f (tail ts)) (λ t r. ok (pointing p t) r) (ih.0 (tail ts))
      (λ t r h. cc)
  sound_type (a_sign x) y e q = type_start_is ts (a_sign x) e

  sound_types : (y : Bool) → is_first (operator gt) ts ≡ y → Good (TypeSound {s = list} ts) (types_step f ts y)
  sound_types true q = first_is (operator gt) ts refl q
  sound_types false q = good_then (TypeSound {s = items} ts) (TypeSound {s = list} ts) (some_types_by f ts) (λ l r. ok (types l) r) (ih.2 ts) (λ l r h. h)

  sound_some : (t : Ty one) (r : List Token) → TypeSound ts t r → (x : AfterItem) → after_item (operator gt) r ≡ x → Good (TypeSound {s = items} ts) (some_types_step f t r x)
  sound_some t r h (closes comma) p = ap (write_type t) (after_item_is (operator gt) r (closes comma) refl p) ∙ h
  sound_some t r h another p =
      let v = after_item_is (operator gt) r another refl p in
      good_then (TypeSound {s = items} (tail r)) (TypeSound {s = items} ts) (some_types_by f (tail r)) (λ l w. ok (more_types t l) w) (ih.2 (tail r))
      (λ l w k. cc)
  sound_some t r h no_item p = tt

pub type_sound : (f : ℕ) → TypeSounds f
unfolding type_by types_by some_types_by
type_sound zero = (λ ts. tt, λ ts. tt, λ ts. tt)
type_sound (suc f) =
    let ih = type_sound f in (
      λ ts. sound_type f ih ts (type_start ts) (is_first (operator lt) (tail ts)) refl refl,
      λ ts. sound_types f ih ts (is_first (operator gt) ts) refl,
      λ ts. good_then (TypeSound {s = one} ts) (TypeSound {s = items} ts) (type_by f ts) (λ t r. some_types_step f t r (after_item (operator gt) r)) (ih.0 ts)
          (λ t r h. sound_some f ih ts t r h (after_item (operator gt) r) refl),
    )
