-- With the pairs a tree fits the grammar, and is the same tree but for parentheses. Assumes nothing.
use mathlib.Core.Path.{◌≡◌, refl, ap, ap₂, ◌∙◌}
use mathlib.Core.Bool.{Bool, true, false, not, ◌&&◌, ◌||◌}
use Prim.Native.Nat.{ℕ, suc, pred, ◌≤◌, ◌<◌}
use native.Mathlib.Omega.{arith}
use lib.Dec.{leb, ltb, leb→le}
use borrow.Author.Tests.{le-leb, ltb-false}
use Rattle.laws.specs.Choice.{pick, lookup}
use Rattle.laws.proofs.Choice.{or_false}
use Rattle.token_grammar.specs.Tokens.{Operator}
use Rattle.token_grammar.specs.Levels.{Kind, casts, prefixes, postfixes, kind, level, leans_right, before, after}
use Rattle.token_grammar.specs.Types.{Sort, one, list, items, type_ends_in_name}
use Rattle.token_grammar.specs.Expressions.{Member, by_name, by_number, awaited, Expr, atom, paren, prefix, binary, cast, member, try, index, call, method, no_arguments, arguments, last_argument, more_arguments, kind_of, ends_in_type_name, ends_in_dot_name, is_struct}
use Rattle.token_grammar.specs.Grammar.{Context, NONE, CONDITION, AtLeast, opens_arguments, OperatorMayFollow, CallMayFollow, excluded, Fits}
use Rattle.token_grammar.specs.Bare.{bare}
use Rattle.token_grammar.proofs.Added.{is_cast_to_name, strength, too_weak, lowest_right, too_weak_after, too_weak_before, too_weak_to_call, with_pair, add_pairs, add_all}
use Rattle.token_grammar.proofs.Tokens.{each_operator}
use Rattle.token_grammar.proofs.Levels.{no_range, operator_le, operator_high, before_low, before_high, after_high}
use Rattle.token_grammar.proofs.Complete.{low}

-- ---- the pairs leave no node

pub with_bare : (p : Bool) (c : Context) (g : Bool) (a : Expr one) → ((d : Context) (h : Bool) → bare (add_pairs a d h) ≡ bare a) → bare (with_pair p c g (add_pairs a)) ≡ bare a
with_bare true c g a h = h NONE false
with_bare false c g a h = h c g

pub bare_pairs : {s : Sort} (e : Expr s) (c : Context) (g : Bool) → bare (add_pairs e c g) ≡ bare e
bare_pairs (atom x) c g = refl
bare_pairs (paren a) c g = bare_pairs a NONE false
bare_pairs (prefix p a) c g = ap (prefix p) (with_bare (too_weak c (after prefixes) g a) c g a (bare_pairs a))
bare_pairs (binary o a b) c g =
    ap₂ (binary o) (with_bare (too_weak_before c o a) c (opens_arguments o) a (bare_pairs a)) (with_bare (too_weak_after c o g b) c g b (bare_pairs b))
bare_pairs (cast a t) c g = ap (λ x. cast x t) (with_bare (too_weak c (before casts) false a) c false a (bare_pairs a))
bare_pairs (member m a) c g = ap (member m) (with_bare (too_weak c (before postfixes) false a) c false a (bare_pairs a))
bare_pairs (try a) c g = ap try (with_bare (too_weak c (before postfixes) false a) c false a (bare_pairs a))
bare_pairs (index a b) c g = ap₂ index (with_bare (too_weak c (before postfixes) false a) c false a (bare_pairs a)) (bare_pairs b NONE false)
bare_pairs (call a l) c g = ap₂ call (with_bare (too_weak_to_call c a) c false a (bare_pairs a)) (bare_pairs l c false)
bare_pairs (method y a l) c g = ap₂ (method y) (with_bare (too_weak c (before postfixes) false a) c false a (bare_pairs a)) (bare_pairs l c false)
bare_pairs no_arguments c g = refl
bare_pairs (arguments l) c g = ap arguments (bare_pairs l c false)
bare_pairs (last_argument comma a) c g = ap (last_argument comma) (bare_pairs a NONE false)
bare_pairs (more_arguments a l) c g = ap₂ more_arguments (bare_pairs a NONE false) (bare_pairs l c false)

-- ---- a node keeps its kind, and where it is strong enough to be called, its end

pub same_kind : (e : Expr one) (c : Context) (g : Bool) → kind_of (add_pairs e c g) ≡ kind_of e
same_kind (atom x) c g = refl
same_kind (paren a) c g = refl
same_kind (prefix p a) c g = refl
same_kind (binary o a b) c g = refl
same_kind (cast a t) c g = refl
same_kind (member m a) c g = refl
same_kind (try a) c g = refl
same_kind (index a b) c g = refl
same_kind (call a l) c g = refl
same_kind (method y a l) c g = refl

same_member : (m : Member) (a b : Expr one) → ends_in_dot_name (member m a) ≡ ends_in_dot_name (member m b)
same_member (by_name y) a b = refl
same_member (by_number y) a b = refl
same_member awaited a b = refl

pub same_dot_name : (e : Expr one) (c : Context) (g : Bool) → AtLeast (before postfixes) e → ends_in_dot_name (add_pairs e c g) ≡ ends_in_dot_name e
same_dot_name (atom x) c g h = refl
same_dot_name (paren a) c g h = refl
same_dot_name (prefix p a) c g h = absurd (omega arith)
same_dot_name (binary o a b) c g h = absurd (omega (arith, operator_high o))
same_dot_name (cast a t) c g h = refl
same_dot_name (member m a) c g h = same_member m (with_pair (too_weak c (before postfixes) false a) c false (add_pairs a)) a
same_dot_name (try a) c g h = refl
same_dot_name (index a b) c g h = refl
same_dot_name (call a l) c g h = refl
same_dot_name (method y a l) c g h = refl

-- ---- levels

pick_zero_le : (p : Bool) (n : ℕ) → pick p 0 n ≤ n
unfolding pick
pick_zero_le true n = omega arith
pick_zero_le false n = omega arith

pub strength_le : (g : Bool) (e : Expr one) → strength g e ≤ level (kind_of e)
unfolding strength
strength_le g e = pick_zero_le (g && is_cast_to_name e) (level (kind_of e))

pub strength_no_range : (g : Bool) (e : Expr one) → strength g e ≤ 2 → strength g e < 2
unfolding strength pick
strength_no_range g e h = go (g && is_cast_to_name e) h
  where
    go : (p : Bool) → pick p 0 (level (kind_of e)) ≤ 2 → pick p 0 (level (kind_of e)) < 2
    go true q = omega arith
    go false q = no_range (kind_of e) q

abbrev pub right_lowest : Kind → ℕ
right_lowest k = lowest_right (leans_right k) (level k)

pub lowest_after : (o : Operator) → right_lowest (kind o) ≤ after (kind o)
unfolding kind lookup pick
lowest_after = operator_le right_lowest after tt

after_lowest : (o : Operator) → after (kind o) ≤ suc (pred (right_lowest (kind o)))
unfolding kind lookup pick
after_lowest = operator_le after (λ k. suc (pred (right_lowest k))) tt

two_lowest : (o : Operator) → 2 ≤ level (kind o) → 2 ≤ right_lowest (kind o)
unfolding kind lookup pick
two_lowest o h =
    leb→le 2 (right_lowest (kind o))
    (rw (le-leb 2 (level (kind o)) h) at (each_operator (λ x. not (leb 2 (level (kind x))) || leb 2 (right_lowest (kind x))) tt o))

enough : (c : Context) (n : ℕ) (g : Bool) (a : Expr one) → too_weak c n g a ≡ false → ltb (strength g a) n ≡ false
enough c n g a q = (or_false (excluded c a) (ltb (strength g a) n) q).1

with_level : (p : Bool) (c : Context) (g : Bool) (n : ℕ) (a : Expr one) → too_weak c n g a ≡ p → n ≤ 15 → AtLeast n (with_pair p c g (add_pairs a))
with_level true c g n a q h = h
with_level false c g n a q h = rw (same_kind a c g) (omega (arith, ltb-false (strength g a) n (enough c n g a q), strength_le g a))

right_level : (p : Bool) (c : Context) (g : Bool) (o : Operator) (b : Expr one) → too_weak_after c o g b ≡ p → AtLeast (after (kind o)) (with_pair p c g (add_pairs b))
right_level true c g o b q = omega (arith, after_high o)
right_level false c g o b q =
    rw (same_kind b c g) (omega (arith, ltb-false (strength g b) (right_lowest (kind o)) (enough c (right_lowest (kind o)) g b q), after_lowest o, strength_le g b, low b))

-- ---- the two rules

-- Under the flag no operand that stands without a pair ends in a type name.
with_end : (p : Bool) (c : Context) (n : ℕ) (a : Expr one) → 2 ≤ n → too_weak c n true a ≡ p → (2 ≤ strength true a → ends_in_type_name (add_pairs a c true) ≡ false) → ends_in_type_name (with_pair p c true (add_pairs a)) ≡ false
with_end true c n a h q ih = refl
with_end false c n a h q ih = ih (omega (arith, ltb-false (strength true a) n (enough c n true a q)))

cast_end : (b : Bool) → 2 ≤ pick b 0 13 → b ≡ false
unfolding pick
cast_end true h = absurd (omega arith)
cast_end false h = refl

no_end : (e : Expr one) (c : Context) → 2 ≤ strength true e → ends_in_type_name (add_pairs e c true) ≡ false
unfolding strength pick
no_end (atom x) c h = refl
no_end (paren a) c h = refl
no_end (prefix p a) c h = with_end (too_weak c (after prefixes) true a) c 14 a (omega arith) refl (no_end a c)
no_end (binary o a b) c h = with_end (too_weak_after c o true b) c (right_lowest (kind o)) b (two_lowest o h) refl (no_end b c)
no_end (cast a t) c h = cast_end (type_ends_in_name t) h
no_end (member m a) c h = refl
no_end (try a) c h = refl
no_end (index a b) c h = refl
no_end (call a l) c h = refl
no_end (method y a l) c h = refl

operator_follows : (p : Bool) (c : Context) (g : Bool) (n : ℕ) (a : Expr one) → 2 ≤ n → too_weak c n g a ≡ p → g && ends_in_type_name (with_pair p c g (add_pairs a)) ≡ false
operator_follows p c true n a h q = with_end p c n a h q (no_end a c)
operator_follows p c false n a h q = refl

left_follows : (c : Context) (o : Operator) (a : Expr one) → OperatorMayFollow o (with_pair (too_weak_before c o a) c (opens_arguments o) (add_pairs a))
left_follows c o a = operator_follows (too_weak_before c o a) c (opens_arguments o) (before (kind o)) a (before_low o) refl

call_level : (p : Bool) (c : Context) (a : Expr one) → too_weak_to_call c a ≡ p → AtLeast (before postfixes) (with_pair p c false (add_pairs a)) × CallMayFollow (with_pair p c false (add_pairs a))
unfolding strength pick
call_level true c a q = (omega arith, refl)
call_level false c a q =
    let d = or_false (too_weak c (before postfixes) false a) (ends_in_dot_name a) q in
    let h : AtLeast (before postfixes) a = ltb-false (level (kind_of a)) 15 (enough c 15 false a d.0) in
    (rw (same_kind a c false) h, same_dot_name a c false h ∙ d.1)

-- ---- with the pairs the tree fits

-- a Struct alone is excluded
pub no_struct : (c : Context) (e : Expr one) → is_struct e ≡ false → excluded c e ≡ false
no_struct NONE e h = refl
no_struct CONDITION e h = h

-- what the context bars must have its pair already
abbrev pub Free : (s : Sort) → Context → Expr s → Type 0
Free one c e = excluded c e ≡ false
Free list c l = Unit {0}
Free items c l = Unit {0}

free : (c : Context) (n : ℕ) (g : Bool) (a : Expr one) → too_weak c n g a ≡ false → excluded c a ≡ false
free c n g a q = (or_false (excluded c a) (ltb (strength g a) n) q).0

free_callee : (c : Context) (a : Expr one) → too_weak_to_call c a ≡ false → excluded c a ≡ false
free_callee c a q = free c 15 false a (or_false (too_weak c (before postfixes) false a) (ends_in_dot_name a) q).0

with_fits : (c : Context) (p g : Bool) (a : Expr one) → (p ≡ false → excluded c a ≡ false) → ((d : Context) (h : Bool) → excluded d a ≡ false → Fits d (add_pairs a d h)) →
    Fits c (with_pair p c g (add_pairs a))
with_fits c true g a k h = h NONE false refl
with_fits c false g a k h = h c g (k refl)

pub fits_pairs : {s : Sort} (e : Expr s) (c : Context) (g : Bool) → Free s c e → Fits c (add_pairs e c g)
fits_pairs (atom x) c g f = f
fits_pairs (paren a) c g f = fits_pairs a NONE false refl
fits_pairs (prefix p a) c g f = (with_level (too_weak c (after prefixes) g a) c g 14 a refl (omega arith), with_fits c (too_weak c (after prefixes) g a) g a (free c 14 g a) (fits_pairs a))
fits_pairs (binary o a b) c g f = (
  with_level (too_weak_before c o a) c (opens_arguments o) (before (kind o)) a refl (omega (arith, before_high o)),
  right_level (too_weak_after c o g b) c g o b refl,
  left_follows c o a,
  with_fits c (too_weak_before c o a) (opens_arguments o) a (free c (before (kind o)) (opens_arguments o) a) (fits_pairs a),
  with_fits c (too_weak_after c o g b) g b (free c (right_lowest (kind o)) g b) (fits_pairs b),
)
fits_pairs (cast a t) c g f = (with_level (too_weak c (before casts) false a) c false 13 a refl (omega arith), with_fits c (too_weak c (before casts) false a) false a (free c 13 false a) (fits_pairs a))
fits_pairs (member m a) c g f = (with_level (too_weak c (before postfixes) false a) c false 15 a refl (omega arith), with_fits c (too_weak c (before postfixes) false a) false a (free c 15 false a) (fits_pairs a))
fits_pairs (try a) c g f = (with_level (too_weak c (before postfixes) false a) c false 15 a refl (omega arith), with_fits c (too_weak c (before postfixes) false a) false a (free c 15 false a) (fits_pairs a))
fits_pairs (index a b) c g f = (
  with_level (too_weak c (before postfixes) false a) c false 15 a refl (omega arith),
  with_fits c (too_weak c (before postfixes) false a) false a (free c 15 false a) (fits_pairs a),
  fits_pairs b NONE false refl,
)
fits_pairs (call a l) c g f =
    let d = call_level (too_weak_to_call c a) c a refl in
    (d.0, d.1, with_fits c (too_weak_to_call c a) false a (free_callee c a) (fits_pairs a), fits_pairs l c false tt)
fits_pairs (method y a l) c g f = (
  with_level (too_weak c (before postfixes) false a) c false 15 a refl (omega arith),
  with_fits c (too_weak c (before postfixes) false a) false a (free c 15 false a) (fits_pairs a),
  fits_pairs l c false tt,
)
fits_pairs no_arguments c g f = tt
fits_pairs (arguments l) c g f = fits_pairs l c false tt
fits_pairs (last_argument comma a) c g f = fits_pairs a NONE false refl
fits_pairs (more_arguments a l) c g f = (fits_pairs a NONE false refl, fits_pairs l c false tt)

-- ---- the whole

pub bare_all : (c : Context) (e : Expr one) → bare (add_all c e) ≡ bare e
bare_all c e = with_bare (excluded c e) c false e (bare_pairs e)

pub fits_all : (c : Context) (e : Expr one) → Fits c (add_all c e)
fits_all c e = with_fits c (excluded c e) false e (λ q. q) (fits_pairs e)
