-- Without one of its pairs a tree does not fit, though it is the same tree but for parentheses. Assumes nothing.
use mathlib.Core.Path.{◌≡◌, refl, sym, subst, ap, ap₂, ◌∙◌}
use mathlib.Core.Bool.{Bool, true, false, ◌&&◌, ◌||◌}
use mathlib.Core.Logic.{inl, inr}
use Prim.Native.Nat.{ℕ, ◌<◌}
use native.Mathlib.Omega.{arith}
use lib.Dec.{ltb}
use borrow.Author.Tests.{ltb-true, le-ltb}
use Rattle.laws.specs.Choice.{pick}
use Rattle.laws.proofs.Choice.{true_not_false}
use Rattle.token_grammar.specs.Tokens.{Operator}
use Rattle.token_grammar.specs.Levels.{casts, prefixes, postfixes, kind, level, before, after}
use Rattle.token_grammar.specs.Types.{Sort, one, list, items}
use Rattle.token_grammar.specs.Expressions.{path, literal, structure, Expr, atom, paren, prefix, binary, cast, member, try, index, call, method, no_arguments, arguments, last_argument, more_arguments, kind_of, ends_in_type_name, ends_in_dot_name, is_struct}
use Rattle.token_grammar.specs.Grammar.{Context, NONE, CONDITION, AtLeast, opens_arguments, OperatorMayFollow, CallMayFollow, excluded, Fits}
use Rattle.token_grammar.specs.Bare.{bare}
use Rattle.token_grammar.proofs.Added.{is_cast_to_name, strength, too_weak, too_weak_after, too_weak_before, too_weak_to_call, add_pairs, PairAt, Pair, drop_at, drop_pair, AnyPair, drop_any}
use Rattle.token_grammar.proofs.Pairs.{with_bare, bare_pairs, same_kind, same_dot_name, right_lowest, lowest_after}

-- ---- it is the same tree but for parentheses

at_bare : (p : Bool) (c : Context) (g : Bool) (a : Expr one) → ((d : Context) (h : Bool) (q : Pair a d h) → bare (drop_pair a d h q) ≡ bare a) → (q : PairAt p c g (Pair a)) →
    bare (drop_at p c g (add_pairs a) (Pair a) (drop_pair a) q) ≡ bare a
at_bare true c g a ih (inl u) = bare_pairs a NONE false
at_bare true c g a ih (inr q) = ih NONE false q
at_bare false c g a ih q = ih c g q

pub bare_drop : {s : Sort} (e : Expr s) (c : Context) (g : Bool) (q : Pair e c g) → bare (drop_pair e c g q) ≡ bare e
bare_drop (atom x) c g q = absurd q
bare_drop (paren a) c g q = bare_drop a NONE false q
bare_drop (prefix p a) c g q = ap (prefix p) (at_bare (too_weak c (after prefixes) g a) c g a (bare_drop a) q)
bare_drop (binary o a b) c g (inl q) =
    ap₂ (binary o) (at_bare (too_weak_before c o a) c (opens_arguments o) a (bare_drop a) q) (with_bare (too_weak_after c o g b) c g b (bare_pairs b))
bare_drop (binary o a b) c g (inr q) =
    ap₂ (binary o) (with_bare (too_weak_before c o a) c (opens_arguments o) a (bare_pairs a)) (at_bare (too_weak_after c o g b) c g b (bare_drop b) q)
bare_drop (cast a t) c g q = ap (λ x. cast x t) (at_bare (too_weak c (before casts) false a) c false a (bare_drop a) q)
bare_drop (member m a) c g q = ap (member m) (at_bare (too_weak c (before postfixes) false a) c false a (bare_drop a) q)
bare_drop (try a) c g q = ap try (at_bare (too_weak c (before postfixes) false a) c false a (bare_drop a) q)
bare_drop (index a b) c g (inl q) = ap₂ index (at_bare (too_weak c (before postfixes) false a) c false a (bare_drop a) q) (bare_pairs b NONE false)
bare_drop (index a b) c g (inr q) = ap₂ index (with_bare (too_weak c (before postfixes) false a) c false a (bare_pairs a)) (bare_drop b NONE false q)
bare_drop (call a l) c g (inl q) = ap₂ call (at_bare (too_weak_to_call c a) c false a (bare_drop a) q) (bare_pairs l c false)
bare_drop (call a l) c g (inr q) = ap₂ call (with_bare (too_weak_to_call c a) c false a (bare_pairs a)) (bare_drop l c false q)
bare_drop (method y a l) c g (inl q) = ap₂ (method y) (at_bare (too_weak c (before postfixes) false a) c false a (bare_drop a) q) (bare_pairs l c false)
bare_drop (method y a l) c g (inr q) = ap₂ (method y) (with_bare (too_weak c (before postfixes) false a) c false a (bare_pairs a)) (bare_drop l c false q)
bare_drop no_arguments c g q = absurd q
bare_drop (arguments l) c g q = ap arguments (bare_drop l c false q)
bare_drop (last_argument comma a) c g q = ap (last_argument comma) (bare_drop a NONE false q)
bare_drop (more_arguments a l) c g (inl q) = ap₂ more_arguments (bare_drop a NONE false q) (bare_pairs l c false)
bare_drop (more_arguments a l) c g (inr q) = ap₂ more_arguments (bare_pairs a NONE false) (bare_drop l c false q)

-- ---- it fits at most where the pair was put for the flag, and then it ends in a type name

-- the flag is never up in a list
abbrev Only : (s : Sort) → Expr s → Bool → Type 0
Only one d g = (g ≡ true) × (ends_in_type_name d ≡ true)
Only list d g = ⊥
Only items d g = ⊥

no : {A : Type 0} → false ≡ true → A
no e = true_not_false (sym e)

cast_ends : (e : Expr one) (c : Context) (g : Bool) → is_cast_to_name e ≡ true → ends_in_type_name (add_pairs e c g) ≡ true
cast_ends (atom x) c g h = no h
cast_ends (paren a) c g h = no h
cast_ends (prefix p a) c g h = no h
cast_ends (binary o a b) c g h = no h
cast_ends (cast a t) c g h = h
cast_ends (member m a) c g h = no h
cast_ends (try a) c g h = no h
cast_ends (index a b) c g h = no h
cast_ends (call a l) c g h = no h
cast_ends (method y a l) c g h = no h

weakened : (g b : Bool) (n : ℕ) → pick (g && b) 0 n < n → (g ≡ true) × (b ≡ true)
unfolding pick
weakened true true n h = (refl, refl)
weakened true false n h = absurd (omega arith)
weakened false b n h = absurd (omega arith)

weak_flag : (g : Bool) (a : Expr one) → strength g a < level (kind_of a) → (g ≡ true) × (is_cast_to_name a ≡ true)
unfolding strength
weak_flag g a h = weakened g (is_cast_to_name a) (level (kind_of a)) h

-- what holds of an operand by induction: if it fits without the pair, the pair was put for the flag
abbrev Needed : Expr one → Type 0
Needed a = (c : Context) (g : Bool) (q : Pair a c g) → Fits c (drop_pair a c g q) → Only one (drop_pair a c g q) g

abbrev without : (p : Bool) (c : Context) (g : Bool) (a : Expr one) → PairAt p c g (Pair a) → Expr one
without p c g a q = drop_at p c g (add_pairs a) (Pair a) (drop_pair a) q

-- what the context bars does not fit there
pub struct_is : (e : Expr one) → is_struct e ≡ true → e ≡ atom structure
struct_is (atom (path y)) h = no h
struct_is (atom (literal y)) h = no h
struct_is (atom structure) h = refl
struct_is (paren a) h = no h
struct_is (prefix p a) h = no h
struct_is (binary o a b) h = no h
struct_is (cast a t) h = no h
struct_is (member m a) h = no h
struct_is (try a) h = no h
struct_is (index a b) h = no h
struct_is (call a l) h = no h
struct_is (method y a l) h = no h

excluded_unfit : (c : Context) (a : Expr one) → excluded c a ≡ true → Fits c (add_pairs a NONE false) → ⊥
excluded_unfit NONE a h k = no h
excluded_unfit CONDITION a h k =
    let j : Fits CONDITION (add_pairs (atom structure) NONE false) = subst (λ x. Fits CONDITION (add_pairs x NONE false)) (struct_is a h) k in
    true_not_false j

needed_at : (c : Context) (p g : Bool) (n : ℕ) (a : Expr one) → too_weak c n g a ≡ p → Needed a → (q : PairAt p c g (Pair a)) → AtLeast n (without p c g a q) → Fits c (without p c g a q) → Only one (without p c g a q) g
needed_at c true g n a e ih (inl u) h k = go (excluded c a) refl
  where
    go : (b : Bool) → excluded c a ≡ b → Only one (add_pairs a NONE false) g
    go true z = absurd (excluded_unfit c a z k)
    go false z =
        let m : AtLeast n a = rw (same_kind a NONE false) at h in
        let t : ltb (strength g a) n ≡ true = rw z at e in
        let w = weak_flag g a (omega (arith, ltb-true (strength g a) n t, m)) in
        (w.0, cast_ends a NONE false w.1)
needed_at c true g n a e ih (inr q) h k = no (ih NONE false q k).0
needed_at c false g n a e ih q h k = ih c g q k

-- left of an operator
no_left : (o : Operator) (d : Expr one) → OperatorMayFollow o d → opens_arguments o ≡ true → ends_in_type_name d ≡ true → ⊥
no_left o d h g e = no (sym (rw (g, e) at h))

no_call : (c : Context) (p : Bool) (a : Expr one) → too_weak_to_call c a ≡ p → Needed a → (q : PairAt p c false (Pair a)) → AtLeast (before postfixes) (without p c false a q) → CallMayFollow (without p c false a q) → Fits c (without p c false a q) → ⊥
unfolding strength pick
no_call c true a e ih (inl u) h r k = go (excluded c a) refl
  where
    go : (b : Bool) → excluded c a ≡ b → ⊥
    go true z = excluded_unfit c a z k
    go false z =
        let m : AtLeast (before postfixes) a = rw (same_kind a NONE false) at h in
        let f : (excluded c a || ltb (level (kind_of a)) 15) || ends_in_dot_name a ≡ false = rw (z, le-ltb (level (kind_of a)) 15 m) (sym (same_dot_name a NONE false m) ∙ r) in
        no (sym f ∙ e)
no_call c true a e ih (inr q) h r k = no (ih NONE false q k).0
no_call c false a e ih q h r k = no (ih c false q k).0

needed : (s : Sort) (e : Expr s) (c : Context) (g : Bool) (q : Pair e c g) → Fits c (drop_pair e c g q) → Only s (drop_pair e c g q) g
needed s (atom x) c g q k = absurd q
needed s (paren a) c g q k = no (needed one a NONE false q k).0
needed s (prefix p a) c g q k = needed_at c (too_weak c (after prefixes) g a) g 14 a refl (needed one a) q k.0 k.1
needed s (binary o a b) c g (inl q) k =
    let d = without (too_weak_before c o a) c (opens_arguments o) a q in
    let w = needed_at c (too_weak_before c o a) (opens_arguments o) (before (kind o)) a refl (needed one a) q k.0 k.3 in
    absurd (no_left o d k.2 w.0 w.1)
needed s (binary o a b) c g (inr q) k =
    needed_at c (too_weak_after c o g b) g (right_lowest (kind o)) b refl (needed one b) q (omega (arith, lowest_after o, k.1)) k.4
needed s (cast a t) c g q k = no (needed_at c (too_weak c (before casts) false a) false 13 a refl (needed one a) q k.0 k.1).0
needed s (member m a) c g q k = no (needed_at c (too_weak c (before postfixes) false a) false 15 a refl (needed one a) q k.0 k.1).0
needed s (try a) c g q k = no (needed_at c (too_weak c (before postfixes) false a) false 15 a refl (needed one a) q k.0 k.1).0
needed s (index a b) c g (inl q) k = no (needed_at c (too_weak c (before postfixes) false a) false 15 a refl (needed one a) q k.0 k.1).0
needed s (index a b) c g (inr q) k = no (needed one b NONE false q k.2).0
needed s (call a l) c g (inl q) k = absurd (no_call c (too_weak_to_call c a) a refl (needed one a) q k.0 k.1 k.2)
needed s (call a l) c g (inr q) k = absurd (needed list l c false q k.3)
needed s (method y a l) c g (inl q) k = no (needed_at c (too_weak c (before postfixes) false a) false 15 a refl (needed one a) q k.0 k.1).0
needed s (method y a l) c g (inr q) k = absurd (needed list l c false q k.2)
needed s no_arguments c g q k = absurd q
needed s (arguments l) c g q k = needed items l c false q k
needed s (last_argument comma a) c g q k = no (needed one a NONE false q k).0
needed s (more_arguments a l) c g (inl q) k = no (needed one a NONE false q k.0).0
needed s (more_arguments a l) c g (inr q) k = needed items l c false q k.1

-- The tree without one of its pairs does not fit.
drop_at_unfit : (c : Context) (p : Bool) (e : Expr one) → excluded c e ≡ p → (q : PairAt p c false (Pair e)) → Fits c (without p c false e q) → ⊥
drop_at_unfit c true e z (inl u) k = excluded_unfit c e z k
drop_at_unfit c true e z (inr q) k = no (needed one e NONE false q k).0
drop_at_unfit c false e z q k = no (needed one e c false q k).0

pub drop_unfit : (c : Context) (e : Expr one) (q : AnyPair c e) → Fits c (drop_any c e q) → ⊥
drop_unfit c e q k = drop_at_unfit c (excluded c e) e refl q k

pub bare_drop_any : (c : Context) (e : Expr one) (q : AnyPair c e) → bare (drop_any c e q) ≡ bare e
bare_drop_any c e q = at_bare (excluded c e) c false e (bare_drop e) q
