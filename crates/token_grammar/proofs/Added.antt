-- The pairs that a plain tree needs in a context, by levels and because of it: the tree with them, and with all of them but one.
use mathlib.Core.Bool.{Bool, true, false, ◌&&◌, ◌||◌}
use mathlib.Core.Logic.{◌⊎◌, inl, inr}
use Prim.Native.Nat.{ℕ, suc}
use lib.Dec.{ltb}
use Rattle.laws.specs.Choice.{pick}
use Rattle.token_grammar.specs.Tokens.{Operator}
use Rattle.token_grammar.specs.Levels.{casts, prefixes, postfixes, kind, level, leans_right, before, after}
use Rattle.token_grammar.specs.Types.{Sort, one, type_ends_in_name}
use Rattle.token_grammar.specs.Expressions.{Expr, atom, paren, prefix, binary, cast, member, try, index, call, method, no_arguments, arguments, last_argument, more_arguments, kind_of, ends_in_dot_name}
use Rattle.token_grammar.specs.Grammar.{Context, NONE, opens_arguments, excluded}

-- a cast whose last token is a type name
abbrev pub is_cast_to_name : Expr one → Bool
is_cast_to_name (atom x) = false
is_cast_to_name (paren a) = false
is_cast_to_name (prefix p a) = false
is_cast_to_name (binary o a b) = false
is_cast_to_name (cast a t) = type_ends_in_name t
is_cast_to_name (member m a) = false
is_cast_to_name (try a) = false
is_cast_to_name (index a b) = false
is_cast_to_name (call a l) = false
is_cast_to_name (method y a l) = false

-- The flag g says that `<` or `<<` stands straight after: there a cast that ends in a type name is too weak for any place.
unfoldable pub strength : Bool → Expr one → ℕ
strength g e = pick (g && is_cast_to_name e) 0 (level (kind_of e))

-- whether an operand gets a pair: the context excludes it, or it is weaker than its place allows
abbrev pub too_weak : Context → ℕ → Bool → Expr one → Bool
too_weak c n g a = excluded c a || ltb (strength g a) n

-- right of an operator. An assignment's level is the lowest, so that nothing is too weak there
abbrev pub lowest_right : Bool → ℕ → ℕ
lowest_right true n = 0
lowest_right false n = suc n

abbrev pub too_weak_after : Context → Operator → Bool → Expr one → Bool
too_weak_after c o g b = too_weak c (lowest_right (leans_right (kind o)) (level (kind o))) g b

abbrev pub too_weak_before : Context → Operator → Expr one → Bool
too_weak_before c o a = too_weak c (before (kind o)) (opens_arguments o) a

-- what is called must not end in a dot and a name
abbrev pub too_weak_to_call : Context → Expr one → Bool
too_weak_to_call c a = too_weak c (before postfixes) false a || ends_in_dot_name a

-- an operand with a pair where p says so; inside a pair the context is NONE and the flag is down
abbrev pub with_pair : Bool → Context → Bool → (Context → Bool → Expr one) → Expr one
with_pair true c g a = paren (a NONE false)
with_pair false c g a = a c g

-- The tree with the pairs that it needs.
abbrev pub add_pairs : {s : Sort} → Expr s → Context → Bool → Expr s
add_pairs (atom x) c g = atom x
add_pairs (paren a) c g = paren (add_pairs a NONE false)
add_pairs (prefix p a) c g = prefix p (with_pair (too_weak c (after prefixes) g a) c g (add_pairs a))
add_pairs (binary o a b) c g = binary o (with_pair (too_weak_before c o a) c (opens_arguments o) (add_pairs a)) (with_pair (too_weak_after c o g b) c g (add_pairs b))
add_pairs (cast a t) c g = cast (with_pair (too_weak c (before casts) false a) c false (add_pairs a)) t
add_pairs (member m a) c g = member m (with_pair (too_weak c (before postfixes) false a) c false (add_pairs a))
add_pairs (try a) c g = try (with_pair (too_weak c (before postfixes) false a) c false (add_pairs a))
add_pairs (index a b) c g = index (with_pair (too_weak c (before postfixes) false a) c false (add_pairs a)) (add_pairs b NONE false)
add_pairs (call a l) c g = call (with_pair (too_weak_to_call c a) c false (add_pairs a)) (add_pairs l c false)
add_pairs (method y a l) c g = method y (with_pair (too_weak c (before postfixes) false a) c false (add_pairs a)) (add_pairs l c false)
add_pairs no_arguments c g = no_arguments
add_pairs (arguments l) c g = arguments (add_pairs l c false)
add_pairs (last_argument comma a) c g = last_argument comma (add_pairs a NONE false)
add_pairs (more_arguments a l) c g = more_arguments (add_pairs a NONE false) (add_pairs l c false)

-- ---- one of the pairs left out

-- Which pairs were added, as a type with an element for each. Of an operand: its own pair, where p says that it has one, or one inside it.
abbrev pub PairAt : Bool → Context → Bool → (Context → Bool → Type 0) → Type 0
PairAt true c g P = Unit {0} ⊎ P NONE false
PairAt false c g P = P c g

abbrev pub Pair : {s : Sort} → Expr s → Context → Bool → Type 0
Pair (atom x) c g = ⊥
Pair (paren a) c g = Pair a NONE false
Pair (prefix p a) c g = PairAt (too_weak c (after prefixes) g a) c g (Pair a)
Pair (binary o a b) c g = PairAt (too_weak_before c o a) c (opens_arguments o) (Pair a) ⊎ PairAt (too_weak_after c o g b) c g (Pair b)
Pair (cast a t) c g = PairAt (too_weak c (before casts) false a) c false (Pair a)
Pair (member m a) c g = PairAt (too_weak c (before postfixes) false a) c false (Pair a)
Pair (try a) c g = PairAt (too_weak c (before postfixes) false a) c false (Pair a)
Pair (index a b) c g = PairAt (too_weak c (before postfixes) false a) c false (Pair a) ⊎ Pair b NONE false
Pair (call a l) c g = PairAt (too_weak_to_call c a) c false (Pair a) ⊎ Pair l c false
Pair (method y a l) c g = PairAt (too_weak c (before postfixes) false a) c false (Pair a) ⊎ Pair l c false
Pair no_arguments c g = ⊥
Pair (arguments l) c g = Pair l c false
Pair (last_argument comma a) c g = Pair a NONE false
Pair (more_arguments a l) c g = Pair a NONE false ⊎ Pair l c false

-- `add_pairs` without the pair q
abbrev pub drop_at : (p : Bool) (c : Context) (g : Bool) (a : Context → Bool → Expr one) (P : Context → Bool → Type 0) → ((d : Context) (x : Bool) → P d x → Expr one) → PairAt p c g P → Expr one
drop_at true c g a P d (inl u) = a NONE false
drop_at true c g a P d (inr q) = paren (d NONE false q)
drop_at false c g a P d q = d c g q

abbrev pub drop_pair : {s : Sort} (e : Expr s) (c : Context) (g : Bool) → Pair e c g → Expr s
drop_pair (atom x) c g q = absurd q
drop_pair (paren a) c g q = paren (drop_pair a NONE false q)
drop_pair (prefix p a) c g q = prefix p (drop_at (too_weak c (after prefixes) g a) c g (add_pairs a) (Pair a) (drop_pair a) q)
drop_pair (binary o a b) c g (inl q) = binary o (drop_at (too_weak_before c o a) c (opens_arguments o) (add_pairs a) (Pair a) (drop_pair a) q) (with_pair (too_weak_after c o g b) c g (add_pairs b))
drop_pair (binary o a b) c g (inr q) = binary o (with_pair (too_weak_before c o a) c (opens_arguments o) (add_pairs a)) (drop_at (too_weak_after c o g b) c g (add_pairs b) (Pair b) (drop_pair b) q)
drop_pair (cast a t) c g q = cast (drop_at (too_weak c (before casts) false a) c false (add_pairs a) (Pair a) (drop_pair a) q) t
drop_pair (member m a) c g q = member m (drop_at (too_weak c (before postfixes) false a) c false (add_pairs a) (Pair a) (drop_pair a) q)
drop_pair (try a) c g q = try (drop_at (too_weak c (before postfixes) false a) c false (add_pairs a) (Pair a) (drop_pair a) q)
drop_pair (index a b) c g (inl q) = index (drop_at (too_weak c (before postfixes) false a) c false (add_pairs a) (Pair a) (drop_pair a) q) (add_pairs b NONE false)
drop_pair (index a b) c g (inr q) = index (with_pair (too_weak c (before postfixes) false a) c false (add_pairs a)) (drop_pair b NONE false q)
drop_pair (call a l) c g (inl q) = call (drop_at (too_weak_to_call c a) c false (add_pairs a) (Pair a) (drop_pair a) q) (add_pairs l c false)
drop_pair (call a l) c g (inr q) = call (with_pair (too_weak_to_call c a) c false (add_pairs a)) (drop_pair l c false q)
drop_pair (method y a l) c g (inl q) = method y (drop_at (too_weak c (before postfixes) false a) c false (add_pairs a) (Pair a) (drop_pair a) q) (add_pairs l c false)
drop_pair (method y a l) c g (inr q) = method y (with_pair (too_weak c (before postfixes) false a) c false (add_pairs a)) (drop_pair l c false q)
drop_pair no_arguments c g q = absurd q
drop_pair (arguments l) c g q = arguments (drop_pair l c false q)
drop_pair (last_argument comma a) c g q = last_argument comma (drop_pair a NONE false q)
drop_pair (more_arguments a l) c g (inl q) = more_arguments (drop_pair a NONE false q) (add_pairs l c false)
drop_pair (more_arguments a l) c g (inr q) = more_arguments (add_pairs a NONE false) (drop_pair l c false q)

-- ---- the whole: a Struct that is the condition itself has a pair too

abbrev pub add_all : Context → Expr one → Expr one
add_all c e = with_pair (excluded c e) c false (add_pairs e)

abbrev pub AnyPair : Context → Expr one → Type 0
AnyPair c e = PairAt (excluded c e) c false (Pair e)

abbrev pub drop_any : (c : Context) (e : Expr one) → AnyPair c e → Expr one
drop_any c e q = drop_at (excluded c e) c false (add_pairs e) (Pair e) (drop_pair e) q
