-- What may follow an expression: the grammar's rules, as the parser tests them. Assumes nothing.
use mathlib.Core.Path.{◌≡◌, refl, sym}
use mathlib.Core.Bool.{Bool, true, false, not, ◌&&◌}
use Prim.Native.Nat.{ℕ, ◌≤◌, ◌<◌}
use native.Mathlib.Omega.{arith}
use lib.Dec.{leb}
use borrow.Author.Tests.{le-leb, lt-leb, leb-true}
use Rattle.laws.proofs.Choice.{and_true}
use Rattle.token_grammar.specs.Levels.{casts, postfixes, kind, level, before, after}
use Rattle.token_grammar.specs.Types.{one}
use Rattle.token_grammar.specs.Expressions.{Expr, kind_of, ends_in_type_name, ends_in_dot_name}
use Rattle.token_grammar.specs.Grammar.{AtLeast, opens_arguments, OperatorMayFollow, CallMayFollow}
use Rattle.token_grammar.specs.Next.{Next, stops, operates, casts_to, dots, calls, indexes, tries, level_at}
use Rattle.token_grammar.specs.Parser.{follows, goes_on}
use Rattle.token_grammar.proofs.Levels.{stays, after_positive}

abbrev pub Follows : Expr one → Next → Type 0
Follows e stops = Unit {0}
Follows e (operates o) = AtLeast (before (kind o)) e × OperatorMayFollow o e
Follows e casts_to = AtLeast (before casts) e
Follows e dots = AtLeast (before postfixes) e
Follows e calls = AtLeast (before postfixes) e × CallMayFollow e
Follows e indexes = AtLeast (before postfixes) e
Follows e tries = AtLeast (before postfixes) e

not_false : {b : Bool} → b ≡ false → not b ≡ true
not_false e = rw e

false_not : (b : Bool) → not b ≡ true → b ≡ false
false_not true e = sym e
false_not false e = refl

follows_true : (e : Expr one) (x : Next) → Follows e x → follows e x ≡ true
follows_true e stops h = refl
follows_true e (operates o) h = rw (le-leb (before (kind o)) (level (kind_of e)) h.0) (not_false h.1)
follows_true e casts_to h = le-leb (before casts) (level (kind_of e)) h
follows_true e dots h = le-leb (before postfixes) (level (kind_of e)) h
follows_true e calls h = rw (le-leb (before postfixes) (level (kind_of e)) h.0) (not_false h.1)
follows_true e indexes h = le-leb (before postfixes) (level (kind_of e)) h
follows_true e tries h = le-leb (before postfixes) (level (kind_of e)) h

true_follows : (e : Expr one) (x : Next) → follows e x ≡ true → Follows e x
true_follows e stops h = tt
true_follows e (operates o) h =
    let d = and_true (leb (before (kind o)) (level (kind_of e))) (not (opens_arguments o && ends_in_type_name e)) h in
    (leb-true (before (kind o)) (level (kind_of e)) d.0, false_not (opens_arguments o && ends_in_type_name e) d.1)
true_follows e casts_to h = leb-true (before casts) (level (kind_of e)) h
true_follows e dots h = leb-true (before postfixes) (level (kind_of e)) h
true_follows e calls h =
    let d = and_true (leb (before postfixes) (level (kind_of e))) (not (ends_in_dot_name e)) h in
    (leb-true (before postfixes) (level (kind_of e)) d.0, false_not (ends_in_dot_name e) d.1)
true_follows e indexes h = leb-true (before postfixes) (level (kind_of e)) h
true_follows e tries h = leb-true (before postfixes) (level (kind_of e)) h

pub goes_on_lem : (n : ℕ) (e : Expr one) (x : Next) → n ≤ level_at x → Follows e x → goes_on n e x ≡ true
unfolding goes_on
goes_on_lem n e x h k = rw (le-leb n (level_at x) h) (follows_true e x k)

pub goes_not : (n : ℕ) (e : Expr one) (x : Next) → level_at x < n → goes_on n e x ≡ false
unfolding goes_on
goes_not n e x h = rw (lt-leb n (level_at x) h)

pub goes_level : (n : ℕ) (e : Expr one) (x : Next) → goes_on n e x ≡ true → n ≤ level_at x
unfolding goes_on
goes_level n e x h = leb-true n (level_at x) (and_true (leb n (level_at x)) (follows e x) h).0

pub goes_follows : (n : ℕ) (e : Expr one) (x : Next) → goes_on n e x ≡ true → Follows e x
unfolding goes_on
goes_follows n e x h = true_follows e x (and_true (leb n (level_at x)) (follows e x) h).1

-- What may follow an expression may follow the operand at its end.
pub at_end : (e b : Expr one) (x : Next) → level (kind_of e) ≤ level (kind_of b) → level (kind_of e) ≤ 14 → ends_in_type_name e ≡ ends_in_type_name b → Follows e x → Follows b x
at_end e b stops h k q p = tt
at_end e b (operates o) h k q p = (omega (arith, p.0), rw (← q) p.1)
at_end e b casts_to h k q p = omega arith
at_end e b dots h k q p = omega arith
at_end e b calls h k q p = absurd (omega (arith, p.0))
at_end e b indexes h k q p = omega arith
at_end e b tries h k q p = omega arith

-- What may follow an expression is not taken by the operand at its end.
pub not_taken : (e : Expr one) (x : Next) → Follows e x → level_at x < after (kind_of e)
not_taken e stops p = after_positive (kind_of e)
not_taken e (operates o) p = stays (kind_of e) (kind o) p.0
not_taken e casts_to p = stays (kind_of e) casts p
not_taken e dots p = stays (kind_of e) postfixes p
not_taken e calls p = stays (kind_of e) postfixes p.0
not_taken e indexes p = stays (kind_of e) postfixes p
not_taken e tries p = stays (kind_of e) postfixes p
