-- No parse tree that fits outside conditions has fewer pairs than its bare tree gets. Assumes nothing.
use mathlib.Core.Path.{◌≡◌, refl, ◌∙◌}
use mathlib.Core.Bool.{Bool, true, false, ◌&&◌}
use Prim.Native.Nat.{ℕ, suc, ◌≤◌}
use native.Mathlib.Omega.{arith}
use borrow.Author.Tests.{le-ltb}
use Rattle.laws.proofs.Choice.{pick_false, true_not_false}
use Rattle.token_grammar.specs.Levels.{casts, prefixes, postfixes, kind, level, before, after}
use Rattle.token_grammar.specs.Types.{Sort, one, list, items}
use Rattle.token_grammar.specs.Expressions.{by_name, by_number, awaited, Expr, atom, paren, prefix, binary, cast, member, try, index, call, method, no_arguments, arguments, last_argument, more_arguments, kind_of, ends_in_type_name, ends_in_dot_name}
use Rattle.token_grammar.specs.Grammar.{Context, NONE, AtLeast, opens_arguments, CallMayFollow, Fits}
use Rattle.token_grammar.specs.Bare.{bare}
use Rattle.token_grammar.proofs.Added.{strength, too_weak, too_weak_after, too_weak_to_call, with_pair, add_pairs}
use Rattle.token_grammar.proofs.Levels.{operator_high}
use Rattle.token_grammar.proofs.Pairs.{right_lowest, lowest_after}
use Rattle.token_fewest.proofs.Counts.{pairs}

-- ---- the flag costs one pair at most, and a pair one

-- an operand's pair pays for what the flag adds inside it
with_most : (p g : Bool) (a : Context → Bool → Expr one) → pairs (a NONE g) ≤ suc (pairs (a NONE false)) → pairs (with_pair p NONE g a) ≤ suc (pairs (a NONE false))
with_most true g a h = omega arith
with_most false g a h = h

with_least : (p : Bool) (a : Context → Bool → Expr one) → pairs (a NONE false) ≤ pairs (with_pair p NONE false a)
with_least true a = omega arith
with_least false a = omega arith

-- on the right spine the flag changes what is asked of an operand, in one that has no pair
with_raised : (p q g : Bool) (a : Expr one) → pairs (add_pairs a NONE g) ≤ suc (pairs (add_pairs a NONE false)) → pairs (with_pair p NONE g (add_pairs a)) ≤ suc (pairs (with_pair q NONE false (add_pairs a)))
with_raised p q g a h = omega (arith, with_most p g (add_pairs a) h, with_least q (add_pairs a))

raised : (e : Expr one) (g : Bool) → pairs (add_pairs e NONE g) ≤ suc (pairs (add_pairs e NONE false))
raised (atom x) g = omega arith
raised (paren a) g = omega arith
raised (prefix p a) g = with_raised (too_weak NONE (after prefixes) g a) (too_weak NONE (after prefixes) false a) g a (raised a g)
raised (binary o a b) g = omega (arith, with_raised (too_weak_after NONE o g b) (too_weak_after NONE o false b) g b (raised b g))
raised (cast a t) g = omega arith
raised (member m a) g = omega arith
raised (try a) g = omega arith
raised (index a b) g = omega arith
raised (call a l) g = omega arith
raised (method y a l) g = omega arith

-- ---- where a parse tree has no pair, its bare tree is strong enough

abbrev is_paren : Expr one → Bool
is_paren (atom x) = false
is_paren (paren a) = true
is_paren (prefix p a) = false
is_paren (binary o a b) = false
is_paren (cast a t) = false
is_paren (member m a) = false
is_paren (try a) = false
is_paren (index a b) = false
is_paren (call a l) = false
is_paren (method y a l) = false

-- the flag stands at its place: nothing that ends in a type name stands before `<` or `<<`
abbrev MayEnd : Bool → Expr one → Type 0
MayEnd g e = g && ends_in_type_name e ≡ false

and_false : (g : Bool) → g && false ≡ false
and_false true = refl
and_false false = refl

as_strong : (e : Expr one) (g : Bool) → is_paren e ≡ false → MayEnd g e → strength g (bare e) ≡ level (kind_of e)
unfolding strength
as_strong (atom x) g n h = pick_false _ _ (and_false g)
as_strong (paren a) g n h = true_not_false n
as_strong (prefix p a) g n h = pick_false _ _ (and_false g)
as_strong (binary o a b) g n h = pick_false _ _ (and_false g)
as_strong (cast a t) g n h = pick_false _ _ h
as_strong (member m a) g n h = pick_false _ _ (and_false g)
as_strong (try a) g n h = pick_false _ _ (and_false g)
as_strong (index a b) g n h = pick_false _ _ (and_false g)
as_strong (call a l) g n h = pick_false _ _ (and_false g)
as_strong (method y a l) g n h = pick_false _ _ (and_false g)

strong : (n : ℕ) (g : Bool) (e : Expr one) → AtLeast n e → MayEnd g e → is_paren e ≡ false → too_weak NONE n g (bare e) ≡ false
strong n g e k h b = le-ltb (strength g (bare e)) n (rw (as_strong e g b h) k)

-- of a postfix form that is no pair, `bare` keeps the last two tokens
same_end : (e : Expr one) → AtLeast (before postfixes) e → is_paren e ≡ false → ends_in_dot_name (bare e) ≡ ends_in_dot_name e
same_end (atom x) h n = refl
same_end (paren a) h n = true_not_false n
same_end (prefix p a) h n = absurd (omega arith)
same_end (binary o a b) h n = absurd (omega (arith, operator_high o))
same_end (cast a t) h n = refl
same_end (member (by_name y) a) h n = refl
same_end (member (by_number y) a) h n = refl
same_end (member awaited a) h n = refl
same_end (try a) h n = refl
same_end (index a b) h n = refl
same_end (call a l) h n = refl
same_end (method y a l) h n = refl

callable : (e : Expr one) → AtLeast (before postfixes) e → CallMayFollow e → is_paren e ≡ false → too_weak_to_call NONE (bare e) ≡ false
callable e k h b = rw (strong (before postfixes) false e k refl b) (same_end e k b ∙ h)

-- ---- the pairs that a bare tree gets are paid for by those of the parse tree

-- At a place with the flag g, where p says whether the bare tree gets a pair: without a pair in the parse tree it gets none.
abbrev Paid : (s : Sort) → Expr s → Type 0
Paid one e = (p g : Bool) → (is_paren e ≡ false → p ≡ false) → MayEnd g e → pairs (with_pair p NONE g (add_pairs (bare e))) ≤ pairs e
Paid list l = pairs (add_pairs (bare l) NONE false) ≤ pairs l
Paid items l = pairs (add_pairs (bare l) NONE false) ≤ pairs l

-- where nothing is asked
alone : (e : Expr one) → Paid one e → pairs (add_pairs (bare e) NONE false) ≤ pairs e
alone e i = i false false (λ b. refl) refl

-- an operand of which the lowest level n is asked
operand : (n : ℕ) (g : Bool) (e : Expr one) → Paid one e → AtLeast n e → MayEnd g e → pairs (with_pair (too_weak NONE n g (bare e)) NONE g (add_pairs (bare e))) ≤ pairs e
operand n g e i k h = i (too_weak NONE n g (bare e)) g (strong n g e k h) h

callee : (e : Expr one) → Paid one e → AtLeast (before postfixes) e → CallMayFollow e → pairs (with_pair (too_weak_to_call NONE (bare e)) NONE false (add_pairs (bare e))) ≤ pairs e
callee e i k h = i (too_weak_to_call NONE (bare e)) false (callable e k h) refl

-- a form that has no pair of its own gets none
without : (p g : Bool) (a : Context → Bool → Expr one) (n : ℕ) → p ≡ false → pairs (a NONE g) ≤ n → pairs (with_pair p NONE g a) ≤ n
without p g a n e h = rw e h

paid : (s : Sort) (e : Expr s) → Fits NONE e → Paid s e
paid s (atom x) k = λ q g w h. without q g (add_pairs (atom x)) 0 (w refl) (omega arith)
paid s (paren a) k = λ q g w h. omega (arith, with_most q g (add_pairs (bare a)) (raised (bare a) g), alone a (paid one a k))
paid s (prefix p a) k = λ q g w h. without q g (add_pairs (bare (prefix p a))) _ (w refl) (operand (after prefixes) g a (paid one a k.1) k.0 h)
paid s (binary o a b) k = λ q g w h.
    let i = operand (before (kind o)) (opens_arguments o) a (paid one a k.3) k.0 k.2 in
    let j = operand (right_lowest (kind o)) g b (paid one b k.4) (omega (arith, lowest_after o, k.1)) h in
    without q g (add_pairs (bare (binary o a b))) _ (w refl) (omega arith)
paid s (cast a t) k = λ q g w h. without q g (add_pairs (bare (cast a t))) _ (w refl) (operand (before casts) false a (paid one a k.1) k.0 refl)
paid s (member m a) k = λ q g w h. without q g (add_pairs (bare (member m a))) _ (w refl) (operand (before postfixes) false a (paid one a k.1) k.0 refl)
paid s (try a) k = λ q g w h. without q g (add_pairs (bare (try a))) _ (w refl) (operand (before postfixes) false a (paid one a k.1) k.0 refl)
paid s (index a b) k = λ q g w h.
    let i = operand (before postfixes) false a (paid one a k.1) k.0 refl in
    let j = alone b (paid one b k.2) in
    without q g (add_pairs (bare (index a b))) _ (w refl) (omega arith)
paid s (call a l) k = λ q g w h.
    let i = callee a (paid one a k.2) k.0 k.1 in
    let j = paid list l k.3 in
    without q g (add_pairs (bare (call a l))) _ (w refl) (omega arith)
paid s (method y a l) k = λ q g w h.
    let i = operand (before postfixes) false a (paid one a k.1) k.0 refl in
    let j = paid list l k.2 in
    without q g (add_pairs (bare (method y a l))) _ (w refl) (omega arith)
paid s no_arguments k = omega arith
paid s (arguments l) k = paid items l k
paid s (last_argument comma a) k = alone a (paid one a k)
paid s (more_arguments a l) k = omega (arith, alone a (paid one a k.0), paid items l k.1)

-- What is written for the tree of a parse tree that fits has no more pairs.
pub fewest : (parsed : Expr one) → Fits NONE parsed → pairs (add_pairs (bare parsed) NONE false) ≤ pairs parsed
fewest parsed k = alone parsed (paid one parsed k)
