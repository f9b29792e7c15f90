-- `token_follow::goes_on` meets its contract. Assumes nothing.
use mathlib.Core.Path.{◌≡◌, ap, ◌∙◌}
use mathlib.Core.Bool.{Bool, false, not, ◌&&◌}
use Prim.Native.Nat.{ℕ, ◌≤◌, ◌<◌}
use native.Mathlib.Omega.{arith}
use lib.Dec.{leb}
use borrow.Author.Tests.{lt-leb, le-leb}
use Rattle.token_follow.specs.Follow.{goes_on_by}
use Rattle.token_follow.specs.Tables.{before_of}
use Rattle.token_follow.proofs.Tables.{before_at_lem, barred_at_lem}
use Rattle.token_follow.proofs.goes_on.Goals as goal

-- by the level; by what must stand before; by the special rules
too_low : (n l m : ℕ) (b : Bool) → l ≡ m → l < n → false ≡ (leb n m && b)
too_low n l m b e h = rw (lt-leb n m (omega arith))

too_weak : (n l m k p j : ℕ) (b : Bool) → l ≡ m → n ≤ l → k ≡ p → j < k → false ≡ (leb n m && (leb p j && b))
too_weak n l m k p j b e h q g = rw (← e, le-leb n l h, ← q, lt-leb k j g)

ruled : (n l m k p j : ℕ) (r b : Bool) → l ≡ m → n ≤ l → k ≡ p → k ≤ j → r ≡ b → not r ≡ (leb n m && (leb p j && not b))
ruled n l m k p j r b e h i g q = rw (← e, le-leb n l h, ← i, le-leb k j g, q)

pub returns-then-made-min : goal.returns-then-made-min
unfolding goes_on_by
returns-then-made-min c = too_low _ _ _ _ c.level_of-made.ensures c.if-made-min.true

pub returns-then-level-lowest_before : goal.returns-then-level-lowest_before
unfolding goes_on_by
returns-then-level-lowest_before c = let e =
    c.level_of-made.ensures in
    too_weak _ _ _ _ _ _ _ e c.if-made-min.false (c.lowest_before.ensures ∙ ap before_of e ∙ before_at_lem _) c.if-level-lowest_before.true

pub returns : goal.returns
unfolding goes_on_by
returns c = let e =
    c.level_of-made.ensures in
    ruled _ _ _ _ _ _ _ _ e c.if-made-min.false (c.lowest_before.ensures ∙ ap before_of e ∙ before_at_lem _) c.if-level-lowest_before.false (c.is_barred.ensures ∙ barred_at_lem _ _ _)
