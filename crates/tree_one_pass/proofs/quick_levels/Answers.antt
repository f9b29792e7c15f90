-- `tree_one_pass::quick_levels` meets its contract. Assumes nothing.
use mathlib.Core.Path.{◌≡◌, refl, sym, ◌∙◌}
use native.Mathlib.Omega.{arith}
use Prim.Native.Nat.{ℕ}
use borrow.Author.Tests.{le-ltb}
use Rattle.std.specs.Prelude.{Option, Some, None, IfSome}
use Rattle.tree_rules.specs.Refusals.{refusal3, refusal}
use Rattle.tree_rules.proofs.Count.{count_fits}
use Rattle.tree_rules.proofs.First.{skip}
use Rattle.tree_one_pass.specs.Marks.{by_levels}
use Rattle.tree_one_pass.proofs.quick_levels.Goals as goal

-- the same number, by another list of refusals
same : {f g : ℕ} (r : Option ℕ) → g ≡ f → IfSome r (λ levels. f ≡ by_levels levels) → IfSome r (λ levels. g ≡ by_levels levels)
same None e p = p
same (Some levels) e p = e ∙ p

pub levels_by-requires : goal.levels_by-requires
levels_by-requires c =
    let f = count_fits _ _ (sym c.has_bad_count.ensures ∙ c.if-has_bad_count.false) in
    record { nodes = (f.0, f.1, c.if-count-lt64.true, f.2); small = omega arith }

pub returns-then-count-lt64 : goal.returns-then-count-lt64
unfolding refusal refusal3
returns-then-count-lt64 c = same _ (skip _ _ (le-ltb _ _ c.if-context-gt3.false) ∙ skip _ _ (sym c.has_bad_count.ensures ∙ c.if-has_bad_count.false)) c.levels_by.ensures

pub levels_by-requires-2-clause-nodes : goal.levels_by-requires-2-clause-nodes
levels_by-requires-2-clause-nodes c =
    let f = count_fits _ _ (sym c.has_bad_count.ensures ∙ c.if-has_bad_count.false) in
    (f.0, f.1, omega (arith, f.1), f.2)

pub returns : goal.returns
unfolding refusal refusal3
returns c = same _ (skip _ _ (le-ltb _ _ c.if-context-gt3.false) ∙ skip _ _ (sym c.has_bad_count.ensures ∙ c.if-has_bad_count.false)) c.levels_by-2.ensures
