use Rattle.std.proofs.Common.{◌≡◌, sym, ◌∙◌, arith, ℕ, ◌<◌, ◌≤◌, List}
use Rattle.laws.specs.Choice.{Line}
use Rattle.tree.specs.Trees.{Label, Tree, tree_at}
use Rattle.tree.specs.Walks.{Ask, walk}
use Rattle.tree.specs.Steps.{ends, goes, step_at}
use Rattle.tree.proofs.Walks.{leads}
use Rattle.tree.proofs.question.walk.Goals as goal

module _ {A : Type 0} (rows : Label → Tree → Tree → List (Line (Ask A))) (other : Label → A) (missing : A) (cells : List ℕ) (count i : ℕ) where
  goes_on : (n : ℕ) → goes n ≡ step_at rows other missing cells count i → (i < n) × (n ≤ count) × (walk rows other missing (tree_at cells count n) ≡ walk rows other missing (tree_at cells count i))
  goes_on n e = rw (sym e) at (leads rows other missing cells count i)

  ends_with : (x : A) → ends x ≡ step_at rows other missing cells count i → walk rows other missing (tree_at cells count i) ≡ x
  ends_with x e = rw (sym e) at (leads rows other missing cells count i)

pub down-smaller : goal.down-smaller
down-smaller g c = let s = goes_on _ _ _ _ _ _ _ c.in-Continue.ensures in omega arith

pub down-preserved : goal.down-preserved
down-preserved g c = (goes_on _ _ _ _ _ _ _ c.in-Continue.ensures).2 ∙ c.down.invariant

pub returns : goal.returns
returns g c = sym (ends_with _ _ _ _ _ _ _ c.in-Break.ensures) ∙ c.down.invariant
