-- Walks down one side of a tree, over node numbers. Assumes nothing.
use mathlib.Core.Path.{◌≡◌, refl, sym, ◌∙◌}
use mathlib.Core.List.{List}
use Prim.Native.Nat.{ℕ, zero, suc, ◌≤◌, ◌<◌}
use native.Mathlib.Omega.{arith}
use native.Mathlib.Decide.{dec_le}
use borrow.Author.Tests.{le-leb, lt-leb}
use Rattle.laws.specs.Choice.{Line}
use Rattle.laws.proofs.Choice.{pick_true, pick_false}
use Rattle.std.specs.Prelude.{Option}
use Rattle.std.specs.Prelude.{None, Some}
use Rattle.tree.specs.Table.{first_column, second_column}
use Rattle.tree.specs.Trees.{Label, Tree, none, operand_of, operand_at, tree_at}
use Rattle.tree.specs.Operands.{presence}
use Rattle.tree.specs.Walks.{Ask, answer, first, second, follow, is_there, walk}
use Rattle.tree.specs.Steps.{is_present, tree_of, Step, ends, goes, into, step_by, asked_at, step_at}
use Rattle.tree.proofs.Unfold.{Standing, absent, present, standing, tree_zero, tree_past, unfolds}

-- ---- operands that are there

-- a number as an operand: whether the tree there has a node, and the two ways to say that it is absent or present
pub there : (cells : List ℕ) (count i o : ℕ) → is_there (tree_at cells count (operand_of count i o)) ≡ is_present (presence (operand_of count i o))
unfolding presence
there cells count i o = go (operand_of count i o) (standing count i o)
  where
    at_node : (p : ℕ) → 1 ≤ p → p ≤ count → is_there (tree_at cells count p) ≡ is_present (presence p)
    at_node zero h k = absurd (omega arith)
    at_node (suc n) h k = rw (unfolds cells count (suc n) h k)

    go : (p : ℕ) → Standing count i o p → is_there (tree_at cells count p) ≡ is_present (presence p)
    go p absent = rw (tree_zero cells count)
    go p (present a b) = at_node p (omega arith) b

-- an operand that is present is a node after its owner
pub present_above : (count i o n : ℕ) → presence (operand_of count i o) ≡ Some n → (operand_of count i o ≡ n) × (i < n) × (n ≤ count)
unfolding presence
present_above count i o n = go (operand_of count i o) (standing count i o)
  where
    at_node : (p : ℕ) → i < p → p ≤ count → presence p ≡ Some n → (p ≡ n) × (i < n) × (n ≤ count)
    at_node zero h k e = absurd (omega arith)
    at_node (suc m) h k e = let q : suc m ≡ n = cc in (q, rw (← q) h, rw (← q) k)

    go : (p : ℕ) → Standing count i o p → presence p ≡ Some n → (p ≡ n) × (i < n) × (n ≤ count)
    go p absent e = absurd (let z : ◌≡◌ {A = ℕ} 0 1 = cc in omega arith)
    go p (present a b) e = at_node p a b e

pub absent_zero : (o : ℕ) → presence o ≡ None → o ≡ 0
unfolding presence
absent_zero zero e = refl
absent_zero (suc n) e = absurd (let z : ◌≡◌ {A = ℕ} 0 1 = cc in omega arith)

pub tree_of_lem : (cells : List ℕ) (count o : ℕ) → tree_of cells count (presence o) ≡ tree_at cells count o
unfolding presence
tree_of_lem cells count zero = sym (tree_zero cells count)
tree_of_lem cells count (suc n) = refl

-- ---- steps

module _ {A : Type 0} (rows : Label → Tree → Tree → List (Line (Ask A))) (other : Label → A) (missing : A) (cells : List ℕ) (count i : ℕ) where
  abbrev asked : Ask A
  asked = asked_at rows other cells count i

  -- the walk at a node, by what its operands give
  walk_node : 1 ≤ i → i ≤ count → walk rows other missing (tree_at cells count i) ≡ follow asked (walk rows other missing (tree_at cells count (operand_at cells count i first_column))) (walk rows other missing (tree_at cells count (operand_at cells count i second_column)))
  unfolding walk
  walk_node h k = rw (unfolds cells count i h k)

  pub step_in : 1 ≤ i → i ≤ count → step_at rows other missing cells count i ≡ step_by missing asked (presence (operand_at cells count i first_column)) (presence (operand_at cells count i second_column))
  unfolding step_at
  step_in h k = pick_true _ _ (rw (le-leb 1 i h, le-leb i count k))

  pub step_out : i < 1 → step_at rows other missing cells count i ≡ ends missing
  unfolding step_at
  step_out h = pick_false _ _ (rw (lt-leb 1 i h))

  pub step_past : 1 ≤ i → count < i → step_at rows other missing cells count i ≡ ends missing
  unfolding step_at
  step_past h k = pick_false _ _ (rw (le-leb 1 i h, lt-leb i count k))

  -- where a step leads: to the answer, or to a node after this one with the same answer
  abbrev pub Leads : Step A → Type 0
  Leads (ends x) = walk rows other missing (tree_at cells count i) ≡ x
  Leads (goes n) = (i < n) × (n ≤ count) × (walk rows other missing (tree_at cells count n) ≡ walk rows other missing (tree_at cells count i))

  -- into an operand
  leads_into : (o : ℕ) → walk rows other missing (tree_at cells count i) ≡ walk rows other missing (tree_at cells count (operand_of count i o)) → (p : Option ℕ) → presence (operand_of count i o) ≡ p → Leads (into missing p)
  unfolding walk
  leads_into o e None q = e ∙ rw (absent_zero _ q, tree_zero cells count)
  leads_into o e (Some n) q = let s = present_above count i o n q in (s.1, s.2, sym (e ∙ rw s.0))

  leads_by : (q : Ask A) → walk rows other missing (tree_at cells count i) ≡ follow q (walk rows other missing (tree_at cells count (operand_at cells count i first_column))) (walk rows other missing (tree_at cells count (operand_at cells count i second_column)))
      → Leads (step_by missing q (presence (operand_at cells count i first_column)) (presence (operand_at cells count i second_column)))
  unfolding follow
  leads_by (answer x) e = e
  leads_by first e = leads_into _ e _ refl
  leads_by second e = leads_into _ e _ refl

  none_here : tree_at cells count i ≡ none → walk rows other missing (tree_at cells count i) ≡ missing
  unfolding walk
  none_here e = rw e

  pub leads : Leads (step_at rows other missing cells count i)
  leads = low (dec_le 1 i) (dec_le i count)
    where
      low : Dec (1 ≤ i) → Dec (i ≤ count) → Leads (step_at rows other missing cells count i)
      low (yes h) (yes k) = rw (step_in h k) (leads_by asked (walk_node h k))
      low (yes h) (no k) = rw (step_past h (omega arith)) (none_here (tree_past cells count i (omega arith)))
      low (no h) d = rw (step_out (omega arith)) (none_here (let z : i ≡ 0 = omega arith in rw z (tree_zero cells count)))
