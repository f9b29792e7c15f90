-- Replies as numbers: a refusal's number comes back from what it says. Assumes nothing.
use mathlib.Core.Path.{◌≡◌}
use mathlib.Core.Bool.{Bool, true, false, ◌&&◌}
use mathlib.Core.List.{List, [], ◌∷◌}
use Prim.Native.Nat.{ℕ, ◌<◌}
use native.Mathlib.Omega.{arith}
use lib.Dec.{T, eqb, ltb}
use borrow.Author.Tests.{eqb-true, ltb-true}
use Rattle.laws.specs.Choice.{pick, lookup}
use Rattle.laws.proofs.Choice.{true_of, of_true, and_true}
use Rattle.laws.proofs.Each.{all_at}
use Rattle.tree.specs.Replies.{refusals, replied}
use Rattle.tree_rules.specs.Refusals.{first_of, node_refusals, refusal}
use Rattle.tree_rules.specs.Refusals as rules
use Rattle.row_walk.specs.Numbers.{reply_number}
use Rattle.row_walk.specs.Walk.{decided}

-- ---- the numbers of refusals end at 22

pub choice_small : (b : Bool) (m n : ℕ) → m < 23 → n < 23 → pick b m n < 23
unfolding pick
choice_small true m n h k = h
choice_small false m n h k = k

abbrev pub small : List rules.Refusal → Bool
small [] = true
small (r ∷ rs) = ltb r.number 23 && small rs

pub first_small : (rs : List rules.Refusal) → T (small rs) → first_of rs < 23
unfolding first_of
first_small [] t = omega arith
first_small (r ∷ rs) t =
    let d = and_true (ltb r.number 23) (small rs) (true_of t) in
    choice_small r.applies r.number (first_of rs) (ltb-true _ _ d.0) (first_small rs (of_true d.1))

pub refusal_small : (context count : ℕ) (cells : List ℕ) → refusal context count cells < 23
unfolding refusal node_refusals
refusal_small context count cells = first_small _ tt

pub decided_small : (context count : ℕ) (cells : List ℕ) (rows : ℕ) → decided context count cells rows < 23
unfolding decided
decided_small context count cells rows = choice_small _ _ _ (choice_small _ _ _ (omega arith) (omega arith)) (refusal_small context count cells)

-- ---- and come back

pub number_back : (n : ℕ) → n < 23 → reply_number (replied n tt) ≡ n
unfolding replied refusals lookup pick
number_back n h = eqb-true _ _ (true_of (all_at (λ k. eqb (reply_number (replied k tt)) k) 23 tt n h))
