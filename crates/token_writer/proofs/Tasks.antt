-- Tasks as numbers, and the stack on which they wait. Assumes nothing.
use mathlib.Core.Path.{◌≡◌, refl, ap, ap₂, ◌∙◌}
use mathlib.Core.Bool.{Bool, true, false}
use mathlib.Core.List.{List}
use Prim.Native.Nat.{ℕ, zero, suc, ◌+◌, ◌/◌, ◌%◌, ◌≤◌, ◌<◌}
use native.Mathlib.Omega.{arith}
use lib.Dec.{ltb}
use lib.ListN.{length, set, get_or, length-set}
use lib.Seq.{get_or-set_same, get_or-set_other}
use borrow.Author.Tests.{lt-ltb, le-ltb}
use Rattle.laws.specs.Choice.{pick}
use Rattle.laws.proofs.Choice.{pick_true, pick_false}
use Rattle.token_writer.specs.Tasks.{task_step, task_of, node_in, what_in, between_task, cells_by, pairs_at, code_task, sign_cells, code_cells, own_cells, task_cells, task_pairs, enter_work, task_work, pile, laid, laid_three}

-- ---- a task's two numbers

pub node_in_lem : (i what : ℕ) → i < task_step → node_in (task_of i what) ≡ i
unfolding node_in
node_in_lem i what h = omega arith

pub what_in_lem : (i what : ℕ) → i < task_step → what_in (task_of i what) ≡ what
unfolding what_in
what_in_lem i what h = omega arith

module _ (cells : List ℕ) (count i what : ℕ) (low : i < task_step) where
  module _ (h : what < between_task) where
    is_place : ltb (what_in (task_of i what)) between_task ≡ true
    is_place = rw (what_in_lem i what low) (lt-ltb what between_task h)

    pub enter_cells : task_cells cells count (task_of i what) ≡ cells_by cells count what i
    unfolding task_cells
    enter_cells = pick_true _ _ is_place ∙ rw (what_in_lem i what low, node_in_lem i what low)

    pub enter_pairs : task_pairs cells count (task_of i what) ≡ pairs_at cells count what i
    unfolding task_pairs
    enter_pairs = pick_true _ _ is_place ∙ rw (what_in_lem i what low, node_in_lem i what low)

    pub enter_work_lem : task_work cells count (task_of i what) ≡ enter_work cells count i
    unfolding task_work
    enter_work_lem = pick_true _ _ is_place ∙ rw (node_in_lem i what low)

  module _ (h : between_task ≤ what) where
    no_place : ltb (what_in (task_of i what)) between_task ≡ false
    no_place = rw (what_in_lem i what low) (le-ltb what between_task h)

    pub cells_of_sign : task_cells cells count (task_of i what) ≡ own_cells cells count what i
    unfolding task_cells
    cells_of_sign = pick_false _ _ no_place ∙ rw (what_in_lem i what low, node_in_lem i what low)

    pub sign_pairs : task_pairs cells count (task_of i what) ≡ 0
    unfolding task_pairs
    sign_pairs = pick_false _ _ no_place

    pub sign_work : task_work cells count (task_of i what) ≡ 1
    unfolding task_work
    sign_work = pick_false _ _ no_place

pub enter_some : (cells : List ℕ) (count i : ℕ) → 1 ≤ enter_work cells count i
unfolding enter_work
enter_some cells count i = omega arith

-- the same of a task as it lies on the stack
module _ (cells : List ℕ) (count task : ℕ) where
  pub taken_place : task / task_step < between_task → (task_cells cells count task ≡ cells_by cells count (task / task_step) (task % task_step)) × (task_work cells count task ≡ enter_work cells count (task % task_step))
  unfolding task_cells task_work node_in what_in
  taken_place h = (pick_true _ _ (lt-ltb _ _ h), pick_true _ _ (lt-ltb _ _ h))

  pub taken_sign : between_task ≤ task / task_step → task_cells cells count task ≡ own_cells cells count (task / task_step) (task % task_step)
  unfolding task_cells node_in what_in
  taken_sign h = pick_false _ _ (le-ltb _ _ h)

pub put_together : (task : ℕ) → task_of (task % task_step) (task / task_step) ≡ task
put_together task = omega arith

module _ (cells : List ℕ) (count i what : ℕ) where
  pub own_sign : what < code_task → own_cells cells count what i ≡ sign_cells cells count what i
  unfolding own_cells
  own_sign h = pick_true _ _ (lt-ltb _ _ h)

  pub own_code : code_task ≤ what → own_cells cells count what i ≡ code_cells what
  unfolding own_cells
  own_code h = pick_false _ _ (le-ltb _ _ h)

-- each task takes a turn
pub some_work : (cells : List ℕ) (count task : ℕ) → 1 ≤ task_work cells count task
unfolding task_work enter_work pick
some_work cells count task = go (ltb (what_in task) between_task)
  where
    go : (b : Bool) → 1 ≤ pick b (enter_work cells count (node_in task)) 1
    go true = omega arith
    go false = omega arith

-- ---- the stack

module _ {A : Type 0} (f : ℕ → A → A) (z : A) where
  pub pile_set : (stack : List ℕ) (i x d : ℕ) → d ≤ i → pile f z (set stack i x) d ≡ pile f z stack d
  unfolding pile
  pile_set stack i x zero h = refl
  pile_set stack i x (suc d) h = ap₂ f (get_or-set_other stack i d x 0 (λ e. omega arith)) (pile_set stack i x d (omega arith))

  pub pile_push : (stack : List ℕ) (d x n : ℕ) → d < length stack → n ≡ suc d → pile f z (set stack d x) n ≡ f x (pile f z stack d)
  unfolding pile
  pile_push stack d x n h e = rw e (ap₂ f (get_or-set_same stack d x 0 h) (pile_set stack d x d (omega arith)))

  pub pile_laid : (stack : List ℕ) (d p q r s : ℕ) → 4 + d ≤ length stack → pile f z (laid stack d p q r s) (4 + d) ≡ f s (f r (f q (f p (pile f z stack d))))
  pile_laid stack d p q r s h =
      pile_push (set (set (set stack d p) (1 + d) q) (1 + (1 + d)) r) (1 + (1 + (1 + d))) s (4 + d) (simp length-set (omega arith)) (omega arith)
      ∙ ap (f s)
      (pile_push (set (set stack d p) (1 + d) q) (1 + (1 + d)) r (1 + (1 + (1 + d))) (simp length-set (omega arith)) (omega arith)
      ∙ ap (f r)
      (pile_push (set stack d p) (1 + d) q (1 + (1 + d)) (simp length-set (omega arith)) (omega arith) ∙ ap (f q) (pile_push stack d p (1 + d) (omega arith) (omega arith))))

  pub pile_three : (stack : List ℕ) (d p q r : ℕ) → 3 + d ≤ length stack → pile f z (laid_three stack d p q r) (3 + d) ≡ f r (f q (f p (pile f z stack d)))
  pile_three stack d p q r h =
      pile_push (set (set stack d p) (1 + d) q) (1 + (1 + d)) r (3 + d) (simp length-set (omega arith)) (omega arith)
      ∙ ap (f r) (pile_push (set stack d p) (1 + d) q (1 + (1 + d)) (simp length-set (omega arith)) (omega arith) ∙ ap (f q) (pile_push stack d p (1 + d) (omega arith) (omega arith)))

  -- the task on top
  pub pile_top : (stack : List ℕ) (n d : ℕ) → n ≡ suc d → pile f z stack n ≡ f (get_or stack d 0) (pile f z stack d)
  unfolding pile
  pile_top stack n d e = ap (pile f z stack) e

-- no more tasks than turns
pub deep : (cells : List ℕ) (count : ℕ) (stack : List ℕ) (d : ℕ) → d ≤ pile (λ task r. task_work cells count task + r) 0 stack d
unfolding pile
deep cells count stack zero = omega arith
deep cells count stack (suc d) = let r = deep cells count stack d in let s = some_work cells count (get_or stack d 0) in omega arith
