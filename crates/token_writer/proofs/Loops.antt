-- The loop of `write_tree`: what is written and what waits are the whole. Assumes nothing.
use mathlib.Core.Path.{◌≡◌, sym, ap, ◌∙◌}
use mathlib.Core.List.{List, [], ◌++◌, append_assoc, append-nil}
use Prim.Native.Nat.{ℕ, suc, ◌+◌, ◌*◌, ◌-◌, ◌≤◌, ◌<◌}
use native.Mathlib.Omega.{arith}
use lib.ListN.{length, get_or, set, length-append}
use Rattle.laws.specs.Puts.{Put}
use Rattle.laws.proofs.Putting.{put_none, put_more}
use Rattle.tree.specs.Sizes.{node_cells}
use Rattle.token_writer.specs.declared.Turn.{Turn}
use Rattle.token_writer.specs.Tasks.{task_of, between_task, cells_by, pairs_at, task_cells, task_pairs, enter_work, task_work, pile, waiting_cells, waiting_pairs, waiting_work, Turned}
use Rattle.token_writer.proofs.Tasks.{enter_cells, enter_pairs, enter_work_lem, some_work, pile_push, pile_top, deep}

module _ (cells : List ℕ) (count p : ℕ) (before : List ℕ) (lent : ℕ) where
  pub record State (stack tokens : List ℕ) (at pairs depth : ℕ) : Type 0 where
    pub written : List ℕ
    pub puts : Put before 0 written tokens at
    pub whole : cells_by cells count p 1 ≡ written ++ waiting_cells cells count stack depth
    pub counted : pairs_at cells count p 1 ≡ pairs + waiting_pairs cells count stack depth
    pub work : waiting_work cells count stack depth ≤ enter_work cells count 1
    pub room : enter_work cells count 1 ≤ lent
    pub size : length stack ≡ lent

  pub start : p < between_task → (stack after : List ℕ) (depth : ℕ) → enter_work cells count 1 ≤ length stack → after ≡ set stack 0 (task_of 1 p) → depth ≡ 1 + 0 → length after ≡ length stack → length after ≡ lent → State after before 0 0 depth
  unfolding pile
  start here stack after depth room e d l is =
      let some = some_work cells count (task_of 1 p) in
      let w = enter_work_lem cells count 1 p (omega arith) here in
      let n : depth ≡ suc 0 = omega arith in
      let z : 0 < length stack = omega arith in
      record {
        written = [];
        puts = put_none before 0;
        whole = sym (rw e (pile_push (λ task r. task_cells cells count task ++ r) [] stack 0 (task_of 1 p) depth z n) ∙ append-nil _ ∙ enter_cells cells count 1 p (omega arith) here);
        counted = let q = rw (← e) at (pile_push (λ task r. task_pairs cells count task + r) 0 stack 0 (task_of 1 p) depth z n) in let r = enter_pairs cells count 1 p (omega arith) here in omega arith;
        work = let q = rw (← e) at (pile_push (λ task r. task_work cells count task + r) 0 stack 0 (task_of 1 p) depth z n) in omega arith;
        room = omega arith;
        size = is;
      }

  module _ (stack tokens : List ℕ) (at pairs depth : ℕ) (s : State stack tokens at pairs depth) (some : 0 < depth) (d : ℕ) (is : d ≡ depth - 1) where
    abbrev task : ℕ
    task = get_or stack d 0

    down : depth ≡ suc d
    down = omega arith

    top_cells : waiting_cells cells count stack depth ≡ task_cells cells count task ++ waiting_cells cells count stack d
    top_cells = pile_top (λ task r. task_cells cells count task ++ r) [] stack depth d down

    top_pairs : waiting_pairs cells count stack depth ≡ task_pairs cells count task + waiting_pairs cells count stack d
    top_pairs = pile_top (λ task r. task_pairs cells count task + r) 0 stack depth d down

    top_work : waiting_work cells count stack depth ≡ task_work cells count task + waiting_work cells count stack d
    top_work = pile_top (λ task r. task_work cells count task + r) 0 stack depth d down

    pub fits : length (cells_by cells count p 1) ≤ length before → node_cells * count ≤ length cells → (d < length stack) × (d + task_work cells count task ≤ length stack) × (at + length (task_cells cells count task) ≤ length tokens) × (node_cells * count ≤ length cells)
    fits lent table =
        let low = deep cells count stack d in
        let own = some_work cells count task in
        let n = ap length (s.whole ∙ ap (λ r. s.written ++ r) top_cells) in
        let m = simp length-append at n in
        (omega (arith, top_work, s.work, s.room, s.size), omega (arith, top_work, s.work, s.room, s.size), omega (arith, s.puts.ends, s.puts.room), table)

    module _ (new_stack new_tokens : List ℕ) (turn : Turn) (t : Turned cells count task stack d tokens at new_stack new_tokens turn) where
      pub again : State new_stack new_tokens turn.at (pairs + turn.pairs) turn.depth
      again =
          record {
            written = s.written ++ t.first;
            puts = put_more s.puts t.puts;
            whole = s.whole ∙ ap (λ r. s.written ++ r) (top_cells ∙ t.same) ∙ sym (append_assoc s.written t.first (waiting_cells cells count new_stack turn.depth));
            counted = omega (arith, s.counted, top_pairs, t.pairs);
            work = omega (arith, s.work, top_work, t.less);
            room = s.room;
            size = t.room ∙ s.size;
          }

      pub less : waiting_work cells count new_stack turn.depth < waiting_work cells count stack depth
      less = omega (arith, top_work, t.less)

      pub few_pairs : (most : ℕ) → pairs_at cells count p 1 ≤ most → pairs + turn.pairs ≤ most
      few_pairs most h = omega (arith, s.counted, top_pairs, t.pairs)

  pub end : (stack tokens : List ℕ) (at pairs depth : ℕ) → State stack tokens at pairs depth → depth ≡ 0 → Put before 0 (cells_by cells count p 1) tokens at × (pairs ≡ pairs_at cells count p 1)
  unfolding pile
  end stack tokens at pairs depth s z =
      let e : cells_by cells count p 1 ≡ s.written = s.whole ∙ rw z (append-nil _) in
      let w : waiting_pairs cells count stack depth ≡ 0 = rw z in
      (rw e s.puts, omega (arith, s.counted))
