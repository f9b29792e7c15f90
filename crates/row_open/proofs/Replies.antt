-- The replies of `decide_open`, and what they leave in the answers. Assumes nothing.
use mathlib.Core.Path.{◌≡◌, refl, sym, ap, ◌∙◌}
use mathlib.Core.Bool.{false}
use mathlib.Core.List.{List}
use Prim.Native.Nat.{ℕ, ◌*◌, ◌≤◌, ◌<◌}
use native.Mathlib.Omega.{arith}
use lib.Dec.{ltb}
use lib.ListN.{length, take, replicate, length-replicate}
use lib.Seq.{length-take-le}
use borrow.Author.Tests.{eq-eqb, ne_eqb, ltb-false}
use Rattle.laws.specs.Lists.{over}
use Rattle.laws.proofs.Choice.{pick_true, pick_false, or_false}
use Rattle.laws.proofs.Lists.{length_over}
use Rattle.std.proofs.Common.{Err}
use Rattle.tree.specs.declared.refusal.Refusal.{Refusal}
use Rattle.tree.specs.Replies.{replied}
use Rattle.tree.specs.Sizes.{node_cells}
use Rattle.tree_rules.specs.Refusals.{refusal, refusal_then, Accepted}
use Rattle.tree_rules.proofs.First.{passed, table_refused, table_passed}
use Rattle.tree_rules.proofs.Accepted.{count_bounds}
use Rattle.expr.specs.declared.order.CalleeOrder.{CalleeOrder}
use Rattle.row_walk.proofs.Numbers.{choice_small, first_small, refusal_small}
use Rattle.row_walk.proofs.Replies.{replied_err, refused_as}
use Rattle.row_walk.proofs.Room.{entries_bound}
use Rattle.row_open.specs.Open.{entry_cells, entries_in, open_refusal12, refusal21, refusal22, entry_refusal, Draft, draft_of, open_refusal, answers_of, answers_after}
use Rattle.row_open.specs.Steps.{unasked, Within, Room, Taken}
use Rattle.row_open.proofs.Choices.{Good, checked, good_within}

-- ---- what the checks give

module _ {count : ℕ} {cells : List ℕ} {entered : ℕ} {numbers : List ℕ} (t : Taken count cells entered numbers) where
  pub taken_good : Good count cells (entries_in entered numbers)
  taken_good = checked cells count (entries_in entered numbers) t.binaries t.ends

  pub taken_within : (n : ℕ) → node_cells * count ≤ n → Within n (entries_in entered numbers)
  taken_within n h = good_within count cells n h (entries_in entered numbers) taken_good

pub moved_room : {entered count n t r a : ℕ} → Room entered count n t r a → {t' r' a' : ℕ} → t ≡ t' → r ≡ r' → a ≡ a' → Room entered count n t' r' a'
moved_room room e f g = record { entries = room.entries; nodes = rw e at room.nodes; wide = rw f at room.wide; told = rw g at room.told }

pub length_copied : (count : ℕ) (cells own own' : List ℕ) → node_cells * count ≤ length cells → node_cells * count ≤ length own → own' ≡ over (take (node_cells * count) cells) own → length own' ≡ length own
length_copied count cells own own' h k e = ap length e ∙ length_over (take (node_cells * count) cells) own (rw (length-take-le (node_cells * count) cells h) k)

pub length_asked : (count : ℕ) (answers start : List ℕ) → count ≤ length answers → start ≡ over (replicate count unasked) answers → length start ≡ length answers
length_asked count answers start h e = ap length e ∙ length_over (replicate count unasked) answers (simp length-replicate h)

-- ---- replies

pub open_small : (d : Draft) (answers : ℕ) → open_refusal d answers < 23
unfolding open_refusal refusal_then entry_refusal
open_small d answers = choice_small _ _ _ (first_small _ tt) (refusal_small d.context d.count d.cells)

module _ (order : CalleeOrder) (context count : ℕ) (cells : List ℕ) (entered : ℕ) (numbers answers : List ℕ) where
  abbrev pub draft : Draft
  draft = draft_of order context count cells entered numbers

  -- a refused table is refused as such, and a refused entry; the answers stay
  pub refused : {A B : Type 0} (u : A) (a : B) (r : Refusal) → Err r ≡ replied (refusal context count cells) u
      → (Err r ≡ replied (open_refusal draft (length answers)) a) × (answers ≡ answers_after draft answers)
  unfolding open_refusal answers_after
  refused u a r e =
      let n = replied_err _ u r e in
      let d : refusal context count cells ≡ open_refusal draft (length answers) = table_refused context count cells _ _ refl n in
      (rw (← d) (refused_as _ u a r e), sym (pick_false _ _ (rw (← d) (ne_eqb _ 0 n))))

  module _ (ok : Accepted context count cells) where
    pub wrong : {A B : Type 0} (u : A) (a : B) (r : Refusal) → Err r ≡ replied (entry_refusal count cells entered numbers (length answers)) u
        → (Err r ≡ replied (open_refusal draft (length answers)) a) × (answers ≡ answers_after draft answers)
    unfolding open_refusal answers_after
    wrong u a r e =
        let n = replied_err _ u r e in
        let d : open_refusal draft (length answers) ≡ entry_refusal count cells entered numbers (length answers) = table_passed context count cells _ ok in
        (rw d (refused_as _ u a r e), sym (pick_false _ _ (rw d (ne_eqb _ 0 n))))

    module _ (right : entry_refusal count cells entered numbers (length answers) ≡ 0) where
      pub not_refused : open_refusal draft (length answers) ≡ 0
      unfolding open_refusal
      not_refused = table_passed context count cells _ ok ∙ right

      pub opened : (after : List ℕ) → after ≡ answers_of draft answers → after ≡ answers_after draft answers
      unfolding answers_after
      opened after e = e ∙ sym (pick_true _ _ (eq-eqb _ 0 not_refused))

      checks : (open_refusal12 count entered (length numbers) (length answers) ≡ false) × (refusal21 cells count (entries_in entered numbers) ≡ false) × (refusal22 (entries_in entered numbers) ≡ false)
      unfolding entry_refusal
      checks =
          let a = passed 12 _ _ (omega arith) right in
          let b = passed 20 _ _ (omega arith) a.1 in
          let c = passed 21 _ _ (omega arith) b.1 in
          let d = passed 22 _ _ (omega arith) c.1 in
          (a.0, c.0, d.0)

      pub told_fits : count ≤ length answers
      unfolding open_refusal12
      told_fits = ltb-false (length answers) count (or_false (ltb (length answers) count) (ltb (length numbers) (entry_cells * entered)) checks.0).0

      pub all_taken : Taken count cells entered numbers
      unfolding open_refusal12
      all_taken =
          let b = count_bounds context count cells ok in
          record {
            few = b.1;
            nodes = b.2;
            shallow = entries_bound context count cells ok;
            entries = ltb-false (length numbers) (entry_cells * entered) (or_false (ltb (length answers) count) (ltb (length numbers) (entry_cells * entered)) checks.0).1;
            binaries = checks.1;
            ends = checks.2;
          }
