-- `row_open::refused_entries` meets its contract. Assumes nothing.
use mathlib.Core.Path.{◌≡◌, refl, sym, ◌∙◌}
use mathlib.Core.Bool.{Bool, true, false}
use mathlib.Core.List.{List}
use Prim.Native.Nat.{ℕ, ◌*◌, ◌≤◌, ◌<◌}
use native.Mathlib.Omega.{arith}
use Rattle.tree.specs.Replies.{replied, refusals}
use borrow.Author.Tests.{lt-ltb, le-ltb}
use lib.ListN.{length}
use Rattle.laws.specs.Choice.{pick, lookup}
use Rattle.laws.proofs.Choice.{pick_true, pick_false, or_here, or_next}
use Rattle.tree_rules.specs.Refusals.{first_of}
use Rattle.row_open.specs.Open.{entry_cells, most_entries, entries_in, open_refusal12, refusal20, refusal21, refusal22, entry_refusal}
use Rattle.row_open.proofs.refused_entries.Goals as goal

module _ (count : ℕ) (cells : List ℕ) (entered : ℕ) (numbers : List ℕ) (answers : ℕ) where
  short_answers : answers < count → entry_refusal count cells entered numbers answers ≡ 12
  unfolding entry_refusal first_of open_refusal12
  short_answers h = pick_true _ _ (or_here _ (lt-ltb _ _ h))

  short_entries : count ≤ answers → length numbers < entry_cells * entered → entry_refusal count cells entered numbers answers ≡ 12
  unfolding entry_refusal first_of open_refusal12
  short_entries h k = pick_true _ _ (or_next _ (le-ltb _ _ h) ∙ lt-ltb _ _ k)

  module _ (h : count ≤ answers) (k : entry_cells * entered ≤ length numbers) where
    too_many : most_entries < entered → entry_refusal count cells entered numbers answers ≡ 20
    unfolding entry_refusal first_of open_refusal12 refusal20
    too_many m = pick_false _ _ (or_next _ (le-ltb _ _ h) ∙ le-ltb _ _ k) ∙ pick_true _ _ (lt-ltb _ _ m)

    module _ (m : entered ≤ most_entries) where
      by_node : entry_refusal count cells entered numbers answers ≡ pick (refusal21 cells count (entries_in entered numbers)) 21 (pick (refusal22 (entries_in entered numbers)) 22 0)
      unfolding entry_refusal first_of open_refusal12 refusal20
      by_node = pick_false _ _ (or_next _ (le-ltb _ _ h) ∙ le-ltb _ _ k) ∙ pick_false _ _ (le-ltb _ _ m)

      wrong_node : refusal21 cells count (entries_in entered numbers) ≡ true → entry_refusal count cells entered numbers answers ≡ 21
      wrong_node e = by_node ∙ pick_true _ _ e

      by_ends : refusal21 cells count (entries_in entered numbers) ≡ false → (b : Bool) → b ≡ refusal22 (entries_in entered numbers) → entry_refusal count cells entered numbers answers ≡ pick b 22 0
      by_ends e b f = by_node ∙ pick_false _ _ e ∙ rw f

pub returns-then-answers-from : goal.returns-then-answers-from
unfolding replied refusals lookup pick
returns-then-answers-from c = rw (short_answers c.args.table.now.count c.args.table.now.cells.now c.args.entered c.args.entries.now c.args.answers (omega (arith, c.from.ensures, c.if-answers-from.true)))

pub returns-then-entries-from : goal.returns-then-entries-from
unfolding replied refusals lookup pick
returns-then-entries-from c = rw (short_entries c.args.table.now.count c.args.table.now.cells.now c.args.entered c.args.entries.now c.args.answers (omega (arith, c.from.ensures, c.if-answers-from.false)) (omega (arith, c.from-2.ensures, c.if-entries-from.true)))

pub returns-then-entered-gt-MOST_ENTRIES : goal.returns-then-entered-gt-MOST_ENTRIES
unfolding replied refusals lookup pick
returns-then-entered-gt-MOST_ENTRIES c = rw (too_many c.args.table.now.count c.args.table.now.cells.now c.args.entered c.args.entries.now c.args.answers (omega (arith, c.from.ensures, c.if-answers-from.false)) (omega (arith, c.from-2.ensures, c.if-entries-from.false)) c.if-entered-gt-MOST_ENTRIES.true)

pub has_wrong_node-requires : goal.has_wrong_node-requires
has_wrong_node-requires c = (omega (arith, c.from-2.ensures, c.if-entries-from.false))

pub returns-then-has_wrong_node : goal.returns-then-has_wrong_node
unfolding replied refusals lookup pick
returns-then-has_wrong_node c = rw (wrong_node c.args.table.now.count c.args.table.now.cells.now c.args.entered c.args.entries.now c.args.answers (omega (arith, c.from.ensures, c.if-answers-from.false)) (omega (arith, c.from-2.ensures, c.if-entries-from.false)) (omega arith) (sym c.has_wrong_node.ensures ∙ c.if-has_wrong_node.true))

pub has_wrong_ends-requires : goal.has_wrong_ends-requires
has_wrong_ends-requires c = (omega (arith, c.from-2.ensures, c.if-entries-from.false))

pub returns-then-has_wrong_ends : goal.returns-then-has_wrong_ends
unfolding replied refusals lookup pick
returns-then-has_wrong_ends c = rw (by_ends c.args.table.now.count c.args.table.now.cells.now c.args.entered c.args.entries.now c.args.answers (omega (arith, c.from.ensures, c.if-answers-from.false)) (omega (arith, c.from-2.ensures, c.if-entries-from.false)) (omega arith) (sym c.has_wrong_node.ensures ∙ c.if-has_wrong_node.false) true (sym (sym c.has_wrong_ends.ensures ∙ c.if-has_wrong_ends.true)))

pub returns : goal.returns
unfolding replied refusals lookup pick
returns c = rw (by_ends c.args.table.now.count c.args.table.now.cells.now c.args.entered c.args.entries.now c.args.answers (omega (arith, c.from.ensures, c.if-answers-from.false)) (omega (arith, c.from-2.ensures, c.if-entries-from.false)) (omega arith) (sym c.has_wrong_node.ensures ∙ c.if-has_wrong_node.false) false (sym (sym c.has_wrong_ends.ensures ∙ c.if-has_wrong_ends.false)))
