-- `row_open::has_wrong_ends` meets its contract. Assumes nothing.
use mathlib.Core.Path.{◌≡◌, refl, sym, ◌∙◌}
use mathlib.Core.Bool.{Bool, true, ◌||◌}
use mathlib.Core.List.{List}
use Prim.Native.Nat.{ℕ, ◌-◌, ◌≤◌, ◌<◌}
use native.Mathlib.Omega.{arith}
use lib.Dec.{ltb}
use borrow.Author.Tests.{lt-ltb, le-ltb}
use Rattle.laws.proofs.Choice.{or_here, or_next}
use Rattle.row_open.specs.declared.Entry.{Entry}
use Rattle.row_open.specs.Open.{entry_at, entries_in, last_binary, refusal22}
use Rattle.row_open.proofs.Entries.{last_entry, no_entry}
use Rattle.row_open.proofs.has_wrong_ends.Goals as goal

module _ (numbers : List ℕ) (n : ℕ) (some : 0 < n) (e : Entry) (is : e ≡ entry_at numbers (n - 1)) where
  -- the last entry's ends
  abbrev wrong : Bool
  wrong = ltb e.highest e.lowest || ltb last_binary e.highest

  unfolds : refusal22 (entries_in n numbers) ≡ wrong || refusal22 (entries_in (n - 1) numbers)
  unfolding refusal22
  unfolds = rw (last_entry numbers n some, is)

  turned : e.highest < e.lowest → refusal22 (entries_in n numbers) ≡ true
  turned h = unfolds ∙ or_here _ (or_here _ (lt-ltb _ _ h))

  past : e.lowest ≤ e.highest → last_binary < e.highest → refusal22 (entries_in n numbers) ≡ true
  past h k = unfolds ∙ or_here _ (or_next _ (le-ltb _ _ h) ∙ lt-ltb _ _ k)

  next : e.lowest ≤ e.highest → e.highest ≤ last_binary → refusal22 (entries_in n numbers) ≡ refusal22 (entries_in (n - 1) numbers)
  next h k = unfolds ∙ or_next _ (or_next _ (le-ltb _ _ h) ∙ le-ltb _ _ k)

pub entry_at-entry-requires : goal.entry_at-entry-requires
entry_at-entry-requires c = omega arith

pub returns-then-entry : goal.returns-then-entry
returns-then-entry c = sym (sym c.loop-left.invariant ∙ turned c.args.entries.now c.loop-left.left c.loop-left-test.true _ c.entry_at-entry.ensures c.if-entry.true)

pub returns-then-entry-gt-LAST_BINARY : goal.returns-then-entry-gt-LAST_BINARY
returns-then-entry-gt-LAST_BINARY c = sym (sym c.loop-left.invariant ∙ past c.args.entries.now c.loop-left.left c.loop-left-test.true _ c.entry_at-entry.ensures c.if-entry.false c.if-entry-gt-LAST_BINARY.true)

pub loop-left-preserved : goal.loop-left-preserved
loop-left-preserved c = sym (next c.args.entries.now c.loop-left.left c.loop-left-test.true _ c.entry_at-entry.ensures c.if-entry.false (omega arith)) ∙ c.loop-left.invariant

pub returns : goal.returns
unfolding refusal22
returns c = sym (sym c.loop-left.invariant ∙ rw (no_entry c.args.entries.now c.loop-left.left (omega arith)))
