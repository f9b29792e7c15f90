-- `row_open::has_wrong_node` meets its contract. Assumes nothing.
use mathlib.Core.Path.{◌≡◌, refl, sym, ◌∙◌}
use mathlib.Core.Bool.{Bool, true, false, not, ◌||◌}
use mathlib.Core.List.{List}
use Prim.Native.Nat.{ℕ, ◌-◌, ◌<◌}
use native.Mathlib.Omega.{arith}
use lib.Dec.{eqb}
use borrow.Author.Tests.{eq-eqb, ne_eqb}
use Rattle.laws.specs.Choice.{is_one_of}
use Rattle.laws.proofs.Choice.{or_here, or_next}
use Rattle.tree.specs.Forms.{expr_binary}
use Rattle.tree.specs.Operands.{form_in}
use Rattle.row_open.specs.declared.Entry.{Entry}
use Rattle.row_open.specs.Open.{entry_at, entries_in, nodes_of, refusal21}
use Rattle.row_open.proofs.Entries.{last_entry, no_entry}
use Rattle.row_open.proofs.has_wrong_node.Goals as goal

module _ (cells : List ℕ) (count : ℕ) (numbers : List ℕ) (n : ℕ) (some : 0 < n) (e : Entry) (is : e ≡ entry_at numbers (n - 1)) (form : ℕ) (of : form ≡ form_in cells count e.node) where
  unfolds : refusal21 cells count (entries_in n numbers) ≡ not (eqb form expr_binary) || (is_one_of (nodes_of (entries_in (n - 1) numbers)) e.node || refusal21 cells count (entries_in (n - 1) numbers))
  unfolding refusal21
  unfolds = rw (of, last_entry numbers n some, is)

  wrong : (form ≡ expr_binary → ⊥) → refusal21 cells count (entries_in n numbers) ≡ true
  wrong h = unfolds ∙ rw (ne_eqb _ _ h)

  module _ (binary : form ≡ expr_binary) (twice : Bool) (entered : twice ≡ is_one_of (nodes_of (entries_in (n - 1) numbers)) e.node) where
    goes : refusal21 cells count (entries_in n numbers) ≡ twice || refusal21 cells count (entries_in (n - 1) numbers)
    goes = unfolds ∙ rw (eq-eqb _ _ binary, ← entered)

    again : twice ≡ true → refusal21 cells count (entries_in n numbers) ≡ true
    again h = goes ∙ or_here _ h

    next : twice ≡ false → refusal21 cells count (entries_in n numbers) ≡ refusal21 cells count (entries_in (n - 1) numbers)
    next h = goes ∙ or_next _ h

pub entry_at-entry-requires : goal.entry_at-entry-requires
entry_at-entry-requires c = omega arith

pub returns-then-form_number-ne-EXPR_BINARY : goal.returns-then-form_number-ne-EXPR_BINARY
returns-then-form_number-ne-EXPR_BINARY c = sym (sym c.loop-left.invariant ∙ wrong c.args.table.now.cells.now c.args.table.now.count c.args.entries.now c.loop-left.left c.loop-left-test.true _ c.entry_at-entry.ensures _ c.form_number.ensures c.if-form_number-ne-EXPR_BINARY.true)

pub is_entered-requires : goal.is_entered-requires
is_entered-requires c = omega arith

pub returns-then-is_entered : goal.returns-then-is_entered
returns-then-is_entered c = sym (sym c.loop-left.invariant ∙ again c.args.table.now.cells.now c.args.table.now.count c.args.entries.now c.loop-left.left c.loop-left-test.true _ c.entry_at-entry.ensures _ c.form_number.ensures c.if-form_number-ne-EXPR_BINARY.false _ c.is_entered.ensures c.if-is_entered.true)

pub loop-left-preserved : goal.loop-left-preserved
loop-left-preserved c = sym (next c.args.table.now.cells.now c.args.table.now.count c.args.entries.now c.loop-left.left c.loop-left-test.true _ c.entry_at-entry.ensures _ c.form_number.ensures c.if-form_number-ne-EXPR_BINARY.false _ c.is_entered.ensures c.if-is_entered.false) ∙ c.loop-left.invariant

pub returns : goal.returns
unfolding refusal21
returns c = sym (sym c.loop-left.invariant ∙ rw (no_entry c.args.entries.now c.loop-left.left (omega arith)))
