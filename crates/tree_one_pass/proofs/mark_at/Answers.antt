-- `tree_one_pass::mark_at` meets its contract. Assumes nothing.
use mathlib.Core.Path.{◌≡◌, refl, sym, ◌∙◌}
use mathlib.Core.Bool.{Bool, true}
use mathlib.Core.List.{List}
use Prim.Native.Nat.{ℕ}
use lib.Dec.{leb}
use borrow.Author.Tests.{not-false, not-true}
use Rattle.laws.proofs.Choice.{and_true}
use Rattle.laws.proofs.Calls.{free}
use Rattle.tree.specs.Forms.{highest_symbol}
use Rattle.tree.specs.Table.{form_at, detail_at, symbol_at}
use Rattle.tree_source.specs.declared.Node.{Node}
use Rattle.tree_source.specs.Source.{cells_of}
use Rattle.tree_source.specs.Nodes.{NodeAt}
use Rattle.tree_one_pass.proofs.Codes.{row_by, some_row, marks_at}
use borrow.Author.Rules.{rules}
use Rattle.tree_one_pass.proofs.mark_at.Goals as goal

-- the node's symbol is allowed, by the numbers that were read
named : (cells : List ℕ) (i : ℕ) (n : Node) → NodeAt cells i n → (b : Bool) → b ≡ leb n.symbol (highest_symbol n.form n.detail) → b ≡ true
    → leb (symbol_at cells i) (highest_symbol (form_at cells i) (detail_at cells i)) ≡ true
named cells i n at b e t = rw (← at.form, ← at.detail, ← at.symbol) (sym e ∙ t)

pub returns-then-mark-ne0 : goal.returns-then-mark-ne0
returns-then-mark-ne0 c =
    let s = named (cells_of c.args.source.now.file.now c.args.source.now.held.now) c.args.node c.args.numbers c.requires.0 _ c.is_symbol_allowed.ensures c.if-not-is_symbol_allowed.false in
    λ h.
    let k = c.mark_with-mark.ensures h in
    let r = and_true _ _ (c.row_of.ensures (some_row _ k.1.0) _) in
    let at = row_by _ _ _ _ _ c.requires.0.form c.requires.0.detail r.0 (not-true _ r.1) in
    marks_at (cells_of c.args.source.now.file.now c.args.source.now.held.now) c.args.node c.args.one _ _ _ c.requires.0.attributes c.requires.0.detail s at k.0 c.args.two _ k.1

pub returns : goal.returns
returns c =
    let s = named (cells_of c.args.source.now.file.now c.args.source.now.held.now) c.args.node c.args.numbers c.requires.0 _ c.is_symbol_allowed.ensures c.if-not-is_symbol_allowed.false in
    λ h.
    let k = c.mark_with.ensures h in
    let at = c.rare_row.ensures (some_row _ k.1.0) in
    marks_at (cells_of c.args.source.now.file.now c.args.source.now.held.now) c.args.node c.args.one _ _ _ c.requires.0.attributes c.requires.0.detail s at k.0 c.args.two _ k.1
