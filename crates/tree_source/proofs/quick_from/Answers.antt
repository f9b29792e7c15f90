-- `tree_source::quick_from` meets its contract. Assumes nothing.
use mathlib.Core.Path.{sym}
use native.Mathlib.Omega.{arith}
use Rattle.tree_source.proofs.Near.{quick_node, slow_short, slow_large, quick_small, read_slowly, read_quickly}
use borrow.Author.Rules.{rules}
use Rattle.tree_source.proofs.quick_from.Goals as goal

pub returns-then-file-at : goal.returns-then-file-at
returns-then-file-at c = rw (sym c.from-at.ensures) (read_slowly _ _ (slow_short _ _ c.if-file-at.true))

pub returns-then-form-attributes-gt127 : goal.returns-then-form-attributes-gt127
returns-then-form-attributes-gt127 c =
    rw (sym c.from-at.ensures)
    (read_slowly _ _
    (slow_large _ _ (omega arith) _ _ _ c.from-form.ensures c.from-attributes.ensures c.from-detail.ensures c.if-form-attributes-gt127.true))

pub returns : goal.returns
returns c =
    let a = c.from-form.ensures in
    rw (sym c.from-at.ensures)
    (read_quickly _ _ _ (quick_small _ _ (omega arith) _ _ _ a c.from-attributes.ensures c.from-detail.ensures (omega arith))
    (quick_node _ _ _ _ _ (omega arith) a c.from-attributes.ensures c.from-detail.ensures (omega arith) _ _ _ _ _ _ c.near_at-first.ensures c.near_at-second.ensures c.near_at-symbol.ensures))
