-- `row_walk::enter` meets its contract. Assumes nothing.
use mathlib.Core.Path.{◌≡◌, sym, ap, ◌∙◌}
use mathlib.Core.Bool.{true, false}
use borrow.Author.Tests.{not-true, not-false}
use Rattle.tree.specs.Trees.{tree_at}
use Rattle.row.specs.declared.Row.{Row}
use Rattle.row.specs.declared.Decision.{Decision}
use Rattle.row.specs.Rows.{is_expression}
use Rattle.row.specs.Hands.{handed_of}
use Rattle.row.proofs.Hands.{hand_context}
use Rattle.row_walk.specs.Walk.{row_stored}
use Rattle.row_walk.proofs.Decisions.{own_outer, own_kept, own_other, row_expression, row_other}
use Rattle.row_pack.specs.Packs.{packed_of}
use Rattle.row_pack.proofs.Packs.{none_packed}
use Rattle.row_walk.proofs.enter.Goals as goal

pub returns-then-is_other : goal.returns-then-is_other
returns-then-is_other c =
    let e : is_expression (tree_at c.args.table.now.cells.now c.args.table.now.count c.args.node) ≡ false = not-true _ (sym c.is_other.ensures ∙ c.if-is_other.true) in
    record {
      own = sym none_packed ∙ ap packed_of (own_other (handed_of c.args.hand) _ e);
      rows = c.store.ensures ∙ ap (λ (r : Row). row_stored c.args.node r c.args.rows.now) (c.no_row.ensures ∙ row_other (handed_of c.args.hand) _ e);
    }

pub returns-then-decision : goal.returns-then-decision
returns-then-decision c =
    let e : is_expression (tree_at c.args.table.now.cells.now c.args.table.now.count c.args.node) ≡ true = not-false _ (sym c.is_other.ensures ∙ c.if-is_other.false) in
    record {
      own = sym none_packed ∙ ap packed_of (own_outer (handed_of c.args.hand) _ e (sym (ap (λ (d : Decision). d.outer) c.decision_of-decision.ensures) ∙ c.if-decision.true));
      rows = c.store-2.ensures ∙ ap (λ (r : Row). row_stored c.args.node r c.args.rows.now) (ap (λ (d : Decision). d.row) c.decision_of-decision.ensures ∙ row_expression (handed_of c.args.hand) _ e);
    }

pub returns : goal.returns
returns c =
    let e : is_expression (tree_at c.args.table.now.cells.now c.args.table.now.count c.args.node) ≡ true = not-false _ (sym c.is_other.ensures ∙ c.if-is_other.false) in
    let k = hand_context c.args.hand in
    record {
      own = k ∙ ap packed_of (own_kept (handed_of c.args.hand) _ e (sym (ap (λ (d : Decision). d.outer) c.decision_of-decision.ensures) ∙ c.if-decision.false));
      rows = c.store-2.ensures ∙ ap (λ (r : Row). row_stored c.args.node r c.args.rows.now) (ap (λ (d : Decision). d.row) c.decision_of-decision.ensures ∙ row_expression (handed_of c.args.hand) _ e);
    }
