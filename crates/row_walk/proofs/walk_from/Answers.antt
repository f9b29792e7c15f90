-- `row_walk::walk_from` meets its contract. The loop keeps what the rows will be once all that waits is done; what is left are the nodes that have no row yet. Assumes nothing.
use mathlib.Core.Path.{◌≡◌, refl, sym, ap, ◌∙◌}
use mathlib.Core.Bool.{false}
use mathlib.Core.List.{List}
use Prim.Native.Nat.{ℕ, ◌-◌, ◌<◌}
use native.Mathlib.Omega.{arith}
use lib.ListN.{length, get_or}
use borrow.Author.Tests.{not-true}
use Rattle.tree.specs.Sizes.{most_levels}
use Rattle.tree.specs.Trees.{tree_at}
use Rattle.fixup.specs.declared.context.FixupContext.{FixupContext}
use Rattle.expr.specs.declared.Handed.{Handed}
use Rattle.expr.specs.declared.order.CalleeOrder.{CalleeOrder}
use Rattle.expr.specs.Expr.{hands_first, hands_second}
use Rattle.row_pack.specs.Packs.{packed_of, unpacked_of}
use Rattle.row_pack.proofs.Packs.{unpacks, none_packed}
use Rattle.row.specs.Rows.{is_expression, row_of, own_context}
use Rattle.row.specs.Steps.{alone}
use Rattle.row.specs.Hands.{handed_of}
use Rattle.row.proofs.Hands.{handed_back}
use Rattle.row_walk.specs.Walk.{row_stored}
use Rattle.row_walk.specs.Steps.{placed_within, finish}
use Rattle.row_walk.proofs.Decisions.{first_other, own_lone}
use Rattle.row_walk.proofs.Turns.{heeded, State, todo, unheard, pushed, unpushed, across, popped, finished}
use Rattle.row_walk.proofs.walk_from.Goals as goal
use Rattle.row_walk.proofs.walk_from.Goals.{Then-is_other, After-first_hand-hand, After-second_hand-hand, Then-is_other-2, After-second_hand-hand-in-loop-lone, then-lone, else-lone, then-second-ne0+then-depth-lt-ENTRIES, else-second-ne0, else-second-ne0-via-then-second-ne0+else-depth-lt-ENTRIES, else-second-ne0-via-else-second-ne0}

-- what a turn that ends so has to show: less is left, and the rows will be the same
abbrev Turn : (order : CalleeOrder) (cells : List ℕ) (count root : ℕ) (start nodes₀ : List ℕ) (depth₀ at₀ : ℕ) (rows nodes contexts : List ℕ) (depth : ℕ) (handed : Handed) (at : ℕ) → Type 0
Turn order cells count root start nodes₀ depth₀ at₀ rows nodes contexts depth handed at =
    (todo order cells count nodes depth at < todo order cells count nodes₀ depth₀ at₀)
    × State order cells count (placed_within order cells count most_levels 1 (handed_of root) start) (length start) rows nodes contexts depth handed at

-- below a type or a link no owner tests it
down_alone : (c : Then-is_other) → Turn c.args.order c.args.table.now.cells.now c.args.table.now.count c.args.root c.args.rows.now c.loop-lone.nodes c.loop-lone.depth c.loop-lone.at c.if-lone.rows c.if-second-ne0.nodes c.if-second-ne0.contexts c.if-second-ne0.depth (alone (tree_at c.args.table.now.cells.now c.args.table.now.count c.operand_number-first.result)) c.operand_number-first.result
down_alone c =
    let tree = tree_at c.args.table.now.cells.now c.args.table.now.count c.loop-lone.at in
    let handed = heeded c.args.order c.args.table.now.cells.now c.args.table.now.count c.loop-lone.lone (handed_of c.loop-lone.hand) c.loop-lone.at in
    let e : (c.if-lone.own ≡ packed_of (own_context handed tree)) × (c.if-lone.rows ≡ row_stored c.loop-lone.at (row_of handed tree) c.loop-lone.rows) =
    elim c.if-lone.branch [
      | then-lone w ↦ rw w.if-lone.true (w.own-is ∙ sym none_packed ∙ ap packed_of (own_lone tree), w.rows-is ∙ w.enter_alone.ensures)
      | else-lone w ↦ rw w.if-lone.false (w.own-is ∙ w.enter-own.ensures.own, w.rows-is ∙ w.enter-own.ensures.rows)
    ] in
    let o : is_expression tree ≡ false = not-true _ (sym c.is_other.ensures ∙ c.if-is_other.true) in
    let v = c.loop-lone.invariant in
    let eh : alone (tree_at c.args.table.now.cells.now c.args.table.now.count c.operand_number-first.result) ≡ hands_first c.args.order (own_context handed tree) tree =
    ap (λ (i : ℕ). alone (tree_at c.args.table.now.cells.now c.args.table.now.count i)) c.operand_number-first.ensures ∙ first_other _ c.args.table.now.cells.now c.args.table.now.count c.loop-lone.at v.low v.high o c.args.order in
    let f = c.operand_number-first.ensures in
    let g = c.operand_number-second.ensures in
    let n = c.if-first-ne0.true in
    elim c.if-second-ne0.branch [
      | then-second-ne0+then-depth-lt-ENTRIES w ↦ rw (w.nodes-is, w.contexts-is, e.0, w.depth-is) (pushed _ _ _ _ _ _ _ _ _ _ _ c.loop-lone.invariant _ refl _ e.1 _ _ f g (alone (tree_at c.args.table.now.cells.now c.args.table.now.count c.operand_number-first.result)) n w.if-second-ne0.true w.if-depth-lt-ENTRIES.true eh)
      | else-second-ne0 w ↦ elim w.else-second-ne0.branch [
        | else-second-ne0-via-then-second-ne0+else-depth-lt-ENTRIES v ↦ rw (w.nodes-is, w.contexts-is, w.depth-is) (unpushed _ _ _ _ _ _ _ _ _ _ _ c.loop-lone.invariant _ refl _ e.1 _ _ f g (alone (tree_at c.args.table.now.cells.now c.args.table.now.count c.operand_number-first.result)) n (λ m d. let q = v.if-depth-lt-ENTRIES.false in omega (arith, q, d)) eh)
        | else-second-ne0-via-else-second-ne0 v ↦ rw (w.nodes-is, w.contexts-is, w.depth-is) (unpushed _ _ _ _ _ _ _ _ _ _ _ c.loop-lone.invariant _ refl _ e.1 _ _ f g (alone (tree_at c.args.table.now.cells.now c.args.table.now.count c.operand_number-first.result)) n (λ m d. m v.if-second-ne0.false) eh)
      ]
    ]

-- below an expression it is handed what goes by the own context
down_handed : (c : After-first_hand-hand) → Turn c.args.order c.args.table.now.cells.now c.args.table.now.count c.args.root c.args.rows.now c.loop-lone.nodes c.loop-lone.depth c.loop-lone.at c.if-lone.rows c.if-second-ne0.nodes c.if-second-ne0.contexts c.if-second-ne0.depth (handed_of c.first_hand-hand.result) c.operand_number-first.result
down_handed c =
    let tree = tree_at c.args.table.now.cells.now c.args.table.now.count c.loop-lone.at in
    let handed = heeded c.args.order c.args.table.now.cells.now c.args.table.now.count c.loop-lone.lone (handed_of c.loop-lone.hand) c.loop-lone.at in
    let e : (c.if-lone.own ≡ packed_of (own_context handed tree)) × (c.if-lone.rows ≡ row_stored c.loop-lone.at (row_of handed tree) c.loop-lone.rows) =
    elim c.if-lone.branch [
      | then-lone w ↦ rw w.if-lone.true (w.own-is ∙ sym none_packed ∙ ap packed_of (own_lone tree), w.rows-is ∙ w.enter_alone.ensures)
      | else-lone w ↦ rw w.if-lone.false (w.own-is ∙ w.enter-own.ensures.own, w.rows-is ∙ w.enter-own.ensures.rows)
    ] in
    let eh : handed_of c.first_hand-hand.result ≡ hands_first c.args.order (own_context handed tree) tree =
    ap handed_of c.first_hand-hand.ensures ∙ handed_back _ ∙ ap (λ (x : FixupContext). hands_first c.args.order x tree) (ap unpacked_of e.0 ∙ unpacks _) in
    let f = c.operand_number-first.ensures in
    let g = c.operand_number-second.ensures in
    let n = c.if-first-ne0.true in
    elim c.if-second-ne0.branch [
      | then-second-ne0+then-depth-lt-ENTRIES w ↦ rw (w.nodes-is, w.contexts-is, e.0, w.depth-is) (pushed _ _ _ _ _ _ _ _ _ _ _ c.loop-lone.invariant _ refl _ e.1 _ _ f g (handed_of c.first_hand-hand.result) n w.if-second-ne0.true w.if-depth-lt-ENTRIES.true eh)
      | else-second-ne0 w ↦ elim w.else-second-ne0.branch [
        | else-second-ne0-via-then-second-ne0+else-depth-lt-ENTRIES v ↦ rw (w.nodes-is, w.contexts-is, w.depth-is) (unpushed _ _ _ _ _ _ _ _ _ _ _ c.loop-lone.invariant _ refl _ e.1 _ _ f g (handed_of c.first_hand-hand.result) n (λ m d. let q = v.if-depth-lt-ENTRIES.false in omega (arith, q, d)) eh)
        | else-second-ne0-via-else-second-ne0 v ↦ rw (w.nodes-is, w.contexts-is, w.depth-is) (unpushed _ _ _ _ _ _ _ _ _ _ _ c.loop-lone.invariant _ refl _ e.1 _ _ f g (handed_of c.first_hand-hand.result) n (λ m d. m v.if-second-ne0.false) eh)
      ]
    ]

-- across to the second operand, where there is no first
over : (c : After-second_hand-hand) → Turn c.args.order c.args.table.now.cells.now c.args.table.now.count c.args.root c.args.rows.now c.loop-lone.nodes c.loop-lone.depth c.loop-lone.at c.if-lone.rows c.loop-lone.nodes c.loop-lone.contexts c.loop-lone.depth (handed_of c.second_hand-hand.result) c.operand_number-second.result
over c =
    let tree = tree_at c.args.table.now.cells.now c.args.table.now.count c.loop-lone.at in
    let handed = heeded c.args.order c.args.table.now.cells.now c.args.table.now.count c.loop-lone.lone (handed_of c.loop-lone.hand) c.loop-lone.at in
    let e : (c.if-lone.own ≡ packed_of (own_context handed tree)) × (c.if-lone.rows ≡ row_stored c.loop-lone.at (row_of handed tree) c.loop-lone.rows) =
    elim c.if-lone.branch [
      | then-lone w ↦ rw w.if-lone.true (w.own-is ∙ sym none_packed ∙ ap packed_of (own_lone tree), w.rows-is ∙ w.enter_alone.ensures)
      | else-lone w ↦ rw w.if-lone.false (w.own-is ∙ w.enter-own.ensures.own, w.rows-is ∙ w.enter-own.ensures.rows)
    ] in
    let h = ap handed_of c.second_hand-hand.ensures ∙ handed_back _ ∙ ap (λ (x : FixupContext). hands_second x tree) (ap unpacked_of e.0 ∙ unpacks _) in
    across _ _ _ _ _ _ _ _ _ _ _ c.loop-lone.invariant _ refl _ e.1 _ _ c.operand_number-first.ensures c.operand_number-second.ensures _ c.if-first-ne0.false c.if-second-ne0-2.true h

-- back to the second operand that has waited least: what it is handed counts only where an owner tests it
back : (c : Then-is_other-2) → Turn c.args.order c.args.table.now.cells.now c.args.table.now.count c.args.root c.args.rows.now c.loop-lone.nodes c.loop-lone.depth c.loop-lone.at c.if-lone.rows c.loop-lone.nodes c.loop-lone.contexts (c.loop-lone.depth - 1) (hands_second (unpacked_of (get_or c.loop-lone.contexts (c.loop-lone.depth - 1) 0)) (tree_at c.args.table.now.cells.now c.args.table.now.count (get_or c.loop-lone.nodes (c.loop-lone.depth - 1) 0))) c.operand_number-at.result
back c =
    let tree = tree_at c.args.table.now.cells.now c.args.table.now.count c.loop-lone.at in
    let handed = heeded c.args.order c.args.table.now.cells.now c.args.table.now.count c.loop-lone.lone (handed_of c.loop-lone.hand) c.loop-lone.at in
    let e : (c.if-lone.own ≡ packed_of (own_context handed tree)) × (c.if-lone.rows ≡ row_stored c.loop-lone.at (row_of handed tree) c.loop-lone.rows) =
    elim c.if-lone.branch [
      | then-lone w ↦ rw w.if-lone.true (w.own-is ∙ sym none_packed ∙ ap packed_of (own_lone tree), w.rows-is ∙ w.enter_alone.ensures)
      | else-lone w ↦ rw w.if-lone.false (w.own-is ∙ w.enter-own.ensures.own, w.rows-is ∙ w.enter-own.ensures.rows)
    ] in
    popped _ _ _ _ _ _ _ _ _ _ _ c.loop-lone.invariant _ refl _ e.1 _ _ c.operand_number-first.ensures c.operand_number-second.ensures c.if-first-ne0.false c.if-second-ne0-2.false c.if-depth-eq0.false _ refl _ refl (hands_second (unpacked_of (get_or c.loop-lone.contexts (c.loop-lone.depth - 1) 0)) (tree_at c.args.table.now.cells.now c.args.table.now.count (get_or c.loop-lone.nodes (c.loop-lone.depth - 1) 0))) (refl) _ c.operand_number-at.ensures

-- and where one does
back_handed : (c : After-second_hand-hand-in-loop-lone) → Turn c.args.order c.args.table.now.cells.now c.args.table.now.count c.args.root c.args.rows.now c.loop-lone.nodes c.loop-lone.depth c.loop-lone.at c.if-lone.rows c.loop-lone.nodes c.loop-lone.contexts (c.loop-lone.depth - 1) (handed_of c.second_hand-hand-in-loop-lone.result) c.operand_number-at.result
back_handed c =
    let tree = tree_at c.args.table.now.cells.now c.args.table.now.count c.loop-lone.at in
    let handed = heeded c.args.order c.args.table.now.cells.now c.args.table.now.count c.loop-lone.lone (handed_of c.loop-lone.hand) c.loop-lone.at in
    let e : (c.if-lone.own ≡ packed_of (own_context handed tree)) × (c.if-lone.rows ≡ row_stored c.loop-lone.at (row_of handed tree) c.loop-lone.rows) =
    elim c.if-lone.branch [
      | then-lone w ↦ rw w.if-lone.true (w.own-is ∙ sym none_packed ∙ ap packed_of (own_lone tree), w.rows-is ∙ w.enter_alone.ensures)
      | else-lone w ↦ rw w.if-lone.false (w.own-is ∙ w.enter-own.ensures.own, w.rows-is ∙ w.enter-own.ensures.rows)
    ] in
    popped _ _ _ _ _ _ _ _ _ _ _ c.loop-lone.invariant _ refl _ e.1 _ _ c.operand_number-first.ensures c.operand_number-second.ensures c.if-first-ne0.false c.if-second-ne0-2.false c.if-depth-eq0.false _ refl _ refl (handed_of c.second_hand-hand-in-loop-lone.result) (ap handed_of c.second_hand-hand-in-loop-lone.ensures ∙ handed_back _) _ c.operand_number-at.ensures

pub loop-lone-init : goal.loop-lone-init
unfolding finish
loop-lone-init c =
    record {
      low = omega arith;
      high = omega arith;
      rows_size = refl;
      nodes_size = refl;
      contexts_size = refl;
      shallow = omega arith;
      waits = λ k h. absurd (omega arith);
      rest = refl;
    }

pub loop-lone-smaller-then-is_other : goal.loop-lone-smaller-then-is_other
loop-lone-smaller-then-is_other c = (down_alone c).0

pub loop-lone-preserved-then-is_other : goal.loop-lone-preserved-then-is_other
loop-lone-preserved-then-is_other c = (down_alone c).1

pub loop-lone-smaller-then-first-ne0 : goal.loop-lone-smaller-then-first-ne0
loop-lone-smaller-then-first-ne0 c = (down_handed c).0

pub loop-lone-preserved-then-first-ne0 : goal.loop-lone-preserved-then-first-ne0
loop-lone-preserved-then-first-ne0 c = (down_handed c).1

pub loop-lone-smaller-then-second-ne0-2 : goal.loop-lone-smaller-then-second-ne0-2
loop-lone-smaller-then-second-ne0-2 c = (over c).0

pub loop-lone-preserved-then-second-ne0-2 : goal.loop-lone-preserved-then-second-ne0-2
loop-lone-preserved-then-second-ne0-2 c = (over c).1

pub returns : goal.returns
returns c =
    let tree = tree_at c.args.table.now.cells.now c.args.table.now.count c.loop-lone.at in
    let handed = heeded c.args.order c.args.table.now.cells.now c.args.table.now.count c.loop-lone.lone (handed_of c.loop-lone.hand) c.loop-lone.at in
    let e : (c.if-lone.own ≡ packed_of (own_context handed tree)) × (c.if-lone.rows ≡ row_stored c.loop-lone.at (row_of handed tree) c.loop-lone.rows) =
    elim c.if-lone.branch [
      | then-lone w ↦ rw w.if-lone.true (w.own-is ∙ sym none_packed ∙ ap packed_of (own_lone tree), w.rows-is ∙ w.enter_alone.ensures)
      | else-lone w ↦ rw w.if-lone.false (w.own-is ∙ w.enter-own.ensures.own, w.rows-is ∙ w.enter-own.ensures.rows)
    ] in
    finished _ _ _ _ _ _ _ _ _ _ _ c.loop-lone.invariant _ refl _ e.1 _ _ c.operand_number-first.ensures c.operand_number-second.ensures c.if-first-ne0.false c.if-second-ne0-2.false c.if-depth-eq0.true

pub loop-lone-smaller-then-is_other-2 : goal.loop-lone-smaller-then-is_other-2
loop-lone-smaller-then-is_other-2 c = (back c).0

pub loop-lone-preserved-then-is_other-2 : goal.loop-lone-preserved-then-is_other-2
loop-lone-preserved-then-is_other-2 c =
    let o : is_expression (tree_at c.args.table.now.cells.now c.args.table.now.count c.operand_number-at.result) ≡ false = not-true _ (sym c.is_other-in-loop-lone.ensures ∙ c.if-is_other-2.true) in
    unheard _ _ _ _ _ _ _ _ _ _ _ o (back c).1

pub loop-lone-smaller : goal.loop-lone-smaller
loop-lone-smaller c = (back_handed c).0

pub loop-lone-preserved : goal.loop-lone-preserved
loop-lone-preserved c = (back_handed c).1
