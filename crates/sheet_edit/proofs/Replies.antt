-- The first refusal of an edit, and what follows where there is none. Assumes nothing.
use Rattle.std.specs.Prelude.{Option, Some, unwrap_or}
use mathlib.Core.Path.{◌≡◌, refl, sym, ap, ◌∙◌}
use mathlib.Core.Bool.{Bool, true, false, not, ◌&&◌}
use mathlib.Core.List.{List, [], ◌∷◌, append-nil}
use Prim.Native.Nat.{ℕ, ◌+◌, ◌*◌, ◌-◌, ◌≤◌, ◌<◌}
use native.Mathlib.Omega.{arith}
use lib.Dec.{ltb}
use lib.ListN.{length, take}
use lib.Seq.{take_at}
use borrow.Author.Tests.{eq-eqb, ne_eqb, lt-ltb, le-ltb, ltb-false}
use Rattle.laws.specs.Each.{some}
use Rattle.laws.specs.Lists.{over}
use Rattle.laws.proofs.Choice.{pick_true, pick_false, or_false, or_here, or_next}
use Rattle.std.proofs.Common.{Ok, Err}
use Rattle.tree.specs.declared.refusal.Refusal.{Refusal}
use Rattle.tree.specs.Replies.{replied}
use Rattle.tree.specs.Sizes.{node_cells, row_cells, most_nodes, most_levels}
use Rattle.tree.specs.Forms.{an_expression, class_of}
use Rattle.tree.specs.Operands.{form_in}
use Rattle.tree.specs.Trees.{Tree, tree_at, levels}
use Rattle.tree_rules.specs.Refusals.{refusal, refusal10, refusal11, plain_block, refuse, first_of, refusal_then, Accepted}
use Rattle.tree_rules.proofs.Accepted.{count_bounds}
use Rattle.tree_rules.proofs.First.{stop, skip, no_more, passed, table_refused, table_passed, none_applied}
use Rattle.tree_numbering.specs.Numbered.{size, numbered}
use Rattle.tree_numbering.proofs.Sizes.{size_accepted}
use Rattle.tree_numbering.proofs.Holds.{length_numbered, over_numbered}
use Rattle.expr.specs.declared.order.CalleeOrder.{CalleeOrder}
use Rattle.row_walk.specs.Walk.{walked_after}
use Rattle.row_walk.proofs.Replies.{walked, replied_err, refused_as}
use Rattle.sheet_edit.specs.Edits.{refusal17, refusal18, edit_refusal12, Edit, result, edit_refusal, edit_reply, result_table, result_rows}
use Rattle.sheet_edit.specs.Steps.{owns_output, Numbers}
use Rattle.tree_sound.proofs.Tables.{plain_block_lem}
use Rattle.tree_sound.proofs.Accepts.{numbered_10, numbered_11, accepted_ordered, accepted_outputs}
use Rattle.sheet_edit.proofs.Replaced.{named_here, over_accepted}
use Rattle.sheet_edit.proofs.Outputs.{edited_output}
use Rattle.sheet_edit.proofs.Sizes.{part_size, edited_size}

-- a refusal's number and what it says
pub says : {n m : ℕ} → n ≡ m → replied n (tt {0}) ≡ replied m (tt {0})
says e = ap (λ (k : ℕ). replied k (tt {0})) e

module _ (e : Edit) (table rows : ℕ) where
  -- what the code finds out of 10
  abbrev pub breaks_output : Bool
  breaks_output = some (owns_output e.cells e.place) e.count && not (plain_block e.second 1)

  abbrev pub later_refusal : ℕ
  later_refusal = first_of (refuse 17 (refusal17 e.cells e.count e.place) ∷ refuse 18 (refusal18 (result e)) ∷ refuse 12 (edit_refusal12 (result e) table rows) ∷ [])

  pub sheet_refused : {A B : Type 0} (u : A) (a : B) (r : Refusal) → Err r ≡ replied (refusal e.context e.count e.cells) u → Err r ≡ replied (edit_refusal e table rows) a
  unfolding edit_refusal
  sheet_refused u a r q =
      let d : refusal e.context e.count e.cells ≡ edit_refusal e table rows = table_refused e.context e.count e.cells (refusal_then e.second_context e.second_count e.second later_refusal) _ refl (replied_err _ u r q) in
      rw (← d) (refused_as _ u a r q)

  module _ (sheet : Accepted e.context e.count e.cells) where
    pub other_refused : {A B : Type 0} (u : A) (a : B) (r : Refusal) → Err r ≡ replied (refusal e.second_context e.second_count e.second) u → Err r ≡ replied (edit_refusal e table rows) a
    unfolding edit_refusal
    other_refused u a r q =
        let d : refusal e.second_context e.second_count e.second ≡ edit_refusal e table rows =
        table_refused e.second_context e.second_count e.second later_refusal _ refl (replied_err _ u r q)
        ∙ sym (table_passed e.context e.count e.cells (refusal_then e.second_context e.second_count e.second later_refusal) sheet) in
        rw (← d) (refused_as _ u a r q)

    module _ (other : Accepted e.second_context e.second_count e.second) where
      pub both_accepted : edit_refusal e table rows ≡ later_refusal
      unfolding edit_refusal
      both_accepted =
          table_passed e.context e.count e.cells (refusal_then e.second_context e.second_count e.second later_refusal) sheet
          ∙ table_passed e.second_context e.second_count e.second later_refusal other

      second_size : size (tree_at e.second e.second_count 1) ≡ e.second_count
      second_size = size_accepted e.second_context e.second_count e.second other

      pub not_named : (class_of (form_in e.cells e.count e.place) ≡ 1 → ⊥) → 17 ≡ edit_refusal e table rows
      unfolding refusal17
      not_named n = sym (both_accepted ∙ stop 17 _ (rw (ne_eqb _ an_expression n)))

      module _ (is : class_of (form_in e.cells e.count e.place) ≡ 1) where
        named : refusal17 e.cells e.count e.place ≡ false
        unfolding refusal17
        named = rw (eq-eqb _ an_expression is)

        broken18 : refusal18 (result e) ≡ true → 18 ≡ edit_refusal e table rows
        broken18 b = sym (both_accepted ∙ skip 17 _ named ∙ stop 18 _ b)

        pub too_many : most_nodes < size (result e) → 18 ≡ edit_refusal e table rows
        unfolding refusal18
        too_many h = broken18 (or_here _ (lt-ltb _ _ h))

        -- the result's size, by the two counts and the nodes of what is replaced
        pub sizes : (kept : ℕ) → kept ≡ e.count - size (tree_at e.cells e.count e.place) → (kept ≤ most_nodes) × (kept + e.second_count ≡ size (result e))
        sizes kept q =
            let n = named_here e.cells e.count e.place named in
            let k = count_bounds e.context e.count e.cells sheet in
            let p = part_size e.context e.count e.cells sheet e.place (tree_at e.second e.second_count 1) n.0 n.1 in
            let r = edited_size e.context e.count e.cells sheet e.place (tree_at e.second e.second_count 1) n.0 n.1 in
            let t = second_size in
            let c = k.1 in
            (omega arith, omega arith)

        -- 10, by the owner of the named node
        result_10 : refusal10 (numbered (result e)) (size (result e)) ≡ breaks_output
        result_10 =
            let n = named_here e.cells e.count e.place named in
            let o = accepted_ordered e.second_context e.second_count e.second other in
            let k = count_bounds e.second_context e.second_count e.second other in
            rw (append-nil (numbered (result e))) at (numbered_10 (result e) [])
            ∙ edited_output e.context e.count e.cells sheet e.place (tree_at e.second e.second_count 1) n.0 (accepted_outputs e.second_context e.second_count e.second other 1)
            ∙ rw (plain_block_lem e.second e.second_count o 1 (omega arith) k.0 1 k.0)

        module _ (few : size (result e) ≤ most_nodes) where
          result_11 : refusal11 (numbered (result e)) (size (result e)) ≡ ltb most_levels (levels (result e))
          result_11 = rw (append-nil (numbered (result e))) at (numbered_11 (result e) [] few)

          pub bad_output : (b : Bool) → b ≡ breaks_output → b ≡ true → 18 ≡ edit_refusal e table rows
          unfolding refusal18
          bad_output b q h = broken18 (or_next _ (le-ltb _ _ few) ∙ or_here _ (result_10 ∙ sym q ∙ h))

          module _ (b : Bool) (q : b ≡ breaks_output) (fine : b ≡ false) where
            none10 : refusal10 (numbered (result e)) (size (result e)) ≡ false
            none10 = result_10 ∙ sym q ∙ fine

            pub too_deep : most_levels < levels (result e) → 18 ≡ edit_refusal e table rows
            unfolding refusal18
            too_deep h = broken18 (or_next _ (le-ltb _ _ few) ∙ or_next _ none10 ∙ result_11 ∙ lt-ltb _ _ h)

            module _ (flat : levels (result e) ≤ most_levels) where
              fits : refusal18 (result e) ≡ false
              unfolding refusal18
              fits = or_next _ (le-ltb _ _ few) ∙ or_next _ none10 ∙ result_11 ∙ le-ltb _ _ flat

              pub short_table : table < node_cells * size (result e) → 12 ≡ edit_refusal e table rows
              unfolding edit_refusal12
              short_table h = sym (both_accepted ∙ skip 17 _ named ∙ skip 18 _ fits ∙ stop 12 _ (or_here _ (lt-ltb _ _ h)))

              module _ (room : node_cells * size (result e) ≤ table) where
                pub short_rows : rows < row_cells * size (result e) → 12 ≡ edit_refusal e table rows
                unfolding edit_refusal12
                short_rows h = sym (both_accepted ∙ skip 17 _ named ∙ skip 18 _ fits ∙ stop 12 _ (or_next _ (le-ltb _ _ room) ∙ lt-ltb _ _ h))

                pub none_applies : row_cells * size (result e) ≤ rows → 0 ≡ edit_refusal e table rows
                unfolding edit_refusal12
                none_applies h = sym (both_accepted ∙ skip 17 _ named ∙ skip 18 _ fits ∙ skip 12 _ (or_next _ (le-ltb _ _ room) ∙ le-ltb _ _ h) ∙ no_more)

-- ---- the result over the table, and its rows

-- a table that holds a tree's cells starts with them
pub start : (t : Tree) (cells : List ℕ) → take (node_cells * size t) (over (numbered t) cells) ≡ numbered t
unfolding over
start t cells = take_at (numbered t) _ (node_cells * size t) (length_numbered t)

-- how many nodes the result has, where it is numbered
pub counted_nodes : (t : Tree) (base after : List ℕ) (o : Option ℕ) (n : ℕ) → (o ≡ Some (size t)) × (after ≡ over (numbered t) base) → n ≡ unwrap_or o 0 → Numbers t base n after
counted_nodes t base after o n w e = (e ∙ ap (λ p. unwrap_or p 0) w.0, w.1)

-- an array that holds the result, copied over the table
pub copied : (t : Tree) (base cells : List ℕ) (n : ℕ) (own : List ℕ) → Numbers t base n own → (table : List ℕ) → table ≡ over (take (node_cells * n) own) cells → Numbers t cells n table
copied t base cells n own w table e = (w.0, e ∙ rw (w.0, w.1, start t base))

-- ---- a refused edit, and an edit that is done

module _ (e : Edit) (long wide : ℕ) where
  -- a refused edit changes nothing
  pub refused : (order : CalleeOrder) (cells rows : List ℕ) {A B : Type 0} (u : A) (a : B) (r : Refusal) → Err r ≡ replied (edit_refusal e long wide) u
      → (Err r ≡ replied (edit_refusal e long wide) a) × (cells ≡ result_table e long wide cells) × (rows ≡ result_rows order e long wide cells rows)
  unfolding result_table result_rows
  refused order cells rows u a r q =
      let f = ne_eqb (edit_refusal e long wide) 0 (replied_err _ u r q) in
      (refused_as _ u a r q, sym (pick_false _ _ f), sym (pick_false _ _ f))

  pub record Allowed : Type 0 where
    pub sheet : Accepted e.context e.count e.cells
    pub other : Accepted e.second_context e.second_count e.second
    pub named : refusal17 e.cells e.count e.place ≡ false
    pub fits : refusal18 (result e) ≡ false
    pub accepted : (cells : List ℕ) → Accepted e.context (size (result e)) (over (numbered (result e)) cells)
    pub few : size (result e) ≤ most_nodes
    pub most : size (result e) ≤ e.count + e.second_count
    pub table_room : node_cells * size (result e) ≤ long
    pub rows_room : row_cells * size (result e) ≤ wide

  pub allowed : edit_refusal e long wide ≡ 0 → Allowed
  unfolding edit_refusal refusal18 edit_refusal12
  allowed z =
      let p = none_applied e.context e.count e.cells _ z in
      let q = none_applied e.second_context e.second_count e.second _ p.1 in
      let r17 = passed 17 _ _ (omega arith) q.1 in
      let r18 = passed 18 _ _ (omega arith) r17.1 in
      let r12 = passed 12 _ _ (omega arith) r18.1 in
      let d = or_false _ _ r12.0 in
      record {
        sheet = p.0;
        other = q.0;
        named = r17.0;
        fits = r18.0;
        accepted = over_accepted e p.0 q.0 r17.0 r18.0;
        few = ltb-false _ _ (or_false _ _ r18.0).0;
        most = most p.0 q.0 r17.0;
        table_room = ltb-false _ _ d.0;
        rows_room = ltb-false _ _ d.1;
      }
    where
      most : Accepted e.context e.count e.cells → Accepted e.second_context e.second_count e.second → refusal17 e.cells e.count e.place ≡ false → size (result e) ≤ e.count + e.second_count
      most sheet other named =
          let n = named_here e.cells e.count e.place named in
          let r = edited_size e.context e.count e.cells sheet e.place (tree_at e.second e.second_count 1) n.0 n.1 in
          let t = size_accepted e.second_context e.second_count e.second other in
          omega arith

  -- where nothing is refused: the result numbered over the table, and the rows that the walk writes from it
  pub done : (order : CalleeOrder) (cells rows : List ℕ) → edit_refusal e long wide ≡ 0 → wide ≤ length rows → (n : ℕ) (table after : List ℕ) → Numbers (result e) cells n table → after ≡ walked_after order e.context n table rows
      → (Ok n ≡ edit_reply e long wide) × (table ≡ result_table e long wide cells) × (after ≡ result_rows order e long wide cells rows)
  unfolding replied result_table result_rows
  done order cells rows z lent n table after w q =
      let f = eq-eqb (edit_refusal e long wide) 0 z in
      let a = allowed z in
      let few = a.few in
      let r = a.rows_room in (
        rw w.0 (sym (pick_true _ _ f)),
        w.1 ∙ sym (pick_true _ _ f),
        q ∙ rw (w.0, w.1) (walked order e.context (size (result e)) (over (numbered (result e)) cells) rows (a.accepted cells) (omega arith) ∙ rw (over_numbered (result e) cells (omega arith))) ∙ sym (pick_true _ _ f),
      )
