-- After any run of edits an open sheet is accepted, and its rows are those worked out afresh; rows that an edit elsewhere leaves as they are. Assumes nothing.
use mathlib.Core.Path.{◌≡◌, refl, sym, ap, ◌∙◌}
use mathlib.Core.Bool.{Bool, true, false}
use mathlib.Core.List.{List, [], ◌∷◌}
use Prim.Native.Nat.{ℕ, ◌≤◌}
use native.Mathlib.Omega.{arith}
use lib.Dec.{eqb}
use lib.ListN.{length}
use borrow.Author.Tests.{eq-eqb, eqb-true, ltb-false}
use Rattle.laws.specs.Choice.{pick}
use Rattle.laws.specs.Lists.{over}
use Rattle.laws.proofs.Choice.{pick_true, pick_zero}
use Rattle.tree.specs.Trees.{Tree, tree_at}
use Rattle.tree_rules.specs.Refusals.{refusal_then, Accepted}
use Rattle.tree_rules.proofs.First.{none_applied}
use Rattle.tree_rules.proofs.Accepted.{count_bounds}
use Rattle.tree_numbering.specs.Numbered.{size, numbered}
use Rattle.tree_numbering.proofs.Holds.{over_numbered}
use Rattle.expr.specs.declared.order.CalleeOrder.{CalleeOrder}
use Rattle.row.specs.Rows.{rows_of}
use Rattle.row_walk.specs.Walk.{root_handed, placed, decide_refusal12, decided, rows_after}
use Rattle.row_walk.specs.Paths.{Branch, number_at, row_in}
use Rattle.row_walk.proofs.Placed.{length_placed}
use Rattle.row_walk.proofs.Paths.{there_at, row_on_path}
use Rattle.sheet_edit.specs.Edits.{result, edit_refusal, fresh_rows, result_table, result_rows}
use Rattle.sheet_edit.specs.Shelters.{sheltered}
use Rattle.sheet_edit.specs.Runs.{Sheet, opened, Change, edit_on, changed, ran, Right}
use Rattle.sheet_edit.specs.Statement.{Stays, EditLocal, AnyEdits}
use Rattle.sheet_edit.proofs.Shelters.{Same, stays, stands}
use Rattle.sheet_edit.proofs.Replies.{Allowed, allowed}

module _ (s : Sheet) (c : Change) where
  -- the sheet after an edit that is not refused: whatever rows were handed in
  abbrev sheet_after : Sheet
  sheet_after =
      record {
        context = s.context;
        count = size (result (edit_on s c));
        order = s.order;
        table = over (numbered (result (edit_on s c))) s.table;
        rows = fresh_rows s.order s.context (result (edit_on s c)) (over (numbered (result (edit_on s c))) s.table) s.rows;
      }

  done_right : edit_refusal (edit_on s c) (length s.table) (length s.rows) ≡ 0 → Right sheet_after
  done_right z =
      let w = allowed (edit_on s c) (length s.table) (length s.rows) z in
      let a : Accepted s.context (size (result (edit_on s c))) (over (numbered (result (edit_on s c))) s.table) = w.accepted s.table in
      let k = count_bounds s.context (size (result (edit_on s c))) (over (numbered (result (edit_on s c))) s.table) a in
      let m = k.1 in
      let t = over_numbered (result (edit_on s c)) s.table (omega arith) in
      let r = w.rows_room in
      record {
        accepted = a;
        room = rw (length_placed (over (numbered (result (edit_on s c))) s.table) (size (result (edit_on s c))) 1 (rows_of s.order (root_handed s.context (result (edit_on s c))) (result (edit_on s c))) s.rows) r;
        rows_right = λ q there.
            ap (λ (u : Tree). row_in (placed (over (numbered (result (edit_on s c))) s.table) (size (result (edit_on s c))) 1 (rows_of s.order (root_handed s.context u) u) s.rows) (number_at (over (numbered (result (edit_on s c))) s.table) (size (result (edit_on s c))) 1 q)) (sym t)
            ∙ row_on_path (over (numbered (result (edit_on s c))) s.table) (size (result (edit_on s c))) s.context a s.order 1 q (root_handed s.context (tree_at (over (numbered (result (edit_on s c))) s.table) (size (result (edit_on s c))) 1)) s.rows (omega arith) k.0 r there;
      }

  pub changed_right : Right s → Right (changed s c)
  unfolding changed result_table result_rows pick
  changed_right right = go (eqb (edit_refusal (edit_on s c) (length s.table) (length s.rows)) 0) refl
    where
      go : (b : Bool) → eqb (edit_refusal (edit_on s c) (length s.table) (length s.rows)) 0 ≡ b → Right (changed s c)
      go true e = rw e (done_right (eqb-true _ _ e))
      go false e = rw e right

  -- what an edit elsewhere leaves as it is, at a path that parts from the edited place's
  module _ (right : Right s) (p q : List Branch) (at : number_at s.table s.count 1 p ≡ c.place) (there : 1 ≤ number_at s.table s.count 1 q)
      (o : sheltered (tree_at s.table s.count 1) p q ≡ true) where
    done_stays : edit_refusal (edit_on s c) (length s.table) (length s.rows) ≡ 0 → Stays s sheet_after q
    done_stays z =
        record {
          there = reaches;
          tree = same.tree ∙ rw whole;
          row = right.rows_right q there ∙ rw (same.tree, same.handed) (sym (rw whole at ((done_right z).rows_right q reaches)));
        }
      where
        w : Allowed (edit_on s c) (length s.table) (length s.rows)
        w = allowed (edit_on s c) (length s.table) (length s.rows) z

        same : Same s.order (root_handed s.context (tree_at s.table s.count 1)) (root_handed s.context (result (edit_on s c))) (tree_at s.table s.count 1) (result (edit_on s c)) q
        same = stays (edit_on s c) w.sheet w.named s.order p q at o

        whole : tree_at (over (numbered (result (edit_on s c))) s.table) (size (result (edit_on s c))) 1 ≡ result (edit_on s c)
        whole = over_numbered (result (edit_on s c)) s.table (let f = w.few in omega arith)

        reaches : 1 ≤ number_at (over (numbered (result (edit_on s c))) s.table) (size (result (edit_on s c))) 1 q
        reaches = there_at (over (numbered (result (edit_on s c))) s.table) (size (result (edit_on s c))) 1 q (rw (whole, ← same.tree) (stands (edit_on s c) w.sheet w.named q there))

    pub changed_stays : Stays s (changed s c) q
    unfolding changed result_table result_rows pick
    changed_stays = go (eqb (edit_refusal (edit_on s c) (length s.table) (length s.rows)) 0) refl
      where
        go : (b : Bool) → eqb (edit_refusal (edit_on s c) (length s.table) (length s.rows)) 0 ≡ b → Stays s (changed s c) q
        go true e = rw e (done_stays (eqb-true _ _ e))
        go false e = rw e (record { there = there; tree = refl; row = refl })

-- rows that an edit elsewhere leaves as they are
pub edit_local : EditLocal
edit_local s c right p q at there o = changed_stays s c right p q at there o

pub ran_right : (s : Sheet) (cs : List Change) → Right s → Right (ran s cs)
unfolding ran
ran_right s [] right = right
ran_right s (c ∷ cs) right = ran_right (changed s c) cs (changed_right s c right)

-- a sheet that is not refused is right once it is opened, in the order in which it is
pub opened_right : (order : CalleeOrder) (context count : ℕ) (cells rows : List ℕ) → decided context count cells (length rows) ≡ 0
    → Right (opened order context count cells rows)
unfolding decided decide_refusal12 refusal_then rows_after
opened_right order context count cells rows taken =
    let p = none_applied context count cells (pick (decide_refusal12 count (length rows)) 12 0) taken in
    let room = ltb-false _ _ (pick_zero _ 12 0 (omega arith) p.1).0 in
    rw (pick_true (placed cells count 1 (rows_of order (root_handed context (tree_at cells count 1)) (tree_at cells count 1)) rows) rows (eq-eqb _ 0 taken))
    (record {
      accepted = p.0;
      room = rw (length_placed cells count 1 (rows_of order (root_handed context (tree_at cells count 1)) (tree_at cells count 1)) rows) room;
      rows_right = λ q there. row_on_path cells count context p.0 order 1 q (root_handed context (tree_at cells count 1)) rows (omega arith) (count_bounds context count cells p.0).0 room there;
    })

-- an opened sheet after any list of edits, refused ones among them
pub edits : AnyEdits
edits order context count cells rows taken cs = ran_right (opened order context count cells rows) cs (opened_right order context count cells rows taken)
