-- scan_right at a node of a table, by what its operand answers. Assumes nothing.
use mathlib.Core.Path.{◌≡◌, refl, sym, ap, ◌∙◌}
use mathlib.Core.Bool.{true, false}
use mathlib.Core.List.{List}
use Prim.Native.Nat.{ℕ, ◌≤◌, ◌<◌}
use native.Mathlib.Omega.{arith}
use native.Mathlib.Decide.{dec_le}
use Rattle.laws.specs.Choice.{pick}
use Rattle.laws.proofs.Choice.{pick_true, pick_false}
use Rattle.std.specs.Prelude.{Option, None, Some}
use Rattle.tree.specs.Table.{first_column, second_column}
use Rattle.tree.specs.Trees.{Tree, none, operand_at, tree_at, levels}
use Rattle.tree.specs.Operands.{presence}
use Rattle.tree.specs.Walks.{is_there, at_root}
use Rattle.tree.proofs.Unfold.{tree_zero, tree_past, unfolds}
use Rattle.tree.proofs.Walks.{present_above, absent_zero}
use Rattle.precedence.specs.declared.Precedence.{Precedence}
use Rattle.fixup.specs.declared.context.FixupContext.{FixupContext}
use Rattle.fixup.specs.Fixup.{parenthesize}
use Rattle.fixup_scan.specs.declared.Scan.{Scan}
use Rattle.fixup_scan.specs.declared.Scan.TheVariants.{Consume}
use Rattle.fixup_scan.specs.declared.arm.Arm.{Arm}
use Rattle.fixup_scan.specs.declared.arm.Arm.TheVariants.{Assign, Binary, Prefix, Range, Break, Return, Closure, Let, Group, Closed}
use Rattle.fixup_scan.specs.declared.visit.Visit.{Visit}
use Rattle.fixup_scan.specs.Scans.{consumes, consume_by, scan_right, rightmost_precedence}
use Rattle.fixup_scan.specs.Arms.{arm_of, operand_by, leaf_scan, early, visit_by, leave_by, settle_by, finish, scan_by, operand_number}
use Rattle.fixup_scan.specs.Linear.{asks_again, right_given, onwards}
use Rattle.fixup_scan.proofs.Spine.{scan_along}
use Rattle.fixup_scan.proofs.Again.{first_serves}
use Rattle.fixup_scan.proofs.Levels.{fewer_levels}

module _ (cells : List ℕ) (count : ℕ) where
  -- an arm's operand is its number's tree
  operand_tree : (arm : Arm) (i : ℕ) → operand_by arm none (tree_at cells count (operand_at cells count i first_column)) (tree_at cells count (operand_at cells count i second_column)) ≡ tree_at cells count (operand_number arm cells count i)
  operand_tree Assign i = refl
  operand_tree (Binary q) i = refl
  operand_tree Prefix i = refl
  operand_tree Range i = refl
  operand_tree (Break lost) i = refl
  operand_tree Return i = refl
  operand_tree Closure i = sym (tree_zero cells count)
  operand_tree Let i = refl
  operand_tree Group i = refl
  operand_tree Closed i = sym (tree_zero cells count)

  abbrev OnwardsAt : ℕ → Type 0
  OnwardsAt i = onwards (tree_at cells count i) ≡ tree_at cells count (operand_number (arm_of (tree_at cells count i)) cells count i)

  onwards_nowhere : (i : ℕ) → tree_at cells count i ≡ none → OnwardsAt i
  unfolding onwards arm_of at_root
  onwards_nowhere i e = rw e (operand_tree Closed i)

  onwards_inside : (i : ℕ) → 1 ≤ i → i ≤ count → OnwardsAt i
  unfolding onwards
  onwards_inside i h k = rw (unfolds cells count i h k) (operand_tree (arm_of _) i)

  -- the next node of the right spine
  pub onwards_at : (i : ℕ) → OnwardsAt i
  onwards_at i = low (dec_le 1 i) (dec_le i count)
    where
      low : Dec (1 ≤ i) → Dec (i ≤ count) → OnwardsAt i
      low (yes h) (yes k) = onwards_inside i h k
      low (yes h) (no k) = onwards_nowhere i (tree_past cells count i (omega arith))
      low (no h) d = onwards_nowhere i (let z : i ≡ 0 = omega arith in rw z (tree_zero cells count))

  -- an operand that is present is a node after its owner
  pub operand_above : (arm : Arm) (i n : ℕ) → presence (operand_number arm cells count i) ≡ Some n → (operand_number arm cells count i ≡ n) × (i < n) × (n ≤ count)
  unfolding presence
  operand_above Assign i n e = present_above count i _ n e
  operand_above (Binary q) i n e = present_above count i _ n e
  operand_above Prefix i n e = present_above count i _ n e
  operand_above Range i n e = present_above count i _ n e
  operand_above (Break lost) i n e = present_above count i _ n e
  operand_above Return i n e = present_above count i _ n e
  operand_above Closure i n e = absurd (let z : ◌≡◌ {A = ℕ} 0 1 = cc in omega arith)
  operand_above Let i n e = present_above count i _ n e
  operand_above Group i n e = present_above count i _ n e
  operand_above Closed i n e = absurd (let z : ◌≡◌ {A = ℕ} 0 1 = cc in omega arith)

  -- the operand that a node's arm goes on with has fewer levels than the node
  pub operand_below : (i : ℕ) (arm : Arm) → arm ≡ arm_of (tree_at cells count i) → (n : ℕ) → presence (operand_number arm cells count i) ≡ Some n → levels (tree_at cells count n) < levels (tree_at cells count i)
  operand_below i arm is n present =
      let s = operand_above arm i n present in
      let e : onwards (tree_at cells count i) ≡ tree_at cells count n = onwards_at i ∙ rw (← is, s.0) in
      let t : is_there (onwards (tree_at cells count i)) ≡ true = rw (e, unfolds cells count n (omega arith) s.2) in
      rw (← e) (fewer_levels (tree_at cells count i) t)

  module _ (i : ℕ) (x : FixupContext) (p : Precedence) (f b : ℕ) where
    abbrev here : Tree
    here = tree_at cells count i

    abbrev next : Precedence
    next = x.next_operator

    abbrev goes_on : Arm → Scan
    goes_on arm = scan_by arm (tree_at cells count (operand_number arm cells count i)) (scan_right (tree_at cells count (operand_number arm cells count i))) x p f b

    node_scans : scan_right here x p f b ≡ pick (parenthesize x here) (consume_by p next) (goes_on (arm_of here))
    node_scans = scan_along here x p f b ∙ rw (onwards_at i)

    pub scan_grouped : parenthesize x here ≡ true → scan_right here x p f b ≡ consume_by p next
    scan_grouped g = node_scans ∙ pick_true _ _ g

    module _ (bare : parenthesize x here ≡ false) (arm : Arm) (is : arm ≡ arm_of here) where
      bare_scans : scan_right here x p f b ≡ goes_on arm
      bare_scans = node_scans ∙ pick_false _ _ bare ∙ rw is

      pub scan_leaf : presence (operand_number arm cells count i) ≡ None → scan_right here x p f b ≡ leaf_scan arm x.next_operator_can_begin_expr p next
      unfolding scan_by pick
      scan_leaf e = bare_scans ∙ rw (absent_zero _ e, tree_zero cells count)

      module _ (n : ℕ) (present : presence (operand_number arm cells count i) ≡ Some n) where
        abbrev v : Visit
        v = visit_by arm x p f b

        present_scans : scan_right here x p f b
            ≡ pick (early arm next (consumes p next) f b) Consume
            (finish
            (leave_by arm p next (scan_right (tree_at cells count n) v.context v.precedence v.fail_offset v.bailout_offset))
            (settle_by arm p next (rightmost_precedence (tree_at cells count n) v.context)))
        unfolding scan_by rightmost_precedence
        present_scans =
            let s = operand_above arm i n present in
            bare_scans ∙ rw s.0 (pick_false _ _ (rw (unfolds cells count n (omega arith) s.2)))

        pub scan_early : early arm next (consumes p next) f b ≡ true → scan_right here x p f b ≡ Consume
        scan_early e = present_scans ∙ pick_true _ _ e

        pub scan_leaves : early arm next (consumes p next) f b ≡ false → (a : Scan) → Some a ≡ leave_by arm p next (scan_right (tree_at cells count n) v.context v.precedence v.fail_offset v.bailout_offset) → scan_right here x p f b ≡ a
        scan_leaves late a e = present_scans ∙ pick_false _ _ late ∙ rw (← e)

        module _ (late : early arm next (consumes p next) f b ≡ false) (w : Visit) (visits : w ≡ v) (s : Scan) (scans : s ≡ scan_right (tree_at cells count n) w.context w.precedence w.fail_offset w.bailout_offset) (l : Option Scan) (leaves : l ≡ leave_by arm p next s) where
          left_by : scan_right here x p f b ≡ finish l (settle_by arm p next (rightmost_precedence (tree_at cells count n) w.context))
          left_by = present_scans ∙ pick_false _ _ late ∙ rw (← visits, ← scans, ← leaves)

          pub scan_settles : l ≡ None → (r : Precedence) → r ≡ rightmost_precedence (tree_at cells count n) w.context → scan_right here x p f b ≡ settle_by arm p next r
          scan_settles e r q = left_by ∙ rw (e, ← q)

          -- the answer that the operand gave serves where it is not scanned again
          pub scan_serves : l ≡ None → asks_again arm next ≡ false → (r : Precedence) → r ≡ right_given (tree_at cells count n) s w.context → scan_right here x p f b ≡ settle_by arm p next r
          scan_serves e k r q =
              let serves = rw (← visits, ← scans) at (first_serves (tree_at cells count n) x p f b arm) in
              left_by ∙ rw e (ap (settle_by arm p next) (sym (serves (sym leaves ∙ e) k) ∙ sym q))
