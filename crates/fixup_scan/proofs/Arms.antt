-- The arms that the code runs are those of scan_right. Assumes nothing.
use mathlib.Core.Path.{◌≡◌, refl, sym, ap, ◌∙◌}
use mathlib.Core.Bool.{Bool, true, false, not, ◌&&◌, ◌||◌}
use Prim.Native.Nat.{ℕ}
use lib.Dec.{eqb, leb}
use Rattle.bools.specs.Bits.{bit_of}
use Rattle.laws.specs.Choice.{pick, lookup}
use Rattle.tree.specs.Forms.{expr_raw_addr, expr_reference, expr_unary}
use Rattle.tree.specs.Trees.{Label, Tree, none, node}
use Rattle.tree.specs.Walks.{is_there, at_root}
use Rattle.precedence.specs.declared.Precedence.{Precedence}
use Rattle.precedence.specs.declared.Precedence.TheVariants as level
use Rattle.precedence.specs.Precedences.{below, at_most, same, of_binop}
use Rattle.classify.specs.Classify.{leading_label}
use Rattle.fixup.specs.declared.context.FixupContext.{FixupContext}
use Rattle.fixup_scan.specs.declared.Scan.{Scan}
use Rattle.fixup_scan.specs.declared.Scan.TheVariants.{Fail, Bailout, Consume}
use Rattle.std.specs.Prelude.{None, Some}
use Rattle.fixup_scan.specs.declared.arm.Arm.{Arm}
use Rattle.fixup_scan.specs.declared.arm.Arm.TheVariants.{Assign, Binary, Prefix, Range, Break, Return, Closure, Let, Group, Closed}
use Rattle.fixup_scan.specs.Scans.{by, Scans, right_by, consumes, consume_by, assign, binary, prefix, range, jump, bare_jump, lets, closed, scan_lines, scan_right}
use Rattle.fixup_scan.specs.Arms.{arm_lines, arm_of, operand_by, closed_scan, bare_scan, enough, early, fail_handed, visit_by, fail_or, leave_by, settle_by, finish, scan_by}

-- ---- choices

pub answer_of : (t : Bool) (s settled : Scan) → finish (pick t (Some s) None) settled ≡ pick t s settled
unfolding pick
answer_of true s settled = refl
answer_of false s settled = refl

ask_of : (t : Bool) (s settled : Scan) → finish (pick t None (Some s)) settled ≡ pick t settled s
unfolding pick
ask_of true s settled = refl
ask_of false s settled = refl

unless : (t u : Bool) (r s : Scan) → pick (not t && u) r s ≡ pick t s (pick u r s)
unfolding pick
unless true u r s = refl
unless false u r s = refl

zero_or_one : (t : Bool) → pick t 0 1 ≡ bit_of (not t)
unfolding pick
zero_or_one true = refl
zero_or_one false = refl

-- ---- what follows from the operand's scan

-- the answer of an arm whose operand answers s, with right precedence r
abbrev pub back : Arm → Precedence → Precedence → Scan → Precedence → Scan
back arm p next s r = finish (leave_by arm p next s) (settle_by arm p next r)

module _ (p next : Precedence) where
  assign_back : (s : Scan) (r : Precedence) → by s (fail_or next) Consume Consume ≡ back Assign p next s r
  assign_back Fail r = refl
  assign_back Bailout r = refl
  assign_back Consume r = refl

  binary_back : (q : Precedence) (s : Scan) (r : Precedence) → by s (pick (not (same q level.Assign) && at_most r q) (consume_by p next) (fail_or next)) (consume_by p next) Consume ≡ back (Binary q) p next s r
  binary_back q Fail r = unless (same q level.Assign) (at_most r q) _ _ ∙ sym (answer_of (same q level.Assign) _ _)
  binary_back q Bailout r = refl
  binary_back q Consume r = refl

  prefix_back : (s : Scan) (r : Precedence) → by s (pick (below r level.Prefix) (consume_by p next) (fail_or next)) (consume_by p next) Consume ≡ back Prefix p next s r
  prefix_back Fail r = refl
  prefix_back Bailout r = refl
  prefix_back Consume r = refl

  range_back : (s : Scan) (r : Precedence)
      → (let grouped = pick (at_most r level.Range) Consume Fail in by s grouped (pick (same next level.Assign || same next level.Range) grouped Consume) Consume) ≡ back Range p next s r
  range_back Fail r = refl
  range_back Bailout r = sym (ask_of (same next level.Assign || same next level.Range) Consume _)
  range_back Consume r = refl

  break_back : (lost : Bool) (s : Scan) (r : Precedence) → by s Bailout Consume Consume ≡ back (Break lost) p next s r
  break_back lost Fail r = refl
  break_back lost Bailout r = refl
  break_back lost Consume r = refl

  return_back : (s : Scan) (r : Precedence) → by s Bailout Consume Consume ≡ back Return p next s r
  return_back Fail r = refl
  return_back Bailout r = refl
  return_back Consume r = refl

  let_back : (s : Scan) (r : Precedence)
      → by s (pick (below next level.Let) Bailout (pick (below r level.Let) Consume Bailout)) (pick (below next level.Let) Bailout Consume) Consume ≡ back Let p next s r
  let_back Fail r = sym (answer_of (below next level.Let) _ _)
  let_back Bailout r = refl
  let_back Consume r = refl

  pub group_back : (s : Scan) (r : Precedence) → back Group p next s r ≡ s
  group_back Fail r = refl
  group_back Bailout r = refl
  group_back Consume r = refl

-- ---- the arms, with their operand or without it

abbrev pub is_early : Arm → FixupContext → Precedence → ℕ → ℕ → Bool
is_early arm x p f b = early arm x.next_operator (consumes p x.next_operator) f b

-- what an arm's operand answers to its first question
abbrev pub asked : Arm → Scans → Scans
asked arm scans x p f b = let v = visit_by arm x p f b in scans v.context v.precedence v.fail_offset v.bailout_offset

module _ (x : FixupContext) (p : Precedence) (f b : ℕ) where
  abbrev next : Precedence
  next = x.next_operator

  abbrev context : Arm → FixupContext
  context arm = (visit_by arm x p f b).context

  abbrev given : (Tree → Scans → Scan) → Scan → Tree → Scans → Scan
  given arm absent e scans = pick (is_there e) (arm e scans) absent

  assign_is : (e : Tree) (scans : Scans) → given (assign x p f b) (closed x p f b) e scans ≡ scan_by Assign e scans x p f b
  unfolding assign closed scan_by closed_scan fail_handed fail_or pick
  assign_is none scans = refl
  assign_is (node l c d) scans = ap (pick (is_early Assign x p f b) Consume) (assign_back p next (asked Assign scans x p f b) level.Jump)

  binary_is : (q : Precedence) (e : Tree) (scans : Scans) → given (binary x p f b q) (closed x p f b) e scans ≡ scan_by (Binary q) e scans x p f b
  unfolding binary closed scan_by closed_scan enough fail_handed fail_or pick
  binary_is q none scans = refl
  binary_is q (node l c d) scans = ap (pick (is_early (Binary q) x p f b) Consume) (binary_back p next q (asked (Binary q) scans x p f b) (right_by (node l c d) scans (context (Binary q))))

  prefix_is : (e : Tree) (scans : Scans) → given (prefix x p f b) (closed x p f b) e scans ≡ scan_by Prefix e scans x p f b
  unfolding prefix closed scan_by closed_scan enough fail_handed fail_or pick
  prefix_is none scans = refl
  prefix_is (node l c d) scans = ap (pick (is_early Prefix x p f b) Consume) (prefix_back p next (asked Prefix scans x p f b) (right_by (node l c d) scans (context Prefix)))

  range_is : (e : Tree) (scans : Scans) → given (range x p f b) (pick x.next_operator_can_begin_expr Consume Fail) e scans ≡ scan_by Range e scans x p f b
  unfolding range scan_by pick
  range_is none scans = refl
  range_is (node l c d) scans =
      let y = context Range in
      let r = right_by (node l c d) scans y in
      let assigns = same next level.Assign || same next level.Range in
      ap (pick (is_early Range x p f b) Consume) (range_back p next (scans y level.Range f (pick assigns 0 1)) r ∙ ap (λ n. back Range p next (scans y level.Range f n) r) (zero_or_one assigns))

  break_is : (lost : Bool) (e : Tree) (scans : Scans) → given (jump x p f b (leb 1 b || lost) true) (bare_jump x p f b) e scans ≡ scan_by (Break lost) e scans x p f b
  unfolding jump bare_jump scan_by bare_scan pick
  break_is lost none scans = refl
  break_is lost (node l c d) scans = ap (pick (is_early (Break lost) x p f b) Consume) (break_back p next lost (asked (Break lost) scans x p f b) level.Jump)

  return_is : (e : Tree) (scans : Scans) → given (jump x p f b (leb 1 b) false) (bare_jump x p f b) e scans ≡ scan_by Return e scans x p f b
  unfolding jump bare_jump scan_by bare_scan pick
  return_is none scans = refl
  return_is (node l c d) scans = ap (pick (is_early Return x p f b) Consume) (return_back p next (asked Return scans x p f b) level.Jump)

  let_is : (e : Tree) (scans : Scans) → given (lets x p f b) (closed x p f b) e scans ≡ scan_by Let e scans x p f b
  unfolding lets closed scan_by closed_scan pick
  let_is none scans = refl
  let_is (node l c d) scans =
      let y = context Let in
      let r = right_by (node l c d) scans y in
      let looser = below next level.Let in
      ap (pick (is_early Let x p f b) Consume) (let_back p next (scans y level.Let 1 (pick looser 0 1)) r ∙ ap (λ n. back Let p next (scans y level.Let 1 n) r) (zero_or_one looser))

  group_is : (e : Tree) (scans : Scans) → given (λ e scans. scans x p f b) (closed x p f b) e scans ≡ scan_by Group e scans x p f b
  unfolding closed scan_by closed_scan pick
  group_is none scans = refl
  group_is (node l c d) scans = sym (group_back p next (asked Group scans x p f b) level.Jump)

  closure_is : (scans : Scans) → Consume ≡ scan_by Closure none scans x p f b
  unfolding scan_by pick
  closure_is scans = refl

  pub closed_is : (scans : Scans) → closed x p f b ≡ scan_by Closed none scans x p f b
  unfolding closed scan_by closed_scan pick
  closed_is scans = refl

-- ---- the table, row by row: what is looked up is a function of the arm that is looked up

module _ {A S : Type 0} (from : A → S) where
  row_by : (t : Bool) {s rest : S} {a b : A} → s ≡ from a → rest ≡ from b → pick t s rest ≡ from (pick t a b)
  unfolding pick
  row_by true e f = e
  row_by false e f = f

  -- the row of the prefix operators is two rows for the code
  rows_by : (t u v : Bool) {s rest : S} {a b : A} → s ≡ from a → rest ≡ from b → pick (t || (u || (v || false))) s rest ≡ from (pick (t || (v || false)) a (pick (u || false) a b))
  unfolding pick
  rows_by true u v e f = e
  rows_by false true true e f = e
  rows_by false true false e f = e
  rows_by false false true e f = e
  rows_by false false false e f = f

module _ (x : FixupContext) (p : Precedence) (f b : ℕ) (l : Label) (c d : Tree) where
  abbrev by_arm : Arm → Scan
  by_arm arm = scan_by arm (operand_by arm none c d) (scan_right (operand_by arm none c d)) x p f b

  pub arms_agree : lookup (scan_lines x p f b l c (scan_right c) d (scan_right d)) (closed x p f b) l.form ≡ by_arm (arm_of (node l c d))
  unfolding scan_lines arm_of arm_lines at_root lookup
  arms_agree =
      row_by by_arm _ (row_by by_arm (eqb l.attributes 0) (assign_is x p f b d (scan_right d)) (closed_is x p f b (scan_right none)))
      (row_by by_arm _ (row_by by_arm (eqb l.attributes 0) (binary_is x p f b (of_binop l.detail) d (scan_right d)) (closed_is x p f b (scan_right none)))
      (rows_by by_arm (eqb expr_raw_addr l.form) (eqb expr_reference l.form) (eqb expr_unary l.form) (prefix_is x p f b c (scan_right c))
      (row_by by_arm _ (row_by by_arm (eqb l.attributes 0) (range_is x p f b d (scan_right d)) (closed_is x p f b (scan_right none)))
      (row_by by_arm _ (break_is x p f b (eqb l.detail 0 && leading_label c) c (scan_right c))
      (row_by by_arm _ (return_is x p f b c (scan_right c))
      (row_by by_arm _ (closure_is x p f b (scan_right none))
      (row_by by_arm _ (let_is x p f b c (scan_right c))
      (row_by by_arm _ (group_is x p f b c (scan_right c)) (closed_is x p f b (scan_right none))))))))))
