-- An operand whose right precedence is asked: what scan_right answered of it decides that question too, but below a prefix operator with no next operator. Assumes nothing.
use mathlib.Core.Path.{◌≡◌, refl, sym, ap, ◌∙◌}
use mathlib.Core.Bool.{Bool, true, false, not, ◌&&◌, ◌||◌}
use mathlib.Core.List.{[], ◌∷◌}
use Prim.Native.Nat.{ℕ}
use native.Mathlib.Omega.{arith}
use lib.Dec.{T}
use lib.ListN.{get_or}
use Rattle.bools.specs.Bits.{bit_of}
use Rattle.laws.specs.Choice.{pick}
use Rattle.laws.proofs.Choice.{pick_true, pick_false, true_not_false}
use Rattle.laws.proofs.Each.{all, all_at}
use Rattle.tree.specs.Trees.{Tree}
use Rattle.precedence.specs.declared.Precedence.{Precedence}
use Rattle.precedence.specs.declared.Precedence.TheVariants as level
use Rattle.precedence.specs.Precedences.{below, at_most, same}
use Rattle.fixup.specs.declared.context.FixupContext.{FixupContext}
use Rattle.fixup.specs.Contexts.{rightmost}
use Rattle.fixup.specs.Fixup.{effective, scan_left}
use Rattle.fixup_scan.specs.declared.Scan.{Scan}
use Rattle.fixup_scan.specs.declared.Scan.TheVariants.{Fail, Bailout, Consume}
use Rattle.std.specs.Prelude.{None, Some}
use Rattle.fixup_scan.specs.declared.arm.Arm.{Arm}
use Rattle.fixup_scan.specs.declared.arm.Arm.TheVariants.{Assign, Binary, Prefix, Range, Break, Return, Closure, Let, Group, Closed}
use Rattle.fixup_scan.specs.Scans.{binds, consumes, consume_by, loose, scanned, right_by, scan_right, rightmost_precedence}
use Rattle.fixup_scan.specs.Arms.{arm_of, closed_scan, bare_scan, leaf_scan, fail_handed, visit_by, leave_by, not_consume}
use Rattle.fixup_scan.specs.Linear.{asks_again, right_given, onwards}
use Rattle.fixup_scan.proofs.Spine.{goes_on, along, body, both_scans}
use Rattle.fixup_scan.proofs.Arms.{answer_of, asked, back, is_early}
use Rattle.fixup_scan.proofs.Offsets.{consume_not_fail, consume_by_not_fail, body_lower, lower_offsets, lowest, body_group, body_fail, late_unambiguous, binary_late, more_bailout}

-- ---- a rule for every precedence is one computed test

abbrev level_at : ℕ → Precedence
level_at k = get_or (level.Jump ∷ level.Assign ∷ level.Range ∷ level.Or ∷ level.And ∷ level.Let ∷ level.Compare ∷ level.BitOr ∷ level.BitXor ∷ level.BitAnd ∷ level.Shift ∷ level.Sum ∷ level.Product ∷ level.Cast ∷ level.Prefix ∷ level.Unambiguous ∷ []) k level.Jump

abbrev all_levels : (Precedence → Bool) → Bool
all_levels P = all (λ k. P (level_at k)) 16

each_level : (P : Precedence → Bool) → T (all_levels P) → (p : Precedence) → T (P p)
each_level P h level.Jump = all_at (λ k. P (level_at k)) 16 h 0 (omega arith)
each_level P h level.Assign = all_at (λ k. P (level_at k)) 16 h 1 (omega arith)
each_level P h level.Range = all_at (λ k. P (level_at k)) 16 h 2 (omega arith)
each_level P h level.Or = all_at (λ k. P (level_at k)) 16 h 3 (omega arith)
each_level P h level.And = all_at (λ k. P (level_at k)) 16 h 4 (omega arith)
each_level P h level.Let = all_at (λ k. P (level_at k)) 16 h 5 (omega arith)
each_level P h level.Compare = all_at (λ k. P (level_at k)) 16 h 6 (omega arith)
each_level P h level.BitOr = all_at (λ k. P (level_at k)) 16 h 7 (omega arith)
each_level P h level.BitXor = all_at (λ k. P (level_at k)) 16 h 8 (omega arith)
each_level P h level.BitAnd = all_at (λ k. P (level_at k)) 16 h 9 (omega arith)
each_level P h level.Shift = all_at (λ k. P (level_at k)) 16 h 10 (omega arith)
each_level P h level.Sum = all_at (λ k. P (level_at k)) 16 h 11 (omega arith)
each_level P h level.Product = all_at (λ k. P (level_at k)) 16 h 12 (omega arith)
each_level P h level.Cast = all_at (λ k. P (level_at k)) 16 h 13 (omega arith)
each_level P h level.Prefix = all_at (λ k. P (level_at k)) 16 h 14 (omega arith)
each_level P h level.Unambiguous = all_at (λ k. P (level_at k)) 16 h 15 (omega arith)

-- ---- answers after which the operand is no less grouped than after a Fail

abbrev is_fail : Scan → Bool
is_fail Fail = true
is_fail Bailout = false
is_fail Consume = false

-- before a dot, a call and the like a Fail stays one
abbrev still : Precedence → Scan → Bool
still next s = pick (same next level.Unambiguous) (is_fail s) (not_consume s)

still_fail : (next : Precedence) (s : Scan) → s ≡ Fail → T (still next s)
unfolding pick
still_fail next s e = rw e (go (same next level.Unambiguous))
  where
    go : (u : Bool) → T (pick u true true)
    go true = tt
    go false = tt

is_fail_lem : (s : Scan) → T (is_fail s) → s ≡ Fail
is_fail_lem Fail t = refl
is_fail_lem Bailout t = absurd t
is_fail_lem Consume t = absurd t

still_unambiguous : (next : Precedence) (s : Scan) → same next level.Unambiguous ≡ true → T (still next s) → s ≡ Fail
still_unambiguous next s u t = is_fail_lem s (rw (pick_true (is_fail s) (not_consume s) u) at t)

still_not_consume : (next : Precedence) (s : Scan) → T (still next s) → not_consume s ≡ true
unfolding pick
still_not_consume next Fail t = refl
still_not_consume next Bailout t = refl
still_not_consume next Consume t = go (same next level.Unambiguous) t
  where
    go : (u : Bool) → T (pick u false false) → false ≡ true
    go true t = absurd t
    go false t = absurd t

-- ---- without an operand

abbrev again_at : (Precedence → Precedence → Scan) → Precedence → Precedence → Bool
again_at scan next p = not (is_fail (scan p next)) || (same next level.Jump || still next (scan level.Prefix next))

closed_table : (next p : Precedence) → T (again_at closed_scan next p)
unfolding closed_scan consume_by consumes binds pick
closed_table next p = each_level (again_at closed_scan next) (each_level (λ n. all_levels (again_at closed_scan n)) tt next) p

bare_table : (next p : Precedence) → T (again_at bare_scan next p)
unfolding bare_scan pick
bare_table next p = each_level (again_at bare_scan next) (each_level (λ n. all_levels (again_at bare_scan n)) tt next) p

by_table : (scan : Precedence → Precedence → Scan) (p next : Precedence) → T (again_at scan next p) → same next level.Jump ≡ false → scan p next ≡ Fail → T (still next (scan level.Prefix next))
by_table scan p next t j e = rw (e, j) at t

leaf_again : (arm : Arm) (begins : Bool) (p next : Precedence) → same next level.Jump ≡ false → leaf_scan arm begins p next ≡ Fail → T (still next (leaf_scan arm begins level.Prefix next))
leaf_again Assign begins p next j e = by_table closed_scan p next (closed_table next p) j e
leaf_again (Binary q) begins p next j e = by_table closed_scan p next (closed_table next p) j e
leaf_again Prefix begins p next j e = by_table closed_scan p next (closed_table next p) j e
leaf_again Range begins p next j e = still_fail next _ e
leaf_again (Break lost) begins p next j e = by_table bare_scan p next (bare_table next p) j e
leaf_again Return begins p next j e = by_table bare_scan p next (bare_table next p) j e
leaf_again Closure begins p next j e = consume_not_fail e
leaf_again Let begins p next j e = by_table closed_scan p next (closed_table next p) j e
leaf_again Group begins p next j e = by_table closed_scan p next (closed_table next p) j e
leaf_again Closed begins p next j e = by_table closed_scan p next (closed_table next p) j e

-- ---- with one

handed_one : (next : Precedence) → fail_handed next 1 ≡ 1
unfolding fail_handed pick
handed_one next = go (same next level.Unambiguous)
  where
    go : (u : Bool) → ◌≡◌ {A = ℕ} (pick u 1 1) 1
    go true = refl
    go false = refl

-- Assign and Range do not look at the precedence
assign_any : (p q next : Precedence) (s : Scan) (r : Precedence) → back Assign p next s r ≡ back Assign q next s r
assign_any p q next Fail r = refl
assign_any p q next Bailout r = refl
assign_any p q next Consume r = refl

range_any : (p q next : Precedence) (s : Scan) (r : Precedence) → back Range p next s r ≡ back Range q next s r
range_any p q next Fail r = refl
range_any p q next Bailout r = refl
range_any p q next Consume r = refl

-- Binary and the prefix operators fail by a Fail alone, and then at each precedence
picks_any : (t d : Bool) (p q next : Precedence) (s : Scan) → pick t s (pick d (consume_by p next) s) ≡ Fail → pick t s (pick d (consume_by q next) s) ≡ Fail
unfolding pick
picks_any true d p q next s e = e
picks_any false true p q next s e = consume_by_not_fail p next e
picks_any false false p q next s e = e

binary_any : (o p q next : Precedence) (s : Scan) (r : Precedence) → back (Binary o) p next s r ≡ Fail → (s ≡ Fail) × (back (Binary o) q next Fail r ≡ Fail)
binary_any o p q next Fail r e = (refl, answer_of (same o level.Assign) _ _ ∙ picks_any (same o level.Assign) (at_most r o) p q next _ (sym (answer_of (same o level.Assign) _ _) ∙ e))
binary_any o p q next Bailout r e = consume_by_not_fail p next e
binary_any o p q next Consume r e = consume_not_fail e

prefix_any : (p q next : Precedence) (s : Scan) (r : Precedence) → back Prefix p next s r ≡ Fail → (s ≡ Fail) × (back Prefix q next Fail r ≡ Fail)
unfolding pick
prefix_any p q next Fail r e = (refl, picks_any false (below r level.Prefix) p q next _ e)
prefix_any p q next Bailout r e = consume_by_not_fail p next e
prefix_any p q next Consume r e = consume_not_fail e

abbrev Again : Tree → Type 0
Again t = (x : FixupContext) (p : Precedence) (f b : ℕ) → same x.next_operator level.Jump ≡ false → scan_right t x p f b ≡ Fail → T (still x.next_operator (scan_right t x level.Prefix 1 0))

body_lowest : (arm : Arm) (o : Tree) (x : FixupContext) (p : Precedence) (f b : ℕ) → body arm o x p f b ≡ Fail → body arm o x p 1 0 ≡ Fail
body_lowest arm o x p f b e = body_lower arm o (lower_offsets o) x p 1 0 f b (λ h. refl) (λ h. refl) (ap not_consume e) ∙ e

body_again : (arm : Arm) → goes_on arm ≡ true → (o : Tree) → Again o → (x : FixupContext) (p : Precedence) (f b : ℕ) → same x.next_operator level.Jump ≡ false → body arm o x p f b ≡ Fail → T (still x.next_operator (body arm o x level.Prefix 1 0))
body_again Assign goes o ih x p f b j e =
    still_fail x.next_operator _ (body_lowest Assign o x level.Prefix f b (ap (pick (is_early Assign x p f b) Consume) (assign_any level.Prefix p x.next_operator (asked Assign (scan_right o) x p f b) (rightmost_precedence o (visit_by Assign x p f b).context)) ∙ e))
body_again (Binary q) goes o ih x p f b j e =
    let next = x.next_operator in
    let y = rightmost x false false q in
    let d = body_fail (Binary q) o x p f b e in
    let s = binary_any q p level.Prefix next (asked (Binary q) (scan_right o) x p f b) (rightmost_precedence o y) d.1 in
    let low : scan_right o y q 1 0 ≡ Fail = lowest o y q (fail_handed next f) (bit_of (consumes p next)) (ap not_consume s.0) ∙ s.0 in
    let more : asked (Binary q) (scan_right o) x level.Prefix 1 0 ≡ Fail = ap (λ k. scan_right o y q k (bit_of (consumes level.Prefix next))) (handed_one next) ∙ more_bailout o y q (bit_of (consumes level.Prefix next)) low in
    still_fail next _ (pick_false _ _ (binary_late q next _ 0 d.2) ∙ ap (λ r. back (Binary q) level.Prefix next r (rightmost_precedence o y)) more ∙ s.1)
body_again Prefix goes o ih x p f b j e =
    let next = x.next_operator in
    let y = rightmost x false false level.Prefix in
    let d = body_fail Prefix o x p f b e in
    let s = prefix_any p level.Prefix next (asked Prefix (scan_right o) x p f b) (rightmost_precedence o y) d.1 in
    let low : scan_right o y level.Prefix 1 0 ≡ Fail = still_unambiguous next _ d.2 (ih y p (fail_handed next f) (bit_of (consumes p next)) j s.0) in
    let more : asked Prefix (scan_right o) x level.Prefix 1 0 ≡ Fail = ap (λ k. scan_right o y level.Prefix k (bit_of (consumes level.Prefix next))) (handed_one next) ∙ more_bailout o y level.Prefix (bit_of (consumes level.Prefix next)) low in
    still_fail next _ (pick_false _ _ (late_unambiguous next _ 0 d.2).0 ∙ ap (λ r. back Prefix level.Prefix next r (rightmost_precedence o y)) more ∙ s.1)
body_again Range goes o ih x p f b j e =
    still_fail x.next_operator _ (body_lowest Range o x level.Prefix f b (ap (pick (is_early Range x p f b) Consume) (range_any level.Prefix p x.next_operator (asked Range (scan_right o) x p f b) (rightmost_precedence o (visit_by Range x p f b).context)) ∙ e))
body_again (Break lost) goes o ih x p f b j e = true_not_false (sym (body_fail (Break lost) o x p f b e).2)
body_again Return goes o ih x p f b j e = true_not_false (sym (body_fail Return o x p f b e).2)
body_again Closure goes o ih x p f b j e = true_not_false (sym goes)
body_again Let goes o ih x p f b j e = true_not_false (sym (body_fail Let o x p f b e).2)
body_again Group goes o ih x p f b j e = rw (body_group o x level.Prefix 1 0) (ih x p f b j (sym (body_group o x p f b) ∙ e))
body_again Closed goes o ih x p f b j e = true_not_false (sym goes)

-- after a Fail, where there is a next operator, the question that a prefix operator's right precedence puts is not answered by Consume
pub fails_again : (t : Tree) → Again t
fails_again =
    along Again (λ t ih x p f b j. both_scans t x p f b level.Prefix 1 0 (λ s r. s ≡ Fail → T (still x.next_operator r)) (consume_by_not_fail p x.next_operator) (leaf_again (arm_of t) x.next_operator_can_begin_expr p x.next_operator j) (λ there goes. body_again (arm_of t) goes (onwards t) (ih there) x p f b j))

-- ---- the first answer serves

answer_not_ask : {A : Type 0} {s : Scan} → Some s ≡ None → A
answer_not_ask e = absurd (let z : ◌≡◌ {A = ℕ} 0 1 = cc in omega arith)

asks_not_consume : (arm : Arm) (p next : Precedence) (s : Scan) → leave_by arm p next s ≡ None → not_consume s ≡ true
asks_not_consume arm p next Fail e = refl
asks_not_consume arm p next Bailout e = refl
asks_not_consume arm p next Consume e = answer_not_ask e

pub prefix_asks : (p next : Precedence) (s : Scan) → leave_by Prefix p next s ≡ None → s ≡ Fail
prefix_asks p next Fail e = refl
prefix_asks p next Bailout e = answer_not_ask e
prefix_asks p next Consume e = answer_not_ask e

group_asks : {A : Type 0} (p next : Precedence) (s : Scan) → leave_by Group p next s ≡ None → A
group_asks p next Fail e = answer_not_ask e
group_asks p next Bailout e = answer_not_ask e
group_asks p next Consume e = answer_not_ask e

closure_asks : {A : Type 0} (p next : Precedence) (s : Scan) → leave_by Closure p next s ≡ None → A
closure_asks p next Fail e = answer_not_ask e
closure_asks p next Bailout e = answer_not_ask e
closure_asks p next Consume e = answer_not_ask e

closed_asks : {A : Type 0} (p next : Precedence) (s : Scan) → leave_by Closed p next s ≡ None → A
closed_asks p next Fail e = answer_not_ask e
closed_asks p next Bailout e = answer_not_ask e
closed_asks p next Consume e = answer_not_ask e

module _ (o : Tree) (x : FixupContext) (p : Precedence) (f b : ℕ) where
  -- what rightmost_subexpression_precedence asks of the operand
  abbrev asked_again : Arm → Scan
  asked_again arm = let y = (visit_by arm x p f b).context in scan_right o y y.previous_operator 1 0

  lowest_asked : (arm : Arm) (y : FixupContext) (q : Precedence) (g c : ℕ) → leave_by arm p x.next_operator (scan_right o y q g c) ≡ None → not_consume (scan_right o y q 1 0) ≡ true
  lowest_asked arm y q g c e = let h = asks_not_consume arm p x.next_operator (scan_right o y q g c) e in ap not_consume (lowest o y q g c h) ∙ h

  asked_same : (arm : Arm) → leave_by arm p x.next_operator (asked arm (scan_right o) x p f b) ≡ None → asks_again arm x.next_operator ≡ false → not_consume (asked_again arm) ≡ true
  asked_same Assign e k = lowest_asked Assign _ _ _ _ e
  asked_same (Binary q) e k = lowest_asked (Binary q) _ _ _ _ e
  asked_same Prefix e k = still_not_consume x.next_operator (asked_again Prefix) (fails_again o _ p _ _ k (prefix_asks p x.next_operator (asked Prefix (scan_right o) x p f b) e))
  asked_same Range e k = lowest_asked Range _ _ _ _ e
  asked_same (Break lost) e k = lowest_asked (Break lost) _ _ _ _ e
  asked_same Return e k = lowest_asked Return _ _ _ _ e
  asked_same Closure e k = closure_asks p x.next_operator (asked Closure (scan_right o) x p f b) e
  asked_same Let e k = lowest_asked Let _ _ _ _ e
  asked_same Group e k = group_asks p x.next_operator (asked Group (scan_right o) x p f b) e
  asked_same Closed e k = closed_asks p x.next_operator (asked Closed (scan_right o) x p f b) e

  -- the operand's right precedence, from the answer that it gave
  pub first_serves : (arm : Arm) → leave_by arm p x.next_operator (asked arm (scan_right o) x p f b) ≡ None → asks_again arm x.next_operator ≡ false → right_given o (asked arm (scan_right o) x p f b) (visit_by arm x p f b).context ≡ rightmost_precedence o (visit_by arm x p f b).context
  unfolding right_given rightmost_precedence right_by
  first_serves arm e k =
      let y = (visit_by arm x p f b).context in
      ap (λ c. pick ((loose y (effective y o) && scanned y) && (c && scan_left o y)) level.Prefix (effective y o)) (asks_not_consume arm p x.next_operator (asked arm (scan_right o) x p f b) e ∙ sym (asked_same arm e k))
