-- What the offsets change of scan_right's answer: an answer that is not Consume stays at lower ones, and a Fail at (1, 0) at any of bailout. Assumes nothing.
use mathlib.Core.Path.{◌≡◌, refl, sym, ap, ap₂, ◌∙◌}
use mathlib.Core.Bool.{Bool, true, false, ◌&&◌, ◌||◌, and-false}
use Prim.Native.Nat.{ℕ}
use native.Mathlib.Omega.{arith}
use lib.Dec.{leb}
use borrow.Author.Tests.{eqb-true}
use Rattle.laws.specs.Choice.{pick}
use Rattle.laws.proofs.Choice.{pick_true, pick_false, true_not_false}
use Rattle.tree.specs.Trees.{Tree}
use Rattle.precedence.specs.declared.Precedence.{Precedence}
use Rattle.precedence.specs.declared.Precedence.TheVariants as level
use Rattle.precedence.specs.Precedences.{rank_of, below, at_most, same}
use Rattle.fixup.specs.declared.context.FixupContext.{FixupContext}
use Rattle.fixup_scan.specs.declared.Scan.{Scan}
use Rattle.fixup_scan.specs.declared.Scan.TheVariants.{Fail, Bailout, Consume}
use Rattle.fixup_scan.specs.declared.arm.Arm.{Arm}
use Rattle.fixup_scan.specs.declared.arm.Arm.TheVariants.{Assign, Binary, Prefix, Range, Break, Return, Closure, Let, Group, Closed}
use Rattle.fixup_scan.specs.Scans.{consumes, consume_by, scan_right, rightmost_precedence}
use Rattle.fixup_scan.specs.Arms.{enough, arm_of, early, fail_handed, visit_by, fail_or, not_consume}
use Rattle.fixup_scan.specs.Linear.{onwards}
use Rattle.fixup_scan.proofs.Arms.{answer_of, back, group_back, is_early, asked}
use Rattle.fixup_scan.proofs.Spine.{goes_on, along, after, body, both_scans}

-- ---- answers apart

pub consume_not_fail : {A : Type 0} → Consume ≡ Fail → A
consume_not_fail e = absurd (let z : ◌≡◌ {A = ℕ} 0 1 = cc in omega arith)

pub bailout_not_fail : {A : Type 0} → Bailout ≡ Fail → A
bailout_not_fail e = absurd (let z : ◌≡◌ {A = ℕ} 0 1 = cc in omega arith)

-- consume_by_precedence never fails
pub consume_by_not_fail : {A : Type 0} (p next : Precedence) → consume_by p next ≡ Fail → A
unfolding consume_by pick
consume_by_not_fail p next e = go (consumes p next) e
  where
    go : {A : Type 0} (c : Bool) → pick c Consume Bailout ≡ Fail → A
    go true e = consume_not_fail e
    go false e = bailout_not_fail e

-- ---- tests that hold no more often

abbrev pub Lower : Bool → Bool → Type 0
Lower a b = b ≡ false → a ≡ false

lower_or : (a b c d : Bool) → Lower a b → Lower c d → Lower (a || c) (b || d)
lower_or a true c d h k e = true_not_false e
lower_or a false c d h k e = ap₂ ◌||◌ (h refl) (k e)

lower_and : (a b c d : Bool) → Lower a b → Lower c d → Lower (a && c) (b && d)
lower_and true true c d h k e = k e
lower_and false true c d h k e = refl
lower_and a false c d h k e = ap (λ z. z && c) (h refl)

lower_pick : (u a b c d : Bool) → Lower a b → Lower c d → Lower (pick u a c) (pick u b d)
unfolding pick
lower_pick true a b c d h k e = h e
lower_pick false a b c d h k e = k e

module _ (f b g c : ℕ) (fails : Lower (leb 2 f) (leb 2 g)) (bails : Lower (leb 1 b) (leb 1 c)) where
  lower_enough : (next : Precedence) (d : Bool) → Lower (enough next d f b) (enough next d g c)
  unfolding enough
  lower_enough next d = lower_pick (same next level.Unambiguous) _ _ _ _ (lower_and _ _ _ _ fails (lower_or d d _ _ (λ e. e) bails)) bails

  lower_early : (arm : Arm) (next : Precedence) (d : Bool) → Lower (early arm next d f b) (early arm next d g c)
  lower_early Assign next d = lower_pick (same next level.Unambiguous) _ _ _ _ fails bails
  lower_early (Binary q) next d = lower_or _ _ _ _ (lower_enough next d) (λ e. e)
  lower_early Prefix next d = lower_enough next d
  lower_early Range next d = fails
  lower_early (Break lost) next d = lower_or _ _ _ _ bails (λ e. e)
  lower_early Return next d = bails
  lower_early Closure next d = λ e. e
  lower_early Let next d = bails
  lower_early Group next d = λ e. e
  lower_early Closed next d = λ e. e

lower_handed : (next : Precedence) (f g : ℕ) → Lower (leb 2 f) (leb 2 g) → Lower (leb 2 (fail_handed next f)) (leb 2 (fail_handed next g))
unfolding fail_handed pick
lower_handed next f g h = go (same next level.Unambiguous)
  where
    go : (u : Bool) → Lower (leb 2 (pick u f 1)) (leb 2 (pick u g 1))
    go true = h
    go false = λ e. e

-- ---- lower offsets

abbrev Offsets : Tree → Type 0
Offsets t = (x : FixupContext) (p : Precedence) (f b g c : ℕ) → Lower (leb 2 f) (leb 2 g) → Lower (leb 1 b) (leb 1 c) → not_consume (scan_right t x p g c) ≡ true → scan_right t x p f b ≡ scan_right t x p g c

-- the context of the operand does not depend on the question
pub context_same : (arm : Arm) (x : FixupContext) (p : Precedence) (f b : ℕ) (q : Precedence) (g c : ℕ) → (visit_by arm x p f b).context ≡ (visit_by arm x q g c).context
context_same Assign x p f b q g c = refl
context_same (Binary r) x p f b q g c = refl
context_same Prefix x p f b q g c = refl
context_same Range x p f b q g c = refl
context_same (Break lost) x p f b q g c = refl
context_same Return x p f b q g c = refl
context_same Closure x p f b q g c = refl
context_same Let x p f b q g c = refl
context_same Group x p f b q g c = refl
context_same Closed x p f b q g c = refl

asked_lower : (arm : Arm) (o : Tree) → Offsets o → (x : FixupContext) (p : Precedence) (f b g c : ℕ) → Lower (leb 2 f) (leb 2 g) → Lower (leb 1 b) (leb 1 c) → not_consume (asked arm (scan_right o) x p g c) ≡ true → asked arm (scan_right o) x p f b ≡ asked arm (scan_right o) x p g c
asked_lower Assign o ih x p f b g c h k e = ih _ _ _ _ _ _ (lower_handed x.next_operator f g h) (λ e. e) e
asked_lower (Binary q) o ih x p f b g c h k e = ih _ _ _ _ _ _ (lower_handed x.next_operator f g h) (λ e. e) e
asked_lower Prefix o ih x p f b g c h k e = ih _ _ _ _ _ _ (lower_handed x.next_operator f g h) (λ e. e) e
asked_lower Range o ih x p f b g c h k e = ih _ _ _ _ _ _ h (λ e. e) e
asked_lower (Break lost) o ih x p f b g c h k e = refl
asked_lower Return o ih x p f b g c h k e = refl
asked_lower Closure o ih x p f b g c h k e = ih _ _ _ _ _ _ h k e
asked_lower Let o ih x p f b g c h k e = refl
asked_lower Group o ih x p f b g c h k e = ih _ _ _ _ _ _ h k e
asked_lower Closed o ih x p f b g c h k e = ih _ _ _ _ _ _ h k e

-- an operand that gives Consume makes its owner give it
back_not_consume : (arm : Arm) (p next : Precedence) (s : Scan) (r : Precedence) → not_consume (back arm p next s r) ≡ true → not_consume s ≡ true
back_not_consume arm p next Fail r e = refl
back_not_consume arm p next Bailout r e = refl
back_not_consume arm p next Consume r e = e

late_not_consume : (e : Bool) (s : Scan) → not_consume (pick e Consume s) ≡ true → (e ≡ false) × (not_consume s ≡ true)
unfolding pick
late_not_consume true s h = true_not_false (sym h)
late_not_consume false s h = (refl, h)

pub body_lower : (arm : Arm) (o : Tree) → Offsets o → (x : FixupContext) (p : Precedence) (f b g c : ℕ) → Lower (leb 2 f) (leb 2 g) → Lower (leb 1 b) (leb 1 c) → not_consume (body arm o x p g c) ≡ true → body arm o x p f b ≡ body arm o x p g c
body_lower arm o ih x p f b g c h k e =
    let late = late_not_consume (is_early arm x p g c) _ e in
    pick_false _ _ (lower_early f b g c h k arm _ _ late.0)
    ∙ ap₂ (λ s y. back arm p x.next_operator s (rightmost_precedence o y)) (asked_lower arm o ih x p f b g c h k (back_not_consume arm p x.next_operator (asked arm (scan_right o) x p g c) (rightmost_precedence o (visit_by arm x p g c).context) late.1)) (context_same arm x p f b p g c)
    ∙ sym (pick_false _ _ late.0)

-- at lower offsets, the answer is Consume no more often, and otherwise the same
pub lower_offsets : (t : Tree) → Offsets t
lower_offsets = along Offsets (λ t ih x p f b g c h k. both_scans t x p f b p g c (λ s r. not_consume r ≡ true → s ≡ r) (λ e. refl) (λ e. refl) (λ there goes. body_lower (arm_of t) (onwards t) (ih there) x p f b g c h k))

-- the offsets of rightmost_subexpression_precedence are below all others
pub lowest : (t : Tree) (x : FixupContext) (p : Precedence) (f b : ℕ) → not_consume (scan_right t x p f b) ≡ true → scan_right t x p 1 0 ≡ scan_right t x p f b
lowest t x p f b = lower_offsets t x p 1 0 f b (λ e. refl) (λ e. refl)

-- ---- a Fail, by the arm

pub late_fail : (e : Bool) (s : Scan) → pick e Consume s ≡ Fail → (e ≡ false) × (s ≡ Fail)
unfolding pick
late_fail true s h = consume_not_fail h
late_fail false s h = (refl, h)

-- which arms hand on a Fail: with an operand, Assign, Binary and the prefix operators only before a dot, a call and the like
abbrev hands_fail : Arm → Precedence → Bool
hands_fail Assign next = same next level.Unambiguous
hands_fail (Binary q) next = same next level.Unambiguous
hands_fail Prefix next = same next level.Unambiguous
hands_fail Range next = true
hands_fail (Break lost) next = false
hands_fail Return next = false
hands_fail Closure next = true
hands_fail Let next = false
hands_fail Group next = true
hands_fail Closed next = true

fail_or_lem : (next : Precedence) → fail_or next ≡ Fail → same next level.Unambiguous ≡ true
unfolding fail_or pick
fail_or_lem next e = go (same next level.Unambiguous) e
  where
    go : (u : Bool) → pick u Fail Bailout ≡ Fail → u ≡ true
    go true e = refl
    go false e = bailout_not_fail e

-- a choice between consume_by_precedence and another answer fails only by the other
pub fails_by_other : (t : Bool) (p next : Precedence) (s : Scan) → pick t (consume_by p next) s ≡ Fail → (t ≡ false) × (s ≡ Fail)
unfolding pick
fails_by_other true p next s e = consume_by_not_fail p next e
fails_by_other false p next s e = (refl, e)

pick_of : {A : Type 0} (t : Bool) (s r a : A) → pick t s r ≡ a → (P : Type 0) → (s ≡ a → P) → (r ≡ a → P) → P
unfolding pick
pick_of true s r a e P h k = h e
pick_of false s r a e P h k = k e

back_fail : (arm : Arm) (p next : Precedence) (s : Scan) (r : Precedence) → back arm p next s r ≡ Fail → hands_fail arm next ≡ true
back_fail Assign p next Fail r e = fail_or_lem next e
back_fail Assign p next Bailout r e = consume_not_fail e
back_fail Assign p next Consume r e = consume_not_fail e
back_fail (Binary q) p next Fail r e = pick_of (same q level.Assign) _ _ Fail (sym (answer_of (same q level.Assign) _ _) ∙ e) _ (fail_or_lem next) (λ h. fail_or_lem next (fails_by_other (at_most r q) p next _ h).1)
back_fail (Binary q) p next Bailout r e = consume_by_not_fail p next e
back_fail (Binary q) p next Consume r e = consume_not_fail e
back_fail Prefix p next Fail r e = fail_or_lem next (fails_by_other (below r level.Prefix) p next _ e).1
back_fail Prefix p next Bailout r e = consume_by_not_fail p next e
back_fail Prefix p next Consume r e = consume_not_fail e
back_fail Range p next s r e = refl
back_fail (Break lost) p next Fail r e = bailout_not_fail e
back_fail (Break lost) p next Bailout r e = consume_not_fail e
back_fail (Break lost) p next Consume r e = consume_not_fail e
back_fail Return p next Fail r e = bailout_not_fail e
back_fail Return p next Bailout r e = consume_not_fail e
back_fail Return p next Consume r e = consume_not_fail e
back_fail Closure p next s r e = refl
back_fail Let p next Fail r e = pick_of (below next level.Let) _ _ Fail (sym (answer_of (below next level.Let) _ _) ∙ e) _ bailout_not_fail (λ h. pick_of (below r level.Let) _ _ Fail h _ consume_not_fail bailout_not_fail)
back_fail Let p next Bailout r e = pick_of (below next level.Let) _ _ Fail e _ bailout_not_fail consume_not_fail
back_fail Let p next Consume r e = consume_not_fail e
back_fail Group p next s r e = refl
back_fail Closed p next s r e = refl

-- a Group answers as its operand
pub body_group : (o : Tree) (x : FixupContext) (p : Precedence) (f b : ℕ) → body Group o x p f b ≡ scan_right o x p f b
unfolding pick
body_group o x p f b = group_back p x.next_operator (scan_right o x p f b) (rightmost_precedence o x)

pub body_fail : (arm : Arm) (o : Tree) (x : FixupContext) (p : Precedence) (f b : ℕ) → body arm o x p f b ≡ Fail → (is_early arm x p f b ≡ false) × (after arm o x p f b ≡ Fail) × (hands_fail arm x.next_operator ≡ true)
body_fail arm o x p f b e =
    let d = late_fail (is_early arm x p f b) (after arm o x p f b) e in
    (d.0, d.1, back_fail arm p x.next_operator (asked arm (scan_right o) x p f b) (rightmost_precedence o (visit_by arm x p f b).context) d.1)

-- ---- more of bailout

-- before a dot, a call and the like, an offset of Fail below 2 lets nothing answer early
pub late_unambiguous : (next : Precedence) (d : Bool) (b : ℕ) → same next level.Unambiguous ≡ true → (enough next d 1 b ≡ false) × (pick (same next level.Unambiguous) (leb 2 1) (leb 1 b) ≡ false)
unfolding enough
late_unambiguous next d b u = (pick_true _ _ u, pick_true _ _ u)

pub binary_late : (q next : Precedence) (d : Bool) (b : ℕ) → same next level.Unambiguous ≡ true → early (Binary q) next d 1 b ≡ false
binary_late q next d b u = ap₂ ◌||◌ (late_unambiguous next d b u).0 (rw (eqb-true (rank_of next) 15 u) (and-false (same q level.Compare)))

abbrev MoreBailout : Tree → Type 0
MoreBailout t = (x : FixupContext) (p : Precedence) (b : ℕ) → scan_right t x p 1 0 ≡ Fail → scan_right t x p 1 b ≡ Fail

body_more_bailout : (arm : Arm) → goes_on arm ≡ true → (o : Tree) → MoreBailout o → (x : FixupContext) (p : Precedence) (b : ℕ) → body arm o x p 1 0 ≡ Fail → body arm o x p 1 b ≡ Fail
unfolding pick
body_more_bailout Assign goes o ih x p b e =
    let d = body_fail Assign o x p 1 0 e in
    pick_false _ _ (late_unambiguous x.next_operator false b d.2).1 ∙ d.1
body_more_bailout (Binary q) goes o ih x p b e =
    let d = body_fail (Binary q) o x p 1 0 e in
    pick_false _ _ (binary_late q x.next_operator _ b d.2) ∙ d.1
body_more_bailout Prefix goes o ih x p b e =
    let d = body_fail Prefix o x p 1 0 e in
    pick_false _ _ (late_unambiguous x.next_operator _ b d.2).0 ∙ d.1
body_more_bailout Range goes o ih x p b e = e
body_more_bailout (Break lost) goes o ih x p b e = true_not_false (sym (body_fail (Break lost) o x p 1 0 e).2)
body_more_bailout Return goes o ih x p b e = true_not_false (sym (body_fail Return o x p 1 0 e).2)
body_more_bailout Closure goes o ih x p b e = true_not_false (sym goes)
body_more_bailout Let goes o ih x p b e = true_not_false (sym (body_fail Let o x p 1 0 e).2)
body_more_bailout Group goes o ih x p b e = body_group o x p 1 b ∙ ih x p b (sym (body_group o x p 1 0) ∙ e)
body_more_bailout Closed goes o ih x p b e = true_not_false (sym goes)

pub more_bailout : (t : Tree) → MoreBailout t
more_bailout = along MoreBailout (λ t ih x p b. both_scans t x p 1 0 p 1 b (λ s r. s ≡ Fail → r ≡ Fail) (λ e. e) (λ e. e) (λ there goes. body_more_bailout (arm_of t) goes (onwards t) (ih there) x p b))
