-- The scan that the code runs is scan_right, and it visits each node of the right spine at most twice. Assumes nothing.
use mathlib.Core.Path.{◌≡◌, refl, sym, ap, ap₂, ◌∙◌}
use mathlib.Core.Bool.{Bool, true, false, ◌&&◌}
use Prim.Native.Nat.{ℕ, ◌+◌, ◌*◌, ◌≤◌}
use native.Mathlib.Omega.{arith}
use borrow.Author.Tests.{eqb-true}
use Rattle.bools.specs.Bits.{bit_of}
use Rattle.laws.specs.Choice.{pick}
use Rattle.laws.proofs.Choice.{true_not_false, and_true}
use Rattle.tree.specs.Trees.{Label, Tree, none, node}
use Rattle.tree.specs.Walks.{is_there, at_root}
use Rattle.precedence.specs.declared.Precedence.{Precedence}
use Rattle.precedence.specs.declared.Precedence.TheVariants as level
use Rattle.precedence.specs.Precedences.{rank_of, same}
use Rattle.fixup.specs.declared.context.FixupContext.{FixupContext}
use Rattle.fixup.specs.Contexts.{rightmost}
use Rattle.fixup.specs.Fixup.{parenthesize, effective}
use Rattle.fixup_scan.specs.declared.Scan.{Scan}
use Rattle.fixup_scan.specs.declared.Scan.TheVariants.{Fail, Bailout, Consume}
use Rattle.std.specs.Prelude.{Option, None, Some}
use Rattle.fixup_scan.specs.declared.arm.Arm.{Arm}
use Rattle.fixup_scan.specs.declared.arm.Arm.TheVariants.{Assign, Binary, Prefix, Range, Break, Return, Closure, Let, Group, Closed}
use Rattle.fixup_scan.specs.Scans.{consumes, consume_by, loose, scanned, right_by, scan_right, rightmost_precedence}
use Rattle.fixup_scan.specs.Arms.{arm_of, operand_by, fail_handed, visit_by, leave_by, settle_by, finish, not_consume, scan_by}
use Rattle.fixup_scan.specs.Linear.{asks_again, right_given, onwards, linear_by, nowhere, linear, no_visit, right_visits_by, is_ask, visits_by, visits, spine}
use Rattle.fixup_scan.proofs.Arms.{asked, back, is_early}
use Rattle.fixup_scan.proofs.Spine.{goes_on, there_goes_on, along, scan_along, body, at_grouped, at_inner}
use Rattle.fixup_scan.proofs.Offsets.{consume_not_fail, consume_by_not_fail, body_fail, body_group, lower_offsets}
use Rattle.fixup_scan.proofs.Again.{prefix_asks, first_serves}

-- ---- the answers

operand_linear : (arm : Arm) (a b : Tree) (x : FixupContext) (p : Precedence) (f c : ℕ)
    → linear_by arm (operand_by arm none a b) (operand_by arm nowhere (linear a) (linear b)) x p f c
    ≡ linear_by arm (operand_by arm none a b) (linear (operand_by arm none a b)) x p f c
unfolding linear_by pick
operand_linear Assign a b x p f c = refl
operand_linear (Binary q) a b x p f c = refl
operand_linear Prefix a b x p f c = refl
operand_linear Range a b x p f c = refl
operand_linear (Break lost) a b x p f c = refl
operand_linear Return a b x p f c = refl
operand_linear Closure a b x p f c = refl
operand_linear Let a b x p f c = refl
operand_linear Group a b x p f c = refl
operand_linear Closed a b x p f c = refl

linear_along : (t : Tree) (x : FixupContext) (p : Precedence) (f b : ℕ)
    → linear t x p f b ≡ pick (parenthesize x t) (consume_by p x.next_operator) (linear_by (arm_of t) (onwards t) (linear (onwards t)) x p f b)
unfolding linear onwards arm_of at_root
linear_along none x p f b = ap (pick (parenthesize x none) (consume_by p x.next_operator)) (operand_linear Closed none none x p f b)
linear_along (node l c d) x p f b = ap (pick (parenthesize x (node l c d)) (consume_by p x.next_operator)) (operand_linear (arm_of (node l c d)) c d x p f b)

abbrev Scanned : Tree → Type 0
Scanned t = (x : FixupContext) (p : Precedence) (f b : ℕ) → linear t x p f b ≡ scan_right t x p f b

-- an answer, settled by the one precedence or the other
settled : (l : Option Scan) (again : Bool) (settle : Precedence → Scan) (q r : Precedence) → (l ≡ None → again ≡ false → r ≡ q) → finish l (settle (pick again q r)) ≡ finish l (settle q)
unfolding pick
settled (Some s) again settle q r h = refl
settled None true settle q r h = refl
settled None false settle q r h = ap settle (h refl refl)

operand_linear_scan : (arm : Arm) (o : Tree) → Scanned o → (x : FixupContext) (p : Precedence) (f b : ℕ) →
    (let v = visit_by arm x p f b in
    let s = linear o v.context v.precedence v.fail_offset v.bailout_offset in
    finish (leave_by arm p x.next_operator s) (settle_by arm p x.next_operator (pick (asks_again arm x.next_operator) (right_by o (linear o) v.context) (right_given o s v.context))))
    ≡ back arm p x.next_operator (asked arm (scan_right o) x p f b) (right_by o (scan_right o) (visit_by arm x p f b).context)
unfolding right_given right_by rightmost_precedence
operand_linear_scan arm o ih x p f b =
    let next = x.next_operator in
    let v = visit_by arm x p f b in
    let y = v.context in
    ap₂ (λ s r. finish (leave_by arm p next s) (settle_by arm p next (pick (asks_again arm next) (right_given o r y) (right_given o s y)))) (ih y v.precedence v.fail_offset v.bailout_offset) (ih y y.previous_operator 1 0)
    ∙ settled (leave_by arm p next (asked arm (scan_right o) x p f b)) (asks_again arm next) (settle_by arm p next) (right_by o (scan_right o) y) (right_given o (asked arm (scan_right o) x p f b) y) (first_serves o x p f b arm)

inner_linear_scan : (arm : Arm) (o : Tree) → (is_there o ≡ true → Scanned o) → (x : FixupContext) (p : Precedence) (f b : ℕ) → linear_by arm o (linear o) x p f b ≡ scan_by arm o (scan_right o) x p f b
unfolding linear_by scan_by pick
inner_linear_scan arm none ih x p f b = refl
inner_linear_scan arm (node l c d) ih x p f b = ap (pick (is_early arm x p f b) Consume) (operand_linear_scan arm (node l c d) (ih refl) x p f b)

pub linear_is_scan : (t : Tree) → Scanned t
linear_is_scan =
    along Scanned (λ t ih x p f b. linear_along t x p f b ∙ ap (pick (parenthesize x t) (consume_by p x.next_operator)) (inner_linear_scan (arm_of t) (onwards t) ih x p f b) ∙ sym (scan_along t x p f b))

-- ---- the visits of a node, by those of the next one

visits_of_operand : (arm : Arm) (a b : Tree) (x : FixupContext) (p : Precedence) (f c : ℕ)
    → visits_by arm (operand_by arm none a b) (operand_by arm nowhere (linear a) (linear b)) (operand_by arm no_visit (visits a) (visits b)) x p f c
    ≡ visits_by arm (operand_by arm none a b) (linear (operand_by arm none a b)) (visits (operand_by arm none a b)) x p f c
unfolding visits_by visits pick
visits_of_operand Assign a b x p f c = refl
visits_of_operand (Binary q) a b x p f c = refl
visits_of_operand Prefix a b x p f c = refl
visits_of_operand Range a b x p f c = refl
visits_of_operand (Break lost) a b x p f c = refl
visits_of_operand Return a b x p f c = refl
visits_of_operand Closure a b x p f c = refl
visits_of_operand Let a b x p f c = refl
visits_of_operand Group a b x p f c = refl
visits_of_operand Closed a b x p f c = refl

-- the visits of an arm's operand that is scanned, once or twice
abbrev scanned_once : Arm → Tree → FixupContext → Precedence → ℕ → ℕ → ℕ
scanned_once arm o x p f b = let v = visit_by arm x p f b in visits o v.context v.precedence v.fail_offset v.bailout_offset

abbrev twice_at : Arm → Tree → FixupContext → Precedence → ℕ → ℕ → Bool
twice_at arm o x p f b = asks_again arm x.next_operator && is_ask (leave_by arm p x.next_operator (asked arm (scan_right o) x p f b))

abbrev operand_visits : Arm → Tree → FixupContext → Precedence → ℕ → ℕ → ℕ
operand_visits arm o x p f b = scanned_once arm o x p f b + pick (twice_at arm o x p f b) (right_visits_by o (visits o) (visit_by arm x p f b).context) 0

pick_most : (b : Bool) (n : ℕ) → pick b 0 n ≤ n
unfolding pick
pick_most true n = omega arith
pick_most false n = omega arith

visits_by_most : (arm : Arm) (o : Tree) (x : FixupContext) (p : Precedence) (f b : ℕ) → visits_by arm o (linear o) (visits o) x p f b ≤ operand_visits arm o x p f b
unfolding visits_by
visits_by_most arm o x p f b =
    let v = visit_by arm x p f b in
    rw (linear_is_scan o v.context v.precedence v.fail_offset v.bailout_offset) (pick_most (is_early arm x p f b) (operand_visits arm o x p f b))

visits_most : (t : Tree) (x : FixupContext) (p : Precedence) (f b : ℕ) → visits t x p f b ≤ 1 + operand_visits (arm_of t) (onwards t) x p f b
unfolding visits onwards
visits_most none x p f b = omega arith
visits_most (node l c d) x p f b =
    let t = node l c d in
    let o = operand_by (arm_of t) none c d in
    let h = pick_most (parenthesize x t) (visits_by (arm_of t) o (linear o) (visits o) x p f b) in
    let k = visits_by_most (arm_of t) o x p f b in
    rw (visits_of_operand (arm_of t) c d x p f b) (omega arith)

pick_same : (b : Bool) (n : ℕ) → pick b n n ≡ n
unfolding pick
pick_same true n = refl
pick_same false n = refl

-- where there is no operand, there is no visit of it
none_visits : (arm : Arm) (o : Tree) → is_there o ≡ false → (x : FixupContext) (p : Precedence) (f b : ℕ) → operand_visits arm o x p f b ≡ 0
unfolding visits right_visits_by
none_visits arm none e x p f b = rw (pick_same (loose (visit_by arm x p f b).context (effective (visit_by arm x p f b).context none) && scanned (visit_by arm x p f b).context) 0, pick_same (twice_at arm none x p f b) 0)
none_visits arm (node l c d) e x p f b = true_not_false e

operand_spine : (arm : Arm) (a b : Tree) → operand_by arm 0 (spine a) (spine b) ≡ spine (operand_by arm none a b)
unfolding spine
operand_spine Assign a b = refl
operand_spine (Binary q) a b = refl
operand_spine Prefix a b = refl
operand_spine Range a b = refl
operand_spine (Break lost) a b = refl
operand_spine Return a b = refl
operand_spine Closure a b = refl
operand_spine Let a b = refl
operand_spine Group a b = refl
operand_spine Closed a b = refl

pub spine_along : (l : Label) (c d : Tree) → spine (node l c d) ≡ 1 + spine (onwards (node l c d))
unfolding spine onwards
spine_along l c d = ap (◌+◌ 1) (operand_spine (arm_of (node l c d)) c d)

-- a bound of the operand's visits bounds the node's
visits_under : (n : ℕ) (t : Tree) (x : FixupContext) (p : Precedence) (f b : ℕ) → (is_there (onwards t) ≡ true → operand_visits (arm_of t) (onwards t) x p f b ≤ n) → visits t x p f b ≤ 1 + n
visits_under n t x p f b g = go (is_there (onwards t)) refl (visits_most t x p f b)
  where
    go : (e : Bool) → is_there (onwards t) ≡ e → visits t x p f b ≤ 1 + operand_visits (arm_of t) (onwards t) x p f b → visits t x p f b ≤ 1 + n
    go true e m = let d = g e in omega arith
    go false e m = let d = none_visits (arm_of t) (onwards t) e x p f b in omega arith

visits_once : (t : Tree) (x : FixupContext) (p : Precedence) (f b : ℕ) → (is_there (onwards t) ≡ true → operand_visits (arm_of t) (onwards t) x p f b ≤ spine (onwards t)) → visits t x p f b ≤ spine t
unfolding visits
visits_once none x p f b g = omega arith
visits_once (node l c d) x p f b g = rw (spine_along l c d) (visits_under (spine (onwards (node l c d))) (node l c d) x p f b g)

visits_twice : (t : Tree) (x : FixupContext) (p : Precedence) (f b : ℕ) → (is_there (onwards t) ≡ true → operand_visits (arm_of t) (onwards t) x p f b ≤ 2 * spine (onwards t)) → visits t x p f b ≤ 2 * spine t
unfolding visits
visits_twice none x p f b g = omega arith
visits_twice (node l c d) x p f b g =
    let o = onwards (node l c d) in
    let m = visits_under (2 * spine o) (node l c d) x p f b g in
    rw (spine_along l c d) (omega arith)

-- ---- with no next operator, what fails is made of Groups and Ranges, which scan their operand once

-- a node that fails is not grouped
fails_inner : (t : Tree) (x : FixupContext) (p : Precedence) (f b : ℕ) → scan_right t x p f b ≡ Fail → is_there (onwards t) ≡ true → body (arm_of t) (onwards t) x p f b ≡ Fail
fails_inner t x p f b e there = go (parenthesize x t) refl
  where
    go : (d : Bool) → parenthesize x t ≡ d → body (arm_of t) (onwards t) x p f b ≡ Fail
    go true d = consume_by_not_fail p x.next_operator (sym (at_grouped t x p f b d) ∙ e)
    go false d = sym (at_inner t x p f b d there) ∙ e

jump_not_unambiguous : {A : Type 0} (p : Precedence) → same p level.Jump ≡ true → same p level.Unambiguous ≡ true → A
jump_not_unambiguous p j u = absurd (let m = eqb-true (rank_of p) 0 j in let n = eqb-true (rank_of p) 15 u in omega arith)

-- a Range that fails there has an operand that fails
range_fails : (p next : Precedence) (s : Scan) (r : Precedence) → same next level.Jump ≡ true → back Range p next s r ≡ Fail → s ≡ Fail
unfolding pick
range_fails p next Fail r j e = refl
range_fails p next Bailout r j e = consume_not_fail (rw (eqb-true (rank_of next) 0 j) at e)
range_fails p next Consume r j e = consume_not_fail e

abbrev Once : Tree → Type 0
Once t = (x : FixupContext) (p : Precedence) (f b : ℕ) → same x.next_operator level.Jump ≡ true → scan_right t x p f b ≡ Fail → visits t x p f b ≤ spine t

range_operand : (o : Tree) (x : FixupContext) (p : Precedence) (f b : ℕ) → same x.next_operator level.Jump ≡ true → body Range o x p f b ≡ Fail → asked Range (scan_right o) x p f b ≡ Fail
range_operand o x p f b j e = range_fails p x.next_operator (asked Range (scan_right o) x p f b) (rightmost_precedence o (visit_by Range x p f b).context) j (body_fail Range o x p f b e).1

inner_once : (arm : Arm) → goes_on arm ≡ true → (o : Tree) → Once o → (x : FixupContext) (p : Precedence) (f b : ℕ) → same x.next_operator level.Jump ≡ true → body arm o x p f b ≡ Fail → operand_visits arm o x p f b ≤ spine o
unfolding pick
inner_once Assign goes o ih x p f b j e = jump_not_unambiguous x.next_operator j (body_fail Assign o x p f b e).2
inner_once (Binary q) goes o ih x p f b j e = jump_not_unambiguous x.next_operator j (body_fail (Binary q) o x p f b e).2
inner_once Prefix goes o ih x p f b j e = jump_not_unambiguous x.next_operator j (body_fail Prefix o x p f b e).2
inner_once Range goes o ih x p f b j e =
    let v = visit_by Range x p f b in
    let h = ih v.context v.precedence v.fail_offset v.bailout_offset j (range_operand o x p f b j e) in
    omega arith
inner_once (Break lost) goes o ih x p f b j e = true_not_false (sym (body_fail (Break lost) o x p f b e).2)
inner_once Return goes o ih x p f b j e = true_not_false (sym (body_fail Return o x p f b e).2)
inner_once Closure goes o ih x p f b j e = true_not_false (sym goes)
inner_once Let goes o ih x p f b j e = true_not_false (sym (body_fail Let o x p f b e).2)
inner_once Group goes o ih x p f b j e = let h = ih x p f b j (sym (body_group o x p f b) ∙ e) in omega arith
inner_once Closed goes o ih x p f b j e = true_not_false (sym goes)

fails_once : (t : Tree) → Once t
fails_once = along Once (λ t ih x p f b j e. visits_once t x p f b (λ there. inner_once (arm_of t) (there_goes_on t there) (onwards t) (ih there) x p f b j (fails_inner t x p f b e there)))

-- and so is it scanned once more
abbrev OnceMore : Tree → Type 0
OnceMore t = (x : FixupContext) (p : Precedence) (f b : ℕ) (q : Precedence) → same x.next_operator level.Jump ≡ true → scan_right t x p f b ≡ Fail → visits t x q 1 0 ≤ spine t

inner_once_more : (arm : Arm) → goes_on arm ≡ true → (o : Tree) → OnceMore o → (x : FixupContext) (p : Precedence) (f b : ℕ) (q : Precedence) → same x.next_operator level.Jump ≡ true → body arm o x p f b ≡ Fail → operand_visits arm o x q 1 0 ≤ spine o
unfolding pick
inner_once_more Assign goes o ih x p f b q j e = jump_not_unambiguous x.next_operator j (body_fail Assign o x p f b e).2
inner_once_more (Binary r) goes o ih x p f b q j e = jump_not_unambiguous x.next_operator j (body_fail (Binary r) o x p f b e).2
inner_once_more Prefix goes o ih x p f b q j e = jump_not_unambiguous x.next_operator j (body_fail Prefix o x p f b e).2
inner_once_more Range goes o ih x p f b q j e =
    let v = visit_by Range x p f b in
    let s = range_operand o x p f b j e in
    let low = lower_offsets o v.context level.Range 1 v.bailout_offset v.fail_offset v.bailout_offset (λ h. refl) (λ h. h) (ap not_consume s) ∙ s in
    let h = fails_once o v.context level.Range 1 v.bailout_offset j low in
    omega arith
inner_once_more (Break lost) goes o ih x p f b q j e = true_not_false (sym (body_fail (Break lost) o x p f b e).2)
inner_once_more Return goes o ih x p f b q j e = true_not_false (sym (body_fail Return o x p f b e).2)
inner_once_more Closure goes o ih x p f b q j e = true_not_false (sym goes)
inner_once_more Let goes o ih x p f b q j e = true_not_false (sym (body_fail Let o x p f b e).2)
inner_once_more Group goes o ih x p f b q j e = let h = ih x p f b q j (sym (body_group o x p f b) ∙ e) in omega arith
inner_once_more Closed goes o ih x p f b q j e = true_not_false (sym goes)

fails_once_more : (t : Tree) → OnceMore t
fails_once_more = along OnceMore (λ t ih x p f b q j e. visits_once t x q 1 0 (λ there. inner_once_more (arm_of t) (there_goes_on t there) (onwards t) (ih there) x p f b q j (fails_inner t x p f b e there)))

-- ---- at most twice

abbrev Twice : Tree → Type 0
Twice t = (x : FixupContext) (p : Precedence) (f b : ℕ) → visits t x p f b ≤ 2 * spine t

is_ask_lem : (l : Option Scan) → is_ask l ≡ true → l ≡ None
is_ask_lem (Some s) e = true_not_false (sym e)
is_ask_lem None e = refl

pub pick_within : (b : Bool) (n m : ℕ) → n ≤ m → pick b n 0 ≤ m
unfolding pick
pick_within true n m h = h
pick_within false n m h = omega arith

-- where the operand is scanned twice, it fails with no next operator
inner_twice : (arm : Arm) (o : Tree) (x : FixupContext) (p : Precedence) (f b : ℕ) → asks_again arm x.next_operator ≡ true → leave_by arm p x.next_operator (asked arm (scan_right o) x p f b) ≡ None → scanned_once arm o x p f b + right_visits_by o (visits o) (visit_by arm x p f b).context ≤ 2 * spine o
unfolding right_visits_by
inner_twice Assign o x p f b j e = true_not_false (sym j)
inner_twice (Binary q) o x p f b j e = true_not_false (sym j)
inner_twice Prefix o x p f b j e =
    let y = rightmost x false false level.Prefix in
    let next = x.next_operator in
    let s = prefix_asks p next (asked Prefix (scan_right o) x p f b) e in
    let h = fails_once o y p (fail_handed next f) (bit_of (consumes p next)) j s in
    let k = fails_once_more o y p (fail_handed next f) (bit_of (consumes p next)) level.Prefix j s in
    let m = pick_within (loose y (effective y o) && scanned y) (visits o y level.Prefix 1 0) (spine o) k in
    omega arith
inner_twice Range o x p f b j e = true_not_false (sym j)
inner_twice (Break lost) o x p f b j e = true_not_false (sym j)
inner_twice Return o x p f b j e = true_not_false (sym j)
inner_twice Closure o x p f b j e = true_not_false (sym j)
inner_twice Let o x p f b j e = true_not_false (sym j)
inner_twice Group o x p f b j e = true_not_false (sym j)
inner_twice Closed o x p f b j e = true_not_false (sym j)

inner_visits : (arm : Arm) (o : Tree) → Twice o → (x : FixupContext) (p : Precedence) (f b : ℕ) → operand_visits arm o x p f b ≤ 2 * spine o
unfolding pick
inner_visits arm o ih x p f b = go (twice_at arm o x p f b) refl
  where
    go : (e : Bool) → twice_at arm o x p f b ≡ e → scanned_once arm o x p f b + pick e (right_visits_by o (visits o) (visit_by arm x p f b).context) 0 ≤ 2 * spine o
    go true e =
        let d = and_true (asks_again arm x.next_operator) (is_ask (leave_by arm p x.next_operator (asked arm (scan_right o) x p f b))) e in
        inner_twice arm o x p f b d.0 (is_ask_lem _ d.1)
    go false e =
        let v = visit_by arm x p f b in
        let h = ih v.context v.precedence v.fail_offset v.bailout_offset in
        omega arith

-- A scan visits each node of the right spine at most twice.
pub visits_at_most_twice : (t : Tree) → Twice t
visits_at_most_twice = along Twice (λ t ih x p f b. visits_twice t x p f b (λ there. inner_visits (arm_of t) (onwards t) (ih there) x p f b))
