-- scan_right as the code runs it, and how many nodes it visits. The theorem `linear_is_scan` (proofs/Linear.antt) makes `linear` scan_right: of this file, only what counts the visits has to be believed.
use Rattle.std.specs.Prelude.{Bool, true, false, not, ◌&&◌, ℕ, ◌+◌, Option, None, Some}
use Rattle.laws.specs.Choice.{pick}
use Rattle.tree.specs.Trees.{Tree, none, node}
use Rattle.tree.specs.Walks.{is_there}
use Rattle.precedence.specs.declared.Precedence.{Precedence}
use Rattle.precedence.specs.declared.Precedence.TheVariants as level
use Rattle.precedence.specs.Precedences.{same}
use Rattle.fixup.specs.declared.context.FixupContext.{FixupContext}
use Rattle.fixup.specs.Fixup.{parenthesize, effective, scan_left}
use Rattle.fixup_scan.specs.declared.Scan.{Scan}
use Rattle.fixup_scan.specs.declared.Scan.TheVariants.{Consume}
use Rattle.fixup_scan.specs.declared.arm.Arm.{Arm}
use Rattle.fixup_scan.specs.declared.arm.Arm.TheVariants.{Assign, Binary, Prefix, Range, Break, Return, Closure, Let, Group, Closed}
use Rattle.fixup_scan.specs.Scans.{consumes, consume_by, Scans, loose, scanned, right_by}
use Rattle.fixup_scan.specs.Arms.{arm_of, operand_by, leaf_scan, early, visit_by, leave_by, settle_by, finish, not_consume}

-- ---- the scan

-- An operand whose right precedence is asked has just been scanned, and that answer serves: only below a prefix operator with no next operator is it scanned again.
abbrev pub asks_again : Arm → Precedence → Bool
asks_again Assign next = false
asks_again (Binary q) next = false
asks_again Prefix next = same next level.Jump
asks_again Range next = false
asks_again (Break lost) next = false
asks_again Return next = false
asks_again Closure next = false
asks_again Let next = false
asks_again Group next = false
asks_again Closed next = false

-- rightmost_subexpression_precedence, given what scan_right answers
unfoldable pub right_given : Tree → Scan → FixupContext → Precedence
right_given t s x =
    pick
    ((loose x (effective x t) && scanned x) && (not_consume s && scan_left t x))
    level.Prefix
    (effective x t)

-- the operand that a node's arm goes on with: the next node of the right spine
unfoldable pub onwards : Tree → Tree
onwards none = none
onwards (node l a b) = operand_by (arm_of (node l a b)) none a b

-- an arm with its operand and the scans of that
unfoldable pub linear_by : Arm → Tree → Scans → Scans
linear_by arm t scans x p fail bailout =
    pick (not (is_there t)) (leaf_scan arm x.next_operator_can_begin_expr p x.next_operator)
    (pick (early arm x.next_operator (consumes p x.next_operator) fail bailout) Consume
    (let v = visit_by arm x p fail bailout in
    let s = scans v.context v.precedence v.fail_offset v.bailout_offset in
    finish
    (leave_by arm p x.next_operator s)
    (settle_by arm p x.next_operator (pick (asks_again arm x.next_operator) (right_by t scans v.context) (right_given t s v.context)))))

abbrev pub nowhere : Scans
nowhere x p fail bailout = Consume

unfoldable pub linear : Tree → Scans
linear none x p fail bailout = pick (parenthesize x none) (consume_by p x.next_operator) (linear_by Closed none nowhere x p fail bailout)
linear (node l a b) x p fail bailout =
    pick (parenthesize x (node l a b)) (consume_by p x.next_operator)
    (linear_by (arm_of (node l a b)) (operand_by (arm_of (node l a b)) none a b) (operand_by (arm_of (node l a b)) nowhere (linear a) (linear b)) x p fail bailout)

-- ---- its visits

-- the visits of an expression's scan, as a function of all but the expression
abbrev pub Counts : Type 0
Counts = FixupContext → Precedence → ℕ → ℕ → ℕ

abbrev pub no_visit : Counts
no_visit x p fail bailout = 0

-- rightmost_subexpression_precedence scans after its first two tests
unfoldable pub right_visits_by : Tree → Counts → FixupContext → ℕ
right_visits_by t counts x = pick (loose x (effective x t) && scanned x) (counts x x.previous_operator 1 0) 0

abbrev pub is_ask : Option Scan → Bool
is_ask (Some s) = false
is_ask None = true

-- the operand's visits: those of its scan, and those of its second one
unfoldable pub visits_by : Arm → Tree → Scans → Counts → Counts
visits_by arm t scans counts x p fail bailout =
    pick (early arm x.next_operator (consumes p x.next_operator) fail bailout) 0
    (let v = visit_by arm x p fail bailout in
    counts v.context v.precedence v.fail_offset v.bailout_offset
    + pick
    (asks_again arm x.next_operator && is_ask (leave_by arm p x.next_operator (scans v.context v.precedence v.fail_offset v.bailout_offset)))
    (right_visits_by t counts v.context)
    0)

-- how many nodes `linear` visits, each as often as it is visited
unfoldable pub visits : Tree → Counts
visits none x p fail bailout = 0
visits (node l a b) x p fail bailout =
    1
    + pick (parenthesize x (node l a b)) 0
    (visits_by (arm_of (node l a b)) (operand_by (arm_of (node l a b)) none a b) (operand_by (arm_of (node l a b)) nowhere (linear a) (linear b)) (operand_by (arm_of (node l a b)) no_visit (visits a) (visits b)) x p fail bailout)

-- how many nodes the right spine holds
unfoldable pub spine : Tree → ℕ
spine none = 0
spine (node l a b) = 1 + operand_by (arm_of (node l a b)) 0 (spine a) (spine b)
