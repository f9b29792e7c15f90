-- scan_right cut along its arms, as the code runs it. `scan_along` (proofs/Spine.antt) says that this is scan_right of specs/Scans: nothing here is to be believed.
use Rattle.std.specs.Prelude.{Bool, true, false, not, ◌&&◌, ◌||◌, List, [], ◌∷◌, ℕ, eqb, leb, Option, None, Some}
use Rattle.bools.specs.Bits.{bit_of}
use Rattle.laws.specs.Choice.{pick, Line, line}
use Rattle.tree.specs.Forms.{expr_assign, expr_binary, expr_break, expr_closure, expr_group, expr_let, expr_range, expr_raw_addr, expr_reference, expr_return, expr_unary, expr_yield}
use Rattle.tree.specs.Table.{first_column, second_column}
use Rattle.tree.specs.Trees.{Label, Tree, operand_at}
use Rattle.tree.specs.Walks.{is_there, at_root}
use Rattle.precedence.specs.declared.Precedence.{Precedence}
use Rattle.precedence.specs.declared.Precedence.TheVariants as level
use Rattle.precedence.specs.Precedences.{below, at_most, same, of_binop}
use Rattle.classify.specs.Classify.{leading_label}
use Rattle.fixup.specs.declared.context.FixupContext.{FixupContext}
use Rattle.fixup.specs.Contexts.{rightmost}
use Rattle.fixup_scan.specs.declared.Scan.{Scan}
use Rattle.fixup_scan.specs.declared.Scan.TheVariants.{Fail, Bailout, Consume}
use Rattle.fixup_scan.specs.declared.arm.Arm.{Arm}
use Rattle.fixup_scan.specs.declared.arm.Arm.TheVariants.{Assign, Binary, Prefix, Range, Break, Return, Closure, Let, Group, Closed}
use Rattle.fixup_scan.specs.declared.visit.Visit.{Visit}
use Rattle.fixup_scan.specs.Scans.{by, Scans, consumes, consume_by, right_by}

-- ---- answers

abbrev pub not_consume : Scan → Bool
not_consume s = by s true true false

-- ---- the arms of scan_right's `match`

-- Assign, Binary and Range "if e.attrs.is_empty()"; with attributes they are among the closed forms
abbrev pub unattributed : ℕ → Arm → Arm
unattributed attributes arm = pick (eqb attributes 0) arm Closed

-- a Break's arm knows whether it has no label while its value begins with one
unfoldable pub arm_lines : Label → Tree → Tree → List (Line Arm)
arm_lines l a b =
    line (expr_assign ∷ []) (unattributed l.attributes Assign) ∷
    line (expr_binary ∷ []) (unattributed l.attributes (Binary (of_binop l.detail))) ∷
    line (expr_raw_addr ∷ expr_unary ∷ []) Prefix ∷
    line (expr_reference ∷ []) Prefix ∷
    line (expr_range ∷ []) (unattributed l.attributes Range) ∷
    line (expr_break ∷ []) (Break (eqb l.detail 0 && leading_label a)) ∷
    line (expr_return ∷ expr_yield ∷ []) Return ∷
    line (expr_closure ∷ []) Closure ∷
    line (expr_let ∷ []) Let ∷
    line (expr_group ∷ []) Group ∷
    []

unfoldable pub arm_of : Tree → Arm
arm_of t = at_root arm_lines Closed t

-- which operand an arm goes on with: the first, the second, or nothing
abbrev pub operand_by : {A : Type 0} → Arm → A → A → A → A
operand_by Assign nothing first second = second
operand_by (Binary q) nothing first second = second
operand_by Prefix nothing first second = first
operand_by Range nothing first second = second
operand_by (Break lost) nothing first second = first
operand_by Return nothing first second = first
operand_by Closure nothing first second = nothing
operand_by Let nothing first second = first
operand_by Group nothing first second = first
operand_by Closed nothing first second = nothing

-- the number of that operand; 0 where it is absent
abbrev pub operand_number : Arm → List ℕ → ℕ → ℕ → ℕ
operand_number arm cells count i = operand_by arm 0 (operand_at cells count i first_column) (operand_at cells count i second_column)

-- ---- the answer where there is no operand

-- the closed forms
unfoldable pub closed_scan : Precedence → Precedence → Scan
closed_scan p next =
    pick
    (((same next level.Assign || same next level.Range) && same p level.Range) || (same p level.Let && below next level.Let))
    Fail
    (consume_by p next)

-- Break, Return and Yield without a value
unfoldable pub bare_scan : Precedence → Precedence → Scan
bare_scan p next = pick (same next level.Assign && below level.Assign p) Fail Consume

-- `begins`: next_operator_can_begin_expr
abbrev pub leaf_scan : Arm → Bool → Precedence → Precedence → Scan
leaf_scan Assign begins p next = closed_scan p next
leaf_scan (Binary q) begins p next = closed_scan p next
leaf_scan Prefix begins p next = closed_scan p next
leaf_scan Range begins p next = pick begins Consume Fail
leaf_scan (Break lost) begins p next = bare_scan p next
leaf_scan Return begins p next = bare_scan p next
leaf_scan Closure begins p next = Consume
leaf_scan Let begins p next = closed_scan p next
leaf_scan Group begins p next = closed_scan p next
leaf_scan Closed begins p next = closed_scan p next

-- ---- the tests that answer Consume before the operand is scanned

-- Binary and the prefix operators
unfoldable pub enough : Precedence → Bool → ℕ → ℕ → Bool
enough next consumed fail bailout = pick (same next level.Unambiguous) (leb 2 fail && (consumed || leb 1 bailout)) (leb 1 bailout)

abbrev pub early : Arm → Precedence → Bool → ℕ → ℕ → Bool
early Assign next consumed fail bailout = pick (same next level.Unambiguous) (leb 2 fail) (leb 1 bailout)
early (Binary q) next consumed fail bailout = enough next consumed fail bailout || (same q level.Compare && same next level.Compare)
early Prefix next consumed fail bailout = enough next consumed fail bailout
early Range next consumed fail bailout = leb 2 fail
early (Break lost) next consumed fail bailout = leb 1 bailout || lost
early Return next consumed fail bailout = leb 1 bailout
early Closure next consumed fail bailout = false
early Let next consumed fail bailout = leb 1 bailout
early Group next consumed fail bailout = false
early Closed next consumed fail bailout = false

-- ---- how the operand is scanned: its context, precedence and offsets

abbrev pub visit : FixupContext → Precedence → ℕ → ℕ → Visit
visit context precedence fail bailout = record { context = context; precedence = precedence; fail_offset = fail; bailout_offset = bailout }

unfoldable pub fail_handed : Precedence → ℕ → ℕ
fail_handed next fail = pick (same next level.Unambiguous) fail 1

-- bit_of: `consume_by_precedence as u8 - Scan::Bailout as u8`, and the like
abbrev pub visit_by : Arm → FixupContext → Precedence → ℕ → ℕ → Visit
visit_by Assign x p fail bailout = visit (rightmost x false false level.Assign) level.Assign (fail_handed x.next_operator fail) 1
visit_by (Binary q) x p fail bailout = visit (rightmost x false false q) q (fail_handed x.next_operator fail) (bit_of (consumes p x.next_operator))
visit_by Prefix x p fail bailout = visit (rightmost x false false level.Prefix) p (fail_handed x.next_operator fail) (bit_of (consumes p x.next_operator))
visit_by Range x p fail bailout = visit (rightmost x false true level.Range) level.Range fail (bit_of (not (same x.next_operator level.Assign || same x.next_operator level.Range)))
visit_by (Break lost) x p fail bailout = visit (rightmost x true true level.Jump) level.Jump 1 1
visit_by Return x p fail bailout = visit (rightmost x true false level.Jump) level.Jump 1 1
visit_by Closure x p fail bailout = visit x p fail bailout
visit_by Let x p fail bailout = visit (rightmost x false false level.Let) level.Let 1 (bit_of (not (below x.next_operator level.Let)))
visit_by Group x p fail bailout = visit x p fail bailout
visit_by Closed x p fail bailout = visit x p fail bailout

-- ---- what follows from the operand's scan: the answer, or the operand's right precedence is asked

-- an operand's Fail stays one only before a dot, a call and the like
unfoldable pub fail_or : Precedence → Scan
fail_or next = pick (same next level.Unambiguous) Fail Bailout

abbrev pub leave_fail : Arm → Precedence → Option Scan
leave_fail Assign next = Some (fail_or next)
leave_fail (Binary q) next = pick (same q level.Assign) (Some (fail_or next)) None
leave_fail Prefix next = None
leave_fail Range next = None
leave_fail (Break lost) next = Some Bailout
leave_fail Return next = Some Bailout
leave_fail Closure next = Some Fail
leave_fail Let next = pick (below next level.Let) (Some Bailout) None
leave_fail Group next = Some Fail
leave_fail Closed next = Some Fail

-- Let: where the next operator binds no looser than `let`, both of the crate's answers are Consume
abbrev pub leave_bailout : Arm → Precedence → Precedence → Option Scan
leave_bailout Assign p next = Some Consume
leave_bailout (Binary q) p next = Some (consume_by p next)
leave_bailout Prefix p next = Some (consume_by p next)
leave_bailout Range p next = pick (same next level.Assign || same next level.Range) None (Some Consume)
leave_bailout (Break lost) p next = Some Consume
leave_bailout Return p next = Some Consume
leave_bailout Closure p next = Some Bailout
leave_bailout Let p next = Some (pick (below next level.Let) Bailout Consume)
leave_bailout Group p next = Some Bailout
leave_bailout Closed p next = Some Bailout

abbrev pub leave_by : Arm → Precedence → Precedence → Scan → Option Scan
leave_by arm p next Fail = leave_fail arm next
leave_by arm p next Bailout = leave_bailout arm p next
leave_by arm p next Consume = Some Consume

-- the answer by the operand's right precedence; the other arms do not ask
abbrev pub settle_by : Arm → Precedence → Precedence → Precedence → Scan
settle_by Assign p next right = Consume
settle_by (Binary q) p next right = pick (at_most right q) (consume_by p next) (fail_or next)
settle_by Prefix p next right = pick (below right level.Prefix) (consume_by p next) (fail_or next)
settle_by Range p next right = pick (at_most right level.Range) Consume Fail
settle_by (Break lost) p next right = Consume
settle_by Return p next right = Consume
settle_by Closure p next right = Consume
settle_by Let p next right = pick (below right level.Let) Consume Bailout
settle_by Group p next right = Consume
settle_by Closed p next right = Consume

abbrev pub finish : Option Scan → Scan → Scan
finish (Some s) settled = s
finish None settled = settled

-- ---- an arm with its operand and the scans of that

unfoldable pub scan_by : Arm → Tree → Scans → Scans
scan_by arm t scans x p fail bailout =
    pick (not (is_there t)) (leaf_scan arm x.next_operator_can_begin_expr p x.next_operator)
    (pick (early arm x.next_operator (consumes p x.next_operator) fail bailout) Consume
    (let v = visit_by arm x p fail bailout in
    finish
    (leave_by arm p x.next_operator (scans v.context v.precedence v.fail_offset v.bailout_offset))
    (settle_by arm p x.next_operator (right_by t scans v.context))))
