-- prettyplease's fixup.rs: scan_right, and the precedences of left and right operands, on trees.
use Rattle.std.specs.Prelude.{Bool, true, false, not, ◌&&◌, ◌||◌, List, [], ◌∷◌, ℕ, eqb, leb}
use Rattle.bools.specs.Bits.{bit_of}
use Rattle.laws.specs.Choice.{pick, Line, line, lookup}
use Rattle.tree.specs.Forms.{expr_assign, expr_binary, expr_break, expr_closure, expr_group, expr_let, expr_range, expr_raw_addr, expr_reference, expr_return, expr_unary, expr_yield}
use Rattle.tree.specs.Trees.{Label, Tree, none, node}
use Rattle.tree.specs.Walks.{is_there}
use Rattle.precedence.specs.declared.Precedence.{Precedence}
use Rattle.precedence.specs.declared.Precedence.TheVariants as level
use Rattle.precedence.specs.Precedences.{below, at_most, same, of_binop}
use Rattle.classify.specs.Classify.{leading_label}
use Rattle.fixup.specs.declared.context.FixupContext.{FixupContext}
use Rattle.fixup.specs.Contexts.{rightmost}
use Rattle.fixup.specs.Fixup.{parenthesize, effective, scan_left}
use Rattle.fixup_scan.specs.declared.Scan.{Scan}
use Rattle.fixup_scan.specs.declared.Scan.TheVariants.{Fail, Bailout, Consume}

-- document 01: "Scan is Fail 0, Bailout 1, Consume 2."
abbrev pub scan_number : Scan → ℕ
scan_number Fail = 0
scan_number Bailout = 1
scan_number Consume = 2

-- `match scan { Fail => .., Bailout => .., Consume => .. }`
abbrev pub by : {A : Type 0} → Scan → A → A → A → A
by Fail fail bailout consume = fail
by Bailout fail bailout consume = bailout
by Consume fail bailout consume = consume

-- scan_right of an expression, as a function of fixup, precedence, fail_offset and bailout_offset
abbrev pub Scans : Type 0
Scans = FixupContext → Precedence → ℕ → ℕ → Scan

-- ---- rightmost_subexpression_precedence, by the scans of the expression

-- its first two tests: of the operator before, with the expression's own precedence, and of the next operator
unfoldable pub loose : FixupContext → Precedence → Bool
loose x d =
    let previous = x.previous_operator in
    pick (same previous level.Assign || (same previous level.Let || same previous level.Prefix)) (below d previous) (at_most d previous)

unfoldable pub scanned : FixupContext → Bool
scanned x =
    let next = x.next_operator in
    (same next level.Range || (same next level.Or || same next level.And)) || not x.next_operator_can_begin_expr

unfoldable pub right_by : Tree → Scans → FixupContext → Precedence
right_by t scans x =
    let not_consume = by (scans x x.previous_operator 1 0) true true false in
    pick ((loose x (effective x t) && scanned x) && (not_consume && scan_left t x)) level.Prefix (effective x t)

-- ---- consume_by_precedence

-- "Assign | Compare" take equality
unfoldable pub binds : Precedence → Precedence → Bool
binds p next = pick (same p level.Assign || same p level.Compare) (at_most p next) (below p next)

unfoldable pub consumes : Precedence → Precedence → Bool
consumes p next = binds p next || same next level.Jump

unfoldable pub consume_by : Precedence → Precedence → Scan
consume_by p next = pick (consumes p next) Consume Bailout

-- ---- the arms of scan_right's `match`, each with the operand that it scans, and the scans of that

module _ (x : FixupContext) (p : Precedence) (fail bailout : ℕ) where
  abbrev next : Precedence
  next = x.next_operator

  -- "Unambiguous": a dot, a call, an index or `?` is next
  abbrev dot : Bool
  dot = same next level.Unambiguous

  -- "Assign | Range"
  abbrev assigns : Bool
  assigns = same next level.Assign || same next level.Range

  -- the first test of Binary and of the prefix operators
  abbrev answered : Bool
  answered = pick dot (leb 2 fail && (consumes p next || leb 1 bailout)) (leb 1 bailout)

  unfoldable pub assign : Tree → Scans → Scan
  assign e scans =
      pick (pick dot (leb 2 fail) (leb 1 bailout)) Consume
      (by (scans (rightmost x false false level.Assign) level.Assign (pick dot fail 1) 1) (pick dot Fail Bailout) Consume Consume)

  unfoldable pub binary : Precedence → Tree → Scans → Scan
  binary q e scans =
      pick (answered || (same q level.Compare && same next level.Compare)) Consume
      (let y = rightmost x false false q in
      by (scans y q (pick dot fail 1) (bit_of (consumes p next)))
      (pick (not (same q level.Assign) && at_most (right_by e scans y) q) (consume_by p next) (pick dot Fail Bailout))
      (consume_by p next)
      Consume)

  unfoldable pub prefix : Tree → Scans → Scan
  prefix e scans =
      pick answered Consume
      (let y = rightmost x false false level.Prefix in
      by (scans y p (pick dot fail 1) (bit_of (consumes p next)))
      (pick (below (right_by e scans y) level.Prefix) (consume_by p next) (pick dot Fail Bailout))
      (consume_by p next)
      Consume)

  unfoldable pub range : Tree → Scans → Scan
  range e scans =
      pick (leb 2 fail) Consume
      (let y = rightmost x false true level.Range in
      let grouped = pick (at_most (right_by e scans y) level.Range) Consume Fail in
      by (scans y level.Range fail (pick assigns 0 1))
      grouped
      (pick assigns grouped Consume)
      Consume)

  -- Break, Return and Yield: by their first test, and by what rightmost_subexpression_fixup is told
  unfoldable pub jump : Bool → Bool → Tree → Scans → Scan
  jump early optional e scans = pick early Consume (by (scans (rightmost x true optional level.Jump) level.Jump 1 1) Bailout Consume Consume)

  -- the three without a value
  unfoldable pub bare_jump : Scan
  bare_jump = pick (same next level.Assign && below level.Assign p) Fail Consume

  -- the last line but one: after a Bailout the crate's two last answers are both Consume
  unfoldable pub lets : Tree → Scans → Scan
  lets e scans =
      pick (leb 1 bailout) Consume
      (let y = rightmost x false false level.Let in
      let looser = below next level.Let in
      by (scans y level.Let 1 (pick looser 0 1))
      (pick looser Bailout (pick (below (right_by e scans y) level.Let) Consume Bailout))
      (pick looser Bailout Consume)
      Consume)

  unfoldable pub closed : Scan
  closed = pick ((assigns && same p level.Range) || (same p level.Let && below next level.Let)) Fail (consume_by p next)

  -- "if e.attrs.is_empty()"
  abbrev guarded : Label → Scan → Scan
  guarded l arm = pick (eqb l.attributes 0) arm closed

  -- "Some(e) => .., None => .."; an arm without an operand that the crate always has answers as a closed form
  abbrev given : Tree → Scans → (Tree → Scans → Scan) → Scan → Scan
  given e scans arm absent = pick (is_there e) (arm e scans) absent

  -- the `match`, at a node with operands a and b, and the scans of those
  unfoldable pub scan_lines : Label → Tree → Scans → Tree → Scans → List (Line Scan)
  scan_lines l a first b second =
      line (expr_assign ∷ []) (guarded l (given b second assign closed)) ∷
      line (expr_binary ∷ []) (guarded l (given b second (binary (of_binop l.detail)) closed)) ∷
      line (expr_raw_addr ∷ expr_reference ∷ expr_unary ∷ []) (given a first prefix closed) ∷
      line (expr_range ∷ []) (guarded l (given b second range (pick x.next_operator_can_begin_expr Consume Fail))) ∷
      line (expr_break ∷ []) (given a first (jump (leb 1 bailout || (eqb l.detail 0 && leading_label a)) true) bare_jump) ∷
      line (expr_return ∷ expr_yield ∷ []) (given a first (jump (leb 1 bailout) false) bare_jump) ∷
      line (expr_closure ∷ []) Consume ∷
      line (expr_let ∷ []) (given a first lets closed) ∷
      line (expr_group ∷ []) (given a first (λ e scans. scans x p fail bailout) closed) ∷
      []

-- ---- scan_right and the precedences that ask it

unfoldable pub scan_right : Tree → Scans
scan_right none x p fail bailout = pick (parenthesize x none) (consume_by p x.next_operator) (closed x p fail bailout)
scan_right (node l a b) x p fail bailout =
    pick (parenthesize x (node l a b)) (consume_by p x.next_operator)
    (lookup (scan_lines x p fail bailout l a (scan_right a) b (scan_right b)) (closed x p fail bailout) l.form)

-- rightmost_subexpression_precedence
unfoldable pub rightmost_precedence : Tree → FixupContext → Precedence
rightmost_precedence t x = right_by t (scan_right t) x

-- leftmost_subexpression_precedence
unfoldable pub bails_out : Tree → FixupContext → Bool
bails_out t x =
    (not x.next_operator_can_begin_expr || same x.next_operator level.Range)
    && (by (scan_right t x level.Jump 0 0) false true false && scan_left t x)

unfoldable pub leftmost_precedence : Tree → FixupContext → Precedence
leftmost_precedence t x = pick (bails_out t x) level.Unambiguous (effective x t)
