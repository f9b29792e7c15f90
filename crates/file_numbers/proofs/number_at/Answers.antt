-- `file_numbers::number_at` meets its contract. Assumes nothing.
use Rattle.std.proofs.Common.{arith, ◌∙◌, ◌+◌}
use Rattle.file_numbers.proofs.Groups.{nothing_left, one_byte, cut_after_one, zero_second, two_bytes, cut_after_two, zero_third, high_third, three_bytes}
use Rattle.file_numbers.proofs.number_at.Goals as goal
use Rattle.file_numbers.proofs.number_at.Goals.{then-high-eq0-via-then-high-eq0, then-high-eq0-via-else-high-eq0+then-high-gt3}

pub returns-in_err-get : goal.returns-in_err-get
returns-in_err-get c = c.from_residual.ensures ∙ nothing_left _ _ c.in_err-get.ensures.lookup.3

pub returns-then-low-lt128 : goal.returns-then-low-lt128
returns-then-low-lt128 c = one_byte _ _ _ (c.from-low.ensures ∙ c.in_ok-get.ensures.lookup.3.1 0) c.in_ok-get.ensures.lookup.3.0 c.if-low-lt128.true

pub returns-in_err-get-2 : goal.returns-in_err-get-2
returns-in_err-get-2 c =
    let low = c.from-low.ensures ∙ c.in_ok-get.ensures.lookup.3.1 0 in
    let b = c.type_inv.file c.args.at in
    c.from_residual-in_err-get-2.ensures ∙ cut_after_one _ _ _ low c.in_ok-get.ensures.lookup.3.0 c.if-low-lt128.false (omega (arith, low, b)) (omega (arith, c.in_err-get-2.ensures.lookup.3))

pub returns-then-middle-eq0 : goal.returns-then-middle-eq0
returns-then-middle-eq0 c =
    let low = c.from-low.ensures ∙ c.in_ok-get.ensures.lookup.3.1 0 in
    let middle = c.from-middle.ensures ∙ c.in_ok-get-2.ensures.lookup.3.1 0 in
    let b = c.type_inv.file c.args.at in
    zero_second _ _ _ low c.in_ok-get.ensures.lookup.3.0 c.if-low-lt128.false (omega (arith, low, b)) _ middle (omega (arith, c.in_ok-get-2.ensures.lookup.3.0)) c.if-middle-eq0.true

pub returns-then-middle-lt128 : goal.returns-then-middle-lt128
returns-then-middle-lt128 c =
    let low = c.from-low.ensures ∙ c.in_ok-get.ensures.lookup.3.1 0 in
    let middle = c.from-middle.ensures ∙ c.in_ok-get-2.ensures.lookup.3.1 0 in
    let b = c.type_inv.file c.args.at in
    two_bytes _ _ _ low c.in_ok-get.ensures.lookup.3.0 c.if-low-lt128.false (omega (arith, low, b)) _ middle (omega (arith, c.in_ok-get-2.ensures.lookup.3.0)) c.if-middle-eq0.false c.if-middle-lt128.true

pub returns-in_err-get-3 : goal.returns-in_err-get-3
returns-in_err-get-3 c =
    let low = c.from-low.ensures ∙ c.in_ok-get.ensures.lookup.3.1 0 in
    let middle = c.from-middle.ensures ∙ c.in_ok-get-2.ensures.lookup.3.1 0 in
    let b = c.type_inv.file c.args.at in
    let d = c.type_inv.file (c.args.at + 1) in
    c.from_residual-in_err-get-3.ensures ∙ cut_after_two _ _ _ low c.in_ok-get.ensures.lookup.3.0 c.if-low-lt128.false (omega (arith, low, b)) _ middle (omega (arith, c.in_ok-get-2.ensures.lookup.3.0)) c.if-middle-lt128.false (omega (arith, middle, d)) (omega (arith, c.in_err-get-3.ensures.lookup.3))

pub returns-then-high-eq0 : goal.returns-then-high-eq0
returns-then-high-eq0 c =
    let low = c.from-low.ensures ∙ c.in_ok-get.ensures.lookup.3.1 0 in
    let middle = c.from-middle.ensures ∙ c.in_ok-get-2.ensures.lookup.3.1 0 in
    let high = c.from-high.ensures ∙ c.in_ok-get-3.ensures.lookup.3.1 0 in
    let b = c.type_inv.file c.args.at in
    let d = c.type_inv.file (c.args.at + 1) in
    elim c.then-high-eq0.branch [
      | then-high-eq0-via-then-high-eq0 w ↦ zero_third _ _ _ low c.in_ok-get.ensures.lookup.3.0 c.if-low-lt128.false (omega (arith, low, b)) _ middle (omega (arith, c.in_ok-get-2.ensures.lookup.3.0)) c.if-middle-lt128.false (omega (arith, middle, d)) _ high (omega (arith, c.in_ok-get-3.ensures.lookup.3.0)) w.if-high-eq0.true
      | then-high-eq0-via-else-high-eq0+then-high-gt3 w ↦ high_third _ _ _ low c.in_ok-get.ensures.lookup.3.0 c.if-low-lt128.false (omega (arith, low, b)) _ middle (omega (arith, c.in_ok-get-2.ensures.lookup.3.0)) c.if-middle-lt128.false (omega (arith, middle, d)) _ high (omega (arith, c.in_ok-get-3.ensures.lookup.3.0)) w.if-high-gt3.true
    ]

pub returns : goal.returns
returns c =
    let low = c.from-low.ensures ∙ c.in_ok-get.ensures.lookup.3.1 0 in
    let middle = c.from-middle.ensures ∙ c.in_ok-get-2.ensures.lookup.3.1 0 in
    let high = c.from-high.ensures ∙ c.in_ok-get-3.ensures.lookup.3.1 0 in
    let b = c.type_inv.file c.args.at in
    let d = c.type_inv.file (c.args.at + 1) in
    three_bytes _ _ _ low c.in_ok-get.ensures.lookup.3.0 c.if-low-lt128.false (omega (arith, low, b)) _ middle (omega (arith, c.in_ok-get-2.ensures.lookup.3.0)) c.if-middle-lt128.false (omega (arith, middle, d)) _ high (omega (arith, c.in_ok-get-3.ensures.lookup.3.0)) c.if-high-eq0.false c.if-high-gt3.false
