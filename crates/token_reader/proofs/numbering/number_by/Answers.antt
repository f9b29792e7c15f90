-- `token_reader::numbering::number_by` meets its contract. Assumes nothing.
use mathlib.Core.Path.{◌≡◌}
use Prim.Native.Nat.{suc, ◌+◌, ◌≤◌}
use native.Mathlib.Omega.{arith}
use lib.ListN.{get_or}
use borrow.Author.Tests.{not-false}
use Rattle.tree.specs.Sizes.{most_tokens, most_nodes}
use Rattle.tree.specs.Trees.{tree_at, levels}
use Rattle.tree_numbering.specs.Numbered.{size}
use Rattle.tree_numbering.proofs.Replies.{too_deep, renumbers_too_short, all_stored}
use Rattle.token_reader.specs.Mirrored.{Measured}
use Rattle.token_reader.proofs.Mirrored.{root_span, root_few, root_height}
use Rattle.token_reader.proofs.numbering.number_by.Goals as goal

pub returns-then-not-measure : goal.returns-then-not-measure
returns-then-not-measure c =
    let u : c.args.base + 1 ≡ suc c.args.base = omega arith in
    record { reply = rw u at c.renumber.ensures.reply; out = rw u at c.renumber.ensures.out }

pub returns-then-heights-gt-MOST_LEVELS : goal.returns-then-heights-gt-MOST_LEVELS
returns-then-heights-gt-MOST_LEVELS c =
    let measured : (Measured c.args.own.now c.args.nodes c.args.base c.args.base c.measure.new.spans c.measure.new.heights) =
    c.measure.ensures (not-false _ c.if-not-measure.false-raw) in
    let root : (let t = tree_at c.args.own.now most_tokens (suc c.args.base) in
    (get_or c.measure.new.spans 1 0 ≡ size t) × (get_or c.measure.new.heights 1 0 ≡ levels t) × (size t ≤ most_nodes)) =
    let m = measured in (root_span m.sizes c.requires.2, root_height m c.requires.2, root_few m.sizes c.requires.2 c.requires.3) in
    let r = root in let whole = too_deep _ _ r.2 (omega (arith, r.1, c.if-heights-gt-MOST_LEVELS.true)) in
    record { reply = whole.0; out = whole.1 }

pub overflow_cast-count : goal.overflow_cast-count
overflow_cast-count c =
    let measured : (Measured c.args.own.now c.args.nodes c.args.base c.args.base c.measure.new.spans c.measure.new.heights) =
    c.measure.ensures (not-false _ c.if-not-measure.false-raw) in
    let root : (let t = tree_at c.args.own.now most_tokens (suc c.args.base) in
    (get_or c.measure.new.spans 1 0 ≡ size t) × (get_or c.measure.new.heights 1 0 ≡ levels t) × (size t ≤ most_nodes)) =
    let m = measured in (root_span m.sizes c.requires.2, root_height m c.requires.2, root_few m.sizes c.requires.2 c.requires.3) in
    let r = root in record { fits = omega (arith, r.0) }

pub overflow_mul-count : goal.overflow_mul-count
overflow_mul-count c =
    let measured : (Measured c.args.own.now c.args.nodes c.args.base c.args.base c.measure.new.spans c.measure.new.heights) =
    c.measure.ensures (not-false _ c.if-not-measure.false-raw) in
    let root : (let t = tree_at c.args.own.now most_tokens (suc c.args.base) in
    (get_or c.measure.new.spans 1 0 ≡ size t) × (get_or c.measure.new.heights 1 0 ≡ levels t) × (size t ≤ most_nodes)) =
    let m = measured in (root_span m.sizes c.requires.2, root_height m c.requires.2, root_few m.sizes c.requires.2 c.requires.3) in
    let r = root in record { fits = omega (arith, r.0) }

pub returns-then-out-count : goal.returns-then-out-count
returns-then-out-count c =
    let measured : (Measured c.args.own.now c.args.nodes c.args.base c.args.base c.measure.new.spans c.measure.new.heights) =
    c.measure.ensures (not-false _ c.if-not-measure.false-raw) in
    let root : (let t = tree_at c.args.own.now most_tokens (suc c.args.base) in
    (get_or c.measure.new.spans 1 0 ≡ size t) × (get_or c.measure.new.heights 1 0 ≡ levels t) × (size t ≤ most_nodes)) =
    let m = measured in (root_span m.sizes c.requires.2, root_height m c.requires.2, root_few m.sizes c.requires.2 c.requires.3) in
    let r = root in let whole = renumbers_too_short _ _ r.2 (omega (arith, r.1, c.if-heights-gt-MOST_LEVELS.false)) (omega (arith, r.0, c.if-out-count.true)) in
    record { reply = whole.0; out = whole.1 }

pub place-requires : goal.place-requires
place-requires c =
    let measured : (Measured c.args.own.now c.args.nodes c.args.base c.args.base c.measure.new.spans c.measure.new.heights) =
    c.measure.ensures (not-false _ c.if-not-measure.false-raw) in
    let root : (let t = tree_at c.args.own.now most_tokens (suc c.args.base) in
    (get_or c.measure.new.spans 1 0 ≡ size t) × (get_or c.measure.new.heights 1 0 ≡ levels t) × (size t ≤ most_nodes)) =
    let m = measured in (root_span m.sizes c.requires.2, root_height m c.requires.2, root_few m.sizes c.requires.2 c.requires.3) in
    let m = measured in
    let r = root in
    (m.sizes, c.requires.0, c.requires.1, c.requires.2, m.room, omega (arith, r.0, c.if-out-count.false))

pub returns : goal.returns
returns c =
    let measured : (Measured c.args.own.now c.args.nodes c.args.base c.args.base c.measure.new.spans c.measure.new.heights) =
    c.measure.ensures (not-false _ c.if-not-measure.false-raw) in
    let root : (let t = tree_at c.args.own.now most_tokens (suc c.args.base) in
    (get_or c.measure.new.spans 1 0 ≡ size t) × (get_or c.measure.new.heights 1 0 ≡ levels t) × (size t ≤ most_nodes)) =
    let m = measured in (root_span m.sizes c.requires.2, root_height m c.requires.2, root_few m.sizes c.requires.2 c.requires.3) in
    let r = root in
    let whole = all_stored _ _ r.2 (omega (arith, r.1, c.if-heights-gt-MOST_LEVELS.false)) (omega (arith, r.0, c.if-out-count.false)) _ _ (omega (arith, r.0), c.place.ensures) in
    record { reply = whole.0; out = whole.1 }
