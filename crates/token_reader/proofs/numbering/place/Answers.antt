-- `token_reader::numbering::place` meets its contract. The loop's invariant: the nodes that are left lead to the whole tree's cells. Assumes nothing.
use mathlib.Core.Path.{◌≡◌, refl, ◌∙◌}
use Prim.Native.Nat.{suc, ◌+◌, ◌-◌}
use native.Mathlib.Omega.{arith}
use lib.ListN.{get_or, length-set}
use Rattle.tree.specs.Sizes.{most_tokens}
use Rattle.tree.specs.Trees.{tree_at}
use Rattle.tree_numbering.specs.Numbered.{size}
use Rattle.token_reader.proofs.Mirrored.{leads_start, leads_step, leads_end, root_span, root_most, placeable}
use Rattle.token_reader.proofs.numbering.place.Goals as goal

pub bounds-numbers-1 : goal.bounds-numbers-1
bounds-numbers-1 c = omega (arith, c.requires.3, c.requires.4)

pub bounds-spans-1 : goal.bounds-spans-1
bounds-spans-1 c = omega (arith, c.requires.3)

pub overflow_add-end : goal.overflow_add-end
overflow_add-end c =
    let r = root_span c.requires.0 c.requires.3 in
    let w = root_most c.requires.0 c.requires.3 in
    record { fits = omega (arith, c.requires.2) }

pub loop-done-init : goal.loop-done-init
loop-done-init c =
    let r = root_span c.requires.0 c.requires.3 in
    let z : c.args.base + get_or c.args.spans.now 1 0 - c.args.base ≡ size (tree_at c.args.own.now most_tokens (suc c.args.base)) = omega (arith, r) in
    (refl, refl, rw z (leads_start c.requires.0 c.requires.3 c.args.numbers.now c.args.out.now c.requires.4))

pub place_one-requires : goal.place_one-requires
place_one-requires c =
    let r = root_span c.requires.0 c.requires.3 in
    let z : c.args.base + get_or c.args.spans.now 1 0 - c.loop-done.done ≡ suc (c.args.base + get_or c.args.spans.now 1 0 - suc c.loop-done.done) = omega arith in
    let g = leads_step _ _ _ _ _ _ c.loop-done.done _ _ _ z c.loop-done.invariant.2 in
    placeable c.requires.0 c.requires.3 c.loop-done.done _ _ c.requires.1 c.requires.2 (omega arith) (omega (arith, r)) (omega (arith, c.requires.4, c.loop-done.invariant.0, length-set c.args.numbers.now 1 1)) (omega (arith, c.requires.5, c.loop-done.invariant.1)) g.0 g.1

pub loop-done-preserved : goal.loop-done-preserved
loop-done-preserved c =
    let r = root_span c.requires.0 c.requires.3 in
    let z : c.args.base + get_or c.args.spans.now 1 0 - c.loop-done.done ≡ suc (c.args.base + get_or c.args.spans.now 1 0 - suc c.loop-done.done) = omega arith in
    let g = leads_step _ _ _ _ _ _ c.loop-done.done _ _ _ z c.loop-done.invariant.2 in
    let y : c.loop-done.done + 1 ≡ suc c.loop-done.done = omega arith in
    (c.place_one.auto.numbers ∙ c.loop-done.invariant.0, c.place_one.auto.out ∙ c.loop-done.invariant.1, rw (c.place_one.ensures.numbers, c.place_one.ensures.out, y) g.2)

pub returns : goal.returns
returns c = leads_end _ _ _ _ _ _ _ _ _ (omega arith) c.loop-done.invariant.2
