-- `tree_one_pass::sound_levels` meets its contract. The loop's invariant: the nodes above the one that it has come to break no rule, and the array holds the marks of those that no owner has taken yet. Assumes nothing.
use mathlib.Core.Path.{◌≡◌, refl, ◌∙◌}
use Prim.Native.Nat.{◌+◌, ◌-◌, ◌≤◌}
use native.Mathlib.Omega.{arith}
use borrow.Author.Rules.{rules}
use lib.ListN.{length}
use borrow.Author.Tests.{not-false}
use Rattle.tree_source.specs.Source.{cells_of}
use Rattle.tree_one_pass.specs.Marks.{Marked}
use Rattle.tree_one_pass.proofs.Fine.{takes_length, first_most, second_most, second_size, length_more, marked_more, marked_none, by_levels_lem}
use Rattle.tree_one_pass.proofs.sound_levels.Goals as goal

pub loop-done-init : goal.loop-done-init
loop-done-init c = (refl, marked_none _ _ _ c.requires.3 c.requires.4)

pub mark_at-mark-requires : goal.mark_at-mark-requires
mark_at-mark-requires c =
    let e : c.loop-done.done - 1 + 1 ≡ c.loop-done.done = omega arith in
    let num = rw e at c.numbers_at-numbers.ensures in
    (c.numbers_at-numbers.ensures, first_most _ _ _ _ c.loop-done.invariant.1 (omega arith) (omega arith) c.requires.1 _ num.first _ _ c.take-one.ensures c.if-one-eq-TAKEN.false, second_most _ _ _ _ c.loop-done.invariant.1 (omega arith) (omega arith) c.requires.1 _ num.first _ _ c.take-one.ensures c.if-one-eq-TAKEN.false _ num.second _ _ c.take-two.ensures c.if-two-eq-TAKEN.false)

pub loop-done-preserved : goal.loop-done-preserved
loop-done-preserved c =
    let e : c.loop-done.done - 1 + 1 ≡ c.loop-done.done = omega arith in
    let num = rw e at c.numbers_at-numbers.ensures in
    let mark = rw e at c.mark_at-mark.ensures c.if-mark-eq0.false in
    rw (c.from.ensures, e) (
      length_more _ _ _ _ c.loop-done.invariant.1 (omega arith) (omega arith) c.requires.1 _ num.first _ _ c.take-one.ensures c.if-one-eq-TAKEN.false _ num.second _ _ c.take-two.ensures c.if-two-eq-TAKEN.false _ ∙ c.loop-done.invariant.0,
      marked_more _ _ _ _ c.loop-done.invariant.1 (omega arith) (omega arith) c.requires.1 _ num.first _ _ c.take-one.ensures c.if-one-eq-TAKEN.false _ num.second _ _ c.take-two.ensures c.if-two-eq-TAKEN.false _ mark c.if-mark-eq0.false,
    )

pub returns : goal.returns
returns c =
    let at_end : (Marked (cells_of c.args.source.now.file.now c.args.source.now.held.now) c.args.count 0 c.loop-done.marks) =
    let z : c.loop-done.done ≡ 0 = omega arith in
    rw z at c.loop-done.invariant.1 in
    by_levels_lem _ _ _ (at_end) c.requires.0 c.if-root-ne1.false (c.all_taken.ensures c.if-not-all_taken.false)
