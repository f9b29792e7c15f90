-- `tree_rules::refusal::broken_rules` meets its contract. Assumes nothing.
use mathlib.Core.Path.{◌≡◌, refl, sym, ◌∙◌}
use mathlib.Core.Bool.{false}
use Prim.Native.Nat.{◌+◌, ◌-◌, ◌≤◌}
use native.Mathlib.Omega.{arith}
use lib.ListN.{length}
use Rattle.laws.specs.Each.{some}
use Rattle.laws.proofs.Each.{some_more, some_found}
use Rattle.laws.proofs.Choice.{true_not_false}
use Rattle.laws.proofs.Calls.{free}
use Rattle.tree_source.specs.Source.{cells_of}
use Rattle.tree_rules.specs.Refusals.{bad_numbers, refusal6}
use Rattle.tree_rules.specs.Passes.{BrokenBy, Counted}
use Rattle.tree_rules.proofs.Owners.{length_counted, room_first, room_second, counted_more}
use Rattle.tree_rules.proofs.Broken.{numbers_by, broken_none, broken_more}
use Rattle.tree_rules.proofs.refusal.broken_rules.Goals as goal

pub loop-done-init : goal.loop-done-init
unfolding some
loop-done-init c = (refl, c.requires.1, refl, refl, broken_none _ _ _ refl refl refl refl)

pub count_owner-requires : goal.count_owner-requires
count_owner-requires c = room_first _ _ _ c.loop-done.invariant.1 (omega arith) _

pub count_owner-requires-in-loop-done : goal.count_owner-requires-in-loop-done
count_owner-requires-in-loop-done c = rw c.count_owner.ensures (room_second _ _ _ c.loop-done.invariant.1 (omega arith) _ _)

pub loop-done-preserved : goal.loop-done-preserved
loop-done-preserved c =
    let b = c.has_bad_numbers.ensures ∙ numbers_by _ _ _ c.node_at-numbers.ensures in (
      rw (c.count_owner-in-loop-done.ensures, c.count_owner.ensures) (length_counted _ _ ∙ length_counted _ _ ∙ c.loop-done.invariant.0),
      rw (c.count_owner-in-loop-done.ensures, c.count_owner.ensures, c.node_at-numbers.ensures.second, c.node_at-numbers.ensures.first) (counted_more _ _ _ c.loop-done.invariant.1),
      some_more _ c.loop-done.done c.loop-done.invariant.2 (sym b ∙ c.if-has_bad_numbers.false),
      c.broken_with-broken.ensures.numbers,
      broken_more _ _ c.loop-done.done _ c.node_at-numbers.ensures _ _ c.broken_with-broken.ensures c.loop-done.invariant.4,
    )

pub returns-then-has_bad_numbers : goal.returns-then-has_bad_numbers
unfolding refusal6
returns-then-has_bad_numbers c =
    let b = c.has_bad_numbers.ensures ∙ numbers_by _ _ _ c.node_at-numbers.ensures in
    record {
      numbers_value = sym (some_found _ _ (c.loop-done.done + 1) (omega arith) (omega arith) (sym b ∙ c.if-has_bad_numbers.true));
      broken_by = λ e. true_not_false e;
      owners_len_unchanged = c.loop-done.invariant.0;
    }

pub returns : goal.returns
unfolding refusal6
returns c =
    let e : c.loop-done.done ≡ c.args.count = omega arith in
    record {
      numbers_value = c.loop-done.invariant.3 ∙ sym (rw e at c.loop-done.invariant.2);
      broken_by = λ h. (rw e at c.loop-done.invariant.4, rw e at c.loop-done.invariant.1);
      owners_len_unchanged = c.loop-done.invariant.0;
    }
