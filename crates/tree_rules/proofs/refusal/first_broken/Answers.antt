-- `tree_rules::refusal::first_broken` meets its contract. Assumes nothing.
use mathlib.Core.Path.{◌≡◌, sym, ◌∙◌}
use mathlib.Core.List.{List}
use native.Mathlib.Omega.{arith}
use lib.ListN.{take, drop}
use borrow.Author.Tests.{eq-eqb, ne_eqb}
use Rattle.laws.specs.Each.{some}
use Rattle.laws.proofs.Calls.{free}
use Rattle.tree_source.specs.Source.{cells_of}
use Rattle.tree_rules.specs.Refusals.{Refusal, refusal7, bad_owner, refusal8, refusal9, refusal10, first_of, node_refusals}
use Rattle.tree_rules.specs.Passes.{ruled, BrokenBy}
use Rattle.laws.specs.Choice.{pick, lookup}
use Rattle.tree.specs.Replies.{replied, refusals}
use Rattle.tree_rules.proofs.Replied.{says}
use Rattle.tree_rules.proofs.First.{stop, skip, no_more}
use Rattle.tree_rules.proofs.Broken.{owned_by}
use borrow.Author.Rules.{rules}
use Rattle.tree_rules.proofs.refusal.first_broken.Goals as goal

pub returns-then-broken : goal.returns-then-broken
unfolding node_refusals replied refusals lookup pick
returns-then-broken c = says 6 tt (sym (stop _ _ (sym c.broken_rules-broken.ensures.numbers_value ∙ c.if-broken.true)))

pub returns-then-class_of-ne1 : goal.returns-then-class_of-ne1
unfolding node_refusals refusal7 replied refusals lookup pick
returns-then-class_of-ne1 c =
    let past_6 : (first_of ((take ruled (node_refusals c.args.count (cells_of c.args.source.now.file.now c.args.source.now.held.now)))) ≡ first_of (drop 1 ((take ruled (node_refusals c.args.count (cells_of c.args.source.now.file.now c.args.source.now.held.now)))))) =
    skip _ _ (sym c.broken_rules-broken.ensures.numbers_value ∙ c.if-broken.false) in
    says 7 tt (sym (past_6 ∙ stop _ _ (rw (← c.form_at.ensures, ← c.class_of.ensures, ne_eqb _ _ c.if-class_of-ne1.true))))

pub returns-then-broken-2 : goal.returns-then-broken-2
unfolding node_refusals refusal7 replied refusals lookup pick
returns-then-broken-2 c =
    let known : (let cells = cells_of c.args.source.now.file.now c.args.source.now.held.now in BrokenBy cells c.args.count c.args.count c.broken_rules-broken.result) =
    (c.broken_rules-broken.ensures.broken_by c.if-broken.false).0 in
    let past_6 : (first_of ((take ruled (node_refusals c.args.count (cells_of c.args.source.now.file.now c.args.source.now.held.now)))) ≡ first_of (drop 1 ((take ruled (node_refusals c.args.count (cells_of c.args.source.now.file.now c.args.source.now.held.now)))))) =
    skip _ _ (sym c.broken_rules-broken.ensures.numbers_value ∙ c.if-broken.false) in
    says 7 tt (sym (past_6
    ∙ stop _ _ (rw (← c.form_at.ensures, ← c.class_of.ensures, eq-eqb _ _ c.if-class_of-ne1.false) (sym (known).operands ∙ c.if-broken-2.true))))

pub returns-then-broken-3 : goal.returns-then-broken-3
unfolding node_refusals refusal8 refusal7 replied refusals lookup pick
returns-then-broken-3 c =
    let known : (let cells = cells_of c.args.source.now.file.now c.args.source.now.held.now in BrokenBy cells c.args.count c.args.count c.broken_rules-broken.result) =
    (c.broken_rules-broken.ensures.broken_by c.if-broken.false).0 in
    let past_6 : (first_of ((take ruled (node_refusals c.args.count (cells_of c.args.source.now.file.now c.args.source.now.held.now)))) ≡ first_of (drop 1 ((take ruled (node_refusals c.args.count (cells_of c.args.source.now.file.now c.args.source.now.held.now)))))) =
    skip _ _ (sym c.broken_rules-broken.ensures.numbers_value ∙ c.if-broken.false) in
    let past_7 : (let rs = (take ruled (node_refusals c.args.count (cells_of c.args.source.now.file.now c.args.source.now.held.now))) in first_of rs ≡ first_of (drop 2 rs)) =
    past_6
    ∙ skip _ _ (rw (← c.form_at.ensures, ← c.class_of.ensures, eq-eqb _ _ c.if-class_of-ne1.false) (sym (known).operands ∙ c.if-broken-2.false)) in
    says 8 tt (sym (past_7 ∙ stop _ _ (rw (← (known).order, c.if-broken-3.true))))

pub returns-then-some_badly_owned : goal.returns-then-some_badly_owned
unfolding node_refusals refusal8 refusal7 replied refusals lookup pick
returns-then-some_badly_owned c =
    let known : (let cells = cells_of c.args.source.now.file.now c.args.source.now.held.now in BrokenBy cells c.args.count c.args.count c.broken_rules-broken.result) =
    (c.broken_rules-broken.ensures.broken_by c.if-broken.false).0 in
    let past_6 : (first_of ((take ruled (node_refusals c.args.count (cells_of c.args.source.now.file.now c.args.source.now.held.now)))) ≡ first_of (drop 1 ((take ruled (node_refusals c.args.count (cells_of c.args.source.now.file.now c.args.source.now.held.now)))))) =
    skip _ _ (sym c.broken_rules-broken.ensures.numbers_value ∙ c.if-broken.false) in
    let past_7 : (let rs = (take ruled (node_refusals c.args.count (cells_of c.args.source.now.file.now c.args.source.now.held.now))) in first_of rs ≡ first_of (drop 2 rs)) =
    past_6
    ∙ skip _ _ (rw (← c.form_at.ensures, ← c.class_of.ensures, eq-eqb _ _ c.if-class_of-ne1.false) (sym (known).operands ∙ c.if-broken-2.false)) in
    let owned : (c.some_badly_owned.result ≡ some (bad_owner (cells_of c.args.source.now.file.now c.args.source.now.held.now) c.args.count) c.args.count) =
    c.some_badly_owned.ensures ∙ owned_by _ _ _ (c.broken_rules-broken.ensures.broken_by c.if-broken.false).1 (omega arith) in
    says 8 tt (sym (past_7 ∙ stop _ _ (rw (← (known).order, c.if-broken-3.false) (sym (owned) ∙ c.if-some_badly_owned.true))))

pub returns-then-broken-4 : goal.returns-then-broken-4
unfolding node_refusals refusal9 refusal7 refusal8 replied refusals lookup pick
returns-then-broken-4 c =
    let known : (let cells = cells_of c.args.source.now.file.now c.args.source.now.held.now in BrokenBy cells c.args.count c.args.count c.broken_rules-broken.result) =
    (c.broken_rules-broken.ensures.broken_by c.if-broken.false).0 in
    let past_6 : (first_of ((take ruled (node_refusals c.args.count (cells_of c.args.source.now.file.now c.args.source.now.held.now)))) ≡ first_of (drop 1 ((take ruled (node_refusals c.args.count (cells_of c.args.source.now.file.now c.args.source.now.held.now)))))) =
    skip _ _ (sym c.broken_rules-broken.ensures.numbers_value ∙ c.if-broken.false) in
    let past_7 : (let rs = (take ruled (node_refusals c.args.count (cells_of c.args.source.now.file.now c.args.source.now.held.now))) in first_of rs ≡ first_of (drop 2 rs)) =
    past_6
    ∙ skip _ _ (rw (← c.form_at.ensures, ← c.class_of.ensures, eq-eqb _ _ c.if-class_of-ne1.false) (sym (known).operands ∙ c.if-broken-2.false)) in
    let owned : (c.some_badly_owned.result ≡ some (bad_owner (cells_of c.args.source.now.file.now c.args.source.now.held.now) c.args.count) c.args.count) =
    c.some_badly_owned.ensures ∙ owned_by _ _ _ (c.broken_rules-broken.ensures.broken_by c.if-broken.false).1 (omega arith) in
    let past_8 : (let rs = (take ruled (node_refusals c.args.count (cells_of c.args.source.now.file.now c.args.source.now.held.now))) in first_of rs ≡ first_of (drop 3 rs)) =
    past_7
    ∙ skip _ _ (rw (← (known).order, c.if-broken-3.false) (sym (owned) ∙ c.if-some_badly_owned.false)) in
    says 9 tt (sym (past_8 ∙ stop _ _ (sym (known).empties ∙ c.if-broken-4.true)))

pub returns-then-broken-5 : goal.returns-then-broken-5
unfolding node_refusals refusal10 refusal7 refusal8 refusal9 replied refusals lookup pick
returns-then-broken-5 c =
    let known : (let cells = cells_of c.args.source.now.file.now c.args.source.now.held.now in BrokenBy cells c.args.count c.args.count c.broken_rules-broken.result) =
    (c.broken_rules-broken.ensures.broken_by c.if-broken.false).0 in
    let past_6 : (first_of ((take ruled (node_refusals c.args.count (cells_of c.args.source.now.file.now c.args.source.now.held.now)))) ≡ first_of (drop 1 ((take ruled (node_refusals c.args.count (cells_of c.args.source.now.file.now c.args.source.now.held.now)))))) =
    skip _ _ (sym c.broken_rules-broken.ensures.numbers_value ∙ c.if-broken.false) in
    let past_7 : (let rs = (take ruled (node_refusals c.args.count (cells_of c.args.source.now.file.now c.args.source.now.held.now))) in first_of rs ≡ first_of (drop 2 rs)) =
    past_6
    ∙ skip _ _ (rw (← c.form_at.ensures, ← c.class_of.ensures, eq-eqb _ _ c.if-class_of-ne1.false) (sym (known).operands ∙ c.if-broken-2.false)) in
    let owned : (c.some_badly_owned.result ≡ some (bad_owner (cells_of c.args.source.now.file.now c.args.source.now.held.now) c.args.count) c.args.count) =
    c.some_badly_owned.ensures ∙ owned_by _ _ _ (c.broken_rules-broken.ensures.broken_by c.if-broken.false).1 (omega arith) in
    let past_8 : (let rs = (take ruled (node_refusals c.args.count (cells_of c.args.source.now.file.now c.args.source.now.held.now))) in first_of rs ≡ first_of (drop 3 rs)) =
    past_7
    ∙ skip _ _ (rw (← (known).order, c.if-broken-3.false) (sym (owned) ∙ c.if-some_badly_owned.false)) in
    let past_9 : (let rs = (take ruled (node_refusals c.args.count (cells_of c.args.source.now.file.now c.args.source.now.held.now))) in first_of rs ≡ first_of (drop 4 rs)) =
    past_8 ∙ skip _ _ (sym (known).empties ∙ c.if-broken-4.false) in
    says 10 tt (sym (past_9 ∙ stop _ _ (sym (known).output ∙ c.if-broken-5.true)))

pub returns : goal.returns
unfolding node_refusals refusal10 refusal7 refusal8 refusal9 replied refusals lookup pick
returns c =
    let known : (let cells = cells_of c.args.source.now.file.now c.args.source.now.held.now in BrokenBy cells c.args.count c.args.count c.broken_rules-broken.result) =
    (c.broken_rules-broken.ensures.broken_by c.if-broken.false).0 in
    let past_6 : (first_of ((take ruled (node_refusals c.args.count (cells_of c.args.source.now.file.now c.args.source.now.held.now)))) ≡ first_of (drop 1 ((take ruled (node_refusals c.args.count (cells_of c.args.source.now.file.now c.args.source.now.held.now)))))) =
    skip _ _ (sym c.broken_rules-broken.ensures.numbers_value ∙ c.if-broken.false) in
    let past_7 : (let rs = (take ruled (node_refusals c.args.count (cells_of c.args.source.now.file.now c.args.source.now.held.now))) in first_of rs ≡ first_of (drop 2 rs)) =
    past_6
    ∙ skip _ _ (rw (← c.form_at.ensures, ← c.class_of.ensures, eq-eqb _ _ c.if-class_of-ne1.false) (sym (known).operands ∙ c.if-broken-2.false)) in
    let owned : (c.some_badly_owned.result ≡ some (bad_owner (cells_of c.args.source.now.file.now c.args.source.now.held.now) c.args.count) c.args.count) =
    c.some_badly_owned.ensures ∙ owned_by _ _ _ (c.broken_rules-broken.ensures.broken_by c.if-broken.false).1 (omega arith) in
    let past_8 : (let rs = (take ruled (node_refusals c.args.count (cells_of c.args.source.now.file.now c.args.source.now.held.now))) in first_of rs ≡ first_of (drop 3 rs)) =
    past_7
    ∙ skip _ _ (rw (← (known).order, c.if-broken-3.false) (sym (owned) ∙ c.if-some_badly_owned.false)) in
    let past_9 : (let rs = (take ruled (node_refusals c.args.count (cells_of c.args.source.now.file.now c.args.source.now.held.now))) in first_of rs ≡ first_of (drop 4 rs)) =
    past_8 ∙ skip _ _ (sym (known).empties ∙ c.if-broken-4.false) in
    says 0 tt (sym (past_9 ∙ skip _ _ (sym (known).output ∙ c.if-broken-5.false) ∙ no_more))
