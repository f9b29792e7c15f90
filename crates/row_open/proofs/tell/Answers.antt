-- `row_open::tell` meets its contract. Assumes nothing.
use mathlib.Core.Path.{◌≡◌, refl, sym, ap, ◌∙◌}
use Prim.Native.Nat.{ℕ, ◌*◌}
use lib.ListN.{take, replicate}
use Rattle.laws.specs.Lists.{over}
use Rattle.tree.specs.Sizes.{node_cells}
use Rattle.row_open.specs.Steps.{unasked}
use Rattle.row_open.specs.Open.{entries_in}
use Rattle.row_open.proofs.Replies.{taken_good, taken_within, moved_room, length_copied, length_asked}
use Rattle.row_open.proofs.Shallow.{shallow_copied}
use Rattle.row_open.proofs.Told.{tells}
use Rattle.row_open.proofs.tell.Goals as goal

pub vary-requires : goal.vary-requires
vary-requires c =
    let k : c.copy.new.to ≡ over (take (node_cells * c.args.count) c.args.table.now) c.args.own.now =
    c.copy.ensures ∙ ap (λ (n : ℕ). over (take (node_cells * n) c.args.table.now) c.args.own.now) c.from-nodes.ensures in
    let f : c.fill.new.buffer ≡ over (replicate c.args.count unasked) c.args.answers.now =
    c.fill.ensures ∙ ap (λ (n : ℕ). over (replicate n unasked) c.args.answers.now) c.from-nodes.ensures in
    let t = length_copied c.args.count c.args.table.now c.args.own.now _ c.requires.1.nodes c.requires.0.nodes k in
    (moved_room c.requires.0 (sym t) refl (sym (length_asked c.args.count c.args.answers.now _ c.requires.0.told f)), taken_within c.requires.1 _ (rw t c.requires.0.nodes), shallow_copied c.args.count c.args.table.now c.args.own.now _ c.requires.1.nodes k c.requires.1.shallow)

pub returns : goal.returns
returns c =
    let k : c.copy.new.to ≡ over (take (node_cells * c.args.count) c.args.table.now) c.args.own.now =
    c.copy.ensures ∙ ap (λ (n : ℕ). over (take (node_cells * n) c.args.table.now) c.args.own.now) c.from-nodes.ensures in
    let f : c.fill.new.buffer ≡ over (replicate c.args.count unasked) c.args.answers.now =
    c.fill.ensures ∙ ap (λ (n : ℕ). over (replicate n unasked) c.args.answers.now) c.from-nodes.ensures in
    c.vary.ensures.told
    ∙ tells c.args.order c.args.context c.args.count (entries_in c.args.entered c.args.entries.now) c.args.table.now c.args.own.now _ (taken_good c.requires.1) c.requires.1.nodes c.requires.0.nodes k c.args.answers.now _ c.requires.0.told f
