-- `token_reader::numbering::measure_one` meets its contract. Assumes nothing.
use mathlib.Core.Path.{◌≡◌, sym}
use Prim.Native.Nat.{◌+◌, ◌-◌, ◌*◌, max}
use native.Mathlib.Omega.{arith}
use lib.ListN.{get_or}
use borrow.Author.Tests.{not-false}
use Rattle.laws.proofs.Choice.{true_not_false}
use Rattle.tree.specs.Sizes.{node_cells}
use Rattle.tree.specs.Table.{form_at, first_column, second_column}
use Rattle.tree.specs.Trees.{own_level}
use Rattle.tree_one_pass.proofs.Fine.{cell_form}
use Rattle.token_reader.specs.Mirrored.{Due}
use Rattle.token_reader.proofs.Mirrored.{InArrays, second_in, due_most, first_in, spans_most, one_more, heights_most}
use Rattle.token_reader.proofs.numbering.measure_one.Goals as goal

pub returns-then-not-is_due : goal.returns-then-not-is_due
returns-then-not-is_due c = λ e. true_not_false (sym e)

pub place_of-two-requires : goal.place_of-two-requires
place_of-two-requires c =
    let second : Due c.args.nodes (c.args.node + 1) (get_or c.args.own.now (node_cells * (c.args.node - 1) + second_column) 0) =
    c.is_due.ensures (not-false _ c.if-not-is_due.false-raw) in
    let second_here : InArrays c.args.base (get_or c.args.own.now (node_cells * (c.args.node - 1) + second_column) 0) c.args.spans.now c.args.heights.now =
    second_in c.requires.0 c.requires.1 c.requires.2 c.requires.3 second in
    second_here.behind

pub bounds-spans-two : goal.bounds-spans-two
bounds-spans-two c =
    let second : Due c.args.nodes (c.args.node + 1) (get_or c.args.own.now (node_cells * (c.args.node - 1) + second_column) 0) =
    c.is_due.ensures (not-false _ c.if-not-is_due.false-raw) in
    let second_here : InArrays c.args.base (get_or c.args.own.now (node_cells * (c.args.node - 1) + second_column) 0) c.args.spans.now c.args.heights.now =
    second_in c.requires.0 c.requires.1 c.requires.2 c.requires.3 second in
    rw c.place_of-two.ensures second_here.span_in

pub overflow_add-due-2 : goal.overflow_add-due-2
overflow_add-due-2 c =
    let second : Due c.args.nodes (c.args.node + 1) (get_or c.args.own.now (node_cells * (c.args.node - 1) + second_column) 0) =
    c.is_due.ensures (not-false _ c.if-not-is_due.false-raw) in
    let m = due_most c.requires.0 c.requires.1 c.requires.2 c.requires.3 second in
    rw c.place_of-two.ensures record { fits = omega (arith, m.1, c.requires.3) }

pub returns-then-not-is_due-2 : goal.returns-then-not-is_due-2
returns-then-not-is_due-2 c = λ e. true_not_false (sym e)

pub place_of-one-requires : goal.place_of-one-requires
place_of-one-requires c =
    let second : Due c.args.nodes (c.args.node + 1) (get_or c.args.own.now (node_cells * (c.args.node - 1) + second_column) 0) =
    c.is_due.ensures (not-false _ c.if-not-is_due.false-raw) in
    let first : Due c.args.nodes (c.args.node + 1 + get_or c.args.spans.now (get_or c.args.own.now (node_cells * (c.args.node - 1) + second_column) 0 - c.args.base) 0) (get_or c.args.own.now (node_cells * (c.args.node - 1) + first_column) 0) =
    rw c.place_of-two.ensures at (c.is_due-2.ensures (not-false _ c.if-not-is_due-2.false-raw)) in
    let first_here : InArrays c.args.base (get_or c.args.own.now (node_cells * (c.args.node - 1) + first_column) 0) c.args.spans.now c.args.heights.now =
    first_in c.requires.0 c.requires.1 c.requires.2 c.requires.3 second first in
    first_here.behind

pub bounds-heights-one : goal.bounds-heights-one
bounds-heights-one c =
    let second : Due c.args.nodes (c.args.node + 1) (get_or c.args.own.now (node_cells * (c.args.node - 1) + second_column) 0) =
    c.is_due.ensures (not-false _ c.if-not-is_due.false-raw) in
    let first : Due c.args.nodes (c.args.node + 1 + get_or c.args.spans.now (get_or c.args.own.now (node_cells * (c.args.node - 1) + second_column) 0 - c.args.base) 0) (get_or c.args.own.now (node_cells * (c.args.node - 1) + first_column) 0) =
    rw c.place_of-two.ensures at (c.is_due-2.ensures (not-false _ c.if-not-is_due-2.false-raw)) in
    let first_here : InArrays c.args.base (get_or c.args.own.now (node_cells * (c.args.node - 1) + first_column) 0) c.args.spans.now c.args.heights.now =
    first_in c.requires.0 c.requires.1 c.requires.2 c.requires.3 second first in
    rw c.place_of-one.ensures first_here.height_in

pub bounds-heights-two : goal.bounds-heights-two
bounds-heights-two c =
    let second : Due c.args.nodes (c.args.node + 1) (get_or c.args.own.now (node_cells * (c.args.node - 1) + second_column) 0) =
    c.is_due.ensures (not-false _ c.if-not-is_due.false-raw) in
    let second_here : InArrays c.args.base (get_or c.args.own.now (node_cells * (c.args.node - 1) + second_column) 0) c.args.spans.now c.args.heights.now =
    second_in c.requires.0 c.requires.1 c.requires.2 c.requires.3 second in
    rw c.place_of-two.ensures
    second_here.height_in

pub bounds-spans-one : goal.bounds-spans-one
bounds-spans-one c =
    let second : Due c.args.nodes (c.args.node + 1) (get_or c.args.own.now (node_cells * (c.args.node - 1) + second_column) 0) =
    c.is_due.ensures (not-false _ c.if-not-is_due.false-raw) in
    let first : Due c.args.nodes (c.args.node + 1 + get_or c.args.spans.now (get_or c.args.own.now (node_cells * (c.args.node - 1) + second_column) 0 - c.args.base) 0) (get_or c.args.own.now (node_cells * (c.args.node - 1) + first_column) 0) =
    rw c.place_of-two.ensures at (c.is_due-2.ensures (not-false _ c.if-not-is_due-2.false-raw)) in
    let first_here : InArrays c.args.base (get_or c.args.own.now (node_cells * (c.args.node - 1) + first_column) 0) c.args.spans.now c.args.heights.now =
    first_in c.requires.0 c.requires.1 c.requires.2 c.requires.3 second first in
    rw c.place_of-one.ensures first_here.span_in

pub overflow_add-spans : goal.overflow_add-spans
overflow_add-spans c =
    let second : Due c.args.nodes (c.args.node + 1) (get_or c.args.own.now (node_cells * (c.args.node - 1) + second_column) 0) =
    c.is_due.ensures (not-false _ c.if-not-is_due.false-raw) in
    let first : Due c.args.nodes (c.args.node + 1 + get_or c.args.spans.now (get_or c.args.own.now (node_cells * (c.args.node - 1) + second_column) 0 - c.args.base) 0) (get_or c.args.own.now (node_cells * (c.args.node - 1) + first_column) 0) =
    rw c.place_of-two.ensures at (c.is_due-2.ensures (not-false _ c.if-not-is_due-2.false-raw)) in
    let m = spans_most c.requires.0 c.requires.1 c.requires.2 c.requires.3 second first in
    rw (c.place_of-two.ensures, c.place_of-one.ensures) record { fits = omega (arith, c.requires.3) }

pub overflow_add-heights : goal.overflow_add-heights
overflow_add-heights c =
    let second : Due c.args.nodes (c.args.node + 1) (get_or c.args.own.now (node_cells * (c.args.node - 1) + second_column) 0) =
    c.is_due.ensures (not-false _ c.if-not-is_due.false-raw) in
    let first : Due c.args.nodes (c.args.node + 1 + get_or c.args.spans.now (get_or c.args.own.now (node_cells * (c.args.node - 1) + second_column) 0 - c.args.base) 0) (get_or c.args.own.now (node_cells * (c.args.node - 1) + first_column) 0) =
    rw c.place_of-two.ensures at (c.is_due-2.ensures (not-false _ c.if-not-is_due-2.false-raw)) in
    let height : (c.level_of.result + c.max-height.result
    ≡ own_level (form_at c.args.own.now c.args.node) + max (get_or c.args.heights.now (get_or c.args.own.now (node_cells * (c.args.node - 1) + first_column) 0 - c.args.base) 0) (get_or c.args.heights.now (get_or c.args.own.now (node_cells * (c.args.node - 1) + second_column) 0 - c.args.base) 0)) =
    rw (c.level_of.ensures, c.max-height.ensures, c.place_of-one.ensures, c.place_of-two.ensures, cell_form c.args.own.now c.args.node (omega (arith, c.requires.1))) in
    let m = heights_most c.requires.0 c.requires.1 c.requires.2 c.requires.3 second first in
    rw height record { fits = omega arith }

pub returns : goal.returns
returns c =
    let second : Due c.args.nodes (c.args.node + 1) (get_or c.args.own.now (node_cells * (c.args.node - 1) + second_column) 0) =
    c.is_due.ensures (not-false _ c.if-not-is_due.false-raw) in
    let first : Due c.args.nodes (c.args.node + 1 + get_or c.args.spans.now (get_or c.args.own.now (node_cells * (c.args.node - 1) + second_column) 0 - c.args.base) 0) (get_or c.args.own.now (node_cells * (c.args.node - 1) + first_column) 0) =
    rw c.place_of-two.ensures at (c.is_due-2.ensures (not-false _ c.if-not-is_due-2.false-raw)) in
    let height : (c.level_of.result + c.max-height.result
    ≡ own_level (form_at c.args.own.now c.args.node) + max (get_or c.args.heights.now (get_or c.args.own.now (node_cells * (c.args.node - 1) + first_column) 0 - c.args.base) 0) (get_or c.args.heights.now (get_or c.args.own.now (node_cells * (c.args.node - 1) + second_column) 0 - c.args.base) 0)) =
    rw (c.level_of.ensures, c.max-height.ensures, c.place_of-one.ensures, c.place_of-two.ensures, cell_form c.args.own.now c.args.node (omega (arith, c.requires.1))) in
    λ _. rw c.place_of-at.ensures (one_more c.requires.0 c.requires.1 c.requires.2 c.requires.3 second first _ _ (rw (c.place_of-one.ensures, c.place_of-two.ensures)) height)
