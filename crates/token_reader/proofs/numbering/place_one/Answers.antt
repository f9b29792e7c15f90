-- `token_reader::numbering::place_one` meets its contract. Assumes nothing.
use mathlib.Core.Path.{◌≡◌, ◌∙◌}
use Prim.Native.Nat.{suc, ◌+◌, ◌-◌}
use native.Mathlib.Omega.{arith}
use lib.ListN.{length-set}
use Rattle.tree.specs.Table.{cell_at}
use Rattle.token_reader.proofs.numbering.place_one.Goals as goal

pub place_of-one-requires : goal.place_of-one-requires
unfolding cell_at
place_of-one-requires c = c.requires.first_behind

pub place_of-two-requires : goal.place_of-two-requires
unfolding cell_at
place_of-two-requires c = c.requires.second_behind

pub overflow_add-after : goal.overflow_add-after
unfolding cell_at
overflow_add-after c =
    let own_place : (c.place_of-at.result ≡ suc c.args.done - c.args.base) =
    omega (arith, c.place_of-at.ensures) in
    rw (own_place) record { fits = omega (arith, c.requires.after) }

pub bounds-spans-one : goal.bounds-spans-one
unfolding cell_at
bounds-spans-one c = rw c.place_of-one.ensures c.requires.span_here

pub overflow_add-after-2 : goal.overflow_add-after-2
unfolding cell_at
overflow_add-after-2 c =
    let own_place : (c.place_of-at.result ≡ suc c.args.done - c.args.base) =
    omega (arith, c.place_of-at.ensures) in
    rw (own_place, c.place_of-one.ensures) record { fits = omega (arith, c.requires.after) }

pub overflow_add-numbers : goal.overflow_add-numbers
unfolding cell_at
overflow_add-numbers c =
    let own_place : (c.place_of-at.result ≡ suc c.args.done - c.args.base) =
    omega (arith, c.place_of-at.ensures) in
    rw (own_place) record { fits = omega (arith, c.requires.after) }

pub bounds-numbers-one : goal.bounds-numbers-one
unfolding cell_at
bounds-numbers-one c = rw c.place_of-one.ensures c.requires.first_here

pub bounds-numbers-two : goal.bounds-numbers-two
unfolding cell_at
bounds-numbers-two c = rw c.place_of-two.ensures (simp length-set c.requires.second_here)

pub overflow_add-number : goal.overflow_add-number
unfolding cell_at
overflow_add-number c =
    let own_place : (c.place_of-at.result ≡ suc c.args.done - c.args.base) =
    omega (arith, c.place_of-at.ensures) in
    rw (own_place) record { fits = omega (arith, c.requires.after) }

pub put-requires : goal.put-requires
unfolding cell_at
put-requires c =
    let own_place : (c.place_of-at.result ≡ suc c.args.done - c.args.base) =
    omega (arith, c.place_of-at.ensures) in
    let q = own_place in
    (omega arith, omega (arith, c.requires.cells), rw q c.requires.low, rw q c.requires.room)

pub returns : goal.returns
unfolding cell_at
returns c =
    let own_place : (c.place_of-at.result ≡ suc c.args.done - c.args.base) =
    omega (arith, c.place_of-at.ensures) in
    let q = own_place in
    let u : c.args.done + 1 ≡ suc c.args.done = omega arith in
    record {
      numbers = rw (q, c.place_of-one.ensures, c.place_of-two.ensures);
      out = c.put.ensures ∙ rw (c.number_of.ensures, c.number_of-2.ensures, q, c.place_of-one.ensures, u);
    }
