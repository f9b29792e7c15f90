-- `token_writer::write_within` meets its contract. Assumes nothing.
use Rattle.std.proofs.Common.{◌/◌, ap, ap₂, ◌∙◌, arith}
use Rattle.laws.proofs.Putting.{put_over}
use Rattle.tree.specs.Sizes.{token_cells}
use Rattle.token_writer.specs.Writes.{counted}
use Rattle.token_writer.proofs.write_within.Goals as goal

pub write_tree-requires : goal.write_tree-requires
write_tree-requires g c = rw c.root_place-here.ensures.0 (rw c.root_place-here.ensures.0 at c.root_place-here.ensures.1, omega (arith, c.requires.0), c.requires.3, c.requires.2, c.requires.5)

pub told-requires : goal.told-requires
told-requires g c =
    let w = rw c.root_place-here.ensures.0 at c.write_tree.ensures.0 in
    omega (arith, w.ends, c.requires.4)

pub returns : goal.returns
returns g c =
    let w = rw c.root_place-here.ensures.0 at c.write_tree.ensures in
    record {
      reply = c.told.ensures ∙ ap₂ counted w.1 (ap (λ n. n / token_cells) (w.0.ends ∙ omega arith));
      tokens = put_over w.0 c.requires.3;
    }
