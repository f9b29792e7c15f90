-- `file_loader::check_with` meets its contract. Assumes nothing.
use Rattle.std.proofs.Common.{arith, ◌≡◌, suc}
use Rattle.tree.specs.declared.refusal.Refusal.TheVariants.{Body}
use Rattle.file_loader.proofs.Replied.{refused_by}
use Rattle.file_loader.proofs.Files.{short_file, refused_body, trailing, checked, laid_cells}
use Rattle.file_loader.proofs.check_with.Goals as goal

pub lay_out-requires : goal.lay_out-requires
lay_out-requires c = (short_file _ c.requires.0.begun.short, omega (arith, c.from-others.ensures, c.requires.0.low, c.requires.1))

pub returns-in_default : goal.returns-in_default
returns-in_default c =
    let n : suc c.from-others.result ≡ c.args.header.count = omega (arith, c.from-others.ensures, c.requires.0.low) in
    refused_by _ Body tt (refused_body c.args.file.now c.args.header.context c.args.header.count c.args.header.body c.requires.0.begun (rw n at c.in_default.ensures.laid_out))

pub returns-then-end-file : goal.returns-then-end-file
returns-then-end-file c =
    let r = laid_cells c.args.file.now c.args.header.context c.args.header.count c.args.header.body c.requires.0 _ _ (rw c.from-others.ensures at c.in-Some.ensures.laid_out) in
    refused_by _ Body tt (trailing c.args.file.now c.args.header.context c.args.header.count c.args.header.body c.requires.0.begun _ _ r c.if-end-file.true)

pub returns : goal.returns
returns c =
    let r = laid_cells c.args.file.now c.args.header.context c.args.header.count c.args.header.body c.requires.0 _ _ (rw c.from-others.ensures at c.in-Some.ensures.laid_out) in
    let e = checked c.args.file.now c.args.header.context c.args.header.count c.args.header.body c.requires.0.begun _ _ r c.requires.0.ok c.requires.0.low c.requires.0.high (omega arith) in
    rw e (rw c.from-others.ensures at c.check_source.ensures)
