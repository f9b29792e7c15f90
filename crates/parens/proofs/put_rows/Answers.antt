-- `parens::put_rows` meets its contract. Assumes nothing.
use mathlib.Core.Path.{refl}
use Rattle.parens.specs.Text.{accepted_text}
use Rattle.parens.proofs.Files.{rows_placed}
use borrow.Author.Rules.{rules}
use Rattle.parens.proofs.put_rows.Goals as goal

pub returns : goal.returns
unfolding accepted_text
returns c =
    let e = rows_placed c.args.context c.args.count c.args.table.now _ _ c.requires.0 c.requires.1 refl c.decide.ensures.rows in
    rw (← e) c.put_all.ensures
