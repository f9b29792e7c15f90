-- `text::put_head` meets its contract. Assumes nothing.
use Rattle.text.specs.Numbers.{headed}
use Rattle.text.proofs.Growing.{grown_more}
use borrow.Author.Rules.{rules}
use Rattle.text.proofs.put_head.Goals as goal

pub returns : goal.returns
unfolding headed
returns c =
    let start = grown_more (grown_more c.put_byte-one.ensures c.put_byte-two.ensures) c.put_byte-three.ensures in
    grown_more (grown_more start c.put_number-end.ensures) c.put_byte.ensures
