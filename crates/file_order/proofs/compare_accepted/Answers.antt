-- `file_order::compare_accepted` meets its contract. Assumes nothing.
use Rattle.file_order.proofs.Checks.{no_header, head_is, nodes_formed, context_before, context_after, by_nodes}
use Rattle.file_order.proofs.compare_accepted.Goals as goal

pub returns-in_default : goal.returns-in_default
returns-in_default c = no_header _ c.requires.0 c.in_default.ensures.read

pub returns-in_default-read : goal.returns-in_default-read
returns-in_default-read c = no_header _ c.requires.1 c.in_default-read.ensures.read

pub returns-then-one-two : goal.returns-then-one-two
returns-then-one-two c = context_before _ _ _ _ (head_is _ c.requires.0 _ c.in-Some.ensures.read.0) (head_is _ c.requires.1 _ c.in-Some-read.ensures.read.0) c.if-one-two.true

pub returns-then-two-one : goal.returns-then-two-one
returns-then-two-one c = context_after _ _ _ _ (head_is _ c.requires.0 _ c.in-Some.ensures.read.0) (head_is _ c.requires.1 _ c.in-Some-read.ensures.read.0) c.if-two-one.true

pub compare_numbers-requires : goal.compare_numbers-requires
compare_numbers-requires c =
    rw (c.from-many.ensures, c.from-others.ensures)
    (nodes_formed _ c.requires.0 _ (head_is _ c.requires.0 _ c.in-Some.ensures.read.0), nodes_formed _ c.requires.1 _ (head_is _ c.requires.1 _ c.in-Some-read.ensures.read.0))

pub returns : goal.returns
returns c =
    by_nodes _ _ _ _ (head_is _ c.requires.0 _ c.in-Some.ensures.read.0) (head_is _ c.requires.1 _ c.in-Some-read.ensures.read.0) c.requires.0 c.requires.1 c.if-one-two.false c.if-two-one.false _
    (rw (c.from-many.ensures, c.from-others.ensures) at c.compare_numbers.ensures)
