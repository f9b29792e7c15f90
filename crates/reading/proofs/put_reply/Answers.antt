-- `reading::put_reply` meets its contract. Assumes nothing.
use native.Mathlib.Omega.{arith}
use Rattle.text.proofs.Growing.{fits, whole}
use Rattle.text.proofs.Spaces.{no_most}
use Rattle.reading.specs.Text.{answer_text}
use Rattle.reading.proofs.Answers.{nodes_most}
use borrow.Author.Rules.{rules}
use Rattle.reading.proofs.put_reply.Goals as goal

pub put_table-requires : goal.put_table-requires
put_table-requires c =
    let a = rw c.in-Ok.is at c.read.ensures in
    let most = nodes_most _ _ _ _ _ a in
    (most, omega arith)

pub returns-in-Err : goal.returns-in-Err
unfolding answer_text
returns-in-Err c =
    let head = no_most c.number.result (omega arith) in
    let all = whole (fits (omega arith) c.put_no.ensures) in record {
      prefix_len = all.0;
      answered = record { reply = _; after = _; answers = rw c.in-Err.is at c.read.ensures; prints = rw c.number.ensures at all.1 };
    }

pub returns-in-Ok : goal.returns-in-Ok
unfolding answer_text
returns-in-Ok c =
    let all = whole c.put_table.ensures in record {
      prefix_len = all.0;
      answered = record { reply = _; after = _; answers = rw c.in-Ok.is at c.read.ensures; prints = all.1 };
    }
