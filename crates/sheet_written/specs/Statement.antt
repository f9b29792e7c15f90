-- Document 02, Paper 6: "After any run of edits, a plain result in context 0 or 3 is still written as promised.", and Paper 10: whichever callee order the sheet holds.
use Rattle.std.specs.Prelude.{true, List, ◌≡◌}
use Rattle.expr.specs.declared.order.CalleeOrder.{CalleeOrder}
use Rattle.token_grammar.specs.Grammar.{Context, context_number}
use Rattle.token_plain.specs.Plain.{plain_table}
use Rattle.token_theorem.specs.Statement.{Demand3}
use Rattle.sheet_edit.specs.Runs.{Sheet, Change, ran, Right}

-- what the promise says of a sheet's table, where it is plain
abbrev pub Promised : Sheet → Type 0
Promised s = (k : Context) → s.context ≡ context_number k → plain_table s.count s.table ≡ true → Demand3 k s.count s.table

-- Of every sheet that is right, and so of every opened one, after any edits, refused ones among them.
abbrev pub StillWritten : Type 0
StillWritten = (s : Sheet) (cs : List Change) → Right s → Promised (ran s cs)

-- the same sheet with a callee order
abbrev pub holding : CalleeOrder → Sheet → Sheet
holding order s = record { context = s.context; count = s.count; order = order; table = s.table; rows = s.rows }

-- A plain sheet does not see the order that it holds: rows that are right in one order are right in the other. So they are those by which its tokens are written, which is in ours.
abbrev pub EitherOrder : Type 0
EitherOrder = (s : Sheet) (order : CalleeOrder) → plain_table s.count s.table ≡ true → Right s → Right (holding order s)
