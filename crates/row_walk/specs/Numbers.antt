-- A reply as one number, for callers in C.
use Rattle.std.specs.Prelude.{ℕ, Result, Ok, Err}
use Rattle.tree.specs.declared.refusal.Refusal.{Refusal}
use Rattle.tree.specs.Replies.{number_of}

-- "0 means done. Otherwise the first that applies is returned"
abbrev pub reply_number : Result (Unit {0}) Refusal → ℕ
reply_number (Ok done) = 0
reply_number (Err refusal) = number_of refusal
