-- What the reader of expressions does in a turn, by what waits in the first free nodes of its own table. Nothing here is to be believed: proofs/ExprTurns says what it comes to.
use Rattle.std.specs.Prelude.{◌≡◌, Bool, true, false, List, ℕ, ◌+◌, ◌-◌, ◌≤◌, ◌<◌, eqb}
use Rattle.laws.specs.Choice.{pick}
use Rattle.bools.specs.Bits.{bit_of}
use Rattle.tree.specs.Forms.{expr_call, expr_index, expr_method_call, link}
use Rattle.token_grammar.specs.Tokens.{right_paren, left_bracket, right_bracket, comma_token, code}
use Rattle.token_grammar.specs.Codes.{code_at, token_symbol_at}
use Rattle.token_grammar.specs.Levels.{prefixes, level}
use Rattle.token_grammar.specs.Bounds.{past_operators, loosest}
use Rattle.token_grammar.specs.Expressions.{Prefix}
use Rattle.token_grammar.specs.Grammar.{Context}
use Rattle.token_grammar.specs.Parser.{a_prefix, a_group, start_by}
use Rattle.token_plain.specs.Trees.{label, prefix_label}
use Rattle.token_reader.specs.Tables.{past_comma, level_of, after_of, goes_on_with, operator_form, operator_detail}
use Rattle.token_reader.specs.Pieces.{many, stands_in, Stored, Ready, Postfix, OperandAt, StepAt, CallAt}
use Rattle.token_reader.specs.Kinds.{WANTED, READ, LISTED, ENDED, mode_number, PREFIX, GROUP, BINARY, INDEX, CALL, METHOD, ARGUMENT}
use Rattle.token_reader.specs.declared.piece.Mode.TheVariants as mode
use Rattle.token_reader.specs.Waiting.{what_at, one_at, two_at, least_at, place_at, Laid, Stays}
use Rattle.token_reader.specs.declared.piece.Parsed.{Parsed}
use Rattle.token_reader.specs.declared.piece.Reading.{Reading}

pub data IsCall (what : ℕ) : Type 0 where
  a_call : what ≡ CALL → IsCall what
  a_method : what ≡ METHOD → IsCall what

-- the form of a call by what waits
abbrev pub call_form : ℕ → ℕ
call_form what = pick (eqb what METHOD) expr_method_call expr_call

pub record Able (tokens own : List ℕ) (s : Reading) : Type 0 where
  pub ready : Ready tokens own s.left.at s.left.free
  pub deep : s.depth + many tokens ≤ s.left.at + s.left.free

pub record Turnable (tokens own : List ℕ) (s : Reading) : Type 0 where
  pub able : Able tokens own s
  pub least : (mode_number s.mode ≡ LISTED → ⊥) → 1 ≤ s.least
  pub listed : (mode_number s.mode ≡ WANTED → ⊥) → (mode_number s.mode ≡ READ → ⊥) → 1 ≤ s.depth

abbrev pub begins : ℕ → ℕ → Parsed
begins at free = record { at = at; free = free; level = 0; named = false; dotted = false }

abbrev pub waits_with : Reading → ℕ → ℕ → Bool → Reading
waits_with s at least condition = record { left = begins at s.left.free; depth = s.depth + 1; mode = mode.Wanted; least = least; condition = condition }

abbrev pub came_to : Reading → Parsed → Reading
came_to s left = record { left = left; depth = s.depth; mode = mode.Read; least = s.least; condition = s.condition }

-- what waited goes on from there
abbrev pub pop_to : List ℕ → Reading → Parsed → Reading
pop_to own s left = record { left = left; depth = s.depth - 1; mode = mode.Read; least = least_at own (s.depth - 1); condition = eqb (place_at own (s.depth - 1)) 1 }

-- nothing is read
pub record Lost (tokens : List ℕ) (r : Reading) : Type 0 where
  pub past : r.left.at ≡ many tokens + 1
  pub none : r.depth ≡ 0
  pub over : mode_number r.mode ≡ ENDED

-- what waits from now on
abbrev pub Waiting : List ℕ → List ℕ → Reading → ℕ → ℕ → ℕ → Type 0
Waiting own now s what one two = Laid own now s.depth what one two s.least (bit_of s.condition)

-- an expression is wanted: what it begins with is not there, is read, or waits
pub data Wanted (tokens own now : List ℕ) (s r : Reading) : Type 0 where
  absent : OperandAt (stands_in s.condition) tokens own now s.left.at s.left.free r.left → Lost tokens r → Wanted tokens own now s r
  whole : (left : Parsed) → OperandAt (stands_in s.condition) tokens own now s.left.at s.left.free left → left.at ≤ many tokens → Stays own now s.depth → r ≡ came_to s left → Wanted tokens own now s r
  prefixed : (p : Prefix) (form detail : ℕ) → s.left.at < many tokens → start_by (code_at tokens s.left.at) (token_symbol_at tokens s.left.at) ≡ a_prefix p → label form detail ≡ prefix_label p →
      Waiting own now s PREFIX form detail → r ≡ waits_with s (s.left.at + 1) (level prefixes) s.condition → Wanted tokens own now s r
  grouped : s.left.at < many tokens → start_by (code_at tokens s.left.at) (token_symbol_at tokens s.left.at) ≡ a_group → Waiting own now s GROUP 0 0 → r ≡ waits_with s (s.left.at + 1) loosest false → Wanted tokens own now s r

-- a call by the parenthesis at `to` is the form that follows `left`
pub record Calling (tokens : List ℕ) (c : Context) (left : Parsed) (to form symbol : ℕ) : Type 0 where
  pub from : left.at ≤ to
  pub inside : to < many tokens
  pub steps : (own now : List ℕ) (r : Parsed) → Ready tokens own left.at left.free → CallAt tokens own now to left.free form symbol r → StepAt c tokens own now left r

-- an expression goes on: the form that follows is not there, is read, or waits
pub data Stepped (tokens own now : List ℕ) (s r : Reading) : Type 0 where
  lost : StepAt (stands_in s.condition) tokens own now s.left r.left → Lost tokens r → Stepped tokens own now s r
  step : (left : Parsed) → StepAt (stands_in s.condition) tokens own now s.left left → left.at ≤ many tokens → Stays own now s.depth → r ≡ came_to s left → Stepped tokens own now s r
  operates : (n : ℕ) → code_at tokens s.left.at ≡ n → n < past_operators → Waiting own now s BINARY (s.left.free + 1) n → r ≡ waits_with s (s.left.at + 1) (after_of (level_of n)) s.condition → Stepped tokens own now s r
  indexes : code_at tokens s.left.at ≡ code left_bracket → Waiting own now s INDEX (s.left.free + 1) 0 → r ≡ waits_with s (s.left.at + 1) loosest false → Stepped tokens own now s r
  calls : (to what symbol : ℕ) → IsCall what → Calling tokens (stands_in s.condition) s.left to (call_form what) symbol → (code_at tokens (to + 1) ≡ code right_paren → ⊥) →
      Waiting own now s what (s.left.free + 1) symbol → r ≡ waits_with s (to + 1) loosest false → Stepped tokens own now s r

-- what waited takes the expression that was read: `what` tells who
abbrev pub top_at : List ℕ → Reading → ℕ
top_at own s = what_at own (s.depth - 1)

abbrev pub one_on : List ℕ → Reading → ℕ
one_on own s = one_at own (s.depth - 1)

abbrev pub two_on : List ℕ → Reading → ℕ
two_on own s = two_at own (s.depth - 1)

-- an argument, or the first one
abbrev pub IsItem : ℕ → Type 0
IsItem what = (what ≡ PREFIX → ⊥) × (what ≡ GROUP → ⊥) × (what ≡ BINARY → ⊥) × (what ≡ INDEX → ⊥)

pub data Took (tokens own now : List ℕ) (s r : Reading) : Type 0 where
  prefixed : (left : ℕ) → top_at own s ≡ PREFIX → Stored own now s.left.free left (one_on own s) (two_on own s) (s.left.free + 1) 0 0 →
      r ≡ pop_to own s (record { at = s.left.at; free = left; level = level prefixes; named = s.left.named; dotted = s.left.dotted }) → Took tokens own now s r
  grouped : (left : Parsed) → top_at own s ≡ GROUP → code_at tokens s.left.at ≡ code right_paren → Postfix (s.left.at + 1) s.left.free left → now ≡ own → r ≡ pop_to own s left → Took tokens own now s r
  ungrouped : top_at own s ≡ GROUP → (code_at tokens s.left.at ≡ code right_paren → ⊥) → Lost tokens r → Took tokens own now s r
  operated : (left : ℕ) → top_at own s ≡ BINARY → Stored own now s.left.free left (operator_form (two_on own s)) (operator_detail (two_on own s)) (one_on own s) (s.left.free + 1) 0 →
      r ≡ pop_to own s (record { at = s.left.at; free = left; level = level_of (two_on own s); named = s.left.named; dotted = s.left.dotted }) → Took tokens own now s r
  indexed : (left₂ : ℕ) (left : Parsed) → top_at own s ≡ INDEX → code_at tokens s.left.at ≡ code right_bracket → Stored own now s.left.free left₂ expr_index 0 (one_on own s) (s.left.free + 1) 0 →
      Postfix (s.left.at + 1) left₂ left → r ≡ pop_to own s left → Took tokens own now s r
  unindexed : top_at own s ≡ INDEX → (code_at tokens s.left.at ≡ code right_bracket → ⊥) → Lost tokens r → Took tokens own now s r
  last : (end left : ℕ) → IsItem (top_at own s) → end ≡ past_comma tokens s.left.at (code right_paren) → code_at tokens end ≡ code right_paren → Stored own now s.left.free left link 0 (s.left.free + 1) 0 0 →
      r ≡ record { left = begins (end + 1) left; depth = s.depth; mode = mode.Listed; least = s.least; condition = s.condition } → Took tokens own now s r
  another : (end : ℕ) → IsItem (top_at own s) → end ≡ past_comma tokens s.left.at (code right_paren) → (code_at tokens end ≡ code right_paren → ⊥) → code_at tokens end ≡ code comma_token →
      Waiting own now s ARGUMENT (s.left.free + 1) 0 → r ≡ waits_with s (s.left.at + 1) loosest false → Took tokens own now s r
  unclosed : (end : ℕ) → IsItem (top_at own s) → end ≡ past_comma tokens s.left.at (code right_paren) → (code_at tokens end ≡ code right_paren → ⊥) → (code_at tokens end ≡ code comma_token → ⊥) → Lost tokens r → Took tokens own now s r

-- an expression was read so far: it goes on, or ends
pub data Gone (tokens own now : List ℕ) (s r : Reading) : Type 0 where
  on : goes_on_with s.least s.left.level s.left.named s.left.dotted (code_at tokens s.left.at) ≡ true → Stepped tokens own now s r → Gone tokens own now s r
  all : goes_on_with s.least s.left.level s.left.named s.left.dotted (code_at tokens s.left.at) ≡ false → s.depth ≡ 0 → r.left ≡ s.left → r.depth ≡ 0 → mode_number r.mode ≡ ENDED → now ≡ own → Gone tokens own now s r
  part : goes_on_with s.least s.left.level s.left.named s.left.dotted (code_at tokens s.left.at) ≡ false → 1 ≤ s.depth → Took tokens own now s r → Gone tokens own now s r

-- a list of arguments was read: the one before it takes it, or the call
pub data Listed (tokens own now : List ℕ) (s r : Reading) : Type 0 where
  more : (left : ℕ) → top_at own s ≡ ARGUMENT → Stored own now s.left.free left link 0 (one_on own s) (s.left.free + 1) 0 →
      r ≡ record { left = begins s.left.at left; depth = s.depth - 1; mode = mode.Listed; least = s.least; condition = s.condition } → Listed tokens own now s r
  called : (left₂ : ℕ) (left : Parsed) → (top_at own s ≡ ARGUMENT → ⊥) → Stored own now s.left.free left₂ (call_form (top_at own s)) 0 (one_on own s) (s.left.free + 1) (two_on own s) →
      Postfix s.left.at left₂ left → r ≡ pop_to own s left → Listed tokens own now s r

pub data Turned (tokens own now : List ℕ) (s r : Reading) : Type 0 where
  wanting : mode_number s.mode ≡ WANTED → Wanted tokens own now s r → Turned tokens own now s r
  going : mode_number s.mode ≡ READ → Gone tokens own now s r → Turned tokens own now s r
  listing : (mode_number s.mode ≡ WANTED → ⊥) → (mode_number s.mode ≡ READ → ⊥) → Listed tokens own now s r → Turned tokens own now s r
