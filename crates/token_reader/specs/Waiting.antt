-- What the reader of types does in a turn, by what waits in the first free nodes of its own table. Nothing here is to be believed: proofs/TypeTurns says what it comes to.
use Rattle.std.specs.Prelude.{◌≡◌, false, List, ℕ, ◌+◌, ◌*◌, ◌-◌, ◌≤◌, ◌<◌, length, get_or}
use Rattle.tree.specs.Sizes.{node_cells}
use Rattle.tree.specs.Forms.{type_path, link}
use Rattle.token_grammar.specs.Tokens.{lt, gt, number, comma_token, code}
use Rattle.token_grammar.specs.Codes.{code_at, token_symbol_at}
use Rattle.token_grammar.specs.Types.{TypePrefix}
use Rattle.token_grammar.specs.Parser.{no_type, a_name, a_type_prefix, type_start_by}
use Rattle.token_plain.specs.Trees.{label, type_prefix_label}
use Rattle.token_reader.specs.Tables.{past_comma}
use Rattle.token_reader.specs.Pieces.{many, Stored, Ready, TypeAt}
use Rattle.token_reader.specs.Kinds.{WANTED, READ, LISTED, ENDED, mode_number, POINTER, PATH, ITEM}
use Rattle.token_reader.specs.declared.piece.Mode.TheVariants as mode
use Rattle.token_reader.specs.declared.piece.Piece.{Piece}
use Rattle.token_reader.specs.declared.piece.Typing.{Typing}

-- the cells of what waits behind `depth` others
abbrev pub what_at : List ℕ → ℕ → ℕ
what_at own depth = get_or own (node_cells * depth) 0

abbrev pub one_at : List ℕ → ℕ → ℕ
one_at own depth = get_or own (node_cells * depth + 1) 0

abbrev pub two_at : List ℕ → ℕ → ℕ
two_at own depth = get_or own (node_cells * depth + 2) 0

abbrev pub least_at : List ℕ → ℕ → ℕ
least_at own depth = get_or own (node_cells * depth + 3) 0

abbrev pub place_at : List ℕ → ℕ → ℕ
place_at own depth = get_or own (node_cells * depth + 4) 0

-- one more waits
pub record Laid (own now : List ℕ) (depth what one two least place : ℕ) : Type 0 where
  pub same : length now ≡ length own
  pub before : (j : ℕ) → j < node_cells * depth → get_or now j 0 ≡ get_or own j 0
  pub behind : (j : ℕ) → node_cells * depth + node_cells ≤ j → get_or now j 0 ≡ get_or own j 0
  pub what_is : what_at now depth ≡ what
  pub one_is : one_at now depth ≡ one
  pub two_is : two_at now depth ≡ two
  pub least_is : least_at now depth ≡ least
  pub place_is : place_at now depth ≡ place

-- those that wait stay
abbrev pub Stays : List ℕ → List ℕ → ℕ → Type 0
Stays own now depth = (j : ℕ) → j < node_cells * depth → get_or now j 0 ≡ get_or own j 0

abbrev pub piece_of : Typing → Piece
piece_of s = record { at = s.at; free = s.free; named = s.named }

-- where a turn can be taken: fewer wait than nodes are free
pub record Able (tokens own : List ℕ) (s : Typing) : Type 0 where
  pub ready : Ready tokens own s.at s.free
  pub deep : s.depth + many tokens ≤ s.at + s.free

-- of those that wait the first `base` wait for something else
pub record Turnable (tokens own : List ℕ) (base : ℕ) (s : Typing) : Type 0 where
  pub able : Able tokens own s
  pub above : base ≤ s.depth
  pub listed : (mode_number s.mode ≡ WANTED → ⊥) → (mode_number s.mode ≡ READ → ⊥) → 1 ≤ s.depth

abbrev pub waits_for : Typing → ℕ → Typing
waits_for s at = record { at = at; depth = s.depth + 1; mode = mode.Wanted; free = s.free; named = false }

-- a type is wanted: there is none, or it is read, or it waits for another
pub data Wanted (tokens own now : List ℕ) (s r : Typing) : Type 0 where
  absent : type_start_by (code_at tokens s.at) (token_symbol_at tokens s.at) ≡ no_type → r.at ≡ many tokens + 1 → r.depth ≡ 0 → mode_number r.mode ≡ ENDED → now ≡ own → Wanted tokens own now s r
  whole : TypeAt tokens own now s.at s.free (piece_of r) → s.at < r.at → r.at ≤ many tokens → Stays own now s.depth → r.depth ≡ s.depth → mode_number r.mode ≡ READ → Wanted tokens own now s r
  points : (p : TypePrefix) (form detail : ℕ) → s.at < many tokens → type_start_by (code_at tokens s.at) (token_symbol_at tokens s.at) ≡ a_type_prefix p → label form detail ≡ type_prefix_label p →
      Laid own now s.depth POINTER form detail 0 0 → r ≡ waits_for s (s.at + 1) → Wanted tokens own now s r
  applies : s.at < many tokens → type_start_by (code_at tokens s.at) (token_symbol_at tokens s.at) ≡ a_name (token_symbol_at tokens s.at) → code_at tokens (s.at + 1) ≡ number lt → (code_at tokens (s.at + 2) ≡ number gt → ⊥) →
      Laid own now s.depth PATH (token_symbol_at tokens s.at) 0 0 0 → r ≡ waits_for s (s.at + 2) → Wanted tokens own now s r

-- one that waited is done
abbrev pub Popped : Typing → Typing → ℕ → Type 0
Popped s r mode = (r.depth + 1 ≡ s.depth) × (r.at ≡ s.at) × (mode_number r.mode ≡ mode)

-- a type was read, and what waits takes it; behind an item a list closes, goes on, or does neither
pub data Took (tokens own now : List ℕ) (s r : Typing) : Type 0 where
  pointed : what_at own (s.depth - 1) ≡ POINTER → Stored own now s.free r.free (one_at own (s.depth - 1)) (two_at own (s.depth - 1)) (s.free + 1) 0 0 → r.named ≡ s.named → Popped s r READ → Took tokens own now s r
  last : (end : ℕ) → 1 ≤ s.depth → (what_at own (s.depth - 1) ≡ POINTER → ⊥) → end ≡ past_comma tokens s.at (number gt) → code_at tokens end ≡ number gt →
      Stored own now s.free r.free link 0 (s.free + 1) 0 0 → r ≡ record { at = end + 1; depth = s.depth; mode = mode.Listed; free = r.free; named = false } → Took tokens own now s r
  another : (end : ℕ) → 1 ≤ s.depth → (what_at own (s.depth - 1) ≡ POINTER → ⊥) → end ≡ past_comma tokens s.at (number gt) → (code_at tokens end ≡ number gt → ⊥) → code_at tokens end ≡ code comma_token →
      Laid own now s.depth ITEM (s.free + 1) 0 0 0 → r ≡ waits_for s (s.at + 1) → Took tokens own now s r
  unclosed : (end : ℕ) → 1 ≤ s.depth → (what_at own (s.depth - 1) ≡ POINTER → ⊥) → end ≡ past_comma tokens s.at (number gt) → (code_at tokens end ≡ number gt → ⊥) → (code_at tokens end ≡ code comma_token → ⊥) →
      r.at ≡ many tokens + 1 → r.depth ≡ 0 → mode_number r.mode ≡ ENDED → now ≡ own → Took tokens own now s r

-- or that was all
pub data Taken (tokens own now : List ℕ) (base : ℕ) (s r : Typing) : Type 0 where
  all : s.depth ≡ base → piece_of r ≡ piece_of s → now ≡ own → r.depth ≡ s.depth → mode_number r.mode ≡ ENDED → Taken tokens own now base s r
  part : (s.depth ≡ base → ⊥) → Took tokens own now s r → Taken tokens own now base s r

-- a list was read: the item before it takes it, or the path
pub data Listed (tokens own now : List ℕ) (s r : Typing) : Type 0 where
  more : what_at own (s.depth - 1) ≡ ITEM → Stored own now s.free r.free link 0 (one_at own (s.depth - 1)) (s.free + 1) 0 → r.named ≡ false → Popped s r LISTED → Listed tokens own now s r
  applied : (what_at own (s.depth - 1) ≡ ITEM → ⊥) → Stored own now s.free r.free type_path 2 0 (s.free + 1) (one_at own (s.depth - 1)) → r.named ≡ false → Popped s r READ → Listed tokens own now s r

pub data Turned (tokens own now : List ℕ) (base : ℕ) (s r : Typing) : Type 0 where
  wanting : mode_number s.mode ≡ WANTED → Wanted tokens own now s r → Turned tokens own now base s r
  taking : mode_number s.mode ≡ READ → Taken tokens own now base s r → Turned tokens own now base s r
  listing : (mode_number s.mode ≡ WANTED → ⊥) → (mode_number s.mode ≡ READ → ⊥) → Listed tokens own now s r → Turned tokens own now base s r
