-- The enums that say what is done next and what waits, and their numbers. Nothing here is to be believed.
use Rattle.std.specs.Prelude.{◌≡◌, ℕ, ◌<◌, Result, MatchResult}
use Rattle.token_reader.specs.declared.piece.Mode.{Mode}
use Rattle.token_reader.specs.declared.piece.Mode.TheVariants as mode
use Rattle.token_reader.specs.declared.node.Waits.{Waits}
use Rattle.token_reader.specs.declared.node.Waits.TheVariants as kind

-- what is done next
abbrev pub WANTED : ℕ
WANTED = 0

abbrev pub READ : ℕ
READ = 1

abbrev pub LISTED : ℕ
LISTED = 2

abbrev pub ENDED : ℕ
ENDED = 3

abbrev pub mode_number : Mode → ℕ
mode_number mode.Wanted = WANTED
mode_number mode.Read = READ
mode_number mode.Listed = LISTED
mode_number mode.Ended = ENDED

-- what waits for a type
abbrev pub POINTER : ℕ
POINTER = 0

abbrev pub PATH : ℕ
PATH = 1

abbrev pub ITEM : ℕ
ITEM = 2

-- and for an expression
abbrev pub PREFIX : ℕ
PREFIX = 3

abbrev pub GROUP : ℕ
GROUP = 4

abbrev pub BINARY : ℕ
BINARY = 5

abbrev pub INDEX : ℕ
INDEX = 6

abbrev pub CALL : ℕ
CALL = 7

abbrev pub METHOD : ℕ
METHOD = 8

abbrev pub ARGUMENT : ℕ
ARGUMENT = 9

abbrev pub number_of : Waits → ℕ
number_of kind.Pointer = POINTER
number_of kind.Path = PATH
number_of kind.Item = ITEM
number_of kind.Prefix = PREFIX
number_of kind.Group = GROUP
number_of kind.Binary = BINARY
number_of kind.Index = INDEX
number_of kind.Call = CALL
number_of kind.Method = METHOD
number_of kind.Argument = ARGUMENT

-- the one with this number, or the number back
abbrev pub Decodes : ℕ → Result Waits ℕ → Type 0
Decodes n r = MatchResult r (λ w. number_of w ≡ n) (λ m. (m ≡ n) × (ARGUMENT < n))
