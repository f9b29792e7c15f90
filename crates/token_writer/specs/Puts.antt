-- What the writer's private functions say of each other. Nothing here is to be believed.
use Rattle.std.specs.Prelude.{◌≡◌, Bool, List, [], ◌∷◌, ℕ, eqb}
use Rattle.laws.specs.Choice.{pick, Line, line, lookup}
use Rattle.token_grammar.specs.Tokens.{code, operator, lt, gt, name_token, literal_token, numbered_member, cells_of}
use Rattle.token_plain.specs.Written as plain
use Rattle.token_writer.specs.declared.signs.Few.{Few}
use Rattle.token_writer.specs.declared.signs.Few.TheVariants.{Nothing, One, Two, Three}
use Rattle.token_writer.specs.declared.signs.Signs.{Signs}

-- ---- few codes, and their symbols

abbrev pub spelled : Few → List ℕ
spelled Nothing = []
spelled (One a) = a ∷ []
spelled (Two a b) = a ∷ b ∷ []
spelled (Three a b c) = a ∷ b ∷ c ∷ []

-- the symbol beside a code, where y is the node's
unfoldable pub symbol_lines : ℕ → List (Line ℕ)
symbol_lines y = line (code (name_token 0) ∷ code (numbered_member 0) ∷ []) y ∷ line (code (literal_token 0) ∷ []) y ∷ []

unfoldable pub symbol_on : ℕ → ℕ → ℕ
symbol_on n y = lookup (symbol_lines y) 0 n

-- codes with their symbols
abbrev pub cells_with : ℕ → List ℕ → List ℕ
cells_with y [] = []
cells_with y (n ∷ ns) = n ∷ symbol_on n y ∷ cells_with y ns

-- ---- a node's signs, where y is its symbol

pub record Spells (y : ℕ) (s : Signs) (t : plain.Signs) : Type 0 where
  pub before : cells_with y (spelled s.before) ≡ cells_of t.before
  pub between : cells_with y (spelled s.between) ≡ cells_of t.between
  pub behind : cells_with y (spelled s.behind) ≡ cells_of t.behind

-- the same of every symbol, by which the signs go
abbrev pub SpellsAny : Signs → (ℕ → plain.Signs) → Type 0
SpellsAny s by = (y : ℕ) → Spells y s (by y)

abbrev pub made : Few → Few → Few → Signs
made before between behind = record { before = before; between = between; behind = behind }

abbrev pub only_before : Few → Signs
only_before few = made few Nothing Nothing

abbrev pub only_between : Few → Signs
only_between few = made Nothing few Nothing

abbrev pub enclosing : Few → ℕ → Signs
enclosing start end = made Nothing start (One end)

abbrev pub path_type : ℕ → Signs
path_type detail = pick (eqb detail 2) (made (Two (code (name_token 0)) (code (operator lt))) Nothing (One (code (operator gt)))) (only_before (One (code (name_token 0))))

-- a code where a test holds
abbrev pub one_if : Bool → ℕ → Few
one_if test n = pick test (One n) Nothing
