-- What the loader's steps read, as facts of the file. Nothing here is to be believed.
use Rattle.std.specs.Prelude.{false, List, [], ◌∷◌, ◌≡◌, ℕ, suc, ◌+◌, ◌*◌, ◌≤◌, take, drop, Option, None, Some, Result, Ok, Err}
use Rattle.laws.specs.Puts.{Put}
use Rattle.tree.specs.Sizes.{node_cells, most_nodes}
use Rattle.tree.specs.declared.refusal.Refusal.{Refusal as Refused}
use Rattle.tree.specs.Replies.{number_of}
use Rattle.file_numbers.specs.Standing.{stands_at}
use Rattle.tree_source.specs.Source.{run, runs, behind_header}
use Rattle.tree_rules.specs.Refusals.{refusal4, Refusal, refuse, first_of, node_refusals}
use Rattle.file_loader.specs.declared.Header.{Header}
use Rattle.file_loader.specs.declared.Reading.{Reading}
use Rattle.file_loader.specs.Several.{broken, numbers, numbers_of}
use Rattle.file_loader.specs.Files.{header, context_in, count_in, body, cells_in, refusal1, refusal2, refusal5, number_refusals}

-- so many numbers from a place on: malformed, or those that a source has there, up to a place
abbrev pub Passed : List ℕ → ℕ → ℕ → Option ℕ → Type 0
Passed file from n None = numbers_of n (drop from file) ≡ broken
Passed file from n (Some at) = numbers_of n (drop from file) ≡ numbers (run n file from) (drop at file)

-- one node and so many others from a place on: malformed, or those that a source has at the places that are kept
abbrev pub LaidOut : List ℕ → ℕ → ℕ → List ℕ → Option ℕ → Type 0
LaidOut file from others places None = numbers_of (node_cells * suc others) (drop from file) ≡ broken
LaidOut file from others places (Some at) = numbers_of (node_cells * suc others) (drop from file) ≡ numbers (runs file (from ∷ take others places)) (drop at file)

-- the number that stands at a place
abbrev pub KnownAt : List ℕ → ℕ → Reading → Type 0
KnownAt file at r = Some (r.value, r.next) ≡ stands_at file at

-- a node's numbers from a place on stand in a table from a cell on, and others begin behind them
pub record StoredNode (file : List ℕ) (at cell : ℕ) (before after : List ℕ) (next : ℕ) : Type 0 where
  pub read : numbers_of node_cells (drop at file) ≡ numbers (run node_cells file at) (drop next file)
  pub put : Put before cell (run node_cells file at) after (cell + node_cells)

-- a file that is not refused before its context is looked at
pub record Begun (file : List ℕ) (context count at : ℕ) : Type 0 where
  pub short : refusal1 file ≡ false
  pub formed : refusal2 file ≡ false
  pub is_context : context_in file ≡ context
  pub is_count : count_in file ≡ count
  pub is_body : body file ≡ numbers_of (node_cells * count) (drop at file)

-- a header of a file that is not refused with a lent table of so many cells before the body is looked at
pub record Headed (file : List ℕ) (lent : ℕ) (h : Header) : Type 0 where
  pub begun : Begun file h.context h.count h.body
  pub is_start : h.body ≡ behind_header file
  pub ok : h.context ≤ 3
  pub fits : refusal4 h.count lent ≡ false

-- 1 to 4, whatever comes after them: the first that applies, or the header
abbrev pub BegunBy : List ℕ → ℕ → Result Header Refused → Type 0
BegunBy file lent (Err e) = (others : List Refusal) → first_of (number_refusals file lent others) ≡ number_of e
BegunBy file lent (Ok h) = Headed file lent h

-- a file that is not refused before its nodes are looked at
pub record Counted (file : List ℕ) (context count at : ℕ) : Type 0 where
  pub begun : Begun file context count at
  pub is_start : at ≡ behind_header file
  pub ok : context ≤ 3
  pub low : 1 ≤ count
  pub high : count ≤ most_nodes

-- the first of 5 to 11 that applies, or 0
unfoldable pub body_refusal : List ℕ → ℕ
body_refusal file = first_of (refuse 5 (refusal5 file) ∷ node_refusals (count_in file) (cells_in file))
