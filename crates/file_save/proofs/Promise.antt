-- One file for one tree: the promise on saving. Assumes nothing.
use mathlib.Core.Path.{◌≡◌, refl, sym, ap, ◌∙◌}
use mathlib.Core.List.{List, [], ◌∷◌, ◌++◌, append-nil}
use Prim.Native.Nat.{ℕ, ◌*◌, ◌≤◌}
use native.Mathlib.Omega.{arith}
use lib.ListN.{length, drop, length-append}
use lib.Seq.{drop_at, drop-length}
use Rattle.tree.specs.Sizes.{node_cells, most_nodes, most_file_bytes}
use Rattle.laws.specs.Lists.{over}
use Rattle.tree.specs.Trees.{Tree, tree_at}
use Rattle.tree_rules.specs.Refusals.{Accepted}
use Rattle.tree_rules.proofs.Accepted.{context_most, count_bounds, levels_bound}
use Rattle.tree_rules.proofs.Count.{fits_count}
use Rattle.tree_numbering.specs.Numbered.{size, numbered}
use Rattle.tree_numbering.proofs.Holds.{length_numbered, numbered_tree}
use Rattle.tree_numbering.proofs.Sizes.{size_accepted}
use Rattle.tree_sound.proofs.Accepts.{numbered_accepted, accepted_sound, accepted_outputs, accepted_root}
use Rattle.std.specs.Prelude.{Ok}
use Rattle.file_loader.specs.Several.{numbers, numbers_of}
use Rattle.file_loader.specs.Files.{header, context_in, count_in, cells_in, loaded, loaded_table}
use Rattle.file_loader.proofs.Files.{begun, accepted_nodes, accepted_file}
use Rattle.file_bytes.specs.Bytes.{all_bytes}
use Rattle.file_bytes.proofs.Below.{AllBelow, below_none, below_more}
use Rattle.file_bytes.proofs.Several.{all_append, all_most}
use Rattle.file_bytes.proofs.Whole.{header_read as whole_header, body_read as whole_body, is_context as whole_context, is_count as whole_count, are_cells as whole_cells}
use Rattle.file_save.specs.Saves.{file, file_of, saved, saved_after}
use Rattle.file_save.specs.Statement.{Promise, FilePromise}
use Rattle.file_save.proofs.Replies.{saved_is, after_is}
use Rattle.file_save.proofs.Small.{small_cells, few_bytes}

module _ (context count : ℕ) (cells : List ℕ) (ok : Accepted context count cells) where
  abbrev tree : Tree
  tree = tree_at cells count 1

  is_size : size tree ≡ count
  is_size = size_accepted context count cells ok

  bounds : (1 ≤ count) × (count ≤ most_nodes) × (node_cells * count ≤ length cells)
  bounds = count_bounds context count cells ok

  -- ---- the numbers of the file

  abbrev head : List ℕ
  head = context ∷ count ∷ []

  small_tree : AllBelow 65536 (numbered tree)
  unfolding numbered
  small_tree =
      let s = is_size in
      let k = bounds in
      small_cells tree 1 (omega arith) (accepted_sound context count cells ok 1).not6

  small_head : AllBelow 65536 head
  small_head =
      let k = bounds in
      let c = context_most context count cells ok in
      below_more context (omega arith) (below_more count (omega arith) (below_none (omega arith)))

  long : length (numbered tree) ≡ node_cells * count
  long = length_numbered tree ∙ ap (λ (n : ℕ). node_cells * n) is_size

  is_whole : file_of context count cells ≡ all_bytes (context ∷ count ∷ numbered tree)
  unfolding file
  is_whole = rw is_size

  parts : file_of context count cells ≡ all_bytes head ++ all_bytes (numbered tree)
  parts = is_whole ∙ all_append head (numbered tree)

  pub short_enough : length (file_of context count cells) ≤ most_file_bytes
  unfolding numbered
  short_enough =
      let s = is_size in
      let k = bounds in
      let m = all_most head in
      let n = few_bytes tree 1 (omega arith) (accepted_sound context count cells ok 1).not6 in
      let e = ap length parts ∙ length-append (all_bytes head) (all_bytes (numbered tree)) in
      omega arith

  header_read : header (file_of context count cells) ≡ numbers head (all_bytes (numbered tree))
  header_read = rw is_whole (whole_header context count (numbered tree) small_head small_tree long)

  body_read : numbers_of (node_cells * count) (all_bytes (numbered tree)) ≡ numbers (numbered tree) []
  body_read = whole_body context count (numbered tree) small_head small_tree long

  is_context : context_in (file_of context count cells) ≡ context
  is_context = rw is_whole (whole_context context count (numbered tree) small_head small_tree long)

  is_count : count_in (file_of context count cells) ≡ count
  is_count = rw is_whole (whole_count context count (numbered tree) small_head small_tree long)

  are_cells : cells_in (file_of context count cells) ≡ numbered tree
  are_cells = rw is_whole (whole_cells context count (numbered tree) small_head small_tree long)

  -- ---- the tree, numbered, is an accepted table

  pub numbered_ok : (rest : List ℕ) → Accepted context count (numbered tree ++ rest)
  numbered_ok rest =
      let s = is_size in
      let k = bounds in
      rw is_size at
      (numbered_accepted tree rest (omega arith) (accepted_root context count cells ok) context (context_most context count cells ok) (accepted_sound context count cells ok 1) (levels_bound context count cells ok) (accepted_outputs context count cells ok 1))

  pub back : (rest : List ℕ) → tree_at (numbered tree ++ rest) count 1 ≡ tree
  back rest =
      let s = is_size in
      let k = bounds in
      rw is_size at (numbered_tree tree rest (omega arith))

  -- ---- the promise

  module _ (others : ℕ) (other : List ℕ) (fine : Accepted context others other) (same : tree_at other others 1 ≡ tree) (buffer : List ℕ) where
    pub same_file : (saved context others other (length buffer) ≡ saved context count cells (length buffer)) × (saved_after context others other buffer ≡ saved_after context count cells buffer)
    same_file = (
      saved_is context others other fine (length buffer) ∙ rw same (sym (saved_is context count cells ok (length buffer))),
      after_is context others other fine buffer ∙ rw same (sym (after_is context count cells ok buffer)),
    )

  module _ (table : List ℕ) (room : node_cells * count ≤ length table) where
    pub loads_back : (loaded (file_of context count cells) (length table) ≡ Ok (record { context = context; count = count })) × (loaded_table (file_of context count cells) table ≡ over (numbered tree) table)
    loads_back =
        let k = bounds in
        let at = length (all_bytes head) in
        let end = length (file_of context count cells) in
        let rest : drop at (file_of context count cells) ≡ all_bytes (numbered tree) = rw parts (drop_at (all_bytes head) (all_bytes (numbered tree)) at refl) in
        let none : drop end (file_of context count cells) ≡ [] = drop-length (file_of context count cells) in
        let a = accepted_nodes (file_of context count cells) table context count at (begun (file_of context count cells) context count at short_enough (header_read ∙ rw rest))
        (context_most context count cells ok)
        (fits_count count (length table) k.0 k.1 room)
        (numbered tree) end (rw (rest, none) body_read) (omega arith) (sym (rw append-nil at (numbered_ok []))) in
        (sym a.0, sym a.1)

    pub saved_again : (buffer : List ℕ)
        → (saved context count (loaded_table (file_of context count cells) table) (length buffer) ≡ saved context count cells (length buffer))
        × (saved_after context count (loaded_table (file_of context count cells) table) buffer ≡ saved_after context count cells buffer)
    unfolding over
    saved_again buffer =
        let e = loads_back.1 in
        let rest = drop (length (numbered tree)) table in
        same_file count (loaded_table (file_of context count cells) table) (rw e (numbered_ok rest)) (rw e (back rest)) buffer

  -- a file says its context and its tree
  pub tree_of_file : tree_at (cells_in (file_of context count cells)) (count_in (file_of context count cells)) 1 ≡ tree
  tree_of_file = rw (is_count, are_cells) (rw append-nil at (back []))

other_file : (context count : ℕ) (cells : List ℕ) → Accepted context count cells → (kind others : ℕ) (other : List ℕ) → Accepted kind others other → file_of kind others other ≡ file_of context count cells
    → (kind ≡ context) × (tree_at other others 1 ≡ tree_at cells count 1)
other_file context count cells ok kind others other fine e = (
  sym (is_context kind others other fine) ∙ ap context_in e ∙ is_context context count cells ok,
  sym (tree_of_file kind others other fine) ∙ ap (λ (f : List ℕ). tree_at (cells_in f) (count_in f) 1) e ∙ tree_of_file context count cells ok,
)

pub promise : Promise
promise context count cells ok =
    record {
      same_file = same_file context count cells ok;
      other_file = other_file context count cells ok;
      loads_back = loads_back context count cells ok;
      saved_again = saved_again context count cells ok;
      file_short_enough = short_enough context count cells ok;
    }

pub file_promise : FilePromise
file_promise file lent e = promise (context_in file) (count_in file) (cells_in file) (accepted_file file lent e)
