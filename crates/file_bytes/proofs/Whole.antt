-- The bytes of a context, a count and six numbers a node are a file that holds just these. Assumes nothing.
use mathlib.Core.Path.{◌≡◌, refl, sym, ◌∙◌}
use mathlib.Core.Bool.{Bool, true, false}
use mathlib.Core.List.{List, [], ◌∷◌, ◌++◌, append-nil}
use Prim.Native.Nat.{ℕ, ◌*◌, ◌≤◌}
use native.Mathlib.Omega.{arith}
use lib.ListN.{length}
use borrow.Author.Tests.{le-ltb}
use Rattle.tree.specs.Sizes.{node_cells, most_file_bytes}
use Rattle.tree_rules.specs.Refusals.{refusal3, refusal4, Refusal, refuse, first_of}
use Rattle.tree_rules.proofs.First.{stop, skip}
use Rattle.file_loader.specs.Several.{numbers, numbers_of, is_broken, values_in, bytes_after}
use Rattle.file_loader.specs.Files.{header, context_in, count_in, body, cells_in, refusal1, refusal2, bad_body, refusal5, number_refusals}
use Rattle.file_loader.proofs.Files.{first_in}
use Rattle.file_bytes.specs.Bytes.{all_bytes}
use Rattle.file_bytes.proofs.Below.{AllBelow}
use Rattle.file_bytes.proofs.Several.{all_append, all_read}

module _ (context count : ℕ) (ns : List ℕ) (small_head : AllBelow 65536 (context ∷ count ∷ [])) (small : AllBelow 65536 ns) (long : length ns ≡ node_cells * count) where
  -- the header's bytes, and the nodes'
  pub parts : all_bytes (context ∷ count ∷ ns) ≡ all_bytes (context ∷ count ∷ []) ++ all_bytes ns
  parts = all_append (context ∷ count ∷ []) ns

  pub header_read : header (all_bytes (context ∷ count ∷ ns)) ≡ numbers (context ∷ count ∷ []) (all_bytes ns)
  unfolding header
  header_read = rw parts (all_read (context ∷ count ∷ []) (all_bytes ns) small_head)

  pub body_read : numbers_of (node_cells * count) (all_bytes ns) ≡ numbers ns []
  body_read = rw long at (rw append-nil at (all_read ns [] small))

  pub is_context : context_in (all_bytes (context ∷ count ∷ ns)) ≡ context
  unfolding context_in values_in
  is_context = rw header_read

  pub is_count : count_in (all_bytes (context ∷ count ∷ ns)) ≡ count
  unfolding count_in values_in
  is_count = rw header_read

  body_is : body (all_bytes (context ∷ count ∷ ns)) ≡ numbers ns []
  unfolding body bytes_after
  body_is = rw (is_count, header_read, body_read)

  pub are_cells : cells_in (all_bytes (context ∷ count ∷ ns)) ≡ ns
  unfolding cells_in values_in
  are_cells = rw body_is

  not_2 : refusal2 (all_bytes (context ∷ count ∷ ns)) ≡ false
  unfolding refusal2 is_broken
  not_2 = rw header_read

  not_5 : refusal5 (all_bytes (context ∷ count ∷ ns)) ≡ false
  unfolding refusal5 bad_body is_broken bytes_after
  not_5 = rw body_is (le-ltb 0 0 (omega arith))

  -- 4 alone is left of the refusals of its numbers
  pub only_4 : length (all_bytes (context ∷ count ∷ ns)) ≤ most_file_bytes → context ≤ 3 → (lent : ℕ) (others : List Refusal) → first_in (all_bytes (context ∷ count ∷ ns)) lent others ≡ first_of (refuse 4 (refusal4 count lent) ∷ others)
  unfolding number_refusals refusal1 refusal3
  only_4 short ok lent others =
      skip _ _ (le-ltb most_file_bytes (length (all_bytes (context ∷ count ∷ ns))) short)
      ∙ skip _ _ not_2
      ∙ skip _ _ (rw is_context (le-ltb 3 context ok))
      ∙ rw is_count (go (refusal4 count lent))
    where
      go : (b : Bool) → first_of (refuse 4 b ∷ refuse 5 (refusal5 (all_bytes (context ∷ count ∷ ns))) ∷ others) ≡ first_of (refuse 4 b ∷ others)
      go true = stop _ _ refl ∙ sym (stop _ _ refl)
      go false = skip _ _ refl ∙ skip _ _ not_5 ∙ sym (skip _ _ refl)
