-- The answers of saving, and what they leave in the lent buffer. Assumes nothing.
use mathlib.Core.Path.{◌≡◌, refl, sym, ◌∙◌}
use mathlib.Core.Bool.{Bool, true, false}
use mathlib.Core.List.{List, [], ◌∷◌}
use Prim.Native.Nat.{ℕ, ◌*◌, ◌≤◌, ◌<◌}
use native.Mathlib.Omega.{arith}
use lib.Dec.{ltb}
use lib.ListN.{length, take}
use lib.Seq.{take_at, length-take-le}
use borrow.Author.Tests.{eq-eqb, ne_eqb}
use Rattle.tree.specs.Sizes.{node_cells, most_file_bytes}
use Rattle.laws.specs.Lists.{over}
use Rattle.laws.proofs.Choice.{pick_true, pick_false}
use Rattle.laws.proofs.Lists.{length_over}
use Rattle.tree.specs.Trees.{Tree, tree_at}
use Rattle.tree_rules.specs.Refusals.{refusal, refuse, first_of, Accepted}
use Rattle.tree_rules.proofs.First.{stop, skip, no_more}
use Rattle.tree_rules.proofs.Accepted.{context_most, count_bounds}
use Rattle.tree_numbering.specs.Numbered.{size, numbered}
use Rattle.tree_numbering.specs.Accepting.{numbering_refusal, numbered_after}
use Rattle.tree_numbering.proofs.Holds.{length_numbered}
use Rattle.tree_numbering.proofs.Accepting.{is_accepted, is_over, is_refusal}
use Rattle.tree_numbering.proofs.Sizes.{size_accepted}
use Rattle.tree_sound.proofs.Accepts.{accepted_sound}
use Rattle.file_bytes.specs.Bytes.{all_bytes}
use Rattle.std.specs.Prelude.{Result, Err}
use Rattle.tree.specs.declared.refusal.Refusal.{Refusal}
use Rattle.tree.specs.Replies.{replied}
use Rattle.file_loader.proofs.Replied.{said_err}
use Rattle.file_save.specs.Saves.{file, file_of, save_refusal12, stored, stored_after, counted_of, save_refusal, saved, saved_after}
use Rattle.file_save.proofs.Putting.{whole_long, stored_counted, after_counted}
use Rattle.file_save.proofs.Small.{bytes_one, bytes_two, few_bytes}

-- what is answered where numbers are stored, and left in the buffer
abbrev pub StoredIn : List ℕ → List ℕ → List ℕ → Result ℕ Refusal → Type 0
StoredIn bytes buffer last r = (r ≡ stored bytes (counted_of (length buffer))) × (last ≡ stored_after bytes (counted_of (length buffer)) buffer)

module _ (context count : ℕ) (cells : List ℕ) where
  -- ---- a table that is refused

  module _ (buffer : List ℕ) (n : ℕ) (is : n ≡ refusal context count cells) (some : n ≡ 0 → ⊥) where
    refuses : save_refusal context count cells (length buffer) ≡ n
    unfolding save_refusal
    refuses = rw (← is) (pick_false _ _ (ne_eqb n 0 some))

    refused_table : {B : Type 0} (b : B) (e : Refusal) → Err e ≡ replied n b → (Err e ≡ saved context count cells (length buffer)) × (buffer ≡ saved_after context count cells buffer)
    unfolding saved saved_after
    refused_table b e h = rw refuses ((said_err ℕ n b _ e h).0, sym (pick_false _ _ (ne_eqb n 0 some)))

  -- ---- a table that is accepted

  module _ (ok : Accepted context count cells) where
    -- 12 alone is left
    only_12 : (lent : ℕ) → save_refusal context count cells lent ≡ first_of (refuse 12 (ltb lent (length (file_of context count cells))) ∷ [])
    unfolding save_refusal save_refusal12
    only_12 lent = pick_true _ _ (eq-eqb _ 0 ok)

    long_enough : (lent : ℕ) → ltb lent (length (file_of context count cells)) ≡ false → save_refusal context count cells lent ≡ 0
    long_enough lent e = only_12 lent ∙ skip _ _ e ∙ no_more

    too_short : (lent : ℕ) → ltb lent (length (file_of context count cells)) ≡ true → save_refusal context count cells lent ≡ 12
    too_short lent e = only_12 lent ∙ stop _ _ e

    pub saved_is : (lent : ℕ) → saved context count cells lent ≡ stored (file_of context count cells) lent
    unfolding saved stored save_refusal12
    saved_is lent = rw (only_12 lent)

    pub after_is : (buffer : List ℕ) → saved_after context count cells buffer ≡ stored_after (file_of context count cells) (length buffer) buffer
    unfolding saved_after stored_after save_refusal12
    after_is buffer = go (ltb (length buffer) (length (file_of context count cells))) refl
      where
        go : (b : Bool) → ltb (length buffer) (length (file_of context count cells)) ≡ b → saved_after context count cells buffer ≡ stored_after (file_of context count cells) (length buffer) buffer
        go true e = rw (too_short (length buffer) e) (pick_false _ _ (ne_eqb 12 0 (λ z. omega arith)) ∙ sym (pick_true _ _ e))
        go false e = rw (long_enough (length buffer) e) (pick_true _ _ (eq-eqb 0 0 refl) ∙ sym (pick_false _ _ e))

    -- ---- its tree, numbered into an array with room for it

    abbrev tree : Tree
    tree = tree_at cells count 1

    is_size : size tree ≡ count
    is_size = size_accepted context count cells ok

    module _ (own after : List ℕ) (room : node_cells * count ≤ length own) (are_cells : after ≡ over (numbered tree) own) where
      long : length (numbered tree) ≡ node_cells * count
      long = let s = is_size in length_numbered tree ∙ omega arith

      own_room : node_cells * count ≤ length after
      own_room = let l = long in rw (are_cells, length_over (numbered tree) own (omega arith)) room

      part_length : length (take (node_cells * count) after) ≡ node_cells * count
      part_length = length-take-le (node_cells * count) after own_room

      part_is : take (node_cells * count) after ≡ numbered tree
      unfolding over
      part_is = rw are_cells (take_at (numbered tree) _ (node_cells * count) long)

      short : length (file_of context count cells) < most_file_bytes
      unfolding numbered file
      short =
          let s = is_size in
          let m = context_most context count cells ok in
          let k = count_bounds context count cells ok in
          let b = few_bytes tree 1 (omega arith) (accepted_sound context count cells ok 1).not6 in
          let p = bytes_one context (omega arith) in
          let q = bytes_two count (omega arith) in
          let w = whole_long context count (numbered tree) in
          rw is_size (omega arith)

      is_file : all_bytes (context ∷ count ∷ take (node_cells * count) after) ≡ file_of context count cells
      unfolding file
      is_file = rw (part_is, is_size)

      saved_by : (buffer last : List ℕ) (r : Result ℕ Refusal)
          → StoredIn (all_bytes (context ∷ count ∷ take (node_cells * count) after)) buffer last r
          → (r ≡ saved context count cells (length buffer)) × (last ≡ saved_after context count cells buffer)
      saved_by buffer last r e = (
        e.0 ∙ rw is_file (stored_counted (file_of context count cells) short (length buffer) ∙ sym (saved_is (length buffer))),
        e.1 ∙ rw is_file (after_counted (file_of context count cells) short buffer ∙ sym (after_is buffer)),
      )

-- ---- an array of our own with room for every accepted table

module _ (context count : ℕ) (cells own : List ℕ) (room : Accepted context count cells → node_cells * count ≤ length own) where
  pub number_refused : (buffer : List ℕ) {B : Type 0} (b : B) (e : Refusal) → Err e ≡ replied (numbering_refusal context count cells (length own)) b
      → (Err e ≡ saved context count cells (length buffer)) × (buffer ≡ saved_after context count cells buffer)
  number_refused buffer b e h =
      let some = (said_err ℕ _ b 0 e h).1 in
      refused_table context count cells buffer _ (is_refusal context count cells own room _ refl some) some b e h

  module _ (done : 0 ≡ numbering_refusal context count cells (length own)) (after : List ℕ) (is : after ≡ numbered_after context count cells own) where
    ok : Accepted context count cells
    ok = is_accepted context count cells own done

    over_own : after ≡ over (numbered (tree_at cells count 1)) own
    over_own = is ∙ is_over context count cells own done

    pub number_room : node_cells * count ≤ length after
    number_room = own_room context count cells ok own after (room ok) over_own

    pub number_length : node_cells * count ≡ length (take (node_cells * count) after)
    number_length = sym (part_length context count cells ok own after (room ok) over_own)

    pub number_saved : (buffer last : List ℕ) (r : Result ℕ Refusal)
        → StoredIn (all_bytes (context ∷ count ∷ take (node_cells * count) after)) buffer last r
        → (r ≡ saved context count cells (length buffer)) × (last ≡ saved_after context count cells buffer)
    number_saved buffer last r e = saved_by context count cells ok own after (room ok) over_own buffer last r e
