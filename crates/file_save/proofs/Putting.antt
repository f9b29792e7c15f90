-- Laws of bytes put into a buffer. Assumes nothing.
use mathlib.Core.Path.{◌≡◌, sym, ap, ◌∙◌}
use mathlib.Core.Bool.{Bool, true, false}
use mathlib.Core.List.{List, ◌∷◌}
use Prim.Native.Nat.{ℕ, suc, ◌+◌, ◌-◌, ◌≤◌, ◌<◌}
use native.Mathlib.Omega.{arith}
use native.Mathlib.Decide.{dec_le}
use lib.ListN.{length, get_or, take, length-append}
use lib.Dec.{ltb}
use borrow.Author.Tests.{ltb-false, lt-ltb, le-ltb}
use Rattle.tree.specs.Sizes.{most_file_bytes}
use Rattle.laws.specs.Lists.{over}
use Rattle.laws.specs.Puts.{Put}
use Rattle.laws.proofs.Choice.{pick_true, pick_false, true_not_false}
use Rattle.laws.proofs.Putting.{put_more, put_over}
use Rattle.file_bytes.specs.Bytes.{bytes_of, all_bytes}
use Rattle.file_bytes.proofs.Several.{all_next}
use Rattle.std.specs.Prelude.{Option, Some, None, Ok, Err, min, not, is_some}
use Rattle.tree.specs.declared.refusal.Refusal.TheVariants.{Short}
use Rattle.tree_rules.proofs.First.{stop, skip, no_more}
use Rattle.file_loader.proofs.Replied.{refused_by, done_by}
use Rattle.file_save.specs.Stores.{Leaves}
use Rattle.file_save.specs.Saves.{save_refusal12, stored, stored_after, counted_of}

-- one number more
pub put_next : {before mid after : List ℕ} {from at next : ℕ} (ns : List ℕ) (j : ℕ) → j < length ns → Put before from (all_bytes (take j ns)) mid at → Put mid at (bytes_of (get_or ns j 0)) after next → Put before from (all_bytes (take (j + 1) ns)) after next
put_next ns j h p q =
    let s : j + 1 ≡ suc j = omega arith in
    rw (s, all_next ns j h) (put_more p q)

-- and how long they are with it
pub bytes_next : (ns : List ℕ) (j : ℕ) → j < length ns → length (all_bytes (take (j + 1) ns)) ≡ length (all_bytes (take j ns)) + length (bytes_of (get_or ns j 0))
bytes_next ns j h =
    let s : j + 1 ≡ suc j = omega arith in
    rw s (ap length (all_next ns j h) ∙ length-append (all_bytes (take j ns)) (bytes_of (get_or ns j 0)))

-- ---- a whole file

-- the bytes of a context, a count and the nodes' numbers
module _ (context count : ℕ) (numbers : List ℕ) where
  abbrev pub whole : List ℕ
  whole = all_bytes (context ∷ count ∷ numbers)

  pub whole_long : length whole ≡ length (bytes_of context) + length (bytes_of count) + length (all_bytes numbers)
  unfolding all_bytes
  whole_long = simp length-append (omega arith)

  -- one after the other
  pub put_whole : {before one two after : List ℕ} {second body next : ℕ} → Put before 0 (bytes_of context) one second → Put one second (bytes_of count) two body → Put two body (all_bytes numbers) after next
      → length whole ≤ length before → after ≡ over whole before
  unfolding all_bytes
  put_whole p q r h = put_over (put_more p (put_more q r)) h

-- what is answered and stored
module _ (bytes buffer : List ℕ) (room : ℕ) where
  pub no_room : ltb room (length bytes) ≡ true → (Err Short ≡ stored bytes room) × (buffer ≡ stored_after bytes room buffer)
  unfolding stored stored_after save_refusal12
  no_room e = (refused_by _ Short _ (stop _ _ e), sym (pick_true _ _ e))

  pub has_room : length bytes ≤ room → (n : ℕ) → n ≡ length bytes → (after : List ℕ) → after ≡ over bytes buffer → (Ok n ≡ stored bytes room) × (after ≡ stored_after bytes room buffer)
  unfolding stored stored_after save_refusal12
  has_room h n e after f = (rw e (done_by _ _ (skip _ _ (le-ltb _ _ h) ∙ no_more)), f ∙ sym (pick_false _ _ (le-ltb _ _ h)))

-- ---- what an answer can count of a buffer

pub few_counted : (lent : ℕ) → lent < most_file_bytes → counted_of lent ≡ lent
unfolding counted_of
few_counted lent h = pick_true _ _ (lt-ltb lent most_file_bytes h)

pub many_counted : (lent : ℕ) → most_file_bytes ≤ lent → counted_of lent ≡ most_file_bytes - 1
unfolding counted_of
many_counted lent h = pick_false _ _ (le-ltb lent most_file_bytes h)

-- not more than it has, nor than can be counted
pub counted_most : (lent : ℕ) → (counted_of lent ≤ lent) × (counted_of lent < most_file_bytes)
counted_most lent = go (dec_le most_file_bytes lent)
  where
    go : Dec (most_file_bytes ≤ lent) → (counted_of lent ≤ lent) × (counted_of lent < most_file_bytes)
    go (yes h) = let e = many_counted lent h in (omega arith, omega arith)
    go (no h) = let e = few_counted lent (omega arith) in (omega arith, omega arith)

-- bytes that can be counted fit in them where they fit in the buffer
module _ (bytes : List ℕ) (short : length bytes < most_file_bytes) where
  room_counted : (lent : ℕ) → ltb (counted_of lent) (length bytes) ≡ ltb lent (length bytes)
  room_counted lent = go (dec_le most_file_bytes lent)
    where
      go : Dec (most_file_bytes ≤ lent) → ltb (counted_of lent) (length bytes) ≡ ltb lent (length bytes)
      go (yes h) = let e = many_counted lent h in le-ltb (counted_of lent) (length bytes) (omega arith) ∙ sym (le-ltb lent (length bytes) (omega arith))
      go (no h) = rw (few_counted lent (omega arith))

  pub stored_counted : (lent : ℕ) → stored bytes (counted_of lent) ≡ stored bytes lent
  unfolding stored save_refusal12
  stored_counted lent = rw (room_counted lent)

  pub after_counted : (buffer : List ℕ) → stored_after bytes (counted_of (length buffer)) buffer ≡ stored_after bytes (length buffer) buffer
  unfolding stored_after save_refusal12
  after_counted buffer = rw (room_counted (length buffer))

-- a buffer with room for a whole file, of which an answer can count so much
pub room_whole : (context count : ℕ) (numbers : List ℕ) (room lent : ℕ) → room ≡ counted_of lent → ltb room (length (whole context count numbers)) ≡ false
    → (length (whole context count numbers) ≤ counted_of lent) × (length (whole context count numbers) ≤ lent) × (length (whole context count numbers) < most_file_bytes)
room_whole context count numbers room lent e h =
    let r = ltb-false room (length (whole context count numbers)) h in
    let m = counted_most lent in
    (omega arith, omega arith, omega arith)

-- the largest that can be counted of it
pub least_counted : (lent : ℕ) → min lent 65535 ≡ counted_of lent
least_counted lent = go (dec_le most_file_bytes lent)
  where
    go : Dec (most_file_bytes ≤ lent) → min lent 65535 ≡ counted_of lent
    go (yes h) = let e = many_counted lent h in omega arith
    go (no h) = let e = few_counted lent (omega arith) in omega arith

-- what several numbers leave behind a header, or nothing
pub left_none : (context count : ℕ) (numbers : List ℕ) (room header : ℕ) → header ≡ length (bytes_of context) + length (bytes_of count) → header ≤ room
    → (r : Option ℕ) → Leaves (all_bytes numbers) (room - header) r → (b : Bool) → is_some r ≡ not b → b ≡ ltb room (length (whole context count numbers))
left_none context count numbers room header e h None l true z =
    let w = whole_long context count numbers in
    sym (lt-ltb room (length (whole context count numbers)) (omega arith))
left_none context count numbers room header e h None l false z = true_not_false (sym z)
left_none context count numbers room header e h (Some left) l true z = true_not_false z
left_none context count numbers room header e h (Some left) l false z =
    let w = whole_long context count numbers in
    sym (le-ltb room (length (whole context count numbers)) (omega arith))
