-- The refusal of a file, step by step. Assumes nothing.
use mathlib.Core.Path.{◌≡◌, refl, sym, ◌∙◌}
use mathlib.Core.Bool.{true, false}
use mathlib.Core.List.{List, [], ◌∷◌}
use Prim.Native.Nat.{ℕ, suc, ◌*◌, ◌-◌, ◌≤◌, ◌<◌}
use native.Mathlib.Omega.{arith}
use native.Mathlib.Decide.{dec_le}
use lib.Dec.{ltb}
use lib.ListN.{length, take, drop, length-drop}
use borrow.Author.Tests.{eq-eqb, ne_eqb, lt-ltb, le-ltb, ltb-false}
use Rattle.laws.specs.Choice.{pick}
use Rattle.laws.specs.Lists.{over}
use Rattle.laws.proofs.Choice.{pick_true, pick_false, true_not_false, or_false}
use Rattle.tree.specs.Sizes.{node_cells, most_nodes, most_file_bytes}
use Rattle.tree_rules.specs.Refusals.{refusal3, refusal4, Refusal, refuse, first_of, node_refusals, refusal, Accepted as Table}
use Rattle.tree_rules.proofs.First.{stop, skip, no_more, passed}
use Rattle.tree_rules.proofs.Count.{count_fits, fits_count}
use Rattle.std.specs.Prelude.{None, Some, Ok, Err}
use Rattle.tree.specs.declared.refusal.Refusal.{Refusal as Refused}
use Rattle.tree.specs.Replies.{number_of, replied}
use Rattle.file_loader.specs.Several.{Numbers, broken, numbers, numbers_of, is_broken, values_in, bytes_after}
use Rattle.file_loader.specs.Files.{header, header_in, context_in, count_in, body, cells_in, refusal1, refusal2, bad_body, refusal5, number_refusals, file_refusal, loaded, loaded_table, numbers_refusal, numbers_loaded, numbers_table}
use Rattle.tree_source.specs.Source.{behind_header, cells_of, skip as past}
use Rattle.tree_source.proofs.Nodes.{is_value}
use Rattle.file_numbers.specs.Standing.{stands_at}
use Rattle.tree_source.proofs.Cells.{cells_file}
use Rattle.file_loader.specs.declared.Header.{Header}
use Rattle.file_loader.specs.declared.Loaded.{Loaded}
use Rattle.file_loader.specs.Reads.{Passed, LaidOut, Begun, Headed, Counted, body_refusal}
use Rattle.file_loader.proofs.Replied.{refused_by, done_by, said_ok, said_err, passed_up}
use Rattle.file_loader.proofs.Several.{number_bad, numbers_next, numbers_stop, numbers_length, some_left}

-- the first of 6 to 11, where 3 and 4 do not apply
pub nodes_refusal : (context count : ℕ) (cells : List ℕ) → context ≤ 3 → refusal4 count (length cells) ≡ false → refusal context count cells ≡ first_of (node_refusals count cells)
unfolding refusal refusal3
nodes_refusal context count cells h e = skip _ _ (le-ltb 3 context h) ∙ skip _ _ e

-- ---- what is answered and stored

module _ (file table : List ℕ) where
  pub numbers_refused : (e : Refused) → numbers_refusal file (length table) ≡ number_of e → (Err e ≡ numbers_loaded file (length table)) × (table ≡ numbers_table file table)
  unfolding numbers_loaded numbers_table
  numbers_refused e h =
      let r : Err e ≡ replied (numbers_refusal file (length table)) (record { context = context_in file; count = count_in file }) = refused_by _ e _ h in
      (r, sym (pick_false _ _ (ne_eqb _ 0 (said_err Loaded _ _ (record { context = 0; count = 0 }) e r).1)))

  pub refused : {B : Type 0} (b : B) (e : Refused) → Err e ≡ replied (file_refusal file (length table)) b → (Err e ≡ loaded file (length table)) × (table ≡ loaded_table file table)
  unfolding loaded loaded_table
  refused b e h = let s = said_err Loaded _ _ _ e h in (s.0, sym (pick_false _ _ (ne_eqb _ 0 s.1)))

  accepted : file_refusal file (length table) ≡ 0 → (Ok (record { context = context_in file; count = count_in file }) ≡ loaded file (length table)) × (over (cells_in file) table ≡ loaded_table file table)
  unfolding loaded loaded_table
  accepted e = (done_by _ _ e, sym (pick_true _ _ (eq-eqb _ 0 e)))

  numbers_accepted : numbers_refusal file (length table) ≡ 0 → Ok (record { context = context_in file; count = count_in file }) ≡ numbers_loaded file (length table)
  unfolding numbers_loaded
  numbers_accepted e = done_by _ _ e

-- ---- the header

-- the first refusal of a file, or of others after those of its numbers
abbrev pub first_in : List ℕ → ℕ → List Refusal → ℕ
first_in file lent others = first_of (number_refusals file lent others)

module _ (file : List ℕ) (lent : ℕ) (others : List Refusal) where
  pub too_long : most_file_bytes < length file → first_in file lent others ≡ 1
  unfolding number_refusals refusal1
  too_long h = stop _ _ (lt-ltb most_file_bytes (length file) h)

  pub bad_header : length file ≤ most_file_bytes → header file ≡ broken → first_in file lent others ≡ 2
  unfolding number_refusals refusal1 refusal2 is_broken
  bad_header h e = skip _ _ (le-ltb most_file_bytes (length file) h) ∙ stop _ _ (rw e)

pub begun : (file : List ℕ) (context count at : ℕ) → length file ≤ most_file_bytes → header file ≡ numbers (context ∷ count ∷ []) (drop at file) → Begun file context count at
unfolding refusal1 refusal2 context_in count_in body is_broken values_in bytes_after
begun file context count at h e = record { short = le-ltb most_file_bytes (length file) h; formed = rw e; is_context = rw e; is_count = rw e; is_body = rw e }

-- its two numbers, as they stand
pub header_first : (file : List ℕ) → None ≡ stands_at file 0 → header file ≡ broken
unfolding header numbers_of
header_first file e = numbers_stop 0 2 _ [] _ (omega arith) refl (number_bad _ 0 e)

module _ (file : List ℕ) (context second : ℕ) (e : Some (context, second) ≡ stands_at file 0) where
  one : numbers_of 1 file ≡ numbers (context ∷ []) (drop second file)
  unfolding numbers_of
  one = numbers_next 0 _ [] _ 0 _ _ refl e

  pub header_second : None ≡ stands_at file second → header file ≡ broken
  unfolding header
  header_second f = numbers_stop 1 2 _ _ _ (omega arith) one (number_bad _ _ f)

  pub header_both : (count at : ℕ) → Some (count, at) ≡ stands_at file second → (header file ≡ numbers (context ∷ count ∷ []) (drop at file)) × (at ≡ behind_header file)
  unfolding header behind_header past
  header_both count at f = (numbers_next 1 _ _ _ _ _ _ one f, (is_value _ _ _ _ f).1 ∙ rw (is_value _ _ _ _ e).1)

-- what a reader of the header answers
pub header_none : (file : List ℕ) → header file ≡ broken → None ≡ header_in file
unfolding header_in is_broken pick
header_none file e = rw e

pub header_some : (file : List ℕ) (context count at : ℕ) → header file ≡ numbers (context ∷ count ∷ []) (drop at file) → at ≡ behind_header file
    → Some (record { context = context; count = count; body = at }) ≡ header_in file
unfolding header_in is_broken pick context_in count_in values_in
header_some file context count at e s = rw (e, s)

-- ---- the nodes

module _ (file : List ℕ) (lent context count at : ℕ) (b : Begun file context count at) (others : List Refusal) where
  after_header : first_in file lent others ≡ first_of (refuse 3 (refusal3 context) ∷ refuse 4 (refusal4 count lent) ∷ refuse 5 (refusal5 file) ∷ others)
  unfolding number_refusals
  after_header = skip _ _ b.short ∙ skip _ _ b.formed ∙ rw (b.is_context, b.is_count)

  pub bad_context : 3 < context → first_in file lent others ≡ 3
  unfolding refusal3
  bad_context h = after_header ∙ stop _ _ (lt-ltb 3 context h)

  module _ (ok : context ≤ 3) where
    pub bad_count : refusal4 count lent ≡ true → first_in file lent others ≡ 4
    unfolding refusal3
    bad_count e = after_header ∙ skip _ _ (le-ltb 3 context ok) ∙ stop _ _ e

    pub counted_others : refusal4 count lent ≡ false → first_in file lent others ≡ first_of (refuse 5 (refusal5 file) ∷ others)
    unfolding refusal3
    counted_others fits = after_header ∙ skip _ _ (le-ltb 3 context ok) ∙ skip _ _ fits

module _ (file : List ℕ) (lent context count at : ℕ) (b : Begun file context count at) (ok : context ≤ 3) (fits : refusal4 count lent ≡ false) where
  pub after_count : file_refusal file lent ≡ body_refusal file
  unfolding file_refusal body_refusal
  after_count = counted_others file lent context count at b _ ok fits

  -- 5 alone is left of the numbers
  pub after_numbers : refusal5 file ≡ true → numbers_refusal file lent ≡ 5
  unfolding numbers_refusal
  after_numbers e = counted_others file lent context count at b [] ok fits ∙ stop _ _ e

  pub formed_numbers : refusal5 file ≡ false → numbers_refusal file lent ≡ 0
  unfolding numbers_refusal
  formed_numbers e = counted_others file lent context count at b [] ok fits ∙ skip _ _ e ∙ no_more

  pub five_is : refusal5 file ≡ bad_body (numbers_of (node_cells * count) (drop at file))
  unfolding refusal5
  five_is = rw b.is_body

module _ (file : List ℕ) (context count at : ℕ) (b : Begun file context count at) where
  pub refused_body : numbers_of (node_cells * count) (drop at file) ≡ broken → body_refusal file ≡ 5
  unfolding body_refusal refusal5 bad_body is_broken
  refused_body e = stop _ _ (rw (b.is_body, e))

  module _ (cells : List ℕ) (end : ℕ) (read : numbers_of (node_cells * count) (drop at file) ≡ numbers cells (drop end file)) where
    are_cells : cells_in file ≡ cells
    unfolding cells_in values_in
    are_cells = rw (b.is_body, read)

    trails : refusal5 file ≡ ltb 0 (length file - end)
    unfolding refusal5 bad_body is_broken bytes_after
    trails = rw (b.is_body, read, length-drop end file)

    pub trailing : end < length file → body_refusal file ≡ 5
    unfolding body_refusal
    trailing h = stop _ _ (trails ∙ lt-ltb 0 (length file - end) (omega arith))

    -- the numbers that were read are checked as any others
    pub checked : context ≤ 3 → 1 ≤ count → count ≤ most_nodes → length file ≤ end → body_refusal file ≡ refusal context count cells
    unfolding body_refusal
    checked ok low high h =
        let l = numbers_length (node_cells * count) (drop at file) cells (drop end file) read in
        skip _ _ (trails ∙ le-ltb 0 (length file - end) (omega arith))
        ∙ rw (are_cells, b.is_count) (sym (nodes_refusal context count cells ok (fits_count count (length cells) low high (omega arith))))

pub short_file : (file : List ℕ) → refusal1 file ≡ false → length file ≤ most_file_bytes
unfolding refusal1
short_file file e = ltb-false most_file_bytes (length file) e

-- 5 of numbers that have been read
pub broken_body : {ns : Numbers} → ns ≡ broken → true ≡ bad_body ns
unfolding bad_body is_broken
broken_body e = rw e

pub five_formed : (ns : Numbers) → bad_body ns ≡ false → is_broken ns ≡ false
unfolding bad_body
five_formed ns e = (or_false (is_broken ns) _ e).0

pub ended_body : (file : List ℕ) (from n : ℕ) (end : ℕ) → Passed file from n (Some end) → ltb end (length file) ≡ bad_body (numbers_of n (drop from file))
unfolding bad_body is_broken bytes_after
ended_body file from n end e = rw (e, length-drop end file) (go (dec_le (length file) end))
  where
    go : Dec (length file ≤ end) → ltb end (length file) ≡ ltb 0 (length file - end)
    go (yes l) = le-ltb end (length file) l ∙ sym (le-ltb 0 (length file - end) (omega arith))
    go (no l) = lt-ltb end (length file) (omega arith) ∙ sym (lt-ltb 0 (length file - end) (omega arith))

-- what is known where the nodes are looked at
pub to_body : (file : List ℕ) (lent : ℕ) (h : Header) → Headed file lent h → Counted file h.context h.count h.body
to_body file lent h s = let f = count_fits h.count lent s.fits in record { begun = s.begun; is_start = s.is_start; ok = s.ok; low = f.0; high = f.1 }

-- 5 to 11 alone are left then
pub nodes_left : (file : List ℕ) (lent : ℕ) (h : Header) → Headed file lent h → file_refusal file lent ≡ body_refusal file
nodes_left file lent h s = after_count _ _ _ _ _ s.begun s.ok s.fits

-- the cells of the file, where its nodes have been laid out
pub laid_cells : (file : List ℕ) (context count at : ℕ) → Counted file context count at → (places : List ℕ) (end : ℕ) → LaidOut file at (count - 1) places (Some end)
    → numbers_of (node_cells * count) (drop at file) ≡ numbers (cells_of file (take (count - 1) places)) (drop end file)
laid_cells file context count at b places end e =
    let low = b.low in
    let n : suc (count - 1) ≡ count = omega arith in
    let l = some_left (node_cells * suc (count - 1)) at file _ _ (omega arith) e in
    (rw n at e) ∙ rw (cells_file file (take (count - 1) places) (λ z. omega arith), ← b.is_start)

-- the answer once all the numbers are read and checked
module _ (file table : List ℕ) (context count at : ℕ) (b : Begun file context count at) (ok : context ≤ 3) (fits : refusal4 count (length table) ≡ false)
    (cells : List ℕ) (end : ℕ) (read : numbers_of (node_cells * count) (drop at file) ≡ numbers cells (drop end file)) (all : length file ≤ end) where
  pub accepted_nodes : 0 ≡ refusal context count cells → (Ok (record { context = context; count = count }) ≡ loaded file (length table)) × (over cells table ≡ loaded_table file table)
  accepted_nodes e =
      let f = count_fits count (length table) fits in
      let a = accepted file table (after_count file (length table) context count at b ok fits ∙ checked file context count at b cells end read ok f.0 f.1 all ∙ sym e) in
      let c = are_cells file context count at b cells end read in
      (rw (b.is_context, b.is_count) at a.0, rw c at a.1)

-- ---- accepted files

-- a file of which none is refused, one number for each cell
pub body_length : (file : List ℕ) → is_broken (body file) ≡ false → length (cells_in file) ≡ node_cells * count_in file
unfolding cells_in body is_broken values_in
body_length file e = go (numbers_of (node_cells * count_in file) (bytes_after (header file))) refl (e)
  where
    go : (x : Numbers) → numbers_of (node_cells * count_in file) (bytes_after (header file)) ≡ x → is_broken x ≡ false → length (values_in x) ≡ node_cells * count_in file
    go broken p q = true_not_false q
    go (numbers ns bytes) p q = numbers_length (node_cells * count_in file) (bytes_after (header file)) ns bytes p

-- what is known of a file whose numbers are not refused
pub record Passes (file : List ℕ) (lent : ℕ) : Type 0 where
  pub short : length file ≤ most_file_bytes
  pub headed : refusal2 file ≡ false
  pub ok : context_in file ≤ 3
  pub fits : refusal4 (count_in file) lent ≡ false
  pub formed : is_broken (body file) ≡ false
  pub ended : ltb 0 (length (bytes_after (body file))) ≡ false

-- nor are others after them
pub passes : (file : List ℕ) (lent : ℕ) (others : List Refusal) → first_in file lent others ≡ 0 → Passes file lent × (first_of others ≡ 0)
unfolding number_refusals refusal1 refusal3 refusal5 bad_body
passes file lent others e =
    let r1 = passed 1 _ _ (omega arith) e in
    let r2 = passed 2 _ _ (omega arith) r1.1 in
    let r3 = passed 3 _ _ (omega arith) r2.1 in
    let r4 = passed 4 _ _ (omega arith) r3.1 in
    let r5 = passed 5 _ _ (omega arith) r4.1 in
    let b = or_false (is_broken (body file)) _ r5.0 in (
      record {
        short = ltb-false most_file_bytes (length file) r1.0;
        headed = r2.0;
        ok = ltb-false 3 (context_in file) r3.0;
        fits = r4.0;
        formed = b.0;
        ended = b.1;
      },
      r5.1,
    )

pub file_passes : (file : List ℕ) (lent : ℕ) → file_refusal file lent ≡ 0 → Passes file lent × (first_of (node_refusals (count_in file) (cells_in file)) ≡ 0)
unfolding file_refusal
file_passes file lent e = passes file lent _ e

-- its nodes are at most 4,096 and have six cells each, and they are an accepted table
pub accepted_cells : (file : List ℕ) (lent : ℕ) → file_refusal file lent ≡ 0 → (count_in file ≤ most_nodes) × (length (cells_in file) ≡ node_cells * count_in file) × Table (context_in file) (count_in file) (cells_in file)
accepted_cells file lent e =
    let p = file_passes file lent e in
    let r = p.0 in
    let f = count_fits (count_in file) lent r.fits in
    let l = body_length file r.formed in
    let t = nodes_refusal (context_in file) (count_in file) (cells_in file) r.ok (fits_count _ _ f.0 f.1 (omega arith)) ∙ p.1 in
    (f.1, l, t)

pub accepted_file : (file : List ℕ) (lent : ℕ) → file_refusal file lent ≡ 0 → Table (context_in file) (count_in file) (cells_in file)
accepted_file file lent e = (accepted_cells file lent e).2

-- what is stored of it, once its header is read again
module _ (file : List ℕ) (lent : ℕ) (e : file_refusal file lent ≡ 0) (context count at : ℕ) (b : Begun file context count at) where
  pub stored_room : node_cells * count ≤ lent
  stored_room = rw b.is_count at (count_fits (count_in file) lent (file_passes file lent e).0.fits).2

  pub stored_formed : is_broken (numbers_of (node_cells * count) (drop at file)) ≡ false
  stored_formed = rw b.is_body at (file_passes file lent e).0.formed

module _ (file table : List ℕ) (context count at : ℕ) (b : Begun file context count at) where
  pub stored : file_refusal file (length table) ≡ 0 → (Ok (record { context = context; count = count }) ≡ loaded file (length table)) × (over (values_in (numbers_of (node_cells * count) (drop at file))) table ≡ loaded_table file table)
  unfolding cells_in
  stored e = let r = accepted file table e in (rw (b.is_context, b.is_count) at r.0, rw b.is_body at r.1)

  -- the same of its numbers alone
  pub numbers_stored : numbers_refusal file (length table) ≡ 0 → (Ok (record { context = context; count = count }) ≡ numbers_loaded file (length table)) × (over (values_in (numbers_of (node_cells * count) (drop at file))) table ≡ numbers_table file table)
  unfolding numbers_table cells_in
  numbers_stored e = (rw (b.is_context, b.is_count) at (numbers_accepted file table e), rw (← b.is_body) (sym (pick_true _ _ (eq-eqb _ 0 e))))

-- ---- what loading answers and stores, once the header is read, by which its proof is found

module _ (file table : List ℕ) (h : Header) where
  -- where one of 5 to 11 applies
  module _ (e : Refused) (s : Headed file (length table) h) (r : Err e ≡ replied (body_refusal file) (tt {0})) where
    said : (Err e ≡ loaded file (length table)) × (table ≡ loaded_table file table)
    said = refused file table (tt {0}) e (rw (nodes_left file (length table) h s) r)

    pub left_refused : loaded file (length table) ≡ Err e
    left_refused = sym said.0

    pub left_table : loaded_table file table ≡ table
    left_table = sym said.1

  -- where none does
  module _ (nodes : ℕ) (n : nodes ≡ h.count) (s : Headed file (length table) h) (a : Unit {0}) (r : Ok a ≡ replied (body_refusal file) (tt {0})) where
    none : file_refusal file (length table) ≡ 0
    none = nodes_left file (length table) h s ∙ (said_ok _ _ _ r).0

    pub left_room : node_cells * nodes ≤ length table
    left_room = rw n (stored_room file (length table) none _ _ _ s.begun)

    pub left_formed : is_broken (numbers_of (node_cells * nodes) (drop h.body file)) ≡ false
    left_formed = rw n (stored_formed file (length table) none _ _ _ s.begun)

    pub left_reply : loaded file (length table) ≡ Ok (record { context = h.context; count = h.count })
    left_reply = sym (stored file table _ _ _ s.begun none).0

    pub left_stored : loaded_table file table ≡ over (values_in (numbers_of (node_cells * nodes) (drop h.body file))) table
    left_stored = rw n (sym (stored file table _ _ _ s.begun none).1)

pub ruleset loading = (to_body, left_refused, left_table, left_room, left_formed, left_reply, left_stored, passed_up)
