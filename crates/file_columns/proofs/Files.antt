-- The refusal of a rearranged file, and what is answered and stored. Assumes nothing.
use mathlib.Core.Path.{◌≡◌, refl, sym, ◌∙◌, ap}
use mathlib.Core.Bool.{Bool, true, false}
use mathlib.Core.List.{List, [], ◌∷◌, ◌++◌}
use Prim.Native.Nat.{ℕ, ◌*◌, ◌≤◌}
use native.Mathlib.Omega.{arith}
use lib.ListN.{length, take}
use lib.Seq.{take_at, length-take-le}
use borrow.Author.Tests.{eq-eqb, ne_eqb}
use Rattle.laws.specs.Choice.{pick}
use Rattle.laws.specs.Lists.{over}
use Rattle.laws.proofs.Choice.{pick_true, pick_false}
use Rattle.laws.proofs.Lists.{length_over}
use Rattle.tree.specs.Sizes.{node_cells, most_nodes}
use Rattle.tree_rules.specs.Refusals.{Refusal, refuse, first_of, node_refusals, refusal, Accepted as Table}
use Rattle.tree_rules.proofs.First.{stop, skip, passed}
use Rattle.tree_rules.proofs.Count.{count_fits, fits_count}
use Rattle.file_loader.specs.declared.Loaded.{Loaded}
use Rattle.std.specs.Prelude.{Ok, Err}
use Rattle.tree.specs.declared.refusal.Refusal.{Refusal as Refused}
use Rattle.tree.specs.Replies.{number_of, replied}
use Rattle.file_loader.proofs.Replied.{refused_by, done_by, said_ok, said_err}
use Rattle.file_loader.specs.Files.{context_in, count_in, cells_in, number_refusals, numbers_refusal, numbers_loaded, numbers_table}
use Rattle.file_loader.proofs.Files.{first_in, nodes_refusal, Passes, passes, body_length}
use Rattle.file_columns.specs.Columns.{restored, refusal19}
use Rattle.file_columns.specs.Rearranged.{restored_in, columns_refusal, columns_loaded}
use Rattle.tree.specs.declared.refusal.Refusal.TheVariants.{Columns}
use Rattle.file_columns.specs.Steps.{Arrays}
use Rattle.file_columns.proofs.Restoring.{restored_length}

-- ---- the numbers of a file, then others

stays : (rs qs : List Refusal) (n : ℕ) → first_of rs ≡ n → (n ≡ 0 → ⊥) → first_of (rs ++ qs) ≡ n
unfolding first_of pick
stays [] qs n e h = absurd (h (sym e))
stays (r ∷ rs) qs n e h = go r.applies e (stays rs qs n)
  where
    go : (b : Bool) → pick b r.number (first_of rs) ≡ n → (first_of rs ≡ n → (n ≡ 0 → ⊥) → first_of (rs ++ qs) ≡ n) → pick b r.number (first_of (rs ++ qs)) ≡ n
    go true p ih = p
    go false p ih = ih p h

module _ (file : List ℕ) (lent : ℕ) (others : List Refusal) where
  numbers_stop : (n : ℕ) → numbers_refusal file lent ≡ n → (n ≡ 0 → ⊥) → first_in file lent others ≡ n
  unfolding numbers_refusal number_refusals
  numbers_stop n e h = stays (number_refusals file lent []) others n e h

  numbers_pass : numbers_refusal file lent ≡ 0 → first_in file lent others ≡ first_of others
  unfolding numbers_refusal number_refusals
  numbers_pass e =
      let r1 = passed 1 _ _ (omega arith) e in
      let r2 = passed 2 _ _ (omega arith) r1.1 in
      let r3 = passed 3 _ _ (omega arith) r2.1 in
      let r4 = passed 4 _ _ (omega arith) r3.1 in
      let r5 = passed 5 _ _ (omega arith) r4.1 in
      skip _ _ r1.0 ∙ skip _ _ r2.0 ∙ skip _ _ r3.0 ∙ skip _ _ r4.0 ∙ skip _ _ r5.0

-- ---- what was answered, by the refusal behind it

pub was_accepted : (R context count k n : ℕ) → Ok (record { context = k; count = n }) ≡ replied {A = Loaded} R (record { context = context; count = count }) → (R ≡ 0) × (k ≡ context) × (n ≡ count)
was_accepted R context count k n e = let s = said_ok {A = Loaded} R _ _ e in (s.0, ap (λ l. l.context) s.1, ap (λ l. l.count) s.1)

module _ (file : List ℕ) (lent : ℕ) where
  numbers_were : (context count : ℕ) → Ok (record { context = context; count = count }) ≡ numbers_loaded file lent → (numbers_refusal file lent ≡ 0) × (context ≡ context_in file) × (count ≡ count_in file)
  unfolding numbers_loaded
  numbers_were context count e = was_accepted _ _ _ context count e

  numbers_were_not : (e : Refused) → Err e ≡ numbers_loaded file lent → (Err e ≡ replied {A = ℕ} (numbers_refusal file lent) 0) × (numbers_refusal file lent ≡ 0 → ⊥)
  unfolding numbers_loaded
  numbers_were_not e h = said_err ℕ _ _ 0 e h

  numbers_over : (table : List ℕ) → lent ≡ length table → numbers_refusal file lent ≡ 0 → numbers_table file table ≡ over (cells_in file) table
  unfolding numbers_table
  numbers_over table e r = pick_true _ _ (eq-eqb _ 0 (rw e at r))

  numbers_not_over : (table : List ℕ) → lent ≡ length table → (numbers_refusal file lent ≡ 0 → ⊥) → numbers_table file table ≡ table
  unfolding numbers_table
  numbers_not_over table e r = pick_false _ _ (ne_eqb _ 0 (rw e at r))

-- ---- what is answered of a rearranged file

module _ (columns : List ℕ) (lent : ℕ) where
  pub columns_refused : {B : Type 0} (b : B) (e : Refused) → Err e ≡ replied (columns_refusal columns lent) b → Err e ≡ columns_loaded columns lent
  unfolding columns_loaded
  columns_refused b e h = (said_err Loaded (columns_refusal columns lent) b (record { context = context_in columns; count = count_in columns }) e h).0

  pub columns_accepted : columns_refusal columns lent ≡ 0 → Ok (record { context = context_in columns; count = count_in columns }) ≡ columns_loaded columns lent
  unfolding columns_loaded
  columns_accepted e = done_by _ _ e

  -- its numbers are refused
  pub bad_numbers : (n : ℕ) → numbers_refusal columns lent ≡ n → (n ≡ 0 → ⊥) → columns_refusal columns lent ≡ n
  unfolding columns_refusal
  bad_numbers n e h = numbers_stop columns lent _ n e h

  -- or they are not
  module _ (fine : numbers_refusal columns lent ≡ 0) where
    passed_numbers : Passes columns lent
    unfolding numbers_refusal
    passed_numbers = (passes columns lent [] fine).0

    pub count_known : (context_in columns ≤ 3) × (1 ≤ count_in columns) × (count_in columns ≤ most_nodes) × (node_cells * count_in columns ≤ lent)
    count_known =
        let p = passed_numbers in
        let f = count_fits (count_in columns) lent p.fits in
        (p.ok, f.0, f.1, f.2)

    pub held_long : length (cells_in columns) ≡ node_cells * count_in columns
    held_long = body_length columns passed_numbers.formed

    pub restored_long : length (restored_in columns) ≡ node_cells * count_in columns
    unfolding restored_in restored
    restored_long = restored_length (count_in columns) (cells_in columns) (count_in columns)

    after_five : columns_refusal columns lent ≡ first_of (refuse 19 (refusal19 (count_in columns) (cells_in columns)) ∷ node_refusals (count_in columns) (restored_in columns))
    unfolding columns_refusal
    after_five = numbers_pass columns lent _ fine

    pub out_of_range : refusal19 (count_in columns) (cells_in columns) ≡ true → columns_refusal columns lent ≡ 19
    out_of_range e = after_five ∙ stop _ _ e

    pub in_range : refusal19 (count_in columns) (cells_in columns) ≡ false → columns_refusal columns lent ≡ refusal (context_in columns) (count_in columns) (restored_in columns)
    in_range e =
        let k = count_known in
        let l = restored_long in
        after_five ∙ skip _ _ e ∙ sym (nodes_refusal (context_in columns) (count_in columns) (restored_in columns) k.0 (fits_count (count_in columns) (length (restored_in columns)) k.1 k.2 (omega arith)))

-- ---- the arrays, once the numbers are read

module _ (columns held after : List ℕ) (context count : ℕ) (is : Ok (record { context = context; count = count }) ≡ numbers_loaded columns (length held)) (are : after ≡ numbers_table columns held) where
  were : (numbers_refusal columns (length held) ≡ 0) × (context ≡ context_in columns) × (count ≡ count_in columns)
  were = numbers_were columns (length held) context count is

  pub fine : numbers_refusal columns (length held) ≡ 0
  fine = were.0

  pub same_context : context ≡ context_in columns
  same_context = were.1

  pub same_count : count ≡ count_in columns
  same_count = were.2

  pub count_fine : (context ≤ 3) × (1 ≤ count) × (count ≤ most_nodes) × (node_cells * count ≤ length held)
  count_fine = rw (same_context, same_count) (count_known columns (length held) fine)

  pub over_held : after ≡ over (cells_in columns) held
  over_held = are ∙ numbers_over columns (length held) held refl fine

  cells_long : length (cells_in columns) ≡ node_cells * count
  cells_long = rw same_count (held_long columns (length held) fine)

  pub held_room : length after ≡ length held
  held_room = let l = cells_long in let k = count_fine in rw over_held (length_over (cells_in columns) held (omega arith))

  pub held_part : take (node_cells * count) after ≡ cells_in columns
  unfolding over
  held_part = rw over_held (take_at (cells_in columns) _ (node_cells * count) cells_long)

  pub held_enough : node_cells * count ≤ length (take (node_cells * count) after)
  held_enough = let l = cells_long in rw held_part (omega arith)

  -- the nodes restored from them
  pub is_outside : refusal19 count (take (node_cells * count) after) ≡ true → columns_refusal columns (length held) ≡ 19
  is_outside e = out_of_range columns (length held) fine (rw (held_part, same_count) at e)

  module _ (cells last : List ℕ) (inside : refusal19 count (take (node_cells * count) after) ≡ false) (laid : last ≡ over (restored count (take (node_cells * count) after)) cells) where
    pub over_cells : last ≡ over (restored_in columns) cells
    unfolding restored_in
    over_cells = laid ∙ rw (held_part, same_count)

    nodes_long : length (restored_in columns) ≡ node_cells * count
    nodes_long = rw same_count (restored_long columns (length held) fine)

    pub cells_room : length held ≤ length cells → length last ≡ length cells
    cells_room h = let l = nodes_long in let k = count_fine in rw over_cells (length_over (restored_in columns) cells (omega arith))

    pub cells_part : take (node_cells * count) last ≡ restored_in columns
    unfolding over
    cells_part = rw over_cells (take_at (restored_in columns) _ (node_cells * count) nodes_long)

    pub refusal_is : columns_refusal columns (length held) ≡ refusal context count (take (node_cells * count) last)
    refusal_is = rw (cells_part, same_context, same_count) (in_range columns (length held) fine (rw (held_part, same_count) at inside))

-- ---- what is answered, and left in the arrays

-- the numbers are refused
pub answer_numbers : (columns held cells after : List ℕ) (e : Refused) → Err e ≡ numbers_loaded columns (length held) → after ≡ numbers_table columns held
    → (Err e ≡ columns_loaded columns (length held)) × Arrays columns held cells after cells
answer_numbers columns held cells after e is are =
    let w = numbers_were_not columns (length held) e is in
    let b = bad_numbers columns (length held) _ refl w.1 in
    let a = are ∙ numbers_not_over columns (length held) held refl w.1 in (
      columns_refused columns (length held) {B = ℕ} 0 e (rw b w.0),
      record { same = rw a; too = refl; are_held = λ z. absurd (w.1 (sym b ∙ z)); are_cells = λ z. absurd (w.1 (sym b ∙ z)) },
    )

module _ (columns held cells after last : List ℕ) (context count : ℕ) (is : Ok (record { context = context; count = count }) ≡ numbers_loaded columns (length held)) (are : after ≡ numbers_table columns held) where
  -- a number is outside
  pub answer_outside : (e : Refused) → (e ≡ Columns) × (refusal19 count (take (node_cells * count) after) ≡ true) × (length last ≡ length cells) → (Err e ≡ columns_loaded columns (length held)) × Arrays columns held cells after last
  answer_outside e l =
      let b = is_outside columns held after context count is are l.1 in (
        columns_refused columns (length held) {B = ℕ} 0 e (refused_by _ e 0 (b ∙ sym (ap number_of l.0))),
        record { same = held_room columns held after context count is are; too = l.2; are_held = λ z. absurd (let y = sym b ∙ z in omega arith); are_cells = λ z. absurd (let y = sym b ∙ z in omega arith) },
      )

  module _ (room : length held ≤ length cells) (all_laid : (refusal19 count (take (node_cells * count) after) ≡ false) × (last ≡ over (restored count (take (node_cells * count) after)) cells)) where
    pub last_room : length last ≡ length cells
    last_room = cells_room columns held after context count is are cells last all_laid.0 all_laid.1 room

    arrays : Arrays columns held cells after last
    arrays =
        record {
          same = held_room columns held after context count is are;
          too = last_room;
          are_held = λ z. over_held columns held after context count is are;
          are_cells = λ z. over_cells columns held after context count is are cells last all_laid.0 all_laid.1;
        }

    of_nodes : columns_refusal columns (length held) ≡ refusal context count (take (node_cells * count) last)
    of_nodes = refusal_is columns held after context count is are cells last all_laid.0 all_laid.1

    -- the nodes are refused, or they are not
    pub answer_nodes : {B : Type 0} (b : B) (e : Refused) → Err e ≡ replied (refusal context count (take (node_cells * count) last)) b → (Err e ≡ columns_loaded columns (length held)) × Arrays columns held cells after last
    answer_nodes b e h = (columns_refused columns (length held) b e (rw of_nodes h), arrays)

    pub answer_accepted : refusal context count (take (node_cells * count) last) ≡ 0 → (Ok (record { context = context; count = count }) ≡ columns_loaded columns (length held)) × Arrays columns held cells after last
    answer_accepted h = (
      rw (same_context columns held after context count is are, same_count columns held after context count is are) (columns_accepted columns (length held) (of_nodes ∙ h)),
      arrays,
    )

-- ---- an accepted rearranged file

pub accepted_columns : (columns : List ℕ) (lent : ℕ) → columns_refusal columns lent ≡ 0
    → (count_in columns ≤ most_nodes) × (node_cells * count_in columns ≤ lent) × (length (cells_in columns) ≡ node_cells * count_in columns) × (length (restored_in columns) ≡ node_cells * count_in columns) × (refusal19 (count_in columns) (cells_in columns) ≡ false) × Table (context_in columns) (count_in columns) (restored_in columns)
unfolding columns_refusal restored_in restored
accepted_columns columns lent e =
    let p = passes columns lent _ e in
    let r = passed 19 _ _ (omega arith) p.1 in
    let f = count_fits (count_in columns) lent p.0.fits in
    let l = restored_length (count_in columns) (cells_in columns) (count_in columns) in
    (f.1, f.2, body_length columns p.0.formed, l, r.0, nodes_refusal (context_in columns) (count_in columns) (restored_in columns) p.0.ok (fits_count (count_in columns) (length (restored_in columns)) f.0 f.1 (omega arith)) ∙ r.1)

-- ---- a part of an array, and what is restored from it

pub part_enough : (n : ℕ) (held : List ℕ) → n ≤ length held → n ≤ length (take n held)
part_enough n held h = let l = length-take-le n held h in omega arith
