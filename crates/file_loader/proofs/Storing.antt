-- The numbers of a file in the lent table, node by node. Assumes nothing.
use mathlib.Core.Path.{◌≡◌, refl, sym, ◌∙◌}
use mathlib.Core.Bool.{Bool, true, false}
use mathlib.Core.List.{List, [], ◌∷◌}
use Prim.Native.Nat.{ℕ, ◌+◌, ◌*◌, ◌-◌, ◌≤◌, ◌<◌}
use native.Mathlib.Omega.{arith}
use native.Mathlib.Decide.{dec_le}
use native.Mathlib.Numerals.{towards_suc}
use lib.ListN.{length, get_or, set, drop, length-set}
use Rattle.laws.specs.Lists.{over}
use Rattle.laws.specs.Puts.{Put}
use Rattle.laws.proofs.Choice.{true_not_false}
use Rattle.laws.proofs.Putting.{put_none, put_more, put_over}
use Rattle.tree.specs.Sizes.{node_cells}
use Rattle.tree.specs.Table.{attributes_column, detail_column, first_column, second_column, symbol_column}
use Rattle.tree_source.specs.Source.{run}
use Rattle.tree_source.proofs.Nodes.{is_value}
use Rattle.std.specs.Prelude.{None, Some}
use Rattle.file_numbers.specs.Numbers.{malformed}
use Rattle.file_numbers.specs.Standing.{stands_at}
use Rattle.file_numbers.proofs.Groups.{nothing_left, cut_after_one, zero_second, two_bytes, cut_after_two, zero_third, high_third, three_bytes}
use Rattle.file_loader.specs.Several.{Numbers, broken, numbers, numbers_of, is_broken, values_in}
use Rattle.file_loader.specs.Reads.{StoredNode}
use Rattle.file_loader.proofs.Several.{ReadTo, number_bad, numbers_stop, numbers_append, numbers_break, numbers_length, not_broken}

-- ---- a number that is well formed: what `known_at` does not ask

module _ (file : List ℕ) (at : ℕ) (formed : malformed (drop at file) ≡ false) where
  never : {A : Type 0} → None ≡ stands_at file at → A
  never e = true_not_false (sym (number_bad file at e) ∙ formed)

  pub one_left : at < length file
  one_left = go (dec_le (length file) at)
    where
      go : Dec (length file ≤ at) → at < length file
      go (yes h) = never (nothing_left file at h)
      go (no h) = omega arith

  module _ (low : ℕ) (is_low : low ≡ get_or file at 0) (on : 128 ≤ low) (low_byte : low < 256) where
    pub two_left : 2 ≤ length file - at
    two_left = go (dec_le 2 (length file - at))
      where
        go : Dec (2 ≤ length file - at) → 2 ≤ length file - at
        go (yes h) = h
        go (no h) = never (cut_after_one file at low is_low one_left on low_byte (omega arith))

    module _ (middle : ℕ) (is_middle : middle ≡ get_or file (at + 1) 0) where
      pub known_two : middle < 128 → Some (low - 128 + 128 * middle, at + 2) ≡ stands_at file at
      known_two h = two_bytes file at low is_low one_left on low_byte middle is_middle two_left (λ z. never (zero_second file at low is_low one_left on low_byte middle is_middle two_left z)) h

      module _ (on' : 128 ≤ middle) (middle_byte : middle < 256) where
        pub three_left : 3 ≤ length file - at
        three_left = go (dec_le 3 (length file - at))
          where
            go : Dec (3 ≤ length file - at) → 3 ≤ length file - at
            go (yes h) = h
            go (no h) = never (cut_after_two file at low is_low one_left on low_byte middle is_middle two_left on' middle_byte (omega arith))

        module _ (high : ℕ) (is_high : high ≡ get_or file (at + 2) 0) where
          pub low_third : high ≤ 3
          low_third = go (dec_le high 3)
            where
              go : Dec (high ≤ 3) → high ≤ 3
              go (yes h) = h
              go (no h) = never (high_third file at low is_low one_left on low_byte middle is_middle two_left on' middle_byte high is_high three_left (omega arith))

          pub known_three : Some (low - 128 + 128 * (middle - 128) + 16384 * high, at + 3) ≡ stands_at file at
          known_three =
              three_bytes file at low is_low one_left on low_byte middle is_middle two_left on' middle_byte high is_high three_left
              (λ z. never (zero_third file at low is_low one_left on low_byte middle is_middle two_left on' middle_byte high is_high three_left z))
              low_third

-- ---- numbers that are well formed, one after the other

-- where n numbers are, the one after k of them is
pub still_formed : (k n : ℕ) (file : List ℕ) (from at : ℕ) → k < n → is_broken (numbers_of n (drop from file)) ≡ false → ReadTo k file from at → malformed (drop at file) ≡ false
still_formed k n file from at l e r = go (malformed (drop at file)) refl
  where
    go : (b : Bool) → malformed (drop at file) ≡ b → malformed (drop at file) ≡ false
    go true h = not_broken _ e (numbers_stop k n (drop from file) _ _ l r.0 h)
    go false h = h

-- ---- nodes in a table

-- six numbers
pub put_six : (before : List ℕ) (at a b c d e f : ℕ) → Put before at (a ∷ b ∷ c ∷ d ∷ e ∷ f ∷ []) (set (set (set (set (set (set before at a) (at + attributes_column) b) (at + detail_column) c) (at + first_column) d) (at + second_column) e) (at + symbol_column) f) (at + node_cells)
put_six before at a b c d e f = record { cells = simp towards_suc; ends = refl; room = simp length-set }

-- those that were read one after the other
module _ (file : List ℕ) (at : ℕ) (table : List ℕ) (cell : ℕ) where
  pub put_node : (a b : ℕ) → Some (a, b) ≡ stands_at file at → (c d : ℕ) → Some (c, d) ≡ stands_at file b → (e f : ℕ) → Some (e, f) ≡ stands_at file d → (g h : ℕ) → Some (g, h) ≡ stands_at file f
      → (i j : ℕ) → Some (i, j) ≡ stands_at file h → (k l : ℕ) → Some (k, l) ≡ stands_at file j
      → Put table cell (run node_cells file at) (set (set (set (set (set (set table cell a) (cell + attributes_column) c) (cell + detail_column) e) (cell + first_column) g) (cell + second_column) i) (cell + symbol_column) k) (cell + node_cells)
  unfolding run
  put_node a b p c d q e f r g h s i j t k l u =
      let p' = is_value file at a b p in
      let q' = is_value file b c d q in
      let r' = is_value file d e f r in
      let s' = is_value file f g h s in
      let t' = is_value file h i j t in
      let u' = is_value file j k l u in
      rw (← p'.1, ← q'.1, ← r'.1, ← s'.1, ← t'.1, ← p'.0, ← q'.0, ← r'.0, ← s'.0, ← t'.0, ← u'.0)
      (put_six table cell a c e g i k)

-- so many nodes from a place on stand over the start of a table, and the next begins at another place
pub record StoredTo (file : List ℕ) (from : ℕ) (before after : List ℕ) (done at : ℕ) : Type 0 where
  pub values : List ℕ
  pub read : numbers_of (node_cells * done) (drop from file) ≡ numbers values (drop at file)
  pub put : Put before 0 values after (node_cells * done)

pub stored_none : (file : List ℕ) (from : ℕ) (table : List ℕ) → StoredTo file from table table 0 from
unfolding numbers_of
stored_none file from table = record { values = []; read = refl; put = put_none table 0 }

module _ (file : List ℕ) (from : ℕ) (before after : List ℕ) (done at : ℕ) (s : StoredTo file from before after done at) where
  -- a node more is well formed where all are
  pub next_formed : (nodes : ℕ) → done < nodes → is_broken (numbers_of (node_cells * nodes) (drop from file)) ≡ false → is_broken (numbers_of node_cells (drop at file)) ≡ false
  unfolding is_broken
  next_formed nodes l e = go (numbers_of node_cells (drop at file)) refl
    where
      go : (x : Numbers) → numbers_of node_cells (drop at file) ≡ x → is_broken x ≡ false
      go broken p = not_broken _ e (numbers_break (node_cells * done) node_cells (node_cells * nodes) (drop from file) _ _ (omega arith) s.read p)
      go (numbers ns bytes) p = refl

  pub stored_more : (last : List ℕ) (next : ℕ) → StoredNode file at (node_cells * done) after last next → StoredTo file from before last (done + 1) next
  stored_more last next n =
      let e : node_cells * (done + 1) ≡ node_cells * done + node_cells = omega arith in
      record {
        values = _;
        read = numbers_append (node_cells * done) node_cells (node_cells * (done + 1)) (drop from file) _ _ _ _ (omega arith) s.read n.read;
        put = rw e (put_more s.put n.put);
      }

  pub stored_all : node_cells * done ≤ length before → after ≡ over (values_in (numbers_of (node_cells * done) (drop from file))) before
  unfolding values_in
  stored_all h = let l = numbers_length _ _ _ _ s.read in rw s.read (put_over s.put (omega arith))
