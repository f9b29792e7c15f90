-- Each node of an accepted table at its number: the numbers, from owners to operands, and the cells that are stored there. Assumes nothing.
use mathlib.Core.Path.{◌≡◌, refl, sym, ap, ◌∙◌}
use mathlib.Core.Bool.{Bool}
use mathlib.Core.List.{List, [], ◌∷◌, ◌++◌, append-nil}
use mathlib.Core.Logic.{◌⊎◌, inl, inr}
use Prim.Native.Nat.{ℕ, zero, suc, ◌+◌, ◌*◌, ◌-◌, ◌≤◌, ◌<◌}
use native.Mathlib.Omega.{arith}
use native.Mathlib.Decide.{dec_le}
use lib.Dec.{eqb}
use lib.ListN.{length, get_or, set, drop, length-append, length-drop, length-set, get_or-append}
use lib.Seq.{get_or-set_same, get_or-set_other, get_or-drop, get_or-append-add, ext_get_or, sets, length-sets}
use Rattle.laws.specs.Choice.{pick}
use Rattle.laws.specs.Lists.{over}
use Rattle.laws.proofs.Lists.{length_over}
use Rattle.tree.specs.Sizes.{node_cells}
use Rattle.tree.specs.Table.{cell_at, form_at, attributes_at, detail_at, first_at, second_at, symbol_at, first_column, second_column}
use Rattle.tree.specs.Trees.{label_at, tree_at}
use Rattle.tree_rules.specs.Refusals.{Accepted}
use Rattle.tree_rules.proofs.Accepted.{count_bounds, first_most, second_most}
use Rattle.tree_numbering.specs.Numbered.{size, number_of, cells_from, numbered}
use Rattle.tree_numbering.specs.Passes.{Copied}
use Rattle.tree_numbering.proofs.Holds.{length_numbered, Holds, Parts, parts}
use Rattle.tree_numbering.proofs.Sizes.{sized_node, size_accepted}
use Rattle.tree_numbering.proofs.Owners.{first_above, second_above, node_tree, number_first, number_second, same_owner, each_owned, each_owner}
use Rattle.tree_numbering.proofs.Spans.{size_zero}

-- ---- runs of stores, cell by cell

outside : (xs l : List ℕ) (i p : ℕ) → (p < i) ⊎ (i + length xs ≤ p) → get_or (sets l i xs) p 0 ≡ get_or l p 0
outside [] l i p h = refl
outside (x ∷ xs) l i p (inl h) = outside xs (set l i x) (suc i) p (inl (omega arith)) ∙ get_or-set_other l i p x 0 (λ e. omega arith)
outside (x ∷ xs) l i p (inr h) = outside xs (set l i x) (suc i) p (inr (omega arith)) ∙ get_or-set_other l i p x 0 (λ e. omega arith)

inside : (xs l : List ℕ) (i k : ℕ) → k < length xs → i + length xs ≤ length l → get_or (sets l i xs) (i + k) 0 ≡ get_or xs k 0
inside [] l i k h r = absurd (omega arith)
inside (x ∷ xs) l i zero h r =
    let z : i + 0 ≡ i = omega arith in
    rw z (outside xs (set l i x) (suc i) i (inl (omega arith)) ∙ get_or-set_same l i x 0 (omega arith))
inside (x ∷ xs) l i (suc k) h r =
    let z : i + suc k ≡ suc i + k = omega arith in
    rw z (inside xs (set l i x) (suc i) k (omega arith) (simp length-set (omega arith)))

-- ---- what the pass keeps

-- node 1 has number 1, and the operands of the first n nodes have theirs
pub record Placed (count : ℕ) (cells : List ℕ) (n : ℕ) (ps : List ℕ) : Type 0 where
  pub room : count < length ps
  pub root : get_or ps 1 0 ≡ 1
  pub one : (i : ℕ) → 1 ≤ i → i ≤ n → 1 ≤ first_at cells i → get_or ps (first_at cells i) 0 ≡ suc (get_or ps i 0)
  pub two : (i : ℕ) → 1 ≤ i → i ≤ n → 1 ≤ second_at cells i → get_or ps (second_at cells i) 0 ≡ suc (get_or ps i 0 + size (tree_at cells count (first_at cells i)))

-- where the first n nodes have their numbers the lent table holds the numbered tree, and past the nodes what it held before
pub record Filled (count : ℕ) (cells : List ℕ) (n : ℕ) (ps before after : List ℕ) : Type 0 where
  pub long : length after ≡ length before
  pub at : (i : ℕ) → 1 ≤ i → i ≤ n → (p : ℕ) → node_cells * (get_or ps i 0 - 1) ≤ p → p < node_cells * get_or ps i 0 → get_or after p 0 ≡ get_or (numbered (tree_at cells count 1)) p 0
  pub past : (p : ℕ) → node_cells * count ≤ p → get_or after p 0 ≡ get_or before p 0

module _ (context count : ℕ) (cells : List ℕ) (ok : Accepted context count cells) where
  abbrev whole : List ℕ
  whole = numbered (tree_at cells count 1)

  whole_long : length whole ≡ node_cells * count
  whole_long =
      let s = size_accepted context count cells ok in
      let l = length_numbered (tree_at cells count 1) in
      omega arith

  -- what a copy stored before it ended early is written over
  pub over_copied : (before after : List ℕ) (r : Bool) → Copied cells count before after r → over whole after ≡ over whole before
  unfolding over
  over_copied before after r c = rw (whole_long, c.rest)

  -- ---- numbers

  pub placed_none : (ps : List ℕ) → count < length ps → Placed count cells 0 (set ps 1 1)
  placed_none ps h =
      let k = count_bounds context count cells ok in
      record { room = simp length-set h; root = get_or-set_same ps 1 1 0 (omega arith); one = λ i p q. absurd (omega arith); two = λ i p q. absurd (omega arith) }

  -- a node's tree stands in the whole where its number says
  record Stands (ps : List ℕ) (i : ℕ) : Type 0 where
    before : ℕ
    is : get_or ps i 0 ≡ suc before
    rest : List ℕ
    holds : Holds whole before (tree_at cells count i) rest

  module _ (n : ℕ) (ps : List ℕ) (placed : Placed count cells n ps) where
    its_parts : (i : ℕ) → 1 ≤ i → i ≤ count → (s : Stands ps i) → Parts whole s.before (label_at cells i) (tree_at cells count (first_at cells i)) (tree_at cells count (second_at cells i)) s.rest
    its_parts i low high s = parts whole s.before _ _ _ s.rest (rw (node_tree context count cells ok i low high) at s.holds)

    stands : (i : ℕ) → 1 ≤ i → i ≤ count → i ≤ suc n → Stands ps i
    unfolding numbered
    stands = each_owned context count cells ok (λ i. i ≤ suc n → Stands ps i) root first second
      where
        root : 1 ≤ suc n → Stands ps 1
        root h = record { before = 0; is = placed.root; rest = []; holds = sym (append-nil _) }

        first : (i : ℕ) → 1 ≤ i → i ≤ count → 1 ≤ first_at cells i → (i ≤ suc n → Stands ps i) → first_at cells i ≤ suc n → Stands ps (first_at cells i)
        first i low high h r q =
            let w = first_above context count cells ok i low high h in
            let s = r (omega arith) in
            record { before = suc s.before; is = placed.one i low (omega arith) h ∙ ap suc s.is; rest = _; holds = (its_parts i low high s).one }

        second : (i : ℕ) → 1 ≤ i → i ≤ count → 1 ≤ second_at cells i → (i ≤ suc n → Stands ps i) → second_at cells i ≤ suc n → Stands ps (second_at cells i)
        second i low high h r q =
            let w = second_above context count cells ok i low high h in
            let s = r (omega arith) in
            record { before = suc s.before + size (tree_at cells count (first_at cells i)); is = placed.two i low (omega arith) h ∙ rw s.is; rest = _; holds = (its_parts i low high s).two }

    -- ---- one node more

    module _ (high : n < count) where
      -- its operands are none of the nodes up to it, and no operands of those before it
      first_apart : (j : ℕ) → 1 ≤ j → j ≤ suc n → j ≡ first_at cells (suc n) → ⊥
      first_apart j p q e = let w = first_above context count cells ok (suc n) (omega arith) high (omega arith) in omega arith

      second_apart : (j : ℕ) → 1 ≤ j → j ≤ suc n → j ≡ second_at cells (suc n) → ⊥
      second_apart j p q e = let w = second_above context count cells ok (suc n) (omega arith) high (omega arith) in omega arith

      owned_apart : (i k l : ℕ) → 1 ≤ i → i ≤ n → (k ≡ first_column) ⊎ (k ≡ second_column) → (l ≡ first_column) ⊎ (l ≡ second_column) → i < cell_at cells i k → cell_at cells i k ≤ count → cell_at cells i k ≡ cell_at cells (suc n) l → ⊥
      owned_apart i k l p q a b w v e =
          let r = (same_owner context count cells ok i k (suc n) l p (omega arith) (omega arith) high a b (omega arith) v (sym e)).0 in
          omega arith

      module _ (x y : ℕ) where
        abbrev next : List ℕ
        next = set (set ps (first_at cells (suc n)) x) (second_at cells (suc n)) y

        kept : (j : ℕ) → (j ≡ first_at cells (suc n) → ⊥) → (j ≡ second_at cells (suc n) → ⊥) → get_or next j 0 ≡ get_or ps j 0
        kept j p q = get_or-set_other (set ps (first_at cells (suc n)) x) (second_at cells (suc n)) j y 0 q ∙ get_or-set_other ps (first_at cells (suc n)) j x 0 p

        pub low_kept : (j : ℕ) → 1 ≤ j → j ≤ suc n → get_or next j 0 ≡ get_or ps j 0
        low_kept j p q = kept j (first_apart j p q) (second_apart j p q)

        owned_kept : (i k : ℕ) → 1 ≤ i → i ≤ n → (k ≡ first_column) ⊎ (k ≡ second_column) → i < cell_at cells i k → cell_at cells i k ≤ count → get_or next (cell_at cells i k) 0 ≡ get_or ps (cell_at cells i k) 0
        owned_kept i k p q a w v = kept (cell_at cells i k) (owned_apart i k first_column p q a (inl refl) w v) (owned_apart i k second_column p q a (inr refl) w v)

        pub placed_more : x ≡ get_or ps (suc n) 0 + 1 → y ≡ get_or ps (suc n) 0 + size (tree_at cells count (first_at cells (suc n))) + 1 → Placed count cells (suc n) next
        placed_more ex ey = record { room = simp length-set placed.room; root = low_kept 1 (omega arith) (omega arith) ∙ placed.root; one = λ i p q h. one i p h (dec_le i n) q; two = λ i p q h. two i p h (dec_le i n) q }
          where
            new_first : 1 ≤ first_at cells (suc n) → get_or next (first_at cells (suc n)) 0 ≡ suc (get_or next (suc n) 0)
            new_first h =
                let w = first_above context count cells ok (suc n) (omega arith) high h in
                let r = placed.room in
                let k = low_kept (suc n) (omega arith) (omega arith) in
                let g = get_or-set_other (set ps (first_at cells (suc n)) x) (second_at cells (suc n)) (first_at cells (suc n)) y 0 (λ e. let z = (same_owner context count cells ok (suc n) first_column (suc n) second_column (omega arith) high (omega arith) high (inl refl) (inr refl) (omega arith) w.1 (sym e)).1 in omega arith) in
                let s = get_or-set_same ps (first_at cells (suc n)) x 0 (omega arith) in
                g ∙ s ∙ omega arith

            new_second : 1 ≤ second_at cells (suc n) → get_or next (second_at cells (suc n)) 0 ≡ suc (get_or next (suc n) 0 + size (tree_at cells count (first_at cells (suc n))))
            new_second h =
                let w = second_above context count cells ok (suc n) (omega arith) high h in
                let r = placed.room in
                let k = low_kept (suc n) (omega arith) (omega arith) in
                get_or-set_same (set ps (first_at cells (suc n)) x) (second_at cells (suc n)) y 0 (simp length-set (omega arith)) ∙ omega arith

            one : (i : ℕ) → 1 ≤ i → 1 ≤ first_at cells i → Dec (i ≤ n) → i ≤ suc n → get_or next (first_at cells i) 0 ≡ suc (get_or next i 0)
            one i p h (yes d) q =
                let w = first_above context count cells ok i p (omega arith) h in
                owned_kept i first_column p d (inl refl) w.0 w.1 ∙ placed.one i p d h ∙ ap suc (sym (low_kept i p q))
            one i p h (no d) q = let z : i ≡ suc n = omega arith in rw z (new_first (rw z at h))

            two : (i : ℕ) → 1 ≤ i → 1 ≤ second_at cells i → Dec (i ≤ n) → i ≤ suc n → get_or next (second_at cells i) 0 ≡ suc (get_or next i 0 + size (tree_at cells count (first_at cells i)))
            two i p h (yes d) q =
                let w = second_above context count cells ok i p (omega arith) h in
                let k = low_kept i p q in
                owned_kept i second_column p d (inr refl) w.0 w.1 ∙ placed.two i p d h ∙ omega arith
            two i p h (no d) q = let z : i ≡ suc n = omega arith in rw z (new_second (rw z at h))

      -- the node's cells, in the whole at its number
      abbrev own : ℕ
      own = get_or ps (suc n) 0

      abbrev block : List ℕ
      block =
          form_at cells (suc n) ∷ attributes_at cells (suc n) ∷ detail_at cells (suc n)
          ∷ pick (eqb (first_at cells (suc n)) 0) 0 (suc own)
          ∷ pick (eqb (second_at cells (suc n)) 0) 0 (suc (own + size (tree_at cells count (first_at cells (suc n)))))
          ∷ symbol_at cells (suc n) ∷ []

      record Here : Type 0 where
        low : 1 ≤ own
        after : List ℕ
        cells_here : drop (node_cells * (own - 1)) whole ≡ block ++ after

      here : Here
      unfolding label_at
      here =
          let s = stands (suc n) (omega arith) high (omega arith) in
          let q = its_parts (suc n) (omega arith) high s in
          let e = s.is in
          let z : s.before ≡ own - 1 = omega arith in
          let a : suc own ≡ suc (suc s.before) = omega arith in
          let b : suc (own + size (tree_at cells count (first_at cells (suc n)))) ≡ suc (suc s.before) + size (tree_at cells count (first_at cells (suc n))) = omega arith in
          record {
            low = omega arith;
            after = q.after;
            cells_here = ap (λ (k : ℕ). drop (node_cells * k) whole) (sym z) ∙ q.own ∙ rw (number_first context count cells ok (suc n) (omega arith) high (suc own), number_second context count cells ok (suc n) (omega arith) high (suc (own + size (tree_at cells count (first_at cells (suc n))))), a, b);
          }

      pub own_range : (1 ≤ own) × (own ≤ count)
      own_range =
          let h = here in
          let l = h.low in
          let e = simp length-drop at (ap length h.cells_here) in
          let w = whole_long in
          (l, omega arith)

      pub filled_more : (before after : List ℕ) → Filled count cells n ps before after → node_cells * count ≤ length before
          → (later : List ℕ) → ((j : ℕ) → 1 ≤ j → j ≤ suc n → get_or later j 0 ≡ get_or ps j 0) → (last : List ℕ) → last ≡ sets after (node_cells * (own - 1)) block
          → Filled count cells (suc n) later before last
      filled_more before after filled room later same last e =
          let l = filled.long in
          let r = own_range in
          record { long = simp length-sets at (ap length e) ∙ l; at = at; past = λ p h. ap (λ (xs : List ℕ). get_or xs p 0) e ∙ outside block after (node_cells * (own - 1)) p (inr (omega arith)) ∙ filled.past p h }
        where
          stored : (p : ℕ) → node_cells * (own - 1) ≤ p → p < node_cells * own → get_or last p 0 ≡ get_or whole p 0
          stored p h k =
              let b = here in
              let r = own_range in
              let l = filled.long in
              let z : node_cells * (own - 1) + (p - node_cells * (own - 1)) ≡ p = omega arith in
              let i = inside block after (node_cells * (own - 1)) (p - node_cells * (own - 1)) (omega arith) (omega arith) in
              let g = get_or-drop (node_cells * (own - 1)) whole (p - node_cells * (own - 1)) 0 in
              let d = ap (λ (xs : List ℕ). get_or xs (p - node_cells * (own - 1)) 0) b.cells_here ∙ get_or-append block b.after 0 (p - node_cells * (own - 1)) (omega arith) in
              ap (λ (xs : List ℕ). get_or xs p 0) e ∙ rw z at (i ∙ sym d ∙ g)

          at : (i : ℕ) → 1 ≤ i → i ≤ suc n → (p : ℕ) → node_cells * (get_or later i 0 - 1) ≤ p → p < node_cells * get_or later i 0 → get_or last p 0 ≡ get_or whole p 0
          at i low q p h k = go (dec_le i n) (dec_le (node_cells * (own - 1)) p) (dec_le (node_cells * own) p) (rw (same i low q) at h) (rw (same i low q) at k)
            where
              go : Dec (i ≤ n) → Dec (node_cells * (own - 1) ≤ p) → Dec (node_cells * own ≤ p) → node_cells * (get_or ps i 0 - 1) ≤ p → p < node_cells * get_or ps i 0 → get_or last p 0 ≡ get_or whole p 0
              go (no d) f g h k = let z : i ≡ suc n = omega arith in stored p (rw z at h) (rw z at k)
              go (yes d) (yes f) (no g) h k = stored p f (omega arith)
              go (yes d) (no f) g h k = ap (λ (xs : List ℕ). get_or xs p 0) e ∙ outside block after (node_cells * (own - 1)) p (inl (omega arith)) ∙ filled.at i low d p h k
              go (yes d) (yes f) (yes g) h k = let r = own_range in ap (λ (xs : List ℕ). get_or xs p 0) e ∙ outside block after (node_cells * (own - 1)) p (inr (omega arith)) ∙ filled.at i low d p h k

      -- the same in the pass's own words
      pub number_range : (1 ≤ get_or ps (n + 1) 0) × (get_or ps (n + 1) 0 ≤ count)
      number_range = let z : n + 1 ≡ suc n = omega arith in rw z own_range

      pub next_node : (before after : List ℕ) → Filled count cells n ps before after → node_cells * count ≤ length before
          → (first second span number : ℕ) → first ≡ first_at cells (suc n) → second ≡ second_at cells (suc n) → span ≡ size (tree_at cells count (first_at cells (suc n))) → number ≡ get_or ps (n + 1) 0
          → (x y : ℕ) → x ≡ pick (eqb first 0) 0 (suc number) → y ≡ pick (eqb second 0) 0 (suc (number + span))
          → (last : List ℕ) → last ≡ sets after (node_cells * (number - 1)) (form_at cells (n + 1) ∷ attributes_at cells (n + 1) ∷ detail_at cells (n + 1) ∷ x ∷ y ∷ symbol_at cells (n + 1) ∷ [])
          → Placed count cells (n + 1) (set (set ps first (number + 1)) second (number + span + 1))
          × Filled count cells (n + 1) (set (set ps first (number + 1)) second (number + span + 1)) before last
      next_node before after filled room first second span number ef es ep eo x y ex ey last e =
          let z : n + 1 ≡ suc n = omega arith in
          let w : number ≡ get_or ps (suc n) 0 = eo ∙ ap (λ (k : ℕ). get_or ps k 0) z in
          let u = rw (z, ex, ey, ef, es, ep, w) at e in
          rw (z, ef, es, ep, w) (placed_more _ _ refl refl, filled_more before after filled room _ (low_kept _ _) last u)

  -- ---- all nodes

  pub filled_none : (ps before : List ℕ) → Filled count cells 0 ps before before
  filled_none ps before = record { long = refl; at = λ i p q. absurd (omega arith); past = λ p h. refl }

  module _ (n : ℕ) (all : n ≡ count) (ps before after : List ℕ) (placed : Placed count cells n ps) (filled : Filled count cells n ps before after) where
    -- the cells of a node's tree are stored: its own, then those of its operands
    abbrev Stored : ℕ → Type 0
    Stored i = (p : ℕ) → node_cells * (get_or ps i 0 - 1) ≤ p → p < node_cells * (get_or ps i 0 - 1 + size (tree_at cells count i)) → get_or after p 0 ≡ get_or whole p 0

    stored_node : (i : ℕ) → 1 ≤ i → i ≤ count → (1 ≤ first_at cells i → Stored (first_at cells i)) → (1 ≤ second_at cells i → Stored (second_at cells i)) → Stored i
    stored_node i low high f s p h k = own_first (dec_le (node_cells * get_or ps i 0) p)
      where
        low_number : 1 ≤ get_or ps i 0
        low_number = let r = stands n ps placed i low high (omega arith) in let e = r.is in omega arith

        in_second : 1 ≤ second_at cells i → node_cells * (get_or ps i 0 + size (tree_at cells count (first_at cells i))) ≤ p → get_or after p 0 ≡ get_or whole p 0
        in_second h a = let e = placed.two i low (omega arith) h in let z = sized_node context count cells ok i low high in let l = low_number in s h p (omega arith) (omega arith)

        second_there : node_cells * (get_or ps i 0 + size (tree_at cells count (first_at cells i))) ≤ p → Dec (1 ≤ second_at cells i) → get_or after p 0 ≡ get_or whole p 0
        second_there a (yes d) = in_second d a
        second_there a (no d) =
            let e : second_at cells i ≡ 0 = omega arith in
            let z = sized_node context count cells ok i low high in
            let y = ap (λ (j : ℕ). size (tree_at cells count j)) e ∙ size_zero context count cells ok in
            let l = low_number in
            absurd (omega arith)

        in_first : node_cells * get_or ps i 0 ≤ p → p < node_cells * (get_or ps i 0 + size (tree_at cells count (first_at cells i))) → Dec (1 ≤ first_at cells i) → get_or after p 0 ≡ get_or whole p 0
        in_first a b (yes d) = let e = placed.one i low (omega arith) d in let l = low_number in f d p (omega arith) (omega arith)
        in_first a b (no d) =
            let e : first_at cells i ≡ 0 = omega arith in
            let y = ap (λ (j : ℕ). size (tree_at cells count j)) e ∙ size_zero context count cells ok in
            absurd (omega arith)

        first_or_second : node_cells * get_or ps i 0 ≤ p → Dec (node_cells * (get_or ps i 0 + size (tree_at cells count (first_at cells i))) ≤ p) → get_or after p 0 ≡ get_or whole p 0
        first_or_second a (yes b) = second_there b (dec_le 1 (second_at cells i))
        first_or_second a (no b) = in_first a (omega arith) (dec_le 1 (first_at cells i))

        own_first : Dec (node_cells * get_or ps i 0 ≤ p) → get_or after p 0 ≡ get_or whole p 0
        own_first (yes a) = first_or_second a (dec_le (node_cells * (get_or ps i 0 + size (tree_at cells count (first_at cells i)))) p)
        own_first (no a) = filled.at i low (omega arith) p h (omega arith)

    pub all_filled : node_cells * count ≤ length before → after ≡ over whole before
    unfolding over
    all_filled room =
        let l = filled.long in
        let w = whole_long in
        let m = length_over whole before (omega arith) in
        ext_get_or 0 after (over whole before) (l ∙ sym m) (λ p h. each p (dec_le (node_cells * count) p))
      where
        each : (p : ℕ) → Dec (node_cells * count ≤ p) → get_or after p 0 ≡ get_or (over whole before) p 0
        each p (yes h) =
            let w = whole_long in
            let z : length whole + (p - length whole) ≡ p = omega arith in
            filled.past p h ∙ sym (rw z at (get_or-append-add whole (drop (length whole) before) (p - length whole) 0 ∙ get_or-drop (length whole) before (p - length whole) 0))
        each p (no h) =
            let w = whole_long in
            let k = count_bounds context count cells ok in
            let s = size_accepted context count cells ok in
            let e = placed.root in
            each_owner context count cells ok Stored stored_node 1 (omega arith) k.0 p (omega arith) (omega arith)
            ∙ sym (get_or-append whole (drop (length whole) before) 0 p (omega arith))
