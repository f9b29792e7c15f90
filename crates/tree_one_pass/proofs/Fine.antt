-- The marks of the one pass over all nodes: where it gets through, nothing is refused. Assumes nothing.
use mathlib.Core.Path.{◌≡◌, refl, sym, ap, ◌∙◌}
use mathlib.Core.Bool.{Bool, true, false, not, ◌&&◌}
use mathlib.Core.List.{List, [], ◌∷◌}
use mathlib.Core.Logic.{inl, inr}
use Prim.Native.Nat.{ℕ, zero, suc, ◌+◌, ◌*◌, ◌-◌, ◌/◌, ◌%◌, ◌≤◌, ◌<◌, max}
use native.Mathlib.Omega.{arith}
use native.Mathlib.Decide.{dec_le, ℕ_discrete}
use lib.Dec.{eqb, ltb, leb}
use lib.ListN.{length, get_or, set, length-set, replicate, length-replicate, get_or-replicate, get_or-eq_default}
use lib.Seq.{get_or-set_same, get_or-set_other}
use borrow.Author.Tests.{eqb-false, eq-eqb, ne_eqb, lt-ltb, le-ltb, lt-leb, not-false, not-true}
use Rattle.laws.specs.Choice.{pick, lookup}
use Rattle.laws.specs.Each.{some}
use Rattle.laws.proofs.Choice.{pick_true, pick_false, and_true}
use Rattle.tree.specs.Sizes.{node_cells, most_nodes}
use Rattle.tree_places.specs.declared.place.Place.{Place}
use Rattle.tree_places.specs.declared.place.Place.TheVariants.{Nothing, Required, Optional, List as ListOf, Item, Next}
use Rattle.tree.specs.Forms.{a_link, class_of, allowed}
use Rattle.tree.specs.Table.{cell_at, form_at, first_at, second_at, class_at, form_column}
use Rattle.tree.specs.Trees.{operand_of, tree_at, own_level, levels}
use Rattle.tree_places.specs.Places.{first_places, first_place, wrong_class, wrong_list, wrong_item, wrong_next, wrong_at, bad_operands}
use Rattle.tree_places.specs.Steps.{is_required, wrong_present}
use Rattle.tree_places.proofs.Places.{wrong_absent, wrong_present_lem}
use Rattle.tree_rules.specs.Refusals.{refusal6, refusal7, refusal8, refusal9, refusal10, refusal11, bad_numbers, misplaced, bad_order, owners, bad_owner, empty, bad_output, refuse, first_of, node_refusals}
use Rattle.tree_one_pass.specs.Marks.{kind_by, kind_at, IsList, Fits, mark_by, mark_at, Takes, absent as no_operand, taken as takes, refused as refuses, Marks, Sound, by_levels, claim, Marked}
use Rattle.tree_one_pass.proofs.Codes.{link_form}
use Rattle.tree_rules.proofs.First.{skip}
use Rattle.tree_rules.proofs.Depth.{levels_node, none_levels}
use Rattle.tree.proofs.Unfold.{operand_in, operand_zero, tree_zero, levels_most}

-- ---- cells, classes and marks as numbers

pub cell_form : (cells : List ℕ) (n : ℕ) → 1 ≤ n → get_or cells (node_cells * (n - 1)) 0 ≡ cell_at cells n form_column
unfolding cell_at
cell_form cells zero h = absurd (omega arith)
cell_form cells (suc i) h = ap (λ (k : ℕ). get_or cells k 0) (omega arith)

pub cell_other : (cells : List ℕ) (n k : ℕ) → 1 ≤ n → get_or cells (node_cells * (n - 1) + k) 0 ≡ cell_at cells n k
unfolding cell_at
cell_other cells zero k h = absurd (omega arith)
cell_other cells (suc i) k h = ap (λ (k : ℕ). get_or cells k 0) (omega arith)

pub class_most : (form : ℕ) → class_of form ≤ 3
unfolding class_of pick
class_most form = go (eqb form 0) (leb form 40) (leb form 55) (leb form 56)
  where
    go : (a b d e : Bool) → pick a 0 (pick b 1 (pick d 2 (pick e 3 0))) ≤ 3
    go true b d e = omega arith
    go false true d e = omega arith
    go false false true e = omega arith
    go false false false true = omega arith
    go false false false false = omega arith

-- ---- the marks of the nodes that are done

both_false : (b : Bool) → b && false ≡ false
both_false true = refl
both_false false = refl

pick_same : {A : Type 0} (b : Bool) {x y z : A} → x ≡ z → y ≡ z → pick b x y ≡ z
unfolding pick
pick_same true p q = p
pick_same false p q = q

-- the operand o of node n is taken out of the marks, in which the nodes up to n have none
data Took (count n o : ℕ) (xs : List ℕ) : ℕ → List ℕ → Type 0 where
  absent : o ≡ 0 → Took count n o xs 0 xs
  taken : n < o → o ≤ count → (get_or xs o 0 ≡ 0 → ⊥) → Took count n o xs (get_or xs o 0) (set xs o 0)
  refused : Took count n o xs 7 xs

took_after : (count n o p : ℕ) (xs : List ℕ) (v : ℕ) (ys : List ℕ) → o ≡ p → ((j : ℕ) → j ≤ n → get_or xs j 0 ≡ 0) → Takes count o xs v ys → Took count n p xs v ys
took_after count n o p xs v ys e f t = rw (← e) (go v ys t)
  where
    after : (get_or xs o 0 ≡ 0 → ⊥) → Dec (o ≤ n) → n < o
    after k (yes h) = absurd (k (f o h))
    after k (no h) = omega arith

    go : (v : ℕ) (ys : List ℕ) → Takes count o xs v ys → Took count n o xs v ys
    go v ys (no_operand z) = absent z
    go v ys (takes h k) = taken (after k (dec_le o n)) h k
    go v ys refuses = refused

pub takes_length : (count o : ℕ) (xs : List ℕ) (v : ℕ) (ys : List ℕ) → Takes count o xs v ys → length ys ≡ length xs
takes_length count o xs v ys (no_operand e) = refl
takes_length count o xs v ys (takes h k) = length-set xs o 0
takes_length count o xs v ys refuses = refl

module _ (cells : List ℕ) (count : ℕ) where
  kind_most : (j : ℕ) → kind_at cells j ≤ 5
  unfolding kind_at kind_by pick
  kind_most j = go (eqb (class_at cells j) a_link)
    where
      go : (b : Bool) → pick b (class_at cells (first_at cells j) + 2) (class_at cells j) ≤ 5
      go true = let m = class_most (form_at cells (first_at cells j)) in omega arith
      go false = let m = class_most (form_at cells j) in omega arith

  mark_kind : (j : ℕ) → mark_at cells count j % 8 ≡ kind_at cells j
  unfolding mark_at
  mark_kind j = let m = kind_most j in omega arith

  mark_levels : (j : ℕ) → mark_at cells count j / 8 ≡ levels (tree_at cells count j)
  unfolding mark_at
  mark_levels j = let m = kind_most j in omega arith

  -- a sound node has a class, and a sound link an item of class 1 or 2
  sound_class : (j : ℕ) → Sound cells count j → 1 ≤ class_at cells j
  unfolding bad_numbers allowed
  sound_class j s =
      let p = and_true (not (eqb (class_at cells j) 0)) _ (not-false _ s.numbers) in
      let q = eqb-false (class_at cells j) 0 (not-true _ p.0) in
      omega arith

  -- what a kind says
  module _ (j : ℕ) (s : Sound cells count j) where
    data Says : ℕ → Type 0 where
      plain : 1 ≤ class_at cells j → class_at cells j ≤ 2 → Says (class_at cells j)
      link : class_at cells j ≡ 3 → 1 ≤ class_at cells (first_at cells j) → Says (class_at cells (first_at cells j) + 2)

    says : Says (kind_at cells j)
    unfolding kind_at kind_by
    says = go (ℕ_discrete (class_at cells j) 3)
      where
        go : Dec (class_at cells j ≡ 3) → Says (pick (eqb (class_at cells j) a_link) (class_at cells (first_at cells j) + 2) (class_at cells j))
        go (yes e) = rw (pick_true {b = eqb (class_at cells j) a_link} (class_at cells (first_at cells j) + 2) (class_at cells j) (eq-eqb _ _ e)) (link e (s.item e))
        go (no e) =
            let m = class_most (form_at cells j) in
            let l = sound_class j s in
            rw (pick_false {b = eqb (class_at cells j) a_link} (class_at cells (first_at cells j) + 2) (class_at cells j) (ne_eqb _ _ e)) (plain l (omega arith))

    low_kind : kind_at cells j ≤ 2 → class_at cells j ≡ kind_at cells j
    low_kind = go (kind_at cells j) says
      where
        go : (k : ℕ) → Says k → k ≤ 2 → class_at cells j ≡ k
        go k (plain a b) h = refl
        go k (link a b) h = absurd (omega arith)

    high_kind : (class : ℕ) → IsList class (kind_at cells j) → (class_at cells j ≡ 3) × (class_at cells (first_at cells j) ≡ class)
    high_kind class = go (kind_at cells j) says
      where
        go : (k : ℕ) → Says k → IsList class k → (class_at cells j ≡ 3) × (class_at cells (first_at cells j) ≡ class)
        go k (plain a b) h = absurd (omega arith)
        go k (link a b) h = (a, omega arith)

    some_kind : 1 ≤ kind_at cells j
    some_kind = go (kind_at cells j) says
      where
        go : (k : ℕ) → Says k → 1 ≤ k
        go k (plain a b) = a
        go k (link a b) = omega arith

    right_class : (class : ℕ) → class_at cells j ≡ class → wrong_class cells count class j ≡ false
    unfolding wrong_class
    right_class class e = rw (eq-eqb _ _ e) (both_false (leb j count))

    right_list : (class : ℕ) → IsList class (kind_at cells j) → wrong_list cells count class j ≡ false
    unfolding wrong_list wrong_class
    right_list class h =
        let p = high_kind class h in
        rw (p.0, eq-eqb _ _ p.1, both_false (leb (first_at cells j) count)) (both_false (leb j count))

  -- ---- one node more

  module _ (n : ℕ) (low : 1 ≤ n) (high : n ≤ count) (most : count ≤ most_nodes) (done : (j : ℕ) → n < j → j ≤ count → Sound cells count j) where
    -- what the mark of an operand of node n says
    pub data Tells (o : ℕ) : ℕ → Type 0 where
      nothing : o ≡ 0 → Tells o 0
      mark : n < o → o ≤ count → Tells o (mark_at cells count o)

    tells_most : (o v : ℕ) → Tells o v → v ≤ 40000
    unfolding mark_at
    tells_most o v (nothing e) = omega arith
    tells_most o v (mark h k) = let m = kind_most o in let l = levels_most cells count o in omega arith

    tells_order : (o v : ℕ) → Tells o v → misplaced count n o ≡ false
    unfolding misplaced
    tells_order o v (nothing e) = rw e
    tells_order o v (mark h k) = rw (lt-leb o n h, le-ltb count o k) (both_false (not (eqb o 0)))

    tells_levels : (o v : ℕ) → Tells o v → v / 8 ≡ levels (tree_at cells count (operand_of count n o))
    tells_levels o v (nothing e) = rw (e, operand_zero count n) (none_levels cells count 0 (tree_zero cells count))
    tells_levels o v (mark h k) = rw (operand_in count n o h k) (mark_levels o)

    -- a kind of at most 2 is the class
    tells_class : (o v : ℕ) → Tells o v → v % 8 ≤ 2 → class_at cells o ≡ v % 8
    unfolding cell_at class_of pick
    tells_class o v (nothing e) h = rw e
    tells_class o v (mark a b) h = let q = mark_kind o in rw q (low_kind o (done o a b) (omega arith))

    tells_right : (p : Place) (o v k : ℕ) → Tells o v → (k ≤ 2 → class_at cells (first_at cells n) ≡ k) → Fits p k (v % 8) → wrong_at cells count (first_at cells n) p o ≡ false
    unfolding Fits is_required wrong_present wrong_item wrong_next
    tells_right p o v k (nothing e) g f = wrong_absent cells count (first_at cells n) p o e ∙ absent_right p f
      where
        absent_right : (p : Place) → Fits p k 0 → is_required p ≡ false
        absent_right Nothing f = refl
        absent_right (Required class) f = absurd (omega arith)
        absent_right (Optional class) f = refl
        absent_right (ListOf class) f = refl
        absent_right Item f = absurd (omega arith)
        absent_right Next f = refl
    tells_right p o v k (mark a b) g f = wrong_present_lem cells count (first_at cells n) p o (λ z. omega arith) ∙ present_right p (rw (mark_kind o) at f)
      where
        present_right : (p : Place) → Fits p k (kind_at cells o) → wrong_present cells count (first_at cells n) p o ≡ false
        present_right Nothing f = let z = some_kind o (done o a b) in absurd (omega arith)
        present_right (Required class) f = right_class o (done o a b) class (low_kind o (done o a b) f.1 ∙ f.2)
        present_right (Optional class) (inl f) = let z = some_kind o (done o a b) in absurd (omega arith)
        present_right (Optional class) (inr f) = right_class o (done o a b) class (low_kind o (done o a b) f.1 ∙ f.2)
        present_right (ListOf class) (inl f) = let z = some_kind o (done o a b) in absurd (omega arith)
        present_right (ListOf class) (inr f) = right_list o (done o a b) class f
        present_right Item f = item (dec_le (kind_at cells o) 1)
          where
            item : Dec (kind_at cells o ≤ 1) → wrong_item cells count o ≡ false
            item (yes h) = rw (right_class o (done o a b) 1 (low_kind o (done o a b) f.1 ∙ omega arith))
            item (no h) = rw (right_class o (done o a b) 2 (low_kind o (done o a b) f.1 ∙ omega arith)) (both_false (wrong_class cells count 1 o))
        present_right Next (inl f) = let z = some_kind o (done o a b) in absurd (omega arith)
        present_right Next (inr f) = pick_same (leb (first_at cells n) count) (rw (g f.0) (right_list o (done o a b) k f.1)) (right_class o (done o a b) 3 (high_kind o (done o a b) k f.1).0)

    module _ (one two r : ℕ) (t : Tells (first_at cells n) one) (u : Tells (second_at cells n) two) (m : Marks cells n one two r) where
      link_item : class_at cells n ≡ 3 → (1 ≤ one % 8) × (one % 8 ≤ 2)
      unfolding first_place first_places lookup Fits pick
      link_item e = rw (link_form (form_at cells n) e) at m.first

      pub sound_more : Sound cells count n
      unfolding bad_operands bad_order
      sound_more = record {
        numbers = m.numbers;
        operands = rw (tells_right _ _ one (one % 8) t (tells_class _ one t) m.first, tells_right _ _ two (one % 8) u (tells_class _ one t) m.second);
        order = rw (tells_order _ one t, tells_order _ two u);
        full = m.full;
        output = m.output;
        item = λ e. let p = link_item e in rw (tells_class _ one t p.1) p.0;
      }

      pub mark_more : r ≡ mark_at cells count n
      unfolding mark_by mark_at kind_at kind_by own_level pick
      mark_more = m.is ∙ go (ℕ_discrete (class_at cells n) 3)
        where
          below : levels (tree_at cells count n) ≡ own_level (form_at cells n) + max (one / 8) (two / 8)
          below = levels_node cells count n low high ∙ rw (tells_levels _ one t, tells_levels _ two u)

          go : Dec (class_at cells n ≡ 3) → mark_by (class_at cells n) (one % 8) (max (one / 8) (two / 8)) ≡ mark_at cells count n
          go (yes e) =
              let p = link_item e in
              let q = tells_class _ one t p.1 in
              rw (below, e, q) (omega arith)
          go (no e) = rw (below, ne_eqb (class_at cells n) 3 e) (omega arith)

  -- ---- operands taken out of the array

  module _ (n o : ℕ) (xs : List ℕ) where
    took_length : (v : ℕ) (ys : List ℕ) → Took count n o xs v ys → length ys ≡ length xs
    took_length v ys (absent e) = refl
    took_length v ys (taken h k e) = length-set xs o 0
    took_length v ys refused = refl

    took_kept : (v : ℕ) (ys : List ℕ) → Took count n o xs v ys → (j : ℕ) → (get_or ys j 0 ≡ 0 → ⊥) → get_or ys j 0 ≡ get_or xs j 0
    took_kept v ys (absent e) j f = refl
    took_kept v ys refused j f = refl
    took_kept v ys (taken h k e) j f = go (ℕ_discrete j o)
      where
        cleared : j ≡ o → Dec (o < length xs) → get_or (set xs o 0) j 0 ≡ get_or xs j 0
        cleared s (yes l) = absurd (f (rw s (get_or-set_same xs o 0 0 l)))
        cleared s (no l) = absurd (e (get_or-eq_default xs 0 (omega arith)))

        go : Dec (j ≡ o) → get_or (set xs o 0) j 0 ≡ get_or xs j 0
        go (yes s) = cleared s (dec_le (suc o) (length xs))
        go (no s) = get_or-set_other xs o j 0 0 s

    took_claim : (v : ℕ) (ys : List ℕ) → Took count n o xs v ys → (v ≡ 7 → ⊥) → count < length xs → (j : ℕ) → 1 ≤ j → pick (eqb o j) 1 0 + claim n xs j ≡ claim n ys j
    unfolding claim pick
    took_claim v ys (absent e) f l j h = rw (ne_eqb o j (λ z. omega arith)) (omega arith)
    took_claim v ys refused f l j h = absurd (f refl)
    took_claim v ys (taken a b e) f l j h = go (ℕ_discrete j o)
      where
        go : Dec (j ≡ o) → pick (eqb o j) 1 0 + pick (ltb n j && eqb (get_or xs j 0) 0) 1 0 ≡ pick (ltb n j && eqb (get_or (set xs o 0) j 0) 0) 1 0
        go (yes s) = rw (s, eq-eqb o o refl, lt-ltb n o a, ne_eqb (get_or xs o 0) 0 e, get_or-set_same xs o 0 0 (omega arith))
        go (no s) = rw (ne_eqb o j (λ z. s (sym z)), get_or-set_other xs o j 0 0 s) (omega arith)

  took_fresh : (n o : ℕ) (xs : List ℕ) (v : ℕ) (ys : List ℕ) → Took count n o xs v ys → ((j : ℕ) → j ≤ n → get_or xs j 0 ≡ 0) → (j : ℕ) → j ≤ n → get_or ys j 0 ≡ 0
  took_fresh n o xs v ys t f j h = go (ℕ_discrete (get_or ys j 0) 0)
    where
      go : Dec (get_or ys j 0 ≡ 0) → get_or ys j 0 ≡ 0
      go (yes e) = e
      go (no e) = took_kept n o xs v ys t j e ∙ f j h

  owners_step : (n j : ℕ) → 1 ≤ n → owners cells n j ≡ owners cells (n - 1) j + pick (eqb (first_at cells n) j) 1 0 + pick (eqb (second_at cells n) j) 1 0
  unfolding owners
  owners_step zero j h = absurd (omega arith)
  owners_step (suc n) j h = let e : suc n - 1 ≡ n = omega arith in rw e

  -- the node's own mark is written
  claim_own : (n r : ℕ) (zs : List ℕ) → 1 ≤ n → n < length zs → (r ≡ 0 → ⊥) → (j : ℕ) → claim n zs j ≡ claim (n - 1) (set zs n r) j
  unfolding claim pick
  claim_own n r zs low l f j = go (ℕ_discrete j n)
    where
      above : (j ≡ n → ⊥) → Dec (n < j) → ltb n j ≡ ltb (n - 1) j
      above s (yes p) = rw (lt-ltb n j p, lt-ltb (n - 1) j (omega arith))
      above s (no p) = rw (le-ltb n j (omega arith), le-ltb (n - 1) j (omega arith))

      go : Dec (j ≡ n) → ◌≡◌ {A = ℕ} (pick (ltb n j && eqb (get_or zs j 0) 0) 1 0) (pick (ltb (n - 1) j && eqb (get_or (set zs n r) j 0) 0) 1 0)
      go (yes s) = rw (s, le-ltb n n (omega arith), lt-ltb (n - 1) n (omega arith), get_or-set_same zs n r 0 l, ne_eqb r 0 f)
      go (no s) = rw (above s (dec_le (suc n) j), get_or-set_other zs n j r 0 s)

  module _ (n : ℕ) (xs : List ℕ) (m : Marked cells count n xs) (low : 1 ≤ n) (high : n ≤ count) (most : count ≤ most_nodes)
      (o : ℕ) (is_first : o ≡ first_at cells n) (one : ℕ) (ys : List ℕ) (first_taken : Takes count o xs one ys) (f : one ≡ 7 → ⊥) where
    t : Took count n (first_at cells n) xs one ys
    t = took_after count n o (first_at cells n) xs one ys is_first m.fresh first_taken

    tells_first : Tells n low high most m.sound (first_at cells n) one
    tells_first = go one ys t f
      where
        go : (v : ℕ) (ys : List ℕ) → Took count n (first_at cells n) xs v ys → (v ≡ 7 → ⊥) → Tells n low high most m.sound (first_at cells n) v
        go v ys (absent e) f = nothing e
        go v ys refused f = absurd (f refl)
        go v ys (taken h k e) f = rw (m.marks (first_at cells n) h k e) (mark h k)

    pub first_most : one ≤ 40000
    first_most = tells_most n low high most m.sound (first_at cells n) one tells_first

    pub first_size : count < length ys
    first_size = let e = took_length n (first_at cells n) xs one ys t in let s = m.size in omega arith

    module _ (p : ℕ) (is_second : p ≡ second_at cells n) (two : ℕ) (zs : List ℕ) (second_taken : Takes count p ys two zs) (g : two ≡ 7 → ⊥) where
      u : Took count n (second_at cells n) ys two zs
      u = took_after count n p (second_at cells n) ys two zs is_second (took_fresh n (first_at cells n) xs one ys t m.fresh) second_taken

      tells_second : Tells n low high most m.sound (second_at cells n) two
      tells_second = go two zs u g
        where
          go : (v : ℕ) (zs : List ℕ) → Took count n (second_at cells n) ys v zs → (v ≡ 7 → ⊥) → Tells n low high most m.sound (second_at cells n) v
          go v zs (absent e) f = nothing e
          go v zs refused f = absurd (f refl)
          go v zs (taken h k e) f =
              let s = took_kept n (first_at cells n) xs one ys t (second_at cells n) e in
              rw (s, m.marks (second_at cells n) h k (λ z. e (s ∙ z))) (mark h k)

      pub second_most : two ≤ 40000
      second_most = tells_most n low high most m.sound (second_at cells n) two tells_second

      pub second_size : count < length zs
      second_size = let e = took_length n (second_at cells n) ys two zs u in let s = first_size in omega arith

      pub length_more : (r : ℕ) → length (set zs n r) ≡ length xs
      length_more r = length-set zs n r ∙ took_length n (second_at cells n) ys two zs u ∙ took_length n (first_at cells n) xs one ys t

      pub marked_more : (r : ℕ) → Marks cells n one two r → (r ≡ 0 → ⊥) → Marked cells count (n - 1) (set zs n r)
      marked_more r k h =
          let z = second_size in
          let l = length-set zs n r in
          record { size = omega arith; fresh = fresh; marks = each; owned = owned; sound = sound }
        where
          fresh : (j : ℕ) → j ≤ n - 1 → get_or (set zs n r) j 0 ≡ 0
          fresh j h =
              get_or-set_other zs n j r 0 (λ e. omega arith)
              ∙ took_fresh n (second_at cells n) ys two zs u (took_fresh n (first_at cells n) xs one ys t m.fresh) j (omega arith)

          own : r ≡ mark_at cells count n
          own = mark_more n low high most m.sound one two r tells_first tells_second k

          each : (j : ℕ) → n - 1 < j → j ≤ count → (get_or (set zs n r) j 0 ≡ 0 → ⊥) → get_or (set zs n r) j 0 ≡ mark_at cells count j
          each j a b e = go (ℕ_discrete j n)
            where
              go : Dec (j ≡ n) → get_or (set zs n r) j 0 ≡ mark_at cells count j
              go (yes s) = let z = second_size in rw s (get_or-set_same zs n r 0 (omega arith) ∙ own)
              go (no s) =
                  let p = get_or-set_other zs n j r 0 s in
                  let q = took_kept n (second_at cells n) ys two zs u j (λ z. e (p ∙ z)) in
                  let w = took_kept n (first_at cells n) xs one ys t j (λ z. e (p ∙ q ∙ z)) in
                  p ∙ q ∙ w ∙ m.marks j (omega arith) b (λ z. e (p ∙ q ∙ w ∙ z))

          owned : (j : ℕ) → 1 ≤ j → j ≤ count → owners cells count j ≡ owners cells (n - 1) j + claim (n - 1) (set zs n r) j
          owned j a b =
              let z = second_size in
              let p = m.owned j a b in
              let q = owners_step n j low in
              let s = took_claim n (first_at cells n) xs one ys t f m.size j a in
              let w = took_claim n (second_at cells n) ys two zs u g first_size j a in
              let x = claim_own n r zs low (omega arith) h j in
              omega arith

          sound : (j : ℕ) → n - 1 < j → j ≤ count → Sound cells count j
          sound j a b = go (ℕ_discrete j n)
            where
              go : Dec (j ≡ n) → Sound cells count j
              go (yes s) = rw s (sound_more n low high most m.sound one two r tells_first tells_second k)
              go (no s) = m.sound j (omega arith) b

  -- before the first node
  pub marked_none : (xs : List ℕ) → count < length xs → ((j : ℕ) → get_or xs j 0 ≡ 0) → Marked cells count count xs
  unfolding claim pick
  marked_none xs l z = record {
    size = l;
    fresh = λ j h. z j;
    marks = λ j a b. absurd (omega arith);
    owned = λ j a b. rw (le-ltb count j b) (omega arith);
    sound = λ j a b. absurd (omega arith);
  }

  -- ---- nothing is refused

  none_some : (f : ℕ → Bool) (n : ℕ) → ((i : ℕ) → 1 ≤ i → i ≤ n → f i ≡ false) → some f n ≡ false
  unfolding some
  none_some f zero h = refl
  none_some f (suc n) h = rw (none_some f n (λ i a b. h i a (omega arith)), h (suc n) (omega arith) (omega arith))

  module _ (xs : List ℕ) (m : Marked cells count 0 xs) (low : 1 ≤ count) (kind : get_or xs 1 0 % 8 ≡ 1)
      (free : (j : ℕ) → 2 ≤ j → j ≤ count → get_or xs j 0 ≡ 0) where
    root : get_or xs 1 0 ≡ mark_at cells count 1
    root = m.marks 1 (omega arith) low (λ z. omega arith)

    root_kind : kind_at cells 1 ≡ 1
    root_kind = sym (mark_kind 1) ∙ ap (λ (v : ℕ). v % 8) (sym root) ∙ kind

    root_class : class_at cells 1 ≡ 1
    root_class = let k = root_kind in low_kind 1 (m.sound 1 (omega arith) low) (omega arith) ∙ k

    owned_well : (j : ℕ) → 1 ≤ j → j ≤ count → bad_owner cells count j ≡ false
    unfolding bad_owner owners claim pick
    owned_well j a b = go (ℕ_discrete j 1)
      where
        go : Dec (j ≡ 1) → (not (eqb j 1) && not (eqb (owners cells count j) 1)) ≡ false
        go (yes s) = rw s
        go (no s) = rw (m.owned j a b, lt-ltb 0 j a, free j (omega arith) b) (both_false (not (eqb j 1)))

    deep : get_or xs 1 0 / 8 ≡ levels (tree_at cells count 1)
    deep = ap (λ (v : ℕ). v / 8) root ∙ mark_levels 1

    -- 11 is what is left
    eleven : first_of (node_refusals count cells) ≡ first_of (refuse 11 (refusal11 cells count) ∷ [])
    unfolding node_refusals refusal6 refusal7 refusal8 refusal9 refusal10
    eleven =
        let s = m.sound in
        skip _ _ (none_some (bad_numbers cells) count (λ i a b. (s i a b).numbers))
        ∙ skip _ _ (rw (root_class) (none_some (bad_operands cells count) count (λ i a b. (s i a b).operands)))
        ∙ skip _ _ (rw (none_some (bad_order cells count) count (λ i a b. (s i a b).order)) (none_some (bad_owner cells count) count owned_well))
        ∙ skip _ _ (none_some (empty cells) count (λ i a b. (s i a b).full))
        ∙ skip _ _ (none_some (bad_output cells) count (λ i a b. (s i a b).output))

    pub by_levels_lem : first_of (node_refusals count cells) ≡ by_levels (get_or xs 1 0 / 8)
    unfolding refusal11 by_levels first_of
    by_levels_lem = eleven ∙ rw deep

-- a new array
pub none_yet : (n j : ℕ) → ◌≡◌ {A = ℕ} (get_or (replicate n 0) j 0) 0
none_yet n j = go (dec_le (suc j) n)
  where
    go : Dec (j < n) → ◌≡◌ {A = ℕ} (get_or (replicate n 0) j 0) 0
    go (yes h) = get_or-replicate n j 0 0 h
    go (no h) = let l = length-replicate {A = ℕ} n 0 in get_or-eq_default (replicate n 0) 0 (omega arith)
