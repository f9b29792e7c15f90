-- The trees of the reader's own table, laid with each second operand straight behind its owner and each first operand behind all nodes of the second: how large they are, and what a pass from the root on stores. Assumes nothing.
use mathlib.Core.Path.{◌≡◌, refl, sym, subst, ap, ◌∙◌}
use mathlib.Core.Logic.{inl, inr}
use mathlib.Core.List.{List, [], ◌∷◌, ◌++◌, append-nil}
use Prim.Native.Nat.{ℕ, zero, suc, ◌+◌, ◌*◌, ◌-◌, ◌≤◌, ◌<◌, max}
use native.Mathlib.Omega.{arith}
use native.Mathlib.Decide.{ℕ_discrete}
use lib.Dec.{eqb}
use lib.ListN.{length, get_or, set, length-set}
use lib.Seq.{get_or-set_same, get_or-set_other, sets}
use borrow.Author.Tests.{eq-eqb, ne_eqb}
use Rattle.laws.specs.Choice.{pick}
use Rattle.laws.proofs.Choice.{pick_true, pick_false}
use Rattle.laws.proofs.Lists.{sets_append}
use Rattle.tree.specs.Sizes.{node_cells, most_tokens}
use Rattle.tree.specs.Table.{form_at, attributes_at, detail_at, first_at, second_at, symbol_at, first_column, second_column}
use Rattle.tree.specs.Trees.{Label, Tree, none, node, label_at, operand_of, operand_at, tree_at, own_level, levels}
use Rattle.tree.proofs.Unfold.{operand_in, operand_zero, tree_zero, unfolds, levels_most}
use Rattle.tree_one_pass.proofs.Fine.{cell_other}
use Rattle.tree_numbering.specs.Numbered.{size, number_of, cells_from}
use Rattle.tree_numbering.proofs.Holds.{length_cells}
use Rattle.tree_numbering.proofs.Nodes.{trees_stand}
use Rattle.tree_numbering.proofs.Stores.{three_runs}
use Rattle.token_reader.specs.Mirrored.{Due, Laid, Spanned, Measured, span_of, number_at, numbers_on, stored_on, Placeable}

-- ---- one node more, downwards

module _ (own : List ℕ) where
  abbrev pub at_node : ℕ → Tree
  at_node j = tree_at own most_tokens j

  -- an operand that stands where it is due
  pub record Operand (nodes base due operand : ℕ) (spans heights : List ℕ) (t : Tree) : Type 0 where
    pub is : operand ≡ number_of t due
    pub laid : Laid own due t
    pub within : due + size t ≤ suc nodes
    pub span : get_or spans (operand - base) 0 ≡ size t
    pub height : get_or heights (operand - base) 0 ≡ levels t

  module _ {nodes base low : ℕ} {spans heights : List ℕ} (m : Measured own nodes base low spans heights) where
    operand_due : (due operand : ℕ) → low < due → due ≤ suc nodes → nodes ≤ most_tokens → Due nodes due operand → Operand nodes base due operand spans heights (at_node (operand_of most_tokens low operand))
    unfolding size number_of levels
    operand_due due operand h k most (inl z) =
        let e : at_node (operand_of most_tokens low operand) ≡ none = rw (z, operand_zero most_tokens low) (tree_zero own most_tokens) in
        let n : operand - base ≡ 0 = omega arith in
        subst (Operand nodes base due operand spans heights) (sym e)
        (record { is = z; laid = tt; within = omega arith; span = rw n m.sizes.absent; height = rw n m.absent })
    operand_due due operand h k most (inr z) =
        let e : operand_of most_tokens low operand ≡ due = rw z.0 (operand_in most_tokens low due h (omega (arith, z.1))) in
        subst (λ j. Operand nodes base due operand spans heights (at_node j)) (sym e)
        (record {
          is = z.0 ∙ sym ((trees_stand own most_tokens).some_there due due (omega arith) (omega (arith, z.1)));
          laid = m.sizes.laid due h z.1;
          within = m.sizes.within due h z.1;
          span = rw z.0 (m.sizes.at due h z.1);
          height = rw z.0 (m.at due h z.1);
        })

    -- what is read of node `low`, whose operands stand where they are due
    module _ (here : 1 ≤ low) (high : low ≤ nodes) (most : nodes ≤ most_tokens) where
      abbrev pub first : Tree
      first = at_node (operand_at own most_tokens low first_column)

      abbrev pub second : Tree
      second = at_node (operand_at own most_tokens low second_column)

      tree_here : at_node low ≡ node (label_at own low) first second
      tree_here = unfolds own most_tokens low here (omega arith)

      pub second_due : Due nodes (low + 1) (second_at own low) → Operand nodes base (low + 1) (second_at own low) spans heights second
      second_due = operand_due (low + 1) (second_at own low) (omega arith) (omega arith) most

      module _ (d : Due nodes (low + 1) (second_at own low)) where
        abbrev pub next : ℕ
        next = low + 1 + get_or spans (second_at own low - base) 0

        pub next_is : next ≡ low + 1 + size second
        next_is = let o = second_due d in omega (arith, o.span)

        pub next_most : next ≤ suc nodes
        next_most = let o = second_due d in omega (arith, o.span, o.within)

        module _ (f : Due nodes next (first_at own low)) where
          pub first_due : Operand nodes base next (first_at own low) spans heights first
          first_due = operand_due next (first_at own low) (omega arith) next_most most f

          abbrev pub span : ℕ
          span = next - low + get_or spans (first_at own low - base) 0

          abbrev pub height : ℕ
          height = own_level (form_at own low) + max (get_or heights (first_at own low - base) 0) (get_or heights (second_at own low - base) 0)

          span_is : span ≡ size (at_node low)
          unfolding size
          span_is = rw tree_here (let a = first_due in let b = second_due d in omega (arith, a.span, b.span))

          pub span_most : low + span ≤ suc nodes
          span_most = let a = first_due in let b = second_due d in omega (arith, a.span, a.within)

          pub height_is : height ≡ levels (at_node low)
          unfolding levels label_at
          height_is = rw (tree_here, first_due.height, (second_due d).height)

          laid_here : Laid own low (at_node low)
          laid_here =
              let a = first_due in
              let b = second_due d in
              let p : low + 1 ≡ suc low = omega arith in
              let n : next ≡ suc low + size second = omega (arith, next_is) in
              subst (Laid own low) (sym tree_here) (
                tree_here,
                refl,
                a.is ∙ ap (number_of first) n,
                b.is ∙ ap (number_of second) p,
                subst (λ j. Laid own j first) n a.laid,
                subst (λ j. Laid own j second) p b.laid,
              )

          -- that node's two numbers are stored, and the others stay
          kept : (xs : List ℕ) (v j : ℕ) → base < low → nodes - base < length xs → base < j → (j ≡ low → ⊥) → get_or (set xs (low - base) v) (j - base) 0 ≡ get_or xs (j - base) 0
          kept xs v j h r k n = get_or-set_other xs (low - base) (j - base) v 0 (λ e. n (omega arith))

          pub measured_more : base < low → (v w : ℕ) → v ≡ span → w ≡ height → Measured own nodes base (low - 1) (set spans (low - base) v) (set heights (low - base) w)
          measured_more h v w ev ew =
              record {
                sizes = record {
                  room = simp length-set m.sizes.room;
                  absent = get_or-set_other spans (low - base) 0 v 0 (λ e. omega arith) ∙ m.sizes.absent;
                  laid = λ j p q. by j p q (Laid own j (at_node j)) (λ e. subst (λ i. Laid own i (at_node i)) (sym e) laid_here) (λ r. m.sizes.laid j r q);
                  within = λ j p q. by j p q (j + size (at_node j) ≤ suc nodes) (λ e. rw (e, ← span_is) span_most) (λ r. m.sizes.within j r q);
                  at = λ j p q. by j p q (get_or (set spans (low - base) v) (j - base) 0 ≡ size (at_node j))
                      (λ e. rw e (get_or-set_same spans (low - base) v 0 (omega (arith, m.sizes.room)) ∙ ev ∙ span_is))
                      (λ r. kept spans v j h m.sizes.room (omega arith) (λ e. omega arith) ∙ m.sizes.at j r q);
                };
                room = simp length-set m.room;
                absent = get_or-set_other heights (low - base) 0 w 0 (λ e. omega arith) ∙ m.absent;
                at = λ j p q. by j p q (get_or (set heights (low - base) w) (j - base) 0 ≡ levels (at_node j))
                    (λ e. rw e (get_or-set_same heights (low - base) w 0 (omega (arith, m.room)) ∙ ew ∙ height_is))
                    (λ r. kept heights w j h m.room (omega arith) (λ e. omega arith) ∙ m.at j r q);
              }
            where
              by : (j : ℕ) → low - 1 < j → j ≤ nodes → (P : Type 0) → (j ≡ low → P) → (low < j → P) → P
              by j p q P one more = go (ℕ_discrete j low)
                where
                  go : Dec (j ≡ low) → P
                  go (yes e) = one e
                  go (no e) = more (omega arith)

  -- before the last node
  pub measured_none : (nodes base : ℕ) (spans heights : List ℕ) → nodes - base < length spans → nodes - base < length heights → Measured own nodes base nodes (set spans 0 0) (set heights 0 0)
  measured_none nodes base spans heights h k =
      record {
        sizes = record {
          room = simp length-set h;
          absent = get_or-set_same spans 0 0 0 (omega arith);
          laid = λ j p q. absurd (omega arith);
          within = λ j p q. absurd (omega arith);
          at = λ j p q. absurd (omega arith);
        };
        room = simp length-set k;
        absent = get_or-set_same heights 0 0 0 (omega arith);
        at = λ j p q. absurd (omega arith);
      }

-- ---- the same in the pass's own words

-- an operand has a place in arrays
pub record InArrays (base operand : ℕ) (spans heights : List ℕ) : Type 0 where
  pub behind : 1 ≤ operand → base ≤ operand
  pub span_in : operand - base < length spans
  pub height_in : operand - base < length heights

in_arrays : {own : List ℕ} {nodes base low due operand : ℕ} {spans heights : List ℕ} → Measured own nodes base low spans heights → base < due → due ≤ suc nodes → Due nodes due operand → InArrays base operand spans heights
in_arrays m h k (inl z) = let r = m.room in let q = m.sizes.room in record { behind = λ l. absurd (omega arith); span_in = omega arith; height_in = omega arith }
in_arrays m h k (inr z) = let r = m.room in let q = m.sizes.room in record { behind = λ l. omega (arith, z.0); span_in = omega (arith, z.0, z.1); height_in = omega (arith, z.0, z.1) }

module _ {own : List ℕ} {nodes base node : ℕ} {spans heights : List ℕ} (m : Measured own nodes base node spans heights) (low : base < node) (high : node ≤ nodes) (most : nodes ≤ most_tokens) where
  abbrev cell : ℕ → ℕ
  cell k = get_or own (node_cells * (node - 1) + k) 0

  pub second_in : Due nodes (node + 1) (cell second_column) → InArrays base (cell second_column) spans heights
  second_in d = in_arrays m (omega arith) (omega arith) d

  abbrev due : ℕ
  due = node + 1 + get_or spans (cell second_column - base) 0

  module _ (d : Due nodes (node + 1) (cell second_column)) where
    as_second : Due nodes (node + 1) (second_at own node)
    as_second = rw (cell_other own node second_column (omega arith)) at d

    pub due_most : (node < due) × (due ≤ suc nodes)
    due_most = rw (cell_other own node second_column (omega arith)) (omega arith, next_most own m (omega arith) high most as_second)

    module _ (f : Due nodes due (cell first_column)) where
      as_first : Due nodes (node + 1 + get_or spans (second_at own node - base) 0) (first_at own node)
      as_first = rw (cell_other own node second_column (omega arith), cell_other own node first_column (omega arith)) at f

      pub first_in : InArrays base (cell first_column) spans heights
      first_in = let e = due_most in in_arrays m (omega (arith, e.0)) e.1 f

      pub spans_most : node + (due - node + get_or spans (cell first_column - base) 0) ≤ suc nodes
      spans_most =
          rw (cell_other own node second_column (omega arith), cell_other own node first_column (omega arith))
          (span_most own m (omega arith) high most as_second as_first)

      pub one_more : (v w : ℕ) → v ≡ due - node + get_or spans (cell first_column - base) 0 → w ≡ own_level (form_at own node) + max (get_or heights (cell first_column - base) 0) (get_or heights (cell second_column - base) 0) →
          Measured own nodes base (node - 1) (set spans (node - base) v) (set heights (node - base) w)
      one_more v w ev ew =
          measured_more own m (omega arith) high most as_second as_first low v w
          (rw (cell_other own node second_column (omega arith), cell_other own node first_column (omega arith)) at ev)
          (rw (cell_other own node second_column (omega arith), cell_other own node first_column (omega arith)) at ew)

      pub heights_most : own_level (form_at own node) + max (get_or heights (cell first_column - base) 0) (get_or heights (cell second_column - base) 0) ≤ most_tokens
      heights_most =
          rw (cell_other own node second_column (omega arith), cell_other own node first_column (omega arith))
          (rw (height_is own m (omega arith) high most as_second as_first) (levels_most own most_tokens node))

-- ---- the pass from the root on

-- two runs in a row, of which the second is stored first
two_runs : (ys zs l : List ℕ) (j k : ℕ) → k ≡ j + length ys → sets (sets l k zs) j ys ≡ sets l j (ys ++ zs)
two_runs ys zs l j k e = three_runs ys zs [] l j k (k + length zs) e refl ∙ ap (λ xs. sets l j (ys ++ xs)) (append-nil zs)

-- an operand's new number
pick_number : (t : Tree) (o due n : ℕ) → 1 ≤ due → o ≡ number_of t due → pick (eqb o 0) 0 n ≡ number_of t n
unfolding number_of
pick_number none o due n h e = pick_true _ _ (eq-eqb o 0 e)
pick_number (node l a b) o due n h e = pick_false _ _ (ne_eqb o 0 (λ z. omega arith))

-- a node's cells, then those of its second operand, then those of its first
stored_node : (l : Label) (a b : Tree) (number x y : ℕ) (out one half end : List ℕ) → 1 ≤ number → x ≡ number_of a (suc number) → y ≡ number_of b (suc number + size a)
    → one ≡ sets out (node_cells * (number - 1)) (l.form ∷ l.attributes ∷ l.detail ∷ x ∷ y ∷ l.symbol ∷ [])
    → half ≡ sets one (node_cells * (number + 1 + size a - 1)) (cells_from (number + 1 + size a) b) → end ≡ sets half (node_cells * (number + 1 - 1)) (cells_from (number + 1) a)
    → end ≡ sets out (node_cells * (number - 1)) (cells_from number (node l a b))
unfolding cells_from
stored_node l a b number x y out one half end low ex ey eo eh ee =
    let u : number + 1 ≡ suc number = omega arith in
    let w = length_cells (suc number) a in
    ee ∙ rw (eh, u)
    (two_runs (cells_from (suc number) a) (cells_from (suc number + size a) b) one (node_cells * (suc number - 1)) (node_cells * (suc number + size a - 1)) (omega arith)
    ∙ rw (eo, ex, ey)
    (sym (sets_append (l.form ∷ l.attributes ∷ l.detail ∷ number_of a (suc number) ∷ number_of b (suc number + size a) ∷ l.symbol ∷ []) (cells_from (suc number) a ++ cells_from (suc number + size a) b) out (node_cells * (number - 1)) (node_cells * (suc number - 1)) (omega arith))))

module _ (own spans : List ℕ) (base limit : ℕ) where
  -- n nodes from `done` on are placed one after the other: what the numbers and the lent table are then
  abbrev pub Runs : ℕ → ℕ → List ℕ → List ℕ → List ℕ → List ℕ → Type 0
  Runs zero done numbers out last end = (numbers ≡ last) × (out ≡ end)
  Runs (suc n) done numbers out last end =
      (1 ≤ number_at base done numbers) × (number_at base done numbers + 1 + span_of own base spans done ≤ suc limit)
      × Runs n (suc done) (numbers_on own base spans done numbers) (stored_on own base spans done numbers out) last end

  runs_on : (n k all done to : ℕ) (numbers out middle half last end : List ℕ) → all ≡ n + k → to ≡ done + n → Runs n done numbers out middle half → Runs k to middle half last end → Runs all done numbers out last end
  runs_on zero k all done to numbers out middle half last end t e p q =
      let z : to ≡ done = omega arith in
      let y : all ≡ k = omega arith in
      rw y (rw (z, ← p.0, ← p.1) at q)
  runs_on (suc n) k all done to numbers out middle half last end t e p q =
      let y : all ≡ suc (n + k) = omega arith in
      rw y (p.0, p.1, runs_on n k (n + k) (suc done) to _ _ middle half last end refl (omega arith) p.2 q)

  -- the cells of a node, by its label
  by_label : (i n number x y : ℕ) (out : List ℕ) → n ≡ number → sets out (node_cells * (n - 1)) (form_at own i ∷ attributes_at own i ∷ detail_at own i ∷ x ∷ y ∷ symbol_at own i ∷ [])
      ≡ sets out (node_cells * (number - 1)) ((label_at own i).form ∷ (label_at own i).attributes ∷ (label_at own i).detail ∷ x ∷ y ∷ (label_at own i).symbol ∷ [])
  unfolding label_at
  by_label i n number x y out e = ap (λ k. sets out (node_cells * (k - 1)) (form_at own i ∷ attributes_at own i ∷ detail_at own i ∷ x ∷ y ∷ symbol_at own i ∷ [])) e

  -- what a tree's nodes leave behind when all are placed
  pub record Filled (t : Tree) (done number : ℕ) (numbers out : List ℕ) : Type 0 where
    pub last : List ℕ
    pub end : List ℕ
    pub runs : Runs (size t) done numbers out last end
    pub long : length last ≡ length numbers
    pub later : (j : ℕ) → suc (done + size t) ≤ base + j → 1 ≤ j → get_or last j 0 ≡ get_or numbers j 0
    pub stored : end ≡ sets out (node_cells * (number - 1)) (cells_from number t)

  module _ {nodes : ℕ} (m : Spanned own nodes base base spans) where
    -- an operand's size
    span_read : (t : Tree) (due : ℕ) → base < due → due + size t ≤ suc nodes → Laid own due t → get_or spans (number_of t due - base) 0 ≡ size t
    unfolding size number_of
    span_read none due h k p = let z : 0 - base ≡ 0 = omega arith in rw z m.absent
    span_read (node l a b) due h k p = m.at due h (omega arith) ∙ ap size p.0

    -- the numbers of a node's operands are stored
    module _ (a b : Tree) (done v w : ℕ) (numbers : List ℕ) (h : base ≤ done) (ef : first_at own (suc done) ≡ number_of a (suc (suc done) + size b)) (es : second_at own (suc done) ≡ number_of b (suc (suc done))) where
      abbrev both : List ℕ
      both = set (set numbers (first_at own (suc done) - base) v) (second_at own (suc done) - base) w

      second_apart : (t : Tree) → second_at own (suc done) ≡ number_of t (suc (suc done)) → (j : ℕ) → 1 ≤ j → suc (suc done) + size t ≤ base + j → j ≡ second_at own (suc done) - base → ⊥
      unfolding size number_of
      second_apart none e j p q z = omega arith
      second_apart (node k x y) e j p q z = omega arith

      first_apart : (t : Tree) → first_at own (suc done) ≡ number_of t (suc (suc done) + size b) → (j : ℕ) → 1 ≤ j → suc (suc done) + size b + size t ≤ base + j → j ≡ first_at own (suc done) - base → ⊥
      unfolding size number_of
      first_apart none e j p q z = omega arith
      first_apart (node k x y) e j p q z = omega arith

      both_later : (j : ℕ) → 1 ≤ j → suc (suc done) + size b + size a ≤ base + j → get_or both j 0 ≡ get_or numbers j 0
      both_later j p q =
          get_or-set_other (set numbers (first_at own (suc done) - base) v) (second_at own (suc done) - base) j w 0 (second_apart b es j p (omega arith))
          ∙ get_or-set_other numbers (first_at own (suc done) - base) j v 0 (first_apart a ef j p q)

      both_second : (t : Tree) → second_at own (suc done) ≡ number_of t (suc (suc done)) → suc done + size t ≤ nodes → nodes - base < length numbers → number_of t (get_or both (suc (suc done) - base) 0) ≡ number_of t w
      unfolding number_of size
      both_second none e k r = refl
      both_second (node k x y) e q r =
          let z : second_at own (suc done) - base ≡ suc (suc done) - base = ap (λ n. n - base) e in
          rw z (get_or-set_same (set numbers (first_at own (suc done) - base) v) (suc (suc done) - base) w 0 (simp length-set (omega arith)))

      both_first : (t : Tree) → first_at own (suc done) ≡ number_of t (suc (suc done) + size b) → suc done + size b + size t ≤ nodes → nodes - base < length numbers → number_of t (get_or both (suc (suc done) + size b - base) 0) ≡ number_of t v
      unfolding number_of size
      both_first none e q r = refl
      both_first (node k x y) e q r =
          let z : first_at own (suc done) - base ≡ suc (suc done) + size b - base = ap (λ n. n - base) e in
          get_or-set_other (set numbers (first_at own (suc done) - base) v) (second_at own (suc done) - base) (suc (suc done) + size b - base) w 0 (second_apart b es (suc (suc done) + size b - base) (omega arith) (omega arith))
          ∙ rw z (get_or-set_same numbers (suc (suc done) + size b - base) v 0 (omega arith))

    pub filled : (t : Tree) (done number : ℕ) (numbers out : List ℕ) → base ≤ done → done + size t ≤ nodes → nodes - base < length numbers → Laid own (suc done) t
        → number_of t (number_at base done numbers) ≡ number_of t number → 1 ≤ number → number + size t ≤ suc limit → Filled t done number numbers out
    unfolding size number_of cells_from
    filled none done number numbers out h k r p e low high =
        record { last = numbers; end = out; runs = (refl, refl); long = refl; later = λ j q z. refl; stored = refl }
    filled (node l a b) done number numbers out h k r p e low high =
        let sp : span_of own base spans done ≡ size a = rw p.2 (span_read a (suc (suc done) + size b) (omega arith) (omega arith) p.4) in
        let one = numbers_on own base spans done numbers in
        let w : number_at base done numbers + 1 + span_of own base spans done ≡ number + 1 + size a = omega (arith, sp, e) in
        let v : number_at base done numbers + 1 ≡ number + 1 = omega (arith, e) in
        let x = number_at base done numbers + 1 in
        let z = number_at base done numbers + 1 + span_of own base spans done in
        let long : length one ≡ length numbers = simp length-set in
        let y = filled b (suc done) (number + 1 + size a) one (stored_on own base spans done numbers out) (omega arith) (omega arith) (omega (arith, long)) p.5
        (both_second a b done x z numbers h p.2 p.3 b p.3 (omega arith) r ∙ ap (number_of b) w) (omega arith) (omega arith) in
        let s : suc (suc done) + size b ≡ suc (suc done + size b) = omega arith in
        let g = filled a (suc done + size b) (number + 1) y.last y.end (omega arith) (omega arith) (omega (arith, long, y.long)) (subst (λ j. Laid own j a) s p.4)
        (ap (number_of a) (y.later (suc (suc done + size b) - base) (omega arith) (omega arith)) ∙ ap (λ j. number_of a (get_or one (j - base) 0)) (sym s) ∙ both_first a b done x z numbers h p.2 p.3 a p.2 (omega arith) r ∙ ap (number_of a) v) (omega arith) (omega arith) in
        record {
          last = g.last;
          end = g.end;
          runs = (omega (arith, e), omega (arith, w), runs_on (size b) (size a) (size a + size b) (suc done) (suc done + size b) _ _ y.last y.end g.last g.end (omega arith) refl y.runs g.runs);
          long = g.long ∙ y.long ∙ long;
          later = λ j q t. g.later j (omega arith) t ∙ y.later j (omega arith) t ∙ both_later a b done x z numbers h p.2 p.3 j t (omega arith);
          stored =
              stored_node (label_at own (suc done)) a b number _ _ out (stored_on own base spans done numbers out) y.end g.end low
              (pick_number a (first_at own (suc done)) (suc (suc done) + size b) x (omega arith) p.2 ∙ ap (number_of a) (v ∙ (let u : number + 1 ≡ suc number = omega arith in u)))
              (pick_number b (second_at own (suc done)) (suc (suc done)) z (omega arith) p.3 ∙ ap (number_of b) (w ∙ (let u : number + 1 + size a ≡ suc number + size a = omega arith in u)))
              (by_label (suc done) _ number _ _ out e) y.stored g.stored
              ∙ ap (λ k. sets out (node_cells * (number - 1)) (cells_from number (node k a b))) p.1;
        }

-- ---- the pass's loop

module _ (own spans : List ℕ) (base limit : ℕ) where
  -- n nodes from `done` on lead to what the lent table is to be
  pub record Leads (n done : ℕ) (numbers out end : List ℕ) : Type 0 where
    pub last : List ℕ
    pub runs : Runs own spans base limit n done numbers out last end

  pub leads_end : (n done : ℕ) (numbers out end : List ℕ) → n ≡ 0 → Leads n done numbers out end → out ≡ end
  leads_end n done numbers out end e l = go n e l.runs
    where
      go : (k : ℕ) → k ≡ 0 → Runs own spans base limit k done numbers out l.last end → out ≡ end
      go zero z r = r.1
      go (suc k) z r = absurd (omega arith)

  pub leads_step : (n k done : ℕ) (numbers out end : List ℕ) → n ≡ suc k → Leads n done numbers out end
      → (1 ≤ number_at base done numbers) × (number_at base done numbers + 1 + span_of own base spans done ≤ suc limit) × Leads k (suc done) (numbers_on own base spans done numbers) (stored_on own base spans done numbers out) end
  leads_step n k done numbers out end e l =
      let r = rw e at l.runs in
      (r.0, r.1, record { last = l.last; runs = r.2 })

module _ {own spans : List ℕ} {nodes base : ℕ} (m : Spanned own nodes base base spans) (here : base < nodes) where
  pub root_span : get_or spans 1 0 ≡ size (tree_at own most_tokens (suc base))
  root_span = let z : suc base - base ≡ 1 = omega arith in rw z at (m.at (suc base) (omega arith) here)

  pub root_few : {limit : ℕ} → nodes - base ≤ limit → size (tree_at own most_tokens (suc base)) ≤ limit
  root_few h = omega (arith, m.within (suc base) (omega arith) here)

  pub root_most : base + size (tree_at own most_tokens (suc base)) ≤ nodes
  root_most = omega (arith, m.within (suc base) (omega arith) here)

  pub leads_start : (numbers out : List ℕ) → nodes - base < length numbers → Leads own spans base (size (tree_at own most_tokens (suc base))) (size (tree_at own most_tokens (suc base))) base (set numbers 1 1) out (sets out 0 (cells_from 1 (tree_at own most_tokens (suc base))))
  leads_start numbers out r =
      let z : suc base - base ≡ 1 = omega arith in
      let f = filled own spans base (size (tree_at own most_tokens (suc base))) m (tree_at own most_tokens (suc base)) base 1 (set numbers 1 1) out (omega arith) root_most (simp length-set r) (m.laid (suc base) (omega arith) here)
      (ap (number_of (tree_at own most_tokens (suc base))) (rw z (get_or-set_same numbers 1 1 0 (omega arith)))) (omega arith) (omega arith) in
      let e : node_cells * (1 - 1) ≡ 0 = omega arith in
      record { last = f.last; runs = subst (λ (x : List ℕ). Runs own spans base (size (tree_at own most_tokens (suc base))) (size (tree_at own most_tokens (suc base))) base (set numbers 1 1) out f.last x) (f.stored ∙ ap (λ k. sets out k (cells_from 1 (tree_at own most_tokens (suc base)))) e) f.runs }

  -- an operand of a tree that is laid so has a place in arrays
  placed_in : (t : Tree) (due o : ℕ) → base < due → due + size t ≤ suc nodes → o ≡ number_of t due → (1 ≤ o → base ≤ o) × (o - base ≤ nodes - base)
  unfolding size number_of
  placed_in none due o h k e = (λ q. absurd (omega arith), omega arith)
  placed_in (node l a b) due o h k e = (λ q. omega arith, omega arith)

  pub placeable : (done : ℕ) (numbers out : List ℕ) → node_cells * nodes ≤ length own → nodes ≤ most_tokens → base ≤ done → done < base + size (tree_at own most_tokens (suc base)) → nodes - base < length numbers → node_cells * size (tree_at own most_tokens (suc base)) ≤ length out
      → 1 ≤ number_at base done numbers → number_at base done numbers + 1 + span_of own base spans done ≤ suc (size (tree_at own most_tokens (suc base))) → Placeable own base done spans numbers out
  unfolding size
  placeable done numbers out cells most low high room lent one after =
      let w = root_most in
      let u = unfolds own most_tokens (suc done) (omega arith) (omega arith) in
      let p = subst (Laid own (suc done)) u (m.laid (suc done) (omega arith) (omega arith)) in
      let k = subst (λ t. suc done + size t ≤ suc nodes) u (m.within (suc done) (omega arith) (omega arith)) in
      let f = placed_in _ _ (first_at own (suc done)) (omega arith) (omega arith) p.2 in
      let s = placed_in _ _ (second_at own (suc done)) (omega arith) (omega arith) p.3 in
      let r = m.room in
      record {
        cells = omega arith;
        few = omega arith;
        behind = low;
        first_behind = f.0;
        second_behind = s.0;
        here = omega arith;
        first_here = omega (arith, f.1);
        second_here = omega (arith, s.1);
        span_here = omega (arith, f.1);
        low = one;
        after = omega arith;
        room = omega arith;
      }

pub root_height : {own spans heights : List ℕ} {nodes base : ℕ} → Measured own nodes base base spans heights → base < nodes → get_or heights 1 0 ≡ levels (tree_at own most_tokens (suc base))
root_height {own} {spans} {heights} {nodes} {base} m here = let z : suc base - base ≡ 1 = omega arith in rw z at (m.at (suc base) (omega arith) here)
