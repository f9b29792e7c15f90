-- Each turn of the walk's loop keeps what the rows will be once all is done, and leaves fewer nodes. Assumes nothing.
use mathlib.Core.Path.{◌≡◌, refl, sym, ap, ◌∙◌}
use mathlib.Core.Bool.{Bool, true, false}
use mathlib.Core.List.{List}
use Prim.Native.Nat.{ℕ, zero, suc, ◌+◌, ◌-◌, ◌≤◌, ◌<◌}
use native.Mathlib.Omega.{arith}
use native.Mathlib.Decide.{ℕ_discrete, dec_le}
use native.Mathlib.Numerals.{add-one}
use lib.ListN.{length, get_or, set, length-set}
use lib.Seq.{get_or-set_same, get_or-set_other}
use Rattle.tree.specs.Sizes.{most_levels}
use Rattle.tree.specs.Table.{cell_at, first_column, second_column}
use Rattle.tree.specs.Trees.{operand_at, tree_at}
use Rattle.tree.proofs.Unfold.{unfolds, operand_range}
use Rattle.fixup.specs.declared.context.FixupContext.{FixupContext}
use Rattle.expr.specs.declared.Handed.{Handed}
use Rattle.expr.specs.declared.order.CalleeOrder.{CalleeOrder}
use Rattle.expr.specs.Expr.{hands_first, hands_second}
use Rattle.row_pack.specs.Packs.{packed_of, unpacked_of}
use Rattle.row_pack.proofs.Packs.{unpacks}
use Rattle.row.specs.Rows.{is_expression, row_of, own_context}
use Rattle.row.specs.Steps.{alone}
use Rattle.row_walk.specs.Walk.{row_stored}
use Rattle.row_walk.specs.Steps.{placed_within, finish, nodes_in, to_do}
use Rattle.row_walk.proofs.Decisions.{rows_other}
use Rattle.row_walk.proofs.Placed.{length_stored}
use Rattle.row_walk.proofs.Reach.{both_reached, first_reached, only_first, only_second, no_operand}

module _ (order : CalleeOrder) (cells : List ℕ) (count : ℕ) where
  -- what is handed down counts only where an owner tests the operand
  abbrev pub heeded : Bool → Handed → ℕ → Handed
  heeded true h i = alone (tree_at cells count i)
  heeded false h i = h

  -- ---- one node

  nodes_node : (i : ℕ) → 1 ≤ i → i ≤ count
      → nodes_in (tree_at cells count i) ≡ suc (nodes_in (tree_at cells count (operand_at cells count i first_column)) + nodes_in (tree_at cells count (operand_at cells count i second_column)))
  unfolding nodes_in
  nodes_node i low high = rw (unfolds cells count i low high)

  -- ---- entries below the one that is written stay

  finish_set : (d j : ℕ) → d ≤ j → (nodes contexts rows : List ℕ) (n x : ℕ) → finish order cells count d (set nodes j n) (set contexts j x) rows ≡ finish order cells count d nodes contexts rows
  unfolding finish
  finish_set zero j h nodes contexts rows n x = refl
  finish_set (suc d) j h nodes contexts rows n x =
      rw (get_or-set_other nodes j d n 0 (λ e. omega arith), get_or-set_other contexts j d x 0 (λ e. omega arith))
      (finish_set d j (omega arith) nodes contexts _ n x)

  to_do_set : (d j : ℕ) → d ≤ j → (nodes : List ℕ) (n : ℕ) → to_do cells count d (set nodes j n) ≡ to_do cells count d nodes
  unfolding to_do
  to_do_set zero j h nodes n = refl
  to_do_set (suc d) j h nodes n =
      rw (get_or-set_other nodes j d n 0 (λ e. omega arith), to_do_set d j (omega arith) nodes n)

  -- an owner on top
  finish_push : (d : ℕ) (nodes contexts rows : List ℕ) (n : ℕ) (x : FixupContext) → d < length nodes → d < length contexts
      → finish order cells count (suc d) (set nodes d n) (set contexts d (packed_of x)) rows
      ≡ finish order cells count d nodes contexts (placed_within order cells count (most_levels - d) (operand_at cells count n second_column) (hands_second x (tree_at cells count n)) rows)
  unfolding finish
  finish_push d nodes contexts rows n x h k =
      rw (get_or-set_same nodes d n 0 h, get_or-set_same contexts d (packed_of x) 0 k, unpacks x)
      (finish_set d d (omega arith) nodes contexts _ n (packed_of x))

  to_do_push : (d : ℕ) (nodes : List ℕ) (n : ℕ) → d < length nodes
      → to_do cells count (suc d) (set nodes d n) ≡ nodes_in (tree_at cells count (operand_at cells count n second_column)) + to_do cells count d nodes
  unfolding to_do
  to_do_push d nodes n h = rw (get_or-set_same nodes d n 0 h, to_do_set d d (omega arith) nodes n)

  -- ---- the state at the head of the loop

  pub record State (target : List ℕ) (size : ℕ) (rows nodes contexts : List ℕ) (depth : ℕ) (handed : Handed) (at : ℕ) : Type 0 where
    pub low : 1 ≤ at
    pub high : at ≤ count
    pub rows_size : length rows ≡ size
    pub nodes_size : length nodes ≡ most_levels
    pub contexts_size : length contexts ≡ most_levels
    pub shallow : depth ≤ most_levels
    -- the second operands of the owners on the stack are there
    pub waits : (k : ℕ) → k < depth → 1 ≤ operand_at cells count (get_or nodes k 0) second_column
    pub rest : finish order cells count depth nodes contexts (placed_within order cells count (most_levels - depth) at handed rows) ≡ target

  -- what is handed to a type or a link does not matter
  pub unheard : (target : List ℕ) (size : ℕ) (rows nodes contexts : List ℕ) (depth : ℕ) (handed : Handed) (at : ℕ) → is_expression (tree_at cells count at) ≡ false
      → State target size rows nodes contexts depth handed at → State target size rows nodes contexts depth (alone (tree_at cells count at)) at
  unheard target size rows nodes contexts depth handed at e s = record {
    low = s.low;
    high = s.high;
    rows_size = s.rows_size;
    nodes_size = s.nodes_size;
    contexts_size = s.contexts_size;
    shallow = s.shallow;
    waits = s.waits;
    rest = rw (rows_other order handed (tree_at cells count at) e) s.rest;
  }

  abbrev pub todo : List ℕ → ℕ → ℕ → ℕ
  todo nodes depth at = nodes_in (tree_at cells count at) + to_do cells count depth nodes

  module _ (target : List ℕ) (size : ℕ) (rows nodes contexts : List ℕ) (depth : ℕ) (handed : Handed) (at : ℕ) (s : State target size rows nodes contexts depth handed at) where
    module _ (own : FixupContext) (eo : own ≡ own_context handed (tree_at cells count at)) (rows' : List ℕ) (er : rows' ≡ row_stored at (row_of handed (tree_at cells count at)) rows) where
      pub size_entered : length rows' ≡ size
      size_entered = ap length er ∙ length_stored _ _ _ ∙ s.rows_size

      module _ (first second : ℕ) (ef : first ≡ operand_at cells count at first_column) (es : second ≡ operand_at cells count at second_column) where
        first_range : (first ≡ 0 → ⊥) → (1 ≤ operand_at cells count at first_column) × (operand_at cells count at first_column ≤ count)
        first_range nf = let there : 1 ≤ operand_at cells count at first_column = rw (← ef) (omega arith) in (there, (operand_range count at (cell_at cells at first_column) there).1)

        second_range : (second ≡ 0 → ⊥) → (1 ≤ operand_at cells count at second_column) × (operand_at cells count at second_column ≤ count)
        second_range ns = let there : 1 ≤ operand_at cells count at second_column = rw (← es) (omega arith) in (there, (operand_range count at (cell_at cells at second_column) there).1)

        -- the same entries, at an operand
        moved : (at' : ℕ) (handed' : Handed) → 1 ≤ at' → at' ≤ count → placed_within order cells count (most_levels - depth) at handed rows ≡ placed_within order cells count (most_levels - depth) at' handed' rows'
            → State target size rows' nodes contexts depth handed' at'
        moved at' handed' low high e = record {
          low = low;
          high = high;
          rows_size = size_entered;
          nodes_size = s.nodes_size;
          contexts_size = s.contexts_size;
          shallow = s.shallow;
          waits = s.waits;
          rest = rw (← e) s.rest;
        }

        module _ (handed' : Handed) where
          -- down, with the second operand waiting
          pub pushed : (first ≡ 0 → ⊥) → (second ≡ 0 → ⊥) → depth < most_levels → handed' ≡ hands_first order own (tree_at cells count at)
              → (todo (set nodes depth at) (depth + 1) first < todo nodes depth at)
              × State target size rows' (set nodes depth at) (set contexts depth (packed_of own)) (depth + 1) handed' first
          pushed nf ns small eh =
              let ns_size = s.nodes_size in
              let cs_size = s.contexts_size in
              let n = nodes_node at s.low s.high in
              let p = to_do_push depth nodes at (omega arith) in
              let f = first_range nf in
              let g = second_range ns in
              let less : most_levels - suc depth ≡ most_levels - depth - 1 = omega arith in
              rw (add-one, ef) (
                omega arith,
                record {
                  low = f.0;
                  high = f.1;
                  rows_size = size_entered;
                  nodes_size = length-set nodes depth at ∙ ns_size;
                  contexts_size = length-set contexts depth (packed_of own) ∙ cs_size;
                  shallow = omega arith;
                  waits = waits';
                  rest =
                      rw (
                        eh,
                        finish_push depth nodes contexts (placed_within order cells count (most_levels - suc depth) (operand_at cells count at first_column) (hands_first order own (tree_at cells count at)) rows') at own (omega arith) (omega arith),
                        less,
                        ← both_reached order cells count at handed rows s.low s.high own eo rows' er (most_levels - depth) f.0 f.1 g.0 g.1 (λ z. omega arith),
                      )
                      s.rest;
                },
              )
            where
              waits' : (k : ℕ) → k < suc depth → 1 ≤ operand_at cells count (get_or (set nodes depth at) k 0) second_column
              waits' k h = go (ℕ_discrete k depth)
                where
                  go : Dec (k ≡ depth) → 1 ≤ operand_at cells count (get_or (set nodes depth at) k 0) second_column
                  go (yes e) = let ns_size = s.nodes_size in rw (e, get_or-set_same nodes depth at 0 (omega arith)) (second_range ns).0
                  go (no e) = rw (get_or-set_other nodes depth k at 0 e) (s.waits k (omega arith))

          -- down, with nothing waiting: there is no second operand, or no entry for it
          pub unpushed : (first ≡ 0 → ⊥) → ((second ≡ 0 → ⊥) → depth < most_levels → ⊥) → handed' ≡ hands_first order own (tree_at cells count at)
              → (todo nodes depth first < todo nodes depth at) × State target size rows' nodes contexts depth handed' first
          unpushed nf full eh =
              let n = nodes_node at s.low s.high in
              let f = first_range nf in
              rw ef (omega arith, moved (operand_at cells count at first_column) handed' f.0 f.1 (rw eh (go (ℕ_discrete second 0))))
            where
              go : Dec (second ≡ 0) → placed_within order cells count (most_levels - depth) at handed rows
                  ≡ placed_within order cells count (most_levels - depth) (operand_at cells count at first_column) (hands_first order own (tree_at cells count at)) rows'
              go (yes z) = only_first order cells count at handed rows s.low s.high own eo rows' er (most_levels - depth) (sym es ∙ z)
              go (no ns) =
                  let f = first_range nf in
                  let g = second_range ns in
                  let d = s.shallow in
                  let most : most_levels ≤ depth = least (dec_le most_levels depth) in
                  let z : most_levels - depth ≡ 0 = omega arith in
                  rw z (first_reached order cells count at handed rows s.low s.high own eo rows' er f.0 f.1 g.0 g.1)
                where
                  least : Dec (most_levels ≤ depth) → most_levels ≤ depth
                  least (yes h) = h
                  least (no h) = absurd (full ns (omega arith))

          -- the first operand is absent: across to the second
          pub across : first ≡ 0 → (second ≡ 0 → ⊥) → handed' ≡ hands_second own (tree_at cells count at)
              → (todo nodes depth second < todo nodes depth at) × State target size rows' nodes contexts depth handed' second
          across zf ns eh =
              let n = nodes_node at s.low s.high in
              let g = second_range ns in
              rw es (omega arith, moved (operand_at cells count at second_column) handed' g.0 g.1 (rw eh (only_second order cells count at handed rows s.low s.high own eo rows' er (most_levels - depth) (sym ef ∙ zf))))

        -- nothing below
        leaf : first ≡ 0 → second ≡ 0 → finish order cells count depth nodes contexts rows' ≡ target
        leaf zf zs = rw (no_operand order cells count at handed rows s.low s.high own eo rows' er (most_levels - depth) (sym ef ∙ zf) (sym es ∙ zs)) at s.rest

        -- up to the owner on top
        pub popped : first ≡ 0 → second ≡ 0 → (depth ≡ 0 → ⊥) → (owner : ℕ) → owner ≡ get_or nodes (depth - 1) 0 → (kept : FixupContext) → kept ≡ unpacked_of (get_or contexts (depth - 1) 0)
            → (handed' : Handed) → handed' ≡ hands_second kept (tree_at cells count owner) → (at' : ℕ) → at' ≡ operand_at cells count owner second_column
            → (todo nodes (depth - 1) at' < todo nodes depth at) × State target size rows' nodes contexts (depth - 1) handed' at'
        unfolding finish to_do
        popped zf zs nd owner eo' kept ek handed' eh at' ea = go depth refl
          where
            go : (d : ℕ) → depth ≡ d → (todo nodes (depth - 1) at' < todo nodes depth at) × State target size rows' nodes contexts (depth - 1) handed' at'
            go zero e = absurd (nd e)
            go (suc d) e =
                let z : depth - 1 ≡ d = omega arith in
                let w = s.waits d (omega arith) in
                let sh = s.shallow in
                let n = nodes_node at s.low s.high in
                let t : to_do cells count depth nodes ≡ nodes_in (tree_at cells count (operand_at cells count (get_or nodes d 0) second_column)) + to_do cells count d nodes = rw e in
                let range = operand_range count (get_or nodes d 0) (cell_at cells (get_or nodes d 0) second_column) (omega arith) in
                let l = rw e at (leaf zf zs) in
                rw (ea, eh, ek, eo', z) (
                  omega arith,
                  record {
                    low = w;
                    high = range.1;
                    rows_size = size_entered;
                    nodes_size = s.nodes_size;
                    contexts_size = s.contexts_size;
                    shallow = omega arith;
                    waits = λ k h. s.waits k (omega arith);
                    rest = l;
                  },
                )

        pub finished : first ≡ 0 → second ≡ 0 → depth ≡ 0 → rows' ≡ target
        unfolding finish
        finished zf zs zd = rw zd at (leaf zf zs)
