-- The answers of all nodes, from the cells after all that is tried. Assumes nothing.
use mathlib.Core.Path.{◌≡◌, refl, sym, ap, ap₂, ◌∙◌}
use mathlib.Core.Bool.{Bool, true, false, not, ◌&&◌}
use mathlib.Core.List.{List, ◌++◌}
use Prim.Native.Nat.{ℕ, zero, suc, ◌+◌, ◌*◌, ◌-◌, ◌≤◌, ◌<◌}
use native.Mathlib.Omega.{arith}
use native.Mathlib.Decide.{dec_le}
use lib.ListN.{length, get_or, take, drop, replicate, length-set, length-replicate, get_or-replicate}
use lib.Seq.{get_or-set_same, get_or-set_other, get_or-append-add, get_or-drop, length-take-le, ext_get_or}
use Rattle.laws.specs.Choice.{pick}
use Rattle.laws.specs.Lists.{over}
use Rattle.laws.proofs.Choice.{true_not_false}
use Rattle.laws.proofs.Lists.{length_over}
use Rattle.tree.specs.Sizes.{node_cells}
use Rattle.expr.specs.declared.order.CalleeOrder.{CalleeOrder}
use Rattle.row_open.specs.declared.Answer.{Answer}
use Rattle.row_open.specs.declared.Answer.TheVariants.{Never, Always, Depends}
use Rattle.row_open.specs.declared.Entry.{Entry}
use Rattle.row_open.specs.Open.{choices, chosen, answer_number, answer_by, has_outer, answer_at, told}
use Rattle.row_open.specs.Steps.{unasked, varied}
use Rattle.row_open.proofs.Near.{Near, has_near}
use Rattle.row_open.proofs.Tried.{all_new, length_varied, tried, varied_at, varied_past, held, has, has_not, tried_held}
use Rattle.row_open.proofs.Looked.{over_start}
use Rattle.row_open.proofs.Shallow.{near_copied}
use Rattle.row_open.proofs.Choices.{all_map, all_open, choices_all, Good, good_forms, open_near, new_open, good_ends, some_choice}

-- ---- what lies in a buffer behind what is written over it

over_past : (new old : List ℕ) (k : ℕ) → length new ≤ k → get_or (over new old) k 0 ≡ get_or old k 0
unfolding over
over_past new old k h =
    let e : k ≡ length new + (k - length new) = omega arith in
    ap (λ (n : ℕ). get_or (new ++ drop (length new) old) n 0) e
    ∙ get_or-append-add new (drop (length new) old) (k - length new) 0
    ∙ get_or-drop (length new) old (k - length new) 0
    ∙ ap (λ (n : ℕ). get_or old n 0) (sym e)

-- ---- answers in cells

length_told : (n : ℕ) (f : ℕ → Answer) (s : List ℕ) → length (told n f s) ≡ length s
unfolding told
length_told zero f s = refl
length_told (suc n) f s = simp length-set (length_told n f s)

told_past : (n : ℕ) (f : ℕ → Answer) (s : List ℕ) (k : ℕ) → n ≤ k → get_or (told n f s) k 0 ≡ get_or s k 0
unfolding told
told_past zero f s k h = refl
told_past (suc n) f s k h = get_or-set_other (told n f s) n k _ 0 (λ e. omega arith) ∙ told_past n f s k (omega arith)

told_at : (n : ℕ) (f : ℕ → Answer) (s : List ℕ) → n ≤ length s → (k : ℕ) → k < n → get_or (told n f s) k 0 ≡ answer_number (f (suc k))
unfolding told
told_at zero f s l k h = absurd (omega arith)
told_at (suc n) f s l k h = go (dec_le n k) (λ q. told_at n f s (omega arith) k q)
  where
    go : Dec (n ≤ k) → (k < n → get_or (told n f s) k 0 ≡ answer_number (f (suc k))) → get_or (told (suc n) f s) k 0 ≡ answer_number (f (suc k))
    go (yes p) r = let e : k ≡ n = omega arith in rw e (get_or-set_same (told n f s) n _ 0 (rw (length_told n f s) l))
    go (no p) r = get_or-set_other (told n f s) n k _ 0 (λ e. omega arith) ∙ r (omega arith)

-- ---- one node

-- what a cell holds after some choice, as an answer's number
held_answer : (a n : Bool) → a && n ≡ false → held a n ≡ answer_number (pick a Always (pick n Never Depends))
unfolding pick
held_answer true true e = true_not_false e
held_answer true false e = refl
held_answer false true e = refl
held_answer false false e = refl

module _ (order : CalleeOrder) (context count : ℕ) (es : List Entry) (cells : List ℕ) where
  pub answer_is : (i : ℕ) → answer_at order context count es cells i ≡ pick (all_open (has order context count i) es cells) Always (pick (all_open (has_not order context count i) es cells) Never Depends)
  unfolding answer_at answer_by
  answer_is i =
      ap₂ (λ (a n : Bool). pick a Always (pick n Never Depends))
      (choices_all (has order context count i) es cells)
      (all_map not (λ os. has_outer order context count (chosen es os cells) i) (choices es) ∙ choices_all (has_not order context count i) es cells)

  module _ (own own' : List ℕ) (good : Good count cells es) (nodes : node_cells * count ≤ length cells) (room : node_cells * count ≤ length own) (c : own' ≡ over (take (node_cells * count) cells) own) where
    long : length (take (node_cells * count) cells) ≡ node_cells * count
    long = length-take-le (node_cells * count) cells nodes

    room' : node_cells * count ≤ length own'
    room' = rw (c, length_over (take (node_cells * count) cells) own (rw long room)) room

    near : Near count own' cells
    near = near_copied count cells own own' nodes c

    good' : Good count own' es
    good' = good_forms count cells own' (λ i h k. (near i h k).form) es good

    by : (test : List ℕ → Bool) → ((a b : List ℕ) → Near count a b → test a ≡ test b) → all_new test es own' ≡ all_open test es cells
    by test r = new_open count test r es own' good' room' ∙ open_near count test r es own' cells good' room' nodes near

    tried_answer : (i : ℕ) → tried order context count es own' i unasked ≡ answer_number (answer_at order context count es cells i)
    tried_answer i =
        tried_held order context count i es own' true true
        ∙ ap₂ held (by (has order context count i) (λ a b n. has_near count a b n order context i)) (by (has_not order context count i) (λ a b n. ap not (has_near count a b n order context i)))
        ∙ held_answer _ _ (some_choice (has order context count i) (good_ends good) cells)
        ∙ ap answer_number (sym (answer_is i))

    -- ---- all nodes

    module _ (answers start : List ℕ) (fits : count ≤ length answers) (f : start ≡ over (replicate count unasked) answers) where
      length_start : length start ≡ length answers
      length_start = ap length f ∙ length_over (replicate count unasked) answers (simp length-replicate fits)

      start_at : (k : ℕ) → k < count → get_or start k 0 ≡ unasked
      start_at k h = rw f (over_start (replicate count unasked) answers k (simp length-replicate h) ∙ get_or-replicate count k unasked 0 h)

      start_past : (k : ℕ) → count ≤ k → get_or start k 0 ≡ get_or answers k 0
      start_past k h = rw f (over_past (replicate count unasked) answers k (simp length-replicate h))

      pub tells : varied order context count es own' start ≡ told count (answer_at order context count es cells) answers
      tells =
          ext_get_or 0 _ _ (length_varied order context count es own' start ∙ length_start ∙ sym (length_told count (answer_at order context count es cells) answers)) (λ k h. go k (dec_le count k))
        where
          go : (k : ℕ) → Dec (count ≤ k) → get_or (varied order context count es own' start) k 0 ≡ get_or (told count (answer_at order context count es cells) answers) k 0
          go k (yes h) = varied_past order context count es own' start k h ∙ start_past k h ∙ sym (told_past count (answer_at order context count es cells) answers k h)
          go k (no h) =
              varied_at order context count es own' start (rw length_start fits) k (omega arith)
              ∙ ap (tried order context count es own' (suc k)) (start_at k (omega arith))
              ∙ tried_answer (suc k)
              ∙ sym (told_at count (answer_at order context count es cells) answers fits k (omega arith))
