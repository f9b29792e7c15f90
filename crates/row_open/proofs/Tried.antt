-- The operators that are tried, and the cells of the nodes on the way. Assumes nothing.
use mathlib.Core.Path.{◌≡◌, refl, sym, ap, ◌∙◌}
use mathlib.Core.Bool.{Bool, true, false, not, ◌&&◌, and-true, and_assoc}
use mathlib.Core.List.{List, [], ◌∷◌, map}
use Prim.Native.Nat.{ℕ, zero, suc, ◌+◌, ◌*◌, ◌-◌, ◌≤◌, ◌<◌}
use native.Mathlib.Omega.{arith}
use native.Mathlib.Decide.{dec_le}
use lib.ListN.{length, get_or, set, length-set}
use lib.Seq.{get_or-set_same, get_or-set_other, set-set}
use Rattle.laws.specs.Choice.{pick, lookup}
use Rattle.laws.proofs.Choice.{pick_true, pick_false, true_of}
use Rattle.laws.proofs.Each.{all_at}
use Rattle.expr.specs.declared.order.CalleeOrder.{CalleeOrder}
use Rattle.row_open.specs.declared.Entry.{Entry}
use Rattle.tree.specs.Sizes.{node_cells}
use Rattle.tree.specs.Table.{detail_column}
use Rattle.row_open.specs.Open.{last_binary, entry_at, entries_in, with_operator, has_outer, all_of}
use Rattle.row_open.specs.Steps.{joined, joined_to, previous, is_new, news, sweep, new_at, Next, varied}
use Rattle.row_open.proofs.Entries.{last_entry, no_entry}

-- ---- the operators of a range

-- the lowest is the first of its class
pub new_lowest : (o : ℕ) → o ≤ last_binary → is_new o o ≡ true
unfolding is_new previous lookup pick
new_lowest o h = true_of (all_at (λ k. is_new k k) 28 tt o (omega arith))

module _ (lowest highest op : ℕ) where
  pub news_take : op ≤ highest → is_new lowest op ≡ true → news lowest op (suc highest - op) ≡ op ∷ news lowest (suc op) (suc highest - suc op)
  unfolding news
  news_take h n =
      let e : suc highest - op ≡ suc (highest - op) = omega arith in
      let d : suc highest - suc op ≡ highest - op = omega arith in
      rw (e, d) (pick_true _ _ n)

  pub news_skip : op ≤ highest → is_new lowest op ≡ false → news lowest op (suc highest - op) ≡ news lowest (suc op) (suc highest - suc op)
  unfolding news
  news_skip h n =
      let e : suc highest - op ≡ suc (highest - op) = omega arith in
      let d : suc highest - suc op ≡ highest - op = omega arith in
      rw (e, d) (pick_false _ _ n)

  pub news_none : highest < op → news lowest op (suc highest - op) ≡ []
  unfolding news
  news_none h = let e : suc highest - op ≡ 0 = omega arith in rw e

-- ---- a step for each operator

module _ (f : ℕ → List ℕ → List ℕ) (keeps : (o : ℕ) (s : List ℕ) → length (f o s) ≡ length s) where
  length_sweep : (os : List ℕ) (s : List ℕ) → length (sweep os f s) ≡ length s
  unfolding sweep
  length_sweep [] s = refl
  length_sweep (o ∷ os) s = length_sweep os (f o s) ∙ keeps o s

  module _ (k n : ℕ) (g : ℕ → ℕ → ℕ) (at : (o : ℕ) (s : List ℕ) → n ≤ length s → get_or (f o s) k 0 ≡ g o (get_or s k 0)) where
    sweep_at : (os : List ℕ) (s : List ℕ) → n ≤ length s → get_or (sweep os f s) k 0 ≡ sweep os g (get_or s k 0)
    unfolding sweep
    sweep_at [] s h = refl
    sweep_at (o ∷ os) s h = sweep_at os (f o s) (rw (keeps o s) h) ∙ rw (at o s h)

sweep_same : (os : List ℕ) (v : ℕ) → sweep os (λ o w. w) v ≡ v
unfolding sweep
sweep_same [] v = refl
sweep_same (o ∷ os) v = sweep_same os v

-- ---- one choice

pub length_joined : (n : ℕ) (outer : ℕ → Bool) (s : List ℕ) → length (joined_to n outer s) ≡ length s
unfolding joined_to
length_joined zero outer s = refl
length_joined (suc n) outer s = simp length-set (length_joined n outer s)

joined_past : (n : ℕ) (outer : ℕ → Bool) (s : List ℕ) (k : ℕ) → n ≤ k → get_or (joined_to n outer s) k 0 ≡ get_or s k 0
unfolding joined_to
joined_past zero outer s k h = refl
joined_past (suc n) outer s k h = get_or-set_other (joined_to n outer s) n k _ 0 (λ e. omega arith) ∙ joined_past n outer s k (omega arith)

joined_at : (n : ℕ) (outer : ℕ → Bool) (s : List ℕ) → n ≤ length s → (k : ℕ) → k < n → get_or (joined_to n outer s) k 0 ≡ joined (get_or s k 0) (outer (suc k))
unfolding joined_to
joined_at zero outer s l k h = absurd (omega arith)
joined_at (suc n) outer s l k h = go (dec_le n k) (λ q. joined_at n outer s (omega arith) k q)
  where
    go : Dec (n ≤ k) → (k < n → get_or (joined_to n outer s) k 0 ≡ joined (get_or s k 0) (outer (suc k))) → get_or (joined_to (suc n) outer s) k 0 ≡ joined (get_or s k 0) (outer (suc k))
    go (yes p) r =
        let e : k ≡ n = omega arith in
        rw e (get_or-set_same (joined_to n outer s) n _ 0 (rw (length_joined n outer s) l) ∙ rw (joined_past n outer s n (omega arith)))
    go (no p) r = get_or-set_other (joined_to n outer s) n k _ 0 (λ e. omega arith) ∙ r (omega arith)

-- the pairs of another list with the same ones
pub joined_same : (n : ℕ) (f g : ℕ → Bool) → ((i : ℕ) → 1 ≤ i → i ≤ n → f i ≡ g i) → (s : List ℕ) → joined_to n f s ≡ joined_to n g s
unfolding joined_to
joined_same zero f g h s = refl
joined_same (suc n) f g h s = rw (joined_same n f g (λ i p q. h i p (omega arith)) s, h (suc n) (omega arith) (omega arith))

-- ---- all that is tried

module _ (order : CalleeOrder) (context count : ℕ) where
  pub length_varied : (es : List Entry) (cells s : List ℕ) → length (varied order context count es cells s) ≡ length s
  unfolding varied
  length_varied [] cells s = length_joined count _ s
  length_varied (e ∷ es) cells s = length_sweep _ (λ o r. length_varied es (with_operator e.node o cells) r) (new_at e) s

  -- one node's cell
  abbrev pub tried : List Entry → List ℕ → ℕ → ℕ → ℕ
  tried [] cells i v = joined v (has_outer order context count cells i)
  tried (e ∷ es) cells i v = sweep (new_at e) (λ o. tried es (with_operator e.node o cells) i) v

  pub varied_at : (es : List Entry) (cells s : List ℕ) → count ≤ length s → (k : ℕ) → k < count → get_or (varied order context count es cells s) k 0 ≡ tried es cells (suc k) (get_or s k 0)
  unfolding varied
  varied_at [] cells s l k h = joined_at count _ s l k h
  varied_at (e ∷ es) cells s l k h =
      sweep_at _ (λ o r. length_varied es (with_operator e.node o cells) r) k count (λ o. tried es (with_operator e.node o cells) (suc k)) (λ o r m. varied_at es (with_operator e.node o cells) r m k h) (new_at e) s l

  pub varied_past : (es : List Entry) (cells s : List ℕ) (k : ℕ) → count ≤ k → get_or (varied order context count es cells s) k 0 ≡ get_or s k 0
  unfolding varied
  varied_past [] cells s k h = joined_past count _ s k h
  varied_past (e ∷ es) cells s k h =
      sweep_at _ (λ o r. length_varied es (with_operator e.node o cells) r) k 0 (λ o v. v) (λ o r m. varied_past es (with_operator e.node o cells) r k h) (new_at e) s (omega arith)
      ∙ sweep_same (new_at e) (get_or s k 0)

  -- no entry is left
  pub varied_none : (numbers : List ℕ) (n : ℕ) → n ≡ 0 → (cells s : List ℕ) → joined_to count (has_outer order context count cells) s ≡ varied order context count (entries_in n numbers) cells s
  unfolding varied
  varied_none numbers n e cells s = rw (no_entry numbers n e)

  module _ (es : List Entry) (table₀ : List ℕ) (place lowest highest op : ℕ) where
    -- the operators of the last entry that are left, from one on
    abbrev pub left_from : ℕ → List ℕ → List ℕ
    left_from from s = sweep (news lowest from (suc highest - from)) (λ o. varied order context count es (set table₀ place o)) s

    pub varied_more : (table : List ℕ) (own : ℕ) → set table place own ≡ table₀ → op ≤ highest → is_new lowest op ≡ true → (next : ℕ) → Next lowest highest op next
        → (s after r : List ℕ) → after ≡ varied order context count es (set table place op) s → left_from op s ≡ r → left_from next after ≡ r
    unfolding sweep
    varied_more table own e h n next m s after r v i =
        let d : set table₀ place op ≡ set table place op = ap (λ (l : List ℕ). set l place op) (sym e) ∙ set-set table place own op in
        rw (v, ← d, ← m.rest) (rw (news_take lowest highest op h n) at i)

    pub varied_end : highest < op → (s r : List ℕ) → left_from op s ≡ r → s ≡ r
    unfolding sweep
    varied_end h s r i = rw (news_none lowest highest op h) at i

  pub varied_last : (numbers : List ℕ) (n : ℕ) → 0 < n → (e : Entry) → e ≡ entry_at numbers (n - 1) → (place : ℕ) → place ≡ node_cells * (e.node - 1) + detail_column → (cells s : List ℕ)
      → left_from (entries_in (n - 1) numbers) cells place e.lowest e.highest 0 e.lowest s ≡ varied order context count (entries_in n numbers) cells s
  unfolding varied with_operator
  varied_last numbers n h e is place at cells s = rw (last_entry numbers n h, at, is)

-- ---- what a cell holds: whether all choices so far give the pair, and whether none does

abbrev pub held : Bool → Bool → ℕ
held true true = 3
held true false = 1
held false true = 0
held false false = 2

joined_held : (a n outer : Bool) → joined (held a n) outer ≡ held (a && outer) (n && not outer)
unfolding joined pick
joined_held true true true = refl
joined_held true true false = refl
joined_held true false true = refl
joined_held true false false = refl
joined_held false true true = refl
joined_held false true false = refl
joined_held false false true = refl
joined_held false false false = refl

module _ (step : ℕ → ℕ → ℕ) (yes no : ℕ → Bool) (each : (o : ℕ) (a n : Bool) → step o (held a n) ≡ held (a && yes o) (n && no o)) where
  sweep_held : (os : List ℕ) (a n : Bool) → sweep os step (held a n) ≡ held (a && all_of (map yes os)) (n && all_of (map no os))
  unfolding sweep all_of
  sweep_held [] a n = rw (and-true a, and-true n)
  sweep_held (o ∷ os) a n =
      rw (each o a n) (sweep_held os (a && yes o) (n && no o) ∙ rw (and_assoc a (yes o) (all_of (map yes os)), and_assoc n (no o) (all_of (map no os))))

-- a test of all tables that are tried
abbrev pub all_new : (List ℕ → Bool) → List Entry → List ℕ → Bool
all_new test [] cells = test cells
all_new test (e ∷ es) cells = all_of (map (λ o. all_new test es (with_operator e.node o cells)) (new_at e))

module _ (order : CalleeOrder) (context count i : ℕ) where
  abbrev pub has : List ℕ → Bool
  has cells = has_outer order context count cells i

  abbrev pub has_not : List ℕ → Bool
  has_not cells = not (has_outer order context count cells i)

  pub tried_held : (es : List Entry) (cells : List ℕ) (a n : Bool) → tried order context count es cells i (held a n) ≡ held (a && all_new has es cells) (n && all_new has_not es cells)
  tried_held [] cells a n = joined_held a n (has cells)
  tried_held (e ∷ es) cells a n =
      sweep_held (λ o. tried order context count es (with_operator e.node o cells) i) (λ o. all_new has es (with_operator e.node o cells)) (λ o. all_new has_not es (with_operator e.node o cells))
      (λ o b m. tried_held es (with_operator e.node o cells) b m) (new_at e) a n
