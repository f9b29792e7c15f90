-- What is promised of answers over all choices holds. Assumes nothing.
use mathlib.Core.Path.{◌≡◌, refl, sym, ap, ap₂, ◌∙◌}
use mathlib.Core.Bool.{Bool, true, false, not, ◌&&◌, and-true, and-false}
use mathlib.Core.List.{List, [], ◌∷◌, map}
use mathlib.Core.Logic.{◌⊎◌, inl, inr, ◌≢◌}
use Prim.Native.Nat.{ℕ, suc, ◌+◌, ◌*◌, ◌-◌, ◌%◌, ◌≤◌}
use native.Mathlib.Omega.{arith}
use lib.Dec.{eqb}
use lib.ListN.{length, replicate, length-replicate}
use lib.Seq.{set_comm}
use Rattle.laws.specs.Choice.{pick}
use Rattle.laws.proofs.Choice.{true_not_false}
use Rattle.tree.specs.Sizes.{node_cells, row_cells}
use Rattle.tree.specs.Table.{detail_column}
use Rattle.tree.specs.Trees.{tree_at}
use Rattle.tree_rules.specs.Refusals.{Accepted}
use Rattle.tree_rules.proofs.Accepted.{count_bounds}
use Rattle.expr.specs.declared.order.CalleeOrder.{CalleeOrder}
use Rattle.row.specs.declared.Row.{Row}
use Rattle.row_walk.specs.Walk.{tree_rows}
use Rattle.row_walk.specs.Paths.{number_at}
use Rattle.row_walk.proofs.Replies.{walked}
use Rattle.row_walk.proofs.Paths.{reached, renumbered}
use Rattle.row_open.specs.declared.Entry.{Entry}
use Rattle.row_open.specs.declared.Answer.TheVariants.{Never, Always, Depends}
use Rattle.row_open.specs.Open.{from, open_at, with_operator, all_of, outer_in, has_outer}
use Rattle.row_open.specs.Statement.{NoEntries, OneChoice, Wider, WiderDepends, Reordered, AnyOrder, ClassRows}
use Rattle.row_open.specs.Statement as statement
use Rattle.row_open.proofs.Near.{near_class, rows_near}
use Rattle.row_open.proofs.Classes.{class_operator}
use Rattle.row_open.proofs.Tried.{has, has_not}
use Rattle.row_open.proofs.Choices.{all_same, from_all, all_from, all_open, Ends, ended, meets, some_choice}
use Rattle.row_open.proofs.Told.{answer_is}

-- ---- the rows of an accepted table, in whatever buffer

module _ (order : CalleeOrder) (context count : ℕ) (cells rows : List ℕ) (ok : Accepted context count cells) (room : row_cells * count ≤ length rows) where
  outer_placed : (i : ℕ) → 1 ≤ i → i ≤ count → has_outer order context count cells i ≡ outer_in (tree_rows order context count (tree_at cells count 1) cells rows) i
  unfolding has_outer
  outer_placed i h k =
      let r = reached cells count context ok i h k in
      let blank : List ℕ = replicate (row_cells * count) 0 in
      let z : row_cells * count ≤ length blank = simp length-replicate (omega arith) in
      let there : 1 ≤ number_at cells count 1 r.path = rw r.leads h in
      ap (λ (n : ℕ). eqb (n % 2) 1)
      (ap (λ (w : Row). w.pair)
      (rw r.leads at (renumbered order context count count cells cells ok ok refl blank rows z room r.path there there)))

-- ---- no entries

present : (b : Bool) → pick b Always (pick (not b) Never Depends) ≡ pick b Always Never
unfolding pick
present true = refl
present false = refl

pub no_entries : NoEntries
no_entries order context count cells rows ok room i h k =
    answer_is order context count [] cells i
    ∙ present (has_outer order context count cells i)
    ∙ ap (λ (b : Bool). pick b Always Never) (outer_placed order context count cells rows ok room i h k)
    ∙ ap (λ (l : List ℕ). pick (outer_in l i) Always Never) (sym (walked order context count cells rows ok room))

-- ---- one choice

module _ (test : List ℕ → Bool) (e : Entry) (es : List Entry) (cells : List ℕ) (one : e.lowest ≡ e.highest) where
  all_one : all_open test (e ∷ es) cells ≡ all_open test es (with_operator e.node e.lowest cells)
  unfolding from all_of
  all_one = let z : suc e.highest - e.lowest ≡ 1 = omega arith in rw z (and-true _)

pub one_choice : OneChoice
one_choice order context count e es cells one i =
    answer_is order context count (e ∷ es) cells i
    ∙ ap₂ (λ (a n : Bool). pick a Always (pick n Never Depends)) (all_one (has order context count i) e es cells one) (all_one (has_not order context count i) e es cells one)
    ∙ sym (answer_is order context count es (with_operator e.node e.lowest cells) i)

-- ---- wider entries

narrow_ends : {es fs : List Entry} → Wider es fs → Ends es
narrow_ends statement.none = ended
narrow_ends (statement.entry n l h u w) = meets h (narrow_ends w)

narrow_all : (test : List ℕ → Bool) {es fs : List Entry} → Wider es fs → (cells : List ℕ) → all_open test fs cells ≡ true → all_open test es cells ≡ true
narrow_all test statement.none cells a = a
narrow_all test (statement.entry {e} {f} {es} {fs} n l h u w) cells a =
    all_from (λ o. all_open test es (with_operator e.node o cells)) e.lowest (suc e.highest - e.lowest)
    (λ k p q. narrow_all test w (with_operator e.node k cells) (rw n at (from_all (λ o. all_open test fs (with_operator f.node o cells)) f.lowest (suc f.highest - f.lowest) a k (omega arith) (omega arith))))

narrower : (a n b m : Bool) → (a ≡ true → b ≡ true) → (n ≡ true → m ≡ true) → b && m ≡ false
    → (pick a Always (pick n Never Depends) ≡ pick b Always (pick m Never Depends)) ⊎ (pick a Always (pick n Never Depends) ≡ Depends)
unfolding pick
narrower true n b m f g e = inl (rw (f refl))
narrower false true b true f g e = inl (rw (sym (and-true b) ∙ e))
narrower false true b false f g e = true_not_false (sym (g refl))
narrower false false b m f g e = inr refl

pub wider_depends : WiderDepends
wider_depends order context count cells es fs w i =
    rw (answer_is order context count fs cells i, answer_is order context count es cells i)
    (narrower (all_open (has order context count i) fs cells) (all_open (has_not order context count i) fs cells) (all_open (has order context count i) es cells) (all_open (has_not order context count i) es cells)
    (narrow_all (has order context count i) w cells) (narrow_all (has_not order context count i) w cells) (some_choice (has order context count i) (narrow_ends w) cells))

-- ---- entries in another order

all_both : (f g : ℕ → Bool) (ps : List ℕ) → all_of (map (λ p. f p && g p) ps) ≡ all_of (map f ps) && all_of (map g ps)
unfolding all_of
all_both f g [] = refl
all_both f g (p ∷ ps) = rw (all_both f g ps) (go (f p) (g p) (all_of (map f ps)) (all_of (map g ps)))
  where
    go : (a b c d : Bool) → (a && b) && (c && d) ≡ (a && c) && (b && d)
    go true true c d = refl
    go true false c d = sym (and-false c)
    go false b c d = refl

all_true : (ps : List ℕ) → all_of (map (λ p. true) ps) ≡ true
unfolding all_of
all_true [] = refl
all_true (p ∷ ps) = all_true ps

all_turned : (f : ℕ → ℕ → Bool) (os ps : List ℕ) → all_of (map (λ o. all_of (map (λ p. f o p) ps)) os) ≡ all_of (map (λ p. all_of (map (λ o. f o p) os)) ps)
unfolding all_of
all_turned f [] ps = sym (all_true ps)
all_turned f (o ∷ os) ps = rw (all_turned f os ps) (sym (all_both (λ p. f o p) (λ p. all_of (map (λ r. f r p) os)) ps))

put_turned : (n m o p : ℕ) → 1 ≤ n → 1 ≤ m → n ≢ m → (cells : List ℕ) → with_operator m p (with_operator n o cells) ≡ with_operator n o (with_operator m p cells)
unfolding with_operator
put_turned n m o p h k d cells = set_comm cells (node_cells * (n - 1) + detail_column) (node_cells * (m - 1) + detail_column) o p (λ e. d (omega arith))

module _ (test : List ℕ → Bool) where
  reordered_all : {es fs : List Entry} → Reordered es fs → (cells : List ℕ) → all_open test es cells ≡ all_open test fs cells
  reordered_all statement.none cells = refl
  reordered_all (statement.same {e} r) cells = all_same _ _ (λ o. reordered_all r (with_operator e.node o cells)) (open_at e)
  reordered_all (statement.turned {e} {f} {es} h k d) cells =
      all_same _ _ (λ o. all_same _ _ (λ p. ap (all_open test es) (put_turned e.node f.node o p h k d cells)) (open_at f)) (open_at e)
      ∙ all_turned (λ o p. all_open test es (with_operator e.node o (with_operator f.node p cells))) (open_at e) (open_at f)
  reordered_all (statement.then r s) cells = reordered_all r cells ∙ reordered_all s cells

pub any_order : AnyOrder
any_order order context count es fs r cells i =
    answer_is order context count es cells i
    ∙ ap₂ (λ (a n : Bool). pick a Always (pick n Never Depends)) (reordered_all (has order context count i) r cells) (reordered_all (has_not order context count i) r cells)
    ∙ sym (answer_is order context count fs cells i)

-- ---- classes

pub class_rows : ClassRows
class_rows order context count cells ok node low high binary o p h k c rows =
    let b = count_bounds context count cells ok in
    rows_near count (with_operator node o cells) (with_operator node p cells) (near_class count node o p low cells (omega (arith, b.2)) binary (class_operator o p h k c)) order context rows
