-- All choices, by those that are tried. Assumes nothing.
use mathlib.Core.Path.{◌≡◌, refl, sym, ap, ap₂, ◌∙◌}
use mathlib.Core.Bool.{Bool, true, false, not, ◌&&◌, ◌||◌, and-true, and-false, and_assoc, and-not_self}
use mathlib.Core.List.{List, [], ◌∷◌, ◌++◌, map}
use Prim.Native.Nat.{ℕ, zero, suc, ◌+◌, ◌*◌, ◌-◌, ◌≤◌, ◌<◌}
use native.Mathlib.Omega.{arith}
use native.Mathlib.Decide.{dec_le}
use lib.Dec.{eqb, ltb}
use lib.ListN.{length, length-set}
use borrow.Author.Tests.{ltb-false, eqb-true, eqb-false, not-false}
use Rattle.laws.specs.Choice.{pick, is_one_of}
use Rattle.laws.proofs.Choice.{true_not_false, or_false}
use Rattle.tree.specs.Sizes.{node_cells}
use Rattle.tree.specs.Forms.{expr_binary}
use Rattle.tree.specs.Table.{form_at, form_column}
use Rattle.tree.specs.Operands.{form_in}
use Rattle.tree.proofs.Matches.{form_in_lem, form_none}
use Rattle.row_open.specs.declared.Entry.{Entry}
use Rattle.row_open.specs.Open.{last_binary, nodes_of, from, open_at, before, choices, with_operator, chosen, all_of, refusal21, refusal22}
use Rattle.row_open.specs.Steps.{previous, is_new, news, new_at, Within}
use Rattle.row_open.specs.Steps as steps
use Rattle.row_open.proofs.Near.{Near, put_column, near_put, near_class}
use Rattle.row_open.proofs.Classes.{previous_same, previous_most}
use Rattle.row_open.proofs.Tried.{all_new}

-- ---- tests over lists

module _ {A : Type 0} where
  all_append : (f : A → Bool) (xs ys : List A) → all_of (map f (xs ++ ys)) ≡ all_of (map f xs) && all_of (map f ys)
  unfolding all_of
  all_append f [] ys = refl
  all_append f (x ∷ xs) ys = rw (all_append f xs ys) (sym (and_assoc (f x) (all_of (map f xs)) (all_of (map f ys))))

  pub all_map : {B : Type 0} (f : B → Bool) (g : A → B) (xs : List A) → all_of (map f (map g xs)) ≡ all_of (map (λ x. f (g x)) xs)
  unfolding all_of
  all_map f g [] = refl
  all_map f g (x ∷ xs) = rw (all_map f g xs)

  pub all_same : (f g : A → Bool) → ((x : A) → f x ≡ g x) → (xs : List A) → all_of (map f xs) ≡ all_of (map g xs)
  unfolding all_of
  all_same f g h [] = refl
  all_same f g h (x ∷ xs) = rw (h x, all_same f g h xs)

-- ---- the choices one entry at a time

abbrev pub all_open : (List ℕ → Bool) → List Entry → List ℕ → Bool
all_open test [] cells = test cells
all_open test (e ∷ es) cells = all_of (map (λ o. all_open test es (with_operator e.node o cells)) (open_at e))

module _ (test : List ℕ → Bool) where
  before_all : (e : Entry) (es : List Entry) (cells : List ℕ) → ((c : List ℕ) → all_of (map (λ os. test (chosen es os c)) (choices es)) ≡ all_open test es c)
      → (os : List ℕ) → all_of (map (λ c. test (chosen (e ∷ es) c cells)) (before os (choices es))) ≡ all_of (map (λ o. all_open test es (with_operator e.node o cells)) os)
  unfolding before all_of chosen
  before_all e es cells r [] = refl
  before_all e es cells r (o ∷ os) =
      all_append (λ c. test (chosen (e ∷ es) c cells)) (map (λ c. o ∷ c) (choices es)) (before os (choices es))
      ∙ ap₂ ◌&&◌ (all_map (λ c. test (chosen (e ∷ es) c cells)) (λ c. o ∷ c) (choices es) ∙ r (with_operator e.node o cells)) (before_all e es cells r os)

  pub choices_all : (es : List Entry) (cells : List ℕ) → all_of (map (λ os. test (chosen es os cells)) (choices es)) ≡ all_open test es cells
  unfolding choices chosen all_of
  choices_all [] cells = and-true (test cells)
  choices_all (e ∷ es) cells = before_all e es cells (λ c. choices_all es c) (open_at e)

-- ---- one operator of each class

-- a range and one more
from_more : (lo n : ℕ) → from lo (suc n) ≡ from lo n ++ ((lo + n) ∷ [])
unfolding from
from_more lo zero = let e : lo + 0 ≡ lo = omega arith in rw e
from_more lo (suc n) = let e : lo + suc n ≡ suc lo + n = omega arith in rw e (ap (λ (l : List ℕ). lo ∷ l) (from_more (suc lo) n))

module _ (test : ℕ → Bool) where
  pub from_all : (lo n : ℕ) → all_of (map test (from lo n)) ≡ true → (k : ℕ) → lo ≤ k → k < lo + n → test k ≡ true
  unfolding from all_of
  from_all lo zero e k h l = absurd (omega arith)
  from_all lo (suc n) e k h l = go (test lo) refl (dec_le k lo) (λ r. from_all (suc lo) n r k)
    where
      go : (b : Bool) → test lo ≡ b → Dec (k ≤ lo) → (all_of (map test (from (suc lo) n)) ≡ true → suc lo ≤ k → k < suc lo + n → test k ≡ true) → test k ≡ true
      go true f (yes q) r = let z : k ≡ lo = omega arith in rw z f
      go true f (no q) r = r (rw f at e) (omega arith) (omega arith)
      go false f d r = true_not_false (sym (rw f at e))

  pub all_from : (lo n : ℕ) → ((k : ℕ) → lo ≤ k → k < lo + n → test k ≡ true) → all_of (map test (from lo n)) ≡ true
  unfolding from all_of
  all_from lo zero h = refl
  all_from lo (suc n) h = rw (h lo (omega arith) (omega arith)) (all_from (suc lo) n (λ k l m. h k (omega arith) (omega arith)))

  module _ (lowest : ℕ) (respects : (o : ℕ) → o ≤ last_binary → test (previous o) ≡ test o) where
    -- what has been passed
    abbrev passed : ℕ → Bool
    passed op = all_of (map test (from lowest (op - lowest)))

    passed_more : (op : ℕ) → lowest ≤ op → passed (suc op) ≡ passed op && test op
    unfolding all_of
    passed_more op h =
        let e : suc op - lowest ≡ suc (op - lowest) = omega arith in
        let d : lowest + (op - lowest) ≡ op = omega arith in
        rw (e, from_more lowest (op - lowest), d) (all_append test (from lowest (op - lowest)) (op ∷ []) ∙ rw (and-true (test op)))

    -- an operator that is not new has been passed, in its class
    absorbed : (op : ℕ) → lowest ≤ op → op ≤ last_binary → is_new lowest op ≡ false → passed op && test op ≡ passed op
    unfolding is_new
    absorbed op h l n = go (passed op) refl
      where
        go : (b : Bool) → passed op ≡ b → b && test op ≡ b
        go false e = refl
        go true e =
            let d = or_false (eqb (previous op) op) (ltb (previous op) lowest) n in
            let m = previous_most op l in
            let ne = eqb-false (previous op) op d.0 in
            let lt : previous op < op = omega (arith, m, ne) in
            let ge = ltb-false (previous op) lowest d.1 in
            sym (respects op l) ∙ from_all lowest (op - lowest) e (previous op) ge (omega arith)

    news_passed : (n op : ℕ) → lowest ≤ op → op + n ≤ suc last_binary → passed op && all_of (map test (news lowest op n)) ≡ passed op && all_of (map test (from op n))
    unfolding news from all_of pick
    news_passed zero op h l = refl
    news_passed (suc n) op h l = go (is_new lowest op) refl (news_passed n (suc op) (omega arith) (omega arith))
      where
        go : (b : Bool) → is_new lowest op ≡ b → passed (suc op) && all_of (map test (news lowest (suc op) n)) ≡ passed (suc op) && all_of (map test (from (suc op) n))
            → passed op && all_of (map test (pick b (op ∷ news lowest (suc op) n) (news lowest (suc op) n))) ≡ passed op && (test op && all_of (map test (from (suc op) n)))
        go true e r =
            sym (and_assoc (passed op) (test op) (all_of (map test (news lowest (suc op) n))))
            ∙ rw (passed_more op h) at r
            ∙ and_assoc (passed op) (test op) (all_of (map test (from (suc op) n)))
        go false e r =
            ap (λ (b : Bool). b && all_of (map test (news lowest (suc op) n))) (sym (absorbed op h (omega arith) e))
            ∙ rw (passed_more op h) at r
            ∙ and_assoc (passed op) (test op) (all_of (map test (from (suc op) n)))

    pub news_all : (highest : ℕ) → lowest ≤ highest → highest ≤ last_binary → all_of (map test (news lowest lowest (suc highest - lowest))) ≡ all_of (map test (from lowest (suc highest - lowest)))
    unfolding from all_of
    news_all highest h l =
        let e : lowest - lowest ≡ 0 = omega arith in
        rw e at (news_passed (suc highest - lowest) lowest (omega arith) (omega arith))

-- ---- entries that are in order

pub record GoodEntry (count : ℕ) (cells : List ℕ) (e : Entry) : Type 0 where
  pub low : 1 ≤ e.node
  pub high : e.node ≤ count
  pub binary : form_at cells e.node ≡ expr_binary
  pub ends : e.lowest ≤ e.highest
  pub most : e.highest ≤ last_binary

pub data Good (count : ℕ) (cells : List ℕ) : List Entry → Type 0 where
  done : Good count cells []
  more : {e : Entry} {es : List Entry} → GoodEntry count cells e → Good count cells es → Good count cells (e ∷ es)

-- the checks say so
form_there : (cells : List ℕ) (count i : ℕ) → form_in cells count i ≡ expr_binary → (1 ≤ i) × (i ≤ count) × (form_at cells i ≡ expr_binary)
form_there cells count i e = go (dec_le 1 i) (dec_le i count)
  where
    none : (1 ≤ i → i ≤ count → ⊥) → ⊥
    none n = let z = sym (form_none cells count i n) ∙ e in omega arith

    go : Dec (1 ≤ i) → Dec (i ≤ count) → (1 ≤ i) × (i ≤ count) × (form_at cells i ≡ expr_binary)
    go (yes h) (yes k) = (h, k, sym (form_in_lem cells count i h k) ∙ e)
    go (yes h) (no k) = absurd (none (λ a b. k b))
    go (no h) d = absurd (none (λ a b. h a))

pub checked : (cells : List ℕ) (count : ℕ) (es : List Entry) → refusal21 cells count es ≡ false → refusal22 es ≡ false → Good count cells es
unfolding refusal21 refusal22
checked cells count [] e f = done
checked cells count (x ∷ es) e f =
    let a = or_false (not (eqb (form_in cells count x.node) expr_binary)) (is_one_of (nodes_of es) x.node || refusal21 cells count es) e in
    let b = or_false (is_one_of (nodes_of es) x.node) (refusal21 cells count es) a.1 in
    let c = or_false (ltb x.highest x.lowest || ltb last_binary x.highest) (refusal22 es) f in
    let d = or_false (ltb x.highest x.lowest) (ltb last_binary x.highest) c.0 in
    let i = form_there cells count x.node (eqb-true _ _ (not-false _ a.0)) in
    more (record { low = i.0; high = i.1; binary = i.2; ends = ltb-false _ _ d.0; most = ltb-false _ _ d.1 }) (checked cells count es b.1 c.1)

-- another table whose nodes have the same forms
pub good_forms : (count : ℕ) (cells after : List ℕ) → ((i : ℕ) → 1 ≤ i → i ≤ count → form_at after i ≡ form_at cells i) → (es : List Entry) → Good count cells es → Good count after es
good_forms count cells after same [] done = done
good_forms count cells after same (x ∷ es) (more g r) =
    more (record { low = g.low; high = g.high; binary = same x.node g.low g.high ∙ g.binary; ends = g.ends; most = g.most }) (good_forms count cells after same es r)

good_put : (count n o : ℕ) → 1 ≤ n → (cells : List ℕ) (es : List Entry) → Good count cells es → Good count (with_operator n o cells) es
good_put count n o low cells es g = good_forms count cells (with_operator n o cells) (λ i h k. put_column n o low cells i form_column (omega arith) (λ e. omega arith)) es g

pub good_within : (count : ℕ) (cells : List ℕ) (n : ℕ) → node_cells * count ≤ n → (es : List Entry) → Good count cells es → Within n es
good_within count cells n l [] done = steps.none
good_within count cells n l (x ∷ es) (more g r) = steps.entry g.low (omega (arith, g.high)) g.most (good_within count cells n l es r)

-- ---- all choices by those that are tried

length_put : (n o : ℕ) (cells : List ℕ) → length (with_operator n o cells) ≡ length cells
unfolding with_operator
length_put n o cells = length-set cells _ o

module _ (count : ℕ) (test : List ℕ → Bool) (respects : (cells after : List ℕ) → Near count cells after → test cells ≡ test after) where
  -- in tables that are near
  pub open_near : (es : List Entry) (cells after : List ℕ) → Good count cells es → node_cells * count ≤ length cells → node_cells * count ≤ length after → Near count cells after → all_open test es cells ≡ all_open test es after
  open_near [] cells after g l m near = respects cells after near
  open_near (x ∷ es) cells after (more g r) l m near =
      all_same _ _ (λ o. open_near es (with_operator x.node o cells) (with_operator x.node o after)
      (good_put count x.node o g.low cells es r) (rw (length_put x.node o cells) l) (rw (length_put x.node o after) m)
      (near_put count x.node o g.low cells after (omega (arith, g.high)) (omega (arith, g.high)) near)) (open_at x)

  pub new_open : (es : List Entry) (cells : List ℕ) → Good count cells es → node_cells * count ≤ length cells → all_new test es cells ≡ all_open test es cells
  new_open [] cells g l = refl
  new_open (x ∷ es) cells (more g r) l =
      all_same _ _ (λ o. new_open es (with_operator x.node o cells) (good_put count x.node o g.low cells es r) (rw (length_put x.node o cells) l)) (new_at x)
      ∙ news_all (λ o. all_open test es (with_operator x.node o cells)) x.lowest class_same x.highest g.ends g.most
    where
      class_same : (o : ℕ) → o ≤ last_binary → all_open test es (with_operator x.node (previous o) cells) ≡ all_open test es (with_operator x.node o cells)
      class_same o h =
          open_near es (with_operator x.node (previous o) cells) (with_operator x.node o cells)
          (good_put count x.node (previous o) g.low cells es r) (rw (length_put x.node (previous o) cells) l) (rw (length_put x.node o cells) l)
          (near_class count x.node (previous o) o g.low cells (omega (arith, g.high)) g.binary (previous_same o h))

-- ---- there is a choice

neither : (a b x y : Bool) → a && b ≡ false → (a && x) && (b && y) ≡ false
neither true true x y e = true_not_false e
neither true false x y e = and-false x
neither false b x y e = refl

-- the ends of each entry have an operator between them
pub data Ends : List Entry → Type 0 where
  ended : Ends []
  meets : {e : Entry} {es : List Entry} → e.lowest ≤ e.highest → Ends es → Ends (e ∷ es)

pub good_ends : {count : ℕ} {cells : List ℕ} {es : List Entry} → Good count cells es → Ends es
good_ends done = ended
good_ends (more g r) = meets g.ends (good_ends r)

pub some_choice : (test : List ℕ → Bool) {es : List Entry} → Ends es → (cells : List ℕ) → all_open test es cells && all_open (λ c. not (test c)) es cells ≡ false
unfolding from all_of
some_choice test ended cells = and-not_self (test cells)
some_choice test (meets {e} {es} h r) cells =
    let z : suc e.highest - e.lowest ≡ suc (e.highest - e.lowest) = omega arith in
    rw z (neither (all_open test es (with_operator e.node e.lowest cells)) (all_open (λ c. not (test c)) es (with_operator e.node e.lowest cells)) _ _
    (some_choice test r (with_operator e.node e.lowest cells)))
