-- What the arms of a `match` know of a number, or of an enum's tag, as tests. Assumes nothing.
use mathlib.Core.Path.{◌≡◌, refl, sym, ap, ◌∙◌}
use mathlib.Core.Bool.{Bool, true, false, not, ◌&&◌, ◌||◌}
use mathlib.Core.List.{List, [], ◌∷◌, ◌++◌}
use Prim.Native.Nat.{ℕ, zero, suc, ◌+◌, ◌≤◌, ◌<◌}
use native.Mathlib.Omega.{arith}
use native.Mathlib.Decide.{dec_le}
use lib.Dec.{T, ltb, leb, eqb}
use borrow.Author.Tests.{ltb-true, eq-eqb, ne_eqb, eqb-true}
use mir.Val.{has_key}
use types.Run.{OneOf, hit, miss}
use Rattle.laws.specs.Choice.{pick, Line, line, lookup}
use Rattle.laws.proofs.Choice.{true_not_false, true_of, of_true, and_true, pick_true, pick_false}

-- an arm's fact, as a test
pub among : (ks : List ℕ) (x : ℕ) → OneOf ks x → has_key ks x ≡ true
among ks x h = go (has_key ks x) refl
  where
    go : (b : Bool) → has_key ks x ≡ b → has_key ks x ≡ true
    go true e = e
    go false e = absurd (miss ks x (rw e tt) h)

-- what a later arm knows of an earlier one, as a test
pub outside : (ks : List ℕ) (x : ℕ) → (OneOf ks x → ⊥) → has_key ks x ≡ false
outside ks x h = go (has_key ks x) refl
  where
    go : (b : Bool) → has_key ks x ≡ b → has_key ks x ≡ false
    go true e = absurd (h (hit ks x (rw e tt)))
    go false e = e

-- no number of ks is one of js
abbrev pub disjoint : List ℕ → List ℕ → Bool
disjoint [] js = true
disjoint (k ∷ ks) js = not (has_key js k) && disjoint ks js

-- a number that is one of ks is none of js
pub apart : (ks js : List ℕ) (x : ℕ) → T (disjoint ks js) → has_key ks x ≡ true → has_key js x ≡ false
apart [] js x t h = true_not_false (sym h)
apart (k ∷ ks) js x t h = go (has_key js k) refl (eqb k x) refl (λ p q. apart ks js x p q)
  where
    go : (a : Bool) → has_key js k ≡ a → (b : Bool) → eqb k x ≡ b → (T (disjoint ks js) → has_key ks x ≡ true → has_key js x ≡ false) → has_key js x ≡ false
    go true e b f r = absurd (rw e at t)
    go false e true f r = rw (← eqb-true k x f) e
    go false e false f r = r (rw e at t) (rw f at h)

-- each number of ks is below n
abbrev pub all_below : ℕ → List ℕ → Bool
all_below n [] = true
all_below n (k ∷ ks) = ltb k n && all_below n ks

-- a number past all of ks is none of them
pub past : (ks : List ℕ) (n x : ℕ) → T (all_below n ks) → n ≤ x → has_key ks x ≡ false
past [] n x t h = refl
past (k ∷ ks) n x t h =
    let d = and_true (ltb k n) (all_below n ks) (true_of t) in
    let l : k < n = ltb-true k n d.0 in
    rw (ne_eqb k x (λ q. omega arith)) (past ks n x (of_true d.1) h)

-- ---- tables: a `match` whose arms are the rows of a table answers what the table gives

-- the numbers of row j, and what it gives
abbrev pub numbers_at : {A : Type 0} → List (Line A) → ℕ → List ℕ
numbers_at [] j = []
numbers_at (line ks a ∷ rows) zero = ks
numbers_at (line ks a ∷ rows) (suc j) = numbers_at rows j

abbrev pub given_at : {A : Type 0} → List (Line A) → A → ℕ → A
given_at [] other j = other
given_at (line ks a ∷ rows) other zero = a
given_at (line ks a ∷ rows) other (suc j) = given_at rows other j

-- no number of ks stands in one of the first j rows
abbrev pub apart_before : {A : Type 0} → List (Line A) → ℕ → List ℕ → Bool
apart_before [] j ks = true
apart_before (line js a ∷ rows) zero ks = true
apart_before (line js a ∷ rows) (suc j) ks = disjoint ks js && apart_before rows j ks

-- each of ks is one of js
abbrev pub within : List ℕ → List ℕ → Bool
within [] js = true
within (k ∷ ks) js = has_key js k && within ks js

within_more : (ks js : List ℕ) (k : ℕ) → T (within ks js) → T (within ks (k ∷ js))
within_more [] js k t = tt
within_more (m ∷ ks) js k t =
    let d = and_true (has_key js m) (within ks js) (true_of t) in
    go (eqb k m) d.0 (true_of (within_more ks js k (of_true d.1)))
  where
    go : (b : Bool) → has_key js m ≡ true → within ks (k ∷ js) ≡ true → T ((b || has_key js m) && within ks (k ∷ js))
    go true e f = rw f tt
    go false e f = rw (e, f) tt

within_self : (ks : List ℕ) → T (within ks ks)
within_self [] = tt
within_self (k ∷ ks) = rw (eq-eqb k k refl) (within_more ks ks k (within_self ks))

-- a number that is one of ks is one of js
pub inside : (ks js : List ℕ) (x : ℕ) → T (within ks js) → has_key ks x ≡ true → has_key js x ≡ true
inside [] js x t h = true_not_false (sym h)
inside (k ∷ ks) js x t h = go (eqb k x) refl (and_true (has_key js k) (within ks js) (true_of t)) (λ p q. inside ks js x p q)
  where
    go : (b : Bool) → eqb k x ≡ b → (has_key js k ≡ true) × (within ks js ≡ true) → (T (within ks js) → has_key ks x ≡ true → has_key js x ≡ true) → has_key js x ≡ true
    go true e d r = rw (← eqb-true k x e) d.0
    go false e d r = r (of_true d.1) (rw e at h)

-- a number of ks, which all stand in row j and in no row before it
pub found : {A : Type 0} (rows : List (Line A)) (other : A) (j : ℕ) (ks : List ℕ) (x : ℕ) → T (within ks (numbers_at rows j)) → T (apart_before rows j ks) → has_key ks x ≡ true → lookup rows other x ≡ given_at rows other j
unfolding lookup
found [] other j ks x e t h = refl
found (line js a ∷ rows) other zero ks x e t h = pick_true a _ (inside ks js x e h)
found (line js a ∷ rows) other (suc j) ks x e t h =
    let d = and_true (disjoint ks js) (apart_before rows j ks) (true_of t) in
    pick_false a _ (apart ks js x (of_true d.0) h) ∙ found rows other j ks x e (of_true d.1) h

-- a number of ks, none of which stands in a row
abbrev pub apart_from : {A : Type 0} → List (Line A) → List ℕ → Bool
apart_from [] ks = true
apart_from (line js a ∷ rows) ks = disjoint ks js && apart_from rows ks

pub not_found : {A : Type 0} (rows : List (Line A)) (other : A) (ks : List ℕ) (x : ℕ) → T (apart_from rows ks) → has_key ks x ≡ true → lookup rows other x ≡ other
unfolding lookup
not_found [] other ks x t h = refl
not_found (line js a ∷ rows) other ks x t h =
    let d = and_true (disjoint ks js) (apart_from rows ks) (true_of t) in
    pick_false a _ (apart ks js x (of_true d.0) h) ∙ not_found rows other ks x (of_true d.1) h

-- a number of ks, which all stand in rows that give something of the same kind
abbrev pub numbers_of : {A : Type 0} → List (Line A) → List ℕ
numbers_of [] = []
numbers_of (line js a ∷ rows) = js ++ numbers_of rows

abbrev pub Give : {A : Type 0} → (A → Type 0) → List (Line A) → Type 0
Give P [] = Unit {0}
Give P (line js a ∷ rows) = P a × Give P rows

append_keys : (ks js : List ℕ) (x : ℕ) → has_key (ks ++ js) x ≡ has_key ks x || has_key js x
append_keys [] js x = refl
append_keys (k ∷ ks) js x = go (eqb k x) (append_keys ks js x)
  where
    go : (b : Bool) → has_key (ks ++ js) x ≡ has_key ks x || has_key js x → b || has_key (ks ++ js) x ≡ (b || has_key ks x) || has_key js x
    go true e = refl
    go false e = e

pub found_any : {A : Type 0} (P : A → Type 0) (rows : List (Line A)) (other : A) (ks : List ℕ) (x : ℕ) → T (within ks (numbers_of rows)) → Give P rows → has_key ks x ≡ true → P (lookup rows other x)
unfolding lookup pick
found_any {A} P rows other ks x t g h = go rows g (inside ks (numbers_of rows) x t h)
  where
    by : (js : List ℕ) (a : A) (rest : List (Line A)) (b : Bool) → has_key js x ≡ b → P a → (has_key (numbers_of rest) x ≡ true → P (lookup rest other x)) → has_key (js ++ numbers_of rest) x ≡ true → P (pick b a (lookup rest other x))
    by js a rest true e p r n = p
    by js a rest false e p r n = r (sym (append_keys js (numbers_of rest) x ∙ rw e) ∙ n)

    go : (rest : List (Line A)) → Give P rest → has_key (numbers_of rest) x ≡ true → P (lookup rest other x)
    go [] g n = true_not_false (sym n)
    go (line js a ∷ rest) g n = by js a rest (has_key js x) refl g.0 (λ m. go rest g.1 m) n

-- a number past all that the rows have
abbrev pub lines_below : {A : Type 0} → ℕ → List (Line A) → Bool
lines_below n [] = true
lines_below n (line js a ∷ rows) = all_below n js && lines_below n rows

pub past_rows : {A : Type 0} (rows : List (Line A)) (other : A) (n x : ℕ) → T (lines_below n rows) → n ≤ x → lookup rows other x ≡ other
unfolding lookup
past_rows [] other n x t h = refl
past_rows (line js a ∷ rows) other n x t h =
    let d = and_true (all_below n js) (lines_below n rows) (true_of t) in
    pick_false a _ (past js n x (of_true d.0) h) ∙ past_rows rows other n x (of_true d.1) h

-- ---- a table's rows as the arms of a `match`. The toolchain sorts an arm's numbers, and makes a range of two neighbours: a row that holds neighbours is two arms

-- a number at its place in a sorted list
abbrev insert : ℕ → List ℕ → List ℕ
insert k [] = k ∷ []
insert k (m ∷ ms) = elim (leb k m) [ true ↦ k ∷ m ∷ ms | false ↦ m ∷ insert k ms ]

abbrev sorted : List ℕ → List ℕ
sorted [] = []
sorted (k ∷ ks) = insert k (sorted ks)

-- of sorted numbers: those that do not follow one taken before, and those that do. ns are the numbers next to those taken
abbrev taken : List ℕ → List ℕ → List ℕ
taken ns [] = []
taken ns (k ∷ ks) = elim (has_key ns k) [ true ↦ taken ns ks | false ↦ k ∷ taken (suc k ∷ ns) ks ]

abbrev left : List ℕ → List ℕ → List ℕ
left ns [] = []
left ns (k ∷ ks) = elim (has_key ns k) [ true ↦ k ∷ left ns ks | false ↦ left (suc k ∷ ns) ks ]

-- a row as one arm or two
abbrev cut : {A : Type 0} → List ℕ → List ℕ → A → List (Line A) → List (Line A)
cut ks [] a rows = line ks a ∷ rows
cut ks (m ∷ ms) a rows = line ks a ∷ line (m ∷ ms) a ∷ rows

abbrev pub arms : {A : Type 0} → List (Line A) → List (Line A)
arms [] = []
arms (line ks a ∷ rows) = cut (taken [] (sorted ks)) (left [] (sorted ks)) a (arms rows)

-- two alternatives of three, changed over
or_behind : (a b c d : Bool) → b || c ≡ d → b || (a || c) ≡ a || d
or_behind true true c d e = refl
or_behind true false c d e = refl
or_behind false b c d e = e

or_before : (a b c d : Bool) → b || c ≡ d → (a || b) || c ≡ a || d
or_before true b c d e = refl
or_before false b c d e = e

insert_keys : (k : ℕ) (ms : List ℕ) (x : ℕ) → has_key (insert k ms) x ≡ eqb k x || has_key ms x
insert_keys k [] x = refl
insert_keys k (m ∷ ms) x = go (leb k m) (insert_keys k ms x)
  where
    go : (b : Bool) → has_key (insert k ms) x ≡ eqb k x || has_key ms x → has_key (elim b [ true ↦ k ∷ m ∷ ms | false ↦ m ∷ insert k ms ]) x ≡ eqb k x || (eqb m x || has_key ms x)
    go true e = refl
    go false e = rw e (or_behind (eqb k x) (eqb m x) (has_key ms x) (eqb m x || has_key ms x) refl)

sorted_keys : (ks : List ℕ) (x : ℕ) → has_key (sorted ks) x ≡ has_key ks x
sorted_keys [] x = refl
sorted_keys (k ∷ ks) x = insert_keys k (sorted ks) x ∙ ap (λ (b : Bool). eqb k x || b) (sorted_keys ks x)

taken_or_left : (ns ks : List ℕ) (x : ℕ) → has_key (taken ns ks) x || has_key (left ns ks) x ≡ has_key ks x
taken_or_left ns [] x = refl
taken_or_left ns (k ∷ ks) x = go (has_key ns k) (taken_or_left ns ks x) (taken_or_left (suc k ∷ ns) ks x)
  where
    go : (b : Bool) → has_key (taken ns ks) x || has_key (left ns ks) x ≡ has_key ks x → has_key (taken (suc k ∷ ns) ks) x || has_key (left (suc k ∷ ns) ks) x ≡ has_key ks x
        → has_key (elim b [ true ↦ taken ns ks | false ↦ k ∷ taken (suc k ∷ ns) ks ]) x || has_key (elim b [ true ↦ k ∷ left ns ks | false ↦ left (suc k ∷ ns) ks ]) x ≡ eqb k x || has_key ks x
    go true e f = or_behind (eqb k x) (has_key (taken ns ks) x) (has_key (left ns ks) x) (has_key ks x) e
    go false e f = or_before (eqb k x) (has_key (taken (suc k ∷ ns) ks) x) (has_key (left (suc k ∷ ns) ks) x) (has_key ks x) f

-- the arms of a table give what its rows give
arms_same : {A : Type 0} (rows : List (Line A)) (other : A) (x : ℕ) → lookup (arms rows) other x ≡ lookup rows other x
unfolding lookup pick
arms_same [] other x = refl
arms_same {A} (line ks a ∷ rows) other x = go (left [] (sorted ks)) (taken_or_left [] (sorted ks) x ∙ sorted_keys ks x) ∙ ap (pick (has_key ks x) a) (arms_same rows other x)
  where
    one : (b c : Bool) (z : A) → b || false ≡ c → pick b a z ≡ pick c a z
    one true c z e = rw (← e)
    one false c z e = rw (← e)

    two : (b c d : Bool) (z : A) → b || c ≡ d → pick b a (pick c a z) ≡ pick d a z
    two true c d z e = rw (← e)
    two false c d z e = rw (← e)

    go : (ms : List ℕ) → has_key (taken [] (sorted ks)) x || has_key ms x ≡ has_key ks x → lookup (cut (taken [] (sorted ks)) ms a (arms rows)) other x ≡ pick (has_key ks x) a (lookup (arms rows) other x)
    go [] e = one (has_key (taken [] (sorted ks)) x) (has_key ks x) _ e
    go (m ∷ ms) e = two (has_key (taken [] (sorted ks)) x) (has_key (m ∷ ms) x) (has_key ks x) _ e

-- a number of row j
pub in_row : {A : Type 0} (rows : List (Line A)) (other : A) (x j : ℕ) → T (apart_before rows j (numbers_at rows j)) → OneOf (numbers_at rows j) x → lookup rows other x ≡ given_at rows other j
in_row rows other x j t h = found rows other j (numbers_at rows j) x (within_self (numbers_at rows j)) t (among (numbers_at rows j) x h)

-- arm j of the table
pub arm : {A : Type 0} (rows : List (Line A)) (other : A) (x j : ℕ) → T (apart_before (arms rows) j (numbers_at (arms rows) j)) → OneOf (numbers_at (arms rows) j) x → lookup rows other x ≡ given_at (arms rows) other j
arm rows other x j t h = sym (arms_same rows other x) ∙ in_row (arms rows) other x j t h

-- what a default arm knows: the number is in none of the arms
abbrev pub Missed : {A : Type 0} → Type 0 → List (Line A) → ℕ → Type 0
Missed N [] x = N
Missed N (line ks a ∷ rows) x = Missed (N × (OneOf ks x → ⊥)) rows x

missed : {A : Type 0} (rows : List (Line A)) (other : A) (x : ℕ) (N : Type 0) → Missed N rows x → N × (lookup rows other x ≡ other)
unfolding lookup
missed [] other x N m = (m, refl)
missed (line ks a ∷ rows) other x N m =
    let r = missed rows other x (N × (OneOf ks x → ⊥)) m in
    (r.0.0, pick_false a _ (outside ks x r.0.1) ∙ r.1)

-- the default arm
pub rest : {A : Type 0} (rows : List (Line A)) (other : A) (x : ℕ) → Missed (Unit {0}) (arms rows) x → lookup rows other x ≡ other
rest rows other x m = sym (arms_same rows other x) ∙ (missed (arms rows) other x (Unit {0}) m).1

-- ---- ranges

-- n numbers from lo on
abbrev pub up_to : ℕ → ℕ → List ℕ
up_to lo zero = []
up_to lo (suc n) = lo ∷ up_to (suc lo) n

pub in_range : (lo n x : ℕ) → lo ≤ x → x < lo + n → has_key (up_to lo n) x ≡ true
in_range lo zero x h k = absurd (omega arith)
in_range lo (suc n) x h k = go (dec_le x lo) (λ p. in_range (suc lo) n x (omega arith) (omega arith))
  where
    go : Dec (x ≤ lo) → (lo < x → has_key (up_to (suc lo) n) x ≡ true) → has_key (up_to lo (suc n)) x ≡ true
    go (yes p) r = let e : x ≡ lo = omega arith in rw (e, eq-eqb lo lo refl)
    go (no p) r = rw (ne_eqb lo x (λ q. omega arith)) (r (omega arith))
