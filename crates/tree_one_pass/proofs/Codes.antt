-- What a row says of a node: its numbers are allowed, and a kind that fits a place's code fits the place. Assumes nothing.
use mathlib.Core.Path.{◌≡◌, refl, sym, ◌∙◌}
use mathlib.Core.Bool.{Bool, true, false, not, ◌&&◌, ◌||◌}
use mathlib.Core.List.{List, [], ◌∷◌}
use mathlib.Core.Logic.{◌⊎◌, inl, inr, ⊎_elim}
use Prim.Native.Nat.{ℕ, ◌+◌, ◌*◌, ◌/◌, ◌%◌, ◌^◌, ◌≤◌, ◌<◌, max}
use native.Mathlib.Omega.{arith}
use native.Mathlib.Decide.{dec_le, ℕ_discrete}
use lib.Dec.{eqb, leb}
use borrow.Author.Tests.{eqb-true, eqb-false, eq-eqb, ne_eqb, leb-true, le-leb, lt-leb, not-true}
use Rattle.laws.specs.Choice.{pick, lookup, is_one_of}
use Rattle.laws.proofs.Choice.{and_true, true_of}
use Rattle.laws.proofs.Each.{all_at}
use Rattle.tree_places.specs.declared.place.Place.{Place}
use Rattle.tree_places.specs.declared.place.Place.TheVariants.{Nothing, Required, Optional, List as ListOf, Item, Next}
use Rattle.tree.specs.Forms.{class_of, highest_attributes, highest_detail, highest_symbol, allowed}
use Rattle.tree.specs.Table.{form_at, attributes_at, detail_at, symbol_at}
use Rattle.tree_places.specs.Places.{first_places, first_place, second_places, second_place}
use Rattle.tree_rules.specs.Refusals.{bad_numbers, empty, bad_output}
use Rattle.tree_one_pass.specs.Rows.{code_is, fits_by, code_by, suits, RowAt}
use Rattle.tree_one_pass.specs.Marks.{Fits, mark_by, Opens, Closes, Marks}

-- the number that `fits` looks at holds the code and the kind
fits_at : (code kind : ℕ) → kind < 8 → fits_by ((8 * code + kind) / 8) ((8 * code + kind) % 8) ≡ true → fits_by code kind ≡ true
fits_at code kind h e =
    let p : (8 * code + kind) / 8 ≡ code = omega arith in
    let q : (8 * code + kind) % 8 ≡ kind = omega arith in
    rw (p, q) at e

-- the bits of `fits`, each by one computed test
pub fits_bit : (code kind : ℕ) → code < 8 → kind < 8 → eqb (437140555961729537 / 2 ^ (8 * code + kind) % 2) 1 ≡ true → fits_by code kind ≡ true
unfolding fits_by pick
fits_bit code kind h k e = fits_at code kind k (true_of (rw e at (all_at test 64 tt (8 * code + kind) (omega arith))))
  where
    test : ℕ → Bool
    test x = not (eqb (437140555961729537 / 2 ^ x % 2) 1) || fits_by (x / 8) (x % 8)

or_true : (a b : Bool) → a || b ≡ true → (a ≡ true) ⊎ (b ≡ true)
or_true true b e = inl refl
or_true false b e = inr e

-- 56 is the form of links
pub link_form : (form : ℕ) → class_of form ≡ 3 → form ≡ 56
unfolding class_of pick
link_form form e = go (dec_le 1 form) (dec_le form 40) (dec_le form 55) (dec_le form 56)
  where
    go : Dec (1 ≤ form) → Dec (form ≤ 40) → Dec (form ≤ 55) → Dec (form ≤ 56) → form ≡ 56
    go (no a) b d f = let z : form ≡ 0 = omega arith in absurd (let y : ◌≡◌ {A = ℕ} 0 3 = rw (eq-eqb form 0 z) at e in omega arith)
    go (yes a) (yes b) d f = absurd (let y : ◌≡◌ {A = ℕ} 1 3 = rw (ne_eqb form 0 (λ z. omega arith), le-leb form 40 b) at e in omega arith)
    go (yes a) (no b) (yes d) f = absurd (let y : ◌≡◌ {A = ℕ} 2 3 = rw (ne_eqb form 0 (λ z. omega arith), lt-leb form 40 (omega arith), le-leb form 55 d) at e in omega arith)
    go (yes a) (no b) (no d) (yes f) = omega arith
    go (yes a) (no b) (no d) (no f) = absurd (let y : ◌≡◌ {A = ℕ} 0 3 = rw (ne_eqb form 0 (λ z. omega arith), lt-leb form 40 (omega arith), lt-leb form 55 (omega arith), lt-leb form 56 (omega arith)) at e in omega arith)

-- ---- codes

module _ (code kind : ℕ) (h : fits_by code kind ≡ true) where
  by_nothing : code ≡ 0 → kind ≡ 0
  unfolding fits_by pick
  by_nothing e = eqb-true kind 0 (rw (eq-eqb code 0 e) at h)

  by_class : 1 ≤ code → code ≤ 2 → kind ≡ code
  unfolding fits_by pick
  by_class p q = eqb-true kind code (rw (ne_eqb code 0 (λ z. omega arith), le-leb code 2 q) at h)

  by_choice : 3 ≤ code → code ≤ 6 → (kind ≡ 0) ⊎ (kind + 2 ≡ code)
  unfolding fits_by pick
  by_choice p q =
      ⊎_elim
      (λ z. inl (eqb-true kind 0 z))
      (λ z. inr (eqb-true (kind + 2) code z))
      (or_true (eqb kind 0) (eqb (kind + 2) code) (rw (ne_eqb code 0 (λ z. omega arith), lt-leb code 2 (omega arith), le-leb code 6 q) at h))

  by_item : code ≡ 7 → (1 ≤ kind) × (kind ≤ 2)
  unfolding fits_by pick
  by_item e =
      ⊎_elim
      (λ z. let k = eqb-true kind 1 z in (omega arith, omega arith))
      (λ z. let k = eqb-true kind 2 z in (omega arith, omega arith))
      (or_true (eqb kind 1) (eqb kind 2) (rw e at h))

  -- a class that has codes
  of_class : (class n : ℕ) → (leb 1 class && leb class 2) && eqb code (class + n) ≡ true → (1 ≤ class) × (class ≤ 2) × (code ≡ class + n)
  of_class class n e =
      let p = and_true (leb 1 class && leb class 2) (eqb code (class + n)) e in
      let q = and_true (leb 1 class) (leb class 2) p.0 in
      (leb-true 1 class q.0, leb-true class 2 q.1, eqb-true code (class + n) p.1)

  fits_place : (p : Place) (item : ℕ) → code_is p code ≡ true → Fits p item kind
  unfolding code_is Fits
  fits_place Nothing item e = by_nothing (eqb-true code 0 e)
  fits_place (Required class) item e =
      let z : class + 0 ≡ class = omega arith in
      let c = of_class class 0 (rw z e) in
      let k = by_class (let a = c.0 in let b = c.2 in omega arith) (let a = c.1 in let b = c.2 in omega arith) in
      let a = c.0 in
      let b = c.1 in
      let d = c.2 in
      (omega arith, omega arith, omega arith)
  fits_place (Optional class) item e =
      let c = of_class class 2 e in
      let a = c.0 in
      let b = c.1 in
      let d = c.2 in
      ⊎_elim (λ z. inl z) (λ z. inr (omega arith, omega arith, omega arith)) (by_choice (omega arith) (omega arith))
  fits_place (ListOf class) item e =
      let c = of_class class 4 e in
      let a = c.0 in
      let b = c.1 in
      let d = c.2 in
      ⊎_elim (λ z. inl z) (λ z. inr (omega arith, omega arith)) (by_choice (omega arith) (omega arith))
  fits_place Item item e = by_item (eqb-true code 7 e)
  fits_place Next item e = inl (by_nothing (eqb-true code 0 e))

-- ---- the second operand, and the mark

module _ (row one two most : ℕ) (is : most ≡ max one two) where
  pub link_closes : row % 4 ≡ 3 → fits_by (one % 4 + 4) (two % 8) ≡ true → Closes row one two (one % 8 + 2 + 8 * (most / 8))
  unfolding code_by mark_by pick
  link_closes e f = (λ z. omega arith, rw (eq-eqb (row % 4) 3 e) f, rw (eq-eqb (row % 4) 3 e, is) (omega arith))

  pub plain_closes : (row % 4 ≡ 3 → ⊥) → (row % 4 ≡ 0 → ⊥) → fits_by (row / 128 % 8) (two % 8) ≡ true → Closes row one two (row % 4 + 8 * (most / 8 + 1))
  unfolding code_by mark_by pick
  plain_closes e n f = (n, rw (ne_eqb (row % 4) 3 e) f, rw (ne_eqb (row % 4) 3 e, is) (omega arith))

-- ---- rows

record Says (form detail row : ℕ) : Type 0 where
  class : row % 4 ≡ class_of form
  some : row % 4 ≡ 0 → ⊥
  attributes : row / 4 % 4 ≡ highest_attributes form
  details : row / 1024 ≡ highest_detail form
  first : code_is (first_place form detail) (row / 16 % 8) ≡ true
  second : code_is (second_place form detail) (row / 128 % 8) ≡ true
  full : is_one_of (44 ∷ 49 ∷ 53 ∷ []) form && eqb detail 0 ≡ false

says : (form detail row : ℕ) → suits form detail row ≡ true → Says form detail row
unfolding suits
says form detail row e =
    let a = and_true (eqb (row % 4) (class_of form) && not (eqb (row % 4) 0)) _ e in
    let b = and_true (eqb (row % 4) (class_of form)) (not (eqb (row % 4) 0)) a.0 in
    let c = and_true (eqb (row / 4 % 4) (highest_attributes form) && eqb (row / 1024) (highest_detail form)) _ a.1 in
    let d = and_true (eqb (row / 4 % 4) (highest_attributes form)) (eqb (row / 1024) (highest_detail form)) c.0 in
    let f = and_true (code_is (first_place form detail) (row / 16 % 8) && code_is (second_place form detail) (row / 128 % 8)) _ c.1 in
    let g = and_true (code_is (first_place form detail) (row / 16 % 8)) (code_is (second_place form detail) (row / 128 % 8)) f.0 in
    record {
      class = eqb-true _ _ b.0;
      some = eqb-false _ _ (not-true _ b.1);
      attributes = eqb-true _ _ d.0;
      details = eqb-true _ _ d.1;
      first = g.0;
      second = g.1;
      full = not-true _ f.1;
    }

-- the row of a node that is no closure, by its form and detail
pub row_by : (cells : List ℕ) (i form detail row : ℕ) → form ≡ form_at cells i → detail ≡ detail_at cells i → suits form detail row ≡ true → eqb form 10 ≡ false → RowAt cells i row
unfolding bad_output
row_by cells i form detail row ef ed s n = (rw (← ef, ← ed) s, rw (← ef, n))

-- no row is 0
pub some_row : (row : ℕ) → (row % 4 ≡ 0 → ⊥) → row ≡ 0 → ⊥
some_row row n e = n (omega arith)

-- what `mark_at` has found
module _ (cells : List ℕ) (i one row attributes detail : ℕ) (ea : attributes ≡ attributes_at cells i) (ed : detail ≡ detail_at cells i)
    (named : leb (symbol_at cells i) (highest_symbol (form_at cells i) (detail_at cells i)) ≡ true) (at : RowAt cells i row)
    (opens : Opens row attributes detail one) where
  own : Says (form_at cells i) (detail_at cells i) row
  own = says (form_at cells i) (detail_at cells i) row at.0

  numbers : bad_numbers cells i ≡ false
  unfolding bad_numbers allowed
  numbers =
      rw (named, ← own.class, ← own.attributes, ← own.details, ne_eqb _ _ own.some, ← ea, ← ed, le-leb _ _ opens.0, le-leb _ _ opens.1)

  first : Fits (first_place (form_at cells i) (detail_at cells i)) (one % 8) (one % 8)
  first = fits_place (row / 16 % 8) (one % 8) opens.2 (first_place (form_at cells i) (detail_at cells i)) (one % 8) own.first

  second : (two : ℕ) → fits_by (code_by row one) (two % 8) ≡ true → Fits (second_place (form_at cells i) (detail_at cells i)) (one % 8) (two % 8)
  unfolding code_by pick first_place first_places second_place second_places lookup Fits
  second two h = go (ℕ_discrete (row % 4) 3)
    where
      go : Dec (row % 4 ≡ 3) → Fits (second_place (form_at cells i) (detail_at cells i)) (one % 8) (two % 8)
      go (yes e) =
          let form = link_form (form_at cells i) (sym own.class ∙ e) in
          let item : (1 ≤ one % 8) × (one % 8 ≤ 2) = rw form at first in
          let low = item.0 in
          let high = item.1 in
          rw form (⊎_elim (λ z. inl z) (λ z. inr (high, (omega arith, omega arith))) (by_choice (one % 4 + 4) (two % 8) (rw (eq-eqb (row % 4) 3 e) at h) (omega arith) (omega arith)))
      go (no e) = fits_place (row / 128 % 8) (two % 8) (rw (ne_eqb (row % 4) 3 e) at h) (second_place (form_at cells i) (detail_at cells i)) (one % 8) own.second

  pub marks_at : (two r : ℕ) → Closes row one two r → Marks cells i one two r
  unfolding empty
  marks_at two r k = record {
    numbers = numbers;
    first = first;
    second = second two k.1;
    full = own.full;
    output = at.1;
    is = rw (← own.class) k.2;
  }
