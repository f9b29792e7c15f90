-- The order on lists of numbers is total. Assumes nothing.
use mathlib.Core.Path.{◌≡◌, refl, sym, ap, ◌∙◌}
use mathlib.Core.List.{List, [], ◌∷◌}
use mathlib.Core.Logic.{◌⊎◌, inl, inr}
use Prim.Native.Nat.{ℕ, ◌≤◌, ◌<◌}
use native.Mathlib.Omega.{arith}
use native.Mathlib.Decide.{dec_le}
use borrow.Author.Tests.{lt-ltb, le-ltb}
use Rattle.laws.proofs.Choice.{pick_true, pick_false}
use Rattle.std.specs.declared.cmp.Ordering.{Ordering}
use Rattle.std.specs.declared.cmp.Ordering.TheVariants.{Less, Equal, Greater}
use Rattle.file_order.specs.Orders.{in_order}

-- ---- by the first numbers

module _ (x : ℕ) (xs : List ℕ) (y : ℕ) (ys : List ℕ) where
  less : x < y → in_order (x ∷ xs) (y ∷ ys) ≡ Less
  unfolding in_order
  less h = pick_true _ _ (lt-ltb x y h)

  more : y < x → in_order (x ∷ xs) (y ∷ ys) ≡ Greater
  unfolding in_order
  more h = pick_false _ _ (le-ltb x y (omega arith)) ∙ pick_true _ _ (lt-ltb y x h)

  alike : x ≡ y → in_order (x ∷ xs) (y ∷ ys) ≡ in_order xs ys
  unfolding in_order
  alike e = pick_false _ _ (le-ltb x y (omega arith)) ∙ pick_false _ _ (le-ltb y x (omega arith))

  -- how two numbers stand to each other
  data Stand : Type 0 where
    below : x < y → Stand
    above : y < x → Stand
    level : x ≡ y → Stand

  stand : Stand
  stand = go (dec_le y x) (dec_le x y)
    where
      go : Dec (y ≤ x) → Dec (x ≤ y) → Stand
      go (no p) d = below (omega arith)
      go (yes p) (no q) = above (omega arith)
      go (yes p) (yes q) = level (omega arith)

-- two of the three answers are different
never : {A : Type 0} {a b : Ordering} (n : Ordering → ℕ) → n a < n b → a ≡ b → A
never n h e = absurd (let f = ap n e in omega arith)

abbrev rank : Ordering → ℕ
rank Less = 0
rank Equal = 1
rank Greater = 2

-- ---- equal only where the lists are

pub equal_lists : (xs ys : List ℕ) → in_order xs ys ≡ Equal → xs ≡ ys
unfolding in_order
equal_lists [] [] e = refl
equal_lists [] (y ∷ ys) e = never rank (omega arith) e
equal_lists (x ∷ xs) [] e = never rank (omega arith) (sym e)
equal_lists (x ∷ xs) (y ∷ ys) e = go (stand x xs y ys) (equal_lists xs ys)
  where
    go : Stand x xs y ys → (in_order xs ys ≡ Equal → xs ≡ ys) → x ∷ xs ≡ y ∷ ys
    go (below h) ih = never rank (omega arith) (sym (less x xs y ys h) ∙ e)
    go (above h) ih = never rank (omega arith) (sym e ∙ more x xs y ys h)
    go (level h) ih = rw (h, ih (sym (alike x xs y ys h) ∙ e))

pub list_self : (xs : List ℕ) → in_order xs xs ≡ Equal
unfolding in_order
list_self [] = refl
list_self (x ∷ xs) = alike x xs x xs refl ∙ list_self xs

-- ---- the other way round

abbrev pub opposite : Ordering → Ordering
opposite Less = Greater
opposite Equal = Equal
opposite Greater = Less

pub turned : (xs ys : List ℕ) → in_order ys xs ≡ opposite (in_order xs ys)
unfolding in_order
turned [] [] = refl
turned [] (y ∷ ys) = refl
turned (x ∷ xs) [] = refl
turned (x ∷ xs) (y ∷ ys) = go (stand x xs y ys) (turned xs ys)
  where
    go : Stand x xs y ys → in_order ys xs ≡ opposite (in_order xs ys) → in_order (y ∷ ys) (x ∷ xs) ≡ opposite (in_order (x ∷ xs) (y ∷ ys))
    go (below h) ih = more y ys x xs h ∙ ap opposite (sym (less x xs y ys h))
    go (above h) ih = less y ys x xs h ∙ ap opposite (sym (more x xs y ys h))
    go (level h) ih = alike y ys x xs (sym h) ∙ ih ∙ ap opposite (sym (alike x xs y ys h))

-- ---- one after the other

-- before: by the first numbers, or by the rest
by_first : (x : ℕ) (xs : List ℕ) (y : ℕ) (ys : List ℕ) → in_order (x ∷ xs) (y ∷ ys) ≡ Less → (x < y) ⊎ ((x ≡ y) × (in_order xs ys ≡ Less))
by_first x xs y ys e = go (stand x xs y ys)
  where
    go : Stand x xs y ys → (x < y) ⊎ ((x ≡ y) × (in_order xs ys ≡ Less))
    go (below h) = inl h
    go (above h) = never rank (omega arith) (sym e ∙ more x xs y ys h)
    go (level h) = inr (h, sym (alike x xs y ys h) ∙ e)

pub before_before : (xs ys zs : List ℕ) → in_order xs ys ≡ Less → in_order ys zs ≡ Less → in_order xs zs ≡ Less
unfolding in_order
before_before [] [] zs p q = never rank (omega arith) (sym p)
before_before [] (y ∷ ys) [] p q = never rank (omega arith) (sym q)
before_before [] (y ∷ ys) (z ∷ zs) p q = refl
before_before (x ∷ xs) [] zs p q = never rank (omega arith) (sym p)
before_before (x ∷ xs) (y ∷ ys) [] p q = never rank (omega arith) (sym q)
before_before (x ∷ xs) (y ∷ ys) (z ∷ zs) p q = go (by_first x xs y ys p) (by_first y ys z zs q) (before_before xs ys zs)
  where
    go : (x < y) ⊎ ((x ≡ y) × (in_order xs ys ≡ Less)) → (y < z) ⊎ ((y ≡ z) × (in_order ys zs ≡ Less)) → (in_order xs ys ≡ Less → in_order ys zs ≡ Less → in_order xs zs ≡ Less)
        → in_order (x ∷ xs) (z ∷ zs) ≡ Less
    go (inl h) (inl j) ih = less x xs z zs (omega arith)
    go (inl h) (inr j) ih = less x xs z zs (let e = j.0 in omega arith)
    go (inr h) (inl j) ih = less x xs z zs (let e = h.0 in omega arith)
    go (inr h) (inr j) ih = alike x xs z zs (h.0 ∙ j.0) ∙ ih h.1 j.1
