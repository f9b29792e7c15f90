-- Two runs of numbers, read in step. Assumes nothing.
use mathlib.Core.Path.{◌≡◌, refl, sym, ◌∙◌}
use mathlib.Core.Bool.{Bool, true, false}
use mathlib.Core.List.{List, [], ◌∷◌}
use Prim.Native.Nat.{ℕ, suc, ◌+◌, ◌-◌, ◌≤◌, ◌<◌}
use native.Mathlib.Omega.{arith}
use lib.Dec.{ltb}
use lib.ListN.{drop}
use borrow.Author.Tests.{lt-ltb, le-ltb}
use Rattle.laws.specs.Choice.{pick}
use Rattle.laws.proofs.Choice.{pick_true, pick_false, true_not_false}
use Rattle.std.specs.Prelude.{None, Some}
use Rattle.file_numbers.specs.Numbers.{value_of, rest_of, malformed}
use Rattle.file_numbers.specs.Standing.{stands_at}
use Rattle.file_loader.specs.Several.{Numbers, broken, numbers, prepend, numbers_of, is_broken, values_in}
use Rattle.file_loader.proofs.Several.{number_bad, number_good, one_more, numbers_stop}
use Rattle.std.specs.declared.cmp.Ordering.{Ordering}
use Rattle.std.specs.declared.cmp.Ordering.TheVariants.{Less, Equal, Greater}
use Rattle.file_order.specs.Orders.{in_order}
use Rattle.file_order.specs.Heads.{run}

-- ---- one run

abbrev pub Formed : Numbers → Type 0
Formed ns = is_broken ns ≡ false

-- one number before others
prepended : (v : ℕ) (ns : Numbers) → Formed (prepend v ns) → Formed ns × (values_in (prepend v ns) ≡ v ∷ values_in ns)
unfolding prepend is_broken values_in
prepended v broken e = true_not_false e
prepended v (numbers ns bytes) e = (refl, refl)

module _ (file : List ℕ) (at n : ℕ) where
  next_is : (v next : ℕ) → Some (v, next) ≡ stands_at file at → run file at (suc n) ≡ prepend v (run file next n)
  next_is v next e = let s = number_good file at v next e in one_more n (drop at file) s.formed ∙ rw (s.value, s.rest)

  -- no number of a run that is formed is malformed
  pub not_bad : {A : Type 0} → Formed (run file at (suc n)) → None ≡ stands_at file at → A
  unfolding is_broken numbers_of
  not_bad f e = true_not_false (rw (numbers_stop 0 (suc n) (drop at file) [] (drop at file) (omega arith) refl (number_bad file at e)) at f)

  pub run_next : Formed (run file at (suc n)) → (v next : ℕ) → Some (v, next) ≡ stands_at file at → Formed (run file next n) × (values_in (run file at (suc n)) ≡ v ∷ values_in (run file next n))
  run_next f v next e =
      let p = prepended v (run file next n) (rw (next_is v next e) at f) in
      (p.0, rw (next_is v next e) p.1)

  -- it has a first number
  some_values : Formed (run file at (suc n)) → values_in (run file at (suc n)) ≡ value_of (drop at file) ∷ values_in (numbers_of n (rest_of (drop at file)))
  unfolding numbers_of is_broken
  some_values f = go (malformed (drop at file)) refl
    where
      go : (b : Bool) → malformed (drop at file) ≡ b → values_in (run file at (suc n)) ≡ value_of (drop at file) ∷ values_in (numbers_of n (rest_of (drop at file)))
      go true e = true_not_false (rw (pick_true {b = malformed (drop at file)} broken (prepend (value_of (drop at file)) (numbers_of n (rest_of (drop at file)))) e) at f)
      go false e =
          rw (one_more n (drop at file) e)
          (prepended (value_of (drop at file)) (numbers_of n (rest_of (drop at file))) (rw (one_more n (drop at file) e) at f)).1

no_values : (file : List ℕ) (at : ℕ) → values_in (run file at 0) ≡ []
unfolding numbers_of values_in
no_values file at = refl

-- ---- two of them, where one or both are at their ends

first_ends : (ys : List ℕ) (y : ℕ) (zs : List ℕ) → ys ≡ y ∷ zs → in_order [] ys ≡ Less
unfolding in_order
first_ends ys y zs e = rw e

second_ends : (xs : List ℕ) (x : ℕ) (zs : List ℕ) → xs ≡ x ∷ zs → in_order xs [] ≡ Greater
unfolding in_order
second_ends xs x zs e = rw e

both_end : in_order [] [] ≡ Equal
unfolding in_order
both_end = refl

heads : (xs ys : List ℕ) (x y : ℕ) (us vs : List ℕ) → xs ≡ x ∷ us → ys ≡ y ∷ vs → in_order xs ys ≡ pick (ltb x y) Less (pick (ltb y x) Greater (in_order us vs))
unfolding in_order
heads xs ys x y us vs p q = rw (p, q)

-- ---- after so many numbers of both, which were equal

module _ (first second : List ℕ) (one many two others : ℕ) where
  abbrev whole : Ordering
  whole = in_order (values_in (run first one many)) (values_in (run second two others))

  -- what is left decides
  pub record Beside (at beside done : ℕ) : Type 0 where
    pub few : done ≤ many
    pub not_more : done ≤ others
    pub left_formed : Formed (run first at (many - done))
    pub right_formed : Formed (run second beside (others - done))
    pub same : whole ≡ in_order (values_in (run first at (many - done))) (values_in (run second beside (others - done)))

  pub beside_none : Formed (run first one many) → Formed (run second two others) → Beside one two 0
  beside_none f g =
      let m : many - 0 ≡ many = omega arith in
      let n : others - 0 ≡ others = omega arith in
      record { few = omega arith; not_more = omega arith; left_formed = rw m f; right_formed = rw n g; same = rw (m, n) }

  module _ (at beside done : ℕ) (b : Beside at beside done) where
    module _ (more : done < many) where
      k : ℕ
      k = many - suc done

      is_k : many - done ≡ suc k
      unfolding k
      is_k = omega arith

      left : Formed (run first at (suc k))
      left = rw is_k at b.left_formed

      pub ended : others ≤ done → Greater ≡ whole
      ended h =
          let z : others - done ≡ 0 = omega arith in
          sym (b.same ∙ rw (is_k, z, no_values second beside) (second_ends _ _ _ (some_values first at k left)))

      pub left_not_bad : {A : Type 0} → None ≡ stands_at first at → A
      left_not_bad e = not_bad first at k left e

      module _ (more' : done < others) where
        l : ℕ
        l = others - suc done

        is_l : others - done ≡ suc l
        unfolding l
        is_l = omega arith

        right : Formed (run second beside (suc l))
        right = rw is_l at b.right_formed

        pub right_not_bad : {A : Type 0} → None ≡ stands_at second beside → A
        right_not_bad e = not_bad second beside l right e

        module _ (x next y after : ℕ) (p : Some (x, next) ≡ stands_at first at) (q : Some (y, after) ≡ stands_at second beside) where
          by_heads : whole ≡ pick (ltb x y) Less (pick (ltb y x) Greater (in_order (values_in (run first next k)) (values_in (run second after l))))
          by_heads =
              b.same
              ∙ rw (is_k, is_l)
              (heads _ _ x y _ _ (run_next first at k left x next p).1 (run_next second beside l right y after q).1)

          pub smaller : x < y → Less ≡ whole
          smaller h = sym (by_heads ∙ pick_true _ _ (lt-ltb x y h))

          pub larger : y < x → Greater ≡ whole
          larger h = sym (by_heads ∙ pick_false _ _ (le-ltb x y (omega arith)) ∙ pick_true _ _ (lt-ltb y x h))

          pub beside_more : y ≤ x → x ≤ y → Beside next after (done + 1)
          unfolding k l
          beside_more h j =
              let m : many - (done + 1) ≡ k = omega arith in
              let n : others - (done + 1) ≡ l = omega arith in
              record {
                few = omega arith;
                not_more = omega arith;
                left_formed = rw m (run_next first at k left x next p).0;
                right_formed = rw n (run_next second beside l right y after q).0;
                same = by_heads ∙ pick_false _ _ (le-ltb x y h) ∙ pick_false _ _ (le-ltb y x j) ∙ rw (m, n);
              }

    module _ (all : many ≤ done) where
      none : values_in (run first at (many - done)) ≡ []
      none = let z : many - done ≡ 0 = omega arith in rw z (no_values first at)

      pub ends_first : done < others → Less ≡ whole
      ends_first h =
          let n : others - done ≡ suc (others - suc done) = omega arith in
          sym (b.same ∙ rw (none, n) (first_ends _ _ _ (some_values second beside (others - suc done) (rw n at b.right_formed))))

      pub ends_too : others ≤ done → Equal ≡ whole
      ends_too h =
          let z : others - done ≡ 0 = omega arith in
          sym (b.same ∙ rw (none, z, no_values second beside) both_end)
