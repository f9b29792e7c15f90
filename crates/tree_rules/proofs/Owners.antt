-- The array that counts owners. Assumes nothing.
use mathlib.Core.Path.{◌≡◌, refl, sym, ◌∙◌}
use mathlib.Core.Bool.{Bool, true, false, not, ◌&&◌}
use mathlib.Core.List.{List}
use Prim.Native.Nat.{ℕ, zero, suc, ◌+◌, ◌*◌, ◌≤◌, ◌<◌}
use native.Mathlib.Omega.{arith}
use native.Mathlib.Decide.{dec_lt}
use lib.Dec.{eqb}
use lib.ListN.{length, get_or, set, length-set, replicate, length-replicate, get_or-replicate, get_or-eq_default}
use lib.Seq.{get_or-set_same, get_or-set_other}
use borrow.Author.Tests.{eqb-true, eqb-false, lt-ltb, le-ltb, ne_eqb}
use Rattle.laws.specs.Choice.{pick}
use Rattle.tree.specs.Sizes.{most_nodes}
use Rattle.tree.specs.Table.{first_at, second_at}
use Rattle.tree_rules.specs.Refusals.{owners, bad_owner}
use Rattle.tree_rules.specs.Passes.{counted, Counted, badly_owned}

counted_in : (xs : List ℕ) (o : ℕ) → o < length xs → counted xs o ≡ set xs o (get_or xs o 0 + 1)
unfolding counted pick
counted_in xs o h = rw (lt-ltb o (length xs) h)

counted_out : (xs : List ℕ) (o : ℕ) → length xs ≤ o → counted xs o ≡ xs
unfolding counted pick
counted_out xs o h = rw (le-ltb o (length xs) h)

pub length_counted : (xs : List ℕ) (o : ℕ) → length (counted xs o) ≡ length xs
length_counted xs o = go (dec_lt o (length xs))
  where
    go : Dec (o < length xs) → length (counted xs o) ≡ length xs
    go (yes p) = rw (counted_in xs o p) (length-set xs o _)
    go (no p) = rw (counted_out xs o (omega arith))

-- what one operand adds to the owners of a node
adds_one : (b : Bool) → pick b 1 0 ≤ 1
unfolding pick
adds_one true = omega arith
adds_one false = omega arith

added : (xs : List ℕ) (o j : ℕ) → o < length xs → (b : Bool) → eqb o j ≡ b → get_or (set xs o (get_or xs o 0 + 1)) j 0 ≡ get_or xs j 0 + pick b 1 0
unfolding pick
added xs o j h true e = let s : o ≡ j = eqb-true o j e in rw s (get_or-set_same xs j _ 0 (omega arith))
added xs o j h false e = get_or-set_other xs o j _ 0 (λ q. eqb-false o j e (sym q)) ∙ omega arith

added_none : (x : ℕ) (b : Bool) → b ≡ false → x ≡ x + pick b 1 0
unfolding pick
added_none x b e = rw e (omega arith)

-- a cell after one more owner
counted_at : (xs : List ℕ) (o j : ℕ) → j < length xs → get_or (counted xs o) j 0 ≡ get_or xs j 0 + pick (eqb o j) 1 0
counted_at xs o j h = go (dec_lt o (length xs))
  where
    go : Dec (o < length xs) → get_or (counted xs o) j 0 ≡ get_or xs j 0 + pick (eqb o j) 1 0
    go (yes p) = rw (counted_in xs o p) (added xs o j p (eqb o j) refl)
    go (no p) = rw (counted_out xs o (omega arith)) (added_none _ _ (ne_eqb o j (λ e. omega arith)))

-- no cell grows by more than one
counted_small : (xs : List ℕ) (o m : ℕ) → ((j : ℕ) → get_or xs j 0 ≤ m) → (j : ℕ) → get_or (counted xs o) j 0 ≤ m + 1
counted_small xs o m h j = go (dec_lt j (length xs))
  where
    go : Dec (j < length xs) → get_or (counted xs o) j 0 ≤ m + 1
    go (yes p) = let u = adds_one (eqb o j) in let v = h j in rw (counted_at xs o j p) (omega arith)
    go (no p) =
        let k = length_counted xs o in
        let z : get_or (counted xs o) j 0 ≡ 0 = get_or-eq_default (counted xs o) 0 (omega arith) in
        omega arith

-- a node has at most two operands
owners_small : (cells : List ℕ) (n j : ℕ) → owners cells n j ≤ 2 * n
unfolding owners
owners_small cells zero j = omega arith
owners_small cells (suc n) j =
    let r = owners_small cells n j in
    let a = adds_one (eqb (first_at cells (suc n)) j) in
    let b = adds_one (eqb (second_at cells (suc n)) j) in
    omega arith

counted_room : (cells : List ℕ) (n : ℕ) (xs : List ℕ) → Counted cells n xs → (j : ℕ) → get_or xs j 0 ≤ 2 * n
counted_room cells n xs k j = go (dec_lt j (length xs))
  where
    go : Dec (j < length xs) → get_or xs j 0 ≤ 2 * n
    go (yes p) = rw (k.at j p) (owners_small cells n j)
    go (no p) =
        let z : get_or xs j 0 ≡ 0 = get_or-eq_default xs 0 (omega arith) in
        omega arith

-- the counts have room for the first operand of one more node, and then for the second
pub room_first : (cells : List ℕ) (n : ℕ) (xs : List ℕ) → Counted cells n xs → n ≤ most_nodes → (j : ℕ) → get_or xs j 0 < 65535
room_first cells n xs k h j = let r = counted_room cells n xs k j in omega arith

pub room_second : (cells : List ℕ) (n : ℕ) (xs : List ℕ) → Counted cells n xs → n ≤ most_nodes → (o j : ℕ) → get_or (counted xs o) j 0 < 65535
room_second cells n xs k h o j = let r = counted_small xs o (2 * n) (counted_room cells n xs k) j in omega arith

-- the two operands of one more node
pub counted_more : (cells : List ℕ) (n : ℕ) (xs : List ℕ) → Counted cells n xs → Counted cells (n + 1) (counted (counted xs (first_at cells (n + 1))) (second_at cells (n + 1)))
unfolding owners
counted_more cells n xs k = let e : n + 1 ≡ suc n = omega arith in rw e (record { at = each })
  where
    each : (j : ℕ) → j < length (counted (counted xs (first_at cells (suc n))) (second_at cells (suc n))) → get_or (counted (counted xs (first_at cells (suc n))) (second_at cells (suc n))) j 0 ≡ owners cells (suc n) j
    each j h =
        let l = length_counted xs (first_at cells (suc n)) in
        let m = length_counted (counted xs (first_at cells (suc n))) (second_at cells (suc n)) in
        counted_at (counted xs (first_at cells (suc n))) (second_at cells (suc n)) j (omega arith)
        ∙ rw (counted_at xs (first_at cells (suc n)) j (omega arith), k.at j (omega arith))

-- an array of zeros counts nothing
pub counted_none : (cells : List ℕ) (n : ℕ) → Counted cells 0 (replicate n 0)
unfolding owners
counted_none cells n = let l = length-replicate {A = ℕ} n 0 in record { at = λ j h. get_or-replicate n j 0 0 (omega arith) }

-- the test on a node's count is the rule
pub owned_badly : (cells : List ℕ) (count : ℕ) (xs : List ℕ) → Counted cells count xs → count < length xs → (j : ℕ) → j ≤ count → badly_owned xs j ≡ bad_owner cells count j
unfolding badly_owned bad_owner
owned_badly cells count xs k s j h = rw (k.at j (omega arith))
