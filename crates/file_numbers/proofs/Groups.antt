-- The number at a place of a file, by its first three bytes. Assumes nothing.
use mathlib.Core.Path.{◌≡◌, refl, sym, ap, ◌∙◌}
use mathlib.Core.Bool.{true, false}
use mathlib.Core.List.{List, [], ◌∷◌}
use Prim.Native.Nat.{ℕ, zero, suc, ◌+◌, ◌*◌, ◌-◌, ◌%◌, ◌≤◌, ◌<◌}
use native.Mathlib.Omega.{arith}
use native.Mathlib.Decide.{dec_le}
use lib.Dec.{leb}
use lib.ListN.{length, get_or, take, drop, length-drop}
use lib.Seq.{take-nil, get_or-drop}
use borrow.Author.Tests.{le-leb, lt-leb, lt-ltb, le-ltb, eq-eqb, ne_eqb}
use Rattle.laws.specs.Choice.{pick}
use Rattle.laws.proofs.Choice.{pick_true, pick_false}
use Rattle.std.specs.Prelude.{None, Some}
use Rattle.file_numbers.specs.Numbers.{followed, groups, value_of, malformed}
use Rattle.file_numbers.specs.Standing.{stands_at}

-- ---- one byte after the other

ends : (bytes : List ℕ) → get_or bytes 0 0 < 128 → followed bytes ≡ 0
unfolding followed
ends [] h = refl
ends (b ∷ bytes) h = pick_false _ _ (lt-leb 128 b h)

goes_on : (bytes : List ℕ) → 128 ≤ get_or bytes 0 0 → followed bytes ≡ suc (followed (drop 1 bytes))
unfolding followed
goes_on [] h = absurd (omega arith)
goes_on (b ∷ bytes) h = pick_true _ _ (le-leb 128 b h)

next_group : (k : ℕ) (bytes : List ℕ) → groups (take (suc k) bytes) ≡ get_or bytes 0 0 % 128 + 128 * groups (take k (drop 1 bytes))
unfolding groups
next_group k [] = rw (take-nil {A = ℕ} k)
next_group k (b ∷ bytes) = refl

no_group : (bytes : List ℕ) → groups (take 0 bytes) ≡ 0
unfolding groups
no_group bytes = refl

-- ---- a list whose number has one, two, three or more groups

module _ (bytes : List ℕ) where
  second : get_or (drop 1 bytes) 0 0 ≡ get_or bytes 1 0
  second = get_or-drop 1 bytes 0 0

  third : get_or (drop 1 (drop 1 bytes)) 0 0 ≡ get_or bytes 2 0
  third = get_or-drop 1 (drop 1 bytes) 0 0 ∙ get_or-drop 1 bytes 1 0

  one_group : get_or bytes 0 0 < 128 → (followed bytes ≡ 0) × (value_of bytes ≡ get_or bytes 0 0)
  unfolding value_of
  one_group h =
      let e = ends bytes h in
      let v = next_group 0 bytes in
      let z = no_group (drop 1 bytes) in
      (e, rw e (v ∙ omega arith))

  module _ (on : 128 ≤ get_or bytes 0 0) (byte_0 : get_or bytes 0 0 < 256) where
    two_groups : get_or bytes 1 0 < 128 → (followed bytes ≡ 1) × (value_of bytes ≡ get_or bytes 0 0 - 128 + 128 * get_or bytes 1 0)
    unfolding value_of
    two_groups h =
        let e : followed bytes ≡ 1 = goes_on bytes on ∙ ap suc (ends (drop 1 bytes) (rw second h)) in
        let v = next_group 1 bytes in
        let w = next_group 0 (drop 1 bytes) in
        let z = no_group (drop 1 (drop 1 bytes)) in
        let s = second in
        (e, rw e (omega arith))

    module _ (on' : 128 ≤ get_or bytes 1 0) (byte_1 : get_or bytes 1 0 < 256) where
      twice : followed bytes ≡ suc (suc (followed (drop 1 (drop 1 bytes))))
      twice = goes_on bytes on ∙ ap suc (goes_on (drop 1 bytes) (rw second on'))

      three_groups : get_or bytes 2 0 < 128 → (followed bytes ≡ 2) × (value_of bytes ≡ get_or bytes 0 0 - 128 + 128 * (get_or bytes 1 0 - 128) + 16384 * get_or bytes 2 0)
      unfolding value_of
      three_groups h =
          let e : followed bytes ≡ 2 = twice ∙ ap (λ (n : ℕ). suc (suc n)) (ends (drop 1 (drop 1 bytes)) (rw third h)) in
          let u = next_group 2 bytes in
          let v = next_group 1 (drop 1 bytes) in
          let w = next_group 0 (drop 1 (drop 1 bytes)) in
          let z = no_group (drop 1 (drop 1 (drop 1 bytes))) in
          let s = second in
          let t = third in
          (e, rw e (omega arith))

-- ---- malformed numbers

module _ (bytes : List ℕ) where
  cut_off : length bytes ≤ followed bytes → malformed bytes ≡ true
  unfolding malformed
  cut_off h = rw (le-leb (length bytes) (followed bytes) h)

  too_large : followed bytes < length bytes → 65535 < value_of bytes → malformed bytes ≡ true
  unfolding malformed
  too_large l h = rw (lt-leb (length bytes) (followed bytes) l, lt-ltb 65535 (value_of bytes) h)

  zero_last : followed bytes < length bytes → value_of bytes ≤ 65535 → 0 < followed bytes → get_or bytes (followed bytes) 0 ≡ 0 → malformed bytes ≡ true
  unfolding malformed
  zero_last l h p z = rw (lt-leb (length bytes) (followed bytes) l, le-ltb 65535 (value_of bytes) h, lt-ltb 0 (followed bytes) p, eq-eqb (get_or bytes (followed bytes) 0) 0 z)

  zero_end : 0 < followed bytes → get_or bytes (followed bytes) 0 ≡ 0 → malformed bytes ≡ true
  zero_end p z = go (dec_le (length bytes) (followed bytes)) (dec_le (value_of bytes) 65535)
    where
      go : Dec (length bytes ≤ followed bytes) → Dec (value_of bytes ≤ 65535) → malformed bytes ≡ true
      go (yes h) d = cut_off h
      go (no h) (yes d) = zero_last (omega arith) d p z
      go (no h) (no d) = too_large (omega arith) (omega arith)

  formed_one : followed bytes < length bytes → value_of bytes ≤ 65535 → followed bytes ≡ 0 → malformed bytes ≡ false
  unfolding malformed
  formed_one l h z = rw (lt-leb (length bytes) (followed bytes) l, le-ltb 65535 (value_of bytes) h, le-ltb 0 (followed bytes) (omega arith))

  formed_more : followed bytes < length bytes → value_of bytes ≤ 65535 → 0 < followed bytes → (get_or bytes (followed bytes) 0 ≡ 0 → ⊥) → malformed bytes ≡ false
  unfolding malformed
  formed_more l h p z = rw (lt-leb (length bytes) (followed bytes) l, le-ltb 65535 (value_of bytes) h, lt-ltb 0 (followed bytes) p, ne_eqb (get_or bytes (followed bytes) 0) 0 z)

-- the byte that ends a number
last_group : (bytes : List ℕ) → get_or bytes (followed bytes) 0 < 128
unfolding followed
last_group [] = omega arith
last_group (b ∷ bytes) = go (dec_le 128 b) (last_group bytes)
  where
    go : Dec (128 ≤ b) → get_or bytes (followed bytes) 0 < 128 → get_or (b ∷ bytes) (pick (leb 128 b) (suc (followed bytes)) 0) 0 < 128
    go (yes h) r = rw (pick_true {b = leb 128 b} (suc (followed bytes)) 0 (le-leb 128 b h)) r
    go (no h) r = rw (pick_false {b = leb 128 b} (suc (followed bytes)) 0 (lt-leb 128 b (omega arith))) (omega arith)

-- groups whose last is not zero have a value
some_value : (k : ℕ) (bytes : List ℕ) → 1 ≤ get_or bytes k 0 → get_or bytes k 0 < 128 → 1 ≤ groups (take (suc k) bytes)
some_value zero bytes p q = let v = next_group 0 bytes in omega arith
some_value (suc k) bytes p q =
    let e : get_or (drop 1 bytes) k 0 ≡ get_or bytes (suc k) 0 = get_or-drop 1 bytes k 0 ∙ ap (λ (n : ℕ). get_or bytes n 0) (omega arith) in
    let r = some_value k (drop 1 bytes) (rw e p) (rw e q) in
    let v = next_group (suc k) bytes in
    omega arith

-- a number of four groups or more is malformed
module _ (bytes : List ℕ) (on : 128 ≤ get_or bytes 0 0) (on' : 128 ≤ get_or bytes 1 0) (on'' : 128 ≤ get_or bytes 2 0) where
  rest : List ℕ
  rest = drop 1 (drop 1 (drop 1 bytes))

  thrice : followed bytes ≡ suc (suc (suc (followed rest)))
  unfolding rest
  thrice = goes_on bytes on ∙ ap suc (goes_on (drop 1 bytes) (rw (second bytes) on') ∙ ap suc (goes_on (drop 1 (drop 1 bytes)) (rw (third bytes) on'')))

  large : 1 ≤ groups (take (suc (followed rest)) rest) → 65535 < value_of bytes
  unfolding rest value_of
  large h =
      let u = next_group (suc (suc (suc (followed rest)))) bytes in
      let v = next_group (suc (suc (followed rest))) (drop 1 bytes) in
      let w = next_group (suc (followed rest)) (drop 1 (drop 1 bytes)) in
      rw thrice (omega arith)

  last_byte : get_or bytes (followed bytes) 0 ≡ get_or rest (followed rest) 0
  unfolding rest
  last_byte =
      sym
      (get_or-drop 1 (drop 1 (drop 1 bytes)) (followed rest) 0
      ∙ get_or-drop 1 (drop 1 bytes) (1 + followed rest) 0
      ∙ get_or-drop 1 bytes (1 + (1 + followed rest)) 0
      ∙ ap (λ (n : ℕ). get_or bytes n 0) (let t = thrice in omega arith))

  too_many : malformed bytes ≡ true
  too_many = go (dec_le (length bytes) (followed bytes)) (dec_le 1 (get_or rest (followed rest) 0))
    where
      go : Dec (length bytes ≤ followed bytes) → Dec (1 ≤ get_or rest (followed rest) 0) → malformed bytes ≡ true
      go (yes h) d = cut_off bytes h
      go (no h) (yes d) = too_large bytes (omega arith) (large (some_value (followed rest) rest d (last_group rest)))
      go (no h) (no d) = let t = thrice in let z = last_byte in zero_end bytes (omega arith) (omega arith)

-- ---- what stands at a place

module _ (file : List ℕ) (at : ℕ) where
  bad : malformed (drop at file) ≡ true → None ≡ stands_at file at
  unfolding stands_at
  bad e = sym (pick_true _ _ e)

  good : (v k : ℕ) → malformed (drop at file) ≡ false → value_of (drop at file) ≡ v → followed (drop at file) ≡ k → Some (v, at + suc k) ≡ stands_at file at
  unfolding stands_at
  good v k e p q = rw (← p, ← q) (sym (pick_false _ _ e))

  long : length (drop at file) ≡ length file - at
  long = length-drop at file

  byte_at : (k n : ℕ) → at + k ≡ n → get_or (drop at file) k 0 ≡ get_or file n 0
  byte_at k n e = get_or-drop at file k 0 ∙ ap (λ (m : ℕ). get_or file m 0) e

  pub nothing_left : length file ≤ at → None ≡ stands_at file at
  nothing_left h = bad (cut_off (drop at file) (let l = long in omega arith))

  module _ (low : ℕ) (is_low : low ≡ get_or file at 0) (left : at < length file) where
    first_byte : get_or (drop at file) 0 0 ≡ low
    first_byte = byte_at 0 at (omega arith) ∙ sym is_low

    pub one_byte : low < 128 → Some (low, at + 1) ≡ stands_at file at
    one_byte h =
        let l = long in
        let b = first_byte in
        let g = one_group (drop at file) (omega arith) in
        good low 0 (formed_one (drop at file) (omega arith) (omega arith) g.0) (omega arith) g.0

    module _ (on : 128 ≤ low) (low_byte : low < 256) where
      pub cut_after_one : length file - at < 2 → None ≡ stands_at file at
      cut_after_one h =
          let l = long in
          let b = first_byte in
          let e = goes_on (drop at file) (omega arith) in
          bad (cut_off (drop at file) (omega arith))

      module _ (middle : ℕ) (is_middle : middle ≡ get_or file (at + 1) 0) (left' : 2 ≤ length file - at) where
        second_byte : get_or (drop at file) 1 0 ≡ middle
        second_byte = byte_at 1 (at + 1) refl ∙ sym is_middle

        pub zero_second : middle ≡ 0 → None ≡ stands_at file at
        zero_second z =
            let b = first_byte in
            let m = second_byte in
            let g = two_groups (drop at file) (omega arith) (omega arith) (omega arith) in
            bad (zero_end (drop at file) (omega arith) (rw g.0 (omega arith)))

        pub two_bytes : (middle ≡ 0 → ⊥) → middle < 128 → Some (low - 128 + 128 * middle, at + 2) ≡ stands_at file at
        two_bytes z h =
            let l = long in
            let b = first_byte in
            let m = second_byte in
            let g = two_groups (drop at file) (omega arith) (omega arith) (omega arith) in
            good _ 1 (formed_more (drop at file) (omega arith) (omega arith) (omega arith) (rw g.0 (λ q. omega arith))) (omega arith) g.0

        module _ (on' : 128 ≤ middle) (middle_byte : middle < 256) where
          pub cut_after_two : length file - at < 3 → None ≡ stands_at file at
          cut_after_two h =
              let l = long in
              let b = first_byte in
              let m = second_byte in
              let e = twice (drop at file) (omega arith) (omega arith) (omega arith) (omega arith) in
              bad (cut_off (drop at file) (omega arith))

          module _ (high : ℕ) (is_high : high ≡ get_or file (at + 2) 0) (left'' : 3 ≤ length file - at) where
            third_byte : get_or (drop at file) 2 0 ≡ high
            third_byte = byte_at 2 (at + 2) refl ∙ sym is_high

            pub zero_third : high ≡ 0 → None ≡ stands_at file at
            zero_third z =
                let b = first_byte in
                let m = second_byte in
                let t = third_byte in
                let g = three_groups (drop at file) (omega arith) (omega arith) (omega arith) (omega arith) (omega arith) in
                bad (zero_end (drop at file) (omega arith) (rw g.0 (omega arith)))

            pub high_third : 3 < high → None ≡ stands_at file at
            high_third h = go (dec_le 128 high)
              where
                go : Dec (128 ≤ high) → None ≡ stands_at file at
                go (yes p) =
                    let b = first_byte in
                    let m = second_byte in
                    let t = third_byte in
                    bad (too_many (drop at file) (omega arith) (omega arith) (omega arith))
                go (no p) =
                    let l = long in
                    let b = first_byte in
                    let m = second_byte in
                    let t = third_byte in
                    let g = three_groups (drop at file) (omega arith) (omega arith) (omega arith) (omega arith) (omega arith) in
                    bad (too_large (drop at file) (omega arith) (omega arith))

            pub three_bytes : (high ≡ 0 → ⊥) → high ≤ 3 → Some (low - 128 + 128 * (middle - 128) + 16384 * high, at + 3) ≡ stands_at file at
            three_bytes z h =
                let l = long in
                let b = first_byte in
                let m = second_byte in
                let t = third_byte in
                let g = three_groups (drop at file) (omega arith) (omega arith) (omega arith) (omega arith) (omega arith) in
                good _ 2 (formed_more (drop at file) (omega arith) (omega arith) (omega arith) (rw g.0 (λ q. omega arith))) (omega arith) g.0
