-- The bytes of a number are read as it, and no other bytes are. Assumes nothing.
use mathlib.Core.Path.{◌≡◌, refl, sym, ◌∙◌}
use mathlib.Core.Bool.{false}
use mathlib.Core.List.{List, [], ◌∷◌, ◌++◌}
use Prim.Native.Nat.{ℕ, ◌+◌, ◌/◌, ◌%◌, ◌≤◌, ◌<◌}
use native.Mathlib.Omega.{arith}
use native.Mathlib.Decide.{dec_le, ℕ_discrete}
use lib.ListN.{length, get_or, drop}
use lib.Seq.{drop-cons}
use borrow.Author.Tests.{lt-ltb, le-ltb}
use Rattle.laws.proofs.Choice.{pick_true, pick_false, true_not_false}
use Rattle.std.specs.Prelude.{None, Some}
use Rattle.file_numbers.specs.Numbers.{value_of, rest_of, malformed}
use Rattle.file_numbers.specs.Standing.{stands_at}
use Rattle.file_numbers.proofs.Groups.{nothing_left, one_byte, cut_after_one, zero_second, two_bytes, cut_after_two, zero_third, high_third, three_bytes}
use Rattle.file_loader.proofs.Several.{number_bad, number_good}
use Rattle.file_bytes.specs.Bytes.{bytes_of}
use Rattle.file_bytes.proofs.Below.{AllBelow}

-- ---- a number's bytes, by how many there are

pub one_of : (n : ℕ) → n < 128 → bytes_of n ≡ n ∷ []
unfolding bytes_of
one_of n h = pick_true _ _ (lt-ltb n 128 h)

pub two_of : (n : ℕ) → 128 ≤ n → n < 16384 → bytes_of n ≡ (128 + n % 128) ∷ (n / 128) ∷ []
unfolding bytes_of
two_of n h k = pick_false _ _ (le-ltb n 128 h) ∙ pick_true _ _ (lt-ltb n 16384 k)

pub three_of : (n : ℕ) → 16384 ≤ n → bytes_of n ≡ (128 + n % 128) ∷ (128 + n / 128 % 128) ∷ (n / 16384) ∷ []
unfolding bytes_of
three_of n h = pick_false _ _ (le-ltb n 128 (omega arith)) ∙ pick_false _ _ (le-ltb n 16384 h)

-- at least one, and at most three
pub some_bytes : (n : ℕ) → (1 ≤ length (bytes_of n)) × (length (bytes_of n) ≤ 3)
some_bytes n = go (dec_le 128 n) (dec_le 16384 n)
  where
    go : Dec (128 ≤ n) → Dec (16384 ≤ n) → (1 ≤ length (bytes_of n)) × (length (bytes_of n) ≤ 3)
    go (no h) d = rw (one_of n (omega arith)) (omega arith, omega arith)
    go (yes h) (no d) = rw (two_of n h (omega arith)) (omega arith, omega arith)
    go (yes h) (yes d) = rw (three_of n d) (omega arith, omega arith)

-- a smaller number takes no more bytes
pub fewer_bytes : (n m : ℕ) → n ≤ m → length (bytes_of n) ≤ length (bytes_of m)
fewer_bytes n m h = go (dec_le 128 n) (dec_le 16384 n)
  where
    more : 16384 ≤ n → length (bytes_of n) ≤ length (bytes_of m)
    more l = rw (three_of n l, three_of m (omega arith)) (omega arith)

    some : 128 ≤ n → n < 16384 → Dec (16384 ≤ m) → length (bytes_of n) ≤ length (bytes_of m)
    some l k (yes d) = rw (two_of n l k, three_of m d) (omega arith)
    some l k (no d) = rw (two_of n l k, two_of m (omega arith) (omega arith)) (omega arith)

    go : Dec (128 ≤ n) → Dec (16384 ≤ n) → length (bytes_of n) ≤ length (bytes_of m)
    go (no l) d = let s = some_bytes m in rw (one_of n (omega arith)) s.0
    go (yes l) (no d) = some l (omega arith) (dec_le 16384 m)
    go (yes l) (yes d) = more d

-- ---- they are read as the number

-- a number that stands before the rest of a file
pub record Read (n : ℕ) (bytes rest : List ℕ) : Type 0 where
  pub formed : malformed bytes ≡ false
  pub value : value_of bytes ≡ n
  pub after : rest_of bytes ≡ rest

pub reads_back : (n : ℕ) (rest : List ℕ) → n ≤ 65535 → Read n (bytes_of n ++ rest) rest
reads_back n rest most = go (dec_le 128 n) (dec_le 16384 n)
  where
    by : (bytes : List ℕ) (v next : ℕ) → Some (v, next) ≡ stands_at bytes 0 → v ≡ n → drop next bytes ≡ rest → Read n bytes rest
    by bytes v next e p q = let s = number_good bytes 0 v next e in record { formed = s.formed; value = s.value ∙ p; after = s.rest ∙ q }

    go : Dec (128 ≤ n) → Dec (16384 ≤ n) → Read n (bytes_of n ++ rest) rest
    go (no h) d = rw (one_of n (omega arith)) (by (n ∷ rest) n 1 (one_byte (n ∷ rest) 0 n refl (omega arith) (omega arith)) refl refl)
    go (yes h) (no d) =
        rw (two_of n h (omega arith))
        (by ((128 + n % 128) ∷ (n / 128) ∷ rest) _ 2
        (two_bytes ((128 + n % 128) ∷ (n / 128) ∷ rest) 0 (128 + n % 128) refl (omega arith) (omega arith) (omega arith) (n / 128) refl (omega arith) (λ z. omega arith) (omega arith))
        (omega arith) refl)
    go (yes h) (yes d) =
        rw (three_of n d)
        (by ((128 + n % 128) ∷ (128 + n / 128 % 128) ∷ (n / 16384) ∷ rest) _ 3
        (three_bytes ((128 + n % 128) ∷ (128 + n / 128 % 128) ∷ (n / 16384) ∷ rest) 0 (128 + n % 128) refl (omega arith) (omega arith) (omega arith) (128 + n / 128 % 128) refl (omega arith) (omega arith) (omega arith) (n / 16384) refl (omega arith) (λ z. omega arith) (omega arith))
        (omega arith) refl)

-- ---- and no other bytes are

-- the bytes of a number that are given one by one
ones : (n : ℕ) (bytes : List ℕ) → n < 128 → 0 < length bytes → get_or bytes 0 0 ≡ n → bytes ≡ bytes_of n ++ drop 1 bytes
ones n bytes h l e = rw (one_of n h) (drop-cons bytes 0 0 l ∙ rw e)

twos : (n : ℕ) (bytes : List ℕ) → 128 ≤ n → n < 16384 → 2 ≤ length bytes → get_or bytes 0 0 ≡ 128 + n % 128 → get_or bytes 1 0 ≡ n / 128 → bytes ≡ bytes_of n ++ drop 2 bytes
twos n bytes h k l e f = rw (two_of n h k) (drop-cons bytes 0 0 (omega arith) ∙ rw (e, drop-cons bytes 1 0 (omega arith), f))

threes : (n : ℕ) (bytes : List ℕ) → 16384 ≤ n → 3 ≤ length bytes → get_or bytes 0 0 ≡ 128 + n % 128 → get_or bytes 1 0 ≡ 128 + n / 128 % 128 → get_or bytes 2 0 ≡ n / 16384 → bytes ≡ bytes_of n ++ drop 3 bytes
threes n bytes h l e f g = rw (three_of n h) (drop-cons bytes 0 0 (omega arith) ∙ rw (e, drop-cons bytes 1 0 (omega arith), f, drop-cons bytes 2 0 (omega arith), g))

module _ (bytes : List ℕ) (small : AllBelow 256 bytes) (formed : malformed bytes ≡ false) where
  not_bad : {A : Type 0} → None ≡ stands_at bytes 0 → A
  not_bad e = true_not_false (sym (number_bad bytes 0 e) ∙ formed)

  -- a value that is read, and the bytes that it is
  found : (v next : ℕ) → Some (v, next) ≡ stands_at bytes 0 → bytes ≡ bytes_of v ++ drop next bytes → bytes ≡ bytes_of (value_of bytes) ++ rest_of bytes
  found v next e p = let s = number_good bytes 0 v next e in rw (s.value, s.rest) p

  pub only_bytes : bytes ≡ bytes_of (value_of bytes) ++ rest_of bytes
  only_bytes = go (dec_le (length bytes) 0) (dec_le 128 (get_or bytes 0 0)) (dec_le 2 (length bytes)) (ℕ_discrete (get_or bytes 1 0) 0) (dec_le 128 (get_or bytes 1 0)) (dec_le 3 (length bytes)) (ℕ_discrete (get_or bytes 2 0) 0) (dec_le (get_or bytes 2 0) 3)
    where
      low : get_or bytes 0 0 < 256
      low = small.at 0

      middle : get_or bytes 1 0 < 256
      middle = small.at 1

      go : Dec (length bytes ≤ 0) → Dec (128 ≤ get_or bytes 0 0) → Dec (2 ≤ length bytes) → Dec (get_or bytes 1 0 ≡ 0) → Dec (128 ≤ get_or bytes 1 0) → Dec (3 ≤ length bytes) → Dec (get_or bytes 2 0 ≡ 0) → Dec (get_or bytes 2 0 ≤ 3)
          → bytes ≡ bytes_of (value_of bytes) ++ rest_of bytes
      go (yes z) a b c d e f g = not_bad (nothing_left bytes 0 z)
      go (no z) (no a) b c d e f g = found _ 1 (one_byte bytes 0 _ refl (omega arith) (omega arith)) (ones _ bytes (omega arith) (omega arith) refl)
      go (no z) (yes a) (no b) c d e f g = not_bad (cut_after_one bytes 0 _ refl (omega arith) a low (omega arith))
      go (no z) (yes a) (yes b) (yes c) d e f g = not_bad (zero_second bytes 0 _ refl (omega arith) a low _ refl (omega arith) c)
      go (no z) (yes a) (yes b) (no c) (no d) e f g =
          let l = low in
          found _ 2 (two_bytes bytes 0 _ refl (omega arith) a l _ refl (omega arith) c (omega arith))
          (twos _ bytes (omega arith) (omega arith) b (omega arith) (omega arith))
      go (no z) (yes a) (yes b) (no c) (yes d) (no e) f g = not_bad (cut_after_two bytes 0 _ refl (omega arith) a low _ refl (omega arith) d middle (omega arith))
      go (no z) (yes a) (yes b) (no c) (yes d) (yes e) (yes f) g = not_bad (zero_third bytes 0 _ refl (omega arith) a low _ refl (omega arith) d middle _ refl (omega arith) f)
      go (no z) (yes a) (yes b) (no c) (yes d) (yes e) (no f) (no g) = not_bad (high_third bytes 0 _ refl (omega arith) a low _ refl (omega arith) d middle _ refl (omega arith) (omega arith))
      go (no z) (yes a) (yes b) (no c) (yes d) (yes e) (no f) (yes g) =
          let l = low in
          let m = middle in
          found _ 3 (three_bytes bytes 0 _ refl (omega arith) a l _ refl (omega arith) d m _ refl (omega arith) f g)
          (threes _ bytes (omega arith) e (omega arith) (omega arith) (omega arith))
