-- Several numbers as bytes: they are read as those numbers, and no other bytes are. Assumes nothing.
use mathlib.Core.Path.{◌≡◌, refl, ap, ◌∙◌}
use mathlib.Core.List.{List, [], ◌∷◌, ◌++◌, append_assoc, append-nil}
use Prim.Native.Nat.{ℕ, zero, suc, ◌*◌, ◌≤◌, ◌<◌}
use native.Mathlib.Omega.{arith}
use lib.ListN.{length, get_or, take, drop, length-append, take-append-drop}
use lib.Seq.{take-suc}
use Rattle.file_numbers.specs.Numbers.{followed, value_of, rest_of}
use Rattle.file_loader.specs.Several.{numbers, prepend, numbers_of}
use Rattle.file_loader.proofs.Several.{one_more, Taken, taken, apart}
use Rattle.file_bytes.specs.Bytes.{bytes_of, all_bytes}
use Rattle.file_bytes.proofs.Below.{AllBelow, below_rest, below_after}
use Rattle.file_bytes.proofs.Numbers.{some_bytes, reads_back, only_bytes}

-- ---- the bytes of several numbers

pub all_append : (xs ys : List ℕ) → all_bytes (xs ++ ys) ≡ all_bytes xs ++ all_bytes ys
unfolding all_bytes
all_append [] ys = refl
all_append (x ∷ xs) ys = rw (all_append xs ys, append_assoc)

pub all_most : (ns : List ℕ) → length (all_bytes ns) ≤ 3 * length ns
unfolding all_bytes
all_most [] = omega arith
all_most (n ∷ ns) =
    let r = all_most ns in
    let b = some_bytes n in
    simp length-append (omega (arith, b.1))

-- one number more
pub all_next : (ns : List ℕ) (j : ℕ) → j < length ns → all_bytes (take (suc j) ns) ≡ all_bytes (take j ns) ++ bytes_of (get_or ns j 0)
unfolding all_bytes
all_next ns j h = ap all_bytes (take-suc ns j 0 h) ∙ all_append (take j ns) (get_or ns j 0 ∷ []) ∙ rw append-nil

-- the first of them take no more bytes than all
pub part_long : (ns : List ℕ) (j : ℕ) → length (all_bytes (take j ns)) ≤ length (all_bytes ns)
part_long ns j =
    let e = ap (λ (xs : List ℕ). length (all_bytes xs)) (take-append-drop j ns) in
    let f = ap length (all_append (take j ns) (drop j ns)) ∙ length-append (all_bytes (take j ns)) (all_bytes (drop j ns)) in
    omega arith

-- ---- they are read as these numbers

pub all_read : (ns rest : List ℕ) → AllBelow 65536 ns → numbers_of (length ns) (all_bytes ns ++ rest) ≡ numbers ns rest
unfolding all_bytes numbers_of prepend
all_read [] rest small = refl
all_read (n ∷ ns) rest small =
    let s : n < 65536 = small.at 0 in
    let e = append_assoc (bytes_of n) (all_bytes ns) rest in
    let r = reads_back n (all_bytes ns ++ rest) (omega arith) in
    rw e (one_more (length ns) _ r.formed ∙ rw (r.value, r.after, all_read ns rest (below_rest small)))

-- ---- and no other bytes are

pub only_numbers : (k : ℕ) (bytes vs r : List ℕ) → AllBelow 256 bytes → numbers_of k bytes ≡ numbers vs r → bytes ≡ all_bytes vs ++ r
unfolding all_bytes numbers_of rest_of
only_numbers zero bytes vs r small e =
    let a : vs ≡ [] = cc in
    let b : bytes ≡ r = cc in
    rw (a, b)
only_numbers (suc k) bytes vs r small e = go (apart k bytes vs r e) (λ ws p. only_numbers k (rest_of bytes) ws r (below_after (suc (followed bytes)) bytes small) p)
  where
    go : Taken bytes k vs r → ((ws : List ℕ) → numbers_of k (rest_of bytes) ≡ numbers ws r → rest_of bytes ≡ all_bytes ws ++ r) → bytes ≡ all_bytes vs ++ r
    go (taken ws m p q) ih = only_bytes bytes small m ∙ ap (λ (rest : List ℕ). bytes_of (value_of bytes) ++ rest) (ih ws p) ∙ rw (q, append_assoc)
