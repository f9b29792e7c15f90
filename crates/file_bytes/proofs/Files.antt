-- An accepted file, or one whose numbers alone are, is the bytes of its numbers, and nothing else. Assumes nothing.
use mathlib.Core.Path.{◌≡◌, refl, sym, ap, ◌∙◌}
use mathlib.Core.Bool.{false}
use mathlib.Core.List.{List, [], ◌∷◌, ◌++◌, append-nil}
use Prim.Native.Nat.{ℕ, zero, suc, ◌*◌}
use native.Mathlib.Omega.{arith}
use lib.Dec.{ltb}
use lib.ListN.{length, get_or}
use borrow.Author.Tests.{ltb-false}
use Rattle.tree.specs.Sizes.{node_cells}
use Rattle.laws.proofs.Choice.{true_not_false}
use Rattle.file_numbers.specs.Numbers.{followed, rest_of}
use Rattle.file_loader.specs.Several.{Numbers, broken, numbers, numbers_of, is_broken, values_in, bytes_after}
use Rattle.file_loader.specs.Files.{header, context_in, count_in, body, cells_in, refusal2, file_refusal}
use Rattle.file_loader.proofs.Several.{numbers_length, Taken, taken, apart}
use Rattle.file_loader.proofs.Files.{Passes, file_passes}
use Rattle.file_bytes.specs.Bytes.{all_bytes}
use Rattle.file_bytes.proofs.Below.{AllBelow, below_after}
use Rattle.file_bytes.proofs.Several.{all_append, only_numbers}

-- numbers none of which is malformed
formed_is : (ns : Numbers) → is_broken ns ≡ false → ns ≡ numbers (values_in ns) (bytes_after ns)
unfolding is_broken values_in bytes_after
formed_is broken e = true_not_false e
formed_is (numbers vs bytes) e = refl

-- what follows them is of bytes too
below_numbers : {most : ℕ} (k : ℕ) (bytes vs r : List ℕ) → AllBelow most bytes → numbers_of k bytes ≡ numbers vs r → AllBelow most r
unfolding numbers_of rest_of
below_numbers zero bytes vs r small e = let b : bytes ≡ r = cc in rw b at small
below_numbers {most} (suc k) bytes vs r small e = go (apart k bytes vs r e) (λ ws p. below_numbers k (rest_of bytes) ws r (below_after (suc (followed bytes)) bytes small) p)
  where
    go : Taken bytes k vs r → ((ws : List ℕ) → numbers_of k (rest_of bytes) ≡ numbers ws r → AllBelow most r) → AllBelow most r
    go (taken ws m p q) ih = ih ws p

two_values : (vs : List ℕ) → length vs ≡ 2 → vs ≡ get_or vs 0 0 ∷ get_or vs 1 0 ∷ []
two_values [] e = absurd (omega arith)
two_values (x ∷ []) e = absurd (omega arith)
two_values (x ∷ y ∷ []) e = refl
two_values (x ∷ y ∷ z ∷ vs) e = absurd (omega arith)

no_length : (bs : List ℕ) → ltb 0 (length bs) ≡ false → bs ≡ []
no_length [] e = refl
no_length (b ∷ bs) e = absurd (let h = ltb-false 0 (length (b ∷ bs)) e in omega arith)

module _ (file : List ℕ) (lent : ℕ) (p : Passes file lent) (small : AllBelow 256 file) where
  header_is : numbers_of 2 file ≡ numbers (context_in file ∷ count_in file ∷ []) (bytes_after (header file))
  unfolding header context_in count_in refusal2
  header_is =
      let e = formed_is (header file) p.headed in
      let l = numbers_length 2 file (values_in (header file)) (bytes_after (header file)) e in
      e ∙ ap (λ (vs : List ℕ). numbers vs (bytes_after (header file))) (two_values (values_in (header file)) l)

  body_is : numbers_of (node_cells * count_in file) (bytes_after (header file)) ≡ numbers (cells_in file) []
  unfolding body cells_in
  body_is = formed_is (body file) p.formed ∙ ap (numbers (cells_in file)) (no_length (bytes_after (body file)) p.ended)

  pub whole_numbers : file ≡ all_bytes (context_in file ∷ count_in file ∷ cells_in file)
  whole_numbers =
      let h = only_numbers 2 file _ _ small header_is in
      let b = only_numbers (node_cells * count_in file) (bytes_after (header file)) _ _ (below_numbers 2 file _ _ small header_is) body_is in
      h ∙ ap (λ (r : List ℕ). all_bytes (context_in file ∷ count_in file ∷ []) ++ r) (b ∙ append-nil (all_bytes (cells_in file))) ∙ sym (all_append (context_in file ∷ count_in file ∷ []) (cells_in file))

pub whole_file : (file : List ℕ) (lent : ℕ) → file_refusal file lent ≡ 0 → AllBelow 256 file → file ≡ all_bytes (context_in file ∷ count_in file ∷ cells_in file)
whole_file file lent ok small = whole_numbers file lent (file_passes file lent ok).0 small
