-- The order on files is total, and equal only for equal files. Assumes nothing.
use mathlib.Core.Path.{◌≡◌, refl, sym, ap, ◌∙◌}
use mathlib.Core.List.{List}
use mathlib.Core.Logic.{◌⊎◌, inl, inr}
use Prim.Native.Nat.{ℕ}
use native.Mathlib.Omega.{arith}
use lib.ListN.{length}
use borrow.Author.Tests.{eq-eqb, ne_eqb}
use native.Mathlib.Decide.{ℕ_discrete}
use Rattle.file_loader.proofs.Replied.{said_ok}
use Rattle.laws.proofs.Choice.{pick_true, pick_false}
use Rattle.file_loader.specs.Files.{context_in, count_in, cells_in}
use Rattle.file_loader.proofs.Files.{accepted_cells}
use Rattle.file_bytes.proofs.Files.{whole_file}
use Rattle.std.specs.declared.cmp.Ordering.{Ordering}
use Rattle.std.specs.declared.cmp.Ordering.TheVariants.{Less, Equal, Greater}
use Rattle.std.specs.Prelude.{Ok}
use Rattle.file_order.specs.Orders.{most_cells, key_of, in_order, checks_of, compare_refusal, compared}
use Rattle.file_order.specs.Statement.{OfBytes, IsBefore, TotalOrder}
use Rattle.file_order.proofs.Checks.{both_accepted}
use Rattle.file_order.proofs.Laws.{equal_lists, list_self, opposite, turned, before_before}

-- ---- an answer that is no refusal

record Accepts (first second : List ℕ) (r : Ordering) : Type 0 where
  one : checks_of first ≡ 0
  two : checks_of second ≡ 0
  is : in_order (key_of first) (key_of second) ≡ r

accepts : (first second : List ℕ) (r : Ordering) → compared first second ≡ Ok r → Accepts first second r
unfolding compared compare_refusal
accepts first second r e = go (ℕ_discrete (checks_of first) 0) (said_ok _ _ _ (sym e))
  where
    go : Dec (checks_of first ≡ 0) → (compare_refusal first second ≡ 0) × (r ≡ in_order (key_of first) (key_of second)) → Accepts first second r
    go (yes z) s = record { one = z; two = sym (pick_true (checks_of second) (checks_of first) (eq-eqb _ 0 z)) ∙ s.0; is = sym s.1 }
    go (no n) s = absurd (n (sym (pick_false (checks_of second) (checks_of first) (ne_eqb _ 0 n)) ∙ s.0))

answers : (first second : List ℕ) (r : Ordering) → Accepts first second r → compared first second ≡ Ok r
answers first second r a = sym (both_accepted first second a.one a.two r (sym a.is))

-- ---- equal files

same_keys : (first second : List ℕ) → OfBytes first → OfBytes second → checks_of first ≡ 0 → checks_of second ≡ 0 → key_of first ≡ key_of second → first ≡ second
unfolding key_of checks_of
same_keys first second b c ok fine e =
    let p = accepted_cells first most_cells ok in
    let q = accepted_cells second most_cells fine in
    let cells : cells_in first ≡ cells_in second = cc in
    let context : context_in first ≡ context_in second = cc in
    let l = ap length cells in
    let m = p.1 in
    let n = q.1 in
    let count : count_in first ≡ count_in second = omega arith in
    whole_file first most_cells ok (record { at = b.byte })
    ∙ rw (cells, context, count) (sym (whole_file second most_cells fine (record { at = c.byte })))

equal_only : (first second : List ℕ) → OfBytes first → OfBytes second → compared first second ≡ Ok Equal → first ≡ second
equal_only first second b c e =
    let a = accepts first second Equal e in
    same_keys first second b c a.one a.two (equal_lists _ _ a.is)

turn : (first second : List ℕ) (r : Ordering) → compared first second ≡ Ok r → compared second first ≡ Ok (opposite r)
turn first second r e =
    let a = accepts first second r e in
    answers second first (opposite r) (record { one = a.two; two = a.one; is = turned (key_of first) (key_of second) ∙ ap opposite a.is })

transitive : (first second third : List ℕ) → IsBefore first second → IsBefore second third → IsBefore first third
transitive first second third e f =
    let a = accepts first second Less e in
    let b = accepts second third Less f in
    answers first third Less (record { one = a.one; two = b.two; is = before_before _ _ _ a.is b.is })

total : (first second : List ℕ) → OfBytes first → OfBytes second → checks_of first ≡ 0 → checks_of second ≡ 0 → IsBefore first second ⊎ ((first ≡ second) ⊎ IsBefore second first)
total first second b c ok fine = go (in_order (key_of first) (key_of second)) refl
  where
    is : (r : Ordering) → in_order (key_of first) (key_of second) ≡ r → compared first second ≡ Ok r
    is r e = answers first second r (record { one = ok; two = fine; is = e })

    go : (r : Ordering) → in_order (key_of first) (key_of second) ≡ r → IsBefore first second ⊎ ((first ≡ second) ⊎ IsBefore second first)
    go Less e = inl (is Less e)
    go Equal e = inr (inl (equal_only first second b c (is Equal e)))
    go Greater e = inr (inr (turn first second Greater (is Greater e)))

pub promise : TotalOrder
promise =
    record {
      equal_only = equal_only;
      equal_self = λ file ok. answers file file Equal (record { one = ok; two = ok; is = list_self (key_of file) });
      before_after = λ first second e. turn first second Less e;
      after_before = λ first second e. turn first second Greater e;
      transitive = transitive;
      total = total;
    }
