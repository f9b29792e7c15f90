-- A node that is passed quickly: three numbers of a byte each, and three more. Assumes nothing.
use mathlib.Core.Path.{◌≡◌, refl, ap, ◌∙◌}
use mathlib.Core.List.{List}
use Prim.Native.Nat.{ℕ, ◌+◌, ◌≤◌, ◌<◌}
use native.Mathlib.Omega.{arith}
use lib.ListN.{length, get_or}
use Rattle.tree.specs.Sizes.{node_cells}
use Rattle.std.specs.Prelude.{Option, None, Some, IfSome}
use Rattle.file_numbers.specs.Standing.{stands_at}
use Rattle.tree_source.specs.Source.{value_in, next_in, value_at, next_at}
use Rattle.tree_source.proofs.Near.{small_form, small_attributes, small_detail}
use Rattle.file_loader.specs.Reads.{Passed}
use Rattle.file_loader.proofs.Several.{read_none, read_next}

-- a number that has a place after it
skipped : (file : List ℕ) (at next : ℕ) → next ≡ next_at file at → 1 ≤ next → Some (value_at file at, next) ≡ stands_at file at
unfolding value_in next_in
skipped file at next e n = go (stands_at file at) refl
  where
    go : (x : Option (ℕ × ℕ)) → stands_at file at ≡ x → Some (value_at file at, next) ≡ stands_at file at
    go None p = absurd (let z = e ∙ ap next_in p in omega arith)
    go (Some (v, m)) p = rw (e, p)

module _ (file : List ℕ) (at a b c : ℕ) (room : at + 12 ≤ length file) (is_a : a ≡ get_or file at 0) (is_b : b ≡ get_or file (at + 1) 0) (is_c : c ≡ get_or file (at + 2) 0) (small : a + b + c ≤ 127) where
  pub quick_passed : (s y e : ℕ) → s ≡ next_at file (at + 3) → at + 3 < s → y ≡ next_at file s → s < y → e ≡ next_at file y → y < e → Passed file at node_cells (Some e)
  quick_passed s y e is_s ns is_y ny is_e ne =
      let r = read_next 2 file at _ _ _ (read_next 1 file at _ _ _ (read_next 0 file at _ _ _ (read_none file at) (small_form file at a b c room is_a is_b is_c small)) (small_attributes file at a b c room is_a is_b is_c small)) (small_detail file at a b c room is_a is_b is_c small) in
      (read_next 5 file at _ _ _ (read_next 4 file at _ _ _ (read_next 3 file at _ _ _ r (skipped file (at + 3) s is_s (omega arith))) (skipped file s y is_y (omega arith))) (skipped file y e is_e (omega arith))).0

  -- the last of them, if there is one
  pub quick_last : (s y : ℕ) → s ≡ next_at file (at + 3) → at + 3 < s → y ≡ next_at file s → s < y → (r : Option ℕ) → IfSome r (λ e. (e ≡ next_at file y) × (y < e) × (e ≤ y + 3)) → IfSome r (λ e. Passed file at node_cells (Some e))
  quick_last s y is_s ns is_y ny None h = tt
  quick_last s y is_s ns is_y ny (Some e) h = quick_passed s y e is_s ns is_y ny h.0 h.1
