-- Entries in a buffer, and what their checks say of each. Assumes nothing.
use mathlib.Core.Path.{◌≡◌}
use mathlib.Core.Bool.{true, false}
use mathlib.Core.List.{List, [], ◌∷◌}
use Prim.Native.Nat.{ℕ, zero, suc, ◌*◌, ◌-◌, ◌≤◌, ◌<◌}
use native.Mathlib.Omega.{arith}
use borrow.Author.Tests.{eq-eqb, ne_eqb}
use Rattle.laws.specs.Choice.{is_one_of}
use Rattle.laws.proofs.Choice.{or_here, or_next}
use Rattle.row_open.specs.declared.Entry.{Entry}
use Rattle.tree.specs.Sizes.{node_cells}
use Rattle.row_open.specs.Open.{entry_at, entries_in, nodes_of, last_binary}
use Rattle.row_open.specs.Steps.{Within, Room}
use Rattle.row_open.specs.Steps as steps

module _ (numbers : List ℕ) (n : ℕ) where
  -- the last entry, and those before it
  pub last_entry : 0 < n → entries_in n numbers ≡ entry_at numbers (n - 1) ∷ entries_in (n - 1) numbers
  unfolding entries_in
  last_entry h = go n h
    where
      go : (m : ℕ) → 0 < m → entries_in m numbers ≡ entry_at numbers (m - 1) ∷ entries_in (m - 1) numbers
      go zero h = absurd (omega arith)
      go (suc m) h = let e : suc m - 1 ≡ m = omega arith in rw e

  pub no_entry : n ≡ 0 → entries_in n numbers ≡ []
  unfolding entries_in
  no_entry e = rw e

-- ---- is_entered

module _ (numbers : List ℕ) (n node : ℕ) (some : 0 < n) (e : Entry) (is : e ≡ entry_at numbers (n - 1)) where
  here : (entry_at numbers (n - 1)).node ≡ node → is_one_of (nodes_of (entries_in n numbers)) node ≡ true
  here h = rw (last_entry numbers n some) (or_here _ (eq-eqb _ _ h))

  pub entered_here : e.node ≡ node → is_one_of (nodes_of (entries_in n numbers)) node ≡ true
  entered_here h = here (rw is at h)

  pub entered_next : (e.node ≡ node → ⊥) → is_one_of (nodes_of (entries_in n numbers)) node ≡ is_one_of (nodes_of (entries_in (n - 1) numbers)) node
  entered_next h = rw (last_entry numbers n some) (or_next _ (ne_eqb _ _ (rw is at h)))

pub entered_none : (numbers : List ℕ) (n node : ℕ) → n ≤ 0 → is_one_of (nodes_of (entries_in n numbers)) node ≡ false
entered_none numbers n node h = rw (no_entry numbers n (omega arith))

-- ---- what `vary` asks

module _ {n : ℕ} where
  pub within_first : {e : Entry} {es : List Entry} → Within n (e ∷ es) → (1 ≤ e.node) × (node_cells * e.node ≤ n) × (e.highest ≤ last_binary)
  within_first (steps.entry a b c w) = (a, b, c)

  pub within_rest : {e : Entry} {es : List Entry} → Within n (e ∷ es) → Within n es
  within_rest (steps.entry a b c w) = w

module _ {n : ℕ} (numbers : List ℕ) (entered : ℕ) (some : 0 < entered) (w : Within n (entries_in entered numbers)) where
  all_within : Within n (entry_at numbers (entered - 1) ∷ entries_in (entered - 1) numbers)
  all_within = rw (last_entry numbers entered some) at w

  pub last_within : (e : Entry) → e ≡ entry_at numbers (entered - 1) → (1 ≤ e.node) × (node_cells * e.node ≤ n) × (e.highest ≤ last_binary)
  last_within e is = rw is (within_first all_within)

  pub others_within : (m : ℕ) → n ≡ m → Within m (entries_in (entered - 1) numbers)
  others_within m e = rw e at (within_rest all_within)

pub less_room : {entered count n t r a : ℕ} → Room entered count n t r a → {t' r' a' : ℕ} → t ≡ t' → r ≡ r' → a ≡ a' → Room (entered - 1) count n t' r' a'
less_room room e f g = record { entries = omega (arith, room.entries); nodes = rw e at room.nodes; wide = rw f at room.wide; told = rw g at room.told }
