-- Laws of a text that grows. Assumes nothing.
use mathlib.Core.Path.{◌≡◌, refl, sym, ap, ◌∙◌}
use mathlib.Core.List.{List, [], ◌∷◌, ◌++◌}
use Prim.Native.Nat.{ℕ, suc, ◌+◌, ◌≤◌, ◌<◌, max}
use native.Mathlib.Omega.{arith}
use native.Mathlib.Decide.{dec_le}
use lib.ListN.{length, take, drop, set, length-append, length-set, length-take}
use lib.Seq.{sets, length-sets, sets-eq, set_out, take_at, length-take-le}
use Rattle.laws.proofs.Lists.{sets_append}
use Rattle.text.specs.Growth.{Grown, Added}

-- ---- as far as there is room

sets_out : (l : List ℕ) (i : ℕ) (more : List ℕ) → length l ≤ i → sets l i more ≡ l
sets_out l i [] h = refl
sets_out l i (n ∷ more) h = rw (set_out l i n h) (sets_out l (suc i) more (omega arith))

-- by nothing
pub grown_none : (before : List ℕ) (end : ℕ) → Grown before end [] before end
grown_none before end = record { cells = refl; ends = omega arith; room = refl }

-- by a byte
pub grown_byte : (before : List ℕ) (end byte : ℕ) → end < length before → Grown before end (byte ∷ []) (set before end byte) (end + 1)
grown_byte before end byte h = record { cells = refl; ends = omega arith; room = length-set before end byte }

-- by a byte for which there is no room
pub grown_full : (before : List ℕ) (end byte : ℕ) → length before ≤ end → Grown before end (byte ∷ []) before end
grown_full before end byte h = record { cells = sym (set_out before end byte h); ends = omega arith; room = refl }

-- and then by more
pub grown_more : {before after last : List ℕ} {end mid r : ℕ} {first second : List ℕ} → Grown before end first after mid → Grown after mid second last r → Grown before end (first ++ second) last r
grown_more {before} {after} {last} {end} {mid} {r} {first} {second} a b = go (dec_le (end + length first) (max end (length before)))
  where
    joined : length (first ++ second) ≡ length first + length second
    joined = length-append first second

    -- all of the first part is there
    all : end + length first ≤ max end (length before) → Grown before end (first ++ second) last r
    all h =
        let e : mid ≡ end + length first = omega (arith, a.ends) in
        record {
          cells = b.cells ∙ rw a.cells (sym (sets_append first second before end mid e));
          ends = omega (arith, a.room, b.ends, joined);
          room = b.room ∙ a.room;
        }

    -- or there is no room for more
    full : max end (length before) < end + length first → Grown before end (first ++ second) last r
    full h =
        let e : mid ≡ max end (length before) = omega (arith, a.ends) in
        record {
          cells =
              b.cells ∙ sets_out after mid second (omega (arith, a.room)) ∙ a.cells
              ∙ sym (sets_append first second before end (end + length first) refl ∙ sets_out (sets before end first) (end + length first) second (rw length-sets (omega arith)));
          ends = omega (arith, a.room, b.ends, joined);
          room = b.room ∙ a.room;
        }

    go : Dec (end + length first ≤ max end (length before)) → Grown before end (first ++ second) last r
    go (yes h) = all h
    go (no h) = full (omega arith)

-- ---- where there is room for all

pub fits : {before after more : List ℕ} {end r : ℕ} → end + length more ≤ length before → Grown before end more after r → Added before end more after r
fits {before} {after} {more} {end} {r} h g =
    let e : r ≡ end + length more = omega (arith, g.ends) in
    let l : length (take end before ++ more) ≡ r = rw (length-append, length-take-le end before (omega arith)) (sym e) in
    record {
      text = ap (take r) (g.cells ∙ sets-eq more before end h) ∙ take_at (take end before ++ more) (drop (end + length more) before) r l;
      ends = e;
      room = g.room;
    }

-- a text from the start of the buffer on: it is what stands there up to r
pub whole : {before after more : List ℕ} {r : ℕ} → Added before 0 more after r → ((r ≤ length after) × (r ≡ length (take r after))) × (take r after ≡ more)
whole {before} {after} {more} {r} a =
    let long : length (take r after) ≡ r = rw a.text (omega (arith, a.ends)) in
    ((omega (arith, length-take r after), sym long), a.text)
