-- What waits for a type in the reader's own table, and that each turn of the reader of types brings it on: in the end the type is what the parser gives. Assumes nothing.
use mathlib.Core.Path.{◌≡◌, refl, sym, subst, ap, ◌∙◌}
use mathlib.Core.Bool.{Bool, false}
use mathlib.Core.List.{List, [], ◌∷◌}
use Prim.Native.Nat.{ℕ, ◌+◌, ◌*◌, ◌-◌, ◌≤◌, ◌<◌}
use native.Mathlib.Omega.{arith}
use native.Mathlib.Decide.{dec_le}
use lib.ListN.{length, get_or}
use Rattle.tree.specs.Sizes.{node_cells}
use Rattle.token_grammar.specs.Tokens.{lt, gt, number, operator, comma_token, code}
use Rattle.token_grammar.specs.Codes.{code_at, token_symbol_at}
use Rattle.token_grammar.specs.Types.{TypePrefix}
use Rattle.token_grammar.specs.Parser.{a_name, a_type_prefix, type_start_by}
use Rattle.token_plain.specs.Trees.{label, type_prefix_label}
use Rattle.token_reader.specs.declared.piece.Piece.{Piece}
use Rattle.token_reader.specs.declared.piece.Typing.{Typing}
use Rattle.token_reader.specs.Tables.{past_comma}
use Rattle.token_reader.specs.Pieces.{many, Kept, Stored, Ready, TypeAt, TypesAt}
use Rattle.token_reader.specs.Kinds.{WANTED, READ, LISTED, ENDED, mode_number, POINTER, PATH, ITEM}
use Rattle.token_reader.specs.declared.piece.Mode.TheVariants as mode
use Rattle.token_reader.specs.Waiting.{what_at, one_at, two_at, Laid, Stays, piece_of, Able, Turnable, Wanted, absent, whole, points, applies, Took, pointed, last, another, unclosed, Taken, all, part, Listed, more, applied, Turned, wanting, taking, listing}
use Rattle.token_reader.proofs.First.{there, past_tokens}
use Rattle.token_reader.proofs.Lists.{closed_past, comma_there, passed_none}
use Rattle.token_reader.proofs.Tells.{ready_on, ready_grew}
use Rattle.token_reader.proofs.TypeEnds.{type_pointing, type_at_path, type_none, pointing_none, pointing_stored, path_none, path_stored, types_last, types_none, types_more_none, types_more}

-- what waits, with the table, the place and the free nodes at which it began to be read; an item also with what was read of it
pub data Waiter : Type 0 where
  pointer : (own : List ℕ) (at free form detail : ℕ) → Waiter
  path : (own : List ℕ) (at free : ℕ) → Waiter
  item : (own mid : List ℕ) (at free : ℕ) (first : Piece) → Waiter

abbrev what_of : Waiter → ℕ
what_of (pointer own at free form detail) = POINTER
what_of (path own at free) = PATH
what_of (item own mid at free first) = ITEM

abbrev one_of : List ℕ → Waiter → ℕ
one_of tokens (pointer own at free form detail) = form
one_of tokens (path own at free) = token_symbol_at tokens at
one_of tokens (item own mid at free first) = first.free + 1

abbrev two_of : Waiter → ℕ
two_of (pointer own at free form detail) = detail
two_of (path own at free) = 0
two_of (item own mid at free first) = 0

-- what wants a list
abbrev IsList : List Waiter → Type 0
IsList [] = ⊥
IsList (pointer own at free form detail ∷ ws) = ⊥
IsList (path own at free ∷ ws) = Unit {0}
IsList (item own mid at free first ∷ ws) = Unit {0}

-- ---- the table as it is now: nothing but its free nodes is another
abbrev Alike : List ℕ → List ℕ → ℕ → Type 0
Alike own now free = Kept own now free × (length now ≡ length own)

type_alike : {tokens own mid now : List ℕ} {at free : ℕ} {r : Piece} → Alike own mid free → TypeAt tokens mid now at free r → TypeAt tokens own now at free r
type_alike k t =
    record {
      grew = λ q. let g = t.grew q in record { upto = g.upto; room = g.room; less = g.less; kept = λ j h. g.kept j h ∙ k.0 j h; same = g.same ∙ k.1 };
      tells = t.tells;
    }

types_alike : {tokens own mid now : List ℕ} {at free : ℕ} {r : Piece} → Alike own mid free → TypesAt tokens mid now at free r → TypesAt tokens own now at free r
types_alike k t =
    record {
      grew = λ q. let g = t.grew q in record { upto = g.upto; room = g.room; less = g.less; kept = λ j h. g.kept j h ∙ k.0 j h; same = g.same ∙ k.1 };
      tells = t.tells;
    }

ready_alike : {tokens own now : List ℕ} {at free : ℕ} → Alike own now free → Ready tokens own at free → Ready tokens now at free
ready_alike k r = record { short = r.short; known = r.known; cells = omega (arith, r.cells, k.1); room = r.room; most = r.most; within = r.within }

laid_alike : {own now : List ℕ} {depth what one two least place free : ℕ} → depth < free → Laid own now depth what one two least place → Alike own now free
laid_alike h l = (λ j q. l.behind j (omega arith), l.same)

-- ---- what waits, and for what: a type, or the list that begins with it

module _ (tokens own₀ : List ℕ) (base at₀ free₀ : ℕ) where
  -- where it began to be read there was room for all
  abbrev Begun : List Waiter → List ℕ → ℕ → ℕ → Type 0
  Begun ws own at free = Ready tokens own at free × (base + length ws + many tokens ≤ at + free)

  abbrev Waits : List Waiter → List ℕ → ℕ → ℕ → Type 0
  Waits [] own at free = (own ≡ own₀) × (at ≡ at₀) × (free ≡ free₀)
  Waits (pointer o a f form detail ∷ ws) own at free =
      Waits ws o a f × Begun ws o a f × (a < many tokens) × ((p : TypePrefix) × (type_start_by (code_at tokens a) (token_symbol_at tokens a) ≡ a_type_prefix p) × (label form detail ≡ type_prefix_label p))
      × Alike o own f × (at ≡ a + 1) × (free ≡ f)
  Waits (path o a f ∷ ws) own at free =
      Waits ws o a f × Begun ws o a f × (a < many tokens) × (type_start_by (code_at tokens a) (token_symbol_at tokens a) ≡ a_name (token_symbol_at tokens a))
      × (code_at tokens (a + 1) ≡ number lt) × (code_at tokens (a + 2) ≡ number gt → ⊥) × Alike o own f × (at ≡ a + 2) × (free ≡ f)
  Waits (item o mid a f first ∷ ws) own at free =
      Waits ws o a f × IsList ws × Begun ws o a f × TypeAt tokens o mid a f first × (code_at tokens (past_comma tokens first.at (number gt)) ≡ number gt → ⊥)
      × (code_at tokens (past_comma tokens first.at (number gt)) ≡ code comma_token) × Alike mid own first.free × (at ≡ first.at + 1) × (free ≡ first.free)

  abbrev Held : List Waiter → List ℕ → Type 0
  Held [] own = Unit {0}
  Held (w ∷ ws) own = (what_at own (base + length ws) ≡ what_of w) × (one_at own (base + length ws) ≡ one_of tokens w) × (two_at own (base + length ws) ≡ two_of w) × Held ws own

  held_stays : (own now : List ℕ) (ws : List Waiter) → Stays own now (base + length ws) → Held ws own → Held ws now
  held_stays own now [] s h = tt
  held_stays own now (w ∷ ws) s h =
      (s (node_cells * (base + length ws)) (omega arith) ∙ h.0, s (node_cells * (base + length ws) + 1) (omega arith) ∙ h.1, s (node_cells * (base + length ws) + 2) (omega arith) ∙ h.2, held_stays own now ws (λ j q. s j (omega arith)) h.3)

  -- a list whose first type is not there
  first_none : {own now : List ℕ} {at free : ℕ} {r : Piece} → Ready tokens own at free → r.at ≡ many tokens + 1 → TypeAt tokens own now at free r → TypesAt tokens own now at free r
  first_none {own} {now} {at} {free} {r} rd z t =
      let e = past_tokens tokens r.at (omega arith) in
      let p = ap (code_at tokens) (passed_none tokens r.at (number gt) (λ q. let d = sym e ∙ q in omega arith)) ∙ e in
      types_none rd r t refl (λ q. let d = sym p ∙ q in omega arith) (λ q. let d = sym p ∙ q in omega arith) z

  -- ---- where there is no type, or no list, there is none for what waits
  path_lost : {o own now : List ℕ} {a f at free : ℕ} {r : Piece} (ws : List Waiter) → Waits (path o a f ∷ ws) own at free → r.at ≡ many tokens + 1 → TypesAt tokens own now at free r → TypeAt tokens o now a f r
  path_lost ws w z t = type_at_path w.1.0 w.2 w.3 (path_none w.1.0 w.2 w.4 w.5 (omega arith) (types_alike w.6 (rw (w.7, w.8) at t)))

  list_lost : {o mid own now : List ℕ} {a f at free : ℕ} {first r : Piece} (ws : List Waiter) → Waits (item o mid a f first ∷ ws) own at free → r.at ≡ many tokens + 1 → TypesAt tokens own now at free r → TypesAt tokens o now a f r
  list_lost {first = first} ws w z t = types_more_none w.2.0 first w.3 refl w.4 w.5 (omega arith) (types_alike w.6 (rw (w.7, w.8) at t))

  mutual
    no_type : (ws : List Waiter) {own now : List ℕ} {at free : ℕ} {r : Piece} → Waits ws own at free → Ready tokens own at free → r.at ≡ many tokens + 1 → TypeAt tokens own now at free r → TypeAt tokens own₀ now at₀ free₀ r
    no_type [] w rd z t = rw (w.0, w.1, w.2) at t
    no_type (pointer o a f form detail ∷ ws) w rd z t =
        no_type ws w.0 w.1.0 z
        (type_pointing w.1.0 w.3.0 w.2 w.3.1 w.3.2 (pointing_none w.1.0 (omega arith) (type_alike w.4 (rw (w.5, w.6) at t))))
    no_type (path o a f ∷ ws) w rd z t = no_type ws w.0 w.1.0 z (path_lost ws w z (first_none rd z t))
    no_type (item o mid a f first ∷ ws) w rd z t = no_list ws w.0 w.1 z (list_lost ws w z (first_none rd z t))

    no_list : (ws : List Waiter) {own now : List ℕ} {at free : ℕ} {r : Piece} → Waits ws own at free → IsList ws → r.at ≡ many tokens + 1 → TypesAt tokens own now at free r → TypeAt tokens own₀ now at₀ free₀ r
    no_list [] w i z t = absurd i
    no_list (pointer o a f form detail ∷ ws) w i z t = absurd i
    no_list (path o a f ∷ ws) w i z t = no_type ws w.0 w.1.0 z (path_lost ws w z t)
    no_list (item o mid a f first ∷ ws) w i z t = no_list ws w.0 w.1 z (list_lost ws w z t)

  -- ---- what is known between turns

  pub data On (own : List ℕ) (s : Typing) : Type 0 where
    wanted : (ws : List Waiter) → base + length ws ≡ s.depth → Held ws own → Waits ws own s.at s.free → Begun ws own s.at s.free → mode_number s.mode ≡ WANTED → On own s
    read : (ws : List Waiter) (o : List ℕ) (a f : ℕ) → base + length ws ≡ s.depth → Held ws own → Waits ws o a f → Begun ws o a f → TypeAt tokens o own a f (piece_of s) → s.at ≤ many tokens → mode_number s.mode ≡ READ → On own s
    listed : (ws : List Waiter) (o : List ℕ) (a f : ℕ) → base + length ws ≡ s.depth → Held ws own → Waits ws o a f → Begun ws o a f → TypesAt tokens o own a f (piece_of s) → s.at ≤ many tokens → mode_number s.mode ≡ LISTED → IsList ws → On own s
    ended : TypeAt tokens own₀ own at₀ free₀ (piece_of s) → mode_number s.mode ≡ ENDED → On own s

  pub on_start : (s : Typing) → Ready tokens own₀ at₀ free₀ → base + many tokens ≤ at₀ + free₀ → s ≡ record { at = at₀; depth = base; mode = mode.Wanted; free = free₀; named = false } → On own₀ s
  on_start s rd d e = rw e (wanted [] (omega arith) tt (refl, refl, refl) (rd, omega arith) refl)

  pub on_end : {own : List ℕ} {s : Typing} → On own s → mode_number s.mode ≡ ENDED → TypeAt tokens own₀ own at₀ free₀ (piece_of s)
  on_end (wanted ws l h w b m) e = absurd (omega arith)
  on_end (read ws o a f l h w b t k m) e = absurd (omega arith)
  on_end (listed ws o a f l h w b t k m i) e = absurd (omega arith)
  on_end (ended t m) e = t

  lists_wait : (ws : List Waiter) → IsList ws → 1 ≤ length ws
  lists_wait [] i = absurd i
  lists_wait (w ∷ ws) i = omega arith

  pub on_turnable : {own : List ℕ} {s : Typing} → On own s → (mode_number s.mode ≡ ENDED → ⊥) → Turnable tokens own base s
  on_turnable (wanted ws l h w b m) n = record { able = record { ready = b.0; deep = omega (arith, b.1) }; above = omega arith; listed = λ p q. absurd (p m) }
  on_turnable {own} {s} (read ws o a f l h w b t k m) n =
      let g = t.grew k in
      record { able = record { ready = ready_grew s.at (omega arith) k b.0 g; deep = omega (arith, b.1, g.room) }; above = omega arith; listed = λ p q. absurd (q m) }
  on_turnable {own} {s} (listed ws o a f l h w b t k m i) n =
      let g = t.grew k in
      record { able = record { ready = ready_grew s.at (omega arith) k b.0 g; deep = omega (arith, b.1, g.room) }; above = omega arith; listed = λ p q. let j = lists_wait ws i in omega arith }
  on_turnable (ended t m) n = absurd (n m)

  -- ---- one more waits

  laid_held : (own now : List ℕ) (ws : List Waiter) (w : Waiter) {depth : ℕ} → base + length ws ≡ depth → Laid own now depth (what_of w) (one_of tokens w) (two_of w) 0 0 → Held ws own → Held (w ∷ ws) now
  laid_held own now ws w l la h =
      let a = subst (λ n. Laid own now n (what_of w) (one_of tokens w) (two_of w) 0 0) (sym l) la in
      (a.what_is, a.one_is, a.two_is, held_stays own now ws a.before h)

  begun_on : (own now : List ℕ) (ws : List Waiter) (w : Waiter) {at free : ℕ} (to : ℕ) → at < to → to ≤ many tokens → Alike own now free → Begun ws own at free → Begun (w ∷ ws) now to free
  begun_on own now ws w to h k a b = (ready_on to (omega arith) k (ready_alike a b.0), omega (arith, b.1))

  -- ---- a node is stored

  -- the piece that a turn leaves
  piece_is : (r : Typing) (at : ℕ) (named : Bool) → r.at ≡ at → r.named ≡ named → record { at = at; free = r.free; named = named } ≡ piece_of r
  piece_is r at named p q = rw (p, q)

  stored_held : (own now : List ℕ) (ws : List Waiter) {free left form detail first second symbol : ℕ} → base + length ws ≤ left → Stored own now free left form detail first second symbol → Held ws own → Held ws now
  stored_held own now ws k st h = held_stays own now ws (λ j q. st.below j (omega arith)) h

  is_list : (own : List ℕ) (ws : List Waiter) {depth : ℕ} → base + length ws ≡ depth → (depth ≡ base → ⊥) → Held ws own → (what_at own (depth - 1) ≡ POINTER → ⊥) → IsList ws
  is_list own [] l i h n = absurd (i (omega arith))
  is_list own (pointer o a f form detail ∷ ws) {depth} l i h n = let e : base + length ws ≡ depth - 1 = omega arith in absurd (n (rw e at h.0))
  is_list own (path o a f ∷ ws) l i h n = tt
  is_list own (item o mid a f first ∷ ws) l i h n = tt

  module _ {own now : List ℕ} {s r : Typing} where
    on_wanted : (ws : List Waiter) → base + length ws ≡ s.depth → Held ws own → Waits ws own s.at s.free → Begun ws own s.at s.free → Wanted tokens own now s r → On now r
    on_wanted ws l h w b (absent st z y m u) = ended (no_type ws w b.0 z (type_none b.0 st z)) m
    on_wanted ws l h w b (whole t p k st e m) = read ws own s.at s.free (l ∙ sym e) (held_stays own now ws (subst (λ n. Stays own now n) (sym l) st) h) w b t k m
    on_wanted ws l h w b (points p form detail hh st lb la e) =
        let a = laid_alike {free = s.free} (omega (arith, b.1)) la in
        subst (λ x. On now x) (sym e)
        (wanted (pointer own s.at s.free form detail ∷ ws) (omega arith) (laid_held own now ws (pointer own s.at s.free form detail) l la h) (w, b, hh, (p, st, lb), a, refl, refl)
        (begun_on own now ws (pointer own s.at s.free form detail) (s.at + 1) (omega arith) (omega arith) a b) refl)
    on_wanted ws l h w b (applies hh st is_lt is_gt la e) =
        let a = laid_alike {free = s.free} (omega (arith, b.1)) la in
        let i = there tokens (s.at + 1) (number lt) is_lt (omega arith) in
        subst (λ x. On now x) (sym e)
        (wanted (path own s.at s.free ∷ ws) (omega arith) (laid_held own now ws (path own s.at s.free) l la h) (w, b, hh, st, is_lt, is_gt, a, refl, refl)
        (begun_on own now ws (path own s.at s.free) (s.at + 2) (omega arith) (omega arith) a b) refl)

    -- ---- one that waited is done

    on_took : (ws : List Waiter) (o : List ℕ) (a f : ℕ) → base + length ws ≡ s.depth → Held ws own → Waits ws o a f → Begun ws o a f → TypeAt tokens o own a f (piece_of s) → s.at ≤ many tokens → (s.depth ≡ base → ⊥) → Took tokens own now s r → On now r
    on_took [] o a f l h w b t k nb (pointed c st nm pop) = absurd (nb (omega arith))
    on_took (pointer q i g form detail ∷ ws) o a f l h w b t k nb (pointed c st nm pop) =
        let e : s.depth - 1 ≡ base + length ws = omega arith in
        let u = rw (e, h.1, h.2) at st in
        let v = t.grew k in
        read ws q i g (omega (arith, pop.0)) (stored_held own now ws (omega (arith, b.1, v.room, u.fewer)) u h.3) w.0 w.1
        (subst (λ x. TypeAt tokens q now i g x) (piece_is r s.at s.named pop.1 nm)
        (type_pointing w.1.0 w.3.0 w.2 w.3.1 w.3.2 (pointing_stored w.1.0 (piece_of s) k (type_alike w.4 (rw (w.5, w.6) at t)) u)))
        (omega (arith, pop.1)) pop.2
    on_took (path q i g ∷ ws) o a f l h w b t k nb (pointed c st nm pop) = let e : s.depth - 1 ≡ base + length ws = omega arith in let d = sym h.0 ∙ (rw e at c) in absurd (omega arith)
    on_took (item q mid i g first ∷ ws) o a f l h w b t k nb (pointed c st nm pop) = let e : s.depth - 1 ≡ base + length ws = omega arith in let d = sym h.0 ∙ (rw e at c) in absurd (omega arith)
    on_took ws o a f l h w b t k nb (last end i n is e st z) =
        let p = closed_past tokens s.at (operator gt) (λ q. omega arith) is e in
        let p₀ = p.0 in
        let p₁ = p.1 in
        let v = t.grew k in
        listed ws o a f (l ∙ sym (ap (λ x. x.depth) z)) (stored_held own now ws (omega (arith, b.1, v.room, st.fewer)) st h) w b
        (subst (λ x. TypesAt tokens o now a f x) (piece_is r (end + 1) false (ap (λ x. x.at) z) (ap (λ x. x.named) z)) (types_last b.0 (piece_of s) t is e st))
        (let y = ap (λ (x : Typing). x.at) z in omega arith) (ap (λ (x : Typing). mode_number x.mode) z) (is_list own ws l nb h n)
    on_took ws o a f l h w b t k nb (another end i n is ng cm la z) =
        let p = comma_there tokens s.at (operator gt) (λ q. omega arith) is cm in
        let v = t.grew k in
        let c : Begun ws own s.at s.free = (ready_grew s.at (omega arith) k b.0 v, omega (arith, b.1, v.room)) in
        let d = laid_alike {free = s.free} (omega (arith, c.1)) la in
        subst (λ x. On now x) (sym z)
        (wanted (item o own a f (piece_of s) ∷ ws) (omega arith) (laid_held own now ws (item o own a f (piece_of s)) l la h) (w, is_list own ws l nb h n, b, t, rw is at ng, rw is at cm, d, refl, refl)
        (begun_on own now ws (item o own a f (piece_of s)) (s.at + 1) (omega arith) (omega arith) d c) refl)
    on_took ws o a f l h w b t k nb (unclosed end i n is ng cm z y m u) = ended (no_list ws w (is_list own ws l nb h n) z (types_none b.0 (piece_of s) t is ng cm z)) m

    on_taken : (ws : List Waiter) (o : List ℕ) (a f : ℕ) → base + length ws ≡ s.depth → Held ws own → Waits ws o a f → Begun ws o a f → TypeAt tokens o own a f (piece_of s) → s.at ≤ many tokens → Taken tokens own now base s r → On now r
    on_taken [] o a f l h w b t k (all z p n d m) =
        ended (subst (λ x. TypeAt tokens own₀ now at₀ free₀ x) (sym p) (subst (λ x. TypeAt tokens own₀ x at₀ free₀ (piece_of s)) (sym n) (rw (w.0, w.1, w.2) at t))) m
    on_taken (x ∷ ws) o a f l h w b t k (all z p n d m) = absurd (omega arith)
    on_taken ws o a f l h w b t k (part nb x) = on_took ws o a f l h w b t k nb x

    on_listed : (ws : List Waiter) (o : List ℕ) (a f : ℕ) → base + length ws ≡ s.depth → Held ws own → Waits ws o a f → Begun ws o a f → TypesAt tokens o own a f (piece_of s) → s.at ≤ many tokens → IsList ws → Listed tokens own now s r → On now r
    on_listed [] o a f l h w b t k i z = absurd i
    on_listed (pointer q j g form detail ∷ ws) o a f l h w b t k i z = absurd i
    on_listed (path q j g ∷ ws) o a f l h w b t k i (more c st nm pop) = let e : s.depth - 1 ≡ base + length ws = omega arith in let d = sym h.0 ∙ (rw e at c) in absurd (omega arith)
    on_listed (item q mid j g first ∷ ws) o a f l h w b t k i (applied c st nm pop) = let e : base + length ws ≡ s.depth - 1 = omega arith in absurd (c (rw e at h.0))
    on_listed (item q mid j g first ∷ ws) o a f l h w b t k i (more c st nm pop) =
        let e : s.depth - 1 ≡ base + length ws = omega arith in
        let u = rw (e, h.1) at st in
        let v = t.grew k in
        listed ws q j g (omega (arith, pop.0)) (stored_held own now ws (omega (arith, b.1, v.room, u.fewer)) u h.3) w.0 w.2
        (subst (λ x. TypesAt tokens q now j g x) (piece_is r s.at false pop.1 nm) (types_more w.2.0 first w.3 refl (piece_of s) w.4 w.5 k (types_alike w.6 (rw (w.7, w.8) at t)) u))
        (omega (arith, pop.1)) pop.2 w.1
    on_listed (path q j g ∷ ws) o a f l h w b t k i (applied c st nm pop) =
        let e : s.depth - 1 ≡ base + length ws = omega arith in
        let u = rw (e, h.1) at st in
        let v = t.grew k in
        read ws q j g (omega (arith, pop.0)) (stored_held own now ws (omega (arith, b.1, v.room, u.fewer)) u h.3) w.0 w.1
        (subst (λ x. TypeAt tokens q now j g x) (piece_is r s.at false pop.1 nm)
        (type_at_path w.1.0 w.2 w.3 (path_stored w.1.0 (piece_of s) w.4 w.5 k (types_alike w.6 (rw (w.7, w.8) at t)) u)))
        (omega (arith, pop.1)) pop.2

    pub on_turned : On own s → (mode_number s.mode ≡ ENDED → ⊥) → Turned tokens own now base s r → On now r
    on_turned (wanted ws l h w b m) n (wanting e t) = on_wanted ws l h w b t
    on_turned (wanted ws l h w b m) n (taking e t) = absurd (omega arith)
    on_turned (wanted ws l h w b m) n (listing p q t) = absurd (p m)
    on_turned (read ws o a f l h w b t k m) n (wanting e x) = absurd (omega arith)
    on_turned (read ws o a f l h w b t k m) n (taking e x) = on_taken ws o a f l h w b t k x
    on_turned (read ws o a f l h w b t k m) n (listing p q x) = absurd (q m)
    on_turned (listed ws o a f l h w b t k m i) n (wanting e x) = absurd (omega arith)
    on_turned (listed ws o a f l h w b t k m i) n (taking e x) = absurd (omega arith)
    on_turned (listed ws o a f l h w b t k m i) n (listing p q x) = on_listed ws o a f l h w b t k i x
    on_turned (ended t m) n x = absurd (n m)

-- ---- each turn leaves less to do

abbrev pub left_to_do : List ℕ → Typing → ℕ
left_to_do tokens s = 4 * (many tokens + 1 - s.at) + 2 * s.depth + (ENDED - mode_number s.mode)

module _ {tokens own now : List ℕ} {s r : Typing} (within : s.at ≤ many tokens) where
  less_wanted : mode_number s.mode ≡ WANTED → Wanted tokens own now s r → left_to_do tokens r < left_to_do tokens s
  less_wanted e (absent st z y m u) = omega arith
  less_wanted e (whole t p k st y m) = omega arith
  less_wanted e (points p form detail hh st lb la z) = rw z (omega arith)
  less_wanted e (applies hh st is_lt is_gt la z) = let i = there tokens (s.at + 1) (number lt) is_lt (omega arith) in rw z (omega arith)

  less_took : mode_number s.mode ≡ READ → Took tokens own now s r → left_to_do tokens r < left_to_do tokens s
  less_took e (pointed c st nm pop) = omega (arith, pop.0, pop.1, pop.2)
  less_took e (last end i n is g st z) =
      let p = closed_past tokens s.at (operator gt) (λ q. omega arith) is g in
      let p₀ = p.0 in
      let p₁ = p.1 in
      let a = ap (λ (x : Typing). x.at) z in
      let b = ap (λ (x : Typing). x.depth) z in
      let c = ap (λ (x : Typing). mode_number x.mode) z in
      omega arith
  less_took e (another end i n is ng cm la z) = let p = comma_there tokens s.at (operator gt) (λ q. omega arith) is cm in rw z (omega arith)
  less_took e (unclosed end i n is ng cm z y m u) = omega arith

  less_taken : {base : ℕ} → mode_number s.mode ≡ READ → Taken tokens own now base s r → left_to_do tokens r < left_to_do tokens s
  less_taken e (all z p n d m) = let a = ap (λ (x : Piece). x.at) p in omega arith
  less_taken e (part nb x) = less_took e x

  less_listed : mode_number s.mode ≡ LISTED → Listed tokens own now s r → left_to_do tokens r < left_to_do tokens s
  less_listed e (more c st nm pop) = omega (arith, pop.0, pop.1, pop.2)
  less_listed e (applied c st nm pop) = omega (arith, pop.0, pop.1, pop.2)

others_list : {tokens own₀ own : List ℕ} {base at₀ free₀ : ℕ} {s : Typing} → On tokens own₀ base at₀ free₀ own s → (mode_number s.mode ≡ ENDED → ⊥) → (mode_number s.mode ≡ WANTED → ⊥) → (mode_number s.mode ≡ READ → ⊥) → mode_number s.mode ≡ LISTED
others_list (wanted ws l h w b m) n p q = absurd (p m)
others_list (read ws o a f l h w b t k m) n p q = absurd (q m)
others_list (listed ws o a f l h w b t k m i) n p q = m
others_list (ended t m) n p q = absurd (n m)

pub on_less : {tokens own₀ own now : List ℕ} {base at₀ free₀ : ℕ} {s r : Typing} → On tokens own₀ base at₀ free₀ own s → (mode_number s.mode ≡ ENDED → ⊥) → Turned tokens own now base s r → left_to_do tokens r < left_to_do tokens s
on_less o n (wanting e t) = less_wanted (on_turnable _ _ _ _ _ o n).able.ready.within e t
on_less o n (taking e t) = less_taken (on_turnable _ _ _ _ _ o n).able.ready.within e t
on_less o n (listing p q t) = less_listed (on_turnable _ _ _ _ _ o n).able.ready.within (others_list o n p q) t

-- ---- those that wait for something else stay

below : (m n : ℕ) → m ≤ n → (m ≡ n → ⊥) → m < n
below m n h k = go (dec_le n m)
  where
    go : Dec (n ≤ m) → m < n
    go (yes q) = absurd (k (omega arith))
    go (no q) = omega arith

module _ {tokens own now : List ℕ} {base : ℕ} {s : Typing} (able : Able tokens own s) (above : base ≤ s.depth) where
  same_stays : now ≡ own → Stays own now base
  same_stays u = λ j q. ap (λ l. get_or l j 0) u

  stored_stays : {left form detail first second symbol : ℕ} → base < s.depth → Stored own now s.free left form detail first second symbol → Stays own now base
  stored_stays h st = λ j q. st.below j (let d = able.deep in let w = able.ready.within in let e = st.fewer in omega arith)

  stays_wanted : {r : Typing} → Wanted tokens own now s r → Stays own now base
  stays_wanted (absent st z y m u) = same_stays u
  stays_wanted (whole t p k st y m) = λ j q. st j (omega arith)
  stays_wanted (points p form detail hh st lb la z) = λ j q. la.before j (omega arith)
  stays_wanted (applies hh st is_lt is_gt la z) = λ j q. la.before j (omega arith)

  stays_taken : {r : Typing} → Taken tokens own now base s r → Stays own now base
  stays_taken (all z p n d m) = same_stays n
  stays_taken (part nb (pointed c st nm pop)) = stored_stays (below base s.depth above (λ e. nb (sym e))) st
  stays_taken (part nb (last end i n is g st z)) = stored_stays (below base s.depth above (λ e. nb (sym e))) st
  stays_taken (part nb (another end i n is ng cm la z)) = λ j q. la.before j (omega arith)
  stays_taken (part nb (unclosed end i n is ng cm z y m u)) = same_stays u

  stays_listed : {r : Typing} → base < s.depth → Listed tokens own now s r → Stays own now base
  stays_listed h (more c st nm pop) = stored_stays h st
  stays_listed h (applied c st nm pop) = stored_stays h st

lists_above : {tokens own₀ own : List ℕ} {base at₀ free₀ : ℕ} {s : Typing} → On tokens own₀ base at₀ free₀ own s → (mode_number s.mode ≡ ENDED → ⊥) → (mode_number s.mode ≡ WANTED → ⊥) → (mode_number s.mode ≡ READ → ⊥) → base < s.depth
lists_above (wanted ws l h w b m) n p q = absurd (p m)
lists_above (read ws o a f l h w b t k m) n p q = absurd (q m)
lists_above {tokens} {own₀} {own} {base} {at₀} {free₀} (listed ws o a f l h w b t k m i) n p q = let j = lists_wait tokens own₀ base at₀ free₀ ws i in omega arith
lists_above (ended t m) n p q = absurd (n m)

pub on_stays : {tokens own₀ own now : List ℕ} {base at₀ free₀ : ℕ} {s r : Typing} → On tokens own₀ base at₀ free₀ own s → (mode_number s.mode ≡ ENDED → ⊥) → Turned tokens own now base s r → Stays own now base
on_stays o n (wanting e t) = let v = on_turnable _ _ _ _ _ o n in stays_wanted v.able v.above t
on_stays o n (taking e t) = let v = on_turnable _ _ _ _ _ o n in stays_taken v.able v.above t
on_stays o n (listing p q t) = let v = on_turnable _ _ _ _ _ o n in stays_listed v.able v.above (lists_above o n p q) t
