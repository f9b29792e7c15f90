-- What the reader of types answers at each of its ends is what the parser gives. Assumes nothing.
use mathlib.Core.Path.{◌≡◌, refl, sym, subst, ap, ◌∙◌}
use mathlib.Core.Bool.{true, false}
use mathlib.Core.List.{List}
use Prim.Native.Nat.{ℕ, zero, suc, ◌+◌, ◌≤◌, ◌<◌}
use native.Mathlib.Omega.{arith}
use Rattle.tree.specs.Forms.{type_path, link}
use Rattle.tree.specs.Trees.{none}
use Rattle.token_grammar.specs.Tokens.{lt, gt, number, Token, operator, comma_token, code}
use Rattle.token_grammar.specs.Codes.{code_at, token_symbol_at}
use Rattle.token_grammar.specs.Types.{one, list, items, TypePrefix, TypeSign, Ty, named, applied, pointing, sign, no_types, types, last_type, more_types}
use Rattle.token_grammar.specs.Parser.{Out, fail, ok, then, tail, is_first, TypeStart, no_type, a_name, a_type_prefix, a_sign, type_start, type_start_by, AfterItem, closes, another, no_item, after_item, behind, type_by, types_by, some_types_by}
use Rattle.token_plain.specs.Trees.{label_with, label, tree_of_type, type_prefix_label, type_sign_label}
use Rattle.token_reader.specs.declared.piece.Piece.{Piece}
use Rattle.token_reader.specs.Tables.{past_comma}
use Rattle.token_reader.specs.Pieces.{many, Placed, Stored, Ready, Tells, from, Enough, IsType, IsTypes, TypeAt, TypesAt, SignAt, PointingAt, path_by, PathAt}
use Rattle.token_reader.proofs.First.{there, tail_from, tail_from_next, first_there, first_other, type_start_at}
use Rattle.token_reader.proofs.Lists.{comma_there, closed_past, closed_at, more_at, none_at}
use Rattle.token_reader.proofs.Nodes.{carried, lower, placed, grew_none, grew_on, grew_node}
use Rattle.token_reader.proofs.Tells.{tells_none, tells_some, tells_then}

-- ---- one step of the parser

abbrev type_step : ℕ → List Token → TypeStart → Out (Ty one)
type_step g ts x =
    elim x [
      | no_type ↦ fail
      | a_name y ↦ path_by y g (tail ts)
      | a_type_prefix p ↦ then (type_by g (tail ts)) (λ t r. ok (pointing p t) r)
      | a_sign y ↦ ok (sign y) (tail ts)
    ]

type_step_lem : (g : ℕ) (ts : List Token) (x : TypeStart) → type_start ts ≡ x → type_by (suc g) ts ≡ type_step g ts x
unfolding type_by
type_step_lem g ts x e = rw (e, type_by)

-- a type that starts with a token there
begins : (Is : Ty one → Type 0) (tokens : List ℕ) (at to : ℕ) (x : TypeStart) → at < many tokens → type_start (from tokens at) ≡ x →
    ((g : ℕ) → Enough tokens at 0 (suc g) → Tells Is tokens to (type_step g (from tokens at) x)) → (f : ℕ) → Enough tokens at 0 f → Tells Is tokens to (type_by f (from tokens at))
begins Is tokens at to x h e k zero q = absurd (omega arith)
begins Is tokens at to x h e k (suc g) q = rw (type_step_lem g (from tokens at) x e) (k g q)

-- and one that starts with none
begins_not : (Is : Ty one → Type 0) (tokens : List ℕ) (at to : ℕ) → type_start (from tokens at) ≡ no_type → many tokens < to → (f : ℕ) → Tells Is tokens to (type_by f (from tokens at))
unfolding type_by
begins_not Is tokens at to e h zero = h
begins_not Is tokens at to e h (suc g) = rw (type_step_lem g (from tokens at) no_type e) h

module _ {tokens own now : List ℕ} {at free : ℕ} (ready : Ready tokens own at free) where
  -- ---- Infer and Never

  pub sign_stored : {form left : ℕ} → at < many tokens → Stored own now free left form 0 0 0 0 →
      SignAt tokens own now at free form (record { at = at + 1; free = left; named = false })
  sign_stored h s =
      record {
        grew = grew_node at (at + 1) (omega arith) (omega arith) (grew_none own at free at (omega arith)) s;
        tells = λ x e. (omega arith, refl, record { ends = refl; placed = placed none none (type_sign_label x) s e ready.most refl refl });
      }

  pub type_sign : {form : ℕ} {r : Piece} (x : TypeSign) → at < many tokens → type_start_by (code_at tokens at) (token_symbol_at tokens at) ≡ a_sign x → label form 0 ≡ type_sign_label x →
      SignAt tokens own now at free form r → TypeAt tokens own now at free r
  type_sign {form} {r} x h e l s =
      record {
        grew = λ q. s.grew;
        tells = begins (IsType now r) tokens at r.at (a_sign x) h (type_start_at tokens at ready.known ∙ e) (λ g q. rw (tail_from tokens at) (s.tells x l));
      }

  pub type_pointing : {form detail : ℕ} {r : Piece} (p : TypePrefix) → at < many tokens → type_start_by (code_at tokens at) (token_symbol_at tokens at) ≡ a_type_prefix p → label form detail ≡ type_prefix_label p →
      PointingAt tokens own now at free form detail r → TypeAt tokens own now at free r
  type_pointing {form} {detail} {r} p h e l s =
      record {
        grew = s.grew;
        tells = begins (IsType now r) tokens at r.at (a_type_prefix p) h (type_start_at tokens at ready.known ∙ e) (λ g q. rw (tail_from tokens at) (s.tells p l g (omega arith)));
      }

  pub type_at_path : {r : Piece} → at < many tokens → type_start_by (code_at tokens at) (token_symbol_at tokens at) ≡ a_name (token_symbol_at tokens at) → PathAt tokens own now at free r → TypeAt tokens own now at free r
  type_at_path {r} h e s =
      record {
        grew = s.grew;
        tells = begins (IsType now r) tokens at r.at (a_name (token_symbol_at tokens at)) h (type_start_at tokens at ready.known ∙ e) (λ g q. rw (tail_from tokens at) (s.tells g (omega arith)));
      }

  pub type_none : {r : Piece} → type_start_by (code_at tokens at) (token_symbol_at tokens at) ≡ no_type → r.at ≡ many tokens + 1 → TypeAt tokens own now at free r
  type_none {r} e z =
      record {
        grew = λ q. absurd (omega arith);
        tells = λ f q. begins_not (IsType now r) tokens at r.at (type_start_at tokens at ready.known ∙ e) (omega arith) f;
      }

  -- ---- Ptr and Reference

  pub pointing_none : {form detail : ℕ} {r : Piece} → many tokens < r.at → TypeAt tokens own now (at + 1) free r → PointingAt tokens own now at free form detail r
  pointing_none {form} {detail} {r} h i =
      record {
        grew = λ q. absurd (omega arith);
        tells = λ p e g q. tells_none (IsType now r) (IsType now r) tokens r.at r.at (type_by g (from tokens (at + 1))) (λ t rest. ok (pointing p t) rest) h h (i.tells g q);
      }

module _ {tokens own mid now : List ℕ} {at free : ℕ} (ready : Ready tokens own at free) where
  pub pointing_stored : {form detail left : ℕ} (r : Piece) → r.at ≤ many tokens → TypeAt tokens own mid (at + 1) free r → Stored mid now r.free left form detail (r.free + 1) 0 0 →
      PointingAt tokens own now at free form detail (record { at = r.at; free = left; named = r.named })
  pointing_stored {form} {detail} {left} r h i s =
      let w = i.grew h in
      record {
        grew = λ q. grew_node at r.at (omega (arith, w.upto)) (omega arith) w s;
        tells = λ p e g q.
            tells_some (IsType mid r) (IsType now (record { at = r.at; free = left; named = r.named })) tokens r.at r.at (type_by g (from tokens (at + 1))) (λ t rest. ok (pointing p t) rest) h (i.tells g q)
            (λ t y. (h, refl, record { ends = y.ends; placed = placed (tree_of_type t) none (type_prefix_label p) s e (omega (arith, ready.most, w.less)) y.placed refl }));
      }

-- ---- paths

path_opens : (y g : ℕ) (ts us : List Token) → is_first (operator lt) ts ≡ true → tail ts ≡ us → path_by y g ts ≡ then (types_by g us) (λ l r. ok (applied y l) r)
path_opens y g ts us e q = rw (e, path_by) (ap (λ x. then (types_by g x) (λ l r. ok (applied y l) r)) q)

path_ends : (y g : ℕ) (ts : List Token) → is_first (operator lt) ts ≡ false → path_by y g ts ≡ ok (named y) ts
path_ends y g ts e = rw (e, path_by)

-- an empty list of arguments, and one that is not
types_empty : (tokens : List ℕ) (at f : ℕ) → at < many tokens → Enough tokens at 2 f → is_first (operator gt) (from tokens at) ≡ true → types_by f (from tokens at) ≡ ok no_types (from tokens (at + 1))
unfolding types_by
types_empty tokens at zero h q e = absurd (omega arith)
types_empty tokens at (suc g) h q e = rw (e, types_by) (ap (ok no_types) (tail_from tokens at))

types_items : (Is : Ty items → Type 0) (Be : Ty list → Type 0) (tokens : List ℕ) (at to f : ℕ) → at ≤ many tokens → Enough tokens at 2 f → is_first (operator gt) (from tokens at) ≡ false →
    ((g : ℕ) → Enough tokens at 1 g → Tells Is tokens to (some_types_by g (from tokens at))) → ((l : Ty items) → Is l → Be (types l)) → Tells Be tokens to (types_by f (from tokens at))
unfolding types_by
types_items Is Be tokens at to zero h q e t k = absurd (omega arith)
types_items Is Be tokens at to (suc g) h q e t k =
    rw (e, types_by)
    (tells_then Is Be tokens to to (some_types_by g (from tokens at)) (λ l r. ok (types l) r) (t g (omega arith)) (λ z. z) (λ l z y. (z, refl, k l y)))

module _ {tokens own now : List ℕ} {at free : ℕ} (ready : Ready tokens own at free) (here : at < many tokens) where
  pub path_named : {left : ℕ} → (code_at tokens (at + 1) ≡ number lt → ⊥) → Stored own now free left type_path 1 0 0 (token_symbol_at tokens at) → PathAt tokens own now at free (record { at = at + 1; free = left; named = true })
  path_named n s =
      record {
        grew = λ q. grew_node at (at + 1) (omega arith) (omega arith) (grew_none own at free at (omega arith)) s;
        tells = λ g q.
            rw (path_ends (token_symbol_at tokens at) g (from tokens (at + 1)) (first_other (operator lt) tokens (at + 1) ready.known n))
            (omega arith, refl, record { ends = refl; placed = placed none none (label_with type_path 1 (token_symbol_at tokens at)) s refl ready.most refl refl });
      }

  pub path_empty : {left : ℕ} → code_at tokens (at + 1) ≡ number lt → code_at tokens (at + 2) ≡ number gt → Stored own now free left type_path 2 0 0 (token_symbol_at tokens at) →
      PathAt tokens own now at free (record { at = at + 3; free = left; named = false })
  path_empty {left} e z s =
      let b = there tokens (at + 2) (number gt) z (omega arith) in
      record {
        grew = λ q. grew_node at (at + 3) (omega arith) (omega arith) (grew_none own at free at (omega arith)) s;
        tells = λ g q.
            rw (
              path_opens (token_symbol_at tokens at) g (from tokens (at + 1)) (from tokens (at + 2)) (first_there (operator lt) tokens (at + 1) ready.known e) (tail_from_next tokens at),
              types_empty tokens (at + 2) g b q (first_there (operator gt) tokens (at + 2) ready.known z),
            )
            (omega arith, ap (from tokens) (let p : at + 2 + 1 ≡ at + 3 = omega arith in p), record { ends = refl; placed = placed none none (label_with type_path 2 (token_symbol_at tokens at)) s refl ready.most refl refl });
      }

  pub path_none : {r : Piece} → code_at tokens (at + 1) ≡ number lt → (code_at tokens (at + 2) ≡ number gt → ⊥) → many tokens < r.at → TypesAt tokens own now (at + 2) free r → PathAt tokens own now at free r
  path_none {r} e n h i =
      let b = there tokens (at + 1) (number lt) e (omega arith) in
      record {
        grew = λ q. absurd (omega arith);
        tells = λ g q.
            rw (path_opens (token_symbol_at tokens at) g (from tokens (at + 1)) (from tokens (at + 2)) (first_there (operator lt) tokens (at + 1) ready.known e) (tail_from_next tokens at))
            (tells_none (λ l. Unit {0}) (IsType now r) tokens r.at r.at (types_by g (from tokens (at + 2))) (λ l w. ok (applied (token_symbol_at tokens at) l) w) h h
            (types_items (IsTypes now r) (λ l. Unit {0}) tokens (at + 2) r.at g (omega arith) q (first_other (operator gt) tokens (at + 2) ready.known n) i.tells (λ l y. tt)));
      }

-- the arguments of a path, placed
pub record Listed (mid : List ℕ) (r : Piece) (l : Ty list) : Type 0 where
  pub placed : Placed mid r.free (r.free + 1) (tree_of_type l)

module _ {tokens own mid now : List ℕ} {at free : ℕ} (ready : Ready tokens own at free) where
  pub path_stored : {left : ℕ} (r : Piece) → code_at tokens (at + 1) ≡ number lt → (code_at tokens (at + 2) ≡ number gt → ⊥) → r.at ≤ many tokens → TypesAt tokens own mid (at + 2) free r →
      Stored mid now r.free left type_path 2 0 (r.free + 1) (token_symbol_at tokens at) → PathAt tokens own now at free (record { at = r.at; free = left; named = false })
  path_stored {left} r e n h i s =
      let b = there tokens (at + 1) (number lt) e (omega arith) in
      let w = i.grew h in
      record {
        grew = λ q. grew_node at r.at (omega (arith, w.upto)) (omega arith) w s;
        tells = λ g q.
            rw (path_opens (token_symbol_at tokens at) g (from tokens (at + 1)) (from tokens (at + 2)) (first_there (operator lt) tokens (at + 1) ready.known e) (tail_from_next tokens at))
            (tells_some (Listed mid r) (IsType now (record { at = r.at; free = left; named = false })) tokens r.at r.at (types_by g (from tokens (at + 2))) (λ l z. ok (applied (token_symbol_at tokens at) l) z) h
            (types_items (IsTypes mid r) (Listed mid r) tokens (at + 2) r.at g (omega arith) q (first_other (operator gt) tokens (at + 2) ready.known n) i.tells (λ l y. record { placed = y.placed }))
            (λ l y. (h, refl, record { ends = refl; placed = placed none (tree_of_type l) (label_with type_path 2 (token_symbol_at tokens at)) s refl (omega (arith, ready.most, w.less)) refl y.placed })));
      }

-- ---- lists of types

abbrev types_step : ℕ → Ty one → List Token → AfterItem → Out (Ty items)
types_step g t r x =
    elim x [
      | closes comma ↦ ok (last_type comma t) (behind comma r)
      | another ↦ then (some_types_by g (tail r)) (λ l q. ok (more_types t l) q)
      | no_item ↦ fail
    ]

module _ {tokens own mid : List ℕ} {at free : ℕ} (ready : Ready tokens own at free) (first : Piece) (i : TypeAt tokens own mid at free first) {end : ℕ} (is : end ≡ past_comma tokens first.at (number gt)) where
  after_first : (Be : Ty items → Type 0) (to : ℕ) (x : AfterItem) → after_item (operator gt) (from tokens first.at) ≡ x → (many tokens < first.at → many tokens < to) →
      ((g : ℕ) → Enough tokens at 0 g → (t : Ty one) → first.at ≤ many tokens → IsType mid first t → Tells Be tokens to (types_step g t (from tokens first.at) x)) →
      (f : ℕ) → Enough tokens at 1 f → Tells Be tokens to (some_types_by f (from tokens at))
  unfolding some_types_by
  after_first Be to x p b k zero h = absurd (omega (arith, ready.within))
  after_first Be to x p b k (suc g) h =
      tells_then (IsType mid first) Be tokens first.at to (type_by g (from tokens at)) _ (i.tells g (omega arith)) b
      (λ t z y. subst (λ x. Tells Be tokens to (types_step g t (from tokens first.at) x)) (sym p) (k g (omega arith) t z y))

  pub types_last : {now : List ℕ} {left : ℕ} → code_at tokens end ≡ number gt → Stored mid now first.free left link 0 (first.free + 1) 0 0 →
      TypesAt tokens own now at free (record { at = end + 1; free = left; named = false })
  types_last {now} {left} e s =
      let b = closed_past tokens first.at (operator gt) (λ z. omega arith) is e in
      let l = b.0 in
      let h = b.1 in
      let w = i.grew (omega arith) in
      let d = closed_at tokens first.at (operator gt) (λ z. omega arith) is ready.known e in
      record {
        grew = λ q. grew_node at (end + 1) (omega (arith, w.upto)) (omega arith) w s;
        tells = after_first (IsTypes now (record { at = end + 1; free = left; named = false })) (end + 1) (closes d.0) d.1 (λ z. omega arith)
            (λ g q t z y. (omega arith, d.2, record { placed = placed (tree_of_type t) none (label link 0) s refl (omega (arith, ready.most, w.less)) y.placed refl }));
      }

  pub types_none : {now : List ℕ} {r : Piece} → (code_at tokens end ≡ number gt → ⊥) → (code_at tokens end ≡ code comma_token → ⊥) → r.at ≡ many tokens + 1 → TypesAt tokens own now at free r
  types_none {now} {r} n m z =
      record {
        grew = λ q. absurd (omega arith);
        tells = after_first (IsTypes now r) r.at no_item (none_at tokens first.at (operator gt) (λ z. omega arith) is ready.known n m) (λ q. omega arith) (λ g q t x y. omega arith);
      }

  pub types_more_none : {now : List ℕ} {r : Piece} → (code_at tokens end ≡ number gt → ⊥) → code_at tokens end ≡ code comma_token → many tokens < r.at →
      TypesAt tokens mid now (first.at + 1) first.free r → TypesAt tokens own now at free r
  types_more_none {now} {r} n m h j =
      let b = comma_there tokens first.at (operator gt) (λ z. omega arith) is m in
      let w = i.grew (omega arith) in
      record {
        grew = λ q. absurd (omega arith);
        tells = after_first (IsTypes now r) r.at another (more_at tokens first.at (operator gt) (λ z. omega arith) is ready.known n m) (λ q. h)
            (λ g q t x y.
            rw (tail_from tokens first.at)
            (tells_none (IsTypes now r) (IsTypes now r) tokens r.at r.at (some_types_by g (from tokens (first.at + 1))) (λ l z. ok (more_types t l) z) h h (j.tells g (omega (arith, w.upto)))));
      }

  pub types_more : {mid₂ now : List ℕ} {left : ℕ} (r : Piece) → (code_at tokens end ≡ number gt → ⊥) → code_at tokens end ≡ code comma_token → r.at ≤ many tokens →
      TypesAt tokens mid mid₂ (first.at + 1) first.free r → Stored mid₂ now r.free left link 0 (first.free + 1) (r.free + 1) 0 →
      TypesAt tokens own now at free (record { at = r.at; free = left; named = false })
  types_more {mid₂} {now} {left} r n m h j s =
      let b = comma_there tokens first.at (operator gt) (λ z. omega arith) is m in
      let w = i.grew (omega arith) in
      let v = j.grew h in
      record {
        grew = λ q. grew_node at r.at (omega (arith, w.upto, v.upto)) (omega arith) (grew_on (at + 1) (omega arith) w v) s;
        tells = after_first (IsTypes now (record { at = r.at; free = left; named = false })) r.at another (more_at tokens first.at (operator gt) (λ z. omega arith) is ready.known n m) (λ q. absurd (omega arith))
            (λ g q t x y.
            rw (tail_from tokens first.at)
            (tells_some (IsTypes mid₂ r) (IsTypes now (record { at = r.at; free = left; named = false })) tokens r.at r.at (some_types_by g (from tokens (first.at + 1))) (λ l z. ok (more_types t l) z) h (j.tells g (omega (arith, w.upto)))
            (λ l u. (
              h,
              refl,
              record {
                placed =
                    placed (tree_of_type t) (tree_of_type l) (label link 0) s refl (omega (arith, ready.most, w.less, v.less))
                    (lower mid₂ first.free r.free _ (tree_of_type t) v.less (carried mid mid₂ first.free first.free _ (tree_of_type t) v.kept (omega arith) y.placed))
                    u.placed;
              },
            ))));
      }
