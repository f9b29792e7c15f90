-- The theorems on readings (specs/Reads). Assumes nothing.
use mathlib.Core.Path.{◌≡◌, refl, sym, subst, ap, ◌∙◌}
use mathlib.Core.Bool.{Bool, true, false}
use mathlib.Core.List.{List, [], ◌∷◌}
use mathlib.Core.Logic.{◌⊎◌, inl, inr}
use Prim.Native.Nat.{ℕ}
use native.Mathlib.Omega.{arith}
use lib.Dec.{T}
use Rattle.laws.proofs.Choice.{true_not_false, true_of, of_true}
use Rattle.tree.specs.Trees.{Tree}
use Rattle.tree.specs.Erase.{erase}
use Rattle.token_grammar.specs.Tokens.{Token, struct_token, code, cells_of}
use Rattle.token_grammar.specs.Codes.{tokens_of, are_tokens, code_at}
use Rattle.token_grammar.specs.Types.{one}
use Rattle.token_grammar.specs.Expressions.{Expr, write}
use Rattle.token_grammar.specs.Grammar.{Context, Fits}
use Rattle.token_grammar.specs.Commas.{without_commas, ended}
use Rattle.token_grammar.specs.Bare.{bare}
use Rattle.token_grammar.specs.Parser.{Out, fail, ok, parse}
use Rattle.token_grammar.proofs.Added.{add_all, AnyPair, drop_any}
use Rattle.token_grammar.proofs.Tokens.{tokens_cells, cells_tokens, cells_are}
use Rattle.token_grammar.proofs.Readings.{complete, correct, one_parse}
use Rattle.token_grammar.proofs.Pairs.{bare_all, fits_all}
use Rattle.token_grammar.proofs.Needed.{bare_drop_any, drop_unfit}
use Rattle.token_grammar.proofs.Erased.{erased}
use Rattle.token_grammar.proofs.Injective.{core, injective}
use Rattle.token_grammar.proofs.Commas.{fits_without, fits_with, puts}
use Rattle.token_grammar.proofs.Contexts.{wider, any_context, clean}
use Rattle.token_plain.specs.Trees.{tree_of, without_parens}
use Rattle.token_plain.specs.Reads.{Reads}
use Rattle.token_plain.specs.Commas.{SameReadings, OnlyCommas}
use Rattle.token_plain.specs.Contexts.{Wider, AnyContext}
use Rattle.token_plain.proofs.Parens.{without_bare}
use Rattle.token_plain.proofs.Injective.{tree_same}
use Rattle.token_plain.proofs.Shapes.{shape_tree}
use Rattle.token_plain.proofs.Commas.{tree_without}

-- the cells of tokens spell no other tokens
spelled_once : (ts us : List Token) → cells_of ts ≡ cells_of us → ts ≡ us
spelled_once ts us e = sym (tokens_cells ts) ∙ ap tokens_of e ∙ tokens_cells us

-- A token list has at most one reading.
pub one_reading : {c : Context} {cells : List ℕ} {t u : Tree} → Reads c cells t → Reads c cells u → t ≡ u
one_reading {c} r s =
    sym r.same
    ∙ ap (λ e. without_parens (tree_of e)) (one_parse c r.parsed s.parsed r.fit s.fit (spelled_once _ _ (r.whole ∙ sym s.whole)))
    ∙ s.same

-- The parser finds it exactly where there is one: what it gives for the whole list is a reading,
pub found : (c : Context) (ts : List Token) (e : Expr one) → parse c ts ≡ ok e [] → Reads c (cells_of ts) (without_parens (tree_of e))
found c ts e h = record { parsed = e; fit = (correct c ts e h).0; whole = ap cells_of (correct c ts e h).1; same = refl }

-- and each reading is what it gives.
pub finds : {c : Context} {cells : List ℕ} {t : Tree} (r : Reads c cells t) → parse c (tokens_of cells) ≡ ok r.parsed []
finds {c} r = ap (parse c) (ap tokens_of (sym r.whole) ∙ tokens_cells (write r.parsed [])) ∙ complete c r.parsed r.fit

-- A token list has a reading or has none.
pub read_or_not : (c : Context) (cells : List ℕ) → ((t : Tree) × Reads c cells t) ⊎ ((t : Tree) → Reads c cells t → ⊥)
read_or_not c cells = go (are_tokens cells) refl (parse c (tokens_of cells)) refl
  where
    go : (b : Bool) → are_tokens cells ≡ b → (o : Out (Expr one)) → parse c (tokens_of cells) ≡ o → ((t : Tree) × Reads c cells t) ⊎ ((t : Tree) → Reads c cells t → ⊥)
    go false e o q = inr (λ t r. true_not_false (sym (true_of (subst (λ ns. T (are_tokens ns)) r.whole (cells_are (write r.parsed [])))) ∙ e))
    go true e fail q = inr (λ t r. let k = finds r in let z : ◌≡◌ {A = ℕ} 0 1 = cc in omega arith)
    go true e (ok x []) q = inl (_, subst (λ ns. Reads c ns (without_parens (tree_of x))) (cells_tokens cells (of_true e)) (found c (tokens_of cells) x q))
    go true e (ok x (y ∷ rest)) q = inr (λ t r. let k = finds r in let z : ◌≡◌ {A = ℕ} 0 1 = cc in omega arith)

-- What is written with the pairs that levels and the context ask for, and with no comma after a last item, reads as the tree without its own parentheses;
pub reads_back : (c : Context) (e : Expr one) → Reads c (cells_of (write (without_commas (add_all c e)) [])) (without_parens (tree_of e))
reads_back c e =
    record {
      parsed = without_commas (add_all c e);
      fit = fits_without c (add_all c e) (fits_all c e);
      whole = refl;
      same = ap without_parens (tree_without (add_all c e)) ∙ without_bare (add_all c e) ∙ ap tree_of (bare_all c e) ∙ sym (without_bare e);
    }

-- trees that have one shape without their own parentheses have one core
core_same : (d e : Expr one) → erase (without_parens (tree_of d)) ≡ erase (without_parens (tree_of e)) → core d ≡ core e
core_same d e q =
    tree_same (erased (bare d)) (erased (bare e))
    (shape_tree (bare d) ∙ sym (ap erase (without_bare d)) ∙ q ∙ ap erase (without_bare e) ∙ sym (shape_tree (bare e)))

-- without one of them it reads as a tree of another shape or not at all.
pub needed : (c : Context) (e : Expr one) (q : AnyPair c e) (t : Tree) → Reads c (cells_of (write (without_commas (drop_any c e q)) [])) t → erase t ≡ erase (without_parens (tree_of e)) → ⊥
needed c e q t r s =
    let d = drop_any c e q in
    let k = core_same (without_commas d) e (ap erase (ap without_parens (tree_without d) ∙ without_bare d ∙ ap tree_of (bare_drop_any c e q) ∙ sym (without_bare e))) in
    let same = injective e r.parsed (without_commas d) (core_same r.parsed e (ap erase r.same ∙ s)) k (spelled_once _ _ r.whole) in
    drop_unfit c e q (fits_with c d (subst (Fits c) same r.fit))

-- ---- commas after last items

pub same_readings : SameReadings
same_readings c d e h q t r =
    record {
      parsed = e;
      fit = fits_with c e (subst (Fits c) q (fits_without c d h));
      whole = refl;
      same =
          ap without_parens (sym (tree_without e) ∙ ap tree_of (sym q) ∙ tree_without d)
          ∙ ap (λ p. without_parens (tree_of p)) (sym (one_parse c r.parsed d r.fit h (spelled_once _ _ r.whole)))
          ∙ r.same;
    }

pub only_commas : OnlyCommas
only_commas e = puts e [] [] ended

-- ---- contexts

pub wider_reading : Wider
wider_reading c cells t r = record { parsed = r.parsed; fit = wider c r.parsed r.fit; whole = r.whole; same = r.same }

pub any_reading : AnyContext
any_reading c d cells h t r =
    let free = (clean r.parsed [] (record { none = subst (λ ns. (i : ℕ) → code_at ns i ≡ code struct_token → ⊥) (sym r.whole) h })).0 in
    record { parsed = r.parsed; fit = any_context c d r.parsed free r.fit; whole = r.whole; same = r.same }
