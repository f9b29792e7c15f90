-- What the parser gives in steps, and what the reader knows of each. Assumes nothing.
use mathlib.Core.Path.{◌≡◌, sym, subst}
use mathlib.Core.Bool.{true}
use mathlib.Core.List.{List}
use Prim.Native.Nat.{ℕ, ◌+◌, ◌*◌, ◌≤◌, ◌<◌}
use native.Mathlib.Omega.{arith}
use lib.ListN.{length}
use Rattle.tree.specs.Sizes.{node_cells, most_tokens}
use Rattle.token_grammar.specs.Tokens.{Token}
use Rattle.token_grammar.specs.Codes.{are_tokens}
use Rattle.token_grammar.specs.Parser.{Out, fail, ok, then}
use Rattle.token_reader.specs.Pieces.{many, Ready, Grew, Tells, from}

-- where nothing is found, nothing comes of it
pub tells_none : {A B : Type 0} (Is : A → Type 0) (Be : B → Type 0) (tokens : List ℕ) (to to₂ : ℕ) (o : Out A) (k : A → List Token → Out B) →
    many tokens < to → many tokens < to₂ → Tells Is tokens to o → Tells Be tokens to₂ (then o k)
tells_none Is Be tokens to to₂ fail k h g t = g
tells_none Is Be tokens to to₂ (ok a rest) k h g t = absurd (omega (arith, t.0))

-- what is found is gone on from where it ends
pub tells_some : {A B : Type 0} (Is : A → Type 0) (Be : B → Type 0) (tokens : List ℕ) (to to₂ : ℕ) (o : Out A) (k : A → List Token → Out B) →
    to ≤ many tokens → Tells Is tokens to o → ((a : A) → Is a → Tells Be tokens to₂ (k a (from tokens to))) → Tells Be tokens to₂ (then o k)
tells_some Is Be tokens to to₂ fail k h t f = absurd (omega arith)
tells_some Is Be tokens to to₂ (ok a rest) k h t f = subst (λ q. Tells Be tokens to₂ (k a q)) (sym t.1) (f a t.2)

-- found or not
pub tells_then : {A B : Type 0} (Is : A → Type 0) (Be : B → Type 0) (tokens : List ℕ) (to to₂ : ℕ) (o : Out A) (k : A → List Token → Out B) →
    Tells Is tokens to o → (many tokens < to → many tokens < to₂) → ((a : A) → to ≤ many tokens → Is a → Tells Be tokens to₂ (k a (from tokens to))) → Tells Be tokens to₂ (then o k)
tells_then Is Be tokens to to₂ fail k t g f = g t
tells_then Is Be tokens to to₂ (ok a rest) k t g f = subst (λ q. Tells Be tokens to₂ (k a q)) (sym t.1) (f a t.0 t.2)

-- ---- where reading can go on

pub ready_start : {tokens own : List ℕ} {free : ℕ} → many tokens ≤ free → free ≤ most_tokens → are_tokens tokens ≡ true → node_cells * free ≤ length own → Ready tokens own 0 free
ready_start h m k e = record { short = omega arith; known = k; cells = e; room = omega arith; most = m; within = omega arith }

pub ready_on : {tokens own : List ℕ} {at free : ℕ} (to : ℕ) → at ≤ to → to ≤ many tokens → Ready tokens own at free → Ready tokens own to free
ready_on to h k r =
    record { short = r.short; known = r.known; cells = r.cells; room = omega (arith, r.room); most = r.most; within = k }

pub ready_grew : {tokens own now : List ℕ} {at free to left : ℕ} (to₂ : ℕ) → to ≤ to₂ → to₂ ≤ many tokens → Ready tokens own at free → Grew own now at free to left → Ready tokens now to₂ left
ready_grew to₂ h k r g =
    record {
      short = r.short;
      known = r.known;
      cells = omega (arith, r.cells, g.same, g.less);
      room = omega (arith, r.room, g.room);
      most = omega (arith, r.most, g.less);
      within = k;
    }

-- ---- a node for what was read: one is left where a token was passed before it, or stands behind it

pub stores : {tokens own now : List ℕ} {at free begun to left : ℕ} → Ready tokens own at free → Grew own now begun free to left → at + to < begun + many tokens → (1 ≤ left) × (node_cells * left ≤ length now)
stores r w h = (omega (arith, r.room, r.short, w.room), omega (arith, r.cells, r.most, w.less, w.same))
