-- What the reader's answers leave for printing. Assumes nothing.
use mathlib.Core.Path.{◌≡◌, refl}
use mathlib.Core.Bool.{Bool, true, false}
use mathlib.Core.List.{List}
use Prim.Native.Nat.{ℕ, ◌≤◌}
use native.Mathlib.Omega.{arith}
use native.Mathlib.Decide.{dec_le}
use lib.ListN.{length}
use borrow.Author.Tests.{ltb-false}
use Rattle.laws.specs.Choice.{pick}
use Rattle.laws.proofs.Choice.{or_false}
use Rattle.tree.specs.Sizes.{most_nodes}
use Rattle.tree.specs.Trees.{Tree}
use Rattle.tree_rules.specs.Refusals.{refusal3}
use Rattle.tree_numbering.specs.Numbered.{size, too_large}
use Rattle.token_grammar.specs.Grammar.{Context}
use Rattle.std.specs.Prelude.{Result, Ok, Err}
use Rattle.laws.specs.Choice.{lookup}
use Rattle.tree.specs.declared.refusal.Refusal.{Refusal}
use Rattle.tree.specs.Replies.{refusals, replied}
use Rattle.token_reader.specs.Reading.{refused, read_refusal12, refusal14, count_or_large, AnswersIn, read_refusal13, Answers}

refused_nodes : {A : Type 0} (n : ℕ) (m : Refusal) → Ok n ≡ Err m → A
refused_nodes n m e = absurd (let z : ◌≡◌ {A = ℕ} 0 1 = cc in omega arith)

-- a reading of which the nodes are counted is not too large
counted_most : (n : ℕ) (t : Tree) → Ok n ≡ count_or_large t → n ≤ most_nodes
unfolding count_or_large pick too_large replied refusals lookup
counted_most n t e = go (too_large t) refl e
  where
    go : (b : Bool) → too_large t ≡ b → Ok n ≡ pick b (refused 16) (Ok (size t)) → n ≤ most_nodes
    go true p q = refused_nodes n _ q
    go false p q =
        let most = ltb-false most_nodes (size t) (or_false _ _ p).0 in
        let s : n ≡ size t = cc in
        omega arith

-- a reading that is found has at most 4,096 nodes
in_most : (c : Context) (codes table after : List ℕ) (n : ℕ) → AnswersIn c codes table (Ok n) after → n ≤ most_nodes
unfolding replied refusals lookup pick
in_most c codes table after n a = short (read_refusal12 (length table)) refl
  where
    read : read_refusal12 (length table) ≡ false → refusal14 codes ≡ false → Dec (n ≤ most_nodes) → n ≤ most_nodes
    read p q (yes h) = h
    read p q (no h) = refused_nodes n _ (a.unread p q (λ t r. h (counted_most n t (a.read p q t r).0))).0

    known : read_refusal12 (length table) ≡ false → (b : Bool) → refusal14 codes ≡ b → n ≤ most_nodes
    known p true q = refused_nodes n _ (a.unknown p q).0
    known p false q = read p q (dec_le n most_nodes)

    short : (b : Bool) → read_refusal12 (length table) ≡ b → n ≤ most_nodes
    short true p = refused_nodes n _ (a.short p).0
    short false p = known p (refusal14 codes) refl

pub nodes_most : (context : ℕ) (codes table after : List ℕ) (n : ℕ) → Answers context codes table (Ok n) after → n ≤ most_nodes
unfolding replied refusals lookup pick
nodes_most context codes table after n a = above (refusal3 context) refl
  where
    other : refusal3 context ≡ false → (b : Bool) → read_refusal13 context ≡ b → n ≤ most_nodes
    other p true q = refused_nodes n _ (a.other p q).0
    other p false q = in_most _ codes table after n (a.inside p q)

    above : (b : Bool) → refusal3 context ≡ b → n ≤ most_nodes
    above true p = refused_nodes n _ (a.above p).0
    above false p = other p (read_refusal13 context) refl
