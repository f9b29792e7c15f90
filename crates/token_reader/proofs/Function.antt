-- `Answers` is a function: two answers to one input are the same reply and the same table. Assumes nothing.
use mathlib.Core.Path.{◌≡◌, refl, sym, ◌∙◌}
use mathlib.Core.Bool.{Bool, true, false}
use mathlib.Core.List.{List}
use mathlib.Core.Logic.{◌⊎◌, inl, inr}
use Prim.Native.Nat.{ℕ}
use lib.ListN.{length}
use Rattle.tree.specs.Trees.{Tree}
use Rattle.tree_rules.specs.Refusals.{refusal3}
use Rattle.token_grammar.specs.Grammar.{Context}
use Rattle.token_plain.specs.Reads.{Reads}
use Rattle.token_plain.proofs.Readings.{read_or_not}
use Rattle.std.specs.Prelude.{Result}
use Rattle.tree.specs.declared.refusal.Refusal.{Refusal}
use Rattle.token_reader.specs.Reading.{read_refusal12, refusal14, AnswersIn, read_refusal13, Answers}

alike : {reply reply' r : (Result ℕ Refusal)} {after after' t : List ℕ} → (reply ≡ r) × (after ≡ t) → (reply' ≡ r) × (after' ≡ t) → (reply ≡ reply') × (after ≡ after')
alike p q = (p.0 ∙ sym q.0, p.1 ∙ sym q.1)

in_one : {c : Context} {tokens table after after' : List ℕ} {reply reply' : (Result ℕ Refusal)} → AnswersIn c tokens table reply after → AnswersIn c tokens table reply' after'
    → (reply ≡ reply') × (after ≡ after')
in_one {c} {tokens} {table} {after} {after'} {reply} {reply'} a b = short (read_refusal12 (length table)) refl
  where
    read : read_refusal12 (length table) ≡ false → refusal14 tokens ≡ false → ((t : Tree) × Reads c tokens t) ⊎ ((t : Tree) → Reads c tokens t → ⊥) → (reply ≡ reply') × (after ≡ after')
    read p q (inl x) = alike (a.read p q x.0 x.1) (b.read p q x.0 x.1)
    read p q (inr n) = alike (a.unread p q n) (b.unread p q n)

    known : read_refusal12 (length table) ≡ false → (c : Bool) → refusal14 tokens ≡ c → (reply ≡ reply') × (after ≡ after')
    known p true q = alike (a.unknown p q) (b.unknown p q)
    known p false q = read p q (read_or_not c tokens)

    short : (c : Bool) → read_refusal12 (length table) ≡ c → (reply ≡ reply') × (after ≡ after')
    short true p = alike (a.short p) (b.short p)
    short false p = known p (refusal14 tokens) refl

pub answers_one : {context : ℕ} {tokens table after after' : List ℕ} {reply reply' : (Result ℕ Refusal)} → Answers context tokens table reply after → Answers context tokens table reply' after'
    → (reply ≡ reply') × (after ≡ after')
answers_one {context} {tokens} {table} {after} {after'} {reply} {reply'} a b = above (refusal3 context) refl
  where
    other : refusal3 context ≡ false → (c : Bool) → read_refusal13 context ≡ c → (reply ≡ reply') × (after ≡ after')
    other p true q = alike (a.other p q) (b.other p q)
    other p false q = in_one (a.inside p q) (b.inside p q)

    above : (c : Bool) → refusal3 context ≡ c → (reply ≡ reply') × (after ≡ after')
    above true p = alike (a.above p) (b.above p)
    above false p = other p (read_refusal13 context) refl
