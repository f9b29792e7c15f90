-- What is read of the whole list is its reading, and a list of which something else is read has none. Assumes nothing.
use mathlib.Core.Path.{◌≡◌, refl, sym, subst, ap, ◌∙◌}
use mathlib.Core.Bool.{Bool, true, false, not}
use mathlib.Core.List.{List, [], ◌∷◌}
use Prim.Native.Nat.{ℕ, zero, suc, ◌+◌, ◌*◌, ◌≤◌, ◌<◌}
use native.Mathlib.Omega.{arith}
use lib.ListN.{length, drop, length-drop}
use borrow.Author.Tests.{ltb-false, lt-ltb, le-ltb}
use Rattle.laws.specs.Choice.{pick, lookup}
use Rattle.tree.specs.Replies.{refusals, replied}
use Rattle.laws.proofs.Choice.{true_not_false, of_true, or_false, or_here, or_next}
use Rattle.tree.specs.Sizes.{node_cells, token_cells, most_nodes, most_tokens}
use Rattle.tree.specs.Trees.{Tree, tree_at}
use Rattle.tree_rules.specs.Refusals.{refusal3}
use Rattle.token_grammar.specs.Tokens.{Token}
use Rattle.token_grammar.specs.Codes.{tokens_of, are_tokens}
use Rattle.token_grammar.specs.Bounds.{loosest}
use Rattle.token_grammar.specs.Types.{one}
use Rattle.token_grammar.specs.Expressions.{Expr}
use Rattle.token_grammar.specs.Grammar.{Context, NONE, CONDITION, context_number}
use Rattle.token_grammar.specs.Bare.{bare}
use Rattle.token_grammar.specs.Parser.{Out, fail, ok, expr_by, parse}
use Rattle.token_grammar.proofs.Tokens.{cells_tokens}
use Rattle.token_plain.specs.Trees.{tree_of, without_parens}
use Rattle.token_plain.specs.Reads.{Reads}
use Rattle.token_plain.proofs.Parens.{without_bare}
use Rattle.token_plain.proofs.Readings.{one_reading, found, finds}
use Rattle.tree_numbering.specs.Numbered.{size, too_large}
use Rattle.tree_numbering.specs.Renumbering.{too_short, renumbered, renumbered_after}
use Rattle.std.specs.Prelude.{Result}
use Rattle.tree.specs.declared.refusal.Refusal.{Refusal}
use Rattle.token_reader.specs.declared.piece.Parsed.{Parsed}
use Rattle.token_reader.specs.Reading.{refused, read_refusal12, refusal14, count_or_large, read_table, AnswersIn, read_refusal13, context_of, Answers}
use Rattle.token_reader.specs.Pieces.{many, Tells, IsExpr, ExprAt, reply_of}
use Rattle.token_reader.proofs.Nodes.{placed_tree}

length_tokens : (tokens : List ℕ) → length (tokens_of tokens) ≡ many tokens
length_tokens [] = omega arith
length_tokens (n ∷ []) = omega arith
length_tokens (n ∷ y ∷ ns) = omega (arith, length_tokens ns)

-- nothing is left exactly at the end
left_none : (ts : List Token) (n : ℕ) → n ≤ length ts → drop n ts ≡ [] → n ≡ length ts
left_none ts n h e = let z : length (drop n ts) ≡ 0 = ap length e in omega (arith, length-drop n ts)

none_left : (ts : List Token) → drop (length ts) ts ≡ []
none_left [] = refl
none_left (t ∷ ts) = none_left ts

module _ {c : Context} {tokens own now : List ℕ} {free : ℕ} (r : Parsed) (i : ExprAt c tokens own now 0 free loosest r) where
  tells : Tells (IsExpr now r) tokens r.at (parse c (tokens_of tokens))
  unfolding parse
  tells = subst (λ n. Tells (IsExpr now r) tokens r.at (expr_by (2 * n) c loosest (tokens_of tokens))) (sym (length_tokens tokens)) (i.tells (2 * many tokens) (omega arith))

  pub unread : (r.at ≡ many tokens → ⊥) → (t : Tree) → Reads c tokens t → ⊥
  unread n t x =
      let g = subst (Tells (IsExpr now r) tokens r.at) (finds x) tells in
      n (left_none (tokens_of tokens) r.at (omega (arith, length_tokens tokens, g.0)) (sym g.1) ∙ length_tokens tokens)

  -- the tree at the node after the free ones
  pub whole : are_tokens tokens ≡ true → r.at ≡ many tokens → Reads c tokens (tree_at now most_tokens (r.free + 1))
  whole known e = go (parse c (tokens_of tokens)) refl tells
    where
      go : (o : Out (Expr one)) → parse c (tokens_of tokens) ≡ o → Tells (IsExpr now r) tokens r.at o → Reads c tokens (tree_at now most_tokens (r.free + 1))
      go fail q k = absurd (omega arith)
      go (ok x rest) q k =
          let z : rest ≡ [] = k.1 ∙ ap (λ n. drop n (tokens_of tokens)) (e ∙ sym (length_tokens tokens)) ∙ none_left (tokens_of tokens) in
          let here = placed_tree now r.free (r.free + 1) (tree_of (bare x)) (omega arith) k.2.placed in
          subst (λ t. Reads c tokens t) (without_bare x ∙ sym here)
          (subst (λ n. Reads c n (without_parens (tree_of x))) (cells_tokens tokens (of_true known)) (found c (tokens_of tokens) x (q ∙ ap (ok x) z)))

-- ---- replies

-- a table for 4,096 nodes is never too short
long_enough : (t : Tree) (cells : ℕ) → node_cells * most_nodes ≤ cells → too_large t ≡ false → too_short t cells ≡ false
unfolding too_large too_short
long_enough t cells h e = le-ltb cells (node_cells * size t) (omega (arith, ltb-false most_nodes (size t) (or_false _ _ e).0))

reply : (t : Tree) (cells : ℕ) → node_cells * most_nodes ≤ cells → reply_of (renumbered t cells) ≡ count_or_large t
unfolding reply_of renumbered count_or_large pick replied refusals lookup
reply t cells h = go (too_large t) refl
  where
    go : (b : Bool) → too_large t ≡ b → reply_of (renumbered t cells) ≡ count_or_large t
    go true e = rw e
    go false e = rw (e, long_enough t cells h e)

after : (t : Tree) (table : List ℕ) → node_cells * most_nodes ≤ length table → renumbered_after t table ≡ read_table t table
unfolding renumbered_after read_table pick
after t table h = go (too_large t) refl
  where
    go : (b : Bool) → too_large t ≡ b → renumbered_after t table ≡ read_table t table
    go true e = rw e
    go false e = rw (e, long_enough t (length table) h e)

module _ (c : Context) (tokens table : List ℕ) where
  pub answers_short : length table < node_cells * most_nodes → AnswersIn c tokens table (refused 12) table
  unfolding read_refusal12
  answers_short h =
      let e = lt-ltb (length table) (node_cells * most_nodes) h in
      record {
        short = λ p. (refl, refl);
        unknown = λ p q. true_not_false (sym e ∙ p);
        unread = λ p q n. true_not_false (sym e ∙ p);
        read = λ p q t x. true_not_false (sym e ∙ p);
      }

  answers_unknown : node_cells * most_nodes ≤ length table → refusal14 tokens ≡ true → AnswersIn c tokens table (refused 14) table
  unfolding read_refusal12
  answers_unknown h e =
      record {
        short = λ p. true_not_false (sym p ∙ le-ltb (length table) (node_cells * most_nodes) h);
        unknown = λ p q. (refl, refl);
        unread = λ p q n. true_not_false (sym e ∙ q);
        read = λ p q t x. true_not_false (sym e ∙ q);
      }

  pub answers_long : node_cells * most_nodes ≤ length table → token_cells * most_tokens < length tokens → AnswersIn c tokens table (refused 14) table
  unfolding refusal14
  answers_long h k = answers_unknown h (or_here _ (lt-ltb (token_cells * most_tokens) (length tokens) k))

  pub answers_other : node_cells * most_nodes ≤ length table → length tokens ≤ token_cells * most_tokens → are_tokens tokens ≡ false → AnswersIn c tokens table (refused 14) table
  unfolding refusal14
  answers_other h k e = answers_unknown h (or_next _ (le-ltb (token_cells * most_tokens) (length tokens) k) ∙ ap not e)

  known_fits : length tokens ≤ token_cells * most_tokens → are_tokens tokens ≡ true → refusal14 tokens ≡ false
  unfolding refusal14
  known_fits k e = or_next _ (le-ltb (token_cells * most_tokens) (length tokens) k) ∙ ap not e

  pub answers_unread : node_cells * most_nodes ≤ length table → length tokens ≤ token_cells * most_tokens → are_tokens tokens ≡ true → ((t : Tree) → Reads c tokens t → ⊥) → AnswersIn c tokens table (refused 15) table
  unfolding read_refusal12
  answers_unread h k e n =
      record {
        short = λ p. true_not_false (sym p ∙ le-ltb (length table) (node_cells * most_nodes) h);
        unknown = λ p q. true_not_false (sym q ∙ known_fits k e);
        unread = λ p q m. (refl, refl);
        read = λ p q t x. absurd (n t x);
      }

  pub answers_read : {own now out : List ℕ} {free : ℕ} {r : Result ℕ Refusal} (x : Parsed) → node_cells * most_nodes ≤ length table → length tokens ≤ token_cells * most_tokens → are_tokens tokens ≡ true → ExprAt c tokens own now 0 free loosest x → x.at ≡ many tokens →
      r ≡ reply_of (renumbered (tree_at now most_tokens (x.free + 1)) (length table)) → out ≡ renumbered_after (tree_at now most_tokens (x.free + 1)) table → AnswersIn c tokens table r out
  unfolding read_refusal12
  answers_read {own} {now} {out} {free} {r} x h k e i z p q =
      let w = whole x i e z in
      record {
        short = λ a. true_not_false (sym a ∙ le-ltb (length table) (node_cells * most_nodes) h);
        unknown = λ a b. true_not_false (sym b ∙ known_fits k e);
        unread = λ a b n. absurd (n _ w);
        read = λ a b t y.
            let s : tree_at now most_tokens (x.free + 1) ≡ t = one_reading w y in
            (p ∙ ap (λ u. reply_of (renumbered u (length table))) s ∙ reply t (length table) h, q ∙ ap (λ u. renumbered_after u table) s ∙ after t table h);
      }

-- ---- by the context's number

one_or_two : (n : ℕ) → n ≤ context_number CONDITION → (n ≡ context_number NONE → ⊥) → (n ≡ context_number CONDITION → ⊥) → read_refusal13 n ≡ true
unfolding read_refusal13
one_or_two zero h n m = absurd (n refl)
one_or_two (suc zero) h n m = refl
one_or_two (suc (suc zero)) h n m = refl
one_or_two (suc (suc (suc zero))) h n m = absurd (m refl)
one_or_two (suc (suc (suc (suc k)))) h n m = absurd (omega arith)

module _ {context : ℕ} {tokens table : List ℕ} where
  pub answers_above : context_number CONDITION < context → Answers context tokens table (refused 3) table
  unfolding refusal3
  answers_above h =
      let e = lt-ltb (context_number CONDITION) context h in
      record { above = λ p. (refl, refl); other = λ p q. true_not_false (sym e ∙ p); inside = λ p q. true_not_false (sym e ∙ p) }

  module _ {after : List ℕ} {r : Result ℕ Refusal} where
    pub answers_none : context ≡ context_number NONE → AnswersIn NONE tokens table r after → Answers context tokens table r after
    unfolding refusal3 read_refusal13 context_of pick
    answers_none e a = rw e (record { above = λ h. true_not_false (sym h); other = λ h k. true_not_false (sym k); inside = λ h k. a })

    pub answers_condition : context ≡ context_number CONDITION → AnswersIn CONDITION tokens table r after → Answers context tokens table r after
    unfolding refusal3 read_refusal13 context_of pick
    answers_condition e a = rw e (record { above = λ h. true_not_false (sym h); other = λ h k. true_not_false (sym k); inside = λ h k. a })

  -- the others are 1 and 2
  pub answers_between : (context ≤ context_number CONDITION) → (context ≡ context_number NONE → ⊥) → (context ≡ context_number CONDITION → ⊥) → Answers context tokens table (refused 13) table
  unfolding refusal3 read_refusal13
  answers_between h n m =
      let e = le-ltb (context_number CONDITION) context h in
      record { above = λ p. true_not_false (sym p ∙ e); other = λ p q. (refl, refl); inside = λ p q. true_not_false (sym (one_or_two context h n m) ∙ q) }
