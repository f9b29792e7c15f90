-- `reading::report` meets its contract. Assumes nothing.
use mathlib.Core.Path.{◌≡◌, sym, subst, ◌∙◌}
use mathlib.Core.List.{List}
use Prim.Native.Nat.{ℕ}
use native.Mathlib.Omega.{arith}
use Rattle.text.proofs.Growing.{fits, whole}
use Rattle.text.proofs.Spaces.{no_most}
use Rattle.text.specs.Numbers.{no_line}
use Rattle.std.specs.Prelude.{Option, None, Some}
use Rattle.file_numbers.specs.Standing.{stands_at}
use Rattle.reading.specs.Text.{numbers_in, tokens_in, Answered, Printed}
use borrow.Author.Rules.{rules}
use Rattle.laws.proofs.Calls.{free}
use Rattle.reading.proofs.report.Goals as goal

not_both : {A : Type 0} (n next : ℕ) → ◌≡◌ {A = Option (ℕ × ℕ)} None (Some (n, next)) → A
not_both n next e = absurd (let z : ◌≡◌ {A = ℕ} 0 1 = cc in omega arith)

-- no context stands there
printed_none : {file text : List ℕ} → None ≡ stands_at file 0 → text ≡ no_line 14 → Printed file text
printed_none e t = record { bad = λ q. t; good = λ n next q. not_both n next (e ∙ q) }

pub returns-in-None : goal.returns-in-None
returns-in-None c =
    let head = no_most 14 (omega arith) in
    let all = whole (fits (omega arith) c.put_no.ensures) in
    record {
      prefix_len = all.0;
      printed = printed_none (sym c.in-None.is ∙ c.number_at.ensures) all.1;
    }
