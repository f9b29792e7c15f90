-- What a question's answers, and the steps of the one loop, say in the words of Walks. No promise outside this crate cites it.
use Rattle.std.specs.Prelude.{ℕ}
use Rattle.tree.specs.Walks.{Ask, answer, first, second}
use Rattle.tree.specs.Steps.{Step, ends, goes}
use Rattle.std.specs.declared.ops.ControlFlow.{ControlFlow}
use Rattle.std.specs.declared.ops.ControlFlow.TheVariants.{Break, Continue}
use Rattle.tree.specs.declared.question.Asked.{Asked}
use Rattle.tree.specs.declared.question.Asked.TheVariants.{Answer, First, Second}

abbrev pub asked : {A : Type 0} → Asked A → Ask A
asked (Answer a) = answer a
asked First = first
asked Second = second

abbrev pub stepped : {A : Type 0} → ControlFlow A ℕ → Step A
stepped (Break x) = ends x
stepped (Continue n) = goes n
