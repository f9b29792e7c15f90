-- The enum of the forms and their numbers in document 01.
use Rattle.std.specs.Prelude.{◌≡◌, ℕ, ◌⊎◌, ◌<◌, ◌≤◌, List, Option, MatchOption, Result, MatchResult}
use Rattle.tree.specs.Table.{form_at}
use Rattle.tree.specs.Operands.{form_in}
use Rattle.tree.specs.declared.form.Form.{Form}
use Rattle.tree.specs.declared.form.Form.TheVariants.{ExprArray, ExprAssign, ExprAsync, ExprAwait, ExprBinary, ExprBlock, ExprBreak, ExprCall, ExprCast, ExprClosure, ExprConst, ExprContinue, ExprField, ExprForLoop, ExprGroup, ExprIf, ExprIndex, ExprInfer, ExprLet, ExprLit, ExprLoop, ExprMacro, ExprMatch, ExprMethodCall, ExprParen, ExprPath, ExprRange, ExprRawAddr, ExprReference, ExprRepeat, ExprReturn, ExprStruct, ExprTry, ExprTryBlock, ExprTuple, ExprUnary, ExprUnsafe, ExprVerbatim, ExprWhile, ExprYield, TypeArray, TypeFnPtr, TypeGroup, TypeImplTrait, TypeInfer, TypeMacro, TypeNever, TypeParen, TypePath, TypePtr, TypeReference, TypeSlice, TypeTraitObject, TypeTuple, TypeVerbatim, Link}
use Rattle.tree.specs.declared.form.UnknownForm.{UnknownForm}

abbrev pub number_of : Form → ℕ
number_of ExprArray = 1
number_of ExprAssign = 2
number_of ExprAsync = 3
number_of ExprAwait = 4
number_of ExprBinary = 5
number_of ExprBlock = 6
number_of ExprBreak = 7
number_of ExprCall = 8
number_of ExprCast = 9
number_of ExprClosure = 10
number_of ExprConst = 11
number_of ExprContinue = 12
number_of ExprField = 13
number_of ExprForLoop = 14
number_of ExprGroup = 15
number_of ExprIf = 16
number_of ExprIndex = 17
number_of ExprInfer = 18
number_of ExprLet = 19
number_of ExprLit = 20
number_of ExprLoop = 21
number_of ExprMacro = 22
number_of ExprMatch = 23
number_of ExprMethodCall = 24
number_of ExprParen = 25
number_of ExprPath = 26
number_of ExprRange = 27
number_of ExprRawAddr = 28
number_of ExprReference = 29
number_of ExprRepeat = 30
number_of ExprReturn = 31
number_of ExprStruct = 32
number_of ExprTry = 33
number_of ExprTryBlock = 34
number_of ExprTuple = 35
number_of ExprUnary = 36
number_of ExprUnsafe = 37
number_of ExprVerbatim = 38
number_of ExprWhile = 39
number_of ExprYield = 40
number_of TypeArray = 41
number_of TypeFnPtr = 42
number_of TypeGroup = 43
number_of TypeImplTrait = 44
number_of TypeInfer = 45
number_of TypeMacro = 46
number_of TypeNever = 47
number_of TypeParen = 48
number_of TypePath = 49
number_of TypePtr = 50
number_of TypeReference = 51
number_of TypeSlice = 52
number_of TypeTraitObject = 53
number_of TypeTuple = 54
number_of TypeVerbatim = 55
number_of Link = 56

-- the form with this number, or the number back, which is 0 or above 56
abbrev pub Decodes : ℕ → Result Form UnknownForm → Type 0
Decodes n r = MatchResult r (λ form. number_of form ≡ n) (λ e. (e.0 ≡ n) × ((n ≡ 0) ⊎ (56 < n)))

-- the form of node i: there is such a node, and this is its form's number; or there is none, or its number is no form's
abbrev pub IsForm : List ℕ → ℕ → ℕ → Option Form → Type 0
IsForm cells count i r =
    MatchOption
    r
    ((form_in cells count i ≡ 0) ⊎ (56 < form_in cells count i))
    (λ form. (1 ≤ i) × (i ≤ count) × (number_of form ≡ form_at cells i) × (number_of form ≡ form_in cells count i))
