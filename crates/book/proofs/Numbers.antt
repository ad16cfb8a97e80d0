-- Each cause has a number of its own: of the list of all causes, the first with a cause's number is that cause.
use Prim.Native.Nat.{ℕ}
use mathlib.Core.Path.{◌≡◌, refl, ap, sym, ◌∙◌}
use mathlib.Core.List.{List, [], ◌∷◌}
use lib.Dec.{eqb}
use Rattle.book.specs.Format.{pick}
use Rattle.book.specs.Numbers.{number, OwnNumbers}
use Rattle.book.specs.declared.Cause.{Cause}
use Rattle.book.specs.declared.Cause.TheVariants.{BookTooLong, NoCommand, EndsEarly, OutOfOrder, WrongKind, NotRising, WrongRun, TooManyRuns, RunTooLong, TooManySteps, WrongCut, NoStepLeft, BytesAfterEnd, JudgeBufferShort, WriterBufferShort, NotDeclared, Withdrawn, AllKept, Tangled, NoCall, AnswersShort, Damaged, NoIsland, TakenBack}

-- the first of these causes with the number n; where none has it, any
abbrev first_with : ℕ → List Cause → Cause
first_with n [] = BookTooLong
first_with n (c ∷ cs) = pick (eqb (number c) n) c (first_with n cs)

-- the cause that has the number n
pub cause_of : ℕ → Cause
cause_of n =
    first_with
    n
    (BookTooLong
    ∷ NoCommand
    ∷ EndsEarly
    ∷ OutOfOrder
    ∷ WrongKind
    ∷ NotRising
    ∷ WrongRun
    ∷ TooManyRuns
    ∷ RunTooLong
    ∷ TooManySteps
    ∷ WrongCut
    ∷ NoStepLeft
    ∷ BytesAfterEnd
    ∷ JudgeBufferShort
    ∷ WriterBufferShort
    ∷ NotDeclared
    ∷ Withdrawn
    ∷ AllKept
    ∷ Tangled
    ∷ NoCall
    ∷ AnswersShort
    ∷ Damaged
    ∷ NoIsland
    ∷ TakenBack
    ∷ [])

pub cause_back : (cause : Cause) → cause_of (number cause) ≡ cause
unfolding cause_of
cause_back BookTooLong = refl
cause_back NoCommand = refl
cause_back EndsEarly = refl
cause_back OutOfOrder = refl
cause_back WrongKind = refl
cause_back NotRising = refl
cause_back WrongRun = refl
cause_back TooManyRuns = refl
cause_back RunTooLong = refl
cause_back TooManySteps = refl
cause_back WrongCut = refl
cause_back NoStepLeft = refl
cause_back BytesAfterEnd = refl
cause_back JudgeBufferShort = refl
cause_back WriterBufferShort = refl
cause_back NotDeclared = refl
cause_back Withdrawn = refl
cause_back AllKept = refl
cause_back Tangled = refl
cause_back NoCall = refl
cause_back AnswersShort = refl
cause_back Damaged = refl
cause_back NoIsland = refl
cause_back TakenBack = refl

pub own_numbers : OwnNumbers
own_numbers cause cause' e = sym (cause_back cause) ∙ ap cause_of e ∙ cause_back cause'
