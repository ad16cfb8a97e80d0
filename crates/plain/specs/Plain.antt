-- The plain gate (document 01, "Plain gate" and rows 20 to 23 of "When something is turned away"; document 02, change 7), as rules: what each call
-- answers and leaves, over the contents of the book, the kept list K, the withdrawn set W and the set of runs taken back. It is a scheduler by
-- serialization graph testing.
-- Each call has at most one answer and next state (proofs/PlainGate.antt), and at least one (proofs/Total.antt).
use Rattle.std.specs.Prelude.{ℕ, ◌≤◌, ◌<◌, Bool, List, [], ◌∷◌, ◌++◌, length, get_or, eqb, ltb}
use Rattle.theory.specs.History.{count, project, but}
use Rattle.theory.specs.Relative.{RelativelySerializable}
use Rattle.book.specs.Format.{Contents, lengths, pick}
use Rattle.book.specs.Meaning.{conflict_of, unit_of}
use Rattle.book.specs.Numbers.{number}
use Rattle.book.specs.declared.Cause.{Cause}
use Rattle.book.specs.declared.Cause.TheVariants.{NotDeclared, Withdrawn, AllKept, Tangled, TakenBack}

-- step r, withdraw r, take back r
pub data Call : Type 0 where
  step : ℕ → Call
  withdraw : ℕ → Call
  take_back : ℕ → Call

-- a place, "withdrawn", "taken back", or a refusal's number
pub data Answer : Type 0 where
  place : ℕ → Answer
  withdrawn : Answer
  taken_back : Answer
  refused : ℕ → Answer

-- the kept list K, and the withdrawn set W and the runs taken back as rising lists
pub record State : Type 0 where
  pub kept : List ℕ
  pub withdrawn : List ℕ
  pub taken_back : List ℕ

-- all are empty at first
abbrev pub newly_opened : State
newly_opened = record { kept = []; withdrawn = []; taken_back = [] }

-- r is one of the numbers of l
abbrev pub In : ℕ → List ℕ → Type 0
In r l = 0 < count l r

-- the set with r in it
abbrev pub insert : ℕ → List ℕ → List ℕ
insert r [] = r ∷ []
insert r (x ∷ w) = pick (ltb r x) (r ∷ x ∷ w) (pick (eqb r x) (x ∷ w) (x ∷ insert r w))

-- r joins the end of K
abbrev pub keep : State → ℕ → State
keep g r = record { kept = g.kept ++ r ∷ []; withdrawn = g.withdrawn; taken_back = g.taken_back }

-- r joins W, K stays
abbrev pub withdraw_run : State → ℕ → State
withdraw_run g r = record { kept = g.kept; withdrawn = insert r g.withdrawn; taken_back = g.taken_back }

-- r's steps leave K, the others stay in order; r joins W and the runs taken back. K is projected to the other runs (003, Π_T), as a schedule is to leave out
-- an aborted transaction; other than by an abort, a complete run may be taken back too
abbrev pub take_run_back : State → ℕ → State
take_run_back g r = record { kept = project (but r) g.kept; withdrawn = insert r g.withdrawn; taken_back = insert r g.taken_back }

module _ (c : Contents) (g : State) where
  -- run r is declared, not withdrawn, and has a step left: K holds it fewer times than the book gives it steps
  pub record Eligible (r : ℕ) : Type 0 where
    pub declared : r < length c.runs
    pub not_withdrawn : ¬ In r g.withdrawn
    pub left : count g.kept r < get_or (lengths c.runs) r 0

  -- 20, 21 and 22, in that order: run not declared, run withdrawn, all steps of the run kept
  pub data Refusal (r : ℕ) : Cause → Type 0 where
    not_declared : length c.runs ≤ r → Refusal r NotDeclared
    was_withdrawn : r < length c.runs → In r g.withdrawn → Refusal r Withdrawn
    all_kept : r < length c.runs → ¬ In r g.withdrawn → get_or (lengths c.runs) r 0 ≤ count g.kept r → Refusal r AllKept

  -- run r is declared and was not taken back; it may be withdrawn, or have no step left
  pub record MayTakeBack (r : ℕ) : Type 0 where
    pub declared : r < length c.runs
    pub not_taken_back : ¬ In r g.taken_back

  -- of a take-back 20 and 32, in that order: run not declared, run taken back already
  pub data TakeBackRefusal (r : ℕ) : Cause → Type 0 where
    undeclared : length c.runs ≤ r → TakeBackRefusal r NotDeclared
    was_taken_back : r < length c.runs → In r g.taken_back → TakeBackRefusal r TakenBack

-- the rules, by the conflict of steps on which 23 rests: the book's own below
module _ (conflict : ℕ → ℕ → ℕ → ℕ → Bool) (c : Contents) (g : State) where
  -- 23, tangled: no relatively serial order of K with r at its end agrees with it on every conflicting pair
  abbrev pub IsTangledBy : ℕ → Type 0
  IsTangledBy r = ¬ RelativelySerializable conflict (unit_of c) (g.kept ++ r ∷ [])

  -- what a call answers, and the state that it leaves
  pub data PlainCallBy : Call → Answer → State → Type 0 where
    -- step r: refused by 20, 21, 22, 23 in that order; else r joins the end of K, and the answer is its place
    step_refused : {r : ℕ} {cause : Cause} → Refusal c g r cause → PlainCallBy (step r) (refused (number cause)) g
    step_tangled : {r : ℕ} → Eligible c g r → IsTangledBy r → PlainCallBy (step r) (refused (number Tangled)) g
    step_kept : {r : ℕ} → Eligible c g r → ¬ IsTangledBy r → PlainCallBy (step r) (place (length g.kept)) (keep g r)
    -- withdraw r: refused by 20, 21, 22 in that order; else r joins W, K stays, and the answer is "withdrawn"
    withdraw_refused : {r : ℕ} {cause : Cause} → Refusal c g r cause → PlainCallBy (withdraw r) (refused (number cause)) g
    withdraws : {r : ℕ} → Eligible c g r → PlainCallBy (withdraw r) withdrawn (withdraw_run g r)
    -- take back r: refused by 20, 32 in that order; else r's steps leave K, the others stay in order, r joins W, and the answer is "taken back"
    take_back_refused : {r : ℕ} {cause : Cause} → TakeBackRefusal c g r cause → PlainCallBy (take_back r) (refused (number cause)) g
    takes_back : {r : ℕ} → MayTakeBack c g r → PlainCallBy (take_back r) taken_back (take_run_back g r)

-- calls made in turn: their answers in order, and the state after the last
pub data PlainCallsBy (conflict : ℕ → ℕ → ℕ → ℕ → Bool) (c : Contents) : State → List Call → List Answer → State → Type 0 where
  none : {g : State} → PlainCallsBy conflict c g [] [] g
  next : {g h k : State} {x : Call} {a : Answer} {xs : List Call} {bs : List Answer} → PlainCallBy conflict c g x a h → PlainCallsBy conflict c h xs bs k
      → PlainCallsBy conflict c g (x ∷ xs) (a ∷ bs) k

-- the plain gate of a book goes by the book's own conflict
abbrev pub IsTangled : Contents → State → ℕ → Type 0
IsTangled c = IsTangledBy (conflict_of c) c

abbrev pub PlainCall : Contents → State → Call → Answer → State → Type 0
PlainCall c = PlainCallBy (conflict_of c) c

abbrev pub PlainCalls : Contents → State → List Call → List Answer → State → Type 0
PlainCalls c = PlainCallsBy (conflict_of c) c
