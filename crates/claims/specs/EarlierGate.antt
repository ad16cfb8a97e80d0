-- The plain gate from before take-backs (document 01, "Plain gate" and rows 20 to 23 of "When something is turned away"), written out, and that step and
-- withdraw are as before (document 02, change 7).
use Rattle.std.specs.Prelude.{ℕ, ◌≤◌, ◌<◌, ◌≡◌, ◌↔◌, List, [], ◌∷◌, ◌++◌, length, get_or}
use Rattle.theory.specs.History.{count}
use Rattle.theory.specs.Relative.{RelativelySerializable}
use Rattle.book.specs.Format.{Contents, lengths}
use Rattle.book.specs.Meaning.{conflict_of, unit_of}
use Rattle.plain.specs.Plain.{Call, step, withdraw, take_back, Answer, place, withdrawn, refused, State, In, insert, PlainCall, PlainCalls}
use Rattle.plain.specs.Demand.{At}
use Rattle.claims.specs.Table.{StepsOrWithdraws}

-- State: the kept list K and the withdrawn set W, this as a rising list
pub record EarlierState : Type 0 where
  pub kept : List ℕ
  pub withdrawn : List ℕ

-- what a call answers, and the state that it leaves
pub data EarlierCall (c : Contents) (g : EarlierState) : Call → Answer → EarlierState → Type 0 where
  -- Step r: refused by 20, 21, 22, 23 in that order: run not declared,
  step_20 : {r : ℕ} → length c.runs ≤ r → EarlierCall c g (step r) (refused 20) g
  -- run withdrawn,
  step_21 : {r : ℕ} → r < length c.runs → In r g.withdrawn → EarlierCall c g (step r) (refused 21) g
  -- all steps of the run kept,
  step_22 : {r : ℕ} → r < length c.runs → ¬ In r g.withdrawn → get_or (lengths c.runs) r 0 ≤ count g.kept r → EarlierCall c g (step r) (refused 22) g
  -- tangled: no relatively serial order of K with r at its end agrees with it on every conflicting pair;
  step_23 : {r : ℕ} → r < length c.runs → ¬ In r g.withdrawn → count g.kept r < get_or (lengths c.runs) r 0
      → ¬ RelativelySerializable (conflict_of c) (unit_of c) (g.kept ++ r ∷ []) → EarlierCall c g (step r) (refused 23) g
  -- else r joins the end of K, and the answer is its place.
  step_joins : {r : ℕ} → r < length c.runs → ¬ In r g.withdrawn → count g.kept r < get_or (lengths c.runs) r 0
      → RelativelySerializable (conflict_of c) (unit_of c) (g.kept ++ r ∷ [])
      → EarlierCall c g (step r) (place (length g.kept)) (record { kept = g.kept ++ r ∷ []; withdrawn = g.withdrawn })
  -- Withdraw r: refused by 20, 21, 22 in that order;
  withdraw_20 : {r : ℕ} → length c.runs ≤ r → EarlierCall c g (withdraw r) (refused 20) g
  withdraw_21 : {r : ℕ} → r < length c.runs → In r g.withdrawn → EarlierCall c g (withdraw r) (refused 21) g
  withdraw_22 : {r : ℕ} → r < length c.runs → ¬ In r g.withdrawn → get_or (lengths c.runs) r 0 ≤ count g.kept r → EarlierCall c g (withdraw r) (refused 22) g
  -- else r joins W, K stays, and the answer is "withdrawn".
  withdraw_joins : {r : ℕ} → r < length c.runs → ¬ In r g.withdrawn → count g.kept r < get_or (lengths c.runs) r 0
      → EarlierCall c g (withdraw r) withdrawn (record { kept = g.kept; withdrawn = insert r g.withdrawn })

-- calls made in turn: their answers in order, and the state after the last
pub data EarlierCalls (c : Contents) : EarlierState → List Call → List Answer → EarlierState → Type 0 where
  none : {g : EarlierState} → EarlierCalls c g [] [] g
  next : {g h k : EarlierState} {x : Call} {a : Answer} {xs : List Call} {bs : List Answer} → EarlierCall c g x a h → EarlierCalls c h xs bs k
      → EarlierCalls c g (x ∷ xs) (a ∷ bs) k

-- the state without the runs taken back
abbrev pub earlier_state : State → EarlierState
earlier_state g = record { kept = g.kept; withdrawn = g.withdrawn }

-- no call of the list is a take-back
abbrev pub NoTakeBack : List Call → Type 0
NoTakeBack calls = (i r : ℕ) → ¬ At calls i (take_back r)

pub record GateAsBefore : Type 0 where
  -- A step or a withdrawal answers as before and leaves the kept list and the withdrawn runs as before; the runs taken back stay as they are.
  pub as_before : (c : Contents) (g h : State) (x : Call) (a : Answer) (r : ℕ) → StepsOrWithdraws r x
      → PlainCall c g x a h ↔ (EarlierCall c (earlier_state g) x a (earlier_state h) × (h.taken_back ≡ g.taken_back))
  -- So does a list of calls without a take-back, from a newly opened gate on, as from any state.
  pub lists_as_before : (c : Contents) (g h : State) (calls : List Call) (answers : List Answer) → NoTakeBack calls
      → PlainCalls c g calls answers h ↔ (EarlierCalls c (earlier_state g) calls answers (earlier_state h) × (h.taken_back ≡ g.taken_back))
