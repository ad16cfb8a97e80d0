-- A run taken back (document 02, change 7), of whatever meets the contract of a gate's call, in Rattle and for C. That the gate answers lists with take-backs
-- as the plain gate does is demand 3 (plain Demand), the refusals by 20 and 32 are demand 1's (Table), and that step and withdraw are as before is EarlierGate.
use Rattle.std.specs.Prelude.{Ok, Err, ℕ, ◌<◌, ◌≡◌, ◌↔◌, ◌≢◌, List, [], ◌∷◌, length}
use Rattle.theory.specs.History.{count, project, but}
use Rattle.book.specs.Format.{Contents}
use Rattle.book.specs.Numbers.{number, value_of}
use Rattle.book.specs.declared.Cause.TheVariants.{Withdrawn, Tangled}
use Rattle.plain.specs.Plain.{Call, step, take_back, Answer, place, taken_back, refused, State, In}
use Rattle.gate.specs.Gate.{Replied, book_of, state_of, Sound, CalledAs}
use Rattle.plain.specs.Demand.{At, Admitted, Demand3}
use Rattle.gate.specs.declared.Gate.{Gate}
use Rattle.gate.specs.declared.Reply.TheVariants.{TakenBack}
use Rattle.capi.specs.Numbers.{answered}
use Rattle.capi.specs.Calls.{GateCall}
use Rattle.capi.specs.declared.Answered.{Answered}
use Rattle.claims.specs.Lazy.{book_2}

-- what the take-back of run r leaves: the record was g, and is h
pub record RunTakenBack (r : ℕ) (g h : Gate) : Type 0 where
  -- Its steps leave the kept list,
  pub steps_leave : count (state_of h).kept r ≡ 0
  -- the others stay in order,
  pub others_stay : (state_of h).kept ≡ project (but r) (state_of g).kept
  -- r is withdrawn, and the record holds that it was taken back;
  pub withdrawn : In r (state_of h).withdrawn
  pub taken_back : In r (state_of h).taken_back
  -- no other run is withdrawn or taken back by it, and the book is the same.
  pub others_withdrawn : (q : ℕ) → q ≢ r → In q (state_of h).withdrawn ↔ In q (state_of g).withdrawn
  pub others_taken_back : (q : ℕ) → q ≢ r → In q (state_of h).taken_back ↔ In q (state_of g).taken_back
  pub book : book_of h ≡ book_of g

-- step 0, 1, 1, 0; take back 1; step 0
abbrev pub tangled_calls : List Call
tangled_calls = step 0 ∷ step 1 ∷ step 1 ∷ step 0 ∷ take_back 1 ∷ step 0 ∷ []

pub record TakeBacks : Type 0 where
  -- The call takes back run r, and the answer is "taken back", of every run that is declared and was not taken back: of withdrawn and completed ones too.
  pub answered_so : (g h : Gate) (r : ℕ) (a : Replied) → Sound g → r < length (book_of g).runs → ¬ In r (state_of g).taken_back → CalledAs g (take_back r) a h
      → (a ≡ Ok TakenBack) × RunTakenBack r g h
  pub deck_answered_so : (g h : Gate) (r : ℕ) (n : Answered) → Sound g → r < length (book_of g).runs → ¬ In r (state_of g).taken_back → GateCall (take_back r) g h n
      → (n ≡ answered (value_of 0)) × RunTakenBack r g h
  -- On every sound record a run taken back is withdrawn and has no step kept; its later steps, where it is declared, are refused by 21.
  pub taken_back_withdrawn : (g : Gate) (r : ℕ) → Sound g → In r (state_of g).taken_back → In r (state_of g).withdrawn × (count (state_of g).kept r ≡ 0)
  pub later_steps : (g h : Gate) (r : ℕ) (a : Replied) → Sound g → r < length (book_of g).runs → In r (state_of g).taken_back → CalledAs g (step r) a h
      → (a ≡ Err Withdrawn) × (h ≡ g)
  -- In a list without a take-back that is carried out, a tangled step is never admitted later, as before.
  pub tangled_without : (s : List ℕ) (c : Contents) (calls : List Call) (answers : List Answer) (g : State) → Demand3 s c calls answers g
      → ((k : ℕ) → ¬ At answers k taken_back) → (i j r : ℕ) → i < j → At calls i (step r) → At answers i (refused (number Tangled)) → At calls j (step r) → ¬ Admitted answers j
  -- Behind a take-back it may be: over the runs of row 2, uncut, the second step of run 0 is tangled, and is admitted once run 1 is taken back.
  pub tangled_then_admitted : (s h : List ℕ) (answers : List Answer) (g : State) → Demand3 s (book_2 h) tangled_calls answers g
      → (answers ≡ place 0 ∷ place 1 ∷ place 2 ∷ refused 23 ∷ taken_back ∷ place 1 ∷ []) × (g.kept ≡ 0 ∷ 0 ∷ [])
