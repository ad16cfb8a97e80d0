-- Transfers (document 02, change 6): steps of different runs conflict when any touch of the one conflicts with any touch of the other, and where no step
-- is a transfer, conflict is as it was.
use Rattle.std.specs.Prelude.{ℕ, ◌<◌, ◌≡◌, ◌≢◌, Bool, ◌&&◌, not, List, [], length, get_or, T, eqb}
use Rattle.theory.specs.Deck.{Pair, Touch, Step, single, transfer, touches_conflict, step_of, conflict}

-- t is a touch of the step
pub data TouchOf : Step → Touch → Type 0 where
  only : {t : Touch} → TouchOf (single t) t
  first : {t u : Touch} → TouchOf (transfer t u) t
  second : {t u : Touch} → TouchOf (transfer t u) u

-- the touch of a step that has one; of a transfer, the first
abbrev pub touch_of : Step → Touch
touch_of (single t) = t
touch_of (transfer t u) = t

-- conflict as it was before transfers (document 01, "Dependence"; 02, change 4): a step has one touch
abbrev pub before_transfers : List Pair → List (List Step) → ℕ → ℕ → ℕ → ℕ → Bool
before_transfers pairs runs r i s j = not (eqb r s) && touches_conflict pairs (touch_of (step_of runs r i)) (touch_of (step_of runs s j))

-- no step of any run is a transfer
abbrev pub WithoutTransfers : List (List Step) → Type 0
WithoutTransfers runs = (r i : ℕ) → i < length (get_or runs r []) → step_of runs r i ≡ single (touch_of (step_of runs r i))

-- a touch of x conflicts with a touch of y
pub record TouchesConflict (pairs : List Pair) (x y : Step) : Type 0 where
  pub touch : Touch
  pub other : Touch
  pub of_x : TouchOf x touch
  pub of_y : TouchOf y other
  pub conflict : T (touches_conflict pairs touch other)

pub record Transfers : Type 0 where
  -- Steps of different runs conflict when any touch of the one conflicts with any touch of the other,
  pub when : (pairs : List Pair) (runs : List (List Step)) (r i s j : ℕ) → r ≢ s → TouchesConflict pairs (step_of runs r i) (step_of runs s j) → T (conflict pairs runs r i s j)
  -- and at no other time; those of one run never do.
  pub only_when : (pairs : List Pair) (runs : List (List Step)) (r i s j : ℕ) → T (conflict pairs runs r i s j)
      → (r ≢ s) × TouchesConflict pairs (step_of runs r i) (step_of runs s j)
  -- A transfer whose touches are equal is still a transfer.
  pub still_a_transfer : (t u : Touch) → transfer t t ≢ single u
  -- Old books, which have no 54: their conflict is the earlier one.
  pub without_transfers : (pairs : List Pair) (runs : List (List Step)) → WithoutTransfers runs → conflict pairs runs ≡ before_transfers pairs runs
