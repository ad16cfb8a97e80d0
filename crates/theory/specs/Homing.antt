-- Homing (document 02, change 4): a touch at position 65535 has the same position as any other touch, and where no step homes and none is a transfer,
-- conflict is as it was.
use Rattle.std.specs.Prelude.{ℕ, ◌<◌, ◌≡◌, ◌≢◌, Bool, true, false, ◌&&◌, not, List, [], length, get_or, T, eqb}
use Rattle.theory.specs.Deck.{Pair, Touch, Step, listed, step_of, same_position, touches_conflict, conflict}
use Rattle.theory.specs.Transfers.{TouchOf, touch_of, WithoutTransfers}

-- conflict as it was before homing (document 01, "Dependence"): steps of different runs, of one touch each, whose positions have the same number and whose
-- kinds are a listed pair
abbrev pub before_homing : List Pair → List (List Step) → ℕ → ℕ → ℕ → ℕ → Bool
before_homing pairs runs r i s j =
    not (eqb r s)
    && (eqb (touch_of (step_of runs r i)).position (touch_of (step_of runs s j)).position && listed pairs (touch_of (step_of runs r i)).kind (touch_of (step_of runs s j)).kind)

-- no touch of any step of any run is at position 65535
abbrev pub WithoutHoming : List (List Step) → Type 0
WithoutHoming runs = (r i : ℕ) → i < length (get_or runs r []) → (t : Touch) → TouchOf (step_of runs r i) t → t.position ≢ 65535

pub record Homing : Type 0 where
  -- From this change a touch there has the same position as any other touch,
  pub first_homes : (q : ℕ) → same_position 65535 q ≡ true
  pub second_homes : (p : ℕ) → same_position p 65535 ≡ true
  -- so it conflicts wherever the kinds are a listed pair,
  pub first_conflicts : (pairs : List Pair) (t u : Touch) → t.position ≡ 65535 → touches_conflict pairs t u ≡ listed pairs t.kind u.kind
  pub second_conflicts : (pairs : List Pair) (t u : Touch) → u.position ≡ 65535 → touches_conflict pairs t u ≡ listed pairs t.kind u.kind
  -- and its step with each step of another run that has a touch of such a kind, one that homes too,
  pub conflicts : (pairs : List Pair) (runs : List (List Step)) (r i s j : ℕ) → r ≢ s → (t u : Touch) → TouchOf (step_of runs r i) t → TouchOf (step_of runs s j) u
      → t.position ≡ 65535 → T (listed pairs t.kind u.kind) → T (conflict pairs runs r i s j) × T (conflict pairs runs s j r i)
  -- and with none of its own run.
  pub own_run : (pairs : List Pair) (runs : List (List Step)) (r i j : ℕ) → conflict pairs runs r i r j ≡ false
  -- Position numbers are compared as before in all other cases.
  pub compared : (p q : ℕ) → p ≢ 65535 → q ≢ 65535 → same_position p q ≡ eqb p q
  pub as_before : (pairs : List Pair) (t u : Touch) → t.position ≢ 65535 → u.position ≢ 65535
      → touches_conflict pairs t u ≡ (eqb t.position u.position && listed pairs t.kind u.kind)
  -- Old books without 65535, which have no 54: their conflict is the earlier one.
  pub without_homing : (pairs : List Pair) (runs : List (List Step)) → WithoutTransfers runs → WithoutHoming runs → conflict pairs runs ≡ before_homing pairs runs
