-- A table of tests, row by row: the first that fails refuses, and where all hold the move comes.
use Prim.Native.Nat.{ℕ}
use mathlib.Core.Path.{◌≡◌, refl}
use mathlib.Core.Bool.{true, false}
use mathlib.Core.List.{List, [], ◌∷◌}
use Rattle.book.specs.Format.{Move, Test, checks, over, refused}
use Rattle.book.specs.declared.Cause.{Cause}

-- the first test that fails has this cause
pub data Fails : List Test → Cause → Type 0 where
  here : {t : Test} {ts : List Test} → t.holds ≡ false → Fails (t ∷ ts) t.cause
  there : {t : Test} {ts : List Test} {c : Cause} → t.holds ≡ true → Fails ts c → Fails (t ∷ ts) c

-- all tests hold
abbrev pub Holds : List Test → Type 0
Holds [] = Unit {0}
Holds (t ∷ ts) = (t.holds ≡ true) × Holds ts

pub checks_fail : (ts : List Test) (c : Cause) (at : ℕ) (m : Move) → Fails ts c → checks ts at m ≡ over (refused c at)
checks_fail [] c at m x' = elim x' [ ]
checks_fail (t ∷ ts) c at m (here e) = rw e
checks_fail (t ∷ ts) c at m (there e f) = rw e (checks_fail ts c at m f)

pub checks_hold : (ts : List Test) (at : ℕ) (m : Move) → Holds ts → checks ts at m ≡ m
checks_hold [] at m h = refl
checks_hold (t ∷ ts) at m h = rw h.0 (checks_hold ts at m h.1)
