-- Histories, orders and kept lists: lists of run numbers (document 01, "Dependence" and "Units, orders and arcs").
-- A run is a transaction of 001 and 003, a step an operation, a history a schedule: a prefix of an execution of all runs.
-- A place is an index into the list, from 0. A step is told by its run and its ordinal, its number in the run, from 0.
use Rattle.std.specs.Prelude.{ℕ, zero, suc, ◌<◌, ◌≡◌, Bool, true, false, not, List, [], ◌∷◌, length, get_or, take, eqb}

-- one more where the test holds
abbrev pub suc_if : Bool → ℕ → ℕ
suc_if true n = suc n
suc_if false n = n

-- how often run r stands in l: how many of its steps are done
abbrev pub count : List ℕ → ℕ → ℕ
count [] r = zero
count (x ∷ l) r = suc_if (eqb x r) (count l r)

-- the run of place p
abbrev pub run : List ℕ → ℕ → ℕ
run h p = get_or h p 0

-- the ordinal of the step at place p: how many steps of its run stand before it
unfoldable pub ordinal : List ℕ → ℕ → ℕ
ordinal h p = count (take p h) (run h p)

-- place a of l holds the same step as place p of h
pub record Same (h : List ℕ) (p : ℕ) (l : List ℕ) (a : ℕ) : Type 0 where
  pub runs : run l a ≡ run h p
  pub ordinals : ordinal l a ≡ ordinal h p

-- 01: an order of a history holds the same steps, each run's in its own order
abbrev pub Order : List ℕ → List ℕ → Type 0
Order h l = (r : ℕ) → count l r ≡ count h r

-- 01: serial, if each run's done steps stand together (003, serial history)
abbrev pub Serial : List ℕ → Type 0
Serial h = (a b c : ℕ) → a < b → b < c → c < length h → run h a ≡ run h c → run h b ≡ run h a

-- x in front of l where the test holds
abbrev pub only : Bool → ℕ → List ℕ → List ℕ
only true x l = x ∷ l
only false x l = l

-- the steps of the runs that `keep` tells, in their order (003, projection Π_T)
unfoldable pub project : (ℕ → Bool) → List ℕ → List ℕ
project keep [] = []
project keep (x ∷ l) = only (keep x) x (project keep l)

-- the runs but x
abbrev pub but : ℕ → ℕ → Bool
but x y = not (eqb x y)
