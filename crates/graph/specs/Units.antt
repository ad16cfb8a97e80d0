-- Tables of the first and the last place of each unit.
use Rattle.std.specs.Prelude.{ℕ, ◌+◌, ◌*◌, ◌≤◌, ◌<◌, ◌≡◌, List, length, get_or}
use Rattle.theory.specs.Graph.{FirstOf, LastOf}
use Rattle.book.specs.Format.{run_limit, step_limit}

-- the size of a table of a place for each place and each run
abbrev pub units_size : ℕ
units_size = step_limit * run_limit

-- for each place p of `from` up to `to` and each run o, at p * run_limit + o of t stands a place f with E o p f
pub record EachPlace (E : ℕ → ℕ → ℕ → Type 0) (from to : ℕ) (t : List ℕ) : Type 0 where
  pub at : (p o : ℕ) → from ≤ p → p < to → o < run_limit → E o p (get_or t (p * run_limit + o) 0)

-- at p * run_limit + o of t stands the first, or the last, place of p's unit as seen by run o
abbrev pub Firsts : (ℕ → ℕ → ℕ → ℕ) → List ℕ → List ℕ → Type 0
Firsts unit h = EachPlace (FirstOf unit h) 0 (length h)

abbrev pub Lasts : (ℕ → ℕ → ℕ → ℕ) → List ℕ → List ℕ → Type 0
Lasts unit h = EachPlace (LastOf unit h) 0 (length h)

-- from place n on u is as t
pub record UnchangedFrom (n : ℕ) (t u : List ℕ) : Type 0 where
  pub at : (p o : ℕ) → n ≤ p → o < run_limit → get_or u (p * run_limit + o) 0 ≡ get_or t (p * run_limit + o) 0

-- what filling the tables firsts and lasts makes of them
pub record UnitTables (unit : ℕ → ℕ → ℕ → ℕ) (h firsts firsts' lasts lasts' : List ℕ) : Type 0 where
  pub firsts_are : Firsts unit h firsts'
  pub firsts_unchanged : UnchangedFrom (length h) firsts firsts'
  pub lasts_are : Lasts unit h lasts'
  pub lasts_unchanged : UnchangedFrom (length h) lasts lasts'
