-- Connected components of the runs, by conflicts of done steps: the islands of document 02, change 8.
use Rattle.std.specs.Prelude.{ℕ, suc, zero, ◌≤◌, ◌<◌, ◌≡◌, Bool, List, [], ◌∷◌, ◌++◌, length, eqb}
use Rattle.theory.specs.History.{run, only, project}
use Rattle.theory.specs.Relative.{Conflicting}

-- 02: two runs are joined if a done step of one conflicts with a done step of the other
pub record Joined (conflict : ℕ → ℕ → ℕ → ℕ → Bool) (h : List ℕ) (r s : ℕ) : Type 0 where
  pub p : ℕ
  pub q : ℕ
  pub inside_p : p < length h
  pub inside_q : q < length h
  pub of_r : run h p ≡ r
  pub of_s : run h q ≡ s
  pub conflicting : Conflicting conflict h p q

module _ (J : ℕ → ℕ → Type 0) where
  -- 02: linked by joins, one after another; a run is connected to itself
  pub data Connected (r : ℕ) : ℕ → Type 0 where
    itself : Connected r r
    joined : {s t : ℕ} → Connected r s → J s t → Connected r t

  -- m is the smallest run of the component of r: of the runs connected to r
  pub record SmallestOf (r m : ℕ) : Type 0 where
    pub connected : Connected r m
    pub least : (k : ℕ) → Connected r k → m ≤ k

-- the smallest run of each run's component, which is its name
abbrev pub Components : (ℕ → ℕ → ℕ → ℕ → Bool) → List ℕ → (ℕ → ℕ) → Type 0
Components conflict h name = (r : ℕ) → SmallestOf (Joined conflict h) r (name r)

-- the smallest run of the component of each run below n
unfoldable pub smallest_of_each : (ℕ → ℕ) → ℕ → List ℕ
smallest_of_each name zero = []
smallest_of_each name (suc n) = smallest_of_each name n ++ name n ∷ []

-- the components of the runs below n by their smallest runs, in rising order: the runs that are the smallest of their own
unfoldable pub smallest_runs : (ℕ → ℕ) → ℕ → List ℕ
smallest_runs name zero = []
smallest_runs name (suc n) = smallest_runs name n ++ only (eqb (name n) n) n []

-- 02: the history of the component whose smallest run is m, in its old order (003, projection Π_T)
abbrev pub component_history : (ℕ → ℕ) → List ℕ → ℕ → List ℕ
component_history name h m = project (λ r. eqb (name r) m) h
