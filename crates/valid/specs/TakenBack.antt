-- Agreement of a gate's tables about the runs taken back (document 02, change 7).
use Rattle.std.specs.Prelude.{ℕ, ◌≡◌, List, get_or}

-- each run taken back is withdrawn, and no step of it is kept; by a flag of each run taken back, a flag of each withdrawn one, and the counts of kept steps
pub record TakenBackAgree (taken_back_flags withdrawn_flags counts : List ℕ) : Type 0 where
  pub withdrawn : (r : ℕ) → ¬ (get_or taken_back_flags r 0 ≡ 0) → ¬ (get_or withdrawn_flags r 0 ≡ 0)
  pub none_kept : (r : ℕ) → ¬ (get_or taken_back_flags r 0 ≡ 0) → get_or counts r 0 ≡ 0
