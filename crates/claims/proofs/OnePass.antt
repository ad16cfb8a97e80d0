-- One pass over the history: by induction over the calls.
use Prim.Native.Nat.{ℕ, ◌/◌, ◌≤◌, ◌<◌}
use native.Mathlib.Omega.{arith}
use mathlib.Core.Path.{◌≡◌, refl, ◌∙◌}
use mathlib.Core.List.{List, []}
use lib.ListN.{length, get_or}
use Rattle.bits.specs.Table.{row_words}
use Rattle.theory.specs.Deck.{Step}
use Rattle.theory.proofs.Lists.{length_snoc}
use Rattle.book.specs.Book.{pairs_of}
use Rattle.dependence.specs.Dependence.{Blank, StepsRead}
use Rattle.dependence.proofs.DependenceRows.{none_read}
use Rattle.claims.specs.OnePass.{Fed, no_more, one_more, RowsAfter, OnePass}

pub all_read : (pairs : List ℕ) (runs : List (List Step)) (catalogue seconds dep l c s d : List ℕ) → Blank catalogue → Blank seconds → Blank dep
    → Fed pairs runs [] catalogue seconds dep l c s d → StepsRead (pairs_of pairs) runs l c s d
all_read pairs runs catalogue seconds dep l c s d b₁ b₂ b₃ no_more = none_read (pairs_of pairs) runs catalogue seconds dep b₁ b₂ b₃
all_read pairs runs catalogue seconds dep l c s d b₁ b₂ b₃ (one_more {l = m} {c = c₀} {s = s₀} {d = d₀} p x) =
    x.read runs m refl refl (all_read pairs runs catalogue seconds dep m c₀ s₀ d₀ b₁ b₂ b₃ p)

rows_after : (pairs : List ℕ) (runs : List (List Step)) (l c s d : List ℕ) → StepsRead (pairs_of pairs) runs l c s d → RowsAfter pairs runs l d
rows_after pairs runs l c s d x = record { so_far = x.so_far; to_come = x.to_come }

longer : {pairs : List ℕ} {runs : List (List Step)} {h catalogue seconds dep l c s d : List ℕ} → Fed pairs runs h catalogue seconds dep l c s d → length h ≤ length l
longer no_more = omega arith
longer (one_more {l = m} {r = r} p x) = omega (arith, longer p, length_snoc m r)

unchanged : (pairs : List ℕ) (runs : List (List Step)) (h catalogue seconds dep l c s d : List ℕ) → Fed pairs runs h catalogue seconds dep l c s d
    → (i : ℕ) → i / row_words < length h → get_or d i 0 ≡ get_or dep i 0
unchanged pairs runs h catalogue seconds dep l c s d no_more i b = refl
unchanged pairs runs h catalogue seconds dep l c s d (one_more {l = m} {c = c₀} {s = s₀} {d = d₀} p x) i b =
    x.unchanged i (λ e. omega (arith, longer p)) ∙ unchanged pairs runs h catalogue seconds dep m c₀ s₀ d₀ p i b

pub one_pass : OnePass
one_pass = record {
  each_step = λ pairs runs catalogue seconds dep l c s d b₁ b₂ b₃ p. rows_after pairs runs l c s d (all_read pairs runs catalogue seconds dep l c s d b₁ b₂ b₃ p);
  unchanged = unchanged;
}
