-- What a history's numbers are.
use Prim.Native.Nat.{ℕ, ◌+◌, ◌<◌}
use native.Mathlib.Numerals.{add-one}
use native.Mathlib.Omega.{arith}
use mathlib.Core.Path.{◌≡◌}
use mathlib.Core.Logic.{◌⊎◌}
use mathlib.Core.List.{List}
use lib.ListN.{length, get_or, take}
use lib.Seq.{get_or-take, length-take-le}
use Rattle.theory.specs.History.{run}
use Rattle.theory.proofs.Finite.{below_suc}
use Rattle.book.specs.Format.{run_limit}
use Rattle.dependence.specs.Inner.Tables.{HistoryOf}

pub low : (k : ℕ) → k < 0 → ⊥
low k l = omega arith

pub clash : {a : ℕ} → a ≡ 0 → a ≡ 1 → ⊥
clash u v = omega arith

-- a number below p + 1 is p or below p
pub below_next : (k p : ℕ) → k < p + 1 → (k ≡ p) ⊎ (k < p)
below_next k p h = below_suc (rw (add-one p) at h)

pub history_length : {history : List ℕ} {n : ℕ} → HistoryOf history n → length (take n history) ≡ n
history_length {history} {n} w = length-take-le n history (omega (arith, w.within, w.long))

pub history_run : (history : List ℕ) (n p : ℕ) → p < n → run (take n history) p ≡ get_or history p 0
history_run history n p i = get_or-take n history p 0 i

pub history_small : {history : List ℕ} {n : ℕ} → HistoryOf history n → (p : ℕ) → p < length (take n history) → run (take n history) p < run_limit
history_small {history} {n} w p i = rw (history_run history n p (rw (history_length w) at i)) (w.runs.small p)
