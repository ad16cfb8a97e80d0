-- Interleaving and dependence by the ends of a unit: a step is interleaved with a unit exactly when it comes after the unit's first step
-- and before another; it depends on a step of the unit exactly when on the first, and a step of the unit on it exactly when the last.
use Prim.Native.Nat.{ℕ, ◌<◌}
use native.Mathlib.Omega.{arith}
use mathlib.Core.Path.{sym, ◌∙◌}
use mathlib.Core.Logic.{◌≢◌}
use mathlib.Core.Bool.{Bool}
use mathlib.Core.List.{List}
use lib.ListN.{length}
use Rattle.theory.specs.History.{run}
use Rattle.theory.specs.Relative.{Depends, InUnit, Interleaved}
use Rattle.theory.specs.Graph.{FirstOf, LastOf}
use Rattle.theory.proofs.Steps.{depends_earlier, depends_later, unit_sym}

module _ (unit : ℕ → ℕ → ℕ → ℕ) {h : List ℕ} where
  pub interleaved_first : {b c f : ℕ} → FirstOf unit h (run h b) c f → b < c → c < length h → run h c ≢ run h b → f < b → Interleaved unit h f b c
  interleaved_first t k i ne j = record { after = j; before = k; inside = i; other = λ e. ne (sym t.member.runs ∙ e); unit_of = unit_sym unit t.member }

  pub first_before : {a b c f : ℕ} → FirstOf unit h (run h b) c f → Interleaved unit h a b c → f < b
  first_before {a} t w = omega (arith, t.first a (omega (arith, w.after, w.before, w.inside)) (unit_sym unit w.unit_of), w.after)

  pub interleaved_other : {a b c : ℕ} → Interleaved unit h a b c → run h c ≢ run h b
  interleaved_other w e = w.other (sym w.unit_of.runs ∙ e)

module _ (conflict : ℕ → ℕ → ℕ → ℕ → Bool) {h : List ℕ} where
  module _ (unit : ℕ → ℕ → ℕ → ℕ) {o c d b : ℕ} (i : d < length h) (u : InUnit unit h o c d) where
    pub dep_first : {f : ℕ} → FirstOf unit h o c f → Depends conflict h d b → Depends conflict h f b
    dep_first {f} t = depends_earlier conflict h f d b (t.first d i u) (t.member.runs ∙ sym u.runs)

    pub dep_last : {l : ℕ} → LastOf unit h o c l → Depends conflict h b d → Depends conflict h b l
    dep_last {l} t = depends_later conflict h b d l (t.last d i u) t.inside (u.runs ∙ sym t.member.runs)
