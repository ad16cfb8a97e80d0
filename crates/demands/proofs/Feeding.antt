-- One more call on tables that were fed so far.
use Prim.Native.Nat.{ℕ}
use mathlib.Core.Path.{◌≡◌}
use mathlib.Core.Bool.{Bool}
use mathlib.Core.List.{List, [], ◌∷◌, ◌++◌}
use lib.ListN.{length}
use Rattle.theory.specs.History.{count}
use Rattle.theory.specs.Deck.{Step, step_of}
use Rattle.dependence.specs.Dependence.{StepRead, StepAnswered}
use Rattle.claims.specs.OnePass.{Fed, one_more}
use Rattle.claims.proofs.OnePass.{one_pass}
use Rattle.demands.specs.Results.{StepFed}

module _ (pairs catalogue catalogue' seconds seconds' dep dep' : List ℕ) (q r : ℕ) (x : Step) where
  fed : StepRead pairs catalogue catalogue' seconds seconds' dep dep' q r x → (runs : List (List Step)) (h c s d l : List ℕ) → length l ≡ q → step_of runs r (count l r) ≡ x
      → Fed pairs runs h c s d l catalogue seconds dep → Fed pairs runs h c s d (l ++ r ∷ []) catalogue' seconds' dep'
  fed y runs h c s d l e f p =
      one_more {l = l} {c = catalogue} {s = seconds} {d = dep} {c' = catalogue'} {s' = seconds'} {d' = dep'} {r = r} p (rw (e, f) y)

  pub step_fed : (answer : Bool) → StepAnswered pairs catalogue catalogue' seconds seconds' dep dep' q r x answer
      → StepFed pairs catalogue catalogue' seconds seconds' dep dep' q r x answer
  step_fed answer a = record {
    in_range = a.in_range;
    same_catalogue = a.same_catalogue;
    same_seconds = a.same_seconds;
    same_rows = a.same_rows;
    fed = λ y. fed (a.read y);
    each_step = λ y runs c s d l e f b₁ b₂ b₃ p.
        one_pass.each_step pairs runs c s d (l ++ r ∷ []) catalogue' seconds' dep' b₁ b₂ b₃ (fed (a.read y) runs [] c s d l e f p);
    unchanged = λ y runs h c s d l e f p i k. one_pass.unchanged pairs runs h c s d (l ++ r ∷ []) catalogue' seconds' dep' (fed (a.read y) runs h c s d l e f p) i k;
  }
