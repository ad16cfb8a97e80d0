-- Command 54 beside 53: by the table's rows.
use Prim.Native.Nat.{ℕ, suc, ◌+◌, ◌<◌}
use native.Mathlib.Omega.{arith}
use mathlib.Core.Path.{◌≡◌, refl}
use mathlib.Core.Logic.{◌⊎◌, inl, inr, ◌≢◌}
use mathlib.Core.List.{List, [], ◌∷◌}
use lib.ListN.{length, length-append}
use Rattle.theory.specs.Deck.{Touch, Step, single, transfer}
use Rattle.theory.specs.Transfers.{only, first, second}
use Rattle.book.specs.Format.{step, ReadState, last, lengths, add_last}
use Rattle.book.proofs.Sizes.{sum_last}
use Rattle.table.specs.BookTable.{Fault, inside_operands, after_later_group, before_any_52, kind_above_15, step_33_of_run, step_over_most}
use Rattle.claims.specs.Command54.{Command54}

module _ (s : List ℕ) (at : ℕ) (t : ReadState) (u v : Touch) where
  to_single : (n : ℕ) → n ≢ 3 → Fault s at t (step (transfer u v)) n → Fault s at t (step (single u)) n ⊎ Fault s at t (step (single v)) n
  to_single n k (inside_operands h) = absurd (k refl)
  to_single n k (after_later_group h) = inl (after_later_group h)
  to_single n k (before_any_52 h) = inl (before_any_52 h)
  to_single n k (kind_above_15 first h) = inl (kind_above_15 only h)
  to_single n k (kind_above_15 second h) = inr (kind_above_15 only h)
  to_single n k (step_33_of_run h) = inl (step_33_of_run h)
  to_single n k (step_over_most h) = inl (step_over_most h)

  from_first : (n : ℕ) → n ≢ 3 → Fault s at t (step (single u)) n → Fault s at t (step (transfer u v)) n
  from_first n k (inside_operands h) = absurd (k refl)
  from_first n k (after_later_group h) = after_later_group h
  from_first n k (before_any_52 h) = before_any_52 h
  from_first n k (kind_above_15 only h) = kind_above_15 first h
  from_first n k (step_33_of_run h) = step_33_of_run h
  from_first n k (step_over_most h) = step_over_most h

  from_second : (n : ℕ) → n ≢ 3 → Fault s at t (step (single v)) n → Fault s at t (step (transfer u v)) n
  from_second n k (inside_operands h) = absurd (k refl)
  from_second n k (after_later_group h) = after_later_group h
  from_second n k (before_any_52 h) = before_any_52 h
  from_second n k (kind_above_15 only h) = kind_above_15 second h
  from_second n k (step_33_of_run h) = step_33_of_run h
  from_second n k (step_over_most h) = step_over_most h

  from_single : (n : ℕ) → n ≢ 3 → Fault s at t (step (single u)) n ⊎ Fault s at t (step (single v)) n → Fault s at t (step (transfer u v)) n
  from_single n k (inl f) = from_first n k f
  from_single n k (inr f) = from_second n k f

  short : Fault s at t (step (transfer u v)) 3 → length s < at + 7
  short (inside_operands h) = h

  kind : Fault s at t (step (transfer u v)) 5 → (15 < u.kind) ⊎ (15 < v.kind)
  kind (kind_above_15 first h) = inl h
  kind (kind_above_15 second h) = inr h

  from_kind : (15 < u.kind) ⊎ (15 < v.kind) → Fault s at t (step (transfer u v)) 5
  from_kind (inl h) = kind_above_15 first h
  from_kind (inr h) = kind_above_15 second h

-- any step is one more
last_more : (rs : List (List Step)) (x : Step) → 0 < length rs → last (lengths (add_last rs x)) ≡ suc (last (lengths rs))
last_more [] x h = absurd (omega arith)
last_more (r ∷ []) x h = omega (arith, length-append r (x ∷ []))
last_more (r ∷ q ∷ []) x h = last_more (q ∷ []) x (omega arith)
last_more (r ∷ q ∷ p ∷ ps) x h = last_more (q ∷ p ∷ ps) x (omega arith)

pub command_54 : Command54
command_54 = record {
  stands = λ s at t u v n k. (to_single s at t u v n k, from_single s at t u v n k);
  bytes = λ s at t u v. (short s at t u v, λ h. inside_operands h);
  either_kind = λ s at t u v. (kind s at t u v, from_kind s at t u v);
  one_in_the_run = λ d u v h. last_more d.runs (transfer u v) h;
  one_in_the_book = λ d u v h. sum_last d.runs (transfer u v) h;
}
