-- The plain gate is total: for each state and call there is at least one answer and next state.
use Prim.Native.Nat.{ℕ, ◌<◌}
use native.Mathlib.Omega.{arith}
use native.Mathlib.Decide.{dec_lt}
use mathlib.Core.Logic.{◌⊎◌, inl, inr}
use mathlib.Core.List.{List, [], ◌∷◌, ◌++◌}
use lib.ListN.{length, get_or}
use Rattle.theory.specs.History.{count}
use Rattle.theory.specs.Relative.{RelativelySerializable}
use Rattle.theory.proofs.Theorem.{dec_relatively_serializable}
use Rattle.theory.proofs.DeckLaws.{lawful}
use Rattle.book.specs.Format.{Contents, lengths}
use Rattle.book.specs.Meaning.{conflict_of, unit_of}
use Rattle.book.specs.declared.Cause.{Cause}
use Rattle.plain.specs.Plain.{Call, step, withdraw, take_back, Answer, State, In, Eligible, Refusal, not_declared, was_withdrawn, all_kept, undeclared, was_taken_back, PlainCall, step_refused, step_tangled, step_kept, withdraw_refused, withdraws, take_back_refused, takes_back, PlainCalls, none, next}

module _ (c : Contents) (g : State) where
  -- a call's answer and next state
  pub record Made (x : Call) : Type 0 where
    pub answer : Answer
    pub state : State
    pub rule : PlainCall c g x answer state

  Way : ℕ → Type 0
  Way r = ((cause : Cause) × Refusal c g r cause) ⊎ Eligible c g r

  way : (r : ℕ) → Way r
  unfolding Way
  way r = go (dec_lt r (length c.runs)) (dec_lt 0 (count g.withdrawn r)) (dec_lt (count g.kept r) (get_or (lengths c.runs) r 0))
    where
      go : Dec (r < length c.runs) → Dec (In r g.withdrawn) → Dec (count g.kept r < get_or (lengths c.runs) r 0) → Way r
      go (no d) w l = inl (_, not_declared (omega (arith, d)))
      go (yes d) (yes w) l = inl (_, was_withdrawn d w)
      go (yes d) (no n) (no l) = inl (_, all_kept d n (omega (arith, l)))
      go (yes d) (no n) (yes l) = inr (record { declared = d; not_withdrawn = n; left = l })

  pub total : (x : Call) → Made x
  unfolding Way
  total (step r) = go (way r) (dec_relatively_serializable (conflict_of c) (unit_of c) (g.kept ++ r ∷ []) (lawful c.pairs c.runs))
    where
      go : Way r → Dec (RelativelySerializable (conflict_of c) (unit_of c) (g.kept ++ r ∷ [])) → Made (step r)
      go (inl p) s = record { answer = _; state = _; rule = step_refused p.1 }
      go (inr e) (yes s) = record { answer = _; state = _; rule = step_kept e (λ n. n s) }
      go (inr e) (no n) = record { answer = _; state = _; rule = step_tangled e n }
  total (withdraw r) = go (way r)
    where
      go : Way r → Made (withdraw r)
      go (inl p) = record { answer = _; state = _; rule = withdraw_refused p.1 }
      go (inr e) = record { answer = _; state = _; rule = withdraws e }
  total (take_back r) = go (dec_lt r (length c.runs)) (dec_lt 0 (count g.taken_back r))
    where
      go : Dec (r < length c.runs) → Dec (In r g.taken_back) → Made (take_back r)
      go (no d) w = record { answer = _; state = _; rule = take_back_refused {r = r} (undeclared (omega (arith, d))) }
      go (yes d) (yes w) = record { answer = _; state = _; rule = take_back_refused {r = r} (was_taken_back d w) }
      go (yes d) (no n) = record { answer = _; state = _; rule = takes_back (record { declared = d; not_taken_back = n }) }

pub record AllMade (c : Contents) (g : State) (xs : List Call) : Type 0 where
  pub answers : List Answer
  pub state : State
  pub rules : PlainCalls c g xs answers state

pub total_calls : (c : Contents) (g : State) (xs : List Call) → AllMade c g xs
total_calls c g [] = record { answers = []; state = g; rules = none }
total_calls c g (x ∷ xs) =
    let t = total c g x in
    let u = total_calls c t.state xs in
    record { answers = t.answer ∷ u.answers; state = u.state; rules = next t.rule u.rules }
