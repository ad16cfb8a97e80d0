-- Step and withdraw are as before take-backs: rule by rule.
use Prim.Native.Nat.{ℕ}
use mathlib.Core.Path.{◌≡◌, refl, sym, subst, ◌∙◌}
use mathlib.Core.List.{List, [], ◌∷◌, ◌++◌}
use Rattle.theory.specs.Relative.{RelativelySerializable}
use Rattle.theory.proofs.Theorem.{dec_relatively_serializable}
use Rattle.theory.proofs.DeckLaws.{lawful}
use Rattle.book.specs.Format.{Contents}
use Rattle.book.specs.Meaning.{conflict_of, unit_of}
use Rattle.plain.specs.Plain.{Call, step, withdraw, take_back, Answer, State, not_declared, was_withdrawn, all_kept, PlainCall, step_refused, step_tangled, step_kept, withdraw_refused, withdraws, PlainCalls, none as no_calls, next as next_call}
use Rattle.plain.specs.Demand.{here, there}
use Rattle.claims.specs.Table.{StepsOrWithdraws, is_step, is_withdrawal}
use Rattle.claims.specs.EarlierGate.{EarlierState, EarlierCall, step_20, step_21, step_22, step_23, step_joins, withdraw_20, withdraw_21, withdraw_22, withdraw_joins, EarlierCalls, none, next, earlier_state, NoTakeBack, GateAsBefore}

module _ (c : Contents) where
  serializable : (k : List ℕ) → ¬ ¬ RelativelySerializable (conflict_of c) (unit_of c) k → RelativelySerializable (conflict_of c) (unit_of c) k
  serializable k n = go (dec_relatively_serializable (conflict_of c) (unit_of c) k (lawful c.pairs c.runs))
    where
      go : Dec (RelativelySerializable (conflict_of c) (unit_of c) k) → RelativelySerializable (conflict_of c) (unit_of c) k
      go (yes s) = s
      go (no t) = absurd (n t)

  -- ---- one call

  to_earlier : {g h : State} {x : Call} {a : Answer} {r : ℕ} → StepsOrWithdraws r x → PlainCall c g x a h
      → EarlierCall c (earlier_state g) x a (earlier_state h) × (h.taken_back ≡ g.taken_back)
  to_earlier is_step (step_refused (not_declared d)) = (step_20 d, refl)
  to_earlier is_step (step_refused (was_withdrawn d w)) = (step_21 d w, refl)
  to_earlier is_step (step_refused (all_kept d n l)) = (step_22 d n l, refl)
  to_earlier is_step (step_tangled e t) = (step_23 e.declared e.not_withdrawn e.left t, refl)
  to_earlier {g} is_step (step_kept {r} e t) = (step_joins e.declared e.not_withdrawn e.left (serializable (g.kept ++ r ∷ []) t), refl)
  to_earlier is_withdrawal (withdraw_refused (not_declared d)) = (withdraw_20 d, refl)
  to_earlier is_withdrawal (withdraw_refused (was_withdrawn d w)) = (withdraw_21 d w, refl)
  to_earlier is_withdrawal (withdraw_refused (all_kept d n l)) = (withdraw_22 d n l, refl)
  to_earlier is_withdrawal (withdraws e) = (withdraw_joins e.declared e.not_withdrawn e.left, refl)

  -- the state with these runs taken back
  abbrev with_taken : EarlierState → List ℕ → State
  with_taken g t = record { kept = g.kept; withdrawn = g.withdrawn; taken_back = t }

  from_earlier : {g k : EarlierState} {t : List ℕ} {x : Call} {a : Answer} → EarlierCall c g x a k → PlainCall c (with_taken g t) x a (with_taken k t)
  from_earlier (step_20 d) = step_refused (not_declared d)
  from_earlier (step_21 d w) = step_refused (was_withdrawn d w)
  from_earlier (step_22 d n l) = step_refused (all_kept d n l)
  from_earlier (step_23 d n l t) = step_tangled (record { declared = d; not_withdrawn = n; left = l }) t
  from_earlier (step_joins d n l s) = step_kept (record { declared = d; not_withdrawn = n; left = l }) (λ t. t s)
  from_earlier (withdraw_20 d) = withdraw_refused (not_declared d)
  from_earlier (withdraw_21 d w) = withdraw_refused (was_withdrawn d w)
  from_earlier (withdraw_22 d n l) = withdraw_refused (all_kept d n l)
  from_earlier (withdraw_joins d n l) = withdraws (record { declared = d; not_withdrawn = n; left = l })

  -- ---- calls in turn

  -- a call that is no take-back
  other_call : (x : Call) {xs : List Call} → NoTakeBack (x ∷ xs) → (r : ℕ) × StepsOrWithdraws r x
  other_call (step r) n = (r, is_step)
  other_call (withdraw r) n = (r, is_withdrawal)
  other_call (take_back r) n = absurd (n 0 r here)

  all_to_earlier : {g h : State} {xs : List Call} {bs : List Answer} → NoTakeBack xs → PlainCalls c g xs bs h
      → EarlierCalls c (earlier_state g) xs bs (earlier_state h) × (h.taken_back ≡ g.taken_back)
  all_to_earlier n no_calls = (none, refl)
  all_to_earlier n (next_call {x = x} p ps) =
      let w = to_earlier (other_call x n).1 p in
      let v = all_to_earlier (λ i r k. n _ r (there k)) ps in
      (next w.0 v.0, v.1 ∙ w.1)

  all_from_earlier : {g k : EarlierState} {t : List ℕ} {xs : List Call} {bs : List Answer} → EarlierCalls c g xs bs k → PlainCalls c (with_taken g t) xs bs (with_taken k t)
  all_from_earlier none = no_calls
  all_from_earlier (next p ps) = next_call (from_earlier p) (all_from_earlier ps)

-- a state by its runs taken back
same_taken : (c : Contents) (h : State) (t : List ℕ) → h.taken_back ≡ t → with_taken c (earlier_state h) t ≡ h
same_taken c h t e = λ i. record { kept = h.kept; withdrawn = h.withdrawn; taken_back = sym e i }

pub gate_as_before : GateAsBefore
gate_as_before = record {
  as_before = λ c g h x a r s. (to_earlier c s, λ w. subst (PlainCall c g x a) (same_taken c h g.taken_back w.1) (from_earlier c w.0));
  lists_as_before = λ c g h calls answers n. (
    all_to_earlier c n,
    λ w. subst (PlainCalls c g calls answers) (same_taken c h g.taken_back w.1) (all_from_earlier c w.0),
  );
}
