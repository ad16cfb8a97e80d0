-- The plain gate is single-valued: for each state and call there is at most one answer and next state (Total: and at least one). A withdrawn run
-- stays withdrawn, and the book's own history plays no part.
use Prim.Native.Nat.{ℕ, ◌<◌}
use native.Mathlib.Omega.{arith}
use mathlib.Core.Path.{◌≡◌, refl, ap, sym}
use mathlib.Core.Logic.{inl, inr}
use mathlib.Core.Bool.{Bool, true, false}
use mathlib.Core.List.{List, [], ◌∷◌}
use lib.Dec.{eqb, ltb}
use borrow.Author.Tests.{eq-eqb, ne_eqb, eqb-false}
use Rattle.theory.specs.History.{count, suc_if}
use Rattle.theory.proofs.Places.{Compared, eq_cases}
use Rattle.book.specs.Format.{Contents, pick, with_history}
use Rattle.book.specs.Numbers.{number}
use Rattle.book.specs.declared.Cause.{Cause}
use Rattle.plain.specs.Plain.{Call, Answer, refused, State, In, insert, Eligible, Refusal, not_declared, was_withdrawn, all_kept, MayTakeBack, TakeBackRefusal, undeclared, was_taken_back, PlainCall, step_refused, step_tangled, step_kept, withdraw_refused, withdraws, take_back_refused, takes_back, PlainCalls, none, next}

-- ---- single-valued

pub record Equal (a b : Answer) (h k : State) : Type 0 where
  pub answers : a ≡ b
  pub states : h ≡ k

module _ (c : Contents) (g : State) where
  pub not_eligible : {r : ℕ} {cause : Cause} → Refusal c g r cause → Eligible c g r → ⊥
  not_eligible (not_declared h) e = omega (arith, e.declared)
  not_eligible (was_withdrawn h w) e = e.not_withdrawn w
  not_eligible (all_kept h n l) e = omega (arith, e.left)

  one_cause : {r : ℕ} {a b : Cause} → Refusal c g r a → Refusal c g r b → a ≡ b
  one_cause (not_declared h) (not_declared i) = refl
  one_cause (not_declared h) (was_withdrawn i w) = absurd (omega arith)
  one_cause (not_declared h) (all_kept i n l) = absurd (omega arith)
  one_cause (was_withdrawn h w) (not_declared i) = absurd (omega arith)
  one_cause (was_withdrawn h w) (was_withdrawn i v) = refl
  one_cause (was_withdrawn h w) (all_kept i n l) = absurd (n w)
  one_cause (all_kept h n l) (not_declared i) = absurd (omega arith)
  one_cause (all_kept h n l) (was_withdrawn i w) = absurd (n w)
  one_cause (all_kept h n l) (all_kept i m k) = refl

  not_taken_and_refused : {r : ℕ} {cause : Cause} → TakeBackRefusal c g r cause → MayTakeBack c g r → ⊥
  not_taken_and_refused (undeclared h) e = omega (arith, e.declared)
  not_taken_and_refused (was_taken_back h w) e = e.not_taken_back w

  one_take_back_cause : {r : ℕ} {a b : Cause} → TakeBackRefusal c g r a → TakeBackRefusal c g r b → a ≡ b
  one_take_back_cause (undeclared h) (undeclared i) = refl
  one_take_back_cause (undeclared h) (was_taken_back i w) = absurd (omega arith)
  one_take_back_cause (was_taken_back h w) (undeclared i) = absurd (omega arith)
  one_take_back_cause (was_taken_back h w) (was_taken_back i v) = refl

  -- one answer and one next state at most
  pub single : {x : Call} {a b : Answer} {h k : State} → PlainCall c g x a h → PlainCall c g x b k → Equal a b h k
  single (step_refused p) (step_refused q) = record { answers = ap (λ (o : Cause). refused (number o)) (one_cause p q); states = refl }
  single (step_refused p) (step_tangled e n) = absurd (not_eligible p e)
  single (step_refused p) (step_kept e s) = absurd (not_eligible p e)
  single (step_tangled e n) (step_refused q) = absurd (not_eligible q e)
  single (step_tangled e n) (step_tangled f m) = record { answers = refl; states = refl }
  single (step_tangled e n) (step_kept f s) = absurd (s n)
  single (step_kept e s) (step_refused q) = absurd (not_eligible q e)
  single (step_kept e s) (step_tangled f n) = absurd (s n)
  single (step_kept e s) (step_kept f t) = record { answers = refl; states = refl }
  single (withdraw_refused p) (withdraw_refused q) = record { answers = ap (λ (o : Cause). refused (number o)) (one_cause p q); states = refl }
  single (withdraw_refused p) (withdraws e) = absurd (not_eligible p e)
  single (withdraws e) (withdraw_refused q) = absurd (not_eligible q e)
  single (withdraws e) (withdraws f) = record { answers = refl; states = refl }
  single (take_back_refused p) (take_back_refused q) = record { answers = ap (λ (o : Cause). refused (number o)) (one_take_back_cause p q); states = refl }
  single (take_back_refused p) (takes_back e) = absurd (not_taken_and_refused p e)
  single (takes_back e) (take_back_refused q) = absurd (not_taken_and_refused q e)
  single (takes_back e) (takes_back f) = record { answers = refl; states = refl }

pub single_calls : (c : Contents) {g h k : State} {xs : List Call} {bs ds : List Answer} → PlainCalls c g xs bs h → PlainCalls c g xs ds k → (bs ≡ ds) × (h ≡ k)
single_calls c none none = (refl, refl)
single_calls c {g} (next {h} {a = a} {bs = bs} p ps) (next {h = i} {a = b} {bs = ds} q qs) =
    let e = single c g p q in
    let t = single_calls c ps (rw (← e.states) at qs) in
    (cc (e.answers, t.0), t.1)

-- ---- a withdrawn run stays withdrawn

-- another number stands in a set with one more as often as in the set
pub count_insert_other : (r q : ℕ) (w : List ℕ) → (r ≡ q → ⊥) → count (insert r w) q ≡ count w q
count_insert_other r q [] n = rw (ne_eqb r q n)
count_insert_other r q (x ∷ w) n = go (ltb r x) (eqb r x) (count_insert_other r q w n)
  where
    go : (b d : Bool) → count (insert r w) q ≡ count w q → count (pick b (r ∷ x ∷ w) (pick d (x ∷ w) (x ∷ insert r w))) q ≡ count (x ∷ w) q
    go true d e = rw (ne_eqb r q n)
    go false true e = refl
    go false false e = ap (suc_if (eqb x q)) e

pub in_insert : (r : ℕ) (w : List ℕ) → In r (insert r w)
in_insert r [] = rw (eq-eqb r r refl) (omega arith)
in_insert r (x ∷ w) = go (ltb r x) (eq_cases r x) (in_insert r w)
  where
    more : (b : Bool) {n : ℕ} → 0 < n → 0 < suc_if b n
    more true l = omega arith
    more false l = l

    go : (b : Bool) → Compared r x → In r (insert r w) → In r (pick b (r ∷ x ∷ w) (pick (eqb r x) (x ∷ w) (x ∷ insert r w)))
    go true e i = rw (eq-eqb r r refl) (omega arith)
    go false (inl e) i = rw (e.0, eq-eqb x r (sym e.1)) (omega arith)
    go false (inr e) i = rw e.0 (more (eqb x r) i)

insert_keeps : (r q : ℕ) (w : List ℕ) → In r w → In r (insert q w)
insert_keeps r q w i = go (eq_cases q r)
  where
    go : Compared q r → In r (insert q w)
    go (inl e) = rw e.1 (in_insert r w)
    go (inr e) = omega (arith, count_insert_other q r w (eqb-false q r e.0))

module _ (c : Contents) where
  pub withdrawn_call : (r : ℕ) {g h : State} {x : Call} {a : Answer} → PlainCall c g x a h → In r g.withdrawn → In r h.withdrawn
  withdrawn_call r (step_refused p) w = w
  withdrawn_call r (step_tangled e n) w = w
  withdrawn_call r (step_kept e s) w = w
  withdrawn_call r (withdraw_refused p) w = w
  withdrawn_call r {g} (withdraws {r = q} e) w = insert_keeps r q g.withdrawn w
  withdrawn_call r (take_back_refused p) w = w
  withdrawn_call r {g} (takes_back {r = q} e) w = insert_keeps r q g.withdrawn w

  -- ---- the book's own history plays no part

  pub call_history : (k : List ℕ) {g h : State} {x : Call} {a : Answer} → PlainCall (with_history c k) g x a h → PlainCall c g x a h
  call_history k {g} = go
    where
      refusal : {r : ℕ} {cause : Cause} → Refusal (with_history c k) g r cause → Refusal c g r cause
      refusal (not_declared h) = not_declared h
      refusal (was_withdrawn h w) = was_withdrawn h w
      refusal (all_kept h n l) = all_kept h n l

      take_back_refusal : {r : ℕ} {cause : Cause} → TakeBackRefusal (with_history c k) g r cause → TakeBackRefusal c g r cause
      take_back_refusal (undeclared h) = undeclared h
      take_back_refusal (was_taken_back h w) = was_taken_back h w

      eligible : {r : ℕ} → Eligible (with_history c k) g r → Eligible c g r
      eligible e = record { declared = e.declared; not_withdrawn = e.not_withdrawn; left = e.left }

      go : {h : State} {x : Call} {a : Answer} → PlainCall (with_history c k) g x a h → PlainCall c g x a h
      go (step_refused p) = step_refused (refusal p)
      go (step_tangled e n) = step_tangled (eligible e) n
      go (step_kept e s) = step_kept (eligible e) s
      go (withdraw_refused p) = withdraw_refused (refusal p)
      go (withdraws e) = withdraws (eligible e)
      go (take_back_refused p) = take_back_refused (take_back_refusal p)
      go (takes_back e) = takes_back (record { declared = e.declared; not_taken_back = e.not_taken_back })
