-- Demand 3 holds of whatever answers and state the plain gate's rules give a list of calls.
use Rattle.std.specs.Prelude.{Result, Ok, Err}
use Prim.Native.Nat.{ℕ, zero, suc, ◌≤◌, ◌<◌, zero-le, suc-le-suc}
use native.Mathlib.Nat.{not-suc-le-zero, le_of_suc-le-suc}
use native.Mathlib.Omega.{arith}
use mathlib.Core.Path.{◌≡◌, refl, ap}
use mathlib.Core.Logic.{◌↔◌, inl, inr}
use mathlib.Core.List.{List, [], ◌∷◌, ◌++◌}
use lib.ListN.{length, get_or, take}
use lib.Dec.{eqb}
use Rattle.theory.specs.History.{count, suc_if, but}
use Rattle.theory.specs.Relative.{RelativelySerializable}
use Rattle.theory.proofs.Lists.{count_snoc}
use Rattle.theory.proofs.Places.{Compared, eq_cases}
use Rattle.theory.proofs.Within.{tangled_stays, project_within, project_serializable}
use Rattle.theory.proofs.Theorem.{dec_relatively_serializable}
use Rattle.theory.proofs.DeckLaws.{lawful}
use Rattle.book.specs.Format.{Bytes, Contents, lengths, accepted, read, with_history, Allowed}
use Rattle.book.specs.Meaning.{conflict_of, unit_of}
use Rattle.book.specs.Numbers.{number}
use Rattle.book.specs.declared.Cause.{Cause}
use Rattle.book.specs.declared.Cause.TheVariants.{Tangled}
use Rattle.book.specs.Render.{render}
use Rattle.book.proofs.RoundTrip.{accepted_book, render_read, render_bytes, read_with_history}
use Rattle.book.proofs.Histories.{history_book}
use Rattle.judge.specs.Judged.{JudgeAnswer, verdict_of, JudgedAs, JudgementAs}
use Rattle.judge.specs.Judge.{OutcomeJudged}
use Rattle.book.specs.declared.Refusal.{Refusal as RefusalValue}
use Rattle.judge.specs.declared.Verdict.{Verdict}
use Rattle.judge.specs.declared.Verdict.TheVariants.{Passed, Tangled as JudgeTangled}
use Rattle.plain.specs.Plain.{Call, step, Answer, place, taken_back, refused, State, newly_opened, In, Eligible, Refusal, not_declared, was_withdrawn, all_kept, PlainCall, step_refused, step_tangled, step_kept, withdraw_refused, withdraws, take_back_refused, takes_back, PlainCalls, none, next}
use Rattle.plain.specs.Demand.{At, here, there, JudgePasses, Withdraws, by_withdrawal, by_take_back, Demand3}
use Rattle.plain.proofs.PlainGate.{single, not_eligible, single_calls, in_insert, withdrawn_call}

-- ---- the kept list is one that the runs allow, and it passes

record Passing (c : Contents) (k : List ℕ) : Type 0 where
  pub allowed : Allowed k c
  pub passed : RelativelySerializable (conflict_of c) (unit_of c) k

passing_start : (c : Contents) → Passing c []
passing_start c = record {
  allowed = λ r. zero-le;
  passed = record {
    order = [];
    evidence = record {
      equivalent = record { order = λ r. refl; agrees = λ p q a b k m i j s t d. absurd (not-suc-le-zero m) };
      serial = λ a b d e t i u. absurd (not-suc-le-zero i);
    };
  };
}

-- ---- the judge passes what is allowed and relatively serializable

judged_passes : (c : Contents) (k order order' cycle cycle' : List ℕ) → RelativelySerializable (conflict_of c) (unit_of c) k → (r : JudgeAnswer)
    → JudgementAs (conflict_of c) (unit_of c) k order order' cycle cycle' r → verdict_of r ≡ Ok Passed
judged_passes c k order order' cycle cycle' s (Err refusal) j = absurd j
judged_passes c k order order' cycle cycle' s (Ok a) j = go a.verdict a.count j
  where
    go : (v : Verdict) (n : ℕ) → JudgedAs (conflict_of c) (unit_of c) k order order' cycle cycle' v n → ◌≡◌ {A = Result Verdict RefusalValue} (Ok v) (Ok Passed)
    go Passed n j = refl
    go JudgeTangled n j = absurd (j.not_serializable s)

judge_passes : (s : List ℕ) (c : Contents) → Bytes s → read s ≡ accepted c → (k : List ℕ) → Passing c k → JudgePasses s c k
judge_passes s c bytes e k w = record {
  book_is = render_read s c bytes e;
  bytes = render_bytes (with_history c k) (history_book c k (accepted_book s c bytes e) w.allowed);
  reads = reads;
  passes = λ order order' cycle cycle' r m n j.
      let o : OutcomeJudged order order' cycle cycle' (accepted (with_history c k)) r = rw reads at (j.long m n) in
      judged_passes c k order order' cycle cycle' w.passed r o;
}
  where
    reads : read (render (with_history c k)) ≡ accepted (with_history c k)
    reads = read_with_history s c k bytes e w.allowed

module _ (c : Contents) where
  allowed_more : (k : List ℕ) (r : ℕ) → Allowed k c → count k r < get_or (lengths c.runs) r 0 → Allowed (k ++ r ∷ []) c
  allowed_more k r w h x = rw (count_snoc k r x) (go (eq_cases r x))
    where
      go : Compared r x → suc_if (eqb r x) (count k x) ≤ get_or (lengths c.runs) x 0
      go (inl e) = rw (e.0, ← e.1) h
      go (inr e) = rw e.0 (w x)

  not_tangled : (k : List ℕ) → ¬ ¬ RelativelySerializable (conflict_of c) (unit_of c) k → RelativelySerializable (conflict_of c) (unit_of c) k
  not_tangled k n = go (dec_relatively_serializable (conflict_of c) (unit_of c) k (lawful c.pairs c.runs))
    where
      go : Dec (RelativelySerializable (conflict_of c) (unit_of c) k) → RelativelySerializable (conflict_of c) (unit_of c) k
      go (yes s) = s
      go (no t) = absurd (n t)

  passing_call : {g h : State} {x : Call} {a : Answer} → PlainCall c g x a h → Passing c g.kept → Passing c h.kept
  passing_call (step_refused p) w = w
  passing_call (step_tangled e n) w = w
  passing_call {g} (step_kept {r} e s) w = record { allowed = allowed_more g.kept r w.allowed e.left; passed = not_tangled (g.kept ++ r ∷ []) s }
  passing_call (withdraw_refused p) w = w
  passing_call (withdraws e) w = w
  passing_call (take_back_refused p) w = w
  passing_call {g} (takes_back {r} e) w = record {
    allowed = λ x. omega (arith, project_within (but r) g.kept x, w.allowed x);
    passed = project_serializable (conflict_of c) (unit_of c) (but r) g.kept w.passed;
  }

  -- ---- a tangled step stays tangled, until a run is taken back

  -- no relatively serial order of the kept list extended by a step of r agrees with it
  abbrev NoOrder : State → ℕ → Type 0
  NoOrder g r = ¬ RelativelySerializable (conflict_of c) (unit_of c) (g.kept ++ r ∷ [])

  tangled_call : (r : ℕ) {g h : State} {x : Call} {a : Answer} → PlainCall c g x a h → ¬ (a ≡ taken_back) → NoOrder g r → NoOrder h r
  tangled_call r (step_refused p) t n = n
  tangled_call r (step_tangled e m) t n = n
  tangled_call r {g} (step_kept {r = q} e s) t n = go (eq_cases q r)
    where
      go : Compared q r → ¬ RelativelySerializable (conflict_of c) (unit_of c) (g.kept ++ q ∷ [] ++ r ∷ [])
      go (inl f) = absurd (rw f.1 at s n)
      go (inr f) = tangled_stays (conflict_of c) (unit_of c) g.kept (q ∷ []) r (rw f.0) n
  tangled_call r (withdraw_refused p) t n = n
  tangled_call r (withdraws e) t n = n
  tangled_call r (take_back_refused p) t n = n
  tangled_call r (takes_back e) t n = absurd (t refl)

  -- ---- a call of the list, at its moment

  -- the rule by which call i was answered, from the state that the calls before it lead to
  rule_at : {g h m : State} {xs : List Call} {bs ds : List Answer} {i : ℕ} {x : Call} {a : Answer} → At xs i x → At bs i a → PlainCalls c g xs bs h
      → PlainCalls c g (take i xs) ds m → (k : State) × PlainCall c m x a k
  rule_at here here (next p ps) none = (_, p)
  rule_at {g} (there x) (there a) (next p ps) (next q qs) = rule_at x a ps (rw (← (single c g p q).states) at qs)

  -- each call has an answer
  answer_at : {g h : State} {xs : List Call} {bs : List Answer} {i : ℕ} {x : Call} → At xs i x → PlainCalls c g xs bs h → (a : Answer) × At bs i a
  answer_at here (next p ps) = (_, here)
  answer_at (there x) (next p ps) = let t = answer_at x ps in (t.0, there t.1)

  one_at : {A : Type 0} {l : List A} {i : ℕ} {x y : A} → At l i x → At l i y → x ≡ y
  one_at here here = refl
  one_at (there p) (there q) = one_at p q

  not_place : (p n : ℕ) → place p ≡ refused n → ⊥
  not_place p n e = let z : ◌≡◌ {A = ℕ} 0 1 = cc in omega arith

  -- 20, 21 and 22 are not 23
  other_number : {g : State} {r : ℕ} {cause : Cause} → Refusal c g r cause → refused (number cause) ≡ refused (number Tangled) → ⊥
  other_number (not_declared h) e = let z : ◌≡◌ {A = ℕ} 20 23 = cc in omega arith
  other_number (was_withdrawn h w) e = let z : ◌≡◌ {A = ℕ} 21 23 = cc in omega arith
  other_number (all_kept h n l) e = let z : ◌≡◌ {A = ℕ} 22 23 = cc in omega arith

  -- an eligible step is refused as tangled exactly when it is
  eligible_tangled : {g h : State} {r : ℕ} {a : Answer} → Eligible c g r → PlainCall c g (step r) a h → (a ≡ refused (number Tangled)) ↔ NoOrder g r
  eligible_tangled {g} e (step_refused p) = absurd (not_eligible c g p e)
  eligible_tangled e (step_tangled f n) = (λ q. n, λ m. refl)
  eligible_tangled {g} e (step_kept f s) = (λ q. absurd (not_place (length g.kept) (number Tangled) q), λ m. absurd (s m))

  -- ---- what keeps a run's steps out, once it holds, keeps them out until an answer ends it

  module _ (r : ℕ) (P : State → Type 0) (Ends : Answer → Type 0) (keeps : (g h : State) (x : Call) (a : Answer) → PlainCall c g x a h → ¬ Ends a → P g → P h)
      (bars : (g h : State) (p : ℕ) → P g → PlainCall c g (step r) (place p) h → ⊥) where
    never : {g h : State} {xs : List Call} {bs : List Answer} {j p : ℕ} → P g → At xs j (step r) → At bs j (place p)
        → ((k : ℕ) (a : Answer) → k < j → At bs k a → ¬ Ends a) → PlainCalls c g xs bs h → ⊥
    never w here here f (next p ps) = bars _ _ _ w p
    never w (there x) (there a) f (next p ps) =
        never (keeps _ _ _ _ p (f zero _ (suc-le-suc zero-le) here) w) x a (λ k b l y. f (suc k) b (suc-le-suc l) (there y)) ps

    later : {x : Call} {a : Answer} → ((g h : State) → PlainCall c g x a h → P h) → {g h : State} {xs : List Call} {bs : List Answer} {i j p : ℕ} → i < j
        → At xs i x → At bs i a → At xs j (step r) → At bs j (place p) → ((k : ℕ) (a : Answer) → i < k → k < j → At bs k a → ¬ Ends a) → PlainCalls c g xs bs h → ⊥
    later s l here here here here f (next p ps) = absurd (not-suc-le-zero l)
    later s l here here (there y) (there b) f (next p ps) = never (s _ _ p) y b (λ k d m z. f (suc k) d (suc-le-suc zero-le) (suc-le-suc m) (there z)) ps
    later s l (there x) (there a) here here f (next p ps) = absurd (not-suc-le-zero l)
    later s l (there x) (there a) (there y) (there b) f (next p ps) =
        later s (le_of_suc-le-suc l) x a y b (λ k d m n z. f (suc k) d (suc-le-suc m) (suc-le-suc n) (there z)) ps

  withdrawn_bars : (r : ℕ) {g h : State} {p : ℕ} → In r g.withdrawn → PlainCall c g (step r) (place p) h → ⊥
  withdrawn_bars r w (step_kept e s) = e.not_withdrawn w

  withdrawn_after : (r : ℕ) {g h : State} {x : Call} {a : Answer} → Withdraws r x a → PlainCall c g x a h → In r h.withdrawn
  withdrawn_after r {g} by_withdrawal (withdraws e) = in_insert r g.withdrawn
  withdrawn_after r {g} by_take_back (takes_back e) = in_insert r g.withdrawn

  tangled_bars : (r : ℕ) {g h : State} {p : ℕ} → NoOrder g r → PlainCall c g (step r) (place p) h → ⊥
  tangled_bars r n (step_kept e s) = s n

  tangled_after : (r : ℕ) {g h : State} {a : Answer} → a ≡ refused (number Tangled) → PlainCall c g (step r) a h → NoOrder h r
  tangled_after r q (step_refused p) = absurd (other_number p q)
  tangled_after r q (step_tangled e n) = n
  tangled_after r {g} q (step_kept e s) = absurd (not_place (length g.kept) (number Tangled) q)

  -- ---- the demand

  passing_calls : {g h : State} {xs : List Call} {bs : List Answer} → PlainCalls c g xs bs h → Passing c g.kept → Passing c h.kept
  passing_calls none w = w
  passing_calls (next p ps) w = passing_calls ps (passing_call p w)

  pub plain_demand : (s : List ℕ) → Bytes s → read s ≡ accepted c → (calls : List Call) (answers : List Answer) (g : State) → PlainCalls c newly_opened calls answers g
      → Demand3 s c calls answers g
  plain_demand s bytes e calls answers g ps = record {
    plain = ps;
    answers_equal = λ bs h qs. (single_calls c ps qs).0;
    kept_equal = λ bs h qs. ap (λ (k : State). k.kept) (single_calls c ps qs).1;
    withdrawn_equal = λ bs h qs. ap (λ (k : State). k.withdrawn) (single_calls c ps qs).1;
    taken_back_equal = λ bs h qs. ap (λ (k : State). k.taken_back) (single_calls c ps qs).1;
    judge_passes = judge_passes s c bytes e g.kept (passing_calls ps (passing_start c));
    tangled_exactly = λ i r m x at o.
        let a = answer_at x ps in
        let t = eligible_tangled o (rule_at x a.1 ps at.reached).1 in
        (λ y. t.0 (one_at a.1 y), λ n. rw (t.1 n) at a.1);
    withdrawn_stays = λ i j r x a w l at_x at_a y b.
        later r (λ g. In r g.withdrawn) (λ a. ⊥) (λ g h x a p n w. withdrawn_call c r p w) (λ g h q w p. withdrawn_bars r w p) (λ g h p. withdrawn_after r w p) l at_x at_a y b.1
        (λ k d m n z e. e) ps;
    tangled_stays = λ i j r l x a y f b.
        later r (λ g. NoOrder g r) (λ a. a ≡ taken_back) (λ g h x a p t n. tangled_call r p t n) (λ g h q n p. tangled_bars r n p) (λ g h p. tangled_after r refl p) l x a y b.1
        (λ k d m n z e. f k m n (rw e at z)) ps;
  }
