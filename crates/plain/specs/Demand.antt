-- Demand 3 (with document 02, change 7): what holds after a list of step, withdraw and take back calls made in turn on a gate newly opened over an
-- accepted book.
use Rattle.std.specs.Prelude.{Ok, ℕ, zero, suc, ◌≤◌, ◌<◌, ◌≡◌, ◌↔◌, List, [], ◌∷◌, ◌++◌, length, take}
use Rattle.theory.specs.Relative.{RelativelySerializable}
use Rattle.book.specs.Format.{Bytes, Contents, accepted, step_limit, read, with_history}
use Rattle.book.specs.Meaning.{conflict_of, unit_of}
use Rattle.book.specs.Numbers.{number}
use Rattle.book.specs.declared.Cause.TheVariants.{Tangled}
use Rattle.book.specs.Render.{render}
use Rattle.judge.specs.Judged.{JudgeAnswer, verdict_of}
use Rattle.judge.specs.Judge.{BytesJudged}
use Rattle.judge.specs.declared.Verdict.TheVariants.{Passed}
use Rattle.plain.specs.Plain.{Call, step, withdraw, take_back, Answer, place, withdrawn, taken_back, refused, State, newly_opened, Eligible, PlainCalls}

-- x stands at index i of the list
pub data At {A : Type 0} : List A → ℕ → A → Type 0 where
  here : {x : A} {l : List A} → At (x ∷ l) zero x
  there : {x y : A} {l : List A} {i : ℕ} → At l i x → At (y ∷ l) (suc i) x

-- the judge passes the book s, of contents c, with k as its history
pub record JudgePasses (s : List ℕ) (c : Contents) (k : List ℕ) : Type 0 where
  -- s is the rendering of c, so that the book with k as its history has the other commands of s;
  pub book_is : render c ≡ s
  -- its bytes are an accepted book,
  pub bytes : Bytes (render (with_history c k))
  pub reads : read (render (with_history c k)) ≡ accepted (with_history c k)
  -- and on them, with buffers as long as the judge asks, each judgement that meets the judge's contract is "passed"
  pub passes : (order order' cycle cycle' : List ℕ) (r : JudgeAnswer) → step_limit ≤ length order → step_limit ≤ length cycle
      → BytesJudged order order' cycle cycle' (render (with_history c k)) r → verdict_of r ≡ Ok Passed

-- m is the plain gate's state at the moment when call i is made
pub record Moment (c : Contents) (calls : List Call) (i : ℕ) (m : State) : Type 0 where
  pub answers : List Answer
  pub reached : PlainCalls c newly_opened (take i calls) answers m

-- a step call is admitted if its answer is a place
abbrev pub Admitted : List Answer → ℕ → Type 0
Admitted answers j = (p : ℕ) × At answers j (place p)

-- the call x with the answer a withdraws run r: it withdraws it, or takes it back
pub data Withdraws (r : ℕ) : Call → Answer → Type 0 where
  by_withdrawal : Withdraws r (withdraw r) withdrawn
  by_take_back : Withdraws r (take_back r) taken_back

-- of the book's bytes and contents, the calls, their answers, and the state after them
pub record Demand3 (s : List ℕ) (c : Contents) (calls : List Call) (answers : List Answer) (g : State) : Type 0 where
  -- The answers in order, the kept list and the withdrawn runs, and which runs were taken back, equal those of document 01's plain gate given the same calls.
  pub plain : PlainCalls c newly_opened calls answers g
  pub answers_equal : (bs : List Answer) (h : State) → PlainCalls c newly_opened calls bs h → answers ≡ bs
  pub kept_equal : (bs : List Answer) (h : State) → PlainCalls c newly_opened calls bs h → g.kept ≡ h.kept
  pub withdrawn_equal : (bs : List Answer) (h : State) → PlainCalls c newly_opened calls bs h → g.withdrawn ≡ h.withdrawn
  pub taken_back_equal : (bs : List Answer) (h : State) → PlainCalls c newly_opened calls bs h → g.taken_back ≡ h.taken_back
  -- The judge passes the book with the kept list as its history.
  pub judge_passes : JudgePasses s c g.kept
  -- A step call whose run was declared, not withdrawn and had a step left was refused, as tangled, exactly when no relatively serial order of
  -- that moment's kept list extended by that step agrees with the extended list on every conflicting pair.
  pub tangled_exactly : (i r : ℕ) (m : State) → At calls i (step r) → Moment c calls i m → Eligible c m r
      → At answers i (refused (number Tangled)) ↔ (¬ RelativelySerializable (conflict_of c) (unit_of c) (m.kept ++ r ∷ []))
  -- Once a run is withdrawn, no step call for it later in the list is admitted.
  pub withdrawn_stays : (i j r : ℕ) (x : Call) (a : Answer) → Withdraws r x a → i < j → At calls i x → At answers i a → At calls j (step r) → ¬ Admitted answers j
  -- Once a step call is refused as tangled, no step call for the same run later in the list is admitted, up to the next take-back. A refused take-back
  -- changes nothing, and does not count as one.
  pub tangled_stays : (i j r : ℕ) → i < j → At calls i (step r) → At answers i (refused (number Tangled)) → At calls j (step r)
      → ((k : ℕ) → i < k → k < j → ¬ At answers k taken_back) → ¬ Admitted answers j
