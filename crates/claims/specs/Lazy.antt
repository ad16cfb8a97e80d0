-- The demands exclude each lazy program that document 01 lists ("Which lazy programs are caught?"; the term is document 01's): for each, answers that it
-- gives over books of document 01's rows, and one more, and that do not meet demand 2 or demand 3.
use Rattle.std.specs.Prelude.{Ok, ℕ, ◌<◌, ◌≡◌, ◌≢◌, ◌⊎◌, List, [], ◌∷◌, ◌++◌, replicate}
use Rattle.theory.specs.Relative.{RelativelySerializable}
use Rattle.theory.specs.Rows.{w, pairs, runs_2, runs_11, cuts_6}
use Rattle.book.specs.Format.{Bytes, Contents, contents, accepted, step_limit, Allowed, read}
use Rattle.book.specs.Meaning.{conflict_of, unit_of}
use Rattle.book.specs.Render.{render}
use Rattle.judge.specs.Judged.{JudgeAnswer}
use Rattle.judge.specs.declared.Verdict.TheVariants.{Passed, Tangled}
use Rattle.plain.specs.Plain.{step, withdraw, place, withdrawn, refused, State}
use Rattle.plain.specs.Demand.{Demand3}
use Rattle.claims.specs.Demands.{Demand2}

-- the runs of row 2, uncut, with this history
abbrev pub book_2 : List ℕ → Contents
book_2 h = contents pairs runs_2 [] h

-- row 6: the same runs, run 0 cut after its first step as seen by run 1
abbrev pub book_6 : Contents
book_6 = contents pairs runs_2 cuts_6 (0 ∷ 1 ∷ 1 ∷ 0 ∷ [])

-- row 11
abbrev pub book_11 : Contents
book_11 = contents pairs runs_11 [] (0 ∷ 1 ∷ 0 ∷ [])

-- row 11 behind a step of each of two more runs, w7 and w8, which conflict with none
abbrev pub book_behind : Contents
book_behind = contents pairs (runs_11 ++ (w 7 ∷ []) ∷ (w 8 ∷ []) ∷ []) [] (2 ∷ 3 ∷ 0 ∷ 1 ∷ 0 ∷ [])

-- the book is accepted
abbrev pub Accepted : Contents → Type 0
Accepted c = Bytes (render c) × (read (render c) ≡ accepted c)

-- the judge's answers, with their counts
abbrev pub judged_passed : ℕ → JudgeAnswer
judged_passed k = Ok (record { verdict = Passed; count = k })

abbrev pub judged_tangled : ℕ → JudgeAnswer
judged_tangled k = Ok (record { verdict = Tangled; count = k })

-- a buffer of zeros, as it was lent
abbrev pub unwritten : List ℕ
unwritten = replicate step_limit 0

pub record LazyProgramsCaught : Type 0 where
  -- the demands are about accepted books: with every history that the runs allow, the book is accepted
  pub books_accepted : (h : List ℕ) → Allowed h (book_2 h) → Accepted (book_2 h)
  pub others_accepted : Accepted book_6 × Accepted book_11 × Accepted book_behind
  -- a gate that answers 23 always
  pub gate_always_refuses : (s h : List ℕ) (g : State) → ¬ Demand3 s (book_2 h) (step 0 ∷ []) (refused 23 ∷ []) g
  -- a gate that answers 23 before looking whether the run is declared, withdrawn or complete: once run 0 is withdrawn, its tangled step is refused by 21
  pub gate_refuses_before_looking : (s h : List ℕ) (g : State) → ¬ Demand3 s (book_2 h) (step 0 ∷ step 1 ∷ step 1 ∷ step 0 ∷ withdraw 0 ∷ step 0 ∷ [])
      (place 0 ∷ place 1 ∷ place 2 ∷ refused 23 ∷ withdrawn ∷ refused 23 ∷ []) g
  -- a gate that always admits, and one that judges only the first step and admits the rest: both give these answers
  pub gate_always_admits : (s h : List ℕ) (g : State)
      → ¬ Demand3 s (book_2 h) (step 0 ∷ step 1 ∷ step 1 ∷ step 0 ∷ []) (place 0 ∷ place 1 ∷ place 2 ∷ place 3 ∷ []) g
  -- a judge that hands every history back as its order: row 3
  pub judge_hands_back : (rest cycle' : List ℕ) → ¬ Demand2 (book_2 (0 ∷ 1 ∷ 0 ∷ 1 ∷ [])) (0 ∷ 1 ∷ 0 ∷ 1 ∷ rest) cycle' (judged_passed 4)
  -- a judge that calls every history tangled: row 2
  pub judge_always_tangled : (order' cycle' : List ℕ) (k : ℕ) → ¬ Demand2 (book_2 (0 ∷ 0 ∷ 1 ∷ 1 ∷ [])) order' cycle' (judged_tangled k)
  -- a judge that writes no bytes: a buffer left as it was lent, whatever it holds, does not begin with an order of row 3 and with one of row 6,
  pub judge_writes_no_order : (b cycle' cycle'' : List ℕ) (k k' : ℕ) → Demand2 (book_2 (0 ∷ 1 ∷ 0 ∷ 1 ∷ [])) b cycle' (judged_passed k) → ¬ Demand2 book_6 b cycle'' (judged_passed k')
  -- nor with a cycle of row 11 and with one of that row behind two steps, which is tangled too
  pub judge_writes_no_cycle : (b order' order'' : List ℕ) (k k' : ℕ) → Demand2 book_11 order' b (judged_tangled k) → ¬ Demand2 book_behind order'' b (judged_tangled k')
  -- and a buffer of zeros with neither an order of row 3 nor a cycle of row 4
  pub zeros_no_order : (cycle' : List ℕ) → ¬ Demand2 (book_2 (0 ∷ 1 ∷ 0 ∷ 1 ∷ [])) unwritten cycle' (judged_passed 4)
  pub zeros_no_cycle : (order' : List ℕ) (k : ℕ) → ¬ Demand2 (book_2 (0 ∷ 1 ∷ 1 ∷ 0 ∷ [])) order' unwritten (judged_tangled k)
  pub behind_tangled : ¬ RelativelySerializable (conflict_of book_behind) (unit_of book_behind) book_behind.history
  -- a judge that invents the order's count: row 3, of 4 steps
  pub judge_invents_order_count : (order' cycle' : List ℕ) (k : ℕ) → k ≢ 4 → ¬ Demand2 (book_2 (0 ∷ 1 ∷ 0 ∷ 1 ∷ [])) order' cycle' (judged_passed k)
  -- a judge that invents the cycle's length: row 4, whose cycles have 2 to 4 places
  pub judge_invents_cycle_length : (order' cycle' : List ℕ) (k : ℕ) → (k < 2) ⊎ (4 < k) → ¬ Demand2 (book_2 (0 ∷ 1 ∷ 1 ∷ 0 ∷ [])) order' cycle' (judged_tangled k)
