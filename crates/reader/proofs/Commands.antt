-- What each way through a command's function shows: the tests that led there make the answer the format's. A way out is one row of the
-- command's table of tests: the rows before it hold, and its own fails (`Fails`), or all hold (`Holds`).
use Prim.Native.Nat.{ℕ, ◌+◌, ◌*◌, ◌-◌, ◌/◌, ◌%◌, ◌≤◌, ◌<◌}
use mathlib.Core.Path.{◌≡◌, refl, ap, sym, ◌∙◌}
use mathlib.Core.Bool.{Bool, true, false, true≢false, ◌&&◌, not}
use mathlib.Core.List.{List, ◌∷◌}
use mathlib.Core.Logic.{◌⊎◌, inl, inr}
use native.Mathlib.Omega.{arith}
use borrow.Author.Tests.{ltb-true, lt-ltb, le-ltb, le-leb, lt-leb, eq-eqb, ne_eqb}
use lib.ListN.{length, get_or}
use lib.Dec.{leb, ltb, eqb}
use Rattle.theory.specs.History.{count}
use Rattle.book.specs.Format.{kind_limit, run_limit, run_step_limit, ReadState, Move, Test, test, last, lengths, above_pair, above_cut, kinds_low, over, refused, operand_tests, command_tests, obeyed, obey, pair_at, run_at, single_at, transfer_at, cut_at, done_at, end_at, command_at, Command, step, width}
use Rattle.book.specs.Book.{run_cuts, step_coded, as_step, step_code, contents_of}
use Rattle.book.specs.Inner.Room.{StepLow}
use Rattle.book.proofs.Codes.{coded_back, code_low}
use Rattle.reader.specs.Inner.Reader.{so_far, read_state_of, Underway, Any, Lengths, Tables, Limited, Inside, move_of, width_of, Parsed, refusal, Room, Decides, PositionsLow, StepTested}
use Rattle.std.proofs.Common.{Ok, Err}
use Rattle.book.specs.declared.Rules.{Rules}
use Rattle.book.specs.declared.Cause.{Cause}
use Rattle.book.specs.declared.Cause.TheVariants.{NoCommand, EndsEarly, OutOfOrder, WrongKind, NotRising, WrongRun, TooManyRuns, RunTooLong, TooManySteps, WrongCut, NoStepLeft, BytesAfterEnd}
use Rattle.book.specs.declared.Step.{Step as StepValue}
use Rattle.book.specs.declared.Step.TheVariants.{Single, Transfer}
use Rattle.book.specs.declared.Book.{Book}
use Rattle.reader.specs.declared.Progress.{Progress}
use Rattle.reader.specs.declared.Command.TheVariants.{Pair, Run, Step, Cut, Done, End}
use Rattle.book.proofs.Ladder.{Fails, here, there, Holds, checks_fail, checks_hold}
use Rattle.book.proofs.Books.{runs_are, sum_is, last_is, length_is, count_is, pair_above, cut_above}

-- a refusal
stopped : {tables : Book → Type 0} {format : Rules → List ℕ → ℕ → ReadState → Move} {s : List ℕ} {at : ℕ} {p : Progress} (cause : Cause) (place : ℕ)
    → ((b : Book) → Underway b p → tables b → format p.rules s at (read_state_of b p) ≡ over (refused cause place))
    → (c : Parsed) → c ≡ Err (refusal cause place) → Decides tables format s at p c
stopped cause place e c d = rw d (record { move = λ b y t. sym (e b y t); room = λ b y t. tt; ends = λ l. omega arith })

-- the tests of the command that f finds
module _ (tables : Book → Type 0) (f : List ℕ → ℕ → Command) (s : List ℕ) (at : ℕ) (p : Progress) where
  abbrev Rows : Book → List Test
  Rows b = command_tests p.rules s at (read_state_of b p) (f s at)

  -- a row fails
  turned : (cause : Cause) → ((b : Book) → Underway b p → tables b → Fails (Rows b) cause) → (c : Parsed) → c ≡ Err (refusal cause at) → Decides tables (obey f) s at p c
  unfolding obey
  turned cause w = stopped cause at (λ b y t. checks_fail (Rows b) cause at _ (w b y t))

  -- all rows hold, and the command is the one that was found
  taken : (c : Parsed) → ((b : Book) → Underway b p → tables b → Holds (Rows b))
      → ((b : Book) → Underway b p → tables b → move_of c at (read_state_of b p) ≡ obeyed (f s at) at (read_state_of b p))
      → ((b : Book) → Underway b p → tables b → Room c b p) → (at ≤ length s → at + width_of c ≤ length s) → Decides tables (obey f) s at p c
  unfolding obey
  taken c w e room ends = record { move = λ b y t. e b y t ∙ sym (checks_hold (Rows b) at _ (w b y t)); room = room; ends = ends }

module _ (s : List ℕ) (at : ℕ) (p : Progress) where
  -- 43
  module _ (x y : ℕ) (ex : x ≡ get_or s (at + 1) 0) (ey : y ≡ get_or s (at + 2) 0) where
    above_pairs : (b : Book) → Underway b p → y < kind_limit → (i : ℕ) → i ≡ x * kind_limit + y
        → above_pair (contents_of (so_far b p)).pairs (record { a = get_or s (at + 1) 0; b = get_or s (at + 2) 0 }) ≡ leb p.next_pair i
    above_pairs b u h i e = rw (← ex, ← ey, e) (pair_above (so_far b p) u.valid p.next_pair x y u.pairs h)

    pair_wide : 3 ≤ length s - at → p.group ≤ 0 → kind_limit ≤ y → (c : Parsed) → c ≡ Err (refusal WrongKind at) → Decides Any (obey pair_at) s at p c
    unfolding operand_tests
    pair_wide h0 h1 h = turned Any pair_at s at p WrongKind (λ b u t. there (le-leb _ _ h0) (there (le-leb _ _ h1) (here (rw (← ey) (le-ltb _ _ h)))))

    pair_turned : 3 ≤ length s - at → p.group ≤ 0 → y < kind_limit → y < x → (c : Parsed) → c ≡ Err (refusal WrongKind at) → Decides Any (obey pair_at) s at p c
    unfolding operand_tests
    pair_turned h0 h1 h2 h = turned Any pair_at s at p WrongKind (λ b u t. there (le-leb _ _ h0) (there (le-leb _ _ h1) (there (rw (← ey) (lt-ltb _ _ h2)) (here (rw (← ex, ← ey) (lt-leb _ _ h))))))

    pub pair_kind : 3 ≤ length s - at → p.group ≤ 0 → (kind_limit ≤ y) ⊎ ((y < kind_limit) × (y < x)) → (c : Parsed) → c ≡ Err (refusal WrongKind at) → Decides Any (obey pair_at) s at p c
    pair_kind h0 h1 (inl h) = pair_wide h0 h1 h
    pair_kind h0 h1 (inr (h2, h)) = pair_turned h0 h1 h2 h

    module _ (h0 : 3 ≤ length s - at) (h1 : p.group ≤ 0) (h2 : y < kind_limit) (h3 : x ≤ y) (i : ℕ) (e : i ≡ x * kind_limit + y) where
      pub pair_low : i < p.next_pair → (c : Parsed) → c ≡ Err (refusal NotRising at) → Decides Any (obey pair_at) s at p c
      unfolding operand_tests
      pair_low h = turned Any pair_at s at p NotRising (λ b u t.
          there (le-leb _ _ h0) (there (le-leb _ _ h1) (there (rw (← ey) (lt-ltb _ _ h2)) (there (rw (← ex, ← ey) (le-leb _ _ h3)) (here (above_pairs b u h2 i e ∙ lt-leb _ _ h))))))

      pub pair_on : p.next_pair ≤ i → Decides Any (obey pair_at) s at p (Ok (Pair i))
      unfolding operand_tests
      pair_on h = taken Any pair_at s at p (Ok (Pair i))
          (λ b u t. (le-leb _ _ h0, (le-leb _ _ h1, (rw (← ey) (lt-ltb _ _ h2), (rw (← ex, ← ey) (le-leb _ _ h3), (above_pairs b u h2 i e ∙ le-leb _ _ h, tt))))))
          (λ b u t. let l0 : i / kind_limit ≡ x = omega arith in let l1 : i % kind_limit ≡ y = omega arith in rw (l0, l1, ex, ey))
          (λ b u t. record { rising = h; low = omega arith })
          (λ l. omega arith)

  pub pair_short : length s - at < 3 → (c : Parsed) → c ≡ Err (refusal EndsEarly at) → Decides Any (obey pair_at) s at p c
  pair_short h = turned Any pair_at s at p EndsEarly (λ b u t. here (lt-leb _ _ h))

  pub pair_late : 3 ≤ length s - at → 0 < p.group → (c : Parsed) → c ≡ Err (refusal OutOfOrder at) → Decides Any (obey pair_at) s at p c
  pair_late h0 h = turned Any pair_at s at p OutOfOrder (λ b u t. there (le-leb _ _ h0) (here (lt-leb _ _ h)))

  -- 52
  pub run_short : length s - at < 2 → (c : Parsed) → c ≡ Err (refusal EndsEarly at) → Decides Any (obey run_at) s at p c
  run_short h = turned Any run_at s at p EndsEarly (λ b u t. here (lt-leb _ _ h))

  pub run_late : 2 ≤ length s - at → 1 < p.group → (c : Parsed) → c ≡ Err (refusal OutOfOrder at) → Decides Any (obey run_at) s at p c
  run_late h0 h = turned Any run_at s at p OutOfOrder (λ b u t. there (le-leb _ _ h0) (here (lt-leb _ _ h)))

  module _ (r : ℕ) (e : r ≡ get_or s (at + 1) 0) (h0 : 2 ≤ length s - at) (h1 : p.group ≤ 1) where
    pub run_wrong : (r ≡ p.declared → ⊥) → (c : Parsed) → c ≡ Err (refusal WrongRun at) → Decides Any (obey run_at) s at p c
    unfolding operand_tests
    run_wrong h = turned Any run_at s at p WrongRun (λ b u t. there (le-leb _ _ h0) (there (le-leb _ _ h1) (here (rw (← e, runs_are (so_far b p) u.valid) (ne_eqb _ _ h)))))

    module _ (h2 : r ≡ p.declared) where
      pub run_many : run_limit ≤ p.declared → (c : Parsed) → c ≡ Err (refusal TooManyRuns at) → Decides Any (obey run_at) s at p c
      unfolding operand_tests
      run_many h = turned Any run_at s at p TooManyRuns (λ b u t.
          there (le-leb _ _ h0) (there (le-leb _ _ h1) (there (rw (← e, runs_are (so_far b p) u.valid) (eq-eqb _ _ h2)) (here (rw (runs_are (so_far b p) u.valid) (le-ltb _ _ h))))))

      pub run_on : p.declared < run_limit → Decides Any (obey run_at) s at p (Ok Run)
      unfolding operand_tests
      run_on h = taken Any run_at s at p (Ok Run)
          (λ b u t. (le-leb _ _ h0, (le-leb _ _ h1, (rw (← e, runs_are (so_far b p) u.valid) (eq-eqb _ _ h2), (rw (runs_are (so_far b p) u.valid) (lt-ltb _ _ h), tt)))))
          (λ b u t. refl)
          (λ b u t. h)
          (λ l. omega arith)

  -- 45
  pub end_more : at + 1 < length s → (c : Parsed) → c ≡ Err (refusal BytesAfterEnd (at + 1)) → Decides Any end_at s at p c
  unfolding end_at
  end_more h = stopped BytesAfterEnd (at + 1) (λ b u t. rw (lt-leb _ _ h))

  pub end_on : Inside s at p → length s ≤ at + 1 → Decides Any end_at s at p (Ok End)
  unfolding end_at
  end_on z h = record { move = λ b u t. rw (le-leb _ _ h); room = λ b u t. tt; ends = λ l. omega (arith, z.begun) }

-- two tests, and a test of the contrary
both_hold : (a b : Bool) → (a && b) ≡ true → (a ≡ true) × (b ≡ true)
both_hold true b h = (refl, h)
both_hold false b h = absurd (true≢false (sym h))

not_not : (k : Bool) → not (not k) ≡ k
not_not true = refl
not_not false = refl

-- the touches of a step are in range where its kinds and its positions are
step_low : (x : StepValue) → kinds_low (as_step x) ≡ true → PositionsLow (as_step x) → StepLow (as_step x)
step_low (Single t) e l = record { kind = ltb-true _ _ e; position = l }
step_low (Transfer t u) e l =
    let h = both_hold (ltb t.kind kind_limit) _ e in
    (record { kind = ltb-true _ _ h.0; position = l.0 }, record { kind = ltb-true _ _ h.1; position = l.1 })

-- what is read of the lent table of lengths
module _ (b : Book) (p : Progress) (u : Underway b p) (ls : List ℕ) (e : b.lengths ≡ ls) where
  length_read : (r n : ℕ) → n ≡ get_or ls r 0 → get_or (lengths (contents_of (so_far b p)).runs) r 0 ≡ n
  length_read r n d = length_is (so_far b p) u.valid r ∙ ap (λ (l : List ℕ). get_or l r 0) e ∙ sym d

  short_read : (r : ℕ) → get_or ls r 0 ≤ run_step_limit
  short_read r = omega (arith, u.valid.runs.lengths.small r, ap (λ (l : List ℕ). get_or l r 0) e)

-- the number of steps of the last run
last_read : (b : Book) (p : Progress) → Underway b p → (n : ℕ) → (p.declared ≡ 0 → ⊥) → n ≡ p.last → last (lengths (contents_of (so_far b p)).runs) ≡ n
last_read b p u n h d = last_is (so_far b p) u.valid (omega arith) ∙ sym (u.last (omega arith)) ∙ sym d

-- the step x, whose bytes are there, is tested
module _ (x : StepValue) (at : ℕ) (p : Progress) where
  -- a refusal behind the test of the bytes
  step_out : (cause : Cause) → ((b : Book) → Underway b p → Any b → Fails (test (leb p.group 1) OutOfOrder ∷ operand_tests p.rules (contents_of (so_far b p)) (step (as_step x))) cause)
      → (c : Parsed) → c ≡ Err (refusal cause at) → StepTested x at p c
  step_out cause w c d = record { decides = λ f s e h. turned Any f s at p cause (λ b u t. rw e (there (le-leb _ _ h) (w b u t))) c d }

  pub step_late : 1 < p.group → (c : Parsed) → c ≡ Err (refusal OutOfOrder at) → StepTested x at p c
  step_late h = step_out OutOfOrder (λ b u t. here (lt-leb _ _ h))

  module _ (h1 : p.group ≤ 1) where
    pub step_early : p.declared ≡ 0 → (c : Parsed) → c ≡ Err (refusal OutOfOrder at) → StepTested x at p c
    unfolding operand_tests
    step_early h = step_out OutOfOrder (λ b u t. there (le-leb _ _ h1) (here (rw (runs_are (so_far b p) u.valid) (le-ltb 0 p.declared (omega arith)))))

    module _ (h2 : p.declared ≡ 0 → ⊥) (k : Bool) (e : k ≡ kinds_low (as_step x)) where
      begun : (b : Book) → Underway b p → ltb 0 (length (contents_of (so_far b p)).runs) ≡ true
      begun b u = rw (runs_are (so_far b p) u.valid) (lt-ltb 0 p.declared (omega arith))

      pub step_kind : not k ≡ true → (c : Parsed) → c ≡ Err (refusal WrongKind at) → StepTested x at p c
      unfolding operand_tests
      step_kind h = step_out WrongKind (λ b u t. there (le-leb _ _ h1) (there (begun b u) (here (sym e ∙ sym (not_not k) ∙ ap not h))))

      module _ (h3 : not k ≡ false) (n : ℕ) (d : n ≡ p.last) where
        kinds : kinds_low (as_step x) ≡ true
        kinds = sym e ∙ sym (not_not k) ∙ ap not h3

        pub step_long : run_step_limit ≤ n → (c : Parsed) → c ≡ Err (refusal RunTooLong at) → StepTested x at p c
        unfolding operand_tests
        step_long h = step_out RunTooLong (λ b u t.
            there (le-leb _ _ h1) (there (begun b u) (there kinds (here (rw (last_read b p u n h2 d) (le-ltb _ _ h))))))

        module _ (h4 : n < run_step_limit) where
          pub step_many : p.rules.step_limit ≤ p.total → (c : Parsed) → c ≡ Err (refusal TooManySteps at) → StepTested x at p c
          unfolding operand_tests
          step_many h = step_out TooManySteps (λ b u t.
              there (le-leb _ _ h1) (there (begun b u) (there kinds (there (rw (last_read b p u n h2 d) (lt-ltb _ _ h4)) (here (rw (sum_is (so_far b p) u.valid) (le-ltb _ _ h)))))))

          pub step_on : (c m : ℕ) → c ≡ step_code x → m ≡ width (step (as_step x)) → Limited p → PositionsLow (as_step x) → p.total < p.rules.step_limit → StepTested x at p (Ok (Step c m))
          unfolding operand_tests
          step_on c m o k z l h = let is : step_coded c ≡ as_step x = rw o (coded_back x (step_low x kinds l)) in record {
            decides = λ f s g i. taken Any f s at p (Ok (Step c m))
                (λ b u t. rw g (le-leb _ _ i, (le-leb _ _ h1, (begun b u, (kinds, (rw (last_read b p u n h2 d) (lt-ltb _ _ h4), (rw (sum_is (so_far b p) u.valid) (lt-ltb _ _ h), tt)))))))
                (λ b u t. rw (g, is, k))
                (λ b u t. record {
                  room = record { low = rw o (code_low x (step_low x kinds l)); declared = omega arith; short = rw (← u.last (omega arith), ← d) h4; few = omega (arith, z.steps) };
                  wide = k ∙ rw is;
                })
                (λ l. omega arith);
          }

module _ (s : List ℕ) (at : ℕ) (p : Progress) where
  -- 53 and 54
  pub single_short : length s - at < 4 → (c : Parsed) → c ≡ Err (refusal EndsEarly at) → Decides Any (obey single_at) s at p c
  single_short h = turned Any single_at s at p EndsEarly (λ b u t. here (lt-leb _ _ h))

  pub transfer_short : length s - at < 7 → (c : Parsed) → c ≡ Err (refusal EndsEarly at) → Decides Any (obey transfer_at) s at p c
  transfer_short h = turned Any transfer_at s at p EndsEarly (λ b u t. here (lt-leb _ _ h))

module _ (s : List ℕ) (at : ℕ) (p : Progress) (ls : List ℕ) where
  abbrev Of : (List ℕ → ℕ → Command) → Parsed → Type 0
  Of f = Decides (Lengths ls) (obey f) s at p

  -- 42
  pub cut_short : length s - at < 4 → (c : Parsed) → c ≡ Err (refusal EndsEarly at) → Of cut_at c
  cut_short h = turned (Lengths ls) cut_at s at p EndsEarly (λ b u t. here (lt-leb _ _ h))

  pub cut_late : 4 ≤ length s - at → 2 < p.group → (c : Parsed) → c ≡ Err (refusal OutOfOrder at) → Of cut_at c
  cut_late h0 h = turned (Lengths ls) cut_at s at p OutOfOrder (λ b u t. there (le-leb _ _ h0) (here (lt-leb _ _ h)))

  module _ (h0 : 4 ≤ length s - at) (h1 : p.group ≤ 2) (r j o : ℕ) (er : r ≡ get_or s (at + 1) 0) (ej : j ≡ get_or s (at + 2) 0) (eo : o ≡ get_or s (at + 3) 0) where
    -- a refusal behind the first two rows
    cut_out : (cause : Cause) → ((b : Book) → Underway b p → Lengths ls b → Fails (operand_tests p.rules (contents_of (so_far b p)) (cut_at s at)) cause) → (c : Parsed) → c ≡ Err (refusal cause at) → Of cut_at c
    cut_out cause w = turned (Lengths ls) cut_at s at p cause (λ b u t. there (le-leb _ _ h0) (there (le-leb _ _ h1) (w b u t)))

    own : r < p.declared → (b : Book) → Underway b p → ltb (get_or s (at + 1) 0) (length (contents_of (so_far b p)).runs) ≡ true
    own h b u = rw (← er, runs_are (so_far b p) u.valid) (lt-ltb _ _ h)

    viewer : o < p.declared → (b : Book) → Underway b p → ltb (get_or s (at + 3) 0) (length (contents_of (so_far b p)).runs) ≡ true
    viewer h b u = rw (← eo, runs_are (so_far b p) u.valid) (lt-ltb _ _ h)

    pub cut_run : p.declared ≤ r → (c : Parsed) → c ≡ Err (refusal WrongRun at) → Of cut_at c
    unfolding operand_tests
    cut_run h = cut_out WrongRun (λ b u t. here (rw (← er, runs_are (so_far b p) u.valid) (le-ltb _ _ h)))

    pub cut_seen : r < p.declared → p.declared ≤ o → (c : Parsed) → c ≡ Err (refusal WrongRun at) → Of cut_at c
    unfolding operand_tests
    cut_seen h2 h = cut_out WrongRun (λ b u t. there (own h2 b u) (here (rw (← eo, runs_are (so_far b p) u.valid) (le-ltb _ _ h))))

    pub cut_same : r < p.declared → o < p.declared → r ≡ o → (c : Parsed) → c ≡ Err (refusal WrongRun at) → Of cut_at c
    unfolding operand_tests
    cut_same h2 h3 h = cut_out WrongRun (λ b u t. there (own h2 b u) (there (viewer h3 b u) (here (rw (← er, ← eo, eq-eqb r o h)))))

    module _ (h2 : r < p.declared) (h3 : o < p.declared) (h4 : r ≡ o → ⊥) (n : ℕ) (d : n ≡ get_or ls r 0) where
      -- a refusal behind the rows of the runs
      cut_past : (cause : Cause) (b : Book) → Underway b p → {ts : List Test} → Fails ts cause
          → Fails (record { holds = ltb (get_or s (at + 1) 0) (length (contents_of (so_far b p)).runs); cause = WrongRun }
          ∷ record { holds = ltb (get_or s (at + 3) 0) (length (contents_of (so_far b p)).runs); cause = WrongRun }
          ∷ record { holds = not (eqb (get_or s (at + 1) 0) (get_or s (at + 3) 0)); cause = WrongRun } ∷ ts) cause
      cut_past cause b u f = there (own h2 b u) (there (viewer h3 b u) (there {t = record { holds = not (eqb (get_or s (at + 1) 0) (get_or s (at + 3) 0)); cause = WrongRun }} (rw (← er, ← eo, ne_eqb r o h4)) f))

      positive : (j ≡ 0 → ⊥) → ltb 0 (get_or s (at + 2) 0) ≡ true
      positive h = rw (← ej) (lt-ltb 0 j (omega arith))

      length_of : (b : Book) → Underway b p → Lengths ls b → get_or (lengths (contents_of (so_far b p)).runs) (get_or s (at + 1) 0) 0 ≡ n
      length_of b u t = rw (← er) (length_read b p u ls t.lengths_are r n d)

      pub cut_number : (j ≡ 0) ⊎ ((j ≡ 0 → ⊥) × (n ≤ j)) → (c : Parsed) → c ≡ Err (refusal WrongCut at) → Of cut_at c
      unfolding operand_tests
      cut_number (inl h) = cut_out WrongCut (λ b u t. cut_past WrongCut b u (here (rw (← ej) (le-ltb 0 j (omega arith)))))
      cut_number (inr (h5, h)) = cut_out WrongCut (λ b u t. cut_past WrongCut b u (there (positive h5) (here (rw (length_of b u t, ← ej) (le-ltb _ _ h)))))

      module _ (h5 : j ≡ 0 → ⊥) (h6 : j < n) (z : Inside s at p) (i : ℕ) (q : i ≡ r * run_cuts + j * run_limit + o) where
        j_low : (b : Book) → Underway b p → Lengths ls b → j < run_step_limit
        j_low b u t = omega (arith, short_read b p u ls t.lengths_are r)

        above_cuts : (b : Book) → Underway b p → Lengths ls b
            → above_cut (contents_of (so_far b p)).cuts (record { of_run = get_or s (at + 1) 0; after = get_or s (at + 2) 0; seen_by = get_or s (at + 3) 0 }) ≡ leb p.next_cut i
        above_cuts b u t = rw (← er, ← ej, ← eo, q) (cut_above (so_far b p) u.valid p.next_cut r j o u.cuts (j_low b u t) (omega (arith, z.limited.few)))

        inside : (b : Book) → Underway b p → Lengths ls b → ltb (get_or s (at + 2) 0) (get_or (lengths (contents_of (so_far b p)).runs) (get_or s (at + 1) 0) 0) ≡ true
        inside b u t = rw (length_of b u t, ← ej) (lt-ltb _ _ h6)

        pub cut_low : i < p.next_cut → (c : Parsed) → c ≡ Err (refusal NotRising at) → Of cut_at c
        unfolding operand_tests
        cut_low h = cut_out NotRising (λ b u t. cut_past NotRising b u (there (positive h5) (there (inside b u t) (here (above_cuts b u t ∙ lt-leb _ _ h)))))

        pub cut_on : p.next_cut ≤ i → Of cut_at (Ok (Cut i))
        unfolding operand_tests
        cut_on h = taken (Lengths ls) cut_at s at p (Ok (Cut i))
            (λ b u t. (le-leb _ _ h0, (le-leb _ _ h1, (own h2 b u, (viewer h3 b u, (rw (← er, ← eo, ne_eqb r o h4), (positive h5, (inside b u t, (above_cuts b u t ∙ le-leb _ _ h, tt)))))))))
            (λ b u t.
            let l0 : i / run_cuts ≡ r = omega (arith, z.limited.few, j_low b u t) in
            let l1 : i % run_cuts / run_limit ≡ j = omega (arith, z.limited.few, j_low b u t) in
            let l2 : i % run_limit ≡ o = omega (arith, z.limited.few, j_low b u t) in
            rw (l0, l1, l2, er, ej, eo))
            (λ b u t. record { rising = h; low = omega (arith, z.limited.few, j_low b u t) })
            (λ l. omega arith)

-- 48
module _ (s : List ℕ) (at : ℕ) (p : Progress) (ls ns : List ℕ) where
  abbrev OfDone : Parsed → Type 0
  OfDone = Decides (Tables ls ns) (obey done_at) s at p

  pub done_short : length s - at < 2 → (c : Parsed) → c ≡ Err (refusal EndsEarly at) → OfDone c
  done_short h = turned (Tables ls ns) done_at s at p EndsEarly (λ b u t. here (lt-leb _ _ h))

  module _ (h0 : 2 ≤ length s - at) (r : ℕ) (e : r ≡ get_or s (at + 1) 0) where
    pub done_run : p.declared ≤ r → (c : Parsed) → c ≡ Err (refusal WrongRun at) → OfDone c
    unfolding operand_tests
    done_run h = turned (Tables ls ns) done_at s at p WrongRun (λ b u t.
        there (le-leb _ _ h0) (there (le-leb _ _ u.group) (here (rw (← e, runs_are (so_far b p) u.valid) (le-ltb _ _ h)))))

    module _ (h1 : r < p.declared) where
      own_run : (b : Book) → Underway b p → ltb (get_or s (at + 1) 0) (length (contents_of (so_far b p)).runs) ≡ true
      own_run b u = rw (← e, runs_are (so_far b p) u.valid) (lt-ltb _ _ h1)

      -- how many of its steps are done, and how many it has
      done_read : (b : Book) → Underway b p → Tables ls ns b
          → (count (contents_of (so_far b p)).history (get_or s (at + 1) 0) ≡ get_or ns r 0) × (get_or (lengths (contents_of (so_far b p)).runs) (get_or s (at + 1) 0) 0 ≡ get_or ls r 0)
      done_read b u t =
          (rw (← e) (count_is (so_far b p) u.valid r ∙ ap (λ (l : List ℕ). get_or l r 0) t.counts_are), rw (← e) (length_read b p u ls t.lengths_are r (get_or ls r 0) refl))

      pub done_none : get_or ls r 0 ≤ get_or ns r 0 → (c : Parsed) → c ≡ Err (refusal NoStepLeft at) → OfDone c
      unfolding operand_tests
      done_none h = turned (Tables ls ns) done_at s at p NoStepLeft (λ b u t.
          there (le-leb _ _ h0) (there (le-leb _ _ u.group) (there (own_run b u) (here (rw ((done_read b u t).0, (done_read b u t).1) (le-ltb _ _ h))))))

      pub done_on : get_or ns r 0 < get_or ls r 0 → OfDone (Ok (Done (get_or s (at + 1) 0)))
      unfolding operand_tests
      done_on h = taken (Tables ls ns) done_at s at p (Ok (Done (get_or s (at + 1) 0)))
          (λ b u t. (le-leb _ _ h0, (le-leb _ _ u.group, (own_run b u, (rw ((done_read b u t).0, (done_read b u t).1) (lt-ltb _ _ h), tt)))))
          (λ b u t. refl)
          (λ b u t. rw (← e) (record { declared = h1; left = rw (t.lengths_are, t.counts_are) h }))
          (λ l. omega arith)

-- the command of the byte
module _ (s : List ℕ) (at : ℕ) (p : Progress) (ls ns : List ℕ) where
  -- the byte's own function decides
  by : {tables : Book → Type 0} {format : Rules → List ℕ → ℕ → ReadState → Move} (c : Parsed) → ((b : Book) → Tables ls ns b → tables b) → Decides tables format s at p c
      → ((t : ReadState) → format p.rules s at t ≡ command_at p.rules s at t) → Decides (Tables ls ns) command_at s at p c
  by c f w e = record { move = λ b u t. w.move b u (f b t) ∙ e (read_state_of b p); room = λ b u t. w.room b u (f b t); ends = w.ends }

  lent_lengths : (b : Book) → Tables ls ns b → Lengths ls b
  lent_lengths b t = record { lengths_are = t.lengths_are }

  pub command_none : length s ≤ at → (c : Parsed) → c ≡ Err (refusal EndsEarly at) → Decides (Tables ls ns) command_at s at p c
  unfolding command_at
  command_none h = stopped EndsEarly at (λ b u t. rw (le-ltb _ _ h))

  module _ (c : Parsed) (h : at < length s) where
    pub command_pair : get_or s at 0 ≡ 0x43 → Decides Any (obey pair_at) s at p c → Decides (Tables ls ns) command_at s at p c
    unfolding command_at
    command_pair e w = by c (λ b t. tt) w (λ t. rw (lt-ltb _ _ h, e))

    pub command_run : get_or s at 0 ≡ 0x52 → Decides Any (obey run_at) s at p c → Decides (Tables ls ns) command_at s at p c
    unfolding command_at
    command_run e w = by c (λ b t. tt) w (λ t. rw (lt-ltb _ _ h, e))

    pub command_single : get_or s at 0 ≡ 0x53 → Decides Any (obey single_at) s at p c → Decides (Tables ls ns) command_at s at p c
    unfolding command_at
    command_single e w = by c (λ b t. tt) w (λ t. rw (lt-ltb _ _ h, e))

    pub command_transfer : get_or s at 0 ≡ 0x54 → p.rules.has_transfers ≡ true → Decides Any (obey transfer_at) s at p c → Decides (Tables ls ns) command_at s at p c
    unfolding command_at
    command_transfer e g w = by c (λ b t. tt) w (λ t. rw (lt-ltb _ _ h, e, g))

    pub command_cut : get_or s at 0 ≡ 0x42 → p.rules.has_cuts ≡ true → Decides (Lengths ls) (obey cut_at) s at p c → Decides (Tables ls ns) command_at s at p c
    unfolding command_at
    command_cut e g w = by c lent_lengths w (λ t. rw (lt-ltb _ _ h, e, g))

    pub command_done : get_or s at 0 ≡ 0x48 → Decides (Tables ls ns) (obey done_at) s at p c → Decides (Tables ls ns) command_at s at p c
    unfolding command_at
    command_done e w = by c (λ b t. t) w (λ t. rw (lt-ltb _ _ h, e))

    pub command_end : get_or s at 0 ≡ 0x45 → Decides Any end_at s at p c → Decides (Tables ls ns) command_at s at p c
    unfolding command_at
    command_end e w = by c (λ b t. tt) w (λ t. rw (lt-ltb _ _ h, e))

    -- a command that the dialect does not have
    pub command_no_transfer : c ≡ Err (refusal NoCommand at) → get_or s at 0 ≡ 0x54 → p.rules.has_transfers ≡ false → Decides (Tables ls ns) command_at s at p c
    unfolding command_at
    command_no_transfer d e g = stopped NoCommand at (λ b u t. rw (lt-ltb _ _ h, e, g)) c d

    pub command_no_cut : c ≡ Err (refusal NoCommand at) → get_or s at 0 ≡ 0x42 → p.rules.has_cuts ≡ false → Decides (Tables ls ns) command_at s at p c
    unfolding command_at
    command_no_cut d e g = stopped NoCommand at (λ b u t. rw (lt-ltb _ _ h, e, g)) c d

    pub command_unknown : c ≡ Err (refusal NoCommand at) → (get_or s at 0 ≡ 0x43 → ⊥) → (get_or s at 0 ≡ 0x52 → ⊥) → (get_or s at 0 ≡ 0x53 → ⊥) → (get_or s at 0 ≡ 0x54 → ⊥)
        → (get_or s at 0 ≡ 0x42 → ⊥) → (get_or s at 0 ≡ 0x48 → ⊥) → (get_or s at 0 ≡ 0x45 → ⊥) → Decides (Tables ls ns) command_at s at p c
    unfolding command_at
    command_unknown d n0 n1 n2 n3 n4 n5 n6 =
        stopped NoCommand at (λ b u t. rw (lt-ltb _ _ h, ne_eqb _ _ n0, ne_eqb _ _ n1, ne_eqb _ _ n2, ne_eqb _ _ n3, ne_eqb _ _ n4, ne_eqb _ _ n5, ne_eqb _ _ n6)) c d
