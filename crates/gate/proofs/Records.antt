-- What each way through opening and the calls shows: the record's fields turned into the plain gate's words.
use Rattle.std.specs.Prelude.{Ok, Err}
use Prim.Native.Nat.{ℕ, zero, suc, ◌+◌, ◌≤◌, ◌<◌}
use native.Mathlib.Nat.{not-suc-le-zero, le_of_suc-le-suc}
use native.Mathlib.Omega.{arith}
use mathlib.Core.Path.{◌≡◌, refl, ap, sym, ◌∙◌}
use mathlib.Core.Bool.{Bool, true, false}
use mathlib.Core.List.{List, [], ◌∷◌}
use borrow.Author.Tests.{eq-eqb, ne_eqb, lt-ltb, le-ltb}
use mir.Val.{Fits}
use mir.Syntax.{w64}
use lib.ListN.{length, get_or, set, replicate}
use lib.Seq.{get_or-set_same, get_or-set_other, set_out}
use native.Mathlib.Decide.{ℕ_discrete, dec_lt}
use lib.Dec.{eqb}
use Rattle.theory.specs.History.{count, project, but}
use Rattle.theory.specs.Relative.{RelativelySerializable}
use Rattle.book.specs.Format.{run_limit, step_limit, Contents, Outcome, pick, done, effect, refused as book_refused, with_history}
use Rattle.book.specs.Meaning.{conflict_of, unit_of}
use Rattle.book.specs.Book.{set_history, Represents, flagged, unflagged, contents_of, Flags, empty_book}
use Rattle.book.specs.declared.Book.{Book}
use Rattle.book.specs.declared.Cause.{Cause}
use Rattle.book.specs.declared.Cause.TheVariants.{NotDeclared, Withdrawn as WasWithdrawn, AllKept, Tangled, TakenBack as WasTakenBack}
use Rattle.book.specs.declared.Refusal.{Refusal as RefusalValue}
use Rattle.book.proofs.Groups.{count_flagged, flags_set}
use Rattle.book.proofs.Books.{runs_are, length_is, count_is, history_long, done_below_steps, represents_done}
use Rattle.book.proofs.Empty.{represents_empty}
use Rattle.theory.specs.Answers.{Answers}
use Rattle.theory.proofs.Answered.{refute}
use Rattle.theory.proofs.Lists.{count_snoc, get_or_zeros}
use Rattle.theory.proofs.Within.{count_kept, count_left_out, project_agree}
use Rattle.plain.specs.Plain.{Call, step, withdraw, take_back, In, insert, Eligible, Refusal, MayTakeBack, undeclared, was_taken_back, IsTangled, place, PlainCall, step_refused, step_tangled, step_kept, withdraw_refused, withdraws, take_back_refused, takes_back, not_declared, was_withdrawn, all_kept}
use Rattle.gate.specs.Gate.{Replied, book_of, state_of, Sound, OpenedAs, SoundCall, CalledAs, on_sound, on_damaged}
use Rattle.gate.specs.Inner.Calls.{NewlyOpened, StepLeft}
use Rattle.gate.specs.declared.Gate.{Gate}
use Rattle.gate.specs.declared.Reply.TheVariants.{Place, Withdrawn, TakenBack}

-- ---- opening

pub opened_refused : (o : Outcome) (x : RefusalValue) (g : Gate) → o ≡ book_refused x.cause x.place → NewlyOpened (contents_of empty_book) g
    → OpenedAs o (record { answer = Err x; gate = g })
opened_refused o x g e n = record {
  answer = rw e;
  book = rw e (n.book ∙ ap (λ (c : Contents). with_history c []) represents_empty.contents);
  state = n.state;
  sound = n.sound;
}

-- ---- the withdrawn runs, and those taken back, are those whose flag is set

pub flagged_in : (xs : List ℕ) (r : ℕ) → ¬ (get_or xs r 0 ≡ 0) → In r (flagged 0 xs)
flagged_in xs r n = omega (arith, rw (ne_eqb (get_or xs r 0) 0 n) at (count_flagged xs r))

pub flagged_out : (xs : List ℕ) (r : ℕ) → get_or xs r 0 ≡ 0 → ¬ In r (flagged 0 xs)
flagged_out xs r e w = omega (arith, rw (eq-eqb (get_or xs r 0) 0 e) at (count_flagged xs r))

-- what is below every number of a rising list goes to its front
insert_front : (i j : ℕ) (xs : List ℕ) → i < j → insert i (flagged j xs) ≡ i ∷ flagged j xs
insert_front i j [] h = refl
insert_front i j (y ∷ xs) h = go (eqb y 0) (insert_front i (suc j) xs (omega arith))
  where
    go : (b : Bool) → insert i (flagged (suc j) xs) ≡ i ∷ flagged (suc j) xs
        → insert i (pick b (flagged (suc j) xs) (j ∷ flagged (suc j) xs)) ≡ i ∷ pick b (flagged (suc j) xs) (j ∷ flagged (suc j) xs)
    go true e = e
    go false e = rw (lt-ltb i j h)

-- a flag set is a run that joins
flagged_set : (j : ℕ) (xs : List ℕ) (i : ℕ) → i < length xs → flagged j (set xs i 1) ≡ insert (j + i) (flagged j xs)
flagged_set j [] i h = absurd (not-suc-le-zero h)
flagged_set j (y ∷ xs) zero h =
    let z : j + 0 ≡ j = omega arith in
    rw z (go (eqb y 0))
  where
    go : (b : Bool) → j ∷ flagged (suc j) xs ≡ insert j (pick b (flagged (suc j) xs) (j ∷ flagged (suc j) xs))
    go true = sym (insert_front j (suc j) xs (omega arith))
    go false = rw (le-ltb j j (omega arith), eq-eqb j j refl)
flagged_set j (y ∷ xs) (suc i) h =
    let z : j + suc i ≡ suc j + i = omega arith in
    rw z (go (eqb y 0) (flagged_set (suc j) xs i (le_of_suc-le-suc h)))
  where
    go : (b : Bool) → flagged (suc j) (set xs i 1) ≡ insert (suc j + i) (flagged (suc j) xs)
        → pick b (flagged (suc j) (set xs i 1)) (j ∷ flagged (suc j) (set xs i 1)) ≡ insert (suc j + i) (pick b (flagged (suc j) xs) (j ∷ flagged (suc j) xs))
    go true e = e
    go false e = rw (le-ltb (suc j + i) j (omega arith), ne_eqb (suc j + i) j (λ q. omega arith)) (ap (λ (l : List ℕ). j ∷ l) e)

flag_set : (xs : List ℕ) (i : ℕ) → i < length xs → flagged 0 (set xs i 1) ≡ insert i (flagged 0 xs)
flag_set xs i h = let z : 0 + i ≡ i = omega arith in rw z at (flagged_set 0 xs i h)

-- a flag set by a call for the run of that number
flag_joins : (xs : List ℕ) (r : ℕ) → Flags run_limit xs → r < run_limit → flagged 0 (set xs r 1) ≡ insert r (flagged 0 xs)
flag_joins xs r f h = flag_set xs r (omega (arith, f.long))

-- a flag that is set stays so where one more is set, and that one is set
flag_stays : (xs : List ℕ) (i x : ℕ) → ¬ (get_or xs x 0 ≡ 0) → ¬ (get_or (set xs i 1) x 0 ≡ 0)
flag_stays xs i x n = all_but (ℕ_discrete x i) (dec_lt i (length xs))
  where
    all_but : Dec (x ≡ i) → Dec (i < length xs) → ¬ (get_or (set xs i 1) x 0 ≡ 0)
    all_but (yes q) (yes h) z = omega (arith, rw q at z, get_or-set_same xs i 1 0 h)
    all_but (yes q) (no h) z = n (rw (set_out xs i 1 (omega (arith, h))) at z)
    all_but (no q) h z = n (sym (get_or-set_other xs i x 1 0 q) ∙ z)

flag_set_there : (xs : List ℕ) (i : ℕ) → Flags run_limit xs → i < run_limit → ¬ (get_or (set xs i 1) i 0 ≡ 0)
flag_set_there xs i f h z = omega (arith, get_or-set_same xs i 1 0 (omega (arith, f.long)))

-- the runs whose flag is 0, where only that of r is set, are those but r
unflagged_but : (r : ℕ) → r < run_limit → (x : ℕ) → unflagged (set (replicate run_limit 0) r 1) x ≡ but r x
unflagged_but r h x = go (ℕ_discrete x r)
  where
    go : Dec (x ≡ r) → unflagged (set (replicate run_limit 0) r 1) x ≡ but r x
    go (yes q) = rw (q, get_or-set_same {A = ℕ} (replicate run_limit 0) r 1 0 h, eq-eqb r r refl)
    go (no q) = rw (get_or-set_other {A = ℕ} (replicate run_limit 0) r x 1 0 q, get_or_zeros run_limit x, ne_eqb r x (λ p. q (sym p)))

-- ---- the step's book

module _ (b : Book) (r : ℕ) (w : StepLeft b r) where
  pub step_place : b.done < step_limit
  step_place = omega (arith, done_below_steps b r w.valid w.room, w.valid.runs.few_steps)

  pub step_count : Fits w64 (b.done + 1)
  step_count = omega (arith, step_place)

  pub step_book : Represents (effect (done r) (contents_of b)) (set_history b (set b.counts r (get_or b.counts r 0 + 1)) (set b.history b.done r) (b.done + 1))
  step_book = represents_done b r w.valid w.room

-- ---- a step, a withdrawal

module _ (g : Gate) (r : ℕ) (y : Sound g) where
  -- 20, 21 and 22 read off the record's tables are the plain gate's
  pub refused_undeclared : g.book.declared ≤ r → Refusal (book_of g) (state_of g) r NotDeclared
  refused_undeclared h = not_declared (rw (runs_are g.book y.valid) h)

  module _ (h : r < g.book.declared) where
    pub run_low : r < run_limit
    run_low = omega (arith, y.valid.runs.few_runs)

    declared_in : r < length (contents_of g.book).runs
    declared_in = rw (runs_are g.book y.valid) h

    pub refused_withdrawn : ¬ (get_or g.withdrawn r 0 ≡ 0) → Refusal (book_of g) (state_of g) r WasWithdrawn
    refused_withdrawn n = was_withdrawn declared_in (flagged_in g.withdrawn r n)

    module _ (z : get_or g.withdrawn r 0 ≡ 0) where
      pub refused_kept : get_or g.book.lengths r 0 ≤ get_or g.book.counts r 0 → Refusal (book_of g) (state_of g) r AllKept
      refused_kept l = all_kept declared_in (flagged_out g.withdrawn r z) (rw (length_is g.book y.valid r, count_is g.book y.valid r) l)

      pub is_eligible : get_or g.book.counts r 0 < get_or g.book.lengths r 0 → Eligible (book_of g) (state_of g) r
      is_eligible l = record {
        declared = declared_in;
        not_withdrawn = flagged_out g.withdrawn r z;
        left = rw (length_is g.book y.valid r, count_is g.book y.valid r) l;
      }

  pub step_refuses : (cause : Cause) → Refusal (book_of g) (state_of g) r cause → SoundCall g (step r) (Err cause) g
  step_refuses cause w = record { plain = step_refused w; book = refl; sound = y }

  pub withdraw_refuses : (cause : Cause) → Refusal (book_of g) (state_of g) r cause → SoundCall g (withdraw r) (Err cause) g
  withdraw_refuses cause w = record { plain = withdraw_refused w; book = refl; sound = y }

  module _ (w : Eligible (book_of g) (state_of g) r) where
    declared_here : r < g.book.declared
    declared_here = rw (runs_are g.book y.valid) at w.declared

    open_here : get_or g.withdrawn r 0 ≡ 0
    open_here = go (ℕ_discrete (get_or g.withdrawn r 0) 0)
      where
        go : Dec (get_or g.withdrawn r 0 ≡ 0) → get_or g.withdrawn r 0 ≡ 0
        go (yes e) = e
        go (no n) = absurd (w.not_withdrawn (flagged_in g.withdrawn r n))

    pub step_left : StepLeft g.book r
    step_left = record { valid = y.valid; room = record { declared = declared_here; left = rw (length_is g.book y.valid r, count_is g.book y.valid r) at w.left } }

    pub flag_low : r < run_limit
    flag_low = run_low declared_here

    pub withdraw_done : SoundCall g (withdraw r) (Ok Withdrawn) (record { book = g.book; withdrawn = set g.withdrawn r 1; taken_back = g.taken_back })
    withdraw_done = record {
      plain = rw (flag_joins g.withdrawn r y.withdrawn_flags flag_low) (withdraws w);
      book = refl;
      sound = record {
        valid = y.valid;
        withdrawn_flags = flags_set run_limit g.withdrawn r y.withdrawn_flags;
        taken_back_flags = y.taken_back_flags;
        taken_back_agree = record { withdrawn = λ x n. flag_stays g.withdrawn r x (y.taken_back_agree.withdrawn x n); none_kept = y.taken_back_agree.none_kept };
      };
    }

    module _ (b : Book) (ok : Bool) (m : Represents (effect (done r) (contents_of g.book)) b) (p : Answers (RelativelySerializable (conflict_of (contents_of b)) (unit_of (contents_of b)) (contents_of b).history) ok) where
      pub step_tangles : ok ≡ false → SoundCall g (step r) (Err Tangled) g
      step_tangles h = record { plain = step_tangled w (rw m.contents at (refute p h)); book = refl; sound = y }

      -- the run is none of those taken back, which are withdrawn
      none_kept_after : (x : ℕ) → ¬ (get_or g.taken_back x 0 ≡ 0) → get_or b.counts x 0 ≡ 0
      none_kept_after x n =
          let other : ¬ (r ≡ x) = λ q. y.taken_back_agree.withdrawn x n (rw q at open_here) in
          let one_more : count (contents_of b).history x ≡ count (contents_of g.book).history x = rw (m.contents, count_snoc, ne_eqb r x other) in
          omega (arith, count_is b m.valid x, one_more, count_is g.book y.valid x, y.taken_back_agree.none_kept x n)

      kept_of : (n : ℕ) (c : Contents) → n ≡ length (contents_of g.book).history → c ≡ effect (done r) (contents_of g.book) → ¬ IsTangled (book_of g) (state_of g) r
          → PlainCall (book_of g) (state_of g) (step r) (place n) (record { kept = c.history; withdrawn = flagged 0 g.withdrawn; taken_back = flagged 0 g.taken_back })
      kept_of n c p q s = rw (p, q) (step_kept w s)

      pub step_keeps : ok ≡ true → SoundCall g (step r) (Ok (Place g.book.done)) (record { book = b; withdrawn = g.withdrawn; taken_back = g.taken_back })
      step_keeps h = record {
        plain = kept_of g.book.done (contents_of b) (sym (history_long g.book y.valid)) m.contents (λ n. n (rw m.contents at (p.sound h)));
        book = rw m.contents;
        sound = record {
          valid = m.valid;
          withdrawn_flags = y.withdrawn_flags;
          taken_back_flags = y.taken_back_flags;
          taken_back_agree = record { withdrawn = y.taken_back_agree.withdrawn; none_kept = none_kept_after };
        };
      }

-- ---- a take-back

module _ (g : Gate) (r : ℕ) (y : Sound g) where
  pub take_back_undeclared : g.book.declared ≤ r → SoundCall g (take_back r) (Err NotDeclared) g
  take_back_undeclared h = record { plain = take_back_refused {r = r} (undeclared (rw (runs_are g.book y.valid) h)); book = refl; sound = y }

  module _ (h : r < g.book.declared) where
    low : r < run_limit
    low = run_low g r y h

    pub take_back_again : ¬ (get_or g.taken_back r 0 ≡ 0) → SoundCall g (take_back r) (Err WasTakenBack) g
    take_back_again n = record { plain = take_back_refused {r = r} (was_taken_back (declared_in g r y h) (flagged_in g.taken_back r n)); book = refl; sound = y }

    module _ (z : get_or g.taken_back r 0 ≡ 0) (b : Book)
        (m : Represents (with_history (contents_of g.book) (project (unflagged (set (replicate run_limit 0) r 1)) (contents_of g.book).history)) b) where
      others : (contents_of b).history ≡ project (but r) (contents_of g.book).history
      others = rw m.contents (project_agree _ _ (contents_of g.book).history (λ p i. unflagged_but r low _))

      may_take_back : MayTakeBack (book_of g) (state_of g) r
      may_take_back = record { declared = declared_in g r y h; not_taken_back = flagged_out g.taken_back r z }

      -- a run that is taken back now or was before
      gone : (x : ℕ) → ¬ (get_or (set g.taken_back r 1) x 0 ≡ 0) → Dec (x ≡ r) → ¬ (get_or (set g.withdrawn r 1) x 0 ≡ 0) × (get_or b.counts x 0 ≡ 0)
      gone x n (yes q) = (rw q (flag_set_there g.withdrawn r y.withdrawn_flags low), omega (arith, count_is b m.valid x, left))
        where
          left : count (contents_of b).history x ≡ 0
          left = rw (others, q) (count_left_out (but r) r (rw (eq-eqb r r refl)) (contents_of g.book).history)
      gone x n (no q) = (flag_stays g.withdrawn r x (y.taken_back_agree.withdrawn x before), omega (arith, count_is b m.valid x, kept, count_is g.book y.valid x, y.taken_back_agree.none_kept x before))
        where
          before : ¬ (get_or g.taken_back x 0 ≡ 0)
          before = rw (get_or-set_other g.taken_back r x 1 0 q) at n

          kept : count (contents_of b).history x ≡ count (contents_of g.book).history x
          kept = rw others (count_kept (but r) x (rw (ne_eqb r x (λ p. q (sym p)))) (contents_of g.book).history)

      pub take_back_done : SoundCall g (take_back r) (Ok TakenBack) (record { book = b; withdrawn = set g.withdrawn r 1; taken_back = set g.taken_back r 1 })
      take_back_done = record {
        plain = rw (others, flag_joins g.withdrawn r y.withdrawn_flags low, flag_joins g.taken_back r y.taken_back_flags low) (takes_back may_take_back);
        book = rw m.contents;
        sound = record {
          valid = m.valid;
          withdrawn_flags = flags_set run_limit g.withdrawn r y.withdrawn_flags;
          taken_back_flags = flags_set run_limit g.taken_back r y.taken_back_flags;
          taken_back_agree = record { withdrawn = λ x n. (gone x n (ℕ_discrete x r)).0; none_kept = λ x n. (gone x n (ℕ_discrete x r)).1 };
        };
      }

-- a call on a sound record
pub sound_call : {g h : Gate} {x : Call} {a : Replied} → Sound g → CalledAs g x a h → SoundCall g x a h
sound_call y (on_sound z w) = w
sound_call y (on_damaged n e f) = absurd (n y)
