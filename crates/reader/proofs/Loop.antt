-- The reader's loop: its invariant, and what each turn does to it. And the whole reading: the length first, then the commands.
use Prim.Native.Nat.{ℕ, zero, suc, ◌+◌, ◌-◌, ◌≤◌, ◌<◌}
use mathlib.Core.Path.{◌≡◌, refl, ap, sym, ◌∙◌, subst}
use mathlib.Core.List.{List}
use native.Mathlib.Omega.{arith}
use borrow.Author.Tests.{le-leb, lt-leb}
use lib.ListN.{length, get_or, set}
use lib.Seq.{get_or-set_same}
use Rattle.book.specs.Format.{step_limit, length_limit, Contents, Move, Outcome, on, over, refused, accepted, follow, width, group_of, effect, obeyed, ReadState, pair, run, step, cut, done, command_at, read_from, read_commands, read_by, Command}
use Rattle.book.specs.Book.{pairs_size, cuts_size, pair_of, cut_of, step_coded, set_runs, set_history, refusal_at, contents_of, empty_book, Fitting, Represents, ReadAs}
use Rattle.book.specs.Inner.Room.{Next, RoomStep, RoomDone}
use Rattle.reader.specs.Inner.Reader.{at_start, past_pair, past_run, past_step, past_cut, past_done, so_far, read_state_of, Underway, Tables, Parsed, move_of, Room, width_of, MayTake, CommandReadAs}
use Rattle.book.specs.declared.Rules.{Rules}
use Rattle.std.proofs.Common.{Result, Ok, Err}
use Rattle.book.specs.declared.Refusal.{Refusal}
use Rattle.book.specs.declared.Cause.TheVariants.{BookTooLong}
use Rattle.book.proofs.FormatLaws.{width_positive}
use Rattle.book.specs.declared.Book.{Book}
use Rattle.reader.specs.declared.Progress.{Progress}
use Rattle.reader.specs.declared.Command.TheVariants.{Pair, Run, Step, Cut, Done, End}
use Rattle.book.proofs.Groups.{next_more}
use Rattle.book.proofs.Books.{with_pair, with_cut, represents_pair, represents_run, represents_step, represents_cut, represents_done, done_below_steps}
use Rattle.book.proofs.Empty.{represents_empty, next_empty_pairs, next_empty_cuts, empty_counted}

-- the tables, the offset and the progress are those of the format's reader, which has yet to read what makes the whole outcome
pub record Rest (ρ : Rules) (s : List ℕ) (b : Book) (at : ℕ) (p : Progress) : Type 0 where
  pub rules : p.rules ≡ ρ
  pub short : length s ≤ length_limit
  pub fitting : ρ.step_limit ≤ step_limit
  pub underway : Underway b p
  pub inside : at ≤ length s
  pub fuel : ℕ
  pub enough : length s - at < fuel
  pub rest : read_from ρ fuel s at (read_state_of b p) ≡ read_commands ρ s

pub begins : (ρ : Rules) (s : List ℕ) (b : Book) (p : Progress) → Fitting ρ → length s ≤ ρ.length_limit → b ≡ empty_book → p ≡ at_start ρ → Rest p.rules s b 0 p
unfolding read_commands
begins ρ s b p m l e f = rw (e, f) (record {
  rules = refl;
  short = omega (arith, m.bytes);
  fitting = m.steps;
  underway = record { valid = rw empty_counted represents_empty.valid; pairs = next_empty_pairs; cuts = next_empty_cuts; last = λ l. absurd (omega arith); group = omega arith };
  inside = omega arith;
  fuel = suc (length s);
  enough = omega arith;
  rest = ap (λ (d : Contents). read_from ρ (suc (length s)) s 0 (record { group = 0; contents = d })) (ap contents_of empty_counted ∙ represents_empty.contents);
})

pub stands : (ρ : Rules) (s : List ℕ) (b : Book) (at : ℕ) (p : Progress) → Rest ρ s b at p → MayTake s at p
stands ρ s b at p i = record { within = i.inside; short = i.short; limited = record { few = i.underway.valid.runs.few_runs; steps = rw i.rules i.fitting } }

-- the tables after a step, and after a done step whose run is n as a number and r as a byte
abbrev with_step_at : Book → ℕ → ℕ → ℕ → ℕ → Book
with_step_at b n last size c = set_runs b (set b.lengths last size) (set b.steps n c) b.declared b.total

abbrev with_done_at : Book → ℕ → ℕ → ℕ → Book
with_done_at b place n r = set_history b (set b.counts n (get_or b.counts n 0 + 1)) (set b.history place r) b.done

module _ (ρ : Rules) (s : List ℕ) (b : Book) (at : ℕ) (p : Progress) (c : Parsed) (next : ℕ) (i : Rest ρ s b at p) (w : CommandReadAs b.lengths b.counts s at p c next) where
  lent : Tables b.lengths b.counts b
  lent = record { lengths_are = refl; counts_are = refl }

  room : (d : Parsed) → c ≡ d → Room d b p
  room d e = subst (λ (x : Parsed). Room x b p) e (w.decides.room b i.underway lent)

  offset : (d : Parsed) → c ≡ d → next ≡ at + width_of d
  offset d e = w.moved ∙ ap (λ (x : Parsed). at + width_of x) e

  ends : next ≤ length s
  ends = omega (arith, w.moved, w.decides.ends i.inside)

  moves : (d : Parsed) → c ≡ d → command_at ρ s at (read_state_of b p) ≡ move_of d at (read_state_of b p)
  moves d e =
      ap (λ (r : Rules). command_at r s at (read_state_of b p)) (sym i.rules) ∙ sym (w.decides.move b i.underway lent) ∙ ap (λ (x : Parsed). move_of x at (read_state_of b p)) e

  goes : (b' : Book) (q : Progress) → command_at ρ s at (read_state_of b p) ≡ on next (read_state_of b' q) → q.rules ≡ p.rules → Underway b' q → at < next
      → (k : ℕ) → length s - at < k → read_from ρ k s at (read_state_of b p) ≡ read_commands ρ s → Rest ρ s b' next q
  unfolding read_from
  goes b' q e g y l zero n r = absurd (omega arith)
  goes b' q e g y l (suc k) n r = record {
    rules = g ∙ i.rules;
    short = i.short;
    fitting = i.fitting;
    underway = y;
    inside = ends;
    fuel = k;
    enough = omega (arith, ends);
    rest = ap (λ (m : Move). follow m (read_from ρ k s)) (sym e) ∙ r;
  }

  stops : (o : Outcome) → command_at ρ s at (read_state_of b p) ≡ over o → (k : ℕ) → length s - at < k → read_from ρ k s at (read_state_of b p) ≡ read_commands ρ s → o ≡ read_commands ρ s
  unfolding read_from
  stops o e zero n r = absurd (omega arith)
  stops o e (suc k) n r = ap (λ (m : Move). follow m (read_from ρ k s)) (sym e) ∙ r

  -- the next turn, behind the command d, which is the format's f, by what the book holds then
  turn : (d : Parsed) (f : Command) → c ≡ d → ((t : ReadState) → move_of d at t ≡ obeyed f at t) → (b' : Book) (q : Progress) → Represents (effect f (contents_of (so_far b p))) (so_far b' q)
      → q.group ≡ group_of f → q.group ≤ 3 → q.rules ≡ p.rules → Next b'.pairs q.next_pair → Next b'.cuts q.next_cut → (0 < q.declared → q.last ≡ get_or b'.lengths (q.declared - 1) 0) → width_of d ≡ width f → 0 < width f → Rest ρ s b' next q
  turn d f e m b' q y g l r np nc z k h = goes b' q
      (moves d e ∙ m (read_state_of b p) ∙ same (omega (arith, offset d e)) (sym g) (sym y.contents))
      r (record { valid = y.valid; pairs = np; cuts = nc; last = z; group = l }) (omega (arith, offset d e)) i.fuel i.enough i.rest
    where
      same : {n n' j j' : ℕ} {x x' : Contents} → n ≡ n' → j ≡ j' → x ≡ x' → on n (record { group = j; contents = x }) ≡ on n' (record { group = j'; contents = x' })
      same e₁ e₂ e₃ = rw (e₁, e₂, e₃)

  module _ (x : ℕ) (e : c ≡ Ok (Pair x)) where
    pub pair_low : x < pairs_size
    pair_low = (room (Ok (Pair x)) e).low

    pub pair_again : (q : Progress) → q ≡ past_pair p x → Rest ρ s (with_pair b x) next q
    pair_again q f = rw f (turn (Ok (Pair x)) (pair (pair_of x)) e (λ t. refl) (with_pair b x) (past_pair p x)
        (represents_pair (so_far b p) p.next_pair x i.underway.valid i.underway.pairs (room (Ok (Pair x)) e)) refl (omega arith) refl
        (next_more b.pairs p.next_pair x i.underway.pairs (room (Ok (Pair x)) e).rising (omega (arith, pair_low, i.underway.valid.pairs.long))) i.underway.cuts i.underway.last refl (omega arith))

  module _ (x : ℕ) (e : c ≡ Ok (Cut x)) where
    pub cut_low : x < cuts_size
    cut_low = (room (Ok (Cut x)) e).low

    pub cut_again : (q : Progress) → q ≡ past_cut p x → Rest ρ s (with_cut b x) next q
    cut_again q f = rw f (turn (Ok (Cut x)) (cut (cut_of x)) e (λ t. refl) (with_cut b x) (past_cut p x)
        (represents_cut (so_far b p) p.next_cut x i.underway.valid i.underway.cuts (room (Ok (Cut x)) e)) refl (omega arith) refl
        i.underway.pairs (next_more b.cuts p.next_cut x i.underway.cuts (room (Ok (Cut x)) e).rising (omega (arith, cut_low, i.underway.valid.cuts.long))) i.underway.last refl (omega arith))

  module _ (e : c ≡ Ok Run) where
    pub run_again : (q : Progress) → q ≡ past_run p → Rest ρ s b next q
    run_again q f = rw f (turn (Ok Run) (run 0) e (λ t. refl) b (past_run p) (represents_run (so_far b p) 0 i.underway.valid (room (Ok Run) e)) refl (omega arith) refl
        i.underway.pairs i.underway.cuts (λ l. sym (i.underway.valid.runs.lengths.blank (p.declared + 1 - 1) (omega arith))) refl (omega arith))

  module _ (n m : ℕ) (e : c ≡ Ok (Step n m)) where
    step_wide : m ≡ width (step (step_coded n))
    step_wide = (room (Ok (Step n m)) e).wide

    step_room : RoomStep b.lengths p.declared p.total n
    step_room = (room (Ok (Step n m)) e).room

    step_last : p.last ≡ get_or b.lengths (p.declared - 1) 0
    step_last = i.underway.last step_room.declared

    pub step_again : (q : Progress) → q ≡ past_step p → Rest ρ s (with_step_at b p.total (p.declared - 1) (p.last + 1) n) next q
    step_again q f = rw f (turn (Ok (Step n m)) (step (step_coded n)) e (λ t. rw step_wide) (with_step_at b p.total (p.declared - 1) (p.last + 1) n) (past_step p)
        (rw step_last (represents_step (so_far b p) n i.underway.valid step_room)) refl (omega arith) refl i.underway.pairs i.underway.cuts
        (λ l. sym (get_or-set_same b.lengths (p.declared - 1) (p.last + 1) 0 (omega (arith, step_room.declared, i.underway.valid.runs.few_runs, i.underway.valid.runs.lengths.long))))
        step_wide (width_positive (step (step_coded n))))

  module _ (r : ℕ) (e : c ≡ Ok (Done r)) where
    done_room : RoomDone b.lengths b.counts p.declared r
    done_room = room (Ok (Done r)) e

    pub done_low : p.done < step_limit
    done_low = omega (arith, done_below_steps (so_far b p) r i.underway.valid done_room, i.underway.valid.runs.few_steps)

    pub done_again : (n : ℕ) (q : Progress) → n ≡ r → q ≡ past_done p → Rest ρ s (with_done_at b p.done n r) next q
    done_again n q d f = rw (d, f) (turn (Ok (Done r)) (done r) e (λ t. refl) (with_done_at b p.done r r) (past_done p)
        (represents_done (so_far b p) r i.underway.valid done_room) refl (omega arith) refl i.underway.pairs i.underway.cuts i.underway.last refl (omega arith))

-- the book's length is tested first
pub long_refused : (ρ : Rules) (s : List ℕ) (r : Result Book Refusal) → ρ.length_limit < length s → r ≡ Err (refusal_at BookTooLong 0) → ReadAs (read_by ρ s) r
unfolding read_by
long_refused ρ s r h e = rw (e, lt-leb _ _ h) refl

short_read : (ρ : Rules) (s : List ℕ) → length s ≤ ρ.length_limit → read_commands ρ s ≡ read_by ρ s
unfolding read_by
short_read ρ s h = rw (le-leb _ _ h) refl

-- the loop ends; p₀ is the progress at its beginning
module _ (ρ : Rules) (s : List ℕ) (b : Book) (at : ℕ) (p₀ p : Progress) (c : Parsed) (next : ℕ) (o : p₀ ≡ at_start ρ) (i : Rest p₀.rules s b at p)
    (w : CommandReadAs b.lengths b.counts s at p c next) (h : length s ≤ ρ.length_limit) where
  whole : (o' : Outcome) → command_at p₀.rules s at (read_state_of b p) ≡ over o' → o' ≡ read_by ρ s
  whole o' e = stops p₀.rules s b at p c next i w o' e i.fuel i.enough i.rest ∙ ap (λ (q : Progress). read_commands q.rules s) o ∙ short_read ρ s h

  pub ends_refused : (x : Refusal) → c ≡ Err x → ReadAs (read_by ρ s) (Err x)
  ends_refused x e = rw (← whole (refused x.cause x.place) (moves p₀.rules s b at p c next i w (Err x) e)) refl

  pub ends_accepted : (d : Book) → c ≡ Ok End → d ≡ so_far b p → ReadAs (read_by ρ s) (Ok d)
  ends_accepted d e f =
      rw (f, ← whole (accepted (contents_of (so_far b p))) (moves p₀.rules s b at p c next i w (Ok End) e))
      (record { outcome = refl; valid = i.underway.valid })
