-- The class tests over tables: two places, all places before one, a whole history.
use Rattle.std.specs.Prelude.{ℕ, ◌+◌, ◌*◌, ◌<◌, ◌≡◌, ◌⊎◌, ◌≢◌, Bool, List, get_or, take}
use Rattle.theory.specs.Relative.{Depends, RelativelyAtomic, RelativelySerial}
use Rattle.bits.specs.Table.{bit_at}
use Rattle.book.specs.Format.{run_limit}
use Rattle.theory.specs.Answers.{Answers}
use Rattle.dependence.specs.Marks.{Marks}
use Rattle.graph.specs.Units.{Firsts, Lasts}

-- b, of another run than c, comes after the first step of c's unit, as seen by b's run: theory's `Interleaved`, read off the table
pub record InterleavedIn (history firsts : List ℕ) (b c : ℕ) : Type 0 where
  pub other : get_or history c 0 ≢ get_or history b 0
  pub after : get_or firsts (c * run_limit + get_or history b 0) 0 < b

-- b depends on the first step of c's unit, as seen by b's run, or the last one on b
abbrev pub LinkedIn : List ℕ → List ℕ → List ℕ → List ℕ → ℕ → ℕ → Type 0
LinkedIn history firsts lasts dep b c =
    (bit_at dep b (get_or firsts (c * run_limit + get_or history b 0) 0) ≡ 1) ⊎ (bit_at dep (get_or lasts (c * run_limit + get_or history b 0) 0) b ≡ 1)

-- b is interleaved with c's unit and linked to it
pub record ViolatesIn (history firsts lasts dep : List ℕ) (b c : ℕ) : Type 0 where
  pub interleaved : InterleavedIn history firsts b c
  pub linked : LinkedIn history firsts lasts dep b c

-- the answer for every unit whose first places these are
pub record AtomicBy (history : List ℕ) (n : ℕ) (firsts : List ℕ) (answer : Bool) : Type 0 where
  pub answers : (unit : ℕ → ℕ → ℕ → ℕ) → Firsts unit (take n history) firsts → Answers (RelativelyAtomic unit (take n history)) answer

-- the answer for every conflict and unit whose dependences and first and last places these are
pub record RelativelySerialBy (history : List ℕ) (n : ℕ) (firsts lasts dep : List ℕ) (answer : Bool) : Type 0 where
  pub answers : (conflict : ℕ → ℕ → ℕ → ℕ → Bool) (unit : ℕ → ℕ → ℕ → ℕ) → Marks (Depends conflict (take n history)) dep
      → Firsts unit (take n history) firsts → Lasts unit (take n history) lasts → Answers (RelativelySerial conflict unit (take n history)) answer
