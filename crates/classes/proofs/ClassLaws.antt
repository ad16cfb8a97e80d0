-- The class tests over tables decide the classes.
use Prim.Native.Nat.{ℕ, ◌+◌, ◌*◌, ◌<◌, zero-le}
use native.Mathlib.Omega.{arith}
use mathlib.Core.Path.{◌≡◌, refl, sym, ◌∙◌}
use mathlib.Core.Logic.{◌⊎◌, inl, inr}
use mathlib.Core.Bool.{Bool, true, false}
use mathlib.Core.List.{List}
use lib.ListN.{length, get_or, take}
use Rattle.theory.specs.History.{run}
use Rattle.theory.specs.Relative.{Depends, InUnit, Interleaved, RelativelySerial}
use Rattle.theory.specs.Graph.{FirstOf, LastOf}
use Rattle.theory.proofs.Steps.{unit_refl, unit_sym, unit_trans}
use Rattle.bits.specs.Table.{bit_at}
use Rattle.theory.proofs.Answered.{answer_yes, answer_no}
use Rattle.dependence.specs.Marks.{Marks}
use Rattle.dependence.specs.Inner.Tables.{HistoryOf}
use Rattle.graph.specs.Units.{Firsts, Lasts}
use Rattle.dependence.proofs.Counting.{history_length, history_run}
use Rattle.book.specs.Format.{run_limit}
use Rattle.classes.specs.Inner.Tables.{InterleavedIn, LinkedIn, ViolatesIn, AtomicBy, RelativelySerialBy}
use Rattle.classes.proofs.Searched.{NonePair, SomePair}
use Rattle.classes.proofs.UnitEnds.{interleaved_first, first_before, interleaved_other, dep_first, dep_last}

-- ---- the history's places and the tables

module _ (history : List ℕ) (n : ℕ) (w : HistoryOf history n) where
  size : length (take n history) ≡ n
  size = history_length w

  run_at : (p : ℕ) → p < n → run (take n history) p ≡ get_or history p 0
  run_at p i = history_run history n p i

  module _ (unit : ℕ → ℕ → ℕ → ℕ) (firsts : List ℕ) (f : Firsts unit (take n history) firsts) where
    first_at : (b c : ℕ) → b < n → c < n → FirstOf unit (take n history) (run (take n history) b) c (get_or firsts (c * run_limit + get_or history b 0) 0)
    first_at b c i j = rw (run_at b i) (f.at c (get_or history b 0) zero-le (omega (arith, size)) (w.runs.small b))

    pub interleaved_in : (b c : ℕ) → b < c → c < n → InterleavedIn history firsts b c → Interleaved unit (take n history) (get_or firsts (c * run_limit + get_or history b 0) 0) b c
    interleaved_in b c k j t =
        interleaved_first unit (first_at b c (omega arith) j) k (omega (arith, size)) (λ e. t.other (sym (run_at c j) ∙ e ∙ run_at b (omega arith))) t.after

    pub in_interleaved : (a b c : ℕ) → Interleaved unit (take n history) a b c → InterleavedIn history firsts b c
    in_interleaved a b c t = record {
      other = λ e. interleaved_other unit t (run_at c j ∙ e ∙ sym (run_at b i));
      after = first_before unit (first_at b c i j) t;
    }
      where
        j : c < n
        j = omega (arith, t.inside, size)

        i : b < n
        i = omega (arith, t.before, j)

  -- ---- relatively atomic

  module _ (firsts : List ℕ) where
    pub atomic_answer : (r : Bool) → (r ≡ true → NonePair (InterleavedIn history firsts) n) → (r ≡ false → SomePair (InterleavedIn history firsts) n) → AtomicBy history n firsts r
    atomic_answer true none some = record {
      answers = λ unit f. answer_yes (λ a b c w.
          (none refl).none c (omega (arith, w.inside, size)) b w.before (in_interleaved unit firsts f a b c w));
    }
    atomic_answer false none some = record { answers = λ unit f. answer_no (λ u. u _ p.b p.c (interleaved_in unit firsts f p.b p.c p.before p.inside p.holds)) }
      where
        p : SomePair (InterleavedIn history firsts) n
        p = some refl

  -- ---- relatively serial

  module _ (firsts lasts dep : List ℕ) where
    module _ (conflict : ℕ → ℕ → ℕ → ℕ → Bool) (unit : ℕ → ℕ → ℕ → ℕ) (m : Marks (Depends conflict (take n history)) dep)
        (f : Firsts unit (take n history) firsts) (g : Lasts unit (take n history) lasts) where
      last_at : (b c : ℕ) → b < n → c < n → LastOf unit (take n history) (run (take n history) b) c (get_or lasts (c * run_limit + get_or history b 0) 0)
      last_at b c i j = rw (run_at b i) (g.at c (get_or history b 0) zero-le (omega (arith, size)) (w.runs.small b))

      -- a step interleaved with a unit and linked to it, both read off the tables, is one
      serial_not : (b c : ℕ) → b < c → c < n → ViolatesIn history firsts lasts dep b c → ¬ RelativelySerial conflict unit (take n history)
      serial_not b c k j v s = go v.linked
        where
          i : b < n
          i = omega arith

          x : ℕ
          x = get_or firsts (c * run_limit + get_or history b 0) 0

          y : ℕ
          y = get_or lasts (c * run_limit + get_or history b 0) 0

          t : Interleaved unit (take n history) x b c
          t = interleaved_in unit firsts f b c k j v.interleaved

          l : LastOf unit (take n history) (run (take n history) b) c y
          l = last_at b c i j

          go : (bit_at dep b x ≡ 1) ⊎ (bit_at dep y b ≡ 1) → ⊥
          go (inl e) =
              (s x b c x t (omega (arith, t.after, i, size)) (unit_refl unit)).0
              (m.sound x b (omega (arith, t.after, i, w.within)) (omega (arith, w.within)) e)
          go (inr e) =
              (s x b c y t l.inside (unit_trans unit t.unit_of l.member)).1
              (m.sound b y (omega (arith, w.within)) (omega (arith, l.inside, size, w.within)) e)

      serial_all : NonePair (ViolatesIn history firsts lasts dep) n → RelativelySerial conflict unit (take n history)
      serial_all t a b c d v i u = (
        λ e. no (inl (m.complete _ b (omega (arith, fst.inside, size, w.within)) (omega (arith, ib, w.within)) (dep_first conflict unit i cd fst e))),
        λ e. no (inr (m.complete b _ (omega (arith, ib, w.within)) (omega (arith, lst.inside, size, w.within)) (dep_last conflict unit i cd lst e))),
      )
        where
          j : c < n
          j = omega (arith, v.inside, size)

          ib : b < n
          ib = omega (arith, v.before, j)

          fst : FirstOf unit (take n history) (run (take n history) b) c (get_or firsts (c * run_limit + get_or history b 0) 0)
          fst = first_at unit firsts f b c ib j

          lst : LastOf unit (take n history) (run (take n history) b) c (get_or lasts (c * run_limit + get_or history b 0) 0)
          lst = last_at b c ib j

          cd : InUnit unit (take n history) (run (take n history) b) c d
          cd = unit_trans unit (unit_sym unit v.unit_of) u

          no : LinkedIn history firsts lasts dep b c → ⊥
          no e = t.none c j b v.before (record { interleaved = in_interleaved unit firsts f a b c v; linked = e })

    pub relserial_answer : (r : Bool) → (r ≡ true → NonePair (ViolatesIn history firsts lasts dep) n) → (r ≡ false → SomePair (ViolatesIn history firsts lasts dep) n)
        → RelativelySerialBy history n firsts lasts dep r
    relserial_answer true none some = record { answers = λ conflict unit m f g. answer_yes (serial_all conflict unit m f g (none refl)) }
    relserial_answer false none some = record { answers = λ conflict unit m f g. answer_no (serial_not conflict unit m f g p.b p.c p.before p.inside p.holds) }
      where
        p : SomePair (ViolatesIn history firsts lasts dep) n
        p = some refl
