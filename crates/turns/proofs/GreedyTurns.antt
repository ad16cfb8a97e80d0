-- Each turn of `greedy` takes theory's smallest ready place: what is ready by the tables is ready by the graph.
use Prim.Native.Nat.{ℕ, ◌+◌, ◌≤◌, ◌<◌}
use native.Mathlib.Numerals.{add-one}
use native.Mathlib.Decide.{dec_le}
use native.Mathlib.Omega.{arith}
use mathlib.Core.Path.{◌≡◌, refl}
use mathlib.Core.Bool.{Bool}
use mathlib.Core.List.{List, [], ◌∷◌, ◌++◌}
use lib.ListN.{length, get_or, take, set, length-append, length-set, replicate}
use lib.Seq.{take-suc-set, get_or-take}
use Rattle.theory.specs.History.{run}
use Rattle.theory.specs.Graph.{Arc, Taken, Ready, start, turn}
use Rattle.theory.proofs.Decided.{arc_source}
use Rattle.theory.proofs.Greedy.{taken_turn}
use Rattle.bits.specs.Table.{row_bits, bit_at, Marked}
use Rattle.book.specs.Format.{step_limit}
use Rattle.dependence.specs.Marks.{Marks}
use Rattle.dependence.specs.Inner.Tables.{HistoryOf}
use Rattle.dependence.proofs.Counting.{clash, history_length}
use Rattle.turns.specs.Inner.Turns.{InSet, ReadyIn, NoneReady, LeastReady, AllTaken, FirstUntaken, TakenAs}
use Rattle.turns.proofs.ReadyPlaces.{not_in, none_taken, taken_added, all_none}

module _ (conflict : ℕ → ℕ → ℕ → ℕ → Bool) (unit : ℕ → ℕ → ℕ → ℕ) (h : List ℕ) (small : length h ≤ row_bits) (arc : List ℕ)
    (marks : Marks (Arc conflict unit h) arc) (l t : List ℕ) (g : TakenAs conflict unit h l t) where
  in_ready : (p : ℕ) → p < length h → ReadyIn arc t p → Ready conflict unit h l p
  in_ready p i f = record { inside = i; untaken = λ k. clash f.untaken (g.places.complete p i k); sources = source }
    where
      source : (x : ℕ) → Arc conflict unit h x p → Taken h l x
      source x a =
          let ix : x < length h = arc_source conflict unit a in
          g.places.sound x ix (f.sources x (omega arith) (marks.complete x p (omega arith) (omega arith) a))

  pub ready_in : (p : ℕ) → Ready conflict unit h l p → ReadyIn arc t p
  ready_in p r = record { untaken = not_in t p (λ o. r.untaken (g.places.sound p r.inside o)); sources = source }
    where
      source : (x : ℕ) → x < row_bits → bit_at arc p x ≡ 1 → InSet t x
      source x s b =
          let a : Arc conflict unit h x p = marks.sound x p s (omega (arith, r.inside)) b in
          g.places.complete x (arc_source conflict unit a) (r.sources x a)

  pub taken_more : (p : ℕ) (u : List ℕ) → p < length h → ReadyIn arc t p → NoneReady arc t p → Marked t u 0 p → TakenAs conflict unit h (l ++ run h p ∷ []) u
  taken_more p u i f low m = record {
    greedy = turn g.greedy r (λ k q. least k q (dec_le p k));
    places = taken_added small g.places m (λ q j. taken_turn conflict unit h l p q r j);
  }
    where
      r : Ready conflict unit h l p
      r = in_ready p i f

      least : (k : ℕ) → Ready conflict unit h l k → Dec (p ≤ k) → p ≤ k
      least k q (yes v) = v
      least k q (no v) = absurd (low.none k (omega arith) (ready_in k q))

-- after `count` turns: the run numbers in front of order, the set of the places, and `from`, below which all are taken
pub record TurnsSoFar (history : List ℕ) (n : ℕ) (arc order taken : List ℕ) (from count : ℕ) : Type 0 where
  pub within : count ≤ n
  pub from_within : from ≤ n
  pub below : AllTaken taken from
  pub size : length order ≡ step_limit
  pub long : length (take count order) ≡ count
  pub taken_as : (conflict : ℕ → ℕ → ℕ → ℕ → Bool) (unit : ℕ → ℕ → ℕ → ℕ) → Marks (Arc conflict unit (take n history)) arc
      → TakenAs conflict unit (take n history) (take count order) taken

pub turns_none : (history : List ℕ) (n : ℕ) (arc order : List ℕ) (k : ℕ) → length order ≡ step_limit → TurnsSoFar history n arc order (replicate k 0) 0 0
turns_none history n arc order k e = record {
  within = omega arith;
  from_within = omega arith;
  below = all_none (replicate k 0);
  size = e;
  long = refl;
  taken_as = λ conflict unit a. record { greedy = start; places = none_taken (take n history) k };
}

module _ (history : List ℕ) (n : ℕ) (arc : List ℕ) (hs : HistoryOf history n) where
  small : length (take n history) ≤ row_bits
  small = omega (arith, history_length hs, hs.within)

  pub turns_more : (order t u : List ℕ) (from to count p : ℕ) → TurnsSoFar history n arc order t from count → count < n → LeastReady arc t n p
      → Marked t u 0 p → FirstUntaken u n to → TurnsSoFar history n arc (set order count (get_or history p 0)) u to (count + 1)
  turns_more order t u from to count p w i k a fu = record {
    within = omega arith;
    from_within = fu.within;
    below = fu.before;
    size = simp length-set w.size;
    long = rw (add-one count, take-suc-set order count (get_or history p 0) ic) (omega (arith, length-append (take count order) (get_or history p 0 ∷ []), w.long));
    taken_as = next;
  }
    where
      ic : count < length order
      ic = omega (arith, hs.within, w.size)

      next : (conflict : ℕ → ℕ → ℕ → ℕ → Bool) (unit : ℕ → ℕ → ℕ → ℕ) → Marks (Arc conflict unit (take n history)) arc
          → TakenAs conflict unit (take n history) (take (count + 1) (set order count (get_or history p 0))) u
      next conflict unit marks =
          rw eq
          (taken_more conflict unit (take n history) small arc marks (take count order) t (w.taken_as conflict unit marks) p u
          (rw (history_length hs) k.inside) k.ready k.least a)
        where
          eq : take (count + 1) (set order count (get_or history p 0)) ≡ take count order ++ run (take n history) p ∷ []
          eq = rw (add-one count, get_or-take n history p 0 k.inside) (take-suc-set order count (get_or history p 0) ic)
