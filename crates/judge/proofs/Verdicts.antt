-- A whole greedy order passes the history; where it is stuck, the cycle of the walk back tangles it.
use Prim.Native.Nat.{ℕ, ◌-◌, ◌≤◌, ◌<◌}
use native.Mathlib.Decide.{ℕ_discrete, dec_le}
use native.Mathlib.Omega.{arith}
use mathlib.Core.Path.{◌≡◌, refl, sym, ap, ◌∙◌}
use mathlib.Core.Logic.{◌⊎◌, inl, inr, ∥∥₁_elim}
use mathlib.Core.Bool.{Bool, true}
use mathlib.Core.List.{List}
use lib.ListN.{length, get_or, take, drop, length-append}
use lib.Dec.{eqb}
use borrow.Author.Tests.{eqb-true, eq-eqb}
use Rattle.theory.specs.Relative.{Lawful, RelativelySerialOrder, RelativelySerializable}
use Rattle.theory.specs.Graph.{Arc, Cycle, Taken, Ready}
use Rattle.theory.proofs.Places.{order_length}
use Rattle.theory.proofs.Decided.{arc_source, arc_ne}
use Rattle.theory.proofs.Forward.{cycle_refutes}
use Rattle.theory.proofs.Finite.{some_below, dec_not}
use Rattle.theory.proofs.Greedy.{dec_taken, whole_order}
use Rattle.theory.proofs.Cycles.{stuck_cycle}
use Rattle.theory.proofs.Theorem.{whole_greedy}
use Rattle.buffer.specs.Put.{Put}
use Rattle.theory.specs.Answers.{Answers}
use Rattle.dependence.specs.Marks.{Marks}
use Rattle.dependence.specs.Inner.Tables.{HistoryOf}
use Rattle.dependence.proofs.Counting.{history_length}
use Rattle.judge.specs.Judged.{PassedAs, TangledAs, JudgedAs}
use Rattle.turns.specs.Inner.Turns.{NoneReady, TakenAs, TurnsTaken}
use Rattle.turns.specs.Inner.Cycles.{ArcIn, Stuck, CycleIn}
use Rattle.graph.specs.Inner.Arcs.{GraphOf, ArcRows}
use Rattle.graph.specs.declared.graph.Graph.{Graph}
use Rattle.judge.specs.Inner.Arcs.{JudgedBy}
use Rattle.judge.specs.Inner.Names.{EvidenceNamed, EvidenceNamedBy}
use Rattle.judge.specs.declared.Verdict.{Verdict}
use Rattle.judge.specs.declared.Judgement.{Judgement}
use Prim.{IsProp}
use Rattle.std.proofs.Props.{props}
use Rattle.turns.specs.declared.Turns.{Turns}
use Rattle.judge.specs.declared.Verdict.TheVariants.{Passed, Tangled}
use Rattle.turns.proofs.GreedyTurns.{ready_in}

-- where the turns take n places, they have n
pub turns_long : (history : List ℕ) (n : ℕ) (arc : List ℕ) (t : Turns) → TurnsTaken history n arc t → t.count ≡ n → length (take n t.order) ≡ n
turns_long history n arc t ta e = rw (← e) ta.long

module _ (history : List ℕ) (n : ℕ) (arc : List ℕ) (hs : HistoryOf history n) where
  abbrev h : List ℕ
  h = take n history

  n_is : length h ≡ n
  n_is = history_length hs

  module _ (conflict : ℕ → ℕ → ℕ → ℕ → Bool) (unit : ℕ → ℕ → ℕ → ℕ) (marks : Marks (Arc conflict unit h) arc) where
    module _ (t : Turns) (ta : TurnsTaken history n arc t) where
      abbrev l : List ℕ
      l = take t.count t.order

      taken : TakenAs conflict unit h l t.taken
      taken = ta.taken_as conflict unit marks

      evidence : Lawful conflict → t.count ≡ n → RelativelySerialOrder conflict unit h l
      evidence law e = whole_greedy conflict unit h law l taken.greedy (ta.long ∙ e ∙ sym n_is)

      passed_as : Lawful conflict → t.count ≡ n → (order order' cycle : List ℕ) (k : ℕ) → Put (take n t.order) order order' k
          → PassedAs conflict unit h order order' cycle cycle n
      passed_as law e order order' cycle k p = record {
        serializable = record { order = l; evidence = evidence law e };
        taken = l;
        greedy = taken.greedy;
        evidence = evidence law e;
        count_is = sym n_is;
        order_is = rw (n_is, e) (rw (turns_long history n arc t ta e) at p.bytes);
        cycle_unchanged = refl;
      }

      module _ (ne : t.count ≡ n → ⊥) where
        none : NoneReady arc t.taken n
        none = go ta.ends
          where
            go : (t.count ≡ n) ⊎ NoneReady arc t.taken n → NoneReady arc t.taken n
            go (inl e) = absurd (ne e)
            go (inr w) = w

        -- were all places taken, the order would be whole
        not_whole : ¬ ((p : ℕ) → p < length h → Taken h l p)
        not_whole all = ne (sym ta.long ∙ order_length h l (whole_order conflict unit h l taken.greedy all) ∙ n_is)

        stuck : Stuck arc t.taken n
        stuck = record {
          within = hs.within;
          none = none;
          sources = λ x y hx hy e. rw (← n_is) (arc_source conflict unit (marks.sound x y hx (omega (arith, hs.within)) e));
          not_all = λ a. not_whole (λ p i. taken.places.sound p i (a.all p (omega (arith, n_is))));
        }

        -- with no place ready and one not taken, there is a cycle
        refuted : ¬ RelativelySerializable conflict unit h
        refuted s = go (some_below (λ p. ¬ Taken h l p) (λ p. dec_not (dec_taken h l p)) (length h))
          where
            unready : (p : ℕ) → p < length h → ¬ Ready conflict unit h l p
            unready p i r = none.none p (omega (arith, n_is)) (ready_in conflict unit h (omega (arith, n_is, hs.within)) arc marks l t.taken taken p r)

            go : Dec ((p : ℕ) × (p < length h) × (¬ Taken h l p)) → ⊥
            go (yes f) = let k = stuck_cycle conflict unit h l unready f.0 f.1 f.2 in cycle_refutes conflict unit h k.0 k.1 s
            go (no f) = not_whole (λ p i. at p i (dec_taken h l p))
              where
                at : (p : ℕ) → p < length h → Dec (Taken h l p) → Taken h l p
                at p i (yes v) = v
                at p i (no u) = absurd (f (p, i, u))

      pub passes_by : Lawful conflict → Answers (RelativelySerializable conflict unit h) (eqb t.count n)
      passes_by law = record { sound = λ e. record { order = l; evidence = evidence law (eqb-true t.count n e) }; complete = λ s. go s (ℕ_discrete t.count n) }
        where
          go : RelativelySerializable conflict unit h → Dec (t.count ≡ n) → eqb t.count n ≡ true
          go s (yes e) = eq-eqb t.count n e
          go s (no ne) = absurd (refuted ne s)

    tangled_as : (order cycle cycle' : List ℕ) (count : ℕ) → CycleIn arc n cycle cycle' count → TangledAs conflict unit h order order cycle cycle' count
    tangled_as order cycle cycle' count c = record {
      not_serializable = cycle_refutes conflict unit h c.places evidence;
      places = c.places;
      evidence = evidence;
      count_is = c.written.count;
      cycle_is = c.written.bytes;
      order_unchanged = refl;
    }
      where
        arc_of : (x y : ℕ) → ArcIn arc n x y → Arc conflict unit h x y
        arc_of x y a = marks.sound x y (omega (arith, a.from, hs.within)) (omega (arith, a.to, hs.within)) a.marked

        back : Arc conflict unit h (get_or c.places (length c.places - 1) 0) (get_or c.places 0 0)
        back = rw (← c.written.count) (arc_of _ _ c.back)

        -- no arc leads from a place to itself
        two : Dec (2 ≤ length c.places) → 2 ≤ length c.places
        two (yes l) = l
        two (no l) =
            let e : length c.places - 1 ≡ 0 = omega arith in
            absurd (arc_ne conflict unit back (rw e))

        evidence : Cycle conflict unit h c.places
        evidence = record {
          least = two (dec_le 2 (length c.places));
          most = omega (arith, c.most, c.written.count, n_is);
          distinct = λ i j l b. c.distinct i j l (rw c.written.count b);
          next = λ i l. arc_of _ _ (c.next i (rw c.written.count l));
          back = back;
        }

-- ---- of a graph

module _ (g : Graph) (arc : List ℕ) (rows : ArcRows g arc) where
  stuck_prop : (taken : List ℕ) → IsProp (Stuck arc taken g.n)
  stuck_prop taken = hlevel props

  pub judge_stuck : (t : Turns) → TurnsTaken g.history g.n arc t → (t.count ≡ g.n → ⊥) → Stuck arc t.taken g.n
  judge_stuck t ta ne = ∥∥₁_elim g.tables (stuck_prop t.taken) (λ a. stuck g.history g.n arc g.stored a.conflict a.unit (rows.marks a) t ta ne)

  pub judge_passed : (t : Turns) (order order' cycle : List ℕ) (k : ℕ) → TurnsTaken g.history g.n arc t → t.count ≡ g.n → Put (take g.n t.order) order order' k
      → JudgedBy g order order' cycle cycle (record { verdict = Passed; count = g.n })
  judge_passed t order order' cycle k ta e p = record { judged = λ a law. passed_as g.history g.n arc g.stored a.conflict a.unit (rows.marks a) t ta law e order order' cycle k p; counted = tt }

  pub judge_tangled : (order cycle cycle' : List ℕ) (count : ℕ) → CycleIn arc g.n cycle cycle' count → JudgedBy g order order cycle cycle' (record { verdict = Tangled; count = count })
  judge_tangled order cycle cycle' count c = record {
    judged = λ a law. tangled_as g.history g.n arc g.stored a.conflict a.unit (rows.marks a) order cycle cycle' count c;
    counted = record {
      inside = omega (arith, c.written.count, ap length c.written.bytes, length-append c.places (drop (length c.places) cycle));
      few = omega (arith, c.most, g.stored.within);
    };
  }

  -- the turns take every place exactly where the history is relatively serializable
  pub graph_passes : (conflict : ℕ → ℕ → ℕ → ℕ → Bool) (unit : ℕ → ℕ → ℕ → ℕ) (h : List ℕ) → GraphOf conflict unit h g → Lawful conflict → (t : Turns) → TurnsTaken g.history g.n arc t
      → Answers (RelativelySerializable conflict unit h) (eqb t.count g.n)
  graph_passes conflict unit h b law t ta = rw (← b.history_is) (passes_by g.history g.n arc g.stored conflict unit (rows.marks (record { conflict = conflict; unit = unit; by = b.tables_are })) t ta law)

-- ---- of a graph of some history

module _ (conflict : ℕ → ℕ → ℕ → ℕ → Bool) (unit : ℕ → ℕ → ℕ → ℕ) (h : List ℕ) (g : Graph) (b : GraphOf conflict unit h g) where
  pub graph_judged : Lawful conflict → (order order' cycle cycle' : List ℕ) (j : Judgement) → JudgedBy g order order' cycle cycle' j → JudgedAs conflict unit h order order' cycle cycle' j.verdict j.count
  graph_judged law order order' cycle cycle' j w = rw (← b.history_is) (w.judged (record { conflict = conflict; unit = unit; by = b.tables_are }) law)

  pub graph_named : (cycle values values' : List ℕ) (verdict : Verdict) (count : ℕ) → EvidenceNamedBy g cycle values values' verdict count → EvidenceNamed conflict unit h cycle values values' verdict count
  graph_named cycle values values' verdict count e = rw (← b.history_is) (e.by (record { conflict = conflict; unit = unit; by = b.tables_are }))
