-- The names of the arcs from one place to another, read off the tables. What a step depends on in a run is a prefix of that run: a place depends on some
-- step of a unit exactly if it depends on the first, and some step of a unit depends on a place exactly if the last does.
use Prim.Native.Nat.{ℕ, ◌+◌, ◌*◌, ◌≤◌, ◌<◌}
use native.Mathlib.Decide.{ℕ_discrete, dec_lt}
use native.Mathlib.Omega.{arith}
use mathlib.Core.Path.{◌≡◌, refl, sym, ap, ◌∙◌, subst}
use mathlib.Core.Logic.{◌≢◌}
use mathlib.Core.Bool.{Bool, true, false}
use mathlib.Core.List.{List}
use lib.ListN.{length, get_or}
use lib.Dec.{eqb}
use borrow.Author.Tests.{eqb-true, eq-eqb}
use Rattle.bits.specs.Table.{row_bits, bit_at, intersection}
use Rattle.bits.specs.Last.{LastAt}
use Rattle.bits.proofs.Store.{bit_at_lt}
use Rattle.theory.specs.History.{run, ordinal}
use Rattle.theory.specs.Relative.{Depends}
use Rattle.theory.specs.Graph.{FirstOf, LastOf, ArcI, ArcD, ArcF, ArcB, arc_I, arc_D, arc_F, arc_B}
use Rattle.theory.specs.Answers.{Answers}
use Rattle.theory.proofs.Answered.{answer_no}
use Rattle.theory.proofs.Finite.{is_yes}
use Rattle.theory.proofs.Places.{ordinal_mono}
use Rattle.theory.proofs.Steps.{dep_lt, dep_inside, own_depends, depends_earlier, depends_later, unit_sym}
use Rattle.theory.proofs.Decided.{arc_source, arc_target, dec_arc_I, dec_arc_D, dec_arc_F, dec_arc_B}
use Rattle.book.specs.Format.{run_limit}
use Rattle.dependence.specs.Catalogue.{base, run_part}
use Rattle.names.specs.Names.{names_of}
use Rattle.dependence.specs.Inner.Tables.{NumberAt}
use Rattle.graph.specs.declared.graph.Graph.{Graph}
use Rattle.graph.specs.Inner.Arcs.{TablesIn, done}
use Rattle.names.specs.Inner.Tables.{LastLeads, FirstLed, no_names, NamesBy}
use Rattle.names.specs.declared.ArcNames.{ArcNames}
use Rattle.dependence.proofs.Counting.{clash, history_length, history_run, history_small}
use Rattle.graph.proofs.UnitSteps.{LastSource, last_own, first_from, last_from, first_unique, last_unique}

-- ---- the names that hold

-- an answer is what a decision says
answer_decided : {P : Type 0} (d : Dec P) (t : Bool) → Answers P t → t ≡ is_yes d
answer_decided (yes p) t a = a.complete p
answer_decided (no n) true a = absurd (n (a.sound refl))
answer_decided (no n) false a = refl

yes_answers : {P : Type 0} (d : Dec P) → Answers P (is_yes d)
yes_answers (yes p) = record { sound = λ e. p; complete = λ p. refl }
yes_answers (no n) = answer_no n

abbrev pub names : Bool → Bool → Bool → Bool → ArcNames
names i d f b = record { i = i; d = d; f = f; b = b }

blank : (w : ArcNames) → w.i ≡ false → w.d ≡ false → w.f ≡ false → w.b ≡ false → w ≡ no_names
blank w i d f b = ap (λ t. names t w.d w.f w.b) i ∙ ap (λ t. names false t w.f w.b) d ∙ ap (λ t. names false false t w.b) f ∙ ap (names false false false) b

module _ (conflict : ℕ → ℕ → ℕ → ℕ → Bool) (unit : ℕ → ℕ → ℕ → ℕ) (h : List ℕ) (x y : ℕ) where
  names_are : {i d f b : Bool} → Answers (ArcI h x y) i → Answers (ArcD conflict h x y) d → Answers (ArcF conflict unit h x y) f → Answers (ArcB conflict unit h x y) b
      → names i d f b ≡ names_of conflict unit h x y
  unfolding names_of
  names_are {i} {d} {f} {b} ai ad af ab = rw (answer_decided (dec_arc_I h x y) i ai, answer_decided (dec_arc_D conflict h x y) d ad, answer_decided (dec_arc_F conflict unit h x y) f af, answer_decided (dec_arc_B conflict unit h x y) b ab)

  pub is_i : Answers (ArcI h x y) (names_of conflict unit h x y).i
  unfolding names_of
  is_i = yes_answers (dec_arc_I h x y)

  pub is_d : Answers (ArcD conflict h x y) (names_of conflict unit h x y).d
  unfolding names_of
  is_d = yes_answers (dec_arc_D conflict h x y)

  pub is_f : Answers (ArcF conflict unit h x y) (names_of conflict unit h x y).f
  unfolding names_of
  is_f = yes_answers (dec_arc_F conflict unit h x y)

  pub is_b : Answers (ArcB conflict unit h x y) (names_of conflict unit h x y).b
  unfolding names_of
  is_b = yes_answers (dec_arc_B conflict unit h x y)

-- ---- two places of a history

module _ (g : Graph) (x y : ℕ) where
  abbrev h : List ℕ
  h = done g

  -- no arc where one of the places is beyond the history
  none : (a : TablesIn g) → (x < length h → y < length h → ⊥) → no_names ≡ names_of a.conflict a.unit h x y
  none a beyond = names_are a.conflict a.unit h x y
      (answer_no (λ c. beyond (arc_source a.conflict a.unit (arc_I c)) (arc_target a.conflict a.unit (arc_I c))))
      (answer_no (λ c. beyond (arc_source a.conflict a.unit (arc_D c)) (arc_target a.conflict a.unit (arc_D c))))
      (answer_no (λ c. beyond (arc_source a.conflict a.unit (arc_F c)) (arc_target a.conflict a.unit (arc_F c))))
      (answer_no (λ c. beyond (arc_source a.conflict a.unit (arc_B c)) (arc_target a.conflict a.unit (arc_B c))))

  pub beyond : (w : ArcNames) → w.i ≡ false × (w.d ≡ false × (w.f ≡ false × (w.b ≡ false))) → (x < g.n → y < g.n → ⊥) → NamesBy g x y w
  beyond w e out = record { by = λ a. blank w e.0 e.1.0 e.1.1.0 e.1.1.1 ∙ none a (λ i j. out (omega (arith, history_length g.stored)) (omega (arith, history_length g.stored))) }

  module _ (ix : x < g.n) (iy : y < g.n) where
    x_inside : x < length h
    x_inside = rw (history_length g.stored) ix

    y_inside : y < length h
    y_inside = rw (history_length g.stored) iy

    x_small : run h x < run_limit
    x_small = history_small g.stored x x_inside

    y_small : run h y < run_limit
    y_small = history_small g.stored y y_inside

    -- ---- one run

    module _ (a : TablesIn g) (same : run h x ≡ run h y) where
      abbrev sources : ℕ → ℕ
      sources = intersection (bit_at g.dep y) (bit_at g.catalogue (run_part * base + run h y))

      source_sound : (k : ℕ) → k < row_bits → sources k ≡ 1 → (run h k ≡ run h y) × Depends a.conflict h k y
      source_sound k hk e = (
        (g.run_rows.sound k (run h y) hk y_small (omega (arith, e, bit_at_lt g.dep y k, bit_at_lt g.catalogue (run_part * base + run h y) k))).runs,
        a.by.dep_marks.sound k y hk (omega (arith, g.stored.within)) (omega (arith, e, bit_at_lt g.dep y k, bit_at_lt g.catalogue (run_part * base + run h y) k)),
      )

      source_complete : (k : ℕ) → run h k ≡ run h y → Depends a.conflict h k y → sources k ≡ 1
      source_complete k e d =
          let i : k < g.n = omega (arith, dep_lt a.conflict d, iy) in
          omega (arith, a.by.dep_marks.complete k y (omega (arith, g.stored.within)) (omega (arith, g.stored.within)) d, g.run_rows.complete k (run h y) (omega (arith, g.stored.within)) y_small (record { below = i; runs = e }))

      last_source : LastAt sources x → LastSource a.conflict h (run h y) y x
      last_source la =
          let s = source_sound x la.in_row la.here in
          record { runs = s.0; depends = s.1; last = λ k e d. at k e d (dec_lt x k) }
        where
          at : (k : ℕ) → run h k ≡ run h y → Depends a.conflict h k y → Dec (x < k) → k ≤ x
          at k e d (no m) = omega arith
          at k e d (yes i) = absurd (clash (la.after k i (omega (arith, dep_lt a.conflict d, g.stored.within))) (source_complete k e d))

      -- between a step and the next of its run there is none
      next_last : ArcI h x y → LastAt sources x
      next_last c = record {
        in_row = omega (arith, g.stored.within);
        here = source_complete x c.runs (own_depends a.conflict h x y c.before c.inside c.runs);
        after = λ j l hj. at j l hj (ℕ_discrete (sources j) 1);
      }
        where
          at : (j : ℕ) → x < j → j < row_bits → Dec (sources j ≡ 1) → sources j ≡ 0
          at j l hj (no e) = omega (arith, bit_at_lt g.dep y j, bit_at_lt g.catalogue (run_part * base + run h y) j)
          at j l hj (yes e) =
              let s = source_sound j hj e in
              absurd (over (ordinal_mono h x j l (omega (arith, dep_lt a.conflict s.1, y_inside)) (same ∙ sym s.0)) (ordinal_mono h j y (dep_lt a.conflict s.1) y_inside s.0))
            where
              over : ordinal h x < ordinal h j → ordinal h j < ordinal h y → ⊥
              over u v = omega (arith, c.next)

      own : (i : Bool) → Answers (LastAt sources x) i → names i false false false ≡ names_of a.conflict a.unit h x y
      own i t = names_are a.conflict a.unit h x y
          (record { sound = λ e. last_own a.conflict h y x (last_source (t.sound e)); complete = λ c. t.complete (next_last c) })
          (answer_no (λ c. c.other same))
          (answer_no (λ c. c.arc.other (sym c.last.member.runs ∙ same)))
          (answer_no (λ c. c.arc.other (same ∙ c.first.member.runs)))

    pub own_names : (r s : ℕ) → NumberAt g.history x run_limit r → NumberAt g.history y run_limit s → r ≡ s
        → (i : Bool) → Answers (LastAt (intersection (bit_at g.dep y) (bit_at g.catalogue (run_part * base + s))) x) i
        → (d f b : Bool) → d ≡ false → f ≡ false → b ≡ false → NamesBy g x y (names i d f b)
    own_names r s zr zs e i t d f b ed ef eb =
        let is : s ≡ run h y = zs.is ∙ sym (history_run g.history g.n y iy) in
        rw (ed, ef, eb) (record { by = λ a. own a (history_run g.history g.n x ix ∙ sym zr.is ∙ e ∙ is) i (rw is at t) })

    -- ---- two runs

    module _ (a : TablesIn g) (apart : run h x ≢ run h y) where
      depends_of : (p q : ℕ) → p < length h → q < length h → bit_at g.dep q p ≡ 1 → Depends a.conflict h p q
      depends_of p q i j = a.by.dep_marks.sound p q (omega (arith, history_length g.stored, g.stored.within)) (omega (arith, history_length g.stored, g.stored.within))

      marked_by : {p q : ℕ} → Depends a.conflict h p q → bit_at g.dep q p ≡ 1
      marked_by {p} {q} d = a.by.dep_marks.complete p q (omega (arith, dep_lt a.conflict d, dep_inside a.conflict d, history_length g.stored, g.stored.within)) (omega (arith, dep_inside a.conflict d, history_length g.stored, g.stored.within)) d

      d_answer : (d : Bool) → d ≡ eqb (bit_at g.dep y x) 1 → Answers (ArcD a.conflict h x y) d
      d_answer d test = record {
        sound = λ e. record { other = apart; depends = depends_of x y x_inside y_inside (eqb-true (bit_at g.dep y x) 1 (sym test ∙ e)) };
        complete = λ c. test ∙ eq-eqb (bit_at g.dep y x) 1 (marked_by c.depends);
      }

      -- x's unit as seen by y's run
      abbrev x_first : ℕ
      x_first = get_or g.firsts (x * run_limit + run h y) 0

      x_first_is : FirstOf a.unit h (run h y) x x_first
      x_first_is = a.by.firsts_are.at x (run h y) (omega arith) x_inside y_small

      x_last_is : LastOf a.unit h (run h y) x (get_or g.lasts (x * run_limit + run h y) 0)
      x_last_is = a.by.lasts_are.at x (run h y) (omega arith) x_inside y_small

      f_sound : LastLeads g (run h y) x y → ArcF a.conflict a.unit h x y
      f_sound w = record {
        p = x_first;
        arc = record { other = λ e. apart (sym x_first_is.member.runs ∙ e); depends = depends_of x_first y x_first_is.inside y_inside w.depends };
        last = last_from a.unit h (run h y) x_first x x (unit_sym a.unit x_first_is.member) (subst (LastOf a.unit h (run h y) x) w.ends x_last_is);
      }

      f_complete : ArcF a.conflict a.unit h x y → LastLeads g (run h y) x y
      f_complete c =
          let u = unit_sym a.unit c.last.member in
          let l = x_first_is.first c.p (omega (arith, dep_lt a.conflict c.arc.depends, y_inside)) u in
          record {
            ends = last_unique a.unit h (run h y) x _ x x_last_is (last_from a.unit h (run h y) x c.p x u c.last);
            depends = marked_by (depends_earlier a.conflict h x_first c.p y l (x_first_is.member.runs ∙ c.last.member.runs) c.arc.depends);
          }

      -- y's unit as seen by x's run
      abbrev y_last : ℕ
      y_last = get_or g.lasts (y * run_limit + run h x) 0

      y_last_is : LastOf a.unit h (run h x) y y_last
      y_last_is = a.by.lasts_are.at y (run h x) (omega arith) y_inside x_small

      y_first_is : FirstOf a.unit h (run h x) y (get_or g.firsts (y * run_limit + run h x) 0)
      y_first_is = a.by.firsts_are.at y (run h x) (omega arith) y_inside x_small

      b_sound : FirstLed g (run h x) x y → ArcB a.conflict a.unit h x y
      b_sound w = record {
        q = y_last;
        arc = record { other = λ e. apart (e ∙ y_last_is.member.runs); depends = depends_of x y_last x_inside y_last_is.inside w.depends };
        first = first_from a.unit h (run h x) y_last y y (unit_sym a.unit y_last_is.member) (subst (FirstOf a.unit h (run h x) y) w.begins y_first_is);
      }

      b_complete : ArcB a.conflict a.unit h x y → FirstLed g (run h x) x y
      b_complete c =
          let u = unit_sym a.unit c.first.member in
          let l = y_last_is.last c.q (dep_inside a.conflict c.arc.depends) u in
          record {
            begins = first_unique a.unit h (run h x) y _ y y_first_is (first_from a.unit h (run h x) y c.q y u c.first);
            depends = marked_by (depends_later a.conflict h x c.q y_last l y_last_is.inside (u.runs ∙ sym y_last_is.member.runs) c.arc.depends);
          }

      across : (d f b : Bool) → d ≡ eqb (bit_at g.dep y x) 1 → Answers (LastLeads g (run h y) x y) f → Answers (FirstLed g (run h x) x y) b
          → names false d f b ≡ names_of a.conflict a.unit h x y
      across d f b test af ab = names_are a.conflict a.unit h x y
          (answer_no (λ c. apart c.runs))
          (d_answer d test)
          (record { sound = λ e. f_sound (af.sound e); complete = λ c. af.complete (f_complete c) })
          (record { sound = λ e. b_sound (ab.sound e); complete = λ c. ab.complete (b_complete c) })

    pub across_names : (r s : ℕ) → NumberAt g.history x run_limit r → NumberAt g.history y run_limit s → r ≢ s
        → (d f b : Bool) → d ≡ eqb (bit_at g.dep y x) 1 → Answers (LastLeads g s x y) f → Answers (FirstLed g r x y) b → NamesBy g x y (names false d f b)
    across_names r s zr zs ne d f b test af ab =
        let ir : r ≡ run h x = zr.is ∙ sym (history_run g.history g.n x ix) in
        let is : s ≡ run h y = zs.is ∙ sym (history_run g.history g.n y iy) in
        record { by = λ a. across a (λ e. ne (ir ∙ e ∙ sym is)) d f b test (rw is at af) (rw ir at ab) }
