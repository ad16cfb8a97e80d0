-- The dependence table, one row after another. A row takes the places on which its place directly depends, from the last down, each with what
-- it depends on. A place that the row has already adds nothing, since with a place the row has all that the place depends on.
use Rattle.std.specs.Prelude.{Option, Some, None}
use Prim.Native.Nat.{ℕ, suc, ◌+◌, ◌≤◌, ◌<◌}
use native.Mathlib.Decide.{ℕ_discrete, dec_lt}
use native.Mathlib.Omega.{arith}
use mathlib.Core.Path.{◌≡◌, refl, sym, ap, ◌∙◌}
use mathlib.Core.Logic.{◌⊎◌, inl, inr}
use mathlib.Core.Bool.{Bool, true, false, true≢false, ◌&&◌, not}
use mathlib.Core.List.{List, [], ◌∷◌, ◌++◌}
use lib.ListN.{length, replicate}
use lib.Dec.{eqb}
use borrow.Author.Tests.{ne_eqb}
use Rattle.bits.specs.Table.{row_bits, rows, bit_at, union, difference, Marked, Replaced}
use Rattle.bits.specs.First.{NoColumn}
use Rattle.bits.specs.Last.{LastAt, Last}
use Rattle.bits.proofs.Store.{bit_at_lt, zeros_bit}
use Rattle.theory.specs.History.{count, run, ordinal}
use Rattle.theory.specs.Deck.{Pair, Step, step_of, steps_conflict, conflict}
use Rattle.theory.specs.Relative.{Conflicting, DirectlyDepends, Depends, direct, through}
use Rattle.theory.proofs.Lists.{length_snoc}
use Rattle.theory.proofs.Steps.{dep_inside, dep_trans}
use Rattle.theory.proofs.Within.{front, front_direct, direct_front, front_depends, depends_front}
use Rattle.book.specs.Format.{run_limit, step_limit, kinds_low}
use Rattle.book.specs.Book.{pairs_of}
use Rattle.dependence.specs.Marks.{Marks, Columns}
use Rattle.dependence.specs.Catalogue.{done_step, part_rows, Which, first_touches, second_touches, Catalogued}
use Rattle.dependence.specs.Dependence.{Blank, StepsRead, StepRead, KindsLow, InRange, StepAnswered}
use Rattle.dependence.specs.Inner.Tables.{RunLinked}
use Rattle.dependence.specs.Inner.Reading.{StepEntered, StepHas, StepFinds, Linked, DependsSoFar, RowFrom, StepsLinked, StepLinked}
use Rattle.dependence.proofs.Counting.{low, clash}
use Rattle.dependence.proofs.Rows.{either_one, added_from, added}
use Rattle.dependence.proofs.Touches.{kinds_answer}
use Rattle.dependence.proofs.Catalogue.{and_second, firsts_more, seconds_more, last_run, last_step, front_step}

-- ---- one row

-- the row m has only places on which q depends, and with each place what the place depends on
pub record ClosedRow (conflict : ℕ → ℕ → ℕ → ℕ → Bool) (h : List ℕ) (q : ℕ) (m : List ℕ) : Type 0 where
  pub sound : (x : ℕ) → x < row_bits → bit_at m 0 x ≡ 1 → Depends conflict h x q
  pub closed : (x k : ℕ) → x < row_bits → k < row_bits → bit_at m 0 k ≡ 1 → Depends conflict h x k → bit_at m 0 x ≡ 1

-- the row m has taken the linked places from `end` on
pub record RowTaken (dep linked m : List ℕ) (end : ℕ) : Type 0 where
  pub taken : (k : ℕ) → k < row_bits → end ≤ k → bit_at linked 0 k ≡ 1 → bit_at m 0 k ≡ 1
  pub row : (conflict : ℕ → ℕ → ℕ → ℕ → Bool) (h : List ℕ) (q : ℕ) → q < rows → Columns (λ p. DirectlyDepends conflict h p q) linked → Marks (DependsSoFar conflict h q) dep → ClosedRow conflict h q m

module _ (dep linked : List ℕ) where
  pub closure_none : (n : ℕ) → RowTaken dep linked (replicate n 0) row_bits
  closure_none n = record {
    taken = λ k h l e. omega arith;
    row = λ conflict h q i d t. record { sound = λ x hx e. absurd (clash (zeros_bit n 0 x) e); closed = λ x k hx hk e f. absurd (clash (zeros_bit n 0 k) e) };
  }

  module _ (m : List ℕ) (end : ℕ) (w : RowTaken dep linked m end) where
    taken_all : ((k : ℕ) → k < row_bits → bit_at linked 0 k ≡ 1 → bit_at m 0 k ≡ 1) → RowFrom dep linked m
    taken_all all = record { row = λ conflict h q i d t. is conflict h q i d (w.row conflict h q i d t) }
      where
        is : (conflict : ℕ → ℕ → ℕ → ℕ → Bool) (h : List ℕ) (q : ℕ) → q < rows → Columns (λ p. DirectlyDepends conflict h p q) linked → ClosedRow conflict h q m → Columns (λ p. Depends conflict h p q) m
        is conflict h q i d r = record { sound = r.sound; complete = complete }
          where
            complete : (p : ℕ) → p < row_bits → Depends conflict h p q → bit_at m 0 p ≡ 1
            complete p hp (direct e) = all p hp (d.complete p hp e)
            complete p hp (through {k = k} f e) =
                let hk : k < row_bits = omega (arith, e.before) in
                r.closed p k hp hk (all k hk (d.complete k hk e)) f

    pub closure_end : end ≤ 0 → RowFrom dep linked m
    closure_end z = taken_all (λ k h e. w.taken k h (omega arith) e)

    pub closure_full : (found : Option ℕ) → Last (difference (bit_at linked 0) (bit_at m 0)) found → found ≡ None → RowFrom dep linked m
    closure_full found f e = let n : NoColumn (difference (bit_at linked 0) (bit_at m 0)) = rw e at f in taken_all (λ k h e. omega (arith, n.none k h, bit_at_lt m 0 k))

    module _ (found : Option ℕ) (p : ℕ) (f : Last (difference (bit_at linked 0) (bit_at m 0)) found) (ef : found ≡ Some p) where
      at_last : LastAt (difference (bit_at linked 0) (bit_at m 0)) p
      at_last = rw ef at f

      in_linked : bit_at linked 0 p ≡ 1
      in_linked = omega (arith, at_last.here, bit_at_lt linked 0 p)

      pub closure_less : p < end
      closure_less = go (dec_lt p end)
        where
          go : Dec (p < end) → p < end
          go (yes y) = y
          go (no n) = absurd (omega (arith, at_last.here, w.taken p at_last.in_row (omega arith) in_linked))

      module _ (u v : List ℕ) (j : Replaced m u 0 (union (bit_at m 0) (bit_at dep p))) (k : Marked u v 0 p) where
        -- where a column of the row comes from
        from : (c : ℕ) → c < row_bits → bit_at v 0 c ≡ 1 → (c ≡ p) ⊎ ((bit_at m 0 c ≡ 1) ⊎ (bit_at dep p c ≡ 1))
        from c h e = go (ℕ_discrete c p)
          where
            go : Dec (c ≡ p) → (c ≡ p) ⊎ ((bit_at m 0 c ≡ 1) ⊎ (bit_at dep p c ≡ 1))
            go (yes z) = inl z
            go (no n) = inr (added_from m u (bit_at dep p) (bit_at_lt dep p) j c h (sym (k.other 0 c h (λ z. n z.1)) ∙ e))

        to : (c : ℕ) → c < row_bits → (c ≡ p) ⊎ ((bit_at m 0 c ≡ 1) ⊎ (bit_at dep p c ≡ 1)) → bit_at v 0 c ≡ 1
        to c h b = go (ℕ_discrete c p) b
          where
            go : Dec (c ≡ p) → (c ≡ p) ⊎ ((bit_at m 0 c ≡ 1) ⊎ (bit_at dep p c ≡ 1)) → bit_at v 0 c ≡ 1
            go (yes z) a = ap (bit_at v 0) z ∙ k.here
            go (no n) (inl z) = absurd (n z)
            go (no n) (inr a) = k.other 0 c h (λ z. n z.1) ∙ added m u (bit_at dep p) (bit_at_lt dep p) j c h a

        pub closure_more : RowTaken dep linked v p
        closure_more = record { taken = λ c h b e. taken c h b e (ℕ_discrete c p); row = λ conflict h q i d t. more conflict h q i d t (w.row conflict h q i d t) }
          where
            taken : (c : ℕ) → c < row_bits → p ≤ c → bit_at linked 0 c ≡ 1 → Dec (c ≡ p) → bit_at v 0 c ≡ 1
            taken c h b e (yes z) = to c h (inl z)
            taken c h b e (no n) = to c h (inr (inl (omega (arith, at_last.after c (omega arith) h, bit_at_lt m 0 c))))

            more : (conflict : ℕ → ℕ → ℕ → ℕ → Bool) (h : List ℕ) (q : ℕ) → q < rows → Columns (λ p. DirectlyDepends conflict h p q) linked → Marks (DependsSoFar conflict h q) dep → ClosedRow conflict h q m → ClosedRow conflict h q v
            more conflict h q i d t r = record { sound = λ c hc e. sound c hc (from c hc e); closed = λ c a hc ha e f. closed c a hc ha f (from a ha e) }
              where
                link : DirectlyDepends conflict h p q
                link = d.sound p at_last.in_row in_linked

                -- what row p of the table tells
                row_sound : (c : ℕ) → c < row_bits → bit_at dep p c ≡ 1 → Depends conflict h c p
                row_sound c hc e = (t.sound c p hc at_last.in_row e).depends

                row_complete : (c : ℕ) → c < row_bits → Depends conflict h c p → bit_at dep p c ≡ 1
                row_complete c hc f = t.complete c p hc at_last.in_row (record { so_far = link.before; depends = f })

                sound : (c : ℕ) → c < row_bits → (c ≡ p) ⊎ ((bit_at m 0 c ≡ 1) ⊎ (bit_at dep p c ≡ 1)) → Depends conflict h c q
                sound c hc (inl z) = rw z (direct link)
                sound c hc (inr (inl e)) = r.sound c hc e
                sound c hc (inr (inr e)) = through (row_sound c hc e) link

                closed : (c a : ℕ) → c < row_bits → a < row_bits → Depends conflict h c a → (a ≡ p) ⊎ ((bit_at m 0 a ≡ 1) ⊎ (bit_at dep p a ≡ 1)) → bit_at v 0 c ≡ 1
                closed c a hc ha f (inl z) = let f' : Depends conflict h c p = rw z at f in to c hc (inr (inr (row_complete c hc f')))
                closed c a hc ha f (inr (inl e)) = to c hc (inr (inl (r.closed c a hc ha e f)))
                closed c a hc ha f (inr (inr e)) = to c hc (inr (inr (row_complete c hc (dep_trans conflict f (row_sound a ha e)))))

-- ---- one step more

module _ (pairs t t' v v' linked : List ℕ) (q r : ℕ) (x : Step) (hq : q < rows) (f : StepFinds (Linked r x) t v linked) (e : StepEntered pairs t t' v v' q r x) where
  -- after the steps of h, whose catalogues these are
  module _ (runs : List (List Step)) (h : List ℕ) (eq : length h ≡ q) (ex : step_of runs r (count h r) ≡ x) (firsts : Catalogued (pairs_of pairs) first_touches runs h t)
      (seconds : Catalogued (pairs_of pairs) second_touches runs h v) where
    abbrev c : ℕ → ℕ → ℕ → ℕ → Bool
    c = conflict (pairs_of pairs) runs

    abbrev l : List ℕ
    l = h ++ r ∷ []

    longer : length l ≡ suc q
    longer = length_snoc h r ∙ ap suc eq

    q_run : run l q ≡ r
    q_run = rw (← eq) (last_run runs h r)

    p_run : (p : ℕ) → p < length h → run l p ≡ run h p
    p_run p i = (front h (r ∷ []) p i).runs

    -- the steps at an earlier place and at q
    conflict_is : (p : ℕ) → p < length h → c (run l p) (ordinal l p) (run l q) (ordinal l q) ≡ (not (eqb (run h p) r) && steps_conflict (pairs_of pairs) (done_step runs h p) x)
    unfolding conflict
    conflict_is p i = rw (front_step runs h r p i, ← eq, last_step runs h r, ex, p_run p i, last_run runs h r)

    found : Columns (StepHas (Linked r x (pairs_of pairs)) runs h) linked
    found = f.columns (pairs_of pairs) runs h firsts seconds

    -- the linked places are those on which the place read directly depends
    linked_directly : Columns (λ p. DirectlyDepends c l p q) linked
    linked_directly = record { sound = λ p hp b. let a = found.sound p hp b in sound p a.inside a.holds (ℕ_discrete (run h p) r); complete = complete }
      where
        sound : (p : ℕ) → p < length h → Linked r x (pairs_of pairs) (run h p) (done_step runs h p) → Dec (run h p ≡ r) → DirectlyDepends c l p q
        sound p i a (yes z) = record { before = omega arith; inside = omega (arith, longer); linked = inl (p_run p i ∙ z ∙ sym q_run) }
        sound p i (inl z) (no n) = absurd (n z)
        sound p i (inr b) (no n) = record { before = omega arith; inside = omega (arith, longer); linked = inr (rw (conflict_is p i, ne_eqb (run h p) r n) b) }

        complete : (p : ℕ) → p < row_bits → DirectlyDepends c l p q → bit_at linked 0 p ≡ 1
        complete p hp d = found.complete p hp (record { inside = i; holds = link d.linked })
          where
            i : p < length h
            i = omega (arith, d.before)

            link : (run l p ≡ run l q) ⊎ Conflicting c l p q → Linked r x (pairs_of pairs) (run h p) (done_step runs h p)
            link (inl z) = inl (sym (p_run p i) ∙ z ∙ q_run)
            link (inr b) = inr (and_second (not (eqb (run h p) r)) (steps_conflict (pairs_of pairs) (done_step runs h p) x) (rw (conflict_is p i) at b))

    firsts' : Catalogued (pairs_of pairs) first_touches runs l t'
    firsts' = firsts_more pairs runs h t t' v v' q r x eq ex e hq firsts

    seconds' : Catalogued (pairs_of pairs) second_touches runs l v'
    seconds' = seconds_more pairs runs h t t' v v' q r x eq ex e hq seconds

    -- the linked places are added to the row of run r
    module _ (links links' : List ℕ) (j : Replaced links links' r (union (bit_at links r) (bit_at linked 0))) (s : Marks (RunLinked c h) links) where
      before_linked : {p y : ℕ} → RunLinked c h p y → RunLinked c l p y
      before_linked a = record { q = a.q; directly = front_direct c h (r ∷ []) a.directly; of_run = (front h (r ∷ []) a.q a.directly.inside).runs ∙ a.of_run }

      rows_are : Marks (RunLinked c l) links'
      rows_are = record { sound = λ p y hp hy b. sound p y hp hy b (ℕ_discrete y r); complete = λ p y hp hy a. complete p y hp hy a (ℕ_discrete a.q q) (ℕ_discrete y r) }
        where
          sound : (p y : ℕ) → p < row_bits → y < rows → bit_at links' y p ≡ 1 → Dec (y ≡ r) → RunLinked c l p y
          sound p y hp hy b (no n) = before_linked (s.sound p y hp hy (sym (j.other y p hp n) ∙ b))
          sound p y hp hy b (yes z) = go (either_one (bit_at links r p) (bit_at linked 0 p) (bit_at_lt links r p) (bit_at_lt linked 0 p) (sym (j.here p hp) ∙ (rw z at b)))
            where
              go : (bit_at links r p ≡ 1) ⊎ (bit_at linked 0 p ≡ 1) → RunLinked c l p y
              go (inl a) = before_linked (s.sound p y hp hy (rw z a))
              go (inr a) = record { q = q; directly = linked_directly.sound p hp a; of_run = q_run ∙ sym z }

          -- a column of the row stays, and the linked ones are added
          stays : (p : ℕ) → p < row_bits → (bit_at links r p ≡ 1) ⊎ (bit_at linked 0 p ≡ 1) → bit_at links' r p ≡ 1
          stays p hp (inl a) = omega (arith, j.here p hp, a, bit_at_lt linked 0 p)
          stays p hp (inr a) = omega (arith, j.here p hp, a, bit_at_lt links r p)

          complete : (p y : ℕ) → p < row_bits → y < rows → (a : RunLinked c l p y) → Dec (a.q ≡ q) → Dec (y ≡ r) → bit_at links' y p ≡ 1
          complete p y hp hy a (yes z) (yes w) = let d : DirectlyDepends c l p q = rw z at a.directly in rw w (stays p hp (inr (linked_directly.complete p hp d)))
          complete p y hp hy a (yes z) (no n) = absurd (n (sym a.of_run ∙ rw z q_run))
          complete p y hp hy a (no n) w = here w
            where
              inside : a.q < length h
              inside = omega (arith, a.directly.inside, longer, n)

              was : bit_at links y p ≡ 1
              was = s.complete p y hp hy (record { q = a.q; directly = direct_front c h (r ∷ []) inside a.directly; of_run = sym (front h (r ∷ []) a.q inside).runs ∙ a.of_run })

              here : Dec (y ≡ r) → bit_at links' y p ≡ 1
              here (yes w) = rw w (stays p hp (inl (rw w at was)))
              here (no k) = j.other y p hp k ∙ was

    -- the row of place q is stored
    module _ (dep dep' m : List ℕ) (w : RowFrom dep linked m) (j : Replaced dep dep' q (bit_at m 0)) (s : Marks (Depends c h) dep) where
      before : Marks (DependsSoFar c l q) dep
      before = record {
        sound = λ a y ha hy b. let d = s.sound a y ha hy b in record { so_far = omega (arith, dep_inside c d); depends = front_depends c h (r ∷ []) d };
        complete = λ a y ha hy d. s.complete a y ha hy (depends_front c h (r ∷ []) (omega (arith, d.so_far)) d.depends);
      }

      row_is : Columns (λ p. Depends c l p q) m
      row_is = w.row c l q hq linked_directly before

      so_far : Marks (Depends c l) dep'
      so_far = record { sound = λ a y ha hy b. sound a y ha hy b (ℕ_discrete y q); complete = λ a y ha hy d. complete a y ha hy d (ℕ_discrete y q) }
        where
          sound : (a y : ℕ) → a < row_bits → y < rows → bit_at dep' y a ≡ 1 → Dec (y ≡ q) → Depends c l a y
          sound a y ha hy b (yes z) = let b' : bit_at dep' q a ≡ 1 = rw z at b in rw z (row_is.sound a ha (sym (j.here a ha) ∙ b'))
          sound a y ha hy b (no n) = (before.sound a y ha hy (sym (j.other y a ha n) ∙ b)).depends

          complete : (a y : ℕ) → a < row_bits → y < rows → Depends c l a y → Dec (y ≡ q) → bit_at dep' y a ≡ 1
          complete a y ha hy d (yes z) = let d' : Depends c l a q = rw z at d in rw z (j.here a ha ∙ row_is.complete a ha d')
          complete a y ha hy d (no n) = j.other y a ha n ∙ before.complete a y ha hy (record { so_far = omega (arith, dep_inside c d, longer); depends = d })

      to_come : (a y : ℕ) → a < row_bits → length l ≤ y → y < rows → bit_at dep' y a ≡ 0
      to_come a y ha b hy = go (ℕ_discrete (bit_at dep' y a) 1)
        where
          go : Dec (bit_at dep' y a ≡ 1) → bit_at dep' y a ≡ 0
          go (yes z) = absurd (omega (arith, dep_inside c (so_far.sound a y ha hy z)))
          go (no n) = omega (arith, bit_at_lt dep' y a)

  pub step_linked : (links links' : List ℕ) → Replaced links links' r (union (bit_at links r) (bit_at linked 0)) → StepLinked pairs t t' v v' links links' q r x
  step_linked links links' j = record {
    read = λ runs h eq ex s. let a = s.firsts_catalogued in let b = s.seconds_catalogued in record {
      rows_are = rows_are runs h eq ex a b links links' j s.rows_are;
      firsts_catalogued = firsts' runs h eq ex a b;
      seconds_catalogued = seconds' runs h eq ex a b;
    };
  }

  pub step_read : (dep dep' m : List ℕ) → RowFrom dep linked m → Replaced dep dep' q (bit_at m 0) → StepRead pairs t t' v v' dep dep' q r x
  step_read dep dep' m w j = record {
    read = λ runs h eq ex s. let a = s.firsts_catalogued in let b = s.seconds_catalogued in record {
      so_far = so_far runs h eq ex a b dep dep' m w j s.so_far;
      to_come = to_come runs h eq ex a b dep dep' m w j s.so_far;
      firsts_catalogued = firsts' runs h eq ex a b;
      seconds_catalogued = seconds' runs h eq ex a b;
    };
    unchanged = j.words;
  }

-- ---- the answer

module _ (pairs t v dep : List ℕ) (q r : ℕ) (x : Step) where
  refused : ¬ InRange q r x → StepAnswered pairs t t v v dep dep q r x false
  refused n = record {
    in_range = record { sound = λ e. absurd (true≢false (sym e)); complete = λ i. absurd (n i) };
    read = λ e. absurd (true≢false (sym e));
    same_catalogue = λ e. refl;
    same_seconds = λ e. refl;
    same_rows = λ e. refl;
  }

  pub no_kind : (b : Bool) → b ≡ kinds_low x → b ≡ false → StepAnswered pairs t t v v dep dep q r x false
  no_kind b a e = refused (λ i. true≢false (sym ((kinds_answer x).complete i.kinds) ∙ sym a ∙ e))

  pub kinds_in : (b : Bool) → b ≡ kinds_low x → b ≡ true → KindsLow x
  kinds_in b a e = (kinds_answer x).sound (sym a ∙ e)

  pub answered : (t' v' dep' : List ℕ) (b : Bool) → q < step_limit → r < run_limit → b ≡ kinds_low x → b ≡ true → StepRead pairs t t' v v' dep dep' q r x
      → StepAnswered pairs t t' v v' dep dep' q r x true
  answered t' v' dep' b hq hr a e s = record {
    in_range = record { sound = λ _. record { place = hq; run = hr; kinds = kinds_in b a e }; complete = λ i. refl };
    read = λ _. s;
    same_catalogue = λ z. absurd (true≢false z);
    same_seconds = λ z. absurd (true≢false z);
    same_rows = λ z. absurd (true≢false z);
  }

-- ---- no step yet

pub blank_zeros : (n : ℕ) → Blank (replicate n 0)
blank_zeros n = record { none = λ x y hx hy. zeros_bit n y x }

none_catalogued : (pairs : List Pair) (w : Which) (runs : List (List Step)) (t : List ℕ) → Blank t → Catalogued pairs w runs [] t
none_catalogued pairs w runs t b = record {
  sound = λ p y hp hy e. absurd (clash (b.none p y hp (omega arith)) e);
  complete = λ p y hp hy a. absurd (low p a.inside);
  kinds_sound = λ p k hp hk e. absurd (clash (b.none p (part_rows + k) hp (omega arith)) e);
  kinds_complete = λ p k hp hk a. absurd (low p a.inside);
  no_more = λ p y hp l hy. b.none p y hp hy;
}

pub none_read : (pairs : List Pair) (runs : List (List Step)) (t v dep : List ℕ) → Blank t → Blank v → Blank dep → StepsRead pairs runs [] t v dep
none_read pairs runs t v dep b c d = record {
  so_far = record { sound = λ x y hx hy e. absurd (clash (d.none x y hx hy) e); complete = λ x y hx hy k. absurd (low y (dep_inside (conflict pairs runs) k)) };
  to_come = λ x y hx l hy. d.none x y hx hy;
  firsts_catalogued = none_catalogued pairs first_touches runs t b;
  seconds_catalogued = none_catalogued pairs second_touches runs v c;
}
