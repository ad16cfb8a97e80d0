-- The arc table, gained run by run and place by place.
use Rattle.std.specs.Prelude.{Option, Some, None}
use Prim.Native.Nat.{ℕ, ◌+◌, ◌*◌, ◌≤◌, ◌<◌}
use native.Mathlib.Decide.{ℕ_discrete, dec_lt}
use native.Mathlib.Omega.{arith}
use mathlib.Core.Path.{◌≡◌, refl, sym, ◌∙◌, subst}
use mathlib.Core.Logic.{◌⊎◌, inl, inr, ◌≢◌}
use mathlib.Core.List.{List}
use lib.ListN.{length, get_or, take, replicate}
use Rattle.bits.specs.Table.{row_bits, rows, bit_at, union, intersection, Marked, Replaced}
use Rattle.bits.specs.First.{NoColumn}
use Rattle.bits.specs.Last.{LastAt, Last}
use Rattle.bits.proofs.Store.{bit_at_lt, zeros_bit}
use Rattle.theory.specs.History.{run}
use Rattle.theory.specs.Relative.{Depends}
use Rattle.theory.specs.Graph.{FirstOf, LastOf, ArcD, Arc, arc_I, arc_D, arc_F, arc_B}
use Rattle.theory.proofs.Steps.{dep_lt, dep_inside, own_depends}
use Rattle.book.specs.Format.{run_limit, step_limit}
use Rattle.graph.specs.Units.{EachPlace}
use Rattle.dependence.specs.Inner.Tables.{HistoryOf, NumberAt}
use Rattle.graph.specs.Inner.Arcs.{TablesIn, done, Gained, ArcOf, by_I, by_D, by_F, by_B, Below, ArcOfPlaces, ArcOfRuns, GainedBy, ArcRows, RunMask, Rowed}
use Rattle.graph.specs.declared.graph.Graph.{Graph}
use Rattle.dependence.proofs.Counting.{clash, below_next, history_length, history_run, history_small}
use Rattle.graph.proofs.UnitSteps.{LastSource, last_own, own_last, last_covers, last_unique, first_unique}

-- ---- one gain after another

gained_none : {H : ℕ → ℕ → Type 0} (t : List ℕ) → ((x y : ℕ) → ¬ H x y) → Gained H t t
gained_none t n = record { sound = λ x y hx hy e. inl e; keeps = λ x y hx hy e. e; gains = λ x y hx hy k. absurd (n x y k) }

gained_more : {t u v : List ℕ} {H K : ℕ → ℕ → Type 0} (L : ℕ → ℕ → Type 0) → Gained H t u → Gained K u v
    → ((x y : ℕ) → x < row_bits → H x y → L x y) → ((x y : ℕ) → x < row_bits → K x y → L x y) → ((x y : ℕ) → L x y → H x y ⊎ K x y) → Gained L t v
gained_more {t} {u} {v} {H} {K} L a b hl kl lhk = record {
  sound = λ x y hx hy e. first x y hx hy (b.sound x y hx hy e);
  keeps = λ x y hx hy e. b.keeps x y hx hy (a.keeps x y hx hy e);
  gains = λ x y hx hy l. last x y hx hy (lhk x y l);
}
  where
    then : (x y : ℕ) → x < row_bits → (bit_at t y x ≡ 1) ⊎ H x y → (bit_at t y x ≡ 1) ⊎ L x y
    then x y hx (inl e) = inl e
    then x y hx (inr k) = inr (hl x y hx k)

    first : (x y : ℕ) → x < row_bits → y < rows → (bit_at u y x ≡ 1) ⊎ K x y → (bit_at t y x ≡ 1) ⊎ L x y
    first x y hx hy (inl e) = then x y hx (a.sound x y hx hy e)
    first x y hx hy (inr k) = inr (kl x y hx k)

    last : (x y : ℕ) → x < row_bits → y < rows → H x y ⊎ K x y → bit_at v y x ≡ 1
    last x y hx hy (inl k) = b.keeps x y hx hy (a.gains x y hx hy k)
    last x y hx hy (inr k) = b.gains x y hx hy k

gained_map : {t u : List ℕ} {H : ℕ → ℕ → Type 0} (L : ℕ → ℕ → Type 0) → Gained H t u → ((x y : ℕ) → x < row_bits → H x y → L x y) → ((x y : ℕ) → L x y → H x y) → Gained L t u
gained_map {t} {u} {H} L a f g = record {
  sound = λ x y hx hy e. go x y hx (a.sound x y hx hy e);
  keeps = a.keeps;
  gains = λ x y hx hy l. a.gains x y hx hy (g x y l);
}
  where
    go : (x y : ℕ) → x < row_bits → (bit_at t y x ≡ 1) ⊎ H x y → (bit_at t y x ≡ 1) ⊎ L x y
    go x y hx (inl e) = inl e
    go x y hx (inr k) = inr (f x y hx k)

abbrev Spot : ℕ → ℕ → ℕ → ℕ → Type 0
Spot row col x y = (x ≡ col) × (y ≡ row)

gained_mark : (t u : List ℕ) (row col : ℕ) → Marked t u row col → Gained (Spot row col) t u
gained_mark t u row col s = record {
  sound = λ x y hx hy e. sound_at x y hx e (ℕ_discrete x col) (ℕ_discrete y row);
  keeps = λ x y hx hy e. keeps_at x y hx e (ℕ_discrete x col) (ℕ_discrete y row);
  gains = λ x y hx hy k. rw (k.0, k.1) s.here;
}
  where
    sound_at : (x y : ℕ) → x < row_bits → bit_at u y x ≡ 1 → Dec (x ≡ col) → Dec (y ≡ row) → (bit_at t y x ≡ 1) ⊎ Spot row col x y
    sound_at x y hx e (yes a) (yes b) = inr (a, b)
    sound_at x y hx e (no a) d = inl (sym (s.other y x hx (λ k. a k.1)) ∙ e)
    sound_at x y hx e (yes a) (no b) = inl (sym (s.other y x hx (λ k. b k.0)) ∙ e)

    keeps_at : (x y : ℕ) → x < row_bits → bit_at t y x ≡ 1 → Dec (x ≡ col) → Dec (y ≡ row) → bit_at u y x ≡ 1
    keeps_at x y hx e (yes a) (yes b) = rw (a, b) s.here
    keeps_at x y hx e (no a) d = s.other y x hx (λ k. a k.1) ∙ e
    keeps_at x y hx e (yes a) (no b) = s.other y x hx (λ k. b k.0) ∙ e

-- the columns of f in the row
abbrev InRow : ℕ → (ℕ → ℕ) → ℕ → ℕ → Type 0
InRow row f x y = (f x ≡ 1) × (y ≡ row)

gained_join : (t u : List ℕ) (row : ℕ) (f : ℕ → ℕ) → ((c : ℕ) → f c < 2) → Replaced t u row (union (bit_at t row) f) → Gained (InRow row f) t u
gained_join t u row f small s = record {
  sound = λ x y hx hy e. sound_at x y hx e (ℕ_discrete y row) (ℕ_discrete (f x) 1);
  keeps = λ x y hx hy e. keeps_at x y hx e (ℕ_discrete y row);
  gains = λ x y hx hy k. rw k.1 (s.here x hx ∙ omega (arith, k.0, bit_at_lt t row x));
}
  where
    sound_at : (x y : ℕ) → x < row_bits → bit_at u y x ≡ 1 → Dec (y ≡ row) → Dec (f x ≡ 1) → (bit_at t y x ≡ 1) ⊎ InRow row f x y
    sound_at x y hx e (no a) d = inl (sym (s.other y x hx a) ∙ e)
    sound_at x y hx e (yes a) (yes b) = inr (b, a)
    sound_at x y hx e (yes a) (no b) =
        let e' : bit_at u row x ≡ 1 = rw a at e in
        inl (rw a (omega (arith, s.here x hx, small x, bit_at_lt t row x)))

    keeps_at : (x y : ℕ) → x < row_bits → bit_at t y x ≡ 1 → Dec (y ≡ row) → bit_at u y x ≡ 1
    keeps_at x y hx e (no a) = s.other y x hx a ∙ e
    keeps_at x y hx e (yes a) =
        let e' : bit_at t row x ≡ 1 = rw a at e in
        rw a (s.here x hx ∙ omega (arith, small x))

-- ---- what a place depends on in a run

module _ (g : Graph) (mask : List ℕ) (r q : ℕ) (w : RunMask g mask r) (iq : q < g.n) where
  abbrev h : List ℕ
  h = done g

  abbrev sources : ℕ → ℕ
  sources = intersection (bit_at g.dep q) (bit_at mask 0)

  sources_lt : (c : ℕ) → sources c < 2
  sources_lt c = omega (arith, bit_at_lt g.dep q c)

  q_inside : q < length h
  q_inside = rw (history_length g.stored) iq

  module _ (a : TablesIn g) where
    source_sound : (x : ℕ) → x < row_bits → sources x ≡ 1 → (run h x ≡ r) × Depends a.conflict h x q
    source_sound x hx e = (
      (w.mask_is.sound x hx (omega (arith, e, bit_at_lt g.dep q x, bit_at_lt mask 0 x))).runs,
      a.by.dep_marks.sound x q hx (omega arith) (omega (arith, e, bit_at_lt g.dep q x, bit_at_lt mask 0 x)),
    )

    below : (x : ℕ) → Depends a.conflict h x q → x < g.n
    below x d = omega (arith, dep_lt a.conflict d, iq)

    source_complete : (x : ℕ) → run h x ≡ r → Depends a.conflict h x q → sources x ≡ 1
    source_complete x e d =
        let i : x < g.n = below x d in
        omega (arith, a.by.dep_marks.complete x q (omega arith) (omega arith) d, w.mask_is.complete x (omega arith) (record { below = i; runs = e }))

    -- every arc comes of a source
    arc_source : (x y : ℕ) → ArcOf a.conflict a.unit h r q x y → (p : ℕ) × (run h p ≡ r) × Depends a.conflict h p q
    arc_source x y (by_I e i z) = (x, e, own_depends a.conflict h x q i.before i.inside i.runs)
    arc_source x y (by_D e d z) = (x, e, d.depends)
    arc_source x y (by_F p e d f z) = (p, e, d.depends)
    arc_source x y (by_B e d f) = (x, e, d.depends)

    no_arc : NoColumn sources → (x y : ℕ) → ¬ ArcOf a.conflict a.unit h r q x y
    no_arc none x y k =
        let s = arc_source x y k in
        clash (none.none s.0 (omega (arith, below s.0 s.2))) (source_complete s.0 s.1 s.2)

    module _ (l : ℕ) (la : LastAt sources l) where
      last_source : LastSource a.conflict h r q l
      last_source =
          let s = source_sound l la.in_row la.here in
          record { runs = s.0; depends = s.1; last = λ k e d. at k e d (dec_lt l k) }
        where
          at : (k : ℕ) → run h k ≡ r → Depends a.conflict h k q → Dec (l < k) → k ≤ l
          at k e d (no m) = omega arith
          at k e d (yes i) = absurd (clash (la.after k i (omega (arith, below k d))) (source_complete k e d))

      -- q's own run
      own_arc : r ≡ run h q → (t u : List ℕ) → Marked t u q l → Gained (ArcOf a.conflict a.unit h r q) t u
      own_arc e t u m = gained_map (ArcOf a.conflict a.unit h r q) (gained_mark t u q l m) to from
        where
          ls : LastSource a.conflict h (run h q) q l
          ls = rw e at last_source

          to : (x y : ℕ) → x < row_bits → Spot q l x y → ArcOf a.conflict a.unit h r q x y
          to x y hx k = by_I (rw k.0 last_source.runs) (rw k.0 (last_own a.conflict h q l ls)) k.1

          from : (x y : ℕ) → ArcOf a.conflict a.unit h r q x y → Spot q l x y
          from x y (by_I f i z) = (own_last a.conflict h q l ls x i, z)
          from x y (by_D f d z) = absurd (d.other (f ∙ e))
          from x y (by_F p f d g z) = absurd (d.other (f ∙ e))
          from x y (by_B f d g) = absurd (d.other (f ∙ e))

      -- another run
      module _ (s e f : ℕ) (es : run h q ≡ s) (ne : r ≢ s) (ee : e ≡ get_or g.lasts (l * run_limit + s) 0) (ef : f ≡ get_or g.firsts (q * run_limit + r) 0) where
        s_small : s < run_limit
        s_small = rw (← es) (history_small g.stored q q_inside)

        is_last : LastOf a.unit h (run h q) l e
        is_last = rw (es, ee) (a.by.lasts_are.at l s (omega arith) (rw (history_length g.stored) (below l last_source.depends)) s_small)

        is_first : FirstOf a.unit h r q f
        is_first = rw ef (a.by.firsts_are.at q r (omega arith) q_inside w.small)

        arc_of : (x : ℕ) → x < row_bits → sources x ≡ 1 → (run h x ≡ r) × ArcD a.conflict h x q
        arc_of x hx k = let z = source_sound x hx k in (z.0, record { other = λ c. ne (sym z.0 ∙ c ∙ es); depends = z.1 })

        abbrev Across : ℕ → ℕ → Type 0
        Across x y = Spot q e x y ⊎ (InRow q sources x y ⊎ InRow f sources x y)

        from : (x y : ℕ) → ArcOf a.conflict a.unit h r q x y → Across x y
        from x y (by_I g i z) = absurd (ne (sym g ∙ i.runs ∙ es))
        from x y (by_D g d z) = inr (inl (source_complete x g d.depends, z))
        from x y (by_B g d k) = inr (inr (source_complete x g d.depends, first_unique a.unit h r q y f k is_first))
        from x y (by_F p g d k z) = by (last_covers a.conflict h a.unit a.by.rises r q l p x last_source g d k)
          where
            by : ArcD a.conflict h x q ⊎ LastOf a.unit h (run h q) l x → Across x y
            by (inl c) = inr (inl (source_complete x (k.member.runs ∙ g) c.depends, z))
            by (inr c) = inl (last_unique a.unit h (run h q) l x e c is_last, z)

        to : (x y : ℕ) → x < row_bits → Across x y → ArcOf a.conflict a.unit h r q x y
        to x y hx (inl k) =
            let z = arc_of l la.in_row la.here in
            by_F l z.0 z.1 (rw k.0 is_last) k.1
        to x y hx (inr (inl k)) = let z = arc_of x hx k.0 in by_D z.0 z.1 k.1
        to x y hx (inr (inr k)) = let z = arc_of x hx k.0 in by_B z.0 z.1 (rw k.1 is_first)

        across_arcs : (t u v x : List ℕ) → Marked t u q e → Replaced u v q (union (bit_at u q) sources) → Replaced v x f (union (bit_at v f) sources)
            → Gained (ArcOf a.conflict a.unit h r q) t x
        across_arcs t u v x m j k =
            gained_map (ArcOf a.conflict a.unit h r q)
            (gained_more Across (gained_mark t u q e m) both (λ x y hx c. inl c) (λ x y hx c. inr c) (λ x y c. c))
            to from
          where
            both : Gained (λ x y. InRow q sources x y ⊎ InRow f sources x y) u x
            both = gained_more (λ x y. InRow q sources x y ⊎ InRow f sources x y) (gained_join u v q sources sources_lt j) (gained_join v x f sources sources_lt k) (λ x y hx c. inl c) (λ x y hx c. inr c) (λ x y c. c)

  -- ---- as the functions have it

  pub found_none : (t : List ℕ) (found : Option ℕ) → Last sources found → found ≡ None → GainedBy ArcOf g r q t t
  found_none t found la e = record { by = λ a. gained_none t (no_arc a (subst (Last sources) e la)) }

  pub found_own : (l s : ℕ) (found : Option ℕ) (t u : List ℕ) → Last sources found → found ≡ Some l → NumberAt g.history q run_limit s → r ≡ s → Marked t u q l → GainedBy ArcOf g r q t u
  found_own l s found t u la e z rs m = record { by = λ a. own_arc a l (subst (Last sources) e la) (rs ∙ z.is ∙ sym (history_run g.history g.n q iq)) t u m }

  pub last_small : (l : ℕ) → LastAt sources l → l < g.n
  last_small l la = (w.mask_is.sound l la.in_row (omega (arith, la.here, bit_at_lt g.dep q l, bit_at_lt mask 0 l))).below

  pub across_all : (l s e f : ℕ) (t u v x : List ℕ) → LastAt sources l → NumberAt g.history q run_limit s → r ≢ s → NumberAt g.lasts (l * run_limit + s) step_limit e → NumberAt g.firsts (q * run_limit + r) step_limit f
      → Marked t u q e → Replaced u v q (union (bit_at u q) sources) → Replaced v x f (union (bit_at v f) sources) → GainedBy ArcOf g r q t x
  across_all l s e f t u v x la z ne ze zf m j k = record { by = λ a. across_arcs a l la s e f (history_run g.history g.n q iq ∙ sym z.is) ne ze.is zf.is t u v x m j k }

-- ---- tables of places

pub rowed : {E : ℕ → ℕ → ℕ → Type 0} (history : List ℕ) (n : ℕ) (t : List ℕ) → HistoryOf history n → ((o p f : ℕ) → E o p f → f < length (take n history)) → EachPlace E 0 (length (take n history)) t → Rowed n t
rowed history n t hs f w = record { small = λ p o i ho. omega (arith, f o p (get_or t (p * run_limit + o) 0) (w.at p o (omega arith) (rw (history_length hs) i) ho), history_length hs, hs.within) }

-- ---- one place after another, and one run after another

module _ (P : ℕ → ℕ → ℕ → Type 0) where
  below_more : (m : ℕ) {t u v : List ℕ} → Gained (Below P m) t u → Gained (P m) u v → Gained (Below P (m + 1)) t v
  below_more m g k = gained_more (Below P (m + 1)) g k
      (λ x y hx c. record { index = c.index; below = omega (arith, c.below); holds = c.holds })
      (λ x y hx c. record { index = m; below = omega arith; holds = c })
      (λ x y c. split x y c (below_next c.index m c.below))
    where
      split : (x y : ℕ) (c : Below P (m + 1) x y) → (c.index ≡ m) ⊎ (c.index < m) → Below P m x y ⊎ P m x y
      split x y c (inl e) = inr (rw e at c.holds)
      split x y c (inr l) = inl (record { index = c.index; below = l; holds = c.holds })

module _ (g : Graph) where
  pub places_more : (r q : ℕ) (t u v : List ℕ) → GainedBy ArcOfPlaces g r q t u → GainedBy ArcOf g r q u v
      → GainedBy ArcOfPlaces g r (q + 1) t v
  places_more r q t u v m k = record { by = λ a. below_more (ArcOf a.conflict a.unit (done g) r) q (m.by a) (k.by a) }

  pub runs_more : (n r : ℕ) (t u v : List ℕ) → GainedBy ArcOfRuns g n r t u → GainedBy ArcOfPlaces g r n u v
      → GainedBy ArcOfRuns g n (r + 1) t v
  runs_more n r t u v m k = record { by = λ a. below_more (λ r. ArcOfPlaces a.conflict a.unit (done g) r n) r (m.by a) (k.by a) }

-- all runs: every arc, and nothing else
pub runs_all : (g : Graph) (r m : ℕ) (u : List ℕ) → g.declared ≤ r → GainedBy ArcOfRuns g g.n r (replicate m 0) u → ArcRows g u
runs_all g r m u l k = record {
  marks = λ a. record {
    sound = λ x y hx hy e. sound_at a x y ((k.by a).sound x y hx hy e);
    complete = λ x y hx hy c. (k.by a).gains x y hx hy (complete_at a x y c);
  };
}
  where
    run_below : (k : ℕ) → k < length (done g) → run (done g) k < r
    run_below k ik =
        let i : k < g.n = rw (← history_length g.stored) ik in
        rw (history_run g.history g.n k i) (omega (arith, g.runs.declared k i))

    made : (a : TablesIn g) (x y q k : ℕ) → q < length (done g) → k < length (done g)
        → ArcOf a.conflict a.unit (done g) (run (done g) k) q x y → ArcOfRuns a.conflict a.unit (done g) g.n r x y
    made a x y q k iq ik c = record { index = run (done g) k; below = run_below k ik; holds = record { index = q; below = rw (← history_length g.stored) iq; holds = c } }

    source_inside : (a : TablesIn g) {p q : ℕ} → ArcD a.conflict (done g) p q → p < length (done g)
    source_inside a c = omega (arith, dep_lt a.conflict c.depends, dep_inside a.conflict c.depends)

    complete_at : (a : TablesIn g) (x y : ℕ) → Arc a.conflict a.unit (done g) x y → ArcOfRuns a.conflict a.unit (done g) g.n r x y
    complete_at a x y (arc_I c) = made a x y y x c.inside (omega (arith, c.before, c.inside)) (by_I refl c refl)
    complete_at a x y (arc_D c) = made a x y y x (dep_inside a.conflict c.depends) (source_inside a c) (by_D refl c refl)
    complete_at a x y (arc_F c) = made a x y y c.p (dep_inside a.conflict c.arc.depends) (source_inside a c.arc) (by_F c.p refl c.arc c.last refl)
    complete_at a x y (arc_B c) = made a x y c.q x (dep_inside a.conflict c.arc.depends) (source_inside a c.arc) (by_B refl c.arc c.first)

    arc_of : (a : TablesIn g) (k q x y : ℕ) → ArcOf a.conflict a.unit (done g) k q x y → Arc a.conflict a.unit (done g) x y
    arc_of a k q x y (by_I e c z) = rw z (arc_I c)
    arc_of a k q x y (by_D e c z) = rw z (arc_D c)
    arc_of a k q x y (by_F p e c f z) = rw z (arc_F (record { p = p; arc = c; last = f }))
    arc_of a k q x y (by_B e c f) = arc_B (record { q = q; arc = c; first = rw e f })

    sound_at : (a : TablesIn g) (x y : ℕ) → (bit_at (replicate m 0) y x ≡ 1) ⊎ ArcOfRuns a.conflict a.unit (done g) g.n r x y → Arc a.conflict a.unit (done g) x y
    sound_at a x y (inl e) = absurd (clash (zeros_bit m y x) e)
    sound_at a x y (inr k) = arc_of a k.index k.holds.index x y k.holds.holds

-- ---- the places of each run
