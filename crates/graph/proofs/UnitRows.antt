-- The first and the last place of each unit. A step has those of the step next to it, unless there is a cut between the two as seen by the run.
use Prim.Native.Nat.{ℕ, zero, suc, ◌+◌, ◌-◌, ◌*◌, ◌≤◌, ◌<◌}
use native.Mathlib.Nat.{lt_of_not-le}
use native.Mathlib.Decide.{ℕ_discrete, dec_lt}
use native.Mathlib.Omega.{arith}
use mathlib.Core.Path.{◌≡◌, refl, sym, ap, ◌∙◌}
use mathlib.Core.Logic.{◌⊎◌, inl, inr, ◌≢◌}
use mathlib.Core.List.{List, ◌++◌}
use lib.ListN.{length, get_or, take, drop}
use lib.Seq.{get_or-take, get_or-drop, length-take-le}
use borrow.Rule.Slice.PartMut.{put_mid}
use Rattle.std.proofs.lemmas.List.{get_or_append_left, get_or-append_right}
use Rattle.theory.specs.History.{count, run, ordinal}
use Rattle.theory.specs.Relative.{InUnit}
use Rattle.theory.specs.Graph.{FirstOf, LastOf, ArcI}
use Rattle.theory.specs.Inner.Places.{place_of}
use Rattle.theory.proofs.Places.{place_of_spec, place_of_ordinal, ordinal_lt, ordinal_mono}
use Rattle.theory.proofs.Steps.{unit_refl, unit_sym}
use Rattle.book.specs.Format.{run_limit, run_step_limit, step_limit}
use Rattle.graph.specs.Units.{units_size, EachPlace, UnchangedFrom}
use Rattle.book.specs.Book.{run_cuts}
use Rattle.dependence.specs.Inner.Tables.{HistoryOf}
use Rattle.graph.specs.Inner.Tables.{places_size, Numbering, Counts, CutsOf, EachBy, RowRoom, RowSet, by_flag, copied_row}
use Rattle.graph.proofs.UnitSteps.{first_from, last_from}
use Rattle.dependence.proofs.Counting.{low, below_next, history_length, history_run}

-- ---- what a flag chooses

-- what stands where there is no flag, and where there is one
pub flag_none : (n a b : ℕ) → n ≡ 0 → by_flag n a b ≡ a
flag_none n a b e = rw e

pub flag_some : (n a b : ℕ) → n ≢ 0 → by_flag n a b ≡ b
flag_some zero a b n = absurd (n refl)
flag_some (suc m) a b n = refl

-- ---- a row, an entry for each run

-- the first m of a row by itself are v
pub record RowMade (row : List ℕ) (v : ℕ → ℕ) (m : ℕ) : Type 0 where
  pub long : length row ≡ run_limit
  pub here : (o : ℕ) → o < m → get_or row o 0 ≡ v o

-- a row put where the row of p stood
pub row_put : (t made row : List ℕ) (p k o : ℕ) (v : ℕ → ℕ) → RowMade made v o → run_limit ≤ o → row ≡ made → p < step_limit → length t ≡ units_size → k ≡ run_limit
    → RowSet t (put_mid (p * run_limit) k t row) p v run_limit
row_put t made row p k m v w all q i l e = record { here = here; others = others }
  where
    first : ℕ
    first = p * run_limit

    rest : List ℕ
    rest = drop k (drop first t)

    u : List ℕ
    u = put_mid first k t row

    head : length (take first t) ≡ first
    head = length-take-le first t (omega (arith, l))

    long : length row ≡ run_limit
    long = ap length q ∙ w.long

    behind : (x : ℕ) → first ≤ x → get_or u x 0 ≡ get_or (row ++ rest) (x - first) 0
    behind x h = get_or-append_right (take first t) (row ++ rest) first x 0 head h

    here : (o : ℕ) → o < run_limit → get_or u (first + o) 0 ≡ v o
    here o j =
        behind (first + o) (omega arith) ∙ ap (λ n. get_or (row ++ rest) n 0) (omega arith) ∙ get_or_append_left row rest 0 o (omega (arith, long))
        ∙ ap (λ (xs : List ℕ). get_or xs o 0) q ∙ w.here o (omega arith)

    others : (a o : ℕ) → o < run_limit → a ≢ p → get_or u (a * run_limit + o) 0 ≡ get_or t (a * run_limit + o) 0
    others a o j n = go (dec_lt a p)
      where
        x : ℕ
        x = a * run_limit + o

        go : Dec (a < p) → get_or u x 0 ≡ get_or t x 0
        go (yes h) = get_or_append_left (take first t) (row ++ rest) 0 x (omega (arith, head)) ∙ get_or-take first t x 0 (omega arith)
        go (no h) =
            let above : p < a = omega arith in
            behind x (omega arith) ∙ get_or-append_right row rest run_limit (x - first) 0 long (omega arith) ∙ get_or-drop k (drop first t) (x - first - run_limit) 0
            ∙ get_or-drop first t (k + (x - first - run_limit)) 0 ∙ ap (λ m. get_or t m 0) (omega (arith, e))

-- ---- a table filled row by row

module _ {E : ℕ → ℕ → ℕ → Type 0} {a b p : ℕ} {t u : List ℕ} {v : ℕ → ℕ} (w : EachPlace E a b t) (r : RowSet t u p v run_limit) (e : (o : ℕ) → o < run_limit → E o p (v o)) where
  other_row : (k o : ℕ) → a ≤ k → k < b → o < run_limit → k ≢ p → E o k (get_or u (k * run_limit + o) 0)
  other_row k o ha hb ho n = rw (r.others k o ho n) (w.at k o ha hb ho)

  row_here : (k o : ℕ) → o < run_limit → k ≡ p → E o k (get_or u (k * run_limit + o) 0)
  row_here k o ho z = rw (z, r.here o ho) (e o ho)

  each_up : p ≡ b → EachPlace E a (b + 1) u
  each_up z = record { at = λ k o ha hb ho. go k o ha ho (below_next k b hb) }
    where
      go : (k o : ℕ) → a ≤ k → o < run_limit → (k ≡ b) ⊎ (k < b) → E o k (get_or u (k * run_limit + o) 0)
      go k o ha ho (inl y) = row_here k o ho (y ∙ sym z)
      go k o ha ho (inr l) = other_row k o ha l ho (λ y. omega arith)

  each_down : 0 < a → p ≡ a - 1 → EachPlace E (a - 1) b u
  each_down q z = record { at = λ k o ha hb ho. go k o ha hb ho (ℕ_discrete k p) }
    where
      go : (k o : ℕ) → a - 1 ≤ k → k < b → o < run_limit → Dec (k ≡ p) → E o k (get_or u (k * run_limit + o) 0)
      go k o ha hb ho (yes y) = row_here k o ho y
      go k o ha hb ho (no n) = other_row k o (omega arith) hb ho n

pub kept_row : (n p : ℕ) (t u v y : List ℕ) (w : ℕ → ℕ) → UnchangedFrom n t u → p < n → RowSet u v p w run_limit → y ≡ v → UnchangedFrom n t y
kept_row n p t u v y w k i r e = rw e (record { at = λ a o l ho. r.others a o ho (λ z. omega arith) ∙ k.at a o l ho })

pub kept_down : (n p : ℕ) (t u v : List ℕ) (w : ℕ → ℕ) → UnchangedFrom n t u → 0 < p → p ≤ n → RowSet u v (p - 1) w run_limit → UnchangedFrom n t v
kept_down n p t u v w k pos i r = kept_row n (p - 1) t u v v w k (omega arith) r refl

-- ---- neighbours

-- places of one run, the second's ordinal one more
next_step : (h : List ℕ) (a b : ℕ) → a < length h → b < length h → run h a ≡ run h b → ordinal h b ≡ suc (ordinal h a) → ArcI h a b
next_step h a b ia ib e n = record { before = lt_of_not-le back; inside = ib; runs = e; next = n }
  where
    back : b ≤ a → ⊥
    back l = go (ℕ_discrete a b)
      where
        go : Dec (a ≡ b) → ⊥
        go (yes z) = let o : ordinal h b ≡ suc (ordinal h b) = rw z at n in omega arith
        go (no z) = omega (arith, ordinal_mono h b a (omega arith) ia (sym e))

module _ (unit : ℕ → ℕ → ℕ → ℕ) (cuts : List ℕ) (cs : CutsOf unit cuts) (h : List ℕ) (o : ℕ) (ho : o < run_limit) where
  -- a step with none of its unit before, or behind it
  first_alone : (p : ℕ) → p < length h → ((k : ℕ) → k < p → InUnit unit h o p k → ⊥) → FirstOf unit h o p p
  first_alone p i f = record { inside = i; member = unit_refl unit; first = λ k j u. at k u (dec_lt k p) }
    where
      at : (k : ℕ) → InUnit unit h o p k → Dec (k < p) → p ≤ k
      at k u (yes l) = absurd (f k l u)
      at k u (no n) = omega arith

  last_alone : (p : ℕ) → p < length h → ((k : ℕ) → p < k → k < length h → InUnit unit h o p k → ⊥) → LastOf unit h o p p
  last_alone p i f = record { inside = i; member = unit_refl unit; last = λ k j u. at k j u (dec_lt p k) }
    where
      at : (k : ℕ) → k < length h → InUnit unit h o p k → Dec (p < k) → k ≤ p
      at k j u (yes l) = absurd (f k l j u)
      at k j u (no n) = omega arith

  -- q and p are next to each other
  module _ (q p : ℕ) (a : ArcI h q p) (few : ordinal h p < run_step_limit) where
    abbrev cut_at : ℕ
    cut_at = get_or cuts (run h p * run_cuts + ordinal h p * run_limit + o) 0

    one_unit : cut_at ≡ 0 → InUnit unit h o p q
    one_unit z = record { runs = a.runs; units = rw a.next (sym (cs.uncut (run h p) o (ordinal h q) ho (rw (← a.next) few) (rw a.next at z))) }

    two_units : cut_at ≢ 0 → unit (run h p) o (ordinal h q) < unit (run h p) o (ordinal h p)
    two_units n = rw a.next (cs.cut (run h p) o (ordinal h q) ho (rw (← a.next) few) (rw a.next at n))

    first_after : cut_at ≢ 0 → FirstOf unit h o p p
    first_after n = first_alone p a.inside before
      where
        before : (k : ℕ) → k < p → InUnit unit h o p k → ⊥
        before k l u =
            let m : unit (run h p) o (ordinal h k) ≤ unit (run h p) o (ordinal h q) = cs.rises (run h p) o (ordinal h k) (ordinal h q) (omega (arith, ordinal_mono h k p l a.inside u.runs, a.next)) in
            omega (arith, two_units n, u.units)

    last_before : cut_at ≢ 0 → LastOf unit h o q q
    last_before n = last_alone q (omega (arith, a.before, a.inside)) behind
      where
        behind : (k : ℕ) → q < k → k < length h → InUnit unit h o q k → ⊥
        behind k l j u =
            let m : unit (run h p) o (ordinal h p) ≤ unit (run h p) o (ordinal h k) = cs.rises (run h p) o (ordinal h p) (ordinal h k) (omega (arith, ordinal_mono h q k l j (sym u.runs), a.next)) in
            let e : unit (run h p) o (ordinal h k) ≡ unit (run h p) o (ordinal h q) = rw (← a.runs) u.units in
            omega (arith, two_units n)

    pub first_next : (f : ℕ) → FirstOf unit h o q f → FirstOf unit h o p (by_flag cut_at f p)
    first_next f w = go (ℕ_discrete cut_at 0)
      where
        go : Dec (cut_at ≡ 0) → FirstOf unit h o p (by_flag cut_at f p)
        go (yes z) = rw (flag_none cut_at f p z) (first_from unit h o p q f (one_unit z) w)
        go (no n) = rw (flag_some cut_at f p n) (first_after n)

    pub last_next : (f : ℕ) → LastOf unit h o p f → LastOf unit h o q (by_flag cut_at f q)
    last_next f w = go (ℕ_discrete cut_at 0)
      where
        go : Dec (cut_at ≡ 0) → LastOf unit h o q (by_flag cut_at f q)
        go (yes z) = rw (flag_none cut_at f q z) (last_from unit h o q p f (unit_sym unit (one_unit z)) w)
        go (no n) = rw (flag_some cut_at f q n) (last_before n)

  first_zero : (p : ℕ) → p < length h → ordinal h p ≡ 0 → FirstOf unit h o p p
  first_zero p i z = first_alone p i (λ k l u. low (ordinal h k) (rw z at (ordinal_mono h k p l i u.runs)))

  last_end : (p : ℕ) → p < length h → count h (run h p) ≤ ordinal h p + 1 → LastOf unit h o p p
  last_end p i z = last_alone p i behind
    where
      behind : (k : ℕ) → p < k → k < length h → InUnit unit h o p k → ⊥
      behind k l j u =
          let q : ordinal h k < count h (run h p) = rw u.runs at (ordinal_lt h k j) in
          omega (arith, ordinal_mono h p k l j (sym u.runs))

-- ---- the loops

module _ (history ordinals places : List ℕ) (n : ℕ) (hs : HistoryOf history n) (nb : Numbering (take n history) ordinals places) where
  module _ (p r i : ℕ) (ip : p < n) (er : r ≡ get_or history p 0) (ei : i ≡ get_or ordinals p 0) where
    inside : p < length (take n history)
    inside = rw (history_length hs) ip

    is_run : run (take n history) p ≡ r
    is_run = history_run history n p ip ∙ sym er

    is_ordinal : ordinal (take n history) p ≡ i
    is_ordinal = sym (ei ∙ nb.ordinals_are p inside)

    small : r < run_limit
    small = rw er (hs.runs.small p)

    below : i < count (take n history) r
    below = let b : ordinal (take n history) p < count (take n history) r = rw is_run at (ordinal_lt (take n history) p inside) in omega (arith, is_ordinal)

    -- the place of step m of the run
    module _ (m q : ℕ) (im : m < count (take n history) r) (eq : q ≡ get_or places (r * run_step_limit + m) 0) where
      is_place : q ≡ place_of (take n history) r m
      is_place = eq ∙ nb.places_are r m small im

      q_inside : q < length (take n history)
      q_inside = rw is_place (place_of_spec (take n history) r m im).0

      q_run : run (take n history) q ≡ run (take n history) p
      q_run = rw (is_place, is_run) (place_of_spec (take n history) r m im).1

      q_ordinal : ordinal (take n history) q ≡ m
      q_ordinal = rw is_place (place_of_ordinal (take n history) r m im)

  -- upwards: the step before p
  module _ (p r i : ℕ) (ip : p < n) (er : r ≡ get_or history p 0) (ei : i ≡ get_or ordinals p 0) where
    pub firsts_own : (cuts t u y : List ℕ) → i ≡ 0 → EachBy FirstOf cuts (take n history) 0 p t → RowSet t u p (λ _. p) run_limit → y ≡ u → EachBy FirstOf cuts (take n history) 0 (p + 1) y
    firsts_own cuts t u y z w g e = rw e (record { of = λ unit cs. each_up (w.of unit cs) g (λ o ho. first_zero unit cuts cs (take n history) o ho p (inside p r i ip er ei) (is_ordinal p r i ip er ei ∙ z)) refl })

    module _ (ni : i ≡ 0 → ⊥) where
      pub first_index : r * run_step_limit + i - 1 < places_size
      first_index = omega (arith, small p r i ip er ei, below p r i ip er ei, hs.few r)

      module _ (from : ℕ) (ef : from ≡ get_or places (r * run_step_limit + i - 1) 0) where
        im : i - 1 < count (take n history) r
        im = omega (arith, below p r i ip er ei)

        ef' : from ≡ get_or places (r * run_step_limit + (i - 1)) 0
        ef' = let e : r * run_step_limit + i - 1 ≡ r * run_step_limit + (i - 1) = omega arith in ef ∙ ap (λ (x : ℕ). get_or places x 0) e

        arc : ArcI (take n history) from p
        arc = next_step (take n history) from p (q_inside p r i ip er ei (i - 1) from im ef') (inside p r i ip er ei) (q_run p r i ip er ei (i - 1) from im ef')
            (omega (arith, is_ordinal p r i ip er ei, q_ordinal p r i ip er ei (i - 1) from im ef'))

        pub first_rows : RowRoom (r * run_cuts + i * run_limit) p from
        first_rows = record {
          flags = omega (arith, small p r i ip er ei, below p r i ip er ei, hs.few r);
          to_row = omega (arith, hs.within);
          from_row = omega (arith, arc.before, hs.within);
          apart = λ e. omega (arith, arc.before);
        }

        pub firsts_copy_row : (cuts t u y : List ℕ) → EachBy FirstOf cuts (take n history) 0 p t → RowSet t u p (copied_row cuts (r * run_cuts + i * run_limit) t p from) run_limit → y ≡ u → EachBy FirstOf cuts (take n history) 0 (p + 1) y
        firsts_copy_row cuts t u y w g e = rw e (record { of = λ unit cs. each_up (w.of unit cs) g (row unit cs) refl })
          where
            row : (unit : ℕ → ℕ → ℕ → ℕ) → CutsOf unit cuts → (o : ℕ) → o < run_limit → FirstOf unit (take n history) o p (copied_row cuts (r * run_cuts + i * run_limit) t p from o)
            row unit cs o ho = rw (is_run p r i ip er ei, is_ordinal p r i ip er ei) at
                (first_next unit cuts cs (take n history) o ho from p arc (omega (arith, is_ordinal p r i ip er ei, below p r i ip er ei, hs.few r)) (get_or t (from * run_limit + o) 0)
                ((w.of unit cs).at from o (omega arith) arc.before ho))

  -- downwards: the step after p
  module _ (counts : List ℕ) (cn : Counts (take n history) counts) (p r i c : ℕ) (pos : 0 < p) (ip : p ≤ n) (er : r ≡ get_or history (p - 1) 0) (ei : i ≡ get_or ordinals (p - 1) 0) (ec : c ≡ get_or counts r 0) where
    jp : p - 1 < n
    jp = omega arith

    is_count : c ≡ count (take n history) r
    is_count = ec ∙ cn.are r (small (p - 1) r i jp er ei)

    pub lasts_own : (cuts t u : List ℕ) → c ≤ i + 1 → EachBy LastOf cuts (take n history) p n t → RowSet t u (p - 1) (λ _. p - 1) run_limit → EachBy LastOf cuts (take n history) (p - 1) n u
    lasts_own cuts t u z w g = record { of = λ unit cs. each_down (w.of unit cs) g (λ o ho. last_end unit cuts cs (take n history) o ho (p - 1) (inside (p - 1) r i jp er ei) ended) pos refl }
      where
        ended : count (take n history) (run (take n history) (p - 1)) ≤ ordinal (take n history) (p - 1) + 1
        ended = rw (is_run (p - 1) r i jp er ei) (omega (arith, is_count, is_ordinal (p - 1) r i jp er ei))

    module _ (more : i + 1 < c) where
      module _ (from : ℕ) (ef : from ≡ get_or places (r * run_step_limit + (i + 1)) 0) where
        in_run : i + 1 < count (take n history) r
        in_run = omega (arith, is_count)

        f_inside : from < length (take n history)
        f_inside = q_inside (p - 1) r i jp er ei (i + 1) from in_run ef

        f_ordinal : ordinal (take n history) from ≡ i + 1
        f_ordinal = q_ordinal (p - 1) r i jp er ei (i + 1) from in_run ef

        f_run : run (take n history) from ≡ run (take n history) (p - 1)
        f_run = q_run (p - 1) r i jp er ei (i + 1) from in_run ef

        after : ArcI (take n history) (p - 1) from
        after = next_step (take n history) (p - 1) from (inside (p - 1) r i jp er ei) f_inside (sym f_run) (omega (arith, is_ordinal (p - 1) r i jp er ei, f_ordinal))

        pub last_rows : RowRoom (r * run_cuts + (i + 1) * run_limit) (p - 1) from
        last_rows = record {
          flags = omega (arith, small (p - 1) r i jp er ei, is_count, hs.few r);
          to_row = omega (arith, hs.within);
          from_row = omega (arith, f_inside, history_length hs, hs.within);
          apart = λ e. omega (arith, after.before);
        }

        pub lasts_copy_row : (cuts t u : List ℕ) → EachBy LastOf cuts (take n history) p n t → RowSet t u (p - 1) (copied_row cuts (r * run_cuts + (i + 1) * run_limit) t (p - 1) from) run_limit → EachBy LastOf cuts (take n history) (p - 1) n u
        lasts_copy_row cuts t u w g = record { of = λ unit cs. each_down (w.of unit cs) g (row unit cs) pos refl }
          where
            row : (unit : ℕ → ℕ → ℕ → ℕ) → CutsOf unit cuts → (o : ℕ) → o < run_limit → LastOf unit (take n history) o (p - 1) (copied_row cuts (r * run_cuts + (i + 1) * run_limit) t (p - 1) from o)
            row unit cs o ho = rw (f_run ∙ is_run (p - 1) r i jp er ei, f_ordinal) at
                (last_next unit cuts cs (take n history) o ho (p - 1) from after (omega (arith, f_ordinal, in_run, hs.few r)) (get_or t (from * run_limit + o) 0)
                ((w.of unit cs).at from o (omega (arith, after.before)) (omega (arith, f_inside, history_length hs)) ho))
