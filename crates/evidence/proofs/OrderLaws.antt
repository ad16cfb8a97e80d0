-- The walk of the order check: the steps of l are taken one after the other, each the next of its run in h and after all that it depends
-- on. It comes to the end of l exactly when l is an order of h that agrees with it on every conflicting pair.
use Rattle.std.specs.Prelude.{Option, Some, None}
use Prim.Native.Nat.{ℕ, suc, ◌+◌, ◌≤◌, ◌<◌, zero-le}
use native.Mathlib.Nat.{not-suc-le-zero, le_antisymm, lt_irrefl}
use native.Mathlib.Omega.{arith}
use native.Mathlib.Decide.{dec_lt}
use native.Mathlib.Numerals.{add-one}
use mathlib.Core.Path.{◌≡◌, refl, sym, ap, ◌∙◌}
use mathlib.Core.Logic.{◌⊎◌, inl, inr, ◌↔◌}
use mathlib.Core.Bool.{Bool, true, false, not}
use mathlib.Core.List.{List, [], ◌∷◌, ◌++◌}
use lib.ListN.{length, get_or, take, replicate}
use lib.Seq.{take-suc, take_all}
use lib.Dec.{eqb}
use borrow.Author.Tests.{not-true, not-false}
use Rattle.theory.specs.History.{suc_if, count, run, ordinal, Same, Order}
use Rattle.theory.specs.Relative.{Conflicting, DirectlyDepends, Depends, direct, through, Equivalent}
use Rattle.theory.specs.Graph.{Arc, arc_I, arc_D, arc_F, arc_B, ArcD, Taken, Ready}
use Rattle.theory.proofs.Finite.{below_suc}
use Rattle.theory.specs.Inner.Places.{place_of}
use Rattle.theory.proofs.Lists.{count_snoc, count_take_lt, count_take_mono, count_take_le}
use Rattle.theory.proofs.Places.{Compared, eq_cases, order_length, ordinal_lt, place_of_spec, place_of_mono, place_of_back, place_of_ordinal, place_of_lt_take, within_length}
use Rattle.theory.proofs.Steps.{at, Keeps, order_within, at_lt, at_same, same_at, same_sym, dep_lt, dep_inside, dep_at}
use Rattle.theory.proofs.Decisions.{agrees_keeps}
use Rattle.theory.proofs.Greedy.{taken_turn}
use Rattle.book.specs.Format.{step_limit}
use Rattle.bits.specs.Table.{row_bits, bit_at, Marked, Subset}
use Rattle.theory.proofs.Answered.{answer_yes, answer_no, false_true}
use Rattle.dependence.specs.Marks.{Marks}
use Rattle.turns.specs.Inner.Turns.{TakenIn}
use Rattle.turns.proofs.ReadyPlaces.{none_taken, taken_added}
use Rattle.evidence.specs.Inner.Tables.{NextAt, NoNext, NextStep, EquivalentBy}
use Rattle.evidence.proofs.NextLaws.{next_at, nothing_left}

-- ---- the next step of a run

-- the step at p is the next of its run once the steps of l are taken
pub record Next (h l : List ℕ) (p : ℕ) : Type 0 where
  pub inside : p < length h
  pub is : ordinal h p ≡ count l (run h p)

-- no steps conflict
abbrev never : ℕ → ℕ → ℕ → ℕ → Bool
never r i s j = false

abbrev whole : ℕ → ℕ → ℕ → ℕ
whole r o i = 0

never_directly : {h : List ℕ} {p q : ℕ} → DirectlyDepends never h p q → run h p ≡ run h q
never_directly {h} {p} {q} d = go d.linked
  where
    go : (run h p ≡ run h q) ⊎ Conflicting never h p q → run h p ≡ run h q
    go (inl e) = e
    go (inr c) = absurd c

never_depends : {h : List ℕ} {p q : ℕ} → Depends never h p q → run h p ≡ run h q
never_depends (direct d) = never_directly d
never_depends (through e d) = never_depends e ∙ never_directly d

-- where no steps conflict, the next step of a run is ready
next_ready : {h l : List ℕ} {p : ℕ} → Next h l p → Ready never whole h l p
next_ready {h} {l} {p} w = record { inside = w.inside; untaken = λ t. lt_irrefl (ordinal h p) (omega (arith, t, w.is)); sources = go }
  where
    none : {x y : ℕ} → ArcD never h x y → ⊥
    none d = d.other (never_depends d.depends)

    go : (x : ℕ) → Arc never whole h x p → Taken h l x
    go x (arc_I a) = let e : count l (run h x) ≡ count l (run h p) = ap (count l) a.runs in omega (arith, a.next, w.is)
    go x (arc_D a) = absurd (none a)
    go x (arc_F a) = absurd (none a.arc)
    go x (arc_B a) = absurd (none a.arc)

-- taking the next step takes its place and no other
pub taken_next : (h l : List ℕ) (p q : ℕ) → Next h l p → q < length h → Taken h (l ++ run h p ∷ []) q ↔ (Taken h l q ⊎ (q ≡ p))
taken_next h l p q w i = taken_turn never whole h l p q (next_ready w) i

-- the steps of l stay steps of h
within_next : (h l : List ℕ) (p : ℕ) → Next h l p → ((r : ℕ) → count l r ≤ count h r) → (r : ℕ) → count (l ++ run h p ∷ []) r ≤ count h r
within_next h l p w u r = rw (count_snoc l (run h p) r) (go (eq_cases (run h p) r))
  where
    go : Compared (run h p) r → suc_if (eqb (run h p) r) (count l r) ≤ count h r
    go (inl c) = rw (c.0, ← c.1) (omega (arith, w.is, ordinal_lt h p w.inside))
    go (inr c) = rw c.0 (u r)

-- a list of h's steps that is as long as h has them all
within_whole : (h l : List ℕ) → ((r : ℕ) → count l r ≤ count h r) → length l ≡ length h → Order h l
within_whole h l u e r = go (dec_lt (count l r) (count h r))
  where
    go : Dec (count l r < count h r) → count l r ≡ count h r
    go (no n) = omega (arith, u r)
    go (yes k) = absurd (lt_irrefl (length h) (omega (arith, e, within_length (r ∷ l) h more)))
      where
        more : (s : ℕ) → count (r ∷ l) s ≤ count h s
        more s = case (eq_cases r s)
          where
            case : Compared r s → count (r ∷ l) s ≤ count h s
            case (inl c) = rw (c.0, ← c.1) k
            case (inr c) = rw c.0 (u s)

-- a place of l before a is taken by l's first a steps
taken_before : (h l : List ℕ) → Order h l → (a x : ℕ) → x < length h → at h l x < a → Taken h (take a l) x
taken_before h l o a x i k =
    let r = run h x in
    let t = place_of_spec l r (ordinal h x) (omega (arith, ordinal_lt h x i, o r)) in
    omega (arith, t.2, count_take_lt l r (at h l x) t.0 t.1, count_take_mono l r (suc (at h l x)) a k)

-- ---- the walk

module _ (h : List ℕ) where
  -- the first a steps of l are steps of the history, each after all that it depends on
  pub record AgreedUpTo (dep l taken : List ℕ) (a : ℕ) : Type 0 where
    pub places : TakenIn h (take a l) taken
    pub within : (r : ℕ) → count (take a l) r ≤ count h r
    pub after : (conflict : ℕ → ℕ → ℕ → ℕ → Bool) → Marks (Depends conflict h) dep → (k x : ℕ) → k < a → Depends conflict h x (at l h k) → Taken h (take k l) x

  pub agreed_none : (dep l : List ℕ) (words : ℕ) → AgreedUpTo dep l (replicate words 0) 0
  agreed_none dep l words = record {
    places = none_taken h words;
    within = λ r. zero-le;
    after = λ conflict m k x i. absurd (not-suc-le-zero i);
  }

  pub other_length : (dep l : List ℕ) → (length l ≡ length h → ⊥) → EquivalentBy h dep l false
  other_length dep l ne = record { answers = λ conflict m. answer_no (λ e. ne (order_length h l e.order)) }

  module _ (few : length h ≤ step_limit) (dep l taken : List ℕ) (a : ℕ) (same : length l ≡ length h) (u : AgreedUpTo dep l taken a) where
    pub agreed_all : length l ≤ a → EquivalentBy h dep l true
    agreed_all le = record { answers = λ conflict m. answer_yes (record { order = o; agrees = (agrees_keeps conflict h l o).0 (keeps conflict m) }) }
      where
        all : take a l ≡ l
        all = take_all a l (omega arith)

        o : Order h l
        o = within_whole h l (λ r. rw all at (u.within r)) same

        keeps : (conflict : ℕ → ℕ → ℕ → ℕ → Bool) → Marks (Depends conflict h) dep → Keeps conflict h l
        keeps conflict m p q k i c =
            let v = order_within h l o in
            let j = at_lt h l v q i in
            let b : at l h (at h l q) ≡ q = same_at l h (at h l q) q i (same_sym (at_same h l v q i)) in
            let d : Depends conflict h p q = direct (record { before = k; inside = i; linked = inr c }) in
            place_of_lt_take l (run h p) (ordinal h p) (at h l q) (u.after conflict m (at h l q) p (omega arith) (rw b d))

    module _ (i : a < length l) where
      pub no_next : (f : Option ℕ) → NextStep h taken (get_or l a 0) f → f ≡ None → EquivalentBy h dep l false
      no_next f found none = record { answers = λ conflict m. answer_no (λ e. go e.order) }
        where
          t : NoNext h taken (get_or l a 0)
          t = nothing_left h taken (get_or l a 0) f found none

          r : ℕ
          r = get_or l a 0

          go : Order h l → ⊥
          go o =
              let j : count (take a l) r < count h r = omega (arith, o r, count_take_lt l r a (omega arith) refl, count_take_le l r (suc a)) in
              let s = place_of_spec h r (count (take a l) r) j in
              let x : ℕ = place_of h r (count (take a l) r) in
              let y = u.places.sound x s.0 (t.all x s.0 s.1) in
              let z : ordinal h x < count (take a l) r = rw s.1 at y in
              lt_irrefl (count (take a l) r) (omega (arith, place_of_ordinal h r (count (take a l) r) j, z))

      module _ (f : Option ℕ) (found : NextStep h taken (get_or l a 0) f) (q : ℕ) (is : f ≡ Some q) where
        t : NextAt h taken (get_or l a 0) q
        t = next_at h taken (get_or l a 0) f found q is

        run_q : run h q ≡ get_or l a 0
        run_q = t.runs

        inside : q < length h
        inside = t.inside

        -- no place of the run before q is left
        next : Next h (take a l) q
        next = record { inside = inside; is = le_antisymm upper lower }
          where
            c : ℕ
            c = count (take a l) (run h q)

            lower : c ≤ ordinal h q
            lower = go (dec_lt (ordinal h q) c)
              where
                go : Dec (ordinal h q < c) → c ≤ ordinal h q
                go (no ne) = omega arith
                go (yes k) = absurd (zero_one (sym t.untaken ∙ u.places.complete q inside k))
                  where
                    zero_one : ◌≡◌ {A = ℕ} 0 1 → ⊥
                    zero_one e = omega arith

            upper : ordinal h q ≤ c
            upper = go (dec_lt c (ordinal h q))
              where
                go : Dec (c < ordinal h q) → ordinal h q ≤ c
                go (no ne) = omega arith
                go (yes k) =
                    let j : c < count h (run h q) = omega (arith, ordinal_lt h q inside) in
                    let s = place_of_spec h (run h q) c j in
                    let x : ℕ = place_of h (run h q) c in
                    let before : x < q = rw (place_of_back h q inside) at (place_of_mono h (run h q) c (ordinal h q) k (ordinal_lt h q inside)) in
                    let y = u.places.sound x s.0 (t.first x before (s.1 ∙ run_q)) in
                    let z : ordinal h x < c = rw s.1 at y in
                    absurd (lt_irrefl c (omega (arith, place_of_ordinal h (run h q) c j, z)))

        -- l's place a holds the step
        ordinal_a : ordinal l a ≡ ordinal h q
        unfolding ordinal
        ordinal_a = ap (count (take a l)) (sym run_q) ∙ sym next.is

        back : at l h a ≡ q
        back = ap (place_of h (get_or l a 0)) ordinal_a ∙ ap (λ (s : ℕ). place_of h s (ordinal h q)) (sym run_q) ∙ place_of_back h q inside

        pub agreed_more : (r : Bool) → Subset (bit_at dep q) (bit_at taken 0) r → not r ≡ false → (taken' : List ℕ) → Marked taken taken' 0 q → AgreedUpTo dep l taken' (a + 1)
        agreed_more r s yes_all taken' m = record {
          places = rw snoc (taken_added few u.places m (λ p j. taken_next h (take a l) q p next j));
          within = λ r. rw snoc (within_next h (take a l) q next u.within r);
          after = λ conflict marks k x j d. later conflict marks k x d (below_suc (rw (← add-one a) j));
        }
          where
            snoc : take (a + 1) l ≡ take a l ++ run h q ∷ []
            snoc = let j : a < length l = omega arith in rw (add-one a, run_q) (take-suc l a 0 j)

            small : (p : ℕ) → p < length h → p < row_bits
            small p j = omega (arith, few)

            later : (conflict : ℕ → ℕ → ℕ → ℕ → Bool) → Marks (Depends conflict h) dep → (k x : ℕ) → Depends conflict h x (at l h k) → (k ≡ a) ⊎ (k < a) → Taken h (take k l) x
            later conflict marks k x d (inr j) = u.after conflict marks k x j d
            later conflict marks k x d (inl e) =
                let f : Depends conflict h x (at l h a) = rw (← e) d in
                let g : Depends conflict h x q = rw back at f in
                let j : x < length h = omega (arith, dep_lt conflict g, dep_inside conflict g) in
                rw e (u.places.sound x j (s.sound (not-false r yes_all) x (small x j) (marks.complete x q (small x j) (small q inside) g)))

        pub not_after : (r : Bool) → Subset (bit_at dep q) (bit_at taken 0) r → not r ≡ true → EquivalentBy h dep l false
        not_after r s not_all = record { answers = λ conflict marks. answer_no (λ e. false_true (sym (not-true r not_all) ∙ s.complete (λ x j b. go conflict marks e x j b))) }
          where
            same_a : Same h q l a
            same_a = record { runs = sym run_q; ordinals = ordinal_a }

            go : (conflict : ℕ → ℕ → ℕ → ℕ → Bool) → Marks (Depends conflict h) dep → Equivalent conflict h l → (x : ℕ) → x < row_bits → bit_at dep q x ≡ 1 → bit_at taken 0 x ≡ 1
            go conflict marks e x j b =
                let d = marks.sound x q j (omega (arith, t.inside, few)) b in
                let f = dep_lt conflict (dep_at conflict h l (order_within h l e.order) ((agrees_keeps conflict h l e.order).1 e.agrees) d) in
                let g : at h l q ≡ a = same_at h l q a (omega arith) same_a in
                let k : x < length h = omega (arith, dep_lt conflict d, dep_inside conflict d) in
                u.places.complete x k (taken_before h l e.order a x k (omega arith))
