-- A history within a relatively serializable one, its steps in the same order, is relatively serializable: restrict the longer one's
-- order down to the shorter one's steps. So prefixes and projections are, and what is tangled stays tangled.
use Prim.Native.Nat.{zero-le, suc-le-suc, ℕ, zero, suc, ◌≤◌, ◌<◌}
use native.Mathlib.Nat.{not-suc-le-zero, le_of_suc-le-suc, le_of_eq, lt_irrefl}
use native.Mathlib.Omega.{arith}
use native.Mathlib.Decide.{dec_lt}
use mathlib.Core.Path.{◌≡◌, refl, sym, ap, ◌∙◌}
use mathlib.Core.Logic.{◌⊎◌, inl, inr, ◌≢◌}
use mathlib.Core.Bool.{Bool, true, false}
use mathlib.Core.List.{List, [], ◌∷◌, ◌++◌}
use lib.ListN.{length, length-append, get_or-append}
use lib.Seq.{take-append-le, take-append_seam, get_or-append_seam}
use lib.Dec.{eqb}
use borrow.Author.Tests.{ne_eqb}
use Rattle.theory.specs.History.{suc_if, count, run, ordinal, Same, only, project}
use Rattle.theory.specs.Relative.{Conflicting, DirectlyDepends, Depends, direct, through, Agrees, RelativelySerial, RelativelySerializable}
use Rattle.theory.specs.Inner.Places.{place_if, place_of}
use Rattle.theory.proofs.Lists.{suc_if_le, count_append, length_snoc}
use Rattle.theory.proofs.Places.{Compared, eq_cases, pull, place_of_spec, place_of_back, ordinal_lt}
use Rattle.theory.proofs.Finite.{below_suc}
use Rattle.theory.proofs.Steps.{lt_if, at, Within, at_lt, at_same, same_at, same_sym, same_trans, conf_cast, dep_at, unit_cast}

place_if_mono : (b c : Bool) (i j m n : ℕ) (f f' g g' : ℕ → ℕ) → i < suc_if b m → j < suc_if c n → ((i j : ℕ) → i < m → j < n → f i < g j → f' i < g' j)
    → place_if b i f < place_if c j g → place_if b i f' < place_if c j g'
place_if_mono true true zero zero m n f f' g g' p q k h = h
place_if_mono true true zero (suc j) m n f f' g g' p q k h = suc-le-suc zero-le
place_if_mono true true (suc i) zero m n f f' g g' p q k h = absurd (not-suc-le-zero h)
place_if_mono true true (suc i) (suc j) m n f f' g g' p q k h = suc-le-suc (k i j (le_of_suc-le-suc p) (le_of_suc-le-suc q) (le_of_suc-le-suc h))
place_if_mono true false zero j m n f f' g g' p q k h = suc-le-suc zero-le
place_if_mono true false (suc i) j m n f f' g g' p q k h = suc-le-suc (k i j (le_of_suc-le-suc p) q (le_of_suc-le-suc h))
place_if_mono false true i zero m n f f' g g' p q k h = absurd (not-suc-le-zero h)
place_if_mono false true i (suc j) m n f f' g g' p q k h = suc-le-suc (k i j p (le_of_suc-le-suc q) (le_of_suc-le-suc h))
place_if_mono false false i j m n f f' g g' p q k h = suc-le-suc (k i j p q (le_of_suc-le-suc h))

-- a place keeps its step where the list goes on
pub front : (h m : List ℕ) (p : ℕ) → p < length h → Same h p (h ++ m) p
unfolding ordinal
front h m p i = let k : p ≤ length h = omega arith in record { runs = get_or-append h m 0 p i; ordinals = rw (get_or-append h m 0 p i, take-append-le p h m k) }

-- a step depends on the same earlier ones where the list goes on
module _ (conflict : ℕ → ℕ → ℕ → ℕ → Bool) (h m : List ℕ) where
  pub front_direct : {p q : ℕ} → DirectlyDepends conflict h p q → DirectlyDepends conflict (h ++ m) p q
  front_direct {p} {q} d = record { before = d.before; inside = omega (arith, d.inside, length-append h m); linked = go d.linked }
    where
      sp : Same h p (h ++ m) p
      sp = front h m p (omega (arith, d.before, d.inside))

      sq : Same h q (h ++ m) q
      sq = front h m q d.inside

      go : (run h p ≡ run h q) ⊎ Conflicting conflict h p q → (run (h ++ m) p ≡ run (h ++ m) q) ⊎ Conflicting conflict (h ++ m) p q
      go (inl e) = inl (sp.runs ∙ e ∙ sym sq.runs)
      go (inr c) = inr (conf_cast conflict sp sq c)

  pub direct_front : {p q : ℕ} → q < length h → DirectlyDepends conflict (h ++ m) p q → DirectlyDepends conflict h p q
  direct_front {p} {q} i d = record { before = d.before; inside = i; linked = go d.linked }
    where
      sp : Same h p (h ++ m) p
      sp = front h m p (omega (arith, d.before))

      sq : Same h q (h ++ m) q
      sq = front h m q i

      go : (run (h ++ m) p ≡ run (h ++ m) q) ⊎ Conflicting conflict (h ++ m) p q → (run h p ≡ run h q) ⊎ Conflicting conflict h p q
      go (inl e) = inl (sym sp.runs ∙ e ∙ sq.runs)
      go (inr c) = inr (conf_cast conflict (same_sym sp) (same_sym sq) c)

  pub front_depends : {p q : ℕ} → Depends conflict h p q → Depends conflict (h ++ m) p q
  front_depends (direct d) = direct (front_direct d)
  front_depends (through e d) = through (front_depends e) (front_direct d)

  pub depends_front : {p q : ℕ} → q < length h → Depends conflict (h ++ m) p q → Depends conflict h p q
  depends_front i (direct d) = direct (direct_front i d)
  depends_front i (through e d) = through (depends_front (omega (arith, d.before)) e) (direct_front i d)

-- m: l's steps that are steps of b, in l's order
pub record Restricted (b l m : List ℕ) : Type 0 where
  pub counts : (r : ℕ) → count m r ≡ count b r
  pub mono : (r i s j : ℕ) → i < count b r → j < count b s → place_of m r i < place_of m s j → place_of l r i < place_of l s j

pub restrict : (l b : List ℕ) → Within b l → (m : List ℕ) × Restricted b l m
restrict [] b w = ([], record { counts = λ r. omega (arith, w r); mono = λ r i s j p q h. h })
restrict (x ∷ l) b w = go (dec_lt 0 (count b x)) (λ c v. restrict l c v)
  where
    go : Dec (0 < count b x) → ((c : List ℕ) → Within c l → (m : List ℕ) × Restricted c l m) → (m : List ℕ) × Restricted b (x ∷ l) m
    go (yes k) rec =
        let t = pull x b k in
        let (m, c) = rec t.rest (λ r. suc_if_le (eqb x r) (rw (t.counts r) at (w r))) in (
          x ∷ m,
          record {
            counts = λ r. ap (suc_if (eqb x r)) (c.counts r) ∙ sym (t.counts r);
            mono = λ r i s j p q h. place_if_mono (eqb x r) (eqb x s) i j (count t.rest r) (count t.rest s) (place_of m r) (place_of l r) (place_of m s) (place_of l s)
                (rw (t.counts r) at p) (rw (t.counts s) at q) (λ i j. c.mono r i s j) h;
          },
        )
    go (no n) rec =
        let (m, c) = rec b (λ r. low r (eq_cases x r)) in
        (m, record { counts = c.counts; mono = λ r i s j p q h. rw (other r i p, other s j q) (suc-le-suc (c.mono r i s j p q h)) })
      where
        low : (r : ℕ) → Compared x r → count b r ≤ count l r
        low r (inl e) = let f : count b x ≡ count b r = ap (count b) e.1 in omega arith
        low r (inr e) = let f : count b r ≤ count (x ∷ l) r = w r in rw e.0 at f

        other : (r i : ℕ) → i < count b r → eqb x r ≡ false
        other r i p = ne_eqb x r (λ e. let f : count b x ≡ count b r = ap (count b) e in n (omega arith))

-- h's steps have h's order in l
abbrev pub Mono : List ℕ → List ℕ → Type 0
Mono h l = (p q : ℕ) → p < q → q < length h → at h l p < at h l q

pub restricted_mono : {b l m : List ℕ} → Restricted b l m → Mono m l
restricted_mono {b} {l} {m} c p q k j =
    let i : p < length m = omega arith in
    c.mono (run m p) (ordinal m p) (run m q) (ordinal m q) (omega (arith, ordinal_lt m p i, c.counts (run m p))) (omega (arith, ordinal_lt m q j, c.counts (run m q)))
    (rw (place_of_back m p i, place_of_back m q j) k)

-- different runs have different places
pub place_of_ne : (l : List ℕ) (r i s j : ℕ) → i < count l r → j < count l s → r ≢ s → place_of l r i ≢ place_of l s j
place_of_ne l r i s j p q ne e = ne (sym (place_of_spec l r i p).1 ∙ ap (λ (k : ℕ). run l k) e ∙ (place_of_spec l s j q).1)

-- a restriction keeps the order both ways
pub order_restricted : {b l m : List ℕ} → Restricted b l m → (r i s j : ℕ) → i < count m r → j < count m s → r ≢ s → place_of l r i < place_of l s j → place_of m r i < place_of m s j
order_restricted {b} {l} {m} c r i s j p q ne h =
    lt_if (λ k. let f = c.mono s j r i (rw (c.counts s) at q) (rw (c.counts r) at p) k in lt_irrefl 0 (omega arith)) (place_of_ne m r i s j p q ne)

module _ (conflict : ℕ → ℕ → ℕ → ℕ → Bool) (unit : ℕ → ℕ → ℕ → ℕ) where
  relserial_within : (l l' : List ℕ) → Within l l' → Mono l l' → RelativelySerial conflict unit l' → RelativelySerial conflict unit l
  relserial_within l l' w mono serial a b c d bt v u =
      let i : a < length l = omega (arith, bt.after, bt.before, bt.inside) in
      let j : b < length l = omega (arith, bt.before, bt.inside) in
      let r : run l b ≡ run l' (at l l' b) = sym (at_same l l' w b j).runs in
      let t = serial (at l l' a) (at l l' b) (at l l' c) (at l l' d) (record {
        after = mono a b bt.after j;
        before = mono b c bt.before bt.inside;
        inside = at_lt l l' w c bt.inside;
        other = λ e. bt.other (sym (at_same l l' w a i).runs ∙ e ∙ sym r);
        unit_of = unit_cast unit r (at_same l l' w a i) (at_same l l' w c bt.inside) bt.unit_of;
      }) (at_lt l l' w d v) (unit_cast unit r (at_same l l' w a i) (at_same l l' w d v) u) in
      (λ e. t.0 (dep_at conflict l l' w (λ p q k m c. mono p q k m) e), λ e. t.1 (dep_at conflict l l' w (λ p q k m c. mono p q k m) e))

  agree_within : (h h' l l' : List ℕ) → Within h h' → Mono h h' → Within l l' → Mono l l' → Agrees conflict h' l' → Agrees conflict h l
  agree_within h h' l l' w mono lw lmono agrees p q a b k m i j x y cf = lt_if (λ e. omega (arith, less, lmono b a e i)) (λ e. let f : at l l' a ≡ at l l' b = ap (λ (z : ℕ). at l l' z) e in omega (arith, less))
    where
      o : p < length h
      o = omega arith

      sp : Same h p h' (at h h' p)
      sp = at_same h h' w p o

      sq : Same h q h' (at h h' q)
      sq = at_same h h' w q m

      less : at l l' a < at l l' b
      less = agrees (at h h' p) (at h h' q) (at l l' a) (at l l' b) (mono p q k m) (at_lt h h' w q m) (at_lt l l' lw a i) (at_lt l l' lw b j)
          (same_trans (same_sym sp) (same_trans x (at_same l l' lw a i))) (same_trans (same_sym sq) (same_trans y (at_same l l' lw b j))) (conf_cast conflict sp sq cf)

  pub within_serializable : (h h' : List ℕ) → Within h h' → Mono h h' → RelativelySerializable conflict unit h' → RelativelySerializable conflict unit h
  within_serializable h h' w mono s = let t = restrict s.order h hl' in from t.0 t.1
    where
      hl' : Within h s.order
      hl' r = omega (arith, w r, s.evidence.equivalent.order r)

      from : (l : List ℕ) → Restricted h s.order l → RelativelySerializable conflict unit h
      from l c = record {
        order = l;
        evidence = record {
          equivalent = record { order = c.counts; agrees = agree_within h h' l s.order w mono lw (restricted_mono c) s.evidence.equivalent.agrees };
          serial = relserial_within l s.order lw (restricted_mono c) s.evidence.serial;
        };
      }
        where
          lw : Within l s.order
          lw r = omega (arith, hl' r, c.counts r)

  -- the start of a relatively serializable history is one
  pub prefix_serializable : (h m : List ℕ) → RelativelySerializable conflict unit (h ++ m) → RelativelySerializable conflict unit h
  prefix_serializable h m s = within_serializable h (h ++ m) (λ r. omega (arith, count_append h m r)) (λ p q k j. omega (arith, stays p (omega arith), stays q j)) s
    where
      stays : (p : ℕ) → p < length h → at h (h ++ m) p ≡ p
      stays p i = same_at h (h ++ m) p p (omega (arith, length-append h m)) (front h m p i)

  -- the steps of ys in between change nothing for h and r
  module _ (h ys : List ℕ) (r : ℕ) (free : count ys r ≡ 0) where
    last_within : Within (h ++ r ∷ []) (h ++ ys ++ r ∷ [])
    last_within s = omega (arith, count_append h (r ∷ []) s, count_append (h ++ ys) (r ∷ []) s, count_append h ys s)

    stays : (p : ℕ) → p < length h → at (h ++ r ∷ []) (h ++ ys ++ r ∷ []) p ≡ p
    stays p i =
        let j : p < length (h ++ ys) = omega (arith, length-append h ys) in
        same_at (h ++ r ∷ []) (h ++ ys ++ r ∷ []) p p (omega (arith, length-append (h ++ ys) (r ∷ [])))
        (same_trans (same_sym (front h (r ∷ []) p i)) (same_trans (front h ys p i) (front (h ++ ys) (r ∷ []) p j)))

    moves : at (h ++ r ∷ []) (h ++ ys ++ r ∷ []) (length h) ≡ length (h ++ ys)
    unfolding ordinal
    moves = same_at (h ++ r ∷ []) (h ++ ys ++ r ∷ []) (length h) (length (h ++ ys)) (omega (arith, length-append (h ++ ys) (r ∷ []))) (record {
      runs = rw (get_or-append_seam h r [] 0, get_or-append_seam (h ++ ys) r [] 0);
      ordinals = rw (get_or-append_seam h r [] 0, get_or-append_seam (h ++ ys) r [] 0, take-append_seam h (r ∷ []), take-append_seam (h ++ ys) (r ∷ [])) (omega (arith, count_append h ys r));
    })

    last_mono : Mono (h ++ r ∷ []) (h ++ ys ++ r ∷ [])
    last_mono p q k m = go (below_suc (rw (length_snoc h r) at m))
      where
        go : (q ≡ length h) ⊎ (q < length h) → at (h ++ r ∷ []) (h ++ ys ++ r ∷ []) p < at (h ++ r ∷ []) (h ++ ys ++ r ∷ []) q
        go (inl e) = rw e (omega (arith, stays p (omega arith), moves, length-append h ys))
        go (inr j) = omega (arith, stays p (omega arith), stays q j)

    -- a history stays not relatively serializable when steps of other runs come before its last step
    pub tangled_stays : ¬ RelativelySerializable conflict unit (h ++ r ∷ []) → ¬ RelativelySerializable conflict unit (h ++ ys ++ r ∷ [])
    tangled_stays n s = n (within_serializable (h ++ r ∷ []) (h ++ ys ++ r ∷ []) last_within last_mono s)

-- ---- projection to some of the runs (003, Π_T)

module _ (keep : ℕ → Bool) where
  pub count_kept : (r : ℕ) → keep r ≡ true → (l : List ℕ) → count (project keep l) r ≡ count l r
  unfolding project
  count_kept r k [] = refl
  count_kept r k (x ∷ l) = go (eq_cases x r) (count_kept r k l)
    where
      go : Compared x r → count (project keep l) r ≡ count l r → count (only (keep x) x (project keep l)) r ≡ count (x ∷ l) r
      go (inl c) e = rw (ap keep c.1 ∙ k) (ap (suc_if (eqb x r)) e)
      go (inr c) e = other (keep x)
        where
          other : (b : Bool) → count (only b x (project keep l)) r ≡ count (x ∷ l) r
          other true = ap (suc_if (eqb x r)) e
          other false = rw c.0 e

  tells : ¬ (true ≡ false)
  tells e = let z : ◌≡◌ {A = ℕ} 0 1 = cc in omega arith

  pub count_left_out : (r : ℕ) → keep r ≡ false → (l : List ℕ) → count (project keep l) r ≡ 0
  unfolding project
  count_left_out r k [] = refl
  count_left_out r k (x ∷ l) = go (keep x) refl (count_left_out r k l)
    where
      go : (b : Bool) → keep x ≡ b → count (project keep l) r ≡ 0 → count (only b x (project keep l)) r ≡ 0
      go true e z = rw (ne_eqb x r (λ q. let z : true ≡ false = sym e ∙ ap keep q ∙ k in tells z)) z
      go false e z = z

  pub project_within : (l : List ℕ) → Within (project keep l) l
  project_within l r = go (keep r) refl
    where
      go : (b : Bool) → keep r ≡ b → count (project keep l) r ≤ count l r
      go true e = le_of_eq (count_kept r e l)
      go false e = rw (count_left_out r e l) zero-le

  -- a projection keeps the order of what it keeps
  pub project_restricted : (l : List ℕ) → Restricted (project keep l) l (project keep l)
  unfolding project
  project_restricted l = record { counts = λ r. refl; mono = mono l }
    where
      Ordered : List ℕ → List ℕ → Type 0
      Ordered m l = (r i s j : ℕ) → i < count m r → j < count m s → place_of m r i < place_of m s j → place_of l r i < place_of l s j

      mono : (l : List ℕ) → Ordered (project keep l) l
      mono [] = λ r i s j p q h. h
      mono (x ∷ l) = go (keep x) refl (mono l)
        where
          go : (b : Bool) → keep x ≡ b → Ordered (project keep l) l → Ordered (only b x (project keep l)) (x ∷ l)
          go true e ih r i s j p q h = place_if_mono (eqb x r) (eqb x s) i j (count (project keep l) r) (count (project keep l) s) (place_of (project keep l) r) (place_of l r)
              (place_of (project keep l) s) (place_of l s) p q (λ i j. ih r i s j) h
          go false e ih r i s j p q h = rw (other r i p, other s j q) (suc-le-suc (ih r i s j p q h))
            where
              other : (r i : ℕ) → i < count (project keep l) r → eqb x r ≡ false
              other r i p = ne_eqb x r (λ f. not-suc-le-zero (rw (count_left_out r (ap keep (sym f) ∙ e) l) at p))

  pub project_append : (l m : List ℕ) → project keep (l ++ m) ≡ project keep l ++ project keep m
  unfolding project
  project_append [] m = refl
  project_append (x ∷ l) m = go (keep x) (project_append l m)
    where
      go : (b : Bool) → project keep (l ++ m) ≡ project keep l ++ project keep m → only b x (project keep (l ++ m)) ≡ only b x (project keep l) ++ project keep m
      go true e = ap (λ (k : List ℕ). x ∷ k) e
      go false e = e

-- tests that agree on a list's runs keep the same steps
pub project_agree : (keep keep' : ℕ → Bool) (l : List ℕ) → ((p : ℕ) → p < length l → keep (run l p) ≡ keep' (run l p)) → project keep l ≡ project keep' l
unfolding project
project_agree keep keep' [] e = refl
project_agree keep keep' (x ∷ l) e = rw (e 0 (suc-le-suc zero-le), project_agree keep keep' l (λ p i. e (suc p) (suc-le-suc i)))

-- tests with the same answers keep the same steps
pub project_same : (keep keep' : ℕ → Bool) → ((x : ℕ) → keep x ≡ keep' x) → (l : List ℕ) → project keep l ≡ project keep' l
project_same keep keep' e l = project_agree keep keep' l (λ p i. e (run l p))

-- leaving runs out of a relatively serializable history leaves a relatively serializable one
pub project_serializable : (conflict : ℕ → ℕ → ℕ → ℕ → Bool) (unit : ℕ → ℕ → ℕ → ℕ) (keep : ℕ → Bool) (h : List ℕ) → RelativelySerializable conflict unit h → RelativelySerializable conflict unit (project keep h)
project_serializable conflict unit keep h s =
    within_serializable conflict unit (project keep h) h (project_within keep h) (restricted_mono (project_restricted keep h)) s
