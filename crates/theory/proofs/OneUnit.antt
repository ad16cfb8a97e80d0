-- With one unit in each run, relatively serializable is conflict serializable (001, lemma 1): gather each run's steps at its first.
use Prim.Native.Nat.{ℕ, zero, suc, ◌+◌, ◌≤◌, ◌<◌}
use native.Mathlib.Nat.{not-suc-le-zero, lt_irrefl, le_of_suc-le-suc, le_of_eq}
use native.Mathlib.Omega.{arith}
use mathlib.Core.Path.{◌≡◌, refl, sym, ap, ◌∙◌}
use mathlib.Core.Logic.{inl, inr, ◌≢◌, ◌↔◌}
use mathlib.Core.Bool.{Bool}
use mathlib.Core.List.{List, [], ◌∷◌}
use lib.ListN.{length}
use borrow.Author.Tests.{eq-eqb, ne_eqb}
use Rattle.theory.specs.History.{count, run, ordinal, Serial, project, but}
use Rattle.theory.specs.Relative.{Lawful, Conflicting, direct, Agrees, ConflictSerializable, InUnit, RelativelySerial, RelativelySerializable}
use Rattle.theory.specs.Inner.Places.{place_of}
use Rattle.theory.proofs.Places.{Compared, eq_cases, place_of_spec, place_of_mono, place_of_back, ordinal_lt}
use Rattle.theory.proofs.Steps.{lt_if, at, Within, order_within, at_lt, at_same, same_at, conf_cast, conf_ne}
use Rattle.theory.proofs.Within.{Mono, restricted_mono, place_of_ne, order_restricted, project_restricted, project_within, count_kept, count_left_out}
use Rattle.theory.proofs.Classes.{conflict_relatively}

-- n times x, and then m
block : ℕ → ℕ → List ℕ → List ℕ
block zero x m = m
block (suc n) x m = x ∷ block n x m

module _ (x : ℕ) where
  count_block_same : (n : ℕ) (m : List ℕ) → count (block n x m) x ≡ n + count m x
  unfolding block
  count_block_same zero m = omega arith
  count_block_same (suc n) m = rw (eq-eqb x x refl) (omega (arith, count_block_same n m))

  count_block_other : (r : ℕ) → x ≢ r → (n : ℕ) (m : List ℕ) → count (block n x m) r ≡ count m r
  unfolding block
  count_block_other r ne zero m = refl
  count_block_other r ne (suc n) m = rw (ne_eqb x r ne) (count_block_other r ne n m)

  place_block_same : (n i : ℕ) (m : List ℕ) → i < n → place_of (block n x m) x i ≡ i
  unfolding block
  place_block_same zero i m k = absurd (not-suc-le-zero k)
  place_block_same (suc n) zero m k = rw (eq-eqb x x refl)
  place_block_same (suc n) (suc i) m k = rw (eq-eqb x x refl) (ap suc (place_block_same n i m (le_of_suc-le-suc k)))

  place_block_other : (r : ℕ) → x ≢ r → (n i : ℕ) (m : List ℕ) → place_of (block n x m) r i ≡ n + place_of m r i
  unfolding block
  place_block_other r ne zero i m = omega arith
  place_block_other r ne (suc n) i m = rw (ne_eqb x r ne) (omega (arith, place_block_other r ne n i m))

  -- whatever stands before an x in m is x
  Front : List ℕ → Type 0
  Front m = (c : ℕ) → c < length m → run m c ≡ x → (b : ℕ) → b < c → run m b ≡ x

  front_none : (m : List ℕ) → count m x ≡ 0 → Front m
  unfolding Front
  front_none m z c i e b k = let o : ordinal m c < count m x = rw e at (ordinal_lt m c i) in absurd (lt_irrefl 0 (omega arith))

  block_serial : (n : ℕ) (m : List ℕ) → Serial m → Front m → Serial (block n x m) × Front (block n x m)
  unfolding block Front
  block_serial zero m s f = (s, f)
  block_serial (suc n) m s f = let t = block_serial n m s f in (ser t.0 t.1, fro t.1)
    where
      ser : Serial (block n x m) → Front (block n x m) → Serial (x ∷ block n x m)
      ser s f a zero c k j i e = absurd (not-suc-le-zero k)
      ser s f a (suc b) zero k j i e = absurd (not-suc-le-zero j)
      ser s f zero (suc b) (suc c) k j i e = f c (le_of_suc-le-suc i) (sym e) b (le_of_suc-le-suc j)
      ser s f (suc a) (suc b) (suc c) k j i e = s a b c (le_of_suc-le-suc k) (le_of_suc-le-suc j) (le_of_suc-le-suc i) e

      fro : Front (block n x m) → Front (x ∷ block n x m)
      fro f c i e zero k = refl
      fro f zero i e (suc b) k = absurd (not-suc-le-zero k)
      fro f (suc c) i e (suc b) k = f c (le_of_suc-le-suc i) e b (le_of_suc-le-suc k)

pub record Gathered (l : List ℕ) : Type 0 where
  pub rest : List ℕ
  pub counts : (r : ℕ) → count rest r ≡ count l r
  pub serial : Serial rest
  pub firsts : (r i s j : ℕ) → i < count l r → j < count l s → r ≢ s → place_of l r 0 < place_of l s 0 → place_of rest r i < place_of rest s j

serial_within : (m l : List ℕ) → Within m l → Mono m l → Serial l → Serial m
serial_within m l v mono ser x y z k j i e =
    let ix : x < length m = omega arith in
    let iy : y < length m = omega arith in
    let sx = at_same m l v x ix in
    let sz = at_same m l v z i in
    sym (at_same m l v y iy).runs ∙ ser (at m l x) (at m l y) (at m l z) (mono x y k iy) (mono y z j i) (at_lt m l v z i) (sx.runs ∙ e ∙ sym sz.runs) ∙ sx.runs

pub gather : (l : List ℕ) → Gathered l
gather [] = record { rest = []; counts = λ r. refl; serial = λ a b c k j i e. absurd (not-suc-le-zero i); firsts = λ r i s j p q ne h. h }
gather (x ∷ l) = go (gather l)
  where
    go : Gathered l → Gathered (x ∷ l)
    go g = record { rest = block n x m; counts = counts; serial = ser.0; firsts = firsts }
      where
        n : ℕ
        n = suc (count l x)

        m : List ℕ
        m = project (but x) g.rest

        none : count m x ≡ 0
        none = count_left_out (but x) x (rw (eq-eqb x x refl)) g.rest

        others : (r : ℕ) → x ≢ r → count m r ≡ count l r
        others r ne = count_kept (but x) r (rw (ne_eqb x r ne)) g.rest ∙ g.counts r

        ser : Serial (block n x m) × Front x (block n x m)
        ser = block_serial x n m (serial_within m g.rest (project_within (but x) g.rest) (restricted_mono (project_restricted (but x) g.rest)) g.serial) (front_none x m none)

        counts : (r : ℕ) → count (block n x m) r ≡ count (x ∷ l) r
        counts r = case (eq_cases x r)
          where
            case : Compared x r → count (block n x m) r ≡ count (x ∷ l) r
            case (inl e) = rw (e.0, ← e.1) (omega (arith, none, count_block_same x n m))
            case (inr e) = rw e.0 (count_block_other x r e.1 n m ∙ others r e.1)

        firsts : (r i s j : ℕ) → i < count (x ∷ l) r → j < count (x ∷ l) s → r ≢ s → place_of (x ∷ l) r 0 < place_of (x ∷ l) s 0 → place_of (block n x m) r i < place_of (block n x m) s j
        firsts r i s j p q ne h = case (eq_cases x r) (eq_cases x s)
          where
            case : Compared x r → Compared x s → place_of (block n x m) r i < place_of (block n x m) s j
            case (inl e) f =
                let k : i < n = rw (e.0, ← e.1) at p in
                let o : x ≢ s = λ y. ne (sym e.1 ∙ y) in
                rw (← e.1, place_block_same x n i m k, place_block_other x s o n j m) (omega arith)
            case (inr e) (inl f) = absurd (not-suc-le-zero (rw f.0 at h))
            case (inr e) (inr f) =
                let k : suc (place_of l r 0) < suc (place_of l s 0) = rw (e.0, f.0) at h in
                let pi : i < count l r = rw e.0 at p in
                let qj : j < count l s = rw f.0 at q in
                let a = g.firsts r i s j pi qj ne (le_of_suc-le-suc k) in
                let pc : i < count m r = rw (others r e.1) pi in
                let qc : j < count m s = rw (others s f.1) qj in
                let t = order_restricted (project_restricted (but x) g.rest) r i s j pc qc ne a in
                rw (place_block_other x r e.1 n i m, place_block_other x s f.1 n j m) (omega arith)

module _ (conflict : ℕ → ℕ → ℕ → ℕ → Bool) (law : Lawful conflict) (unit : ℕ → ℕ → ℕ → ℕ) (whole : (r o i j : ℕ) → unit r o i ≡ unit r o j) where
  -- a conflicting pair has its runs' first steps in the same order: else the first of the pair would be interleaved with the other run
  firsts_agree : (l : List ℕ) → RelativelySerial conflict unit l → (a b : ℕ) → a < b → b < length l → Conflicting conflict l a b → place_of l (run l a) 0 < place_of l (run l b) 0
  firsts_agree l serial a b k j c = lt_if later (place_of_ne l (run l a) 0 (run l b) 0 (omega (arith, ordinal_lt l a i)) zs ne)
    where
      i : a < length l
      i = omega arith

      zs : 0 < count l (run l b)
      zs = omega (arith, ordinal_lt l b j)

      ne : run l a ≢ run l b
      ne = conf_ne conflict law l a b c

      -- the first step of a run stands at or before any other
      low : (q : ℕ) → q < length l → place_of l (run l q) 0 ≤ q
      low q v = case (ordinal l q) refl
        where
          case : (o : ℕ) → ordinal l q ≡ o → place_of l (run l q) 0 ≤ q
          case zero e = le_of_eq (ap (place_of l (run l q)) (sym e) ∙ place_of_back l q v)
          case (suc o) e = let m = place_of_mono l (run l q) 0 (ordinal l q) (omega arith) (ordinal_lt l q v) in omega (arith, place_of_back l q v)

      later : ¬ (place_of l (run l b) 0 < place_of l (run l a) 0)
      later m =
          let t = place_of_spec l (run l b) 0 zs in
          let u : InUnit unit l (run l a) (place_of l (run l b) 0) b = record { runs = sym t.1; units = whole _ _ _ _ } in
          (serial (place_of l (run l b) 0) a b b (record { after = omega (arith, low a i); before = k; inside = j; other = λ e. ne (sym (sym t.1 ∙ e)); unit_of = u }) j u).1
          (direct (record { before = k; inside = j; linked = inr c }))

  pub whole_conflict : (h : List ℕ) → RelativelySerializable conflict unit h → ConflictSerializable conflict h
  whole_conflict h s = from (gather l)
    where
      l : List ℕ
      l = s.order

      w : Within h l
      w = order_within h l s.evidence.equivalent.order

      from : Gathered l → ConflictSerializable conflict h
      from g = record { order = g.rest; evidence = record { equivalent = record { order = λ r. g.counts r ∙ s.evidence.equivalent.order r; agrees = agrees }; serial = g.serial } }
        where
          agrees : Agrees conflict h g.rest
          agrees p q a b k m i j x y c =
              let o : p < length h = omega arith in
              let sp = at_same h l w p o in
              let sq = at_same h l w q m in
              let less = s.evidence.equivalent.agrees p q (at h l p) (at h l q) k m (at_lt h l w p o) (at_lt h l w q m) sp sq c in
              let f = firsts_agree l s.evidence.serial (at h l p) (at h l q) less (at_lt h l w q m) (conf_cast conflict sp sq c) in
              let f' : place_of l (run h p) 0 < place_of l (run h q) 0 = rw (sp.runs, sq.runs) at f in
              let t = g.firsts (run h p) (ordinal h p) (run h q) (ordinal h q) (omega (arith, ordinal_lt h p o, w (run h p))) (omega (arith, ordinal_lt h q m, w (run h q))) (conf_ne conflict law h p q c) f' in
              omega (arith, t, same_at h g.rest p a i x, same_at h g.rest q b j y)

  -- 001, lemma 1, as an iff: without cuts, relatively serializable exactly when conflict serializable
  pub lemma_1 : (h : List ℕ) → RelativelySerializable conflict unit h ↔ ConflictSerializable conflict h
  lemma_1 h = (whole_conflict h, conflict_relatively conflict unit h)
