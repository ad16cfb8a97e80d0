-- Two parts of a history with no conflict between them: a relatively serial order of each, one behind the other, is one of the whole.
use Prim.Native.Nat.{ℕ, zero, suc, ◌+◌, ◌-◌, ◌≤◌, ◌<◌, zero-le}
use native.Mathlib.Nat.{not-suc-le-zero, le_of_suc-le-suc, lt_irrefl, zero-add, sub-zero, add-sub_of_le}
use native.Mathlib.Omega.{arith}
use native.Mathlib.Decide.{dec_lt}
use mathlib.Core.Path.{◌≡◌, refl, sym, ap, ◌∙◌}
use mathlib.Core.Logic.{◌⊎◌, inl, inr}
use mathlib.Core.Bool.{Bool, true, false, not}
use mathlib.Core.List.{List, [], ◌∷◌, ◌++◌}
use lib.ListN.{length, take, length-append}
use lib.Seq.{get_or-append-add, take-append-add}
use Rattle.theory.specs.History.{count, run, ordinal, Same, Order, project}
use Rattle.theory.specs.Relative.{Lawful, Conflicting, DirectlyDepends, Depends, direct, through, InUnit, Interleaved, RelativelySerial, RelativelySerialOrder, RelativelySerializable}
use Rattle.theory.specs.Inner.Places.{place_of}
use Rattle.theory.proofs.Lists.{count_append}
use Rattle.theory.proofs.Places.{Compared, eq_cases, place_of_spec, place_of_back, ordinal_lt}
use Rattle.theory.proofs.Steps.{at, Keeps, same_sym, conf_cast, conf_ne, dep_lt, unit_cast}
use Rattle.theory.proofs.Within.{front, count_kept, count_left_out, order_restricted, project_restricted}
use Rattle.theory.proofs.Decisions.{agrees_keeps}

-- a place keeps its step where steps of other runs stand before
pub back : (m l : List ℕ) (p : ℕ) → count m (run l p) ≡ 0 → Same l p (m ++ l) (length m + p)
unfolding ordinal
back m l p z = record {
  runs = get_or-append-add m l p 0;
  ordinals = rw (get_or-append-add m l p 0, take-append-add m l p) (omega (arith, count_append m (take p l) (run l p)));
}

-- where a step of either part stands in the whole
pub place_front : (m l : List ℕ) (r i : ℕ) → i < count m r → place_of (m ++ l) r i ≡ place_of m r i
place_front [] l r i k = absurd (not-suc-le-zero k)
place_front (x ∷ m) l r i k = go (eq_cases x r) i k (λ j. place_front m l r j)
  where
    go : Compared x r → (i : ℕ) → i < count (x ∷ m) r → ((j : ℕ) → j < count m r → place_of (m ++ l) r j ≡ place_of m r j) → place_of (x ∷ m ++ l) r i ≡ place_of (x ∷ m) r i
    go (inl c) zero k rec = rw c.0
    go (inl c) (suc i) k rec = let j : suc i < suc (count m r) = rw c.0 at k in rw c.0 (ap suc (rec i (le_of_suc-le-suc j)))
    go (inr c) i k rec = let j : i < count m r = rw c.0 at k in rw c.0 (ap suc (rec i j))

pub place_back : (m l : List ℕ) (r i : ℕ) → count m r ≡ 0 → place_of (m ++ l) r i ≡ length m + place_of l r i
place_back [] l r i z = sym (zero-add _)
place_back (x ∷ m) l r i z = go (eq_cases x r) (λ e. place_back m l r i e)
  where
    go : Compared x r → (count m r ≡ 0 → place_of (m ++ l) r i ≡ length m + place_of l r i) → place_of (x ∷ m ++ l) r i ≡ suc (length m) + place_of l r i
    go (inl c) rec = let e : suc (count m r) ≡ 0 = rw c.0 at z in absurd (lt_irrefl 0 (omega arith))
    go (inr c) rec = rw c.0 (omega (arith, rec (rw c.0 at z)))

module _ (conflict : ℕ → ℕ → ℕ → ℕ → Bool) (unit : ℕ → ℕ → ℕ → ℕ) where
  -- the places of l from n on hold m's steps: what l's order says of them, m's says
  module _ (m l : List ℕ) (n : ℕ) (same : (x : ℕ) → n ≤ x → x < n + length m → Same l x m (x - n)) where
    part_direct : {x y : ℕ} → DirectlyDepends conflict l x y → n ≤ x → y < n + length m → DirectlyDepends conflict m (x - n) (y - n)
    part_direct {x} {y} d i j = record { before = omega (arith, d.before); inside = omega (arith, d.before); linked = go d.linked }
      where
        sx : Same l x m (x - n)
        sx = same x i (omega (arith, d.before))

        sy : Same l y m (y - n)
        sy = same y (omega (arith, d.before)) j

        go : (run l x ≡ run l y) ⊎ Conflicting conflict l x y → (run m (x - n) ≡ run m (y - n)) ⊎ Conflicting conflict m (x - n) (y - n)
        go (inl e) = inl (sx.runs ∙ e ∙ sym sy.runs)
        go (inr c) = inr (conf_cast conflict sx sy c)

    part_dep : {x y : ℕ} → Depends conflict l x y → n ≤ x → y < n + length m → Depends conflict m (x - n) (y - n)
    part_dep (direct d) i j = direct (part_direct d i j)
    part_dep (through e d) i j = through (part_dep e i (omega (arith, d.before))) (part_direct d (omega (arith, dep_lt conflict e)) j)

    part_serial : RelativelySerial conflict unit m → (a b c d : ℕ) → Interleaved unit l a b c → InUnit unit l (run l b) a d
        → n ≤ a → c < n + length m → n ≤ d → d < n + length m → (¬ Depends conflict l d b) × (¬ Depends conflict l b d)
    part_serial serial a b c d w u i j k v =
        let sa = same a i (omega (arith, w.after, w.before)) in
        let ib : n ≤ b = omega (arith, w.after) in
        let jb : b < n + length m = omega (arith, w.before) in
        let sb = same b ib jb in
        let sc = same c (omega (arith, w.after, w.before)) j in
        let o : run l b ≡ run m (b - n) = sym sb.runs in
        let t = serial (a - n) (b - n) (c - n) (d - n) (record {
          after = omega (arith, w.after);
          before = omega (arith, w.after, w.before);
          inside = omega (arith, w.after, w.before);
          other = λ e. w.other (sym sa.runs ∙ e ∙ sb.runs);
          unit_of = unit_cast unit o sa sc w.unit_of;
        }) (omega arith) (unit_cast unit o sa (same d k v) u) in
        (λ e. t.0 (part_dep e k jb), λ e. t.1 (part_dep e ib v))

  module _ (l m : List ℕ) (apart : (r : ℕ) → 0 < count l r → count m r ≡ 0) where
    in_front : (x : ℕ) → x < length l → 0 < count l (run (l ++ m) x)
    in_front x i = rw (front l m x i).runs (omega (arith, ordinal_lt l x i))

    -- what stands in m is no step of l
    in_back : (x : ℕ) → length l ≤ x → x < length (l ++ m) → Same m (x - length l) (l ++ m) x
    in_back x i j = let e : length l + (x - length l) ≡ x = add-sub_of_le i in rw e at (back l m (x - length l) none)
      where
        v : x - length l < length m
        v = omega (arith, length-append l m)

        none : count l (run m (x - length l)) ≡ 0
        none = go (dec_lt 0 (count l (run m (x - length l))))
          where
            go : Dec (0 < count l (run m (x - length l))) → count l (run m (x - length l)) ≡ 0
            go (yes k) = absurd (lt_irrefl 0 (omega (arith, apart _ k, ordinal_lt m (x - length l) v)))
            go (no k) = omega arith

    -- a run has its steps on one side
    one_side : (x y : ℕ) → x < length l → y < length (l ++ m) → run (l ++ m) y ≡ run (l ++ m) x → y < length l
    one_side x y i j e = go (dec_lt y (length l))
      where
        go : Dec (y < length l) → y < length l
        go (yes k) = k
        go (no k) =
            let s = in_back y (omega arith) j in
            let o = ordinal_lt m (y - length l) (omega (arith, length-append l m)) in
            let z : count m (run m (y - length l)) ≡ 0 = rw (sym e ∙ s.runs) at (apart _ (in_front x i)) in
            absurd (lt_irrefl 0 (omega (arith, o)))

    append_serial : RelativelySerial conflict unit l → RelativelySerial conflict unit m → RelativelySerial conflict unit (l ++ m)
    append_serial sl sm a b c d w v u = go (dec_lt a (length l))
      where
        go : Dec (a < length l) → (¬ Depends conflict (l ++ m) d b) × (¬ Depends conflict (l ++ m) b d)
        go (yes i) = part_serial l (l ++ m) 0 (λ x k j. rw (sub-zero x) (same_sym (front l m x (omega arith)))) sl a b c d w u
            zero-le (omega (arith, one_side a c i w.inside w.unit_of.runs)) zero-le (omega (arith, one_side a d i v u.runs))
        go (no n) = part_serial m (l ++ m) (length l) (λ x k j. same_sym (in_back x k (omega (arith, length-append l m)))) sm a b c d w u
            (omega arith) (omega (arith, w.inside, length-append l m)) (low (dec_lt d (length l))) (omega (arith, length-append l m))
          where
            low : Dec (d < length l) → length l ≤ d
            low (yes k) = absurd (n (one_side d a k (omega (arith, w.after, w.before, w.inside)) (sym u.runs)))
            low (no k) = omega arith

  -- a kept step stands in the projection
  kept_same : (keep : ℕ → Bool) (h : List ℕ) (p : ℕ) → p < length h → keep (run h p) ≡ true → (at h (project keep h) p < length (project keep h)) × Same h p (project keep h) (at h (project keep h) p)
  unfolding ordinal
  kept_same keep h p i k =
      let t = place_of_spec (project keep h) (run h p) (ordinal h p) (rw (count_kept keep (run h p) k h) (ordinal_lt h p i)) in
      (t.0, record { runs = t.1; ordinals = rw t.1 t.2 })

  -- in an order of the steps that a projection keeps, conflicting steps that it keeps have their order
  kept_agree : Lawful conflict → (keep : ℕ → Bool) (h l : List ℕ) → RelativelySerialOrder conflict unit (project keep h) l → (p q : ℕ) → p < q → q < length h → Conflicting conflict h p q
      → keep (run h p) ≡ true → keep (run h q) ≡ true → place_of l (run h p) (ordinal h p) < place_of l (run h q) (ordinal h q)
  kept_agree law keep h l e p q k m c kp kq =
      let g = project keep h in
      let i : p < length h = omega arith in
      let op : ordinal h p < count g (run h p) = rw (count_kept keep (run h p) kp h) (ordinal_lt h p i) in
      let oq : ordinal h q < count g (run h q) = rw (count_kept keep (run h q) kq h) (ordinal_lt h q m) in
      let (ip, sp) = kept_same keep h p i kp in
      let (iq, sq) = kept_same keep h q m kq in
      let o : at h g p < at h g q = order_restricted (project_restricted keep h) (run h p) (ordinal h p) (run h q) (ordinal h q) op oq (conf_ne conflict law h p q c) (rw (place_of_back h p i, place_of_back h q m) k) in
      let f = (agrees_keeps conflict g l e.equivalent.order).1 e.equivalent.agrees (at h g p) (at h g q) o iq (conf_cast conflict sp sq c) in
      rw (sp.runs, sp.ordinals, sq.runs, sq.ordinals) at f

  -- no conflict between the runs that keep tells and the others
  module _ (law : Lawful conflict) (keep : ℕ → Bool) (h : List ℕ) (apart : (p q : ℕ) → p < length h → q < length h → Conflicting conflict h p q → keep (run h p) ≡ keep (run h q)) where
    pub parts_serializable : RelativelySerializable conflict unit (project keep h) → RelativelySerializable conflict unit (project (λ r. not (keep r)) h) → RelativelySerializable conflict unit h
    parts_serializable s t = record { order = l ++ m; evidence = record { equivalent = record { order = order; agrees = (agrees_keeps conflict h (l ++ m) order).0 keeps }; serial = append_serial l m other s.evidence.serial t.evidence.serial } }
      where
        l : List ℕ
        l = s.order

        m : List ℕ
        m = t.order

        drop : ℕ → Bool
        drop r = not (keep r)

        counts : (r : ℕ) (b : Bool) → keep r ≡ b → ((count l r ≡ count h r) × (count m r ≡ 0) × (b ≡ true)) ⊎ ((count l r ≡ 0) × (count m r ≡ count h r) × (b ≡ false))
        counts r true e = inl (s.evidence.equivalent.order r ∙ count_kept keep r e h, t.evidence.equivalent.order r ∙ count_left_out drop r (ap not e) h, refl)
        counts r false e = inr (s.evidence.equivalent.order r ∙ count_left_out keep r e h, t.evidence.equivalent.order r ∙ count_kept drop r (ap not e) h, refl)

        order : Order h (l ++ m)
        order r = go (counts r (keep r) refl)
          where
            go : ((count l r ≡ count h r) × (count m r ≡ 0) × (keep r ≡ true)) ⊎ ((count l r ≡ 0) × (count m r ≡ count h r) × (keep r ≡ false)) → count (l ++ m) r ≡ count h r
            go (inl c) = omega (arith, count_append l m r, c.0, c.1)
            go (inr c) = omega (arith, count_append l m r, c.0, c.1)

        other : (r : ℕ) → 0 < count l r → count m r ≡ 0
        other r k = go (counts r (keep r) refl)
          where
            go : ((count l r ≡ count h r) × (count m r ≡ 0) × (keep r ≡ true)) ⊎ ((count l r ≡ 0) × (count m r ≡ count h r) × (keep r ≡ false)) → count m r ≡ 0
            go (inl c) = c.1
            go (inr c) = absurd (lt_irrefl 0 (omega (arith, c.0)))

        keeps : Keeps conflict h (l ++ m)
        keeps p q k j c = go (keep (run h p)) refl
          where
            i : p < length h
            i = omega arith

            go : (b : Bool) → keep (run h p) ≡ b → at h (l ++ m) p < at h (l ++ m) q
            go true e =
                let f : keep (run h q) ≡ true = sym (apart p q i j c) ∙ e in
                let x : count l (run h p) ≡ count h (run h p) = s.evidence.equivalent.order _ ∙ count_kept keep _ e h in
                let y : count l (run h q) ≡ count h (run h q) = s.evidence.equivalent.order _ ∙ count_kept keep _ f h in
                rw (place_front l m (run h p) (ordinal h p) (omega (arith, ordinal_lt h p i)), place_front l m (run h q) (ordinal h q) (omega (arith, ordinal_lt h q j)))
                (kept_agree law keep h l s.evidence p q k j c e f)
            go false e =
                let f : keep (run h q) ≡ false = sym (apart p q i j c) ∙ e in
                rw (place_back l m (run h p) (ordinal h p) (s.evidence.equivalent.order _ ∙ count_left_out keep _ e h), place_back l m (run h q) (ordinal h q) (s.evidence.equivalent.order _ ∙ count_left_out keep _ f h))
                (omega (arith, kept_agree law drop h m t.evidence p q k j c (ap not e) (ap not f)))
