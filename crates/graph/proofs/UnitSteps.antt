-- Units and dependence. What a step depends on in a run is a prefix of that run's steps, and a unit is a stretch of them, so the first
-- and the last step of a unit stand for all of it.
use Prim.Native.Nat.{ℕ, zero, suc, ◌≤◌, ◌<◌}
use native.Mathlib.Nat.{le_antisymm}
use native.Mathlib.Decide.{ℕ_discrete, dec_lt}
use native.Mathlib.Omega.{arith}
use mathlib.Core.Path.{◌≡◌, refl, sym, ◌∙◌}
use mathlib.Core.Logic.{◌⊎◌, inl, inr}
use mathlib.Core.Bool.{Bool}
use mathlib.Core.List.{List}
use lib.ListN.{length}
use Rattle.theory.specs.History.{count, run, ordinal}
use Rattle.theory.specs.Relative.{Depends, InUnit}
use Rattle.theory.specs.Graph.{FirstOf, LastOf, ArcI, ArcD}
use Rattle.theory.specs.Inner.Places.{place_of}
use Rattle.theory.proofs.Places.{IsPlace, place_of_spec, place_of_ordinal, ordinal_lt, ordinal_mono}
use Rattle.theory.proofs.Steps.{dep_lt, dep_inside, own_depends, depends_earlier, unit_sym, unit_trans}

module _ (unit : ℕ → ℕ → ℕ → ℕ) (h : List ℕ) (o : ℕ) where
  pub first_from : (p q f : ℕ) → InUnit unit h o p q → FirstOf unit h o q f → FirstOf unit h o p f
  first_from p q f a w = record { inside = w.inside; member = unit_trans unit a w.member; first = λ k j u. w.first k j (unit_trans unit (unit_sym unit a) u) }

  pub last_from : (p q f : ℕ) → InUnit unit h o p q → LastOf unit h o q f → LastOf unit h o p f
  last_from p q f a w = record { inside = w.inside; member = unit_trans unit a w.member; last = λ k j u. w.last k j (unit_trans unit (unit_sym unit a) u) }

  pub last_unique : (p a b : ℕ) → LastOf unit h o p a → LastOf unit h o p b → a ≡ b
  last_unique p a b u v = le_antisymm (v.last a u.inside u.member) (u.last b v.inside v.member)

  pub first_unique : (p a b : ℕ) → FirstOf unit h o p a → FirstOf unit h o p b → a ≡ b
  first_unique p a b u v = le_antisymm (u.first b v.inside v.member) (v.first a u.inside u.member)

ordinal_le : (h : List ℕ) (a b : ℕ) → a ≤ b → b < length h → run h a ≡ run h b → ordinal h a ≤ ordinal h b
ordinal_le h a b l i e = go (ℕ_discrete a b)
  where
    go : Dec (a ≡ b) → ordinal h a ≤ ordinal h b
    go (yes z) = rw z (omega arith)
    go (no n) = omega (arith, ordinal_mono h a b (omega arith) i e)

module _ (conflict : ℕ → ℕ → ℕ → ℕ → Bool) (h : List ℕ) where
  -- l is the last place of run r that q depends on
  pub record LastSource (r q l : ℕ) : Type 0 where
    pub runs : run h l ≡ r
    pub depends : Depends conflict h l q
    pub last : (k : ℕ) → run h k ≡ r → Depends conflict h k q → k ≤ l

  -- in q's own run the last is the one before q
  module _ (q l : ℕ) (w : LastSource (run h q) q l) where
    pub last_own : ArcI h l q
    last_own = record {
      before = dep_lt conflict w.depends;
      inside = dep_inside conflict w.depends;
      runs = w.runs;
      next = le_antisymm least (ordinal_mono h l q (dep_lt conflict w.depends) (dep_inside conflict w.depends) w.runs);
    }
      where
        inside : q < length h
        inside = dep_inside conflict w.depends

        -- the step before q
        least : ordinal h q ≤ suc (ordinal h l)
        least = go (ordinal h q) refl
          where
            go : (m : ℕ) → ordinal h q ≡ m → ordinal h q ≤ suc (ordinal h l)
            go zero e = omega arith
            go (suc m) e = omega (arith, e, place_of_ordinal h (run h q) m im, ordinal_le h (place_of h (run h q) m) l k_le (omega (arith, dep_lt conflict w.depends, inside)) (t.1 ∙ sym w.runs))
              where
                im : m < count h (run h q)
                im = omega (arith, e, ordinal_lt h q inside)

                t : IsPlace h (run h q) m (place_of h (run h q) m)
                t = place_of_spec h (run h q) m im

                k_lt : Dec (place_of h (run h q) m < q) → place_of h (run h q) m < q
                k_lt (yes l) = l
                k_lt (no n) = absurd (over (ordinal_le h q (place_of h (run h q) m) (omega arith) t.0 (sym t.1)))
                  where
                    over : ordinal h q ≤ ordinal h (place_of h (run h q) m) → ⊥
                    over z = omega (arith, e, place_of_ordinal h (run h q) m im)

                k_le : place_of h (run h q) m ≤ l
                k_le = w.last (place_of h (run h q) m) t.1 (own_depends conflict h (place_of h (run h q) m) q (k_lt (dec_lt (place_of h (run h q) m) q)) inside t.1)

    pub own_last : (x : ℕ) → ArcI h x q → x ≡ l
    own_last x a = le_antisymm (w.last x a.runs (own_depends conflict h x q a.before a.inside a.runs)) (low (dec_lt x l))
      where
        low : Dec (x < l) → l ≤ x
        low (no n) = omega arith
        low (yes i) = absurd (over (ordinal_mono h x l i (omega (arith, dep_lt conflict w.depends, a.inside)) (a.runs ∙ sym w.runs)) (ordinal_mono h l q (dep_lt conflict w.depends) a.inside w.runs))
          where
            over : ordinal h x < ordinal h l → ordinal h l < ordinal h q → ⊥
            over u v = omega (arith, a.next)

  -- of the F arcs of a run, the one from the last source: any other starts at a source, or is that one
  module _ (unit : ℕ → ℕ → ℕ → ℕ) (rises : (r o i j : ℕ) → i ≤ j → unit r o i ≤ unit r o j) where
    pub last_covers : (r q l p x : ℕ) → LastSource r q l → run h p ≡ r → ArcD conflict h p q → LastOf unit h (run h q) p x → ArcD conflict h x q ⊎ LastOf unit h (run h q) l x
    last_covers r q l p x w e d f = go (dec_lt l x)
      where
        same : run h x ≡ run h l
        same = f.member.runs ∙ e ∙ sym w.runs

        p_le : p ≤ l
        p_le = w.last p e d.depends

        l_in : l < length h
        l_in = omega (arith, dep_lt conflict w.depends, dep_inside conflict w.depends)

        -- l is between p and x, hence of their unit
        between : l < x → InUnit unit h (run h q) p l
        between i = record { runs = w.runs ∙ sym e; units = le_antisymm upper lower }
          where
            lower : unit (run h p) (run h q) (ordinal h p) ≤ unit (run h p) (run h q) (ordinal h l)
            lower = rises (run h p) (run h q) (ordinal h p) (ordinal h l) (ordinal_le h p l p_le l_in (e ∙ sym w.runs))

            upper : unit (run h p) (run h q) (ordinal h l) ≤ unit (run h p) (run h q) (ordinal h p)
            upper = rw f.member.units at (rises (run h p) (run h q) (ordinal h l) (ordinal h x) (ordinal_le h l x (omega arith) f.inside (sym same)))

        go : Dec (l < x) → ArcD conflict h x q ⊎ LastOf unit h (run h q) l x
        go (no n) = inl (record { other = λ z. d.other (sym f.member.runs ∙ z); depends = depends_earlier conflict h x l q (omega arith) same w.depends })
        go (yes i) = inr (last_from unit h (run h q) l p x (unit_sym unit (between i)) f)
