-- The names of a cycle's arcs, one byte an arc: `arc_value`, `name_arcs`.
use Prim.Native.Nat.{ℕ, zero, suc, ◌+◌, ◌≤◌, ◌<◌, zero-le, suc-le-suc}
use native.Mathlib.Nat.{not-suc-le-zero}
use native.Mathlib.Decide.{dec_lt}
use native.Mathlib.Numerals.{add-one}
use native.Mathlib.Omega.{arith}
use mathlib.Core.Path.{◌≡◌, refl, sym, ap, ap₂, ◌∙◌}
use mathlib.Core.Bool.{Bool}
use mathlib.Core.List.{List, [], ◌∷◌, ◌++◌, map}
use lib.ListN.{length, get_or, take, drop, length-drop, take-append-drop}
use lib.Seq.{get_or-drop, ext_get_or}
use borrow.Author.Tests.{lt-ltb, le-ltb}
use Rattle.names.specs.Names.{names_value, names_of, names_between, after_each, cycle_names}
use Rattle.graph.specs.Inner.Arcs.{TablesIn, done}
use Rattle.graph.specs.declared.graph.Graph.{Graph}
use Rattle.names.specs.Inner.Tables.{NamesBy}
use Rattle.names.proofs.CycleNames.{after_length, after_next, after_back}
use Rattle.names.specs.declared.ArcNames.{ArcNames}
use Rattle.judge.specs.Inner.Names.{After, ValueBy, ValuesBy}

-- ---- the place after each

after_get : (c : List ℕ) (i k : ℕ) → i < length c → After i (length c) k → get_or (after_each c) i 0 ≡ get_or c k 0
after_get c i k h a = by (dec_lt (i + 1) (length c))
  where
    by : Dec (i + 1 < length c) → get_or (after_each c) i 0 ≡ get_or c k 0
    by (yes l) =
        let e : k ≡ i + 1 = rw (lt-ltb (i + 1) (length c) l) at a.is in
        rw (e, add-one i) (after_next c i (omega arith))
    by (no l) =
        let e : k ≡ 0 = rw (le-ltb (i + 1) (length c) (omega arith)) at a.is in
        rw e (after_back c i (omega arith))

-- ---- the values

module _ (conflict : ℕ → ℕ → ℕ → ℕ → Bool) (unit : ℕ → ℕ → ℕ → ℕ) (h : List ℕ) where
  -- a list of the values, entry by entry
  values_are : (xs ys vs : List ℕ) → length ys ≡ length xs → length xs ≤ length vs
      → ((k : ℕ) → k < length xs → get_or vs k 0 ≡ names_value (names_of conflict unit h (get_or xs k 0) (get_or ys k 0)))
      → take (length xs) vs ≡ map names_value (names_between conflict unit h xs ys)
  values_are [] ys vs e l f = refl
  values_are (x ∷ xs) [] vs e l f = absurd (none e)
    where
      none : 0 ≡ suc (length xs) → ⊥
      none e = omega arith
  values_are (x ∷ xs) (y ∷ ys) [] e l f = absurd (not-suc-le-zero l)
  values_are (x ∷ xs) (y ∷ ys) (v ∷ vs) e l f =
      ap₂ (λ (a : ℕ) (b : List ℕ). a ∷ b) (f zero (suc-le-suc zero-le)) (values_are xs ys vs (omega (arith, e)) (omega (arith, l)) (λ k i. f (suc k) (suc-le-suc i)))

pub value_is : (g : Graph) (c : List ℕ) (i k x y v : ℕ) (w : ArcNames) → i < length c → After i (length c) k → x ≡ get_or c i 0 → y ≡ get_or c k 0 → NamesBy g x y w → v ≡ names_value w → ValueBy g c i v
value_is g c i k x y v w inside a ex ey b ev = record { by = λ t. ev ∙ rw (after_get c i k inside a, ← ex, ← ey) (ap names_value (b.by t)) }

module _ (g : Graph) (c before : List ℕ) where
  -- the first m arcs of the cycle have their values, there is room for all, and what lies behind is as before
  pub record NamedUpTo (values : List ℕ) (m : ℕ) : Type 0 where
    pub long : length c ≤ length values
    pub same : length values ≡ length before
    pub at : (k : ℕ) → k < m → ValueBy g c k (get_or values k 0)
    pub behind : (k : ℕ) → length c ≤ k → get_or values k 0 ≡ get_or before k 0

  pub named_all : (values : List ℕ) (i : ℕ) → NamedUpTo values i → length c ≤ i → ValuesBy g c before values
  named_all values i u l = record { by = λ a. sym (take-append-drop (length c) values) ∙ ap₂ (λ (x y : List ℕ). x ++ y) (front a) rest }
    where
      front : (a : TablesIn g) → take (length c) values ≡ map names_value (cycle_names a.conflict a.unit (done g) c)
      front a = values_are a.conflict a.unit (done g) c (after_each c) values (after_length c) u.long (λ k j. (u.at k (omega arith)).by a)

      rest : drop (length c) values ≡ drop (length c) before
      rest = ext_get_or 0 (drop (length c) values) (drop (length c) before) (omega (arith, length-drop (length c) values, length-drop (length c) before, u.same))
          (λ k j. get_or-drop (length c) values k 0 ∙ u.behind (length c + k) (omega arith) ∙ sym (get_or-drop (length c) before k 0))
