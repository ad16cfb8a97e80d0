-- The names of the arcs of a cycle, one by one.
use Prim.Native.Nat.{ℕ, zero, suc, ◌<◌}
use native.Mathlib.Nat.{not-suc-le-zero}
use native.Mathlib.Omega.{arith}
use mathlib.Core.Path.{◌≡◌, refl, ap, ◌∙◌}
use mathlib.Core.Bool.{Bool}
use mathlib.Core.List.{List, [], ◌∷◌}
use lib.ListN.{length, get_or, length-append, get_or-append}
use lib.Seq.{get_or-append_seam}
use Rattle.names.specs.Names.{names_of, names_between, after_each, cycle_names}
use Rattle.names.specs.declared.ArcNames.{ArcNames}

-- ---- the place after each

pub after_length : (c : List ℕ) → length (after_each c) ≡ length c
after_length [] = refl
after_length (x ∷ c) = omega (arith, length-append c (x ∷ []))

pub after_next : (c : List ℕ) (i : ℕ) → suc i < length c → get_or (after_each c) i 0 ≡ get_or c (suc i) 0
after_next [] i h = absurd (not-suc-le-zero h)
after_next (x ∷ c) i h = get_or-append c (x ∷ []) 0 i (omega arith)

pub after_back : (c : List ℕ) (i : ℕ) → suc i ≡ length c → get_or (after_each c) i 0 ≡ get_or c 0 0
after_back [] i e = refl
after_back (x ∷ c) i e =
    let z : i ≡ length c = omega arith in
    rw z (get_or-append_seam c x [] 0)

-- ---- the names

module _ (conflict : ℕ → ℕ → ℕ → ℕ → Bool) (unit : ℕ → ℕ → ℕ → ℕ) (h : List ℕ) where
  between_length : (xs ys : List ℕ) → length ys ≡ length xs → length (names_between conflict unit h xs ys) ≡ length xs
  between_length [] ys e = refl
  between_length (x ∷ xs) [] e = e
  between_length (x ∷ xs) (y ∷ ys) e = ap suc (between_length xs ys (omega (arith, e)))

  between_get : (xs ys : List ℕ) (k : ℕ) (d : ArcNames) → length ys ≡ length xs → k < length xs → get_or (names_between conflict unit h xs ys) k d ≡ names_of conflict unit h (get_or xs k 0) (get_or ys k 0)
  between_get [] ys k d e i = absurd (not-suc-le-zero i)
  between_get (x ∷ xs) [] k d e i = absurd (none e)
    where
      none : 0 ≡ suc (length xs) → ⊥
      none e = omega arith
  between_get (x ∷ xs) (y ∷ ys) zero d e i = refl
  between_get (x ∷ xs) (y ∷ ys) (suc k) d e i = between_get xs ys k d (omega (arith, e)) (omega (arith, i))

  module _ (c : List ℕ) where
    pub named_length : length (cycle_names conflict unit h c) ≡ length c
    named_length = between_length c (after_each c) (after_length c)

    pub named_next : (i : ℕ) (d : ArcNames) → suc i < length c → get_or (cycle_names conflict unit h c) i d ≡ names_of conflict unit h (get_or c i 0) (get_or c (suc i) 0)
    named_next i d l = between_get c (after_each c) i d (after_length c) (omega arith) ∙ ap (names_of conflict unit h (get_or c i 0)) (after_next c i l)

    pub named_back : (i : ℕ) (d : ArcNames) → suc i ≡ length c → get_or (cycle_names conflict unit h c) i d ≡ names_of conflict unit h (get_or c i 0) (get_or c 0 0)
    named_back i d e = between_get c (after_each c) i d (after_length c) (omega arith) ∙ ap (names_of conflict unit h (get_or c i 0)) (after_back c i e)
