-- The lists of names in arrays, 0 behind the last; and the flags of the runs that have another name.
use Prim.Native.Nat.{ℕ, zero, suc, ◌+◌, ◌-◌, ◌≤◌, ◌<◌}
use native.Mathlib.Nat.{not-suc-le-zero, le_of_suc-le-suc}
use native.Mathlib.Numerals.{add-one}
use native.Mathlib.Decide.{dec_lt}
use native.Mathlib.Omega.{arith}
use mathlib.Core.Path.{◌≡◌, refl, sym, ap, ◌∙◌}
use mathlib.Core.Logic.{◌≢◌}
use mathlib.Core.Bool.{true, false}
use mathlib.Core.List.{List, [], ◌∷◌, ◌++◌, append-nil}
use mir.Val.{Fits}
use mir.Syntax.{w64}
use lib.ListN.{length, get_or, set, replicate, length-append}
use lib.Dec.{eqb}
use borrow.Author.Tests.{eq-eqb, ne_eqb}
use Rattle.theory.specs.Components.{smallest_of_each, smallest_runs}
use Rattle.theory.proofs.Components.{each_length, smallest_few}
use Rattle.book.specs.Format.{run_limit}
use Rattle.book.specs.Book.{unflagged}
use Rattle.islands.specs.Islands.{padded}
use Rattle.islands.specs.Inner.Names.{name_in, Own}
use Rattle.islands.proofs.Naming.{name_inside, name_outside}

-- ---- one number more

pub padded_more : (n : ℕ) (l : List ℕ) (x : ℕ) → length l < n → set (padded n l) (length l) x ≡ padded n (l ++ x ∷ [])
padded_more zero l x h = absurd (not-suc-le-zero h)
padded_more (suc n) [] x h =
    let e : suc n - 0 ≡ suc n = omega arith in
    let f : suc n - 1 ≡ n = omega arith in
    rw (e, f)
padded_more (suc n) (y ∷ l) x h =
    let e : suc n - suc (length l) ≡ n - length l = omega arith in
    let f : suc n - suc (length (l ++ x ∷ [])) ≡ n - length (l ++ x ∷ []) = omega arith in
    rw (e, f) (ap (λ (k : List ℕ). y ∷ k) (padded_more n l x (le_of_suc-le-suc h)))

-- ---- the islands of the first runs

module _ (names : List ℕ) where
  pub record ListedBelow (smallest list : List ℕ) (count r : ℕ) : Type 0 where
    pub each : smallest ≡ padded run_limit (smallest_of_each (name_in names) r)
    pub runs : list ≡ padded run_limit (smallest_runs (name_in names) r)
    pub counted : count ≡ length (smallest_runs (name_in names) r)

  pub listed_none : ListedBelow (replicate run_limit 0) (replicate run_limit 0) 0 0
  unfolding smallest_of_each smallest_runs
  listed_none = record { each = refl; runs = refl; counted = refl }

  module _ (smallest list : List ℕ) (count r n x : ℕ) (w : ListedBelow smallest list count r) (hr : r < n) (hn : n ≤ run_limit) (long : length names ≡ run_limit) (ex : x ≡ get_or names r 0) where
    is_name : x ≡ name_in names r
    is_name = ex ∙ sym (name_inside names r long (omega arith))

    pub listed_room : count < run_limit
    listed_room = omega (arith, w.counted, smallest_few (name_in names) r)

    pub listed_fits : Fits w64 (count + 1)
    listed_fits = record { fits = omega (arith, listed_room) }

    each_more : set smallest r x ≡ padded run_limit (smallest_of_each (name_in names) (suc r))
    unfolding smallest_of_each
    each_more = rw (w.each, is_name) (ap (λ (k : ℕ). set (padded run_limit (smallest_of_each (name_in names) r)) k (name_in names r)) (sym (each_length (name_in names) r))
        ∙ padded_more run_limit (smallest_of_each (name_in names) r) (name_in names r) (rw (each_length (name_in names) r) (omega arith)))

    pub listed_own : (m : ℕ) → m ≡ x → m ≡ r → (list' : List ℕ) (count' : ℕ) → list' ≡ set list count x → count' ≡ count + 1 → ListedBelow (set smallest r x) list' count' (r + 1)
    unfolding smallest_runs
    listed_own m em e list' count' el ec =
        let own : eqb (name_in names r) r ≡ true = eq-eqb (name_in names r) r (sym is_name ∙ sym em ∙ e) in
        let z : x ≡ r = sym em ∙ e in
        rw (add-one r, el, ec) (record {
          each = each_more;
          runs = rw (own, z, w.runs, w.counted) (padded_more run_limit (smallest_runs (name_in names) r) r (rw (← w.counted) listed_room));
          counted = rw (own, w.counted) (omega (arith, length-append (smallest_runs (name_in names) r) (r ∷ [])));
        })

    pub listed_other : (m : ℕ) → m ≡ x → m ≢ r → (list' : List ℕ) (count' : ℕ) → list' ≡ list → count' ≡ count → ListedBelow (set smallest r x) list' count' (r + 1)
    unfolding smallest_runs
    listed_other m em k list' count' el ec =
        let other : eqb (name_in names r) r ≡ false = ne_eqb (name_in names r) r (λ e. k (em ∙ is_name ∙ e)) in
        rw (add-one r, el, ec) (record {
          each = each_more;
          runs = rw (other, append-nil (smallest_runs (name_in names) r)) w.runs;
          counted = rw (other, append-nil (smallest_runs (name_in names) r)) w.counted;
        })

-- ---- each run by its own name

pub record OwnBelow (t : List ℕ) (k : ℕ) : Type 0 where
  pub within : k ≤ run_limit
  pub long : length t ≡ run_limit
  pub own : (j : ℕ) → j < k → get_or t j 0 ≡ j

module _ (t : List ℕ) (k : ℕ) (w : OwnBelow t k) where
  pub own_all : run_limit ≤ k → Own t
  own_all l = record { long = w.long; own = λ j. go j (dec_lt j run_limit) }
    where
      go : (j : ℕ) → Dec (j < run_limit) → name_in t j ≡ j
      go j (yes h) = name_inside t j w.long h ∙ w.own j (omega arith)
      go j (no n) = name_outside t j w.long (omega arith)

-- ---- the flags of the others, put in place of the names

pub record FlaggedBelow (t : List ℕ) (m : ℕ) (flags : List ℕ) (k : ℕ) : Type 0 where
  pub long : length flags ≡ run_limit
  pub at : (j : ℕ) → j < k → unflagged flags j ≡ eqb (get_or t j 0) m
  pub rest : (j : ℕ) → k ≤ j → get_or flags j 0 ≡ get_or t j 0
