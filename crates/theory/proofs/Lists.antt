-- Laws of lists of numbers: counts, sums, zeros, one element more or another.
use Prim.Native.Nat.{ℕ, zero, suc, ◌+◌, ◌-◌, ◌≤◌, ◌<◌, zero-le, suc-le-suc}
use native.Mathlib.Nat.{not-suc-le-zero, le_of_suc-le-suc}
use native.Mathlib.Numerals.{add-one}
use native.Mathlib.Omega.{arith}
use mathlib.Core.Path.{◌≡◌, refl, sym, ap}
use mathlib.Core.Logic.{◌≢◌}
use mathlib.Core.Bool.{Bool, true, false}
use mathlib.Core.List.{List, [], ◌∷◌, ◌++◌, map}
use lib.ListN.{length, get_or, take, set, replicate, length-append}
use lib.Seq.{take-nil, take-suc, take-suc-set}
use lib.Dec.{eqb}
use borrow.Author.Tests.{eq-eqb, ne_eqb}
use Rattle.theory.specs.History.{suc_if, count, run}
use Rattle.theory.specs.Lists.{sum}

-- ---- counts

pub suc_if_comm : (b c : Bool) (n : ℕ) → suc_if b (suc_if c n) ≡ suc_if c (suc_if b n)
suc_if_comm true true n = refl
suc_if_comm true false n = refl
suc_if_comm false c n = refl

suc_if_mono : {m n : ℕ} (c : Bool) → m ≤ n → suc_if c m ≤ suc_if c n
suc_if_mono true h = suc-le-suc h
suc_if_mono false h = h

pub suc_if_le : {m n : ℕ} (c : Bool) → suc_if c m ≤ suc_if c n → m ≤ n
suc_if_le true h = le_of_suc-le-suc h
suc_if_le false h = h

suc_if_add : (c : Bool) (m n : ℕ) → suc_if c (m + n) ≡ suc_if c m + n
suc_if_add true m n = omega arith
suc_if_add false m n = refl

pub count_append : (a b : List ℕ) (r : ℕ) → count (a ++ b) r ≡ count a r + count b r
count_append [] b r = omega arith
count_append (x ∷ a) b r = rw (count_append a b r) (suc_if_add (eqb x r) (count a r) (count b r))

pub count_snoc : (l : List ℕ) (x r : ℕ) → count (l ++ x ∷ []) r ≡ suc_if (eqb x r) (count l r)
count_snoc [] x r = refl
count_snoc (y ∷ l) x r = rw (count_snoc l x r) (suc_if_comm (eqb y r) (eqb x r) (count l r))

pub count_take_mono : (l : List ℕ) (r p q : ℕ) → p ≤ q → count (take p l) r ≤ count (take q l) r
count_take_mono l r zero q h = zero-le
count_take_mono l r (suc p) zero h = absurd (not-suc-le-zero h)
count_take_mono [] r (suc p) (suc q) h = zero-le
count_take_mono (x ∷ l) r (suc p) (suc q) h = suc_if_mono (eqb x r) (count_take_mono l r p q (le_of_suc-le-suc h))

pub count_take_le : (l : List ℕ) (r p : ℕ) → count (take p l) r ≤ count l r
count_take_le l r zero = zero-le
count_take_le [] r (suc p) = zero-le
count_take_le (x ∷ l) r (suc p) = suc_if_mono (eqb x r) (count_take_le l r p)

-- a place of run r raises r's count
pub count_take_lt : (l : List ℕ) (r p : ℕ) → p < length l → run l p ≡ r → suc (count (take p l) r) ≡ count (take (suc p) l) r
count_take_lt [] r p h e = absurd (not-suc-le-zero h)
count_take_lt (x ∷ l) r zero h e = rw (eq-eqb x r e)
count_take_lt (x ∷ l) r (suc p) h e = rw (← count_take_lt l r p (le_of_suc-le-suc h) e) (suc_if_comm true (eqb x r) (count (take p l) r))

-- a place of another run leaves it
pub count_take_ne : (l : List ℕ) (r p : ℕ) → run l p ≢ r → count (take (suc p) l) r ≡ count (take p l) r
count_take_ne [] r zero n = refl
count_take_ne [] r (suc p) n = refl
count_take_ne (x ∷ l) r zero n = rw (ne_eqb x r n)
count_take_ne (x ∷ l) r (suc p) n = ap (suc_if (eqb x r)) (count_take_ne l r p n)

-- ---- sums

pub sum_snoc : (l : List ℕ) (x : ℕ) → sum (l ++ x ∷ []) ≡ sum l + x
sum_snoc [] x = omega arith
sum_snoc (y ∷ l) x = omega (arith, sum_snoc l x)

pub sum_set : (l : List ℕ) (i : ℕ) → i < length l → sum (set l i (get_or l i 0 + 1)) ≡ sum l + 1
sum_set [] i h = absurd (not-suc-le-zero h)
sum_set (x ∷ l) zero h = omega arith
sum_set (x ∷ l) (suc i) h = omega (arith, sum_set l i (le_of_suc-le-suc h))

pub get_or_le_sum : (l : List ℕ) (i : ℕ) → get_or l i 0 ≤ sum l
get_or_le_sum [] i = zero-le
get_or_le_sum (x ∷ l) zero = omega arith
get_or_le_sum (x ∷ l) (suc i) = omega (arith, get_or_le_sum l i)

pub sum_le : (l m : List ℕ) → ((i : ℕ) → get_or l i 0 ≤ get_or m i 0) → sum l ≤ sum m
sum_le [] m f = zero-le
sum_le (x ∷ l) [] f = omega (arith, f 0, sum_le l [] (λ i. f (suc i)))
sum_le (x ∷ l) (y ∷ m) f = omega (arith, f 0, sum_le l m (λ i. f (suc i)))

pub sum_lt : (l m : List ℕ) (k : ℕ) → ((i : ℕ) → get_or l i 0 ≤ get_or m i 0) → get_or l k 0 < get_or m k 0 → sum l < sum m
sum_lt l [] k f h = absurd (not-suc-le-zero h)
sum_lt [] (y ∷ m) k f h = omega (arith, get_or_le_sum (y ∷ m) k)
sum_lt (x ∷ l) (y ∷ m) zero f h = omega (arith, sum_le l m (λ i. f (suc i)))
sum_lt (x ∷ l) (y ∷ m) (suc k) f h = omega (arith, f 0, sum_lt l m k (λ i. f (suc i)) h)

pub sum_take : (l : List ℕ) (i : ℕ) → sum (take (suc i) l) ≡ sum (take i l) + get_or l i 0
sum_take [] zero = refl
sum_take [] (suc i) = refl
sum_take (x ∷ l) zero = omega arith
sum_take (x ∷ l) (suc i) = omega (arith, sum_take l i)

pub sum_take_mono : (l : List ℕ) (i j : ℕ) → i ≤ j → sum (take i l) ≤ sum (take j l)
sum_take_mono l zero j h = zero-le
sum_take_mono l (suc i) zero h = absurd (not-suc-le-zero h)
sum_take_mono [] (suc i) (suc j) h = zero-le
sum_take_mono (x ∷ l) (suc i) (suc j) h = omega (arith, sum_take_mono l i j (le_of_suc-le-suc h))

pub sum_take_le : (l : List ℕ) (i : ℕ) → sum (take i l) ≤ sum l
sum_take_le l zero = zero-le
sum_take_le [] (suc i) = zero-le
sum_take_le (x ∷ l) (suc i) = omega (arith, sum_take_le l i)

-- ---- zeros

pub get_or_zeros : (n i : ℕ) → ◌≡◌ {A = ℕ} (get_or (replicate n 0) i 0) 0
get_or_zeros zero i = refl
get_or_zeros (suc n) zero = refl
get_or_zeros (suc n) (suc i) = get_or_zeros n i

pub sum_zeros : (n : ℕ) → sum (replicate n 0) ≡ 0
sum_zeros zero = refl
sum_zeros (suc n) = omega (arith, sum_zeros n)

-- a list that is 0 from n on has in its first n elements all that it has
pub get_or_front : (n : ℕ) (l : List ℕ) → ((i : ℕ) → n ≤ i → ◌≡◌ {A = ℕ} (get_or l i 0) 0) → (i : ℕ) → get_or (take n l) i 0 ≡ get_or l i 0
get_or_front zero [] f i = refl
get_or_front zero (x ∷ l) f i = sym (f i zero-le)
get_or_front (suc n) [] f i = refl
get_or_front (suc n) (x ∷ l) f zero = refl
get_or_front (suc n) (x ∷ l) f (suc i) = get_or_front n l (λ k h. f (suc k) (suc-le-suc h)) i

pub sum_front : (n : ℕ) (l : List ℕ) → ((i : ℕ) → n ≤ i → ◌≡◌ {A = ℕ} (get_or l i 0) 0) → sum (take n l) ≡ sum l
sum_front n [] f = rw take-nil
sum_front zero (x ∷ l) f = omega (arith, f 0 zero-le, sum_front zero l (λ k h. f (suc k) zero-le))
sum_front (suc n) (x ∷ l) f = ap (λ (s : ℕ). x + s) (sum_front n l (λ k h. f (suc k) (suc-le-suc h)))

-- an element that is not 0 stands in the list
pub get_or_inside : (l : List ℕ) (i : ℕ) → 0 < get_or l i 0 → i < length l
get_or_inside [] i h = absurd (not-suc-le-zero h)
get_or_inside (x ∷ l) zero h = suc-le-suc zero-le
get_or_inside (x ∷ l) (suc i) h = suc-le-suc (get_or_inside l i h)

-- ---- one element more, or another

pub length_snoc : (l : List ℕ) (x : ℕ) → length (l ++ x ∷ []) ≡ suc (length l)
length_snoc l x = omega (arith, length-append l (x ∷ []))

pub map_snoc : {A : Type 0} (f : ℕ → A) (l : List ℕ) (x : ℕ) → map f (l ++ x ∷ []) ≡ map f l ++ f x ∷ []
map_snoc f [] x = refl
map_snoc f (y ∷ l) x = rw (map_snoc f l x)

pub take_more : (l : List ℕ) (n x : ℕ) → n < length l → take (n + 1) (set l n x) ≡ take n l ++ x ∷ []
take_more l n x h = rw (add-one, take-suc-set l n x h)

pub take_last : (l : List ℕ) (n : ℕ) → 0 < n → n ≤ length l → take n l ≡ take (n - 1) l ++ get_or l (n - 1) 0 ∷ []
take_last l zero h k = absurd (not-suc-le-zero h)
take_last l (suc n) h k = let e : suc n - 1 ≡ n = omega arith in rw e (take-suc l n 0 k)

pub take_last_set : (l : List ℕ) (n x : ℕ) → 0 < n → n ≤ length l → take n (set l (n - 1) x) ≡ take (n - 1) l ++ x ∷ []
take_last_set l zero x h k = absurd (not-suc-le-zero h)
take_last_set l (suc n) x h k = let e : suc n - 1 ≡ n = omega arith in rw e (take-suc-set l n x k)

-- what holds of every element and of v holds of every element after a store of v
pub all_set : (P : ℕ → Type 0) (l : List ℕ) (i v : ℕ) → ((k : ℕ) → P (get_or l k 0)) → P v → (k : ℕ) → P (get_or (set l i v) k 0)
all_set P [] i v f h k = f k
all_set P (x ∷ l) zero v f h zero = h
all_set P (x ∷ l) zero v f h (suc k) = f (suc k)
all_set P (x ∷ l) (suc i) v f h zero = f 0
all_set P (x ∷ l) (suc i) v f h (suc k) = all_set P l i v (λ n. f (suc n)) h k
