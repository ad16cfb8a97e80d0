-- A loop that puts piece after piece into what is left of a buffer: what it has put after i of n pieces, and what room is left.
use mathlib.Core.Path.{◌≡◌, refl, sym, ap, ap₂}
use mathlib.Core.List.{List, ◌++◌, append_assoc, append-nil}
use Prim.Native.Nat.{ℕ, zero, suc, ◌+◌, ◌-◌, ◌*◌, ◌≤◌, ◌<◌, zero-le}
use native.Mathlib.Nat.{le_refl}
use native.Mathlib.Numerals.{add-one}
use native.Mathlib.Omega.{arith}
use lib.ListN.{length, take, get_or, length-append}
use lib.Seq.{take-suc, take-length}
use borrow.Rule.Slice.PartMut.{mid_of, put_mid}
use Rattle.buffer.specs.Put.{Put}
use Rattle.buffer.specs.Each.{each}
use Rattle.buffer.specs.Parts.{parts}
use Rattle.buffer.proofs.PutLaws.{behind, none, length_left, put_length}
use Rattle.buffer.proofs.EachLaws.{each_snoc}

-- ---- the pieces

pub parts_equal : (f g : ℕ → List ℕ) (n : ℕ) → ((k : ℕ) → k < n → f k ≡ g k) → parts f n ≡ parts g n
parts_equal f g zero e = refl
parts_equal f g (suc n) e = ap₂ (λ (a b : List ℕ). a ++ b) (parts_equal f g n (λ k h. e k (omega arith))) (e n (omega arith))

pub parts_cons : (f : ℕ → List ℕ) (n : ℕ) → parts f (suc n) ≡ f 0 ++ parts (λ k. f (suc k)) n
parts_cons f zero = rw append-nil
parts_cons f (suc n) = rw (parts_cons f n) (append_assoc (f 0) (parts (λ k. f (suc k)) n) (f (suc n)))

-- those of the first n elements of a list
pub taken_parts : {A : Type 0} (f : A → List ℕ) (xs : List A) (d : A) (n : ℕ) → n ≤ length xs → each f (take n xs) ≡ parts (λ k. f (get_or xs k d)) n
taken_parts f xs d zero h = refl
taken_parts f xs d (suc n) h = rw (take-suc xs n d h, each_snoc f (take n xs) (get_or xs n d), taken_parts f xs d n (omega arith))

-- those of all elements
pub each_parts : {A : Type 0} (f : A → List ℕ) (xs : List A) (d : A) → each f xs ≡ parts (λ k. f (get_or xs k d)) (length xs)
each_parts f xs d = rw take-length at (taken_parts f xs d (length xs) (le_refl (length xs)))

-- ---- their widths: piece i takes w i bytes at most

abbrev pub total : (ℕ → ℕ) → ℕ → ℕ
total w zero = 0
total w (suc n) = total w n + w n

pub total_rises : (w : ℕ → ℕ) (i n : ℕ) → i ≤ n → total w i ≤ total w n
total_rises w i n h = rw (sym e) (later w i (n - i))
  where
    e : (n - i) + i ≡ n
    e = omega arith

    later : (w : ℕ → ℕ) (i k : ℕ) → total w i ≤ total w (k + i)
    later w i zero = let e : 0 + i ≡ i = omega arith in rw e (le_refl (total w i))
    later w i (suc k) = let e : suc k + i ≡ suc (k + i) = omega arith in rw e (omega (arith, later w i k))

-- pieces of one width
pub total_same : (k n : ℕ) → total (λ _. k) n ≡ k * n
total_same k zero = omega arith
total_same k (suc n) = omega (arith, total_same k n)

-- each as wide as it is long
pub total_exact : (f : ℕ → List ℕ) (n : ℕ) → total (λ i. length (f i)) n ≡ length (parts f n)
total_exact f zero = refl
total_exact f (suc n) = omega (arith, total_exact f n, length-append (parts f n) (f n))

-- ---- the loop

-- `all` is n pieces, the first i of them are put, and there is room for all
pub record Putting (all : List ℕ) (f : ℕ → List ℕ) (w : ℕ → ℕ) (n : ℕ) (before now : List ℕ) (at i : ℕ) : Type 0 where
  pub are : all ≡ parts f n
  pub room : total w n ≤ length before
  pub turn : i ≤ n
  pub put : Put (parts f i) before now at
  pub taken : at ≤ total w i
  pub same : length now ≡ length before
  pub within : at ≤ length now

pub putting_none : {all : List ℕ} {f : ℕ → List ℕ} {w : ℕ → ℕ} {n : ℕ} {l : List ℕ} → all ≡ parts f n → total w n ≤ length l → Putting all f w n l l 0 0
putting_none {all} {f} {w} {n} {l} e h = record { are = e; room = h; turn = zero-le; put = none l; taken = zero-le; same = refl; within = zero-le }

-- where the room is that of the bytes themselves
pub putting_exact : {all : List ℕ} {f : ℕ → List ℕ} {n : ℕ} {l : List ℕ} → all ≡ parts f n → length all ≤ length l
    → Putting all f (λ i. length (f i)) n l l 0 0
putting_exact {all} {f} {n} {l} e h = putting_none e (omega (arith, total_exact f n, ap length e))

module _ {all : List ℕ} {f : ℕ → List ℕ} {w : ℕ → ℕ} {n : ℕ} {before now : List ℕ} {at i : ℕ} (p : Putting all f w n before now at i) where
  pub putting_all : n ≤ i → Put all before now at
  putting_all h = let e : i ≡ n = omega (arith, p.turn) in rw (p.are, ← e) p.put

  pub putting_total : n ≤ i → at ≤ total w n
  putting_total h = let e : i ≡ n = omega (arith, p.turn) in rw (← e) p.taken

  module _ (h : i < n) where
    -- the next piece fits into what is left
    pub putting_room : at + w i ≤ length now
    putting_room = omega (arith, p.taken, p.same, p.room, total_rises w (suc i) n h)

    pub putting_left : w i ≤ length (mid_of at (length now - at) now)
    putting_left = omega (arith, length_left at now, putting_room)

    -- and is put
    pub putting_next : {part : List ℕ} {k : ℕ} → length (f i) ≤ w i → Put (f i) (mid_of at (length now - at) now) part k
        → Putting all f w n before (put_mid at (length now - at) now part) (at + k) (i + 1)
    putting_next {part} {k} l q =
        let later : List ℕ = put_mid at (length now - at) now part in
        let put : Put (parts f (suc i)) before later (at + k) = behind p.put q in
        let taken : at + k ≤ total w (suc i) = omega (arith, p.taken, q.count) in
        let room : at + k ≤ length before = omega (arith, p.room, total_rises w (suc i) n h) in
        let same : length later ≡ length before = put_length put (omega (arith, put.count)) in
        rw add-one (record { are = p.are; room = p.room; turn = h; put = put; taken = taken; same = same; within = omega arith })
