-- How puts compose: no bytes, one put behind another, and what room is left.
use mathlib.Core.Path.{◌≡◌, refl, sym, ap, ◌∙◌}
use mathlib.Core.List.{List, [], ◌++◌, append_assoc, append-nil}
use Prim.Native.Nat.{ℕ, ◌+◌, ◌-◌, ◌≤◌}
use native.Mathlib.Omega.{arith}
use lib.ListN.{length, take, drop, length-append, length-drop, length-take, drop_of_length-le}
use lib.Seq.{take_at, drop_at, take_all, drop-drop}
use borrow.Rule.Slice.PartMut.{mid_of, put_mid}
use Rattle.buffer.specs.Put.{Put}

pub none : (l : List ℕ) → Put [] l l 0
none l = record { bytes = refl; count = refl }

-- xs was put, and then bs into what is left, `&mut out[n..]`
pub behind : {xs bs before mid part : List ℕ} {n k : ℕ} → Put xs before mid n → Put bs (mid_of n (length mid - n) mid) part k
    → Put (xs ++ bs) before (put_mid n (length mid - n) mid part) (n + k)
behind {xs} {bs} {before} {mid} {part} {n} {k} p q =
    let d : drop n mid ≡ drop (length xs) before = ap (drop n) p.bytes ∙ drop_at xs _ n (sym p.count) in
    let t : take n mid ≡ xs = ap (take n) p.bytes ∙ take_at xs _ n (sym p.count) in
    let m : mid_of n (length mid - n) mid ≡ drop (length xs) before = take_all (length mid - n) (drop n mid) (omega (arith, length-drop n mid)) ∙ d in
    let z : drop (length mid - n) (drop n mid) ≡ [] = drop_of_length-le (drop n mid) {i = length mid - n} (omega (arith, length-drop n mid)) in
    let w : part ≡ bs ++ drop (length bs) (drop (length xs) before) = q.bytes ∙ ap (λ (l : List ℕ). bs ++ drop (length bs) l) m in
    record {
      bytes = rw (t, z, w, append-nil, length-append, ← drop-drop (length bs) (length xs) before, append_assoc);
      count = rw (p.count, q.count, length-append);
    }

pub put_is : {xs ys before after : List ℕ} {r : ℕ} → Put xs before after r → xs ≡ ys → Put ys before after r
put_is p e = rw (← e) p

-- room for bytes that are the same
pub room_is : {xs ys : List ℕ} {n : ℕ} → length xs ≤ n → xs ≡ ys → length ys ≤ n
room_is h e = rw (← e) h

-- what is left of a buffer
pub length_left : (n : ℕ) (l : List ℕ) → length (mid_of n (length l - n) l) ≡ length l - n
length_left n l = omega (arith, length-take (length l - n) (drop n l), length-drop n l)

-- a put that has room keeps the buffer's length
pub put_length : {bs before after : List ℕ} {r : ℕ} → Put bs before after r → length bs ≤ length before → length after ≡ length before
put_length {bs} {before} {after} {r} p h = ap length p.bytes ∙ omega (arith, length-append bs (drop (length bs) before), length-drop (length bs) before)

-- where xs was put, there is room for bs behind
pub room_behind : {xs before mid : List ℕ} {n : ℕ} (bs : List ℕ) → Put xs before mid n → length xs + length bs ≤ length before
    → length bs ≤ length (mid_of n (length mid - n) mid)
room_behind {xs} {before} {mid} {n} bs p h = omega (arith, length_left n mid, p.count, put_length p (omega arith))
