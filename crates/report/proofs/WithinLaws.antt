-- How puts within limits compose: the limits add up.
use Prim.Native.Nat.{ℕ, ◌+◌, ◌-◌, ◌≤◌}
use mathlib.Core.Path.{◌≡◌}
use mathlib.Core.List.{List, ◌++◌}
use native.Mathlib.Omega.{arith}
use lib.ListN.{length}
use borrow.Rule.Slice.PartMut.{mid_of, put_mid}
use Rattle.buffer.specs.Put.{Put}
use Rattle.buffer.proofs.PutLaws.{behind, put_is}
use Rattle.report.specs.Inner.Lines.{PutWithin}

pub within_limit : {bs before after : List ℕ} {r : ℕ} (limit : ℕ) → Put bs before after r → length bs ≤ limit → PutWithin limit bs before after r
within_limit limit p h = record { put = p; within = omega (arith, p.count) }

pub exactly : {bs before after : List ℕ} {r : ℕ} → Put bs before after r → PutWithin (length bs) bs before after r
exactly {bs} {before} {after} {r} p = record { put = p; within = omega (arith, p.count) }

-- xs was put, and then bs into what is left
pub behind_within : {xs bs before mid part : List ℕ} {n k i j : ℕ} → PutWithin i xs before mid n → PutWithin j bs (mid_of n (length mid - n) mid) part k
    → PutWithin (i + j) (xs ++ bs) before (put_mid n (length mid - n) mid part) (n + k)
behind_within p q = record { put = behind p.put q.put; within = omega (arith, p.within, q.within) }

pub within_is : {xs ys before after : List ℕ} {r i j : ℕ} → PutWithin i xs before after r → xs ≡ ys → i ≤ j → PutWithin j ys before after r
within_is p e h = record { put = put_is p.put e; within = omega (arith, p.within) }
