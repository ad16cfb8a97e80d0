-- That the numbers of a list are bytes, by computation.
use Prim.Native.Nat.{ℕ, zero, suc, ◌<◌}
use native.Mathlib.Omega.{arith}
use mathlib.Core.Path.{◌≡◌, refl, sym}
use mathlib.Core.Bool.{Bool, true, false, true≢false}
use mathlib.Core.List.{List, [], ◌∷◌}
use borrow.Author.Tests.{ltb-true}
use lib.ListN.{get_or}
use lib.Dec.{ltb}
use Rattle.book.specs.Format.{pick, Bytes}

abbrev pub all_bytes : List ℕ → Bool
all_bytes [] = true
all_bytes (x ∷ l) = pick (ltb x 256) (all_bytes l) false

pub bytes : (l : List ℕ) → all_bytes l ≡ true → Bytes l
bytes [] e i = omega arith
bytes (x ∷ l) e i = go (ltb x 256) i refl e (bytes l)
  where
    go : (b : Bool) (i : ℕ) → ltb x 256 ≡ b → pick b (all_bytes l) false ≡ true → (all_bytes l ≡ true → Bytes l) → get_or (x ∷ l) i 0 < 256
    go true zero h e r = ltb-true x 256 h
    go true (suc i) h e r = r e i
    go false i h e r = absurd (true≢false (sym e))
