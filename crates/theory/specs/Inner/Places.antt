-- No part of a statement: the place of a step.
use Rattle.std.specs.Prelude.{ℕ, zero, suc, Bool, true, false, List, [], ◌∷◌, eqb}

abbrev pub place_if : Bool → ℕ → (ℕ → ℕ) → ℕ
place_if true zero f = zero
place_if true (suc i) f = suc (f i)
place_if false i f = suc (f i)

-- the place of step i of run r in l
abbrev pub place_of : List ℕ → ℕ → ℕ → ℕ
place_of [] r i = zero
place_of (x ∷ l) r i = place_if (eqb x r) i (place_of l r)
