-- The names of arcs from their values.
use mathlib.Core.Path.{◌≡◌, refl, ap₂}
use mathlib.Core.Bool.{Bool, true, false}
use mathlib.Core.List.{List, [], ◌∷◌, map}
use Rattle.names.specs.Names.{names_value}
use Rattle.names.specs.declared.ArcNames.{ArcNames}
use Rattle.report.specs.Inner.Lines.{names_of_value}

-- the names of a value are those that it is the value of

names_back : (i d f b : Bool) → names_of_value (names_value (record { i = i; d = d; f = f; b = b })) ≡ record { i = i; d = d; f = f; b = b }
names_back false false false false = refl
names_back false false false true = refl
names_back false false true false = refl
names_back false false true true = refl
names_back false true false false = refl
names_back false true false true = refl
names_back false true true false = refl
names_back false true true true = refl
names_back true false false false = refl
names_back true false false true = refl
names_back true false true false = refl
names_back true false true true = refl
names_back true true false false = refl
names_back true true false true = refl
names_back true true true false = refl
names_back true true true true = refl

pub values_back : (ws : List ArcNames) → map names_of_value (map names_value ws) ≡ ws
values_back [] = refl
values_back (w ∷ ws) = ap₂ (λ (x : ArcNames) (xs : List ArcNames). x ∷ xs) (names_back w.i w.d w.f w.b) (values_back ws)
