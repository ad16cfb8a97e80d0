-- The answers yes and no.
use mathlib.Core.Path.{◌≡◌, refl, sym, ◌∙◌}
use mathlib.Core.Bool.{Bool, true, false, true≢false, ◌&&◌}
use Rattle.theory.specs.Answers.{Answers}

pub false_true : false ≡ true → ⊥
false_true e = true≢false (sym e)

pub answer_yes : {P : Type 0} → P → Answers P true
answer_yes p = record { sound = λ e. p; complete = λ p. refl }

pub answer_no : {P : Type 0} → ¬ P → Answers P false
answer_no n = record { sound = λ e. absurd (false_true e); complete = λ p. absurd (n p) }

pub refute : {P : Type 0} {b : Bool} → Answers P b → b ≡ false → ¬ P
refute a e p = false_true (sym e ∙ a.complete p)

-- two tests, of which the second may rest on the first
pub answer_both : {P Q : Type 0} (a b : Bool) → Answers P a → (P → Answers Q b) → Answers (P × Q) (a && b)
answer_both true b p q = record { sound = λ e. (p.sound refl, (q (p.sound refl)).sound e); complete = λ r. (q r.0).complete r.1 }
answer_both false b p q = answer_no (λ r. refute p refl r.0)

-- an answer serves a statement that is as strong
pub answer_same : {P Q : Type 0} {a : Bool} → (P → Q) → (Q → P) → Answers P a → Answers Q a
answer_same f g p = record { sound = λ e. f (p.sound e); complete = λ q. p.complete (g q) }
