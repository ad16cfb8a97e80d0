-- What a test's answer says.
use Rattle.std.specs.Prelude.{◌≡◌, Bool, true}

-- the answer says whether P
pub record Answers (P : Type 0) (answer : Bool) : Type 0 where
  pub sound : answer ≡ true → P
  pub complete : P → answer ≡ true
