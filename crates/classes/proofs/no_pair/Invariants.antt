-- The pairs so far do not pass the test.
use Rattle.std.proofs.Common.{◌<◌, ℕ, false}
use Rattle.classes.proofs.no_pair.Given as goal

abbrev pub invariant-loop-c : goal.invariant-loop-c
invariant-loop-c g l = (c : ℕ) → c < l.c → (b : ℕ) → b < c → goal.F-post g l.test b c false

abbrev pub invariant-loop-b : goal.invariant-loop-b
invariant-loop-b g l = (b : ℕ) → b < l.b → goal.F-post g l.test b l.c false
