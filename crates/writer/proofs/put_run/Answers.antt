-- 52 and the number are put, and the steps behind them.
use mathlib.Core.List.{List, ◌∷◌}
use mathlib.Core.Path.{ap, sym}
use Prim.Native.Nat.{ℕ}
use native.Mathlib.Omega.{arith}
use lib.ListN.{length}
use Rattle.buffer.proofs.PutLaws.{behind, put_is, room_behind}
use Rattle.writer.proofs.GroupLaws.{step_pieces}
use Rattle.writer.proofs.put_run.Goals as goal

pub put_pieces-k-requires : goal.put_pieces-k-requires
put_pieces-k-requires c = (c.requires.0, room_behind _ c.put_bytes-n.ensures (omega (arith, c.requires.1, ap length (step_pieces c.args.steps.now))))

pub returns : goal.returns
returns c =
    put_is (behind c.put_bytes-n.ensures c.put_pieces-k.ensures) (ap (λ (l : List ℕ). 0x52 ∷ c.args.number ∷ l) (sym (step_pieces c.args.steps.now)))
