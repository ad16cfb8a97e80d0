use native.Mathlib.Omega.{arith}
use Rattle.replay.proofs.CallBytes.{chunk_call, scan_bad, scan_next}
use Rattle.replay.proofs.bad_call.Goals as goal

pub returns-then-is_none : goal.returns-then-is_none
returns-then-is_none c =
    let h = chunk_call c.args.calls.now _ c.as_chunks.ensures.front c.loop-i.i (omega arith) _ c.call_of.ensures in
    (scan_bad c.args.calls.now c.loop-i.i c.loop-i.invariant (omega arith) _ h c.if-is_none.ensures, omega arith)

pub loop-i-preserved : goal.loop-i-preserved
loop-i-preserved c =
    let h = chunk_call c.args.calls.now _ c.as_chunks.ensures.front c.loop-i.i (omega arith) _ c.call_of.ensures in
    scan_next c.args.calls.now c.loop-i.i c.loop-i.invariant (omega arith) _ h c.if-is_none.ensures
