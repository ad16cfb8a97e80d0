use mathlib.Core.Path.{◌∙◌}
use native.Mathlib.Omega.{arith}
use Rattle.replay.proofs.CallBytes.{length_calls, chunk_call, answer_low}
use Rattle.replay.proofs.Replays.{call_is_there, round_start, round_again, round_end}
use Rattle.replay.proofs.play.Goals as goal

pub loop-i-init : goal.loop-i-init
loop-i-init c = search round_start

pub unwrap-x-requires : goal.unwrap-x-requires
unwrap-x-requires c = call_is_there c.args.calls.now c.loop-i.i (omega arith) (omega arith) _ (chunk_call c.args.calls.now _ c.as_chunks.ensures.front c.loop-i.i (omega arith) _ c.call_of.ensures)

pub slice_bounds-copy_from_slice-end : goal.slice_bounds-copy_from_slice-end
slice_bounds-copy_from_slice-end c = omega (arith, length_calls c.args.calls.now)

pub answer_bytes-requires : goal.answer_bytes-requires
answer_bytes-requires c = search answer_low

pub loop-i-preserved : goal.loop-i-preserved
loop-i-preserved c =
    round_again _ _ _ _ _ _ c.loop-i.invariant (omega arith) _ (omega arith) c.call_of.result (chunk_call c.args.calls.now _ c.as_chunks.ensures.front c.loop-i.i (omega arith) _ c.call_of.ensures) _ c.unwrap-x.ensures _ _ c.call-reply.ensures _ (c.copy_from_slice.ensures.after ∙ c.answer_bytes.ensures)

pub returns : goal.returns
returns c = round_end _ _ _ _ _ _ c.loop-i.invariant (omega (arith, c.as_chunks.ensures.front_len))
