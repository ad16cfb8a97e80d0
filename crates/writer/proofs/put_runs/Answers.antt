use mathlib.Core.Path.{refl}
use native.Mathlib.Nat.{le_refl}
use native.Mathlib.Numerals.{add-one}
use native.Mathlib.Omega.{arith}
use lib.ListN.{length}
use Rattle.theory.proofs.Lists.{sum_take}
use Rattle.buffer.proofs.InTurn.{putting_exact, putting_left, putting_next}
use Rattle.writer.proofs.GroupLaws.{run_pieces, run_coded, run_within, run_codes_are}
use Rattle.writer.proofs.put_runs.Goals as goal

pub loop-r-init : goal.loop-r-init
loop-r-init c =
    let s = c in
    (putting_exact (run_pieces s.args.lengths.now s.args.steps.now (length s.args.lengths.now) s.requires.0.lengths) s.requires.1, refl)

pub slice_bounds-put_run-end : goal.slice_bounds-put_run-end
slice_bounds-put_run-end c =
    let t = c in
    let l = t in
    omega (arith, run_within c.requires.0 t.loop-r-test.true l.loop-r.invariant.1 c.wide.ensures.0)

pub overflow_add-end : goal.overflow_add-end
overflow_add-end c = omega (arith, slice_bounds-put_run-end c)

pub offset_bounds-steps-base : goal.offset_bounds-steps-base
offset_bounds-steps-base c = omega (arith, slice_bounds-put_run-end c)

pub put_run-n-requires : goal.put_run-n-requires
put_run-n-requires c =
    let w = c in
    let t = w in
    let l = t in
    let s = w in
    let e = run_codes_are s.args.lengths.now s.args.steps.now l.loop-r.r l.loop-r.base w.wide.result l.loop-r.invariant.1 w.wide.ensures.0 in
    rw e (run_coded l.loop-r.r s.requires.0, putting_left l.loop-r.invariant.0 t.loop-r-test.true)

pub loop-r-preserved : goal.loop-r-preserved
loop-r-preserved c =
    let w = c in
    let t = w in
    let l = t in
    let s = w in
    let e = run_codes_are s.args.lengths.now s.args.steps.now l.loop-r.r l.loop-r.base w.wide.result l.loop-r.invariant.1 w.wide.ensures.0 in (
      putting_next l.loop-r.invariant.0 t.loop-r-test.true (le_refl _) (rw e at c.put_run-n.ensures),
      rw add-one (omega (arith, l.loop-r.invariant.1, w.wide.ensures.0, sum_take s.args.lengths.now l.loop-r.r)),
    )
