use Prim.Native.Nat.{◌*◌}
use native.Mathlib.Omega.{arith}
use lib.ListN.{length}
use Rattle.buffer.proofs.InTurn.{putting_none, putting_left, putting_next, putting_all, putting_total, each_parts, total_same}
use Rattle.report.proofs.WithinLaws.{within_limit}
use Rattle.report.proofs.put_entries.Goals as goal

pub loop-x-init : goal.loop-x-init
loop-x-init g c = putting_none (each_parts g.E.Entry.text c.args.list.now 0) (omega (arith, total_same g.E.Entry.width (length c.args.list.now), c.requires))

pub put-n-requires : goal.put-n-requires
put-n-requires g c = putting_left c.loop-x.invariant (omega arith)

pub loop-x-preserved : goal.loop-x-preserved
loop-x-preserved g c =
    let n = c.put-n.ensures in
    putting_next c.loop-x.invariant (omega arith) (omega (arith, n.put.count, n.within)) n.put

pub returns : goal.returns
returns g c =
    let inv = c.loop-x.invariant in
    let all = putting_all inv (omega arith) in
    within_limit (g.E.Entry.width * length c.args.list.now) all (omega (arith, putting_total inv (omega arith), total_same g.E.Entry.width (length c.args.list.now), all.count))
