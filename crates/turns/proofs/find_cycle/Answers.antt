use native.Mathlib.Omega.{arith}
use Rattle.turns.proofs.WalkBack.{walked_none, walked_more, closed, never_none, never_long, s_limit, part_start}
use borrow.Author.Rules.{rules}
use Rattle.turns.proofs.find_cycle.Goals as goal

pub loop-len-init : goal.loop-len-init
loop-len-init c = (search rules, search walked_none)

pub overflow_sub-end : goal.overflow_sub-end
overflow_sub-end c = omega (arith, s_limit _ _ _ c.requires.0 _ _ _ _ c.loop-len.invariant.1 _ c.in-Some.ensures _ c.in-Some-seen.is, c.wide-end.ensures)

pub slice_bounds-put_bytes-count : goal.slice_bounds-put_bytes-count
slice_bounds-put_bytes-count c = omega (arith, part_start _ _ _ c.requires.0 _ _ _ _ c.loop-len.invariant.1 _ c.in-Some.ensures _ c.in-Some-seen.is, c.wide-end.ensures)

pub slice_bounds-put_bytes-start : goal.slice_bounds-put_bytes-start
slice_bounds-put_bytes-start c = search (rules, part_start)

pub returns-in-Some-seen : goal.returns-in-Some-seen
returns-in-Some-seen c = closed _ _ _ c.requires.0 _ _ _ _ c.loop-len.invariant.1 _ c.in-Some.ensures _ c.in-Some-seen.is _ c.wide-end.ensures.0 _ _ _ _ c.loop-len.invariant.0 c.put_bytes.ensures

pub loop-len-preserved : goal.loop-len-preserved
loop-len-preserved c = (search rules, walked_more _ _ _ c.requires.0 _ _ _ _ c.loop-len.invariant.1 _ c.in-Some.ensures c.in_default-seen.is)

pub returns-in_default : goal.returns-in_default
returns-in_default c = never_none _ _ _ c.requires.0 _ _ _ _ c.loop-len.invariant.1 _ _ _ c.in_default.ensures

pub returns : goal.returns
returns c = search never_long
