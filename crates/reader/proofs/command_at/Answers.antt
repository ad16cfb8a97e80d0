-- The byte picks the command as in the format, and the command's function says what the format does there.
use native.Mathlib.Omega.{arith}
use Rattle.reader.proofs.Commands.{command_none, command_pair, command_run, command_single, command_transfer, command_cut, command_done, command_end, command_no_transfer, command_no_cut, command_unknown}
use Rattle.reader.proofs.command_at.Goals as goal
use Rattle.reader.proofs.command_at.Goals.{in_default-via-in-84+else-p, in_default-via-in-66+else-p-2, in_default-via-in_default-1}

pub returns-then-at-s : goal.returns-then-at-s
returns-then-at-s c = command_none c.args.s.now c.args.at c.args.p c.args.lengths.now c.args.counts.now (omega arith) _ c.refused.ensures

pub returns-in-67 : goal.returns-in-67
returns-in-67 c = search command_pair

pub returns-in-82 : goal.returns-in-82
returns-in-82 c = search command_run

pub returns-in-83 : goal.returns-in-83
returns-in-83 c = search command_single

pub returns-in-84 : goal.returns-in-84
returns-in-84 c = search command_transfer

pub returns-in-66 : goal.returns-in-66
returns-in-66 c = search command_cut

pub returns-in-72 : goal.returns-in-72
returns-in-72 c = search command_done

pub returns-in-69 : goal.returns-in-69
returns-in-69 c = search command_end

pub returns-in_default : goal.returns-in_default
returns-in_default c = elim c.in_default.branch [
  | in_default-via-in-84+else-p w ↦ search command_no_transfer
  | in_default-via-in-66+else-p-2 w ↦ search command_no_cut
  | in_default-via-in_default-1 w ↦ search command_unknown
]
