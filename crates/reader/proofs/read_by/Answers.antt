-- The length is tested first, as in the format. Then each turn reads at the offset of the bytes that were lent, and each arm is one command of the format.
use mathlib.Core.Path.{◌≡◌, refl, ap, ◌∙◌}
use native.Mathlib.Omega.{arith}
use Rattle.std.proofs.Common.{Ok}
use Rattle.reader.specs.declared.Command.TheVariants.{Pair, Run, Step, Cut, Done, End}
use Rattle.book.proofs.Refusals.{passed_on}
use Rattle.reader.proofs.Loop.{begins, pair_again, run_again, step_again, cut_again, done_low, done_again, ends_refused, ends_accepted, long_refused}
use Rattle.reader.proofs.read_by.Goals as goal

pub returns-then-s-rules : goal.returns-then-s-rules
returns-then-s-rules c = search long_refused

pub loop-command-init : goal.loop-command-init
loop-command-init c = (search begins, refl)

pub loop-command-preserved-in-Pair : goal.loop-command-preserved-in-Pair
loop-command-preserved-in-Pair c =
    let w = rw c.loop-command.invariant.1 at c.take.ensures.1 in
    let e : c.take.result ≡ Ok (Pair c.in-Pair.index) = c.in_ok-command.was ∙ ap Ok c.in-Pair.is in
    (pair_again _ _ _ _ _ _ _ c.loop-command.invariant.0 w _ e _ c.past_pair-p.ensures, cc (c.take.ensures.0, c.loop-command.invariant.1))

pub loop-command-preserved-in-Run : goal.loop-command-preserved-in-Run
loop-command-preserved-in-Run c =
    let w = rw c.loop-command.invariant.1 at c.take.ensures.1 in
    let e : c.take.result ≡ Ok Run = c.in_ok-command.was ∙ ap Ok c.in-Run.is in
    (run_again _ _ _ _ _ _ _ c.loop-command.invariant.0 w e _ c.past_run-p.ensures, cc (c.take.ensures.0, c.loop-command.invariant.1))

pub loop-command-preserved-in-Step : goal.loop-command-preserved-in-Step
loop-command-preserved-in-Step c =
    let w = rw c.loop-command.invariant.1 at c.take.ensures.1 in
    let e : c.take.result ≡ Ok (Step c.in-Step.code c.in-Step.field-1) = c.in_ok-command.was ∙ ap Ok c.in-Step.is in
    (step_again _ _ _ _ _ _ _ c.loop-command.invariant.0 w _ _ e _ c.past_step-p.ensures, cc (c.take.ensures.0, c.loop-command.invariant.1))

pub loop-command-preserved-in-Cut : goal.loop-command-preserved-in-Cut
loop-command-preserved-in-Cut c =
    let w = rw c.loop-command.invariant.1 at c.take.ensures.1 in
    let e : c.take.result ≡ Ok (Cut c.in-Cut.index) = c.in_ok-command.was ∙ ap Ok c.in-Cut.is in
    (cut_again _ _ _ _ _ _ _ c.loop-command.invariant.0 w _ e _ c.past_cut-p.ensures, cc (c.take.ensures.0, c.loop-command.invariant.1))

pub bounds-book-p-in-Done : goal.bounds-book-p-in-Done
bounds-book-p-in-Done c =
    let w = rw c.loop-command.invariant.1 at c.take.ensures.1 in
    let e : c.take.result ≡ Ok (Done c.in-Done.run') = c.in_ok-command.was ∙ ap Ok c.in-Done.is in
    done_low _ _ _ _ _ _ _ c.loop-command.invariant.0 w _ e

pub past_done-p-requires : goal.past_done-p-requires
past_done-p-requires c =
    let w = rw c.loop-command.invariant.1 at c.take.ensures.1 in
    let e : c.take.result ≡ Ok (Done c.in-Done.run') = c.in_ok-command.was ∙ ap Ok c.in-Done.is in
    done_low _ _ _ _ _ _ _ c.loop-command.invariant.0 w _ e

pub loop-command-preserved : goal.loop-command-preserved
loop-command-preserved c =
    let w = rw c.loop-command.invariant.1 at c.take.ensures.1 in
    let e : c.take.result ≡ Ok (Done c.in-Done.run') = c.in_ok-command.was ∙ ap Ok c.in-Done.is in
    (done_again _ _ _ _ _ _ _ c.loop-command.invariant.0 w _ e _ _ c.wide.ensures.0 c.past_done-p.ensures, cc (c.take.ensures.0, c.loop-command.invariant.1))

pub returns-in-End : goal.returns-in-End
returns-in-End c =
    let w = rw c.loop-command.invariant.1 at c.take.ensures.1 in
    let e : c.take.result ≡ Ok End = c.in_ok-command.was ∙ ap Ok c.in-End.is in
    ends_accepted _ _ _ _ _ _ _ _ c.start-p.ensures c.loop-command.invariant.0 w (omega arith) _ e c.accepted.ensures

pub returns-in_err-command : goal.returns-in_err-command
returns-in_err-command c =
    let w = rw c.loop-command.invariant.1 at c.take.ensures.1 in
    rw (passed_on _ _ c.from_residual.ensures.1) (ends_refused _ _ _ _ _ _ _ _ c.start-p.ensures c.loop-command.invariant.0 w (omega arith) _ (c.in_err-command.was))
