use mathlib.Core.Path.{refl}
use mathlib.Core.Bool.{true, false}
use borrow.Author.Rules.{rules}
use Rattle.theory.specs.Answers.{Answers}
use Rattle.theory.proofs.Answered.{refute}
use Rattle.classes.specs.Inner.Tables.{InterleavedIn}
use Rattle.classes.proofs.ClassLaws.{atomic_answer}
use Rattle.classes.proofs.atomic_by.Goals as goal

pub returns : goal.returns
returns c =
    atomic_answer _ _ c.requires.0 _ c.no_pair.result
    (λ e. record {
      none = λ z j b k. let h = c.no_pair.ensures.none e z j b k in
          let a : Answers (InterleavedIn c.args.history.now c.args.firsts.now b z) false = search rules in refute a refl;
    })
    (λ e. let s = c.no_pair.ensures.some e in
    let a : Answers (InterleavedIn c.args.history.now c.args.firsts.now s.1.1.0 s.0) true = (let h = s.1.1.1.1 in search rules) in
    record { c = s.0; inside = s.1.0; b = s.1.1.0; before = s.1.1.1.0; holds = a.sound refl })
