use Rattle.std.proofs.Common.{subst}
use Rattle.fst_congruence.specs.Makers.{FoundDifferent}
use Rattle.fst_cases.proofs.ApartLemmas.{different-differ, explained}
use Rattle.fst_cases.proofs.clashes.refute_makers.Goals as goal

pub returns-in_ok-leaf-in-Some : goal.returns-in_ok-leaf-in-Some
returns-in_ok-leaf-in-Some c = λ f is.
    c.in_ok-leaf-in-Some.ensures f (explained f c.args.marks.now c.args.closure.now is)
    (different-differ f c.args.marks.now c.args.closure.now is c.args.truth _ _ (subst (FoundDifferent c.args.closure.now c.args.truth) c.in-Some.is c.in_ok-first_different.ensures))
