use Rattle.std.proofs.Common.{subst}
use Rattle.fst_cases.specs.Clashes.{FoundUnequal}
use Rattle.fst_cases.proofs.ApartLemmas.{explained, shown}
use Rattle.fst_cases.proofs.clashes.refute_sides.Goals as goal

pub returns-in_ok-leaf-in-Some : goal.returns-in_ok-leaf-in-Some
returns-in_ok-leaf-in-Some c = λ f roles is.
    let found = subst (FoundUnequal c.args.closure.now c.args.roles.now.atoms c.args.marks.now) c.in-Some.is (subst (λ rs. FoundUnequal c.args.closure.now rs c.args.marks.now c.first_unequal.result) c.as_slice.ensures c.first_unequal.ensures) in
    let s = shown f c.args.roles.now c.args.marks.now roles is.full c.in-Some.sides.at c.in-Some.sides.left c.in-Some.sides.right found.0 found.1.0 found.1.1 in
    c.in_ok-leaf-in-Some.ensures f s.atom s.mark (explained f c.args.marks.now c.args.closure.now is) s.has s.equation s.off s.left s.right
