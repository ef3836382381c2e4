use Rattle.std.proofs.Common.{[], length, sym, subst}
use Rattle.fst_cert.specs.declared.line.Line.{Line}
use Rattle.std.proofs.Common.{List}
use Rattle.fst_terms.specs.Marks.{marks_of}
use Rattle.fst_cases.specs.Cited.{IsCore}
use Rattle.fst_cases.specs.Knowing.{look_of}
use Rattle.fst_cases.specs.Refuting.{IsRefuted}
use Rattle.fst_cases.proofs.KeptLemmas.{closes-kept}
use Rattle.fst_cases.proofs.RefutationRules.{refuted-close}
use Rattle.fst_cases.proofs.closings.refuted_by.Goals as goal

pub returns : goal.returns
returns c = λ f h.
    (let core : IsCore c.args.marks.now c.in_ok-core.core c.args.equations c.args.rows c.args.verdict =
    subst (λ (rs : List Line). IsCore c.args.marks.now c.in_ok-core.core c.args.equations rs c.args.verdict) c.as_slice-2.ensures
    (subst (λ (es : List Line). IsCore c.args.marks.now c.in_ok-core.core es c.as_slice-2.result.now c.args.verdict) c.as_slice.ensures c.in_ok-core.ensures) in (
      core.falls,
      (
        core.within,
        subst (IsRefuted f [] (length c.args.marks.now) (look_of c.in_ok-core.core)) (sym c.in_ok-lines.ensures)
            (refuted-close f [] (length c.args.marks.now) (look_of c.in_ok-core.core) c.args.equations c.args.rows c.args.verdict
            (closes-kept f (look_of c.in_ok-core.core) (marks_of c.args.marks.now) c.args.equations c.args.rows c.args.verdict core.equations_kept core.rows_kept core.verdict_kept h)),
      ),
    ))
