use Rattle.std.proofs.Common.{◌∙◌, map, ap₂}
use Rattle.fst_terms.proofs.PrepareLemmas.{given}
use Rattle.fst_terms.specs.Terms.{plain_term}
use Rattle.fst_program.specs.Paths.{demands_of}
use Rattle.fst_program.specs.Plain.{plain_fun, plain_program}
use Rattle.fst_star.proofs.StartingLemmas.{started}
use Rattle.fst_star.proofs.starting.start.Goals as goal

pub returns : goal.returns
returns c =
    let ok = c.in_ok-vars.ensures.ok in
    started (plain_program c.args.program.now) (plain_fun c.args.fun.now) c.in_ok-vars.vars c.in_ok-args.args c.in_ok-vars.hyps _ _
    (given _ c.start_vars.result _ c.start_vars.ensures ok.0) c.in_ok-args.ensures c.in_ok-input.ensures
    (given _ c.demands_of-hyps.result _ c.demands_of-hyps.ensures ok.1 ∙ ap₂ (λ ts s. demands_of (plain_fun c.args.fun.now) (map plain_term ts) (plain_term s)) c.as_slice.ensures c.get.ensures)
    c.new-choices.ensures
