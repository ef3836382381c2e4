use Rattle.fst_flats.proofs.BuildingLemmas.{makes-residual}
use Rattle.fst_flats.proofs.list_facts.head_fact.Goals as goal

pub returns-in_err-copy : goal.returns-in_err-copy
returns-in_err-copy c = makes-residual _ c.from_residual.result _ c.from_residual.ensures.1

pub returns-in_err-new : goal.returns-in_err-new
returns-in_err-new c = makes-residual _ c.from_residual-in_err-new.result _ c.from_residual-in_err-new.ensures.1
