use Rattle.fst_flats.proofs.BuildingLemmas.{makes-residual}
use Rattle.fst_flats.proofs.name_facts.fact_of_name.Goals as goal

pub returns-in_err-is_data : goal.returns-in_err-is_data
returns-in_err-is_data c = makes-residual _ c.from_residual.result _ c.from_residual.ensures.1

pub returns-in_err-renamed : goal.returns-in_err-renamed
returns-in_err-renamed c = makes-residual _ c.from_residual-in_err-renamed.result _ c.from_residual-in_err-renamed.ensures.1
