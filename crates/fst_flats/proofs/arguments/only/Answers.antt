use Rattle.fst_flats.proofs.ArgumentLemmas.{only-none}
use Rattle.fst_flats.proofs.arguments.only.Goals as goal

pub returns-else-args-eq1 : goal.returns-else-args-eq1
returns-else-args-eq1 c = only-none c.args.args.now c.if-args-eq1.false
