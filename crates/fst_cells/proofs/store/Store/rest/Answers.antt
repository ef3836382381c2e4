use Rattle.fst_cells.proofs.store.Store.rest.Goals as goal

pub returns-in_default-clause-rest : goal.returns-in_default-clause-rest
returns-in_default-clause-rest c = λ v k. absurd (c.in_default.ensures.value v k)

pub returns-clause-rest : goal.returns-clause-rest
returns-clause-rest c = λ v k. c.rest.ensures.rest c.args.self.now v (c.in-Some.ensures.value v k)
