-- The facts of functions of worked goals.
use Rattle.std.proofs.Common.{◌≡◌, [], ◌∷◌, refl}
use Rattle.std.specs.Prelude.{codes, pos, true, false}
use Rattle.fst_base.specs.declared.op.Op.TheVariants as op
use Rattle.fst_base.specs.Sorts.{s_unit, s_bool, s_int, s_pair, s_list, s_either}
use Rattle.fst_terms.specs.Terms.{t_var, t_int, t_bool, t_unit, t_prim, t_if, t_app, row}
use Rattle.fst_program.proofs.WorkedPrograms.{sum}
use Rattle.fst_program.proofs.WorkedEffects.{st, ex, bank}
use Rattle.fst_program.specs.FunctionFacts.{function_facts, flat_in}

sum_facts_0 : function_facts sum (record { vars = (record { name = codes "l"; sort = (s_list s_int) } ∷ record { name = codes "sum"; sort = s_int } ∷ []); hyps = ((t_prim op.Eq s_bool (row ((t_var 0) ∷ (t_app 0 s_int (row ((t_var 1) ∷ []))) ∷ [])) 0) ∷ []); goal = (t_prim op.Eq s_bool (row ((t_var 0) ∷ (t_app 0 s_int (row ((t_var 1) ∷ []))) ∷ [])) 171) }) 1 ≡ ((t_if (t_prim op.Eq s_bool (row ((t_var 1) ∷ (t_prim op.Nil (s_list s_int) (row ([])) 0) ∷ [])) 0) (t_prim op.Eq s_bool (row ((t_app 0 s_int (row ((t_var 1) ∷ []))) ∷ (t_int (pos 0)) ∷ [])) 0) (t_bool true)) ∷ (t_if (t_prim op.Eq s_bool (row ((t_var 1) ∷ (t_prim op.Cons (s_list s_int) (row ((t_prim op.Hd s_int (row ((t_var 1) ∷ [])) 0) ∷ (t_prim op.Tl (s_list s_int) (row ((t_var 1) ∷ [])) 0) ∷ [])) 0) ∷ [])) 0) (t_prim op.Eq s_bool (row ((t_app 0 s_int (row ((t_var 1) ∷ []))) ∷ (t_prim op.Add s_int (row ((t_prim op.Hd s_int (row ((t_var 1) ∷ [])) 0) ∷ (t_app 0 s_int (row ((t_prim op.Tl (s_list s_int) (row ((t_var 1) ∷ [])) 0) ∷ []))) ∷ [])) 0) ∷ [])) 0) (t_bool true)) ∷ [])
sum_facts_0 = refl

sum_flat_0 : flat_in sum 1 (record { vars = (record { name = codes "l"; sort = (s_list s_int) } ∷ record { name = codes "sum"; sort = s_int } ∷ []); hyps = ((t_prim op.Eq s_bool (row ((t_var 0) ∷ (t_app 0 s_int (row ((t_var 1) ∷ []))) ∷ [])) 0) ∷ []); goal = (t_prim op.Eq s_bool (row ((t_var 0) ∷ (t_app 0 s_int (row ((t_var 1) ∷ []))) ∷ [])) 171) }) ≡ record { vars = (record { name = codes "l"; sort = (s_list s_int) } ∷ record { name = codes "sum"; sort = s_int } ∷ []); formulas = ((t_prim op.Eq s_bool (row ((t_var 0) ∷ (t_app 0 s_int (row ((t_var 1) ∷ []))) ∷ [])) 0) ∷ (t_if (t_prim op.Eq s_bool (row ((t_var 1) ∷ (t_prim op.Nil (s_list s_int) (row ([])) 0) ∷ [])) 0) (t_prim op.Eq s_bool (row ((t_app 0 s_int (row ((t_var 1) ∷ []))) ∷ (t_int (pos 0)) ∷ [])) 0) (t_bool true)) ∷ (t_if (t_prim op.Eq s_bool (row ((t_var 1) ∷ (t_prim op.Cons (s_list s_int) (row ((t_prim op.Hd s_int (row ((t_var 1) ∷ [])) 0) ∷ (t_prim op.Tl (s_list s_int) (row ((t_var 1) ∷ [])) 0) ∷ [])) 0) ∷ [])) 0) (t_prim op.Eq s_bool (row ((t_app 0 s_int (row ((t_var 1) ∷ []))) ∷ (t_prim op.Add s_int (row ((t_prim op.Hd s_int (row ((t_var 1) ∷ [])) 0) ∷ (t_app 0 s_int (row ((t_prim op.Tl (s_list s_int) (row ((t_var 1) ∷ [])) 0) ∷ []))) ∷ [])) 0) ∷ [])) 0) (t_bool true)) ∷ (t_if (t_prim op.Eq s_bool (row ((t_var 1) ∷ (t_prim op.Nil (s_list s_int) (row ([])) 0) ∷ [])) 0) (t_bool true) (t_prim op.Eq s_bool (row ((t_var 1) ∷ (t_prim op.Cons (s_list s_int) (row ((t_prim op.Hd s_int (row ((t_var 1) ∷ [])) 0) ∷ (t_prim op.Tl (s_list s_int) (row ((t_var 1) ∷ [])) 0) ∷ [])) 0) ∷ [])) 0)) ∷ []); hyps = 1; goal = (t_prim op.Eq s_bool (row ((t_var 0) ∷ (t_app 0 s_int (row ((t_var 1) ∷ []))) ∷ [])) 0); terms = ((t_prim op.Eq s_bool (row ((t_var 0) ∷ (t_app 0 s_int (row ((t_var 1) ∷ []))) ∷ [])) 0) ∷ (t_var 0) ∷ (t_app 0 s_int (row ((t_var 1) ∷ []))) ∷ (t_var 1) ∷ (t_prim op.Eq s_bool (row ((t_var 1) ∷ (t_prim op.Nil (s_list s_int) (row ([])) 0) ∷ [])) 0) ∷ (t_prim op.Nil (s_list s_int) (row ([])) 0) ∷ (t_prim op.Eq s_bool (row ((t_app 0 s_int (row ((t_var 1) ∷ []))) ∷ (t_int (pos 0)) ∷ [])) 0) ∷ (t_int (pos 0)) ∷ (t_prim op.Eq s_bool (row ((t_var 1) ∷ (t_prim op.Cons (s_list s_int) (row ((t_prim op.Hd s_int (row ((t_var 1) ∷ [])) 0) ∷ (t_prim op.Tl (s_list s_int) (row ((t_var 1) ∷ [])) 0) ∷ [])) 0) ∷ [])) 0) ∷ (t_prim op.Cons (s_list s_int) (row ((t_prim op.Hd s_int (row ((t_var 1) ∷ [])) 0) ∷ (t_prim op.Tl (s_list s_int) (row ((t_var 1) ∷ [])) 0) ∷ [])) 0) ∷ (t_prim op.Hd s_int (row ((t_var 1) ∷ [])) 0) ∷ (t_prim op.Tl (s_list s_int) (row ((t_var 1) ∷ [])) 0) ∷ (t_prim op.Eq s_bool (row ((t_app 0 s_int (row ((t_var 1) ∷ []))) ∷ (t_prim op.Add s_int (row ((t_prim op.Hd s_int (row ((t_var 1) ∷ [])) 0) ∷ (t_app 0 s_int (row ((t_prim op.Tl (s_list s_int) (row ((t_var 1) ∷ [])) 0) ∷ []))) ∷ [])) 0) ∷ [])) 0) ∷ (t_prim op.Add s_int (row ((t_prim op.Hd s_int (row ((t_var 1) ∷ [])) 0) ∷ (t_app 0 s_int (row ((t_prim op.Tl (s_list s_int) (row ((t_var 1) ∷ [])) 0) ∷ []))) ∷ [])) 0) ∷ (t_app 0 s_int (row ((t_prim op.Tl (s_list s_int) (row ((t_var 1) ∷ [])) 0) ∷ []))) ∷ (t_bool true) ∷ (t_bool false) ∷ t_unit ∷ []); atoms = ((t_prim op.Eq s_bool (row ((t_var 0) ∷ (t_app 0 s_int (row ((t_var 1) ∷ []))) ∷ [])) 0) ∷ (t_prim op.Eq s_bool (row ((t_var 1) ∷ (t_prim op.Nil (s_list s_int) (row ([])) 0) ∷ [])) 0) ∷ (t_prim op.Eq s_bool (row ((t_app 0 s_int (row ((t_var 1) ∷ []))) ∷ (t_int (pos 0)) ∷ [])) 0) ∷ (t_prim op.Eq s_bool (row ((t_var 1) ∷ (t_prim op.Cons (s_list s_int) (row ((t_prim op.Hd s_int (row ((t_var 1) ∷ [])) 0) ∷ (t_prim op.Tl (s_list s_int) (row ((t_var 1) ∷ [])) 0) ∷ [])) 0) ∷ [])) 0) ∷ (t_prim op.Eq s_bool (row ((t_app 0 s_int (row ((t_var 1) ∷ []))) ∷ (t_prim op.Add s_int (row ((t_prim op.Hd s_int (row ((t_var 1) ∷ [])) 0) ∷ (t_app 0 s_int (row ((t_prim op.Tl (s_list s_int) (row ((t_var 1) ∷ [])) 0) ∷ []))) ∷ [])) 0) ∷ [])) 0) ∷ []) }
sum_flat_0 = refl

ex_facts_0 : function_facts ex (record { vars = (record { name = codes "n"; sort = s_int } ∷ record { name = codes "input"; sort = s_int } ∷ record { name = codes "raise"; sort = (s_pair (s_either s_int s_int) s_int) } ∷ []); hyps = ((t_prim op.Eq s_bool (row ((t_var 0) ∷ (t_prim op.Pair (s_pair (s_either s_int s_int) s_int) (row ((t_prim op.Inl (s_either s_int s_int) (row ((t_var 2) ∷ [])) 262) ∷ (t_var 1) ∷ [])) 261) ∷ [])) 259) ∷ (t_prim op.Eq s_bool (row ((t_prim op.Fst (s_either s_int s_int) (row ((t_var 0) ∷ [])) 0) ∷ (t_prim op.Inl (s_either s_int s_int) (row ((t_prim op.Outl s_int (row ((t_prim op.Fst (s_either s_int s_int) (row ((t_var 0) ∷ [])) 0) ∷ [])) 0) ∷ [])) 0) ∷ [])) 0) ∷ []); goal = (t_prim op.Eq s_bool (row ((t_prim op.Pair (s_pair (s_either s_int s_int) s_int) (row ((t_prim op.Inl (s_either s_int s_int) (row ((t_prim op.Outl s_int (row ((t_prim op.Fst (s_either s_int s_int) (row ((t_var 0) ∷ [])) 0) ∷ [])) 0) ∷ [])) 176) ∷ (t_prim op.Snd s_int (row ((t_var 0) ∷ [])) 0) ∷ [])) 175) ∷ (t_prim op.Pair (s_pair (s_either s_int s_int) s_int) (row ((t_prim op.Inl (s_either s_int s_int) (row ((t_var 2) ∷ [])) 360) ∷ (t_var 1) ∷ [])) 359) ∷ [])) 357) }) 1 ≡ ([])
ex_facts_0 = refl

ex_flat_0 : flat_in ex 1 (record { vars = (record { name = codes "n"; sort = s_int } ∷ record { name = codes "input"; sort = s_int } ∷ record { name = codes "raise"; sort = (s_pair (s_either s_int s_int) s_int) } ∷ []); hyps = ((t_prim op.Eq s_bool (row ((t_var 0) ∷ (t_prim op.Pair (s_pair (s_either s_int s_int) s_int) (row ((t_prim op.Inl (s_either s_int s_int) (row ((t_var 2) ∷ [])) 262) ∷ (t_var 1) ∷ [])) 261) ∷ [])) 259) ∷ (t_prim op.Eq s_bool (row ((t_prim op.Fst (s_either s_int s_int) (row ((t_var 0) ∷ [])) 0) ∷ (t_prim op.Inl (s_either s_int s_int) (row ((t_prim op.Outl s_int (row ((t_prim op.Fst (s_either s_int s_int) (row ((t_var 0) ∷ [])) 0) ∷ [])) 0) ∷ [])) 0) ∷ [])) 0) ∷ []); goal = (t_prim op.Eq s_bool (row ((t_prim op.Pair (s_pair (s_either s_int s_int) s_int) (row ((t_prim op.Inl (s_either s_int s_int) (row ((t_prim op.Outl s_int (row ((t_prim op.Fst (s_either s_int s_int) (row ((t_var 0) ∷ [])) 0) ∷ [])) 0) ∷ [])) 176) ∷ (t_prim op.Snd s_int (row ((t_var 0) ∷ [])) 0) ∷ [])) 175) ∷ (t_prim op.Pair (s_pair (s_either s_int s_int) s_int) (row ((t_prim op.Inl (s_either s_int s_int) (row ((t_var 2) ∷ [])) 360) ∷ (t_var 1) ∷ [])) 359) ∷ [])) 357) }) ≡ record { vars = (record { name = codes "n"; sort = s_int } ∷ record { name = codes "input"; sort = s_int } ∷ record { name = codes "raise"; sort = (s_pair (s_either s_int s_int) s_int) } ∷ []); formulas = ((t_prim op.Eq s_bool (row ((t_var 0) ∷ (t_prim op.Pair (s_pair (s_either s_int s_int) s_int) (row ((t_prim op.Inl (s_either s_int s_int) (row ((t_var 2) ∷ [])) 0) ∷ (t_var 1) ∷ [])) 0) ∷ [])) 0) ∷ (t_prim op.Eq s_bool (row ((t_prim op.Fst (s_either s_int s_int) (row ((t_var 0) ∷ [])) 0) ∷ (t_prim op.Inl (s_either s_int s_int) (row ((t_prim op.Outl s_int (row ((t_prim op.Fst (s_either s_int s_int) (row ((t_var 0) ∷ [])) 0) ∷ [])) 0) ∷ [])) 0) ∷ [])) 0) ∷ (t_if (t_prim op.Eq s_bool (row ((t_prim op.Fst (s_either s_int s_int) (row ((t_var 0) ∷ [])) 0) ∷ (t_prim op.Inl (s_either s_int s_int) (row ((t_prim op.Outl s_int (row ((t_prim op.Fst (s_either s_int s_int) (row ((t_var 0) ∷ [])) 0) ∷ [])) 0) ∷ [])) 0) ∷ [])) 0) (t_bool true) (t_prim op.Eq s_bool (row ((t_prim op.Fst (s_either s_int s_int) (row ((t_var 0) ∷ [])) 0) ∷ (t_prim op.Inr (s_either s_int s_int) (row ((t_prim op.Outr s_int (row ((t_prim op.Fst (s_either s_int s_int) (row ((t_var 0) ∷ [])) 0) ∷ [])) 0) ∷ [])) 0) ∷ [])) 0)) ∷ (t_if (t_prim op.Eq s_bool (row ((t_var 2) ∷ (t_prim op.Outl s_int (row ((t_prim op.Fst (s_either s_int s_int) (row ((t_var 0) ∷ [])) 0) ∷ [])) 0) ∷ [])) 0) (t_bool true) (t_if (t_prim op.Eq s_bool (row ((t_var 2) ∷ (t_prim op.Outl s_int (row ((t_prim op.Fst (s_either s_int s_int) (row ((t_var 0) ∷ [])) 0) ∷ [])) 0) ∷ [])) 0) (t_bool false) (t_bool true))) ∷ []); hyps = 2; goal = (t_prim op.Eq s_bool (row ((t_prim op.Pair (s_pair (s_either s_int s_int) s_int) (row ((t_prim op.Inl (s_either s_int s_int) (row ((t_prim op.Outl s_int (row ((t_prim op.Fst (s_either s_int s_int) (row ((t_var 0) ∷ [])) 0) ∷ [])) 0) ∷ [])) 0) ∷ (t_prim op.Snd s_int (row ((t_var 0) ∷ [])) 0) ∷ [])) 0) ∷ (t_prim op.Pair (s_pair (s_either s_int s_int) s_int) (row ((t_prim op.Inl (s_either s_int s_int) (row ((t_var 2) ∷ [])) 0) ∷ (t_var 1) ∷ [])) 0) ∷ [])) 0); terms = ((t_prim op.Eq s_bool (row ((t_prim op.Fst (s_either s_int s_int) (row ((t_var 0) ∷ [])) 0) ∷ (t_prim op.Inl (s_either s_int s_int) (row ((t_var 2) ∷ [])) 0) ∷ [])) 0) ∷ (t_prim op.Fst (s_either s_int s_int) (row ((t_var 0) ∷ [])) 0) ∷ (t_var 0) ∷ (t_prim op.Inl (s_either s_int s_int) (row ((t_var 2) ∷ [])) 0) ∷ (t_var 2) ∷ (t_prim op.Eq s_bool (row ((t_prim op.Snd s_int (row ((t_var 0) ∷ [])) 0) ∷ (t_var 1) ∷ [])) 0) ∷ (t_prim op.Snd s_int (row ((t_var 0) ∷ [])) 0) ∷ (t_var 1) ∷ (t_prim op.Eq s_bool (row ((t_prim op.Fst (s_either s_int s_int) (row ((t_var 0) ∷ [])) 0) ∷ (t_prim op.Inl (s_either s_int s_int) (row ((t_prim op.Outl s_int (row ((t_prim op.Fst (s_either s_int s_int) (row ((t_var 0) ∷ [])) 0) ∷ [])) 0) ∷ [])) 0) ∷ [])) 0) ∷ (t_prim op.Inl (s_either s_int s_int) (row ((t_prim op.Outl s_int (row ((t_prim op.Fst (s_either s_int s_int) (row ((t_var 0) ∷ [])) 0) ∷ [])) 0) ∷ [])) 0) ∷ (t_prim op.Outl s_int (row ((t_prim op.Fst (s_either s_int s_int) (row ((t_var 0) ∷ [])) 0) ∷ [])) 0) ∷ (t_prim op.Eq s_bool (row ((t_prim op.Outl s_int (row ((t_prim op.Fst (s_either s_int s_int) (row ((t_var 0) ∷ [])) 0) ∷ [])) 0) ∷ (t_var 2) ∷ [])) 0) ∷ (t_prim op.Eq s_bool (row ((t_prim op.Fst (s_either s_int s_int) (row ((t_var 0) ∷ [])) 0) ∷ (t_prim op.Inr (s_either s_int s_int) (row ((t_prim op.Outr s_int (row ((t_prim op.Fst (s_either s_int s_int) (row ((t_var 0) ∷ [])) 0) ∷ [])) 0) ∷ [])) 0) ∷ [])) 0) ∷ (t_prim op.Inr (s_either s_int s_int) (row ((t_prim op.Outr s_int (row ((t_prim op.Fst (s_either s_int s_int) (row ((t_var 0) ∷ [])) 0) ∷ [])) 0) ∷ [])) 0) ∷ (t_prim op.Outr s_int (row ((t_prim op.Fst (s_either s_int s_int) (row ((t_var 0) ∷ [])) 0) ∷ [])) 0) ∷ (t_prim op.Pair (s_pair (s_either s_int s_int) s_int) (row ((t_prim op.Fst (s_either s_int s_int) (row ((t_var 0) ∷ [])) 0) ∷ (t_prim op.Snd s_int (row ((t_var 0) ∷ [])) 0) ∷ [])) 0) ∷ (t_bool true) ∷ (t_bool false) ∷ t_unit ∷ []); atoms = ((t_prim op.Eq s_bool (row ((t_prim op.Fst (s_either s_int s_int) (row ((t_var 0) ∷ [])) 0) ∷ (t_prim op.Inl (s_either s_int s_int) (row ((t_var 2) ∷ [])) 0) ∷ [])) 0) ∷ (t_prim op.Eq s_bool (row ((t_prim op.Snd s_int (row ((t_var 0) ∷ [])) 0) ∷ (t_var 1) ∷ [])) 0) ∷ (t_prim op.Eq s_bool (row ((t_prim op.Fst (s_either s_int s_int) (row ((t_var 0) ∷ [])) 0) ∷ (t_prim op.Inl (s_either s_int s_int) (row ((t_prim op.Outl s_int (row ((t_prim op.Fst (s_either s_int s_int) (row ((t_var 0) ∷ [])) 0) ∷ [])) 0) ∷ [])) 0) ∷ [])) 0) ∷ (t_prim op.Eq s_bool (row ((t_prim op.Outl s_int (row ((t_prim op.Fst (s_either s_int s_int) (row ((t_var 0) ∷ [])) 0) ∷ [])) 0) ∷ (t_var 2) ∷ [])) 0) ∷ (t_prim op.Eq s_bool (row ((t_prim op.Fst (s_either s_int s_int) (row ((t_var 0) ∷ [])) 0) ∷ (t_prim op.Inr (s_either s_int s_int) (row ((t_prim op.Outr s_int (row ((t_prim op.Fst (s_either s_int s_int) (row ((t_var 0) ∷ [])) 0) ∷ [])) 0) ∷ [])) 0) ∷ [])) 0) ∷ []) }
ex_flat_0 = refl

ex_facts_1 : function_facts ex (record { vars = (record { name = codes "n"; sort = s_int } ∷ record { name = codes "input"; sort = s_int } ∷ record { name = codes "raise"; sort = (s_pair (s_either s_int s_int) s_int) } ∷ []); hyps = ((t_prim op.Eq s_bool (row ((t_var 0) ∷ (t_prim op.Pair (s_pair (s_either s_int s_int) s_int) (row ((t_prim op.Inl (s_either s_int s_int) (row ((t_var 2) ∷ [])) 262) ∷ (t_var 1) ∷ [])) 261) ∷ [])) 259) ∷ (t_prim op.Eq s_bool (row ((t_prim op.Fst (s_either s_int s_int) (row ((t_var 0) ∷ [])) 0) ∷ (t_prim op.Inr (s_either s_int s_int) (row ((t_prim op.Outr s_int (row ((t_prim op.Fst (s_either s_int s_int) (row ((t_var 0) ∷ [])) 0) ∷ [])) 0) ∷ [])) 0) ∷ [])) 0) ∷ []); goal = (t_prim op.Eq s_bool (row ((t_prim op.Pair (s_pair (s_either s_int s_int) s_int) (row ((t_prim op.Inr (s_either s_int s_int) (row ((t_prim op.Add s_int (row ((t_prim op.Outr s_int (row ((t_prim op.Fst (s_either s_int s_int) (row ((t_var 0) ∷ [])) 0) ∷ [])) 0) ∷ (t_int (pos 1)) ∷ [])) 398) ∷ [])) 73) ∷ (t_prim op.Snd s_int (row ((t_var 0) ∷ [])) 0) ∷ [])) 72) ∷ (t_prim op.Pair (s_pair (s_either s_int s_int) s_int) (row ((t_prim op.Inl (s_either s_int s_int) (row ((t_var 2) ∷ [])) 360) ∷ (t_var 1) ∷ [])) 359) ∷ [])) 357) }) 1 ≡ ([])
ex_facts_1 = refl

ex_flat_1 : flat_in ex 1 (record { vars = (record { name = codes "n"; sort = s_int } ∷ record { name = codes "input"; sort = s_int } ∷ record { name = codes "raise"; sort = (s_pair (s_either s_int s_int) s_int) } ∷ []); hyps = ((t_prim op.Eq s_bool (row ((t_var 0) ∷ (t_prim op.Pair (s_pair (s_either s_int s_int) s_int) (row ((t_prim op.Inl (s_either s_int s_int) (row ((t_var 2) ∷ [])) 262) ∷ (t_var 1) ∷ [])) 261) ∷ [])) 259) ∷ (t_prim op.Eq s_bool (row ((t_prim op.Fst (s_either s_int s_int) (row ((t_var 0) ∷ [])) 0) ∷ (t_prim op.Inr (s_either s_int s_int) (row ((t_prim op.Outr s_int (row ((t_prim op.Fst (s_either s_int s_int) (row ((t_var 0) ∷ [])) 0) ∷ [])) 0) ∷ [])) 0) ∷ [])) 0) ∷ []); goal = (t_prim op.Eq s_bool (row ((t_prim op.Pair (s_pair (s_either s_int s_int) s_int) (row ((t_prim op.Inr (s_either s_int s_int) (row ((t_prim op.Add s_int (row ((t_prim op.Outr s_int (row ((t_prim op.Fst (s_either s_int s_int) (row ((t_var 0) ∷ [])) 0) ∷ [])) 0) ∷ (t_int (pos 1)) ∷ [])) 398) ∷ [])) 73) ∷ (t_prim op.Snd s_int (row ((t_var 0) ∷ [])) 0) ∷ [])) 72) ∷ (t_prim op.Pair (s_pair (s_either s_int s_int) s_int) (row ((t_prim op.Inl (s_either s_int s_int) (row ((t_var 2) ∷ [])) 360) ∷ (t_var 1) ∷ [])) 359) ∷ [])) 357) }) ≡ record { vars = (record { name = codes "n"; sort = s_int } ∷ record { name = codes "input"; sort = s_int } ∷ record { name = codes "raise"; sort = (s_pair (s_either s_int s_int) s_int) } ∷ []); formulas = ((t_prim op.Eq s_bool (row ((t_var 0) ∷ (t_prim op.Pair (s_pair (s_either s_int s_int) s_int) (row ((t_prim op.Inl (s_either s_int s_int) (row ((t_var 2) ∷ [])) 0) ∷ (t_var 1) ∷ [])) 0) ∷ [])) 0) ∷ (t_prim op.Eq s_bool (row ((t_prim op.Fst (s_either s_int s_int) (row ((t_var 0) ∷ [])) 0) ∷ (t_prim op.Inr (s_either s_int s_int) (row ((t_prim op.Outr s_int (row ((t_prim op.Fst (s_either s_int s_int) (row ((t_var 0) ∷ [])) 0) ∷ [])) 0) ∷ [])) 0) ∷ [])) 0) ∷ (t_if (t_prim op.Eq s_bool (row ((t_prim op.Fst (s_either s_int s_int) (row ((t_var 0) ∷ [])) 0) ∷ (t_prim op.Inl (s_either s_int s_int) (row ((t_prim op.Outl s_int (row ((t_prim op.Fst (s_either s_int s_int) (row ((t_var 0) ∷ [])) 0) ∷ [])) 0) ∷ [])) 0) ∷ [])) 0) (t_bool true) (t_prim op.Eq s_bool (row ((t_prim op.Fst (s_either s_int s_int) (row ((t_var 0) ∷ [])) 0) ∷ (t_prim op.Inr (s_either s_int s_int) (row ((t_prim op.Outr s_int (row ((t_prim op.Fst (s_either s_int s_int) (row ((t_var 0) ∷ [])) 0) ∷ [])) 0) ∷ [])) 0) ∷ [])) 0)) ∷ (t_if (t_prim op.Eq s_bool (row ((t_var 2) ∷ (t_prim op.Outl s_int (row ((t_prim op.Fst (s_either s_int s_int) (row ((t_var 0) ∷ [])) 0) ∷ [])) 0) ∷ [])) 0) (t_bool true) (t_if (t_prim op.Eq s_bool (row ((t_var 2) ∷ (t_prim op.Outl s_int (row ((t_prim op.Fst (s_either s_int s_int) (row ((t_var 0) ∷ [])) 0) ∷ [])) 0) ∷ [])) 0) (t_bool false) (t_bool true))) ∷ []); hyps = 2; goal = (t_prim op.Eq s_bool (row ((t_prim op.Pair (s_pair (s_either s_int s_int) s_int) (row ((t_prim op.Inr (s_either s_int s_int) (row ((t_prim op.Add s_int (row ((t_prim op.Outr s_int (row ((t_prim op.Fst (s_either s_int s_int) (row ((t_var 0) ∷ [])) 0) ∷ [])) 0) ∷ (t_int (pos 1)) ∷ [])) 0) ∷ [])) 0) ∷ (t_prim op.Snd s_int (row ((t_var 0) ∷ [])) 0) ∷ [])) 0) ∷ (t_prim op.Pair (s_pair (s_either s_int s_int) s_int) (row ((t_prim op.Inl (s_either s_int s_int) (row ((t_var 2) ∷ [])) 0) ∷ (t_var 1) ∷ [])) 0) ∷ [])) 0); terms = ((t_prim op.Eq s_bool (row ((t_prim op.Fst (s_either s_int s_int) (row ((t_var 0) ∷ [])) 0) ∷ (t_prim op.Inl (s_either s_int s_int) (row ((t_var 2) ∷ [])) 0) ∷ [])) 0) ∷ (t_prim op.Fst (s_either s_int s_int) (row ((t_var 0) ∷ [])) 0) ∷ (t_var 0) ∷ (t_prim op.Inl (s_either s_int s_int) (row ((t_var 2) ∷ [])) 0) ∷ (t_var 2) ∷ (t_prim op.Eq s_bool (row ((t_prim op.Snd s_int (row ((t_var 0) ∷ [])) 0) ∷ (t_var 1) ∷ [])) 0) ∷ (t_prim op.Snd s_int (row ((t_var 0) ∷ [])) 0) ∷ (t_var 1) ∷ (t_prim op.Eq s_bool (row ((t_prim op.Fst (s_either s_int s_int) (row ((t_var 0) ∷ [])) 0) ∷ (t_prim op.Inr (s_either s_int s_int) (row ((t_prim op.Outr s_int (row ((t_prim op.Fst (s_either s_int s_int) (row ((t_var 0) ∷ [])) 0) ∷ [])) 0) ∷ [])) 0) ∷ [])) 0) ∷ (t_prim op.Inr (s_either s_int s_int) (row ((t_prim op.Outr s_int (row ((t_prim op.Fst (s_either s_int s_int) (row ((t_var 0) ∷ [])) 0) ∷ [])) 0) ∷ [])) 0) ∷ (t_prim op.Outr s_int (row ((t_prim op.Fst (s_either s_int s_int) (row ((t_var 0) ∷ [])) 0) ∷ [])) 0) ∷ (t_prim op.Eq s_bool (row ((t_prim op.Fst (s_either s_int s_int) (row ((t_var 0) ∷ [])) 0) ∷ (t_prim op.Inl (s_either s_int s_int) (row ((t_prim op.Outl s_int (row ((t_prim op.Fst (s_either s_int s_int) (row ((t_var 0) ∷ [])) 0) ∷ [])) 0) ∷ [])) 0) ∷ [])) 0) ∷ (t_prim op.Inl (s_either s_int s_int) (row ((t_prim op.Outl s_int (row ((t_prim op.Fst (s_either s_int s_int) (row ((t_var 0) ∷ [])) 0) ∷ [])) 0) ∷ [])) 0) ∷ (t_prim op.Outl s_int (row ((t_prim op.Fst (s_either s_int s_int) (row ((t_var 0) ∷ [])) 0) ∷ [])) 0) ∷ (t_prim op.Eq s_bool (row ((t_var 2) ∷ (t_prim op.Outl s_int (row ((t_prim op.Fst (s_either s_int s_int) (row ((t_var 0) ∷ [])) 0) ∷ [])) 0) ∷ [])) 0) ∷ (t_prim op.Pair (s_pair (s_either s_int s_int) s_int) (row ((t_prim op.Fst (s_either s_int s_int) (row ((t_var 0) ∷ [])) 0) ∷ (t_prim op.Snd s_int (row ((t_var 0) ∷ [])) 0) ∷ [])) 0) ∷ (t_bool true) ∷ (t_bool false) ∷ t_unit ∷ []); atoms = ((t_prim op.Eq s_bool (row ((t_prim op.Fst (s_either s_int s_int) (row ((t_var 0) ∷ [])) 0) ∷ (t_prim op.Inl (s_either s_int s_int) (row ((t_var 2) ∷ [])) 0) ∷ [])) 0) ∷ (t_prim op.Eq s_bool (row ((t_prim op.Snd s_int (row ((t_var 0) ∷ [])) 0) ∷ (t_var 1) ∷ [])) 0) ∷ (t_prim op.Eq s_bool (row ((t_prim op.Fst (s_either s_int s_int) (row ((t_var 0) ∷ [])) 0) ∷ (t_prim op.Inr (s_either s_int s_int) (row ((t_prim op.Outr s_int (row ((t_prim op.Fst (s_either s_int s_int) (row ((t_var 0) ∷ [])) 0) ∷ [])) 0) ∷ [])) 0) ∷ [])) 0) ∷ (t_prim op.Eq s_bool (row ((t_prim op.Fst (s_either s_int s_int) (row ((t_var 0) ∷ [])) 0) ∷ (t_prim op.Inl (s_either s_int s_int) (row ((t_prim op.Outl s_int (row ((t_prim op.Fst (s_either s_int s_int) (row ((t_var 0) ∷ [])) 0) ∷ [])) 0) ∷ [])) 0) ∷ [])) 0) ∷ (t_prim op.Eq s_bool (row ((t_var 2) ∷ (t_prim op.Outl s_int (row ((t_prim op.Fst (s_either s_int s_int) (row ((t_var 0) ∷ [])) 0) ∷ [])) 0) ∷ [])) 0) ∷ []) }
ex_flat_1 = refl

bank_facts_0 : function_facts bank (record { vars = (record { name = codes "n"; sort = s_int } ∷ record { name = codes "input"; sort = s_int } ∷ record { name = codes "get"; sort = (s_pair (s_either s_int s_int) s_int) } ∷ []); hyps = ((t_if (t_prim op.Le s_bool (row ((t_int (pos 0)) ∷ (t_var 1) ∷ [])) 547) (t_prim op.Le s_bool (row ((t_int (pos 0)) ∷ (t_var 2) ∷ [])) 561) (t_bool false)) ∷ (t_prim op.Eq s_bool (row ((t_var 0) ∷ (t_prim op.Pair (s_pair (s_either s_int s_int) s_int) (row ((t_prim op.Inr (s_either s_int s_int) (row ((t_var 1) ∷ [])) 349) ∷ (t_var 1) ∷ [])) 348) ∷ [])) 346) ∷ (t_prim op.Eq s_bool (row ((t_prim op.Fst (s_either s_int s_int) (row ((t_var 0) ∷ [])) 0) ∷ (t_prim op.Inl (s_either s_int s_int) (row ((t_prim op.Outl s_int (row ((t_prim op.Fst (s_either s_int s_int) (row ((t_var 0) ∷ [])) 0) ∷ [])) 0) ∷ [])) 0) ∷ [])) 0) ∷ []); goal = (t_prim op.Le s_bool (row ((t_int (pos 0)) ∷ (t_prim op.Snd s_int (row ((t_var 0) ∷ [])) 0) ∷ [])) 578) }) 1 ≡ ([])
bank_facts_0 = refl

bank_flat_0 : flat_in bank 3 (record { vars = (record { name = codes "n"; sort = s_int } ∷ record { name = codes "input"; sort = s_int } ∷ record { name = codes "get"; sort = (s_pair (s_either s_int s_int) s_int) } ∷ []); hyps = ((t_if (t_prim op.Le s_bool (row ((t_int (pos 0)) ∷ (t_var 1) ∷ [])) 547) (t_prim op.Le s_bool (row ((t_int (pos 0)) ∷ (t_var 2) ∷ [])) 561) (t_bool false)) ∷ (t_prim op.Eq s_bool (row ((t_var 0) ∷ (t_prim op.Pair (s_pair (s_either s_int s_int) s_int) (row ((t_prim op.Inr (s_either s_int s_int) (row ((t_var 1) ∷ [])) 349) ∷ (t_var 1) ∷ [])) 348) ∷ [])) 346) ∷ (t_prim op.Eq s_bool (row ((t_prim op.Fst (s_either s_int s_int) (row ((t_var 0) ∷ [])) 0) ∷ (t_prim op.Inl (s_either s_int s_int) (row ((t_prim op.Outl s_int (row ((t_prim op.Fst (s_either s_int s_int) (row ((t_var 0) ∷ [])) 0) ∷ [])) 0) ∷ [])) 0) ∷ [])) 0) ∷ []); goal = (t_prim op.Le s_bool (row ((t_int (pos 0)) ∷ (t_prim op.Snd s_int (row ((t_var 0) ∷ [])) 0) ∷ [])) 578) }) ≡ record { vars = (record { name = codes "n"; sort = s_int } ∷ record { name = codes "input"; sort = s_int } ∷ record { name = codes "get"; sort = (s_pair (s_either s_int s_int) s_int) } ∷ []); formulas = ((t_if (t_prim op.Le s_bool (row ((t_int (pos 0)) ∷ (t_var 1) ∷ [])) 0) (t_prim op.Le s_bool (row ((t_int (pos 0)) ∷ (t_var 2) ∷ [])) 0) (t_bool false)) ∷ (t_prim op.Eq s_bool (row ((t_var 0) ∷ (t_prim op.Pair (s_pair (s_either s_int s_int) s_int) (row ((t_prim op.Inr (s_either s_int s_int) (row ((t_var 1) ∷ [])) 0) ∷ (t_var 1) ∷ [])) 0) ∷ [])) 0) ∷ (t_prim op.Eq s_bool (row ((t_prim op.Fst (s_either s_int s_int) (row ((t_var 0) ∷ [])) 0) ∷ (t_prim op.Inl (s_either s_int s_int) (row ((t_prim op.Outl s_int (row ((t_prim op.Fst (s_either s_int s_int) (row ((t_var 0) ∷ [])) 0) ∷ [])) 0) ∷ [])) 0) ∷ [])) 0) ∷ (t_if (t_prim op.Eq s_bool (row ((t_prim op.Fst (s_either s_int s_int) (row ((t_var 0) ∷ [])) 0) ∷ (t_prim op.Inl (s_either s_int s_int) (row ((t_prim op.Outl s_int (row ((t_prim op.Fst (s_either s_int s_int) (row ((t_var 0) ∷ [])) 0) ∷ [])) 0) ∷ [])) 0) ∷ [])) 0) (t_bool true) (t_prim op.Eq s_bool (row ((t_prim op.Fst (s_either s_int s_int) (row ((t_var 0) ∷ [])) 0) ∷ (t_prim op.Inr (s_either s_int s_int) (row ((t_prim op.Outr s_int (row ((t_prim op.Fst (s_either s_int s_int) (row ((t_var 0) ∷ [])) 0) ∷ [])) 0) ∷ [])) 0) ∷ [])) 0)) ∷ (t_if (t_prim op.Eq s_bool (row ((t_var 1) ∷ (t_prim op.Outr s_int (row ((t_prim op.Fst (s_either s_int s_int) (row ((t_var 0) ∷ [])) 0) ∷ [])) 0) ∷ [])) 0) (t_bool true) (t_if (t_prim op.Eq s_bool (row ((t_var 1) ∷ (t_prim op.Outr s_int (row ((t_prim op.Fst (s_either s_int s_int) (row ((t_var 0) ∷ [])) 0) ∷ [])) 0) ∷ [])) 0) (t_bool false) (t_bool true))) ∷ []); hyps = 3; goal = (t_prim op.Le s_bool (row ((t_int (pos 0)) ∷ (t_prim op.Snd s_int (row ((t_var 0) ∷ [])) 0) ∷ [])) 0); terms = ((t_prim op.Le s_bool (row ((t_int (pos 0)) ∷ (t_var 1) ∷ [])) 0) ∷ (t_int (pos 0)) ∷ (t_var 1) ∷ (t_prim op.Le s_bool (row ((t_int (pos 0)) ∷ (t_var 2) ∷ [])) 0) ∷ (t_var 2) ∷ (t_prim op.Eq s_bool (row ((t_prim op.Fst (s_either s_int s_int) (row ((t_var 0) ∷ [])) 0) ∷ (t_prim op.Inr (s_either s_int s_int) (row ((t_var 1) ∷ [])) 0) ∷ [])) 0) ∷ (t_prim op.Fst (s_either s_int s_int) (row ((t_var 0) ∷ [])) 0) ∷ (t_var 0) ∷ (t_prim op.Inr (s_either s_int s_int) (row ((t_var 1) ∷ [])) 0) ∷ (t_prim op.Eq s_bool (row ((t_prim op.Snd s_int (row ((t_var 0) ∷ [])) 0) ∷ (t_var 1) ∷ [])) 0) ∷ (t_prim op.Snd s_int (row ((t_var 0) ∷ [])) 0) ∷ (t_prim op.Eq s_bool (row ((t_prim op.Fst (s_either s_int s_int) (row ((t_var 0) ∷ [])) 0) ∷ (t_prim op.Inl (s_either s_int s_int) (row ((t_prim op.Outl s_int (row ((t_prim op.Fst (s_either s_int s_int) (row ((t_var 0) ∷ [])) 0) ∷ [])) 0) ∷ [])) 0) ∷ [])) 0) ∷ (t_prim op.Inl (s_either s_int s_int) (row ((t_prim op.Outl s_int (row ((t_prim op.Fst (s_either s_int s_int) (row ((t_var 0) ∷ [])) 0) ∷ [])) 0) ∷ [])) 0) ∷ (t_prim op.Outl s_int (row ((t_prim op.Fst (s_either s_int s_int) (row ((t_var 0) ∷ [])) 0) ∷ [])) 0) ∷ (t_prim op.Le s_bool (row ((t_int (pos 0)) ∷ (t_prim op.Snd s_int (row ((t_var 0) ∷ [])) 0) ∷ [])) 0) ∷ (t_prim op.Eq s_bool (row ((t_prim op.Fst (s_either s_int s_int) (row ((t_var 0) ∷ [])) 0) ∷ (t_prim op.Inr (s_either s_int s_int) (row ((t_prim op.Outr s_int (row ((t_prim op.Fst (s_either s_int s_int) (row ((t_var 0) ∷ [])) 0) ∷ [])) 0) ∷ [])) 0) ∷ [])) 0) ∷ (t_prim op.Inr (s_either s_int s_int) (row ((t_prim op.Outr s_int (row ((t_prim op.Fst (s_either s_int s_int) (row ((t_var 0) ∷ [])) 0) ∷ [])) 0) ∷ [])) 0) ∷ (t_prim op.Outr s_int (row ((t_prim op.Fst (s_either s_int s_int) (row ((t_var 0) ∷ [])) 0) ∷ [])) 0) ∷ (t_prim op.Eq s_bool (row ((t_var 1) ∷ (t_prim op.Outr s_int (row ((t_prim op.Fst (s_either s_int s_int) (row ((t_var 0) ∷ [])) 0) ∷ [])) 0) ∷ [])) 0) ∷ (t_prim op.Pair (s_pair (s_either s_int s_int) s_int) (row ((t_prim op.Fst (s_either s_int s_int) (row ((t_var 0) ∷ [])) 0) ∷ (t_prim op.Snd s_int (row ((t_var 0) ∷ [])) 0) ∷ [])) 0) ∷ (t_bool true) ∷ (t_bool false) ∷ t_unit ∷ []); atoms = ((t_prim op.Le s_bool (row ((t_int (pos 0)) ∷ (t_var 1) ∷ [])) 0) ∷ (t_prim op.Le s_bool (row ((t_int (pos 0)) ∷ (t_var 2) ∷ [])) 0) ∷ (t_prim op.Eq s_bool (row ((t_prim op.Fst (s_either s_int s_int) (row ((t_var 0) ∷ [])) 0) ∷ (t_prim op.Inr (s_either s_int s_int) (row ((t_var 1) ∷ [])) 0) ∷ [])) 0) ∷ (t_prim op.Eq s_bool (row ((t_prim op.Snd s_int (row ((t_var 0) ∷ [])) 0) ∷ (t_var 1) ∷ [])) 0) ∷ (t_prim op.Eq s_bool (row ((t_prim op.Fst (s_either s_int s_int) (row ((t_var 0) ∷ [])) 0) ∷ (t_prim op.Inl (s_either s_int s_int) (row ((t_prim op.Outl s_int (row ((t_prim op.Fst (s_either s_int s_int) (row ((t_var 0) ∷ [])) 0) ∷ [])) 0) ∷ [])) 0) ∷ [])) 0) ∷ (t_prim op.Le s_bool (row ((t_int (pos 0)) ∷ (t_prim op.Snd s_int (row ((t_var 0) ∷ [])) 0) ∷ [])) 0) ∷ (t_prim op.Eq s_bool (row ((t_prim op.Fst (s_either s_int s_int) (row ((t_var 0) ∷ [])) 0) ∷ (t_prim op.Inr (s_either s_int s_int) (row ((t_prim op.Outr s_int (row ((t_prim op.Fst (s_either s_int s_int) (row ((t_var 0) ∷ [])) 0) ∷ [])) 0) ∷ [])) 0) ∷ [])) 0) ∷ (t_prim op.Eq s_bool (row ((t_var 1) ∷ (t_prim op.Outr s_int (row ((t_prim op.Fst (s_either s_int s_int) (row ((t_var 0) ∷ [])) 0) ∷ [])) 0) ∷ [])) 0) ∷ []) }
bank_flat_0 = refl

bank_facts_1 : function_facts bank (record { vars = (record { name = codes "n"; sort = s_int } ∷ record { name = codes "input"; sort = s_int } ∷ record { name = codes "get"; sort = (s_pair (s_either s_int s_int) s_int) } ∷ record { name = codes "put"; sort = (s_pair (s_either s_int s_unit) s_int) } ∷ []); hyps = ((t_if (t_prim op.Le s_bool (row ((t_int (pos 0)) ∷ (t_var 2) ∷ [])) 547) (t_prim op.Le s_bool (row ((t_int (pos 0)) ∷ (t_var 3) ∷ [])) 561) (t_bool false)) ∷ (t_prim op.Eq s_bool (row ((t_var 1) ∷ (t_prim op.Pair (s_pair (s_either s_int s_int) s_int) (row ((t_prim op.Inr (s_either s_int s_int) (row ((t_var 2) ∷ [])) 349) ∷ (t_var 2) ∷ [])) 348) ∷ [])) 346) ∷ (t_prim op.Eq s_bool (row ((t_prim op.Fst (s_either s_int s_int) (row ((t_var 1) ∷ [])) 0) ∷ (t_prim op.Inr (s_either s_int s_int) (row ((t_prim op.Outr s_int (row ((t_prim op.Fst (s_either s_int s_int) (row ((t_var 1) ∷ [])) 0) ∷ [])) 0) ∷ [])) 0) ∷ [])) 0) ∷ (t_prim op.Le s_bool (row ((t_var 3) ∷ (t_prim op.Outr s_int (row ((t_prim op.Fst (s_either s_int s_int) (row ((t_var 1) ∷ [])) 0) ∷ [])) 0) ∷ [])) 618) ∷ (t_prim op.Eq s_bool (row ((t_var 0) ∷ (t_prim op.Pair (s_pair (s_either s_int s_unit) s_int) (row ((t_prim op.Inr (s_either s_int s_unit) (row (t_unit ∷ [])) 451) ∷ (t_prim op.Sub s_int (row ((t_prim op.Outr s_int (row ((t_prim op.Fst (s_either s_int s_int) (row ((t_var 1) ∷ [])) 0) ∷ [])) 0) ∷ (t_var 3) ∷ [])) 642) ∷ [])) 450) ∷ [])) 448) ∷ (t_prim op.Eq s_bool (row ((t_prim op.Fst (s_either s_int s_unit) (row ((t_var 0) ∷ [])) 0) ∷ (t_prim op.Inl (s_either s_int s_unit) (row ((t_prim op.Outl s_int (row ((t_prim op.Fst (s_either s_int s_unit) (row ((t_var 0) ∷ [])) 0) ∷ [])) 0) ∷ [])) 0) ∷ [])) 0) ∷ []); goal = (t_prim op.Le s_bool (row ((t_int (pos 0)) ∷ (t_prim op.Snd s_int (row ((t_var 0) ∷ [])) 0) ∷ [])) 578) }) 1 ≡ ([])
bank_facts_1 = refl

bank_flat_1 : flat_in bank 3 (record { vars = (record { name = codes "n"; sort = s_int } ∷ record { name = codes "input"; sort = s_int } ∷ record { name = codes "get"; sort = (s_pair (s_either s_int s_int) s_int) } ∷ record { name = codes "put"; sort = (s_pair (s_either s_int s_unit) s_int) } ∷ []); hyps = ((t_if (t_prim op.Le s_bool (row ((t_int (pos 0)) ∷ (t_var 2) ∷ [])) 547) (t_prim op.Le s_bool (row ((t_int (pos 0)) ∷ (t_var 3) ∷ [])) 561) (t_bool false)) ∷ (t_prim op.Eq s_bool (row ((t_var 1) ∷ (t_prim op.Pair (s_pair (s_either s_int s_int) s_int) (row ((t_prim op.Inr (s_either s_int s_int) (row ((t_var 2) ∷ [])) 349) ∷ (t_var 2) ∷ [])) 348) ∷ [])) 346) ∷ (t_prim op.Eq s_bool (row ((t_prim op.Fst (s_either s_int s_int) (row ((t_var 1) ∷ [])) 0) ∷ (t_prim op.Inr (s_either s_int s_int) (row ((t_prim op.Outr s_int (row ((t_prim op.Fst (s_either s_int s_int) (row ((t_var 1) ∷ [])) 0) ∷ [])) 0) ∷ [])) 0) ∷ [])) 0) ∷ (t_prim op.Le s_bool (row ((t_var 3) ∷ (t_prim op.Outr s_int (row ((t_prim op.Fst (s_either s_int s_int) (row ((t_var 1) ∷ [])) 0) ∷ [])) 0) ∷ [])) 618) ∷ (t_prim op.Eq s_bool (row ((t_var 0) ∷ (t_prim op.Pair (s_pair (s_either s_int s_unit) s_int) (row ((t_prim op.Inr (s_either s_int s_unit) (row (t_unit ∷ [])) 451) ∷ (t_prim op.Sub s_int (row ((t_prim op.Outr s_int (row ((t_prim op.Fst (s_either s_int s_int) (row ((t_var 1) ∷ [])) 0) ∷ [])) 0) ∷ (t_var 3) ∷ [])) 642) ∷ [])) 450) ∷ [])) 448) ∷ (t_prim op.Eq s_bool (row ((t_prim op.Fst (s_either s_int s_unit) (row ((t_var 0) ∷ [])) 0) ∷ (t_prim op.Inl (s_either s_int s_unit) (row ((t_prim op.Outl s_int (row ((t_prim op.Fst (s_either s_int s_unit) (row ((t_var 0) ∷ [])) 0) ∷ [])) 0) ∷ [])) 0) ∷ [])) 0) ∷ []); goal = (t_prim op.Le s_bool (row ((t_int (pos 0)) ∷ (t_prim op.Snd s_int (row ((t_var 0) ∷ [])) 0) ∷ [])) 578) }) ≡ record { vars = (record { name = codes "n"; sort = s_int } ∷ record { name = codes "input"; sort = s_int } ∷ record { name = codes "get"; sort = (s_pair (s_either s_int s_int) s_int) } ∷ record { name = codes "put"; sort = (s_pair (s_either s_int s_unit) s_int) } ∷ []); formulas = ((t_if (t_prim op.Le s_bool (row ((t_int (pos 0)) ∷ (t_var 2) ∷ [])) 0) (t_prim op.Le s_bool (row ((t_int (pos 0)) ∷ (t_var 3) ∷ [])) 0) (t_bool false)) ∷ (t_prim op.Eq s_bool (row ((t_var 1) ∷ (t_prim op.Pair (s_pair (s_either s_int s_int) s_int) (row ((t_prim op.Inr (s_either s_int s_int) (row ((t_var 2) ∷ [])) 0) ∷ (t_var 2) ∷ [])) 0) ∷ [])) 0) ∷ (t_prim op.Eq s_bool (row ((t_prim op.Fst (s_either s_int s_int) (row ((t_var 1) ∷ [])) 0) ∷ (t_prim op.Inr (s_either s_int s_int) (row ((t_prim op.Outr s_int (row ((t_prim op.Fst (s_either s_int s_int) (row ((t_var 1) ∷ [])) 0) ∷ [])) 0) ∷ [])) 0) ∷ [])) 0) ∷ (t_prim op.Le s_bool (row ((t_var 3) ∷ (t_prim op.Outr s_int (row ((t_prim op.Fst (s_either s_int s_int) (row ((t_var 1) ∷ [])) 0) ∷ [])) 0) ∷ [])) 0) ∷ (t_prim op.Eq s_bool (row ((t_var 0) ∷ (t_prim op.Pair (s_pair (s_either s_int s_unit) s_int) (row ((t_prim op.Inr (s_either s_int s_unit) (row (t_unit ∷ [])) 0) ∷ (t_prim op.Sub s_int (row ((t_prim op.Outr s_int (row ((t_prim op.Fst (s_either s_int s_int) (row ((t_var 1) ∷ [])) 0) ∷ [])) 0) ∷ (t_var 3) ∷ [])) 0) ∷ [])) 0) ∷ [])) 0) ∷ (t_prim op.Eq s_bool (row ((t_prim op.Fst (s_either s_int s_unit) (row ((t_var 0) ∷ [])) 0) ∷ (t_prim op.Inl (s_either s_int s_unit) (row ((t_prim op.Outl s_int (row ((t_prim op.Fst (s_either s_int s_unit) (row ((t_var 0) ∷ [])) 0) ∷ [])) 0) ∷ [])) 0) ∷ [])) 0) ∷ (t_if (t_prim op.Eq s_bool (row ((t_prim op.Fst (s_either s_int s_int) (row ((t_var 1) ∷ [])) 0) ∷ (t_prim op.Inl (s_either s_int s_int) (row ((t_prim op.Outl s_int (row ((t_prim op.Fst (s_either s_int s_int) (row ((t_var 1) ∷ [])) 0) ∷ [])) 0) ∷ [])) 0) ∷ [])) 0) (t_bool true) (t_prim op.Eq s_bool (row ((t_prim op.Fst (s_either s_int s_int) (row ((t_var 1) ∷ [])) 0) ∷ (t_prim op.Inr (s_either s_int s_int) (row ((t_prim op.Outr s_int (row ((t_prim op.Fst (s_either s_int s_int) (row ((t_var 1) ∷ [])) 0) ∷ [])) 0) ∷ [])) 0) ∷ [])) 0)) ∷ (t_if (t_prim op.Eq s_bool (row ((t_prim op.Fst (s_either s_int s_unit) (row ((t_var 0) ∷ [])) 0) ∷ (t_prim op.Inl (s_either s_int s_unit) (row ((t_prim op.Outl s_int (row ((t_prim op.Fst (s_either s_int s_unit) (row ((t_var 0) ∷ [])) 0) ∷ [])) 0) ∷ [])) 0) ∷ [])) 0) (t_bool true) (t_prim op.Eq s_bool (row ((t_prim op.Fst (s_either s_int s_unit) (row ((t_var 0) ∷ [])) 0) ∷ (t_prim op.Inr (s_either s_int s_unit) (row ((t_prim op.Outr s_unit (row ((t_prim op.Fst (s_either s_int s_unit) (row ((t_var 0) ∷ [])) 0) ∷ [])) 0) ∷ [])) 0) ∷ [])) 0)) ∷ (t_if (t_prim op.Eq s_bool (row ((t_var 2) ∷ (t_prim op.Outr s_int (row ((t_prim op.Fst (s_either s_int s_int) (row ((t_var 1) ∷ [])) 0) ∷ [])) 0) ∷ [])) 0) (t_bool true) (t_if (t_prim op.Eq s_bool (row ((t_var 2) ∷ (t_prim op.Outr s_int (row ((t_prim op.Fst (s_either s_int s_int) (row ((t_var 1) ∷ [])) 0) ∷ [])) 0) ∷ [])) 0) (t_bool false) (t_bool true))) ∷ []); hyps = 6; goal = (t_prim op.Le s_bool (row ((t_int (pos 0)) ∷ (t_prim op.Snd s_int (row ((t_var 0) ∷ [])) 0) ∷ [])) 0); terms = ((t_prim op.Le s_bool (row ((t_int (pos 0)) ∷ (t_var 2) ∷ [])) 0) ∷ (t_int (pos 0)) ∷ (t_var 2) ∷ (t_prim op.Le s_bool (row ((t_int (pos 0)) ∷ (t_var 3) ∷ [])) 0) ∷ (t_var 3) ∷ (t_prim op.Eq s_bool (row ((t_prim op.Fst (s_either s_int s_int) (row ((t_var 1) ∷ [])) 0) ∷ (t_prim op.Inr (s_either s_int s_int) (row ((t_var 2) ∷ [])) 0) ∷ [])) 0) ∷ (t_prim op.Fst (s_either s_int s_int) (row ((t_var 1) ∷ [])) 0) ∷ (t_var 1) ∷ (t_prim op.Inr (s_either s_int s_int) (row ((t_var 2) ∷ [])) 0) ∷ (t_prim op.Eq s_bool (row ((t_prim op.Snd s_int (row ((t_var 1) ∷ [])) 0) ∷ (t_var 2) ∷ [])) 0) ∷ (t_prim op.Snd s_int (row ((t_var 1) ∷ [])) 0) ∷ (t_prim op.Eq s_bool (row ((t_prim op.Fst (s_either s_int s_int) (row ((t_var 1) ∷ [])) 0) ∷ (t_prim op.Inr (s_either s_int s_int) (row ((t_prim op.Outr s_int (row ((t_prim op.Fst (s_either s_int s_int) (row ((t_var 1) ∷ [])) 0) ∷ [])) 0) ∷ [])) 0) ∷ [])) 0) ∷ (t_prim op.Inr (s_either s_int s_int) (row ((t_prim op.Outr s_int (row ((t_prim op.Fst (s_either s_int s_int) (row ((t_var 1) ∷ [])) 0) ∷ [])) 0) ∷ [])) 0) ∷ (t_prim op.Outr s_int (row ((t_prim op.Fst (s_either s_int s_int) (row ((t_var 1) ∷ [])) 0) ∷ [])) 0) ∷ (t_prim op.Le s_bool (row ((t_var 3) ∷ (t_prim op.Outr s_int (row ((t_prim op.Fst (s_either s_int s_int) (row ((t_var 1) ∷ [])) 0) ∷ [])) 0) ∷ [])) 0) ∷ (t_prim op.Eq s_bool (row ((t_prim op.Fst (s_either s_int s_unit) (row ((t_var 0) ∷ [])) 0) ∷ (t_prim op.Inr (s_either s_int s_unit) (row (t_unit ∷ [])) 0) ∷ [])) 0) ∷ (t_prim op.Fst (s_either s_int s_unit) (row ((t_var 0) ∷ [])) 0) ∷ (t_var 0) ∷ (t_prim op.Inr (s_either s_int s_unit) (row (t_unit ∷ [])) 0) ∷ t_unit ∷ (t_prim op.Eq s_bool (row ((t_prim op.Snd s_int (row ((t_var 0) ∷ [])) 0) ∷ (t_prim op.Sub s_int (row ((t_prim op.Outr s_int (row ((t_prim op.Fst (s_either s_int s_int) (row ((t_var 1) ∷ [])) 0) ∷ [])) 0) ∷ (t_var 3) ∷ [])) 0) ∷ [])) 0) ∷ (t_prim op.Snd s_int (row ((t_var 0) ∷ [])) 0) ∷ (t_prim op.Sub s_int (row ((t_prim op.Outr s_int (row ((t_prim op.Fst (s_either s_int s_int) (row ((t_var 1) ∷ [])) 0) ∷ [])) 0) ∷ (t_var 3) ∷ [])) 0) ∷ (t_prim op.Eq s_bool (row ((t_prim op.Fst (s_either s_int s_unit) (row ((t_var 0) ∷ [])) 0) ∷ (t_prim op.Inl (s_either s_int s_unit) (row ((t_prim op.Outl s_int (row ((t_prim op.Fst (s_either s_int s_unit) (row ((t_var 0) ∷ [])) 0) ∷ [])) 0) ∷ [])) 0) ∷ [])) 0) ∷ (t_prim op.Inl (s_either s_int s_unit) (row ((t_prim op.Outl s_int (row ((t_prim op.Fst (s_either s_int s_unit) (row ((t_var 0) ∷ [])) 0) ∷ [])) 0) ∷ [])) 0) ∷ (t_prim op.Outl s_int (row ((t_prim op.Fst (s_either s_int s_unit) (row ((t_var 0) ∷ [])) 0) ∷ [])) 0) ∷ (t_prim op.Le s_bool (row ((t_int (pos 0)) ∷ (t_prim op.Snd s_int (row ((t_var 0) ∷ [])) 0) ∷ [])) 0) ∷ (t_prim op.Eq s_bool (row ((t_prim op.Fst (s_either s_int s_int) (row ((t_var 1) ∷ [])) 0) ∷ (t_prim op.Inl (s_either s_int s_int) (row ((t_prim op.Outl s_int (row ((t_prim op.Fst (s_either s_int s_int) (row ((t_var 1) ∷ [])) 0) ∷ [])) 0) ∷ [])) 0) ∷ [])) 0) ∷ (t_prim op.Inl (s_either s_int s_int) (row ((t_prim op.Outl s_int (row ((t_prim op.Fst (s_either s_int s_int) (row ((t_var 1) ∷ [])) 0) ∷ [])) 0) ∷ [])) 0) ∷ (t_prim op.Outl s_int (row ((t_prim op.Fst (s_either s_int s_int) (row ((t_var 1) ∷ [])) 0) ∷ [])) 0) ∷ (t_prim op.Eq s_bool (row ((t_prim op.Fst (s_either s_int s_unit) (row ((t_var 0) ∷ [])) 0) ∷ (t_prim op.Inr (s_either s_int s_unit) (row ((t_prim op.Outr s_unit (row ((t_prim op.Fst (s_either s_int s_unit) (row ((t_var 0) ∷ [])) 0) ∷ [])) 0) ∷ [])) 0) ∷ [])) 0) ∷ (t_prim op.Inr (s_either s_int s_unit) (row ((t_prim op.Outr s_unit (row ((t_prim op.Fst (s_either s_int s_unit) (row ((t_var 0) ∷ [])) 0) ∷ [])) 0) ∷ [])) 0) ∷ (t_prim op.Outr s_unit (row ((t_prim op.Fst (s_either s_int s_unit) (row ((t_var 0) ∷ [])) 0) ∷ [])) 0) ∷ (t_prim op.Eq s_bool (row ((t_var 2) ∷ (t_prim op.Outr s_int (row ((t_prim op.Fst (s_either s_int s_int) (row ((t_var 1) ∷ [])) 0) ∷ [])) 0) ∷ [])) 0) ∷ (t_prim op.Pair (s_pair (s_either s_int s_int) s_int) (row ((t_prim op.Fst (s_either s_int s_int) (row ((t_var 1) ∷ [])) 0) ∷ (t_prim op.Snd s_int (row ((t_var 1) ∷ [])) 0) ∷ [])) 0) ∷ (t_prim op.Pair (s_pair (s_either s_int s_unit) s_int) (row ((t_prim op.Fst (s_either s_int s_unit) (row ((t_var 0) ∷ [])) 0) ∷ (t_prim op.Snd s_int (row ((t_var 0) ∷ [])) 0) ∷ [])) 0) ∷ (t_bool true) ∷ (t_bool false) ∷ []); atoms = ((t_prim op.Le s_bool (row ((t_int (pos 0)) ∷ (t_var 2) ∷ [])) 0) ∷ (t_prim op.Le s_bool (row ((t_int (pos 0)) ∷ (t_var 3) ∷ [])) 0) ∷ (t_prim op.Eq s_bool (row ((t_prim op.Fst (s_either s_int s_int) (row ((t_var 1) ∷ [])) 0) ∷ (t_prim op.Inr (s_either s_int s_int) (row ((t_var 2) ∷ [])) 0) ∷ [])) 0) ∷ (t_prim op.Eq s_bool (row ((t_prim op.Snd s_int (row ((t_var 1) ∷ [])) 0) ∷ (t_var 2) ∷ [])) 0) ∷ (t_prim op.Eq s_bool (row ((t_prim op.Fst (s_either s_int s_int) (row ((t_var 1) ∷ [])) 0) ∷ (t_prim op.Inr (s_either s_int s_int) (row ((t_prim op.Outr s_int (row ((t_prim op.Fst (s_either s_int s_int) (row ((t_var 1) ∷ [])) 0) ∷ [])) 0) ∷ [])) 0) ∷ [])) 0) ∷ (t_prim op.Le s_bool (row ((t_var 3) ∷ (t_prim op.Outr s_int (row ((t_prim op.Fst (s_either s_int s_int) (row ((t_var 1) ∷ [])) 0) ∷ [])) 0) ∷ [])) 0) ∷ (t_prim op.Eq s_bool (row ((t_prim op.Fst (s_either s_int s_unit) (row ((t_var 0) ∷ [])) 0) ∷ (t_prim op.Inr (s_either s_int s_unit) (row (t_unit ∷ [])) 0) ∷ [])) 0) ∷ (t_prim op.Eq s_bool (row ((t_prim op.Snd s_int (row ((t_var 0) ∷ [])) 0) ∷ (t_prim op.Sub s_int (row ((t_prim op.Outr s_int (row ((t_prim op.Fst (s_either s_int s_int) (row ((t_var 1) ∷ [])) 0) ∷ [])) 0) ∷ (t_var 3) ∷ [])) 0) ∷ [])) 0) ∷ (t_prim op.Eq s_bool (row ((t_prim op.Fst (s_either s_int s_unit) (row ((t_var 0) ∷ [])) 0) ∷ (t_prim op.Inl (s_either s_int s_unit) (row ((t_prim op.Outl s_int (row ((t_prim op.Fst (s_either s_int s_unit) (row ((t_var 0) ∷ [])) 0) ∷ [])) 0) ∷ [])) 0) ∷ [])) 0) ∷ (t_prim op.Le s_bool (row ((t_int (pos 0)) ∷ (t_prim op.Snd s_int (row ((t_var 0) ∷ [])) 0) ∷ [])) 0) ∷ (t_prim op.Eq s_bool (row ((t_prim op.Fst (s_either s_int s_int) (row ((t_var 1) ∷ [])) 0) ∷ (t_prim op.Inl (s_either s_int s_int) (row ((t_prim op.Outl s_int (row ((t_prim op.Fst (s_either s_int s_int) (row ((t_var 1) ∷ [])) 0) ∷ [])) 0) ∷ [])) 0) ∷ [])) 0) ∷ (t_prim op.Eq s_bool (row ((t_prim op.Fst (s_either s_int s_unit) (row ((t_var 0) ∷ [])) 0) ∷ (t_prim op.Inr (s_either s_int s_unit) (row ((t_prim op.Outr s_unit (row ((t_prim op.Fst (s_either s_int s_unit) (row ((t_var 0) ∷ [])) 0) ∷ [])) 0) ∷ [])) 0) ∷ [])) 0) ∷ (t_prim op.Eq s_bool (row ((t_var 2) ∷ (t_prim op.Outr s_int (row ((t_prim op.Fst (s_either s_int s_int) (row ((t_var 1) ∷ [])) 0) ∷ [])) 0) ∷ [])) 0) ∷ []) }
bank_flat_1 = refl

bank_facts_2 : function_facts bank (record { vars = (record { name = codes "n"; sort = s_int } ∷ record { name = codes "input"; sort = s_int } ∷ record { name = codes "get"; sort = (s_pair (s_either s_int s_int) s_int) } ∷ record { name = codes "put"; sort = (s_pair (s_either s_int s_unit) s_int) } ∷ []); hyps = ((t_if (t_prim op.Le s_bool (row ((t_int (pos 0)) ∷ (t_var 2) ∷ [])) 547) (t_prim op.Le s_bool (row ((t_int (pos 0)) ∷ (t_var 3) ∷ [])) 561) (t_bool false)) ∷ (t_prim op.Eq s_bool (row ((t_var 1) ∷ (t_prim op.Pair (s_pair (s_either s_int s_int) s_int) (row ((t_prim op.Inr (s_either s_int s_int) (row ((t_var 2) ∷ [])) 349) ∷ (t_var 2) ∷ [])) 348) ∷ [])) 346) ∷ (t_prim op.Eq s_bool (row ((t_prim op.Fst (s_either s_int s_int) (row ((t_var 1) ∷ [])) 0) ∷ (t_prim op.Inr (s_either s_int s_int) (row ((t_prim op.Outr s_int (row ((t_prim op.Fst (s_either s_int s_int) (row ((t_var 1) ∷ [])) 0) ∷ [])) 0) ∷ [])) 0) ∷ [])) 0) ∷ (t_prim op.Le s_bool (row ((t_var 3) ∷ (t_prim op.Outr s_int (row ((t_prim op.Fst (s_either s_int s_int) (row ((t_var 1) ∷ [])) 0) ∷ [])) 0) ∷ [])) 618) ∷ (t_prim op.Eq s_bool (row ((t_var 0) ∷ (t_prim op.Pair (s_pair (s_either s_int s_unit) s_int) (row ((t_prim op.Inr (s_either s_int s_unit) (row (t_unit ∷ [])) 451) ∷ (t_prim op.Sub s_int (row ((t_prim op.Outr s_int (row ((t_prim op.Fst (s_either s_int s_int) (row ((t_var 1) ∷ [])) 0) ∷ [])) 0) ∷ (t_var 3) ∷ [])) 642) ∷ [])) 450) ∷ [])) 448) ∷ (t_prim op.Eq s_bool (row ((t_prim op.Fst (s_either s_int s_unit) (row ((t_var 0) ∷ [])) 0) ∷ (t_prim op.Inr (s_either s_int s_unit) (row ((t_prim op.Outr s_unit (row ((t_prim op.Fst (s_either s_int s_unit) (row ((t_var 0) ∷ [])) 0) ∷ [])) 0) ∷ [])) 0) ∷ [])) 0) ∷ []); goal = (t_prim op.Le s_bool (row ((t_int (pos 0)) ∷ (t_prim op.Snd s_int (row ((t_var 0) ∷ [])) 0) ∷ [])) 578) }) 1 ≡ ([])
bank_facts_2 = refl

bank_flat_2 : flat_in bank 3 (record { vars = (record { name = codes "n"; sort = s_int } ∷ record { name = codes "input"; sort = s_int } ∷ record { name = codes "get"; sort = (s_pair (s_either s_int s_int) s_int) } ∷ record { name = codes "put"; sort = (s_pair (s_either s_int s_unit) s_int) } ∷ []); hyps = ((t_if (t_prim op.Le s_bool (row ((t_int (pos 0)) ∷ (t_var 2) ∷ [])) 547) (t_prim op.Le s_bool (row ((t_int (pos 0)) ∷ (t_var 3) ∷ [])) 561) (t_bool false)) ∷ (t_prim op.Eq s_bool (row ((t_var 1) ∷ (t_prim op.Pair (s_pair (s_either s_int s_int) s_int) (row ((t_prim op.Inr (s_either s_int s_int) (row ((t_var 2) ∷ [])) 349) ∷ (t_var 2) ∷ [])) 348) ∷ [])) 346) ∷ (t_prim op.Eq s_bool (row ((t_prim op.Fst (s_either s_int s_int) (row ((t_var 1) ∷ [])) 0) ∷ (t_prim op.Inr (s_either s_int s_int) (row ((t_prim op.Outr s_int (row ((t_prim op.Fst (s_either s_int s_int) (row ((t_var 1) ∷ [])) 0) ∷ [])) 0) ∷ [])) 0) ∷ [])) 0) ∷ (t_prim op.Le s_bool (row ((t_var 3) ∷ (t_prim op.Outr s_int (row ((t_prim op.Fst (s_either s_int s_int) (row ((t_var 1) ∷ [])) 0) ∷ [])) 0) ∷ [])) 618) ∷ (t_prim op.Eq s_bool (row ((t_var 0) ∷ (t_prim op.Pair (s_pair (s_either s_int s_unit) s_int) (row ((t_prim op.Inr (s_either s_int s_unit) (row (t_unit ∷ [])) 451) ∷ (t_prim op.Sub s_int (row ((t_prim op.Outr s_int (row ((t_prim op.Fst (s_either s_int s_int) (row ((t_var 1) ∷ [])) 0) ∷ [])) 0) ∷ (t_var 3) ∷ [])) 642) ∷ [])) 450) ∷ [])) 448) ∷ (t_prim op.Eq s_bool (row ((t_prim op.Fst (s_either s_int s_unit) (row ((t_var 0) ∷ [])) 0) ∷ (t_prim op.Inr (s_either s_int s_unit) (row ((t_prim op.Outr s_unit (row ((t_prim op.Fst (s_either s_int s_unit) (row ((t_var 0) ∷ [])) 0) ∷ [])) 0) ∷ [])) 0) ∷ [])) 0) ∷ []); goal = (t_prim op.Le s_bool (row ((t_int (pos 0)) ∷ (t_prim op.Snd s_int (row ((t_var 0) ∷ [])) 0) ∷ [])) 578) }) ≡ record { vars = (record { name = codes "n"; sort = s_int } ∷ record { name = codes "input"; sort = s_int } ∷ record { name = codes "get"; sort = (s_pair (s_either s_int s_int) s_int) } ∷ record { name = codes "put"; sort = (s_pair (s_either s_int s_unit) s_int) } ∷ []); formulas = ((t_if (t_prim op.Le s_bool (row ((t_int (pos 0)) ∷ (t_var 2) ∷ [])) 0) (t_prim op.Le s_bool (row ((t_int (pos 0)) ∷ (t_var 3) ∷ [])) 0) (t_bool false)) ∷ (t_prim op.Eq s_bool (row ((t_var 1) ∷ (t_prim op.Pair (s_pair (s_either s_int s_int) s_int) (row ((t_prim op.Inr (s_either s_int s_int) (row ((t_var 2) ∷ [])) 0) ∷ (t_var 2) ∷ [])) 0) ∷ [])) 0) ∷ (t_prim op.Eq s_bool (row ((t_prim op.Fst (s_either s_int s_int) (row ((t_var 1) ∷ [])) 0) ∷ (t_prim op.Inr (s_either s_int s_int) (row ((t_prim op.Outr s_int (row ((t_prim op.Fst (s_either s_int s_int) (row ((t_var 1) ∷ [])) 0) ∷ [])) 0) ∷ [])) 0) ∷ [])) 0) ∷ (t_prim op.Le s_bool (row ((t_var 3) ∷ (t_prim op.Outr s_int (row ((t_prim op.Fst (s_either s_int s_int) (row ((t_var 1) ∷ [])) 0) ∷ [])) 0) ∷ [])) 0) ∷ (t_prim op.Eq s_bool (row ((t_var 0) ∷ (t_prim op.Pair (s_pair (s_either s_int s_unit) s_int) (row ((t_prim op.Inr (s_either s_int s_unit) (row (t_unit ∷ [])) 0) ∷ (t_prim op.Sub s_int (row ((t_prim op.Outr s_int (row ((t_prim op.Fst (s_either s_int s_int) (row ((t_var 1) ∷ [])) 0) ∷ [])) 0) ∷ (t_var 3) ∷ [])) 0) ∷ [])) 0) ∷ [])) 0) ∷ (t_prim op.Eq s_bool (row ((t_prim op.Fst (s_either s_int s_unit) (row ((t_var 0) ∷ [])) 0) ∷ (t_prim op.Inr (s_either s_int s_unit) (row ((t_prim op.Outr s_unit (row ((t_prim op.Fst (s_either s_int s_unit) (row ((t_var 0) ∷ [])) 0) ∷ [])) 0) ∷ [])) 0) ∷ [])) 0) ∷ (t_if (t_prim op.Eq s_bool (row ((t_prim op.Fst (s_either s_int s_int) (row ((t_var 1) ∷ [])) 0) ∷ (t_prim op.Inl (s_either s_int s_int) (row ((t_prim op.Outl s_int (row ((t_prim op.Fst (s_either s_int s_int) (row ((t_var 1) ∷ [])) 0) ∷ [])) 0) ∷ [])) 0) ∷ [])) 0) (t_bool true) (t_prim op.Eq s_bool (row ((t_prim op.Fst (s_either s_int s_int) (row ((t_var 1) ∷ [])) 0) ∷ (t_prim op.Inr (s_either s_int s_int) (row ((t_prim op.Outr s_int (row ((t_prim op.Fst (s_either s_int s_int) (row ((t_var 1) ∷ [])) 0) ∷ [])) 0) ∷ [])) 0) ∷ [])) 0)) ∷ (t_if (t_prim op.Eq s_bool (row ((t_prim op.Fst (s_either s_int s_unit) (row ((t_var 0) ∷ [])) 0) ∷ (t_prim op.Inl (s_either s_int s_unit) (row ((t_prim op.Outl s_int (row ((t_prim op.Fst (s_either s_int s_unit) (row ((t_var 0) ∷ [])) 0) ∷ [])) 0) ∷ [])) 0) ∷ [])) 0) (t_bool true) (t_prim op.Eq s_bool (row ((t_prim op.Fst (s_either s_int s_unit) (row ((t_var 0) ∷ [])) 0) ∷ (t_prim op.Inr (s_either s_int s_unit) (row ((t_prim op.Outr s_unit (row ((t_prim op.Fst (s_either s_int s_unit) (row ((t_var 0) ∷ [])) 0) ∷ [])) 0) ∷ [])) 0) ∷ [])) 0)) ∷ (t_if (t_prim op.Eq s_bool (row ((t_var 2) ∷ (t_prim op.Outr s_int (row ((t_prim op.Fst (s_either s_int s_int) (row ((t_var 1) ∷ [])) 0) ∷ [])) 0) ∷ [])) 0) (t_bool true) (t_if (t_prim op.Eq s_bool (row ((t_var 2) ∷ (t_prim op.Outr s_int (row ((t_prim op.Fst (s_either s_int s_int) (row ((t_var 1) ∷ [])) 0) ∷ [])) 0) ∷ [])) 0) (t_bool false) (t_bool true))) ∷ []); hyps = 6; goal = (t_prim op.Le s_bool (row ((t_int (pos 0)) ∷ (t_prim op.Snd s_int (row ((t_var 0) ∷ [])) 0) ∷ [])) 0); terms = ((t_prim op.Le s_bool (row ((t_int (pos 0)) ∷ (t_var 2) ∷ [])) 0) ∷ (t_int (pos 0)) ∷ (t_var 2) ∷ (t_prim op.Le s_bool (row ((t_int (pos 0)) ∷ (t_var 3) ∷ [])) 0) ∷ (t_var 3) ∷ (t_prim op.Eq s_bool (row ((t_prim op.Fst (s_either s_int s_int) (row ((t_var 1) ∷ [])) 0) ∷ (t_prim op.Inr (s_either s_int s_int) (row ((t_var 2) ∷ [])) 0) ∷ [])) 0) ∷ (t_prim op.Fst (s_either s_int s_int) (row ((t_var 1) ∷ [])) 0) ∷ (t_var 1) ∷ (t_prim op.Inr (s_either s_int s_int) (row ((t_var 2) ∷ [])) 0) ∷ (t_prim op.Eq s_bool (row ((t_prim op.Snd s_int (row ((t_var 1) ∷ [])) 0) ∷ (t_var 2) ∷ [])) 0) ∷ (t_prim op.Snd s_int (row ((t_var 1) ∷ [])) 0) ∷ (t_prim op.Eq s_bool (row ((t_prim op.Fst (s_either s_int s_int) (row ((t_var 1) ∷ [])) 0) ∷ (t_prim op.Inr (s_either s_int s_int) (row ((t_prim op.Outr s_int (row ((t_prim op.Fst (s_either s_int s_int) (row ((t_var 1) ∷ [])) 0) ∷ [])) 0) ∷ [])) 0) ∷ [])) 0) ∷ (t_prim op.Inr (s_either s_int s_int) (row ((t_prim op.Outr s_int (row ((t_prim op.Fst (s_either s_int s_int) (row ((t_var 1) ∷ [])) 0) ∷ [])) 0) ∷ [])) 0) ∷ (t_prim op.Outr s_int (row ((t_prim op.Fst (s_either s_int s_int) (row ((t_var 1) ∷ [])) 0) ∷ [])) 0) ∷ (t_prim op.Le s_bool (row ((t_var 3) ∷ (t_prim op.Outr s_int (row ((t_prim op.Fst (s_either s_int s_int) (row ((t_var 1) ∷ [])) 0) ∷ [])) 0) ∷ [])) 0) ∷ (t_prim op.Eq s_bool (row ((t_prim op.Fst (s_either s_int s_unit) (row ((t_var 0) ∷ [])) 0) ∷ (t_prim op.Inr (s_either s_int s_unit) (row (t_unit ∷ [])) 0) ∷ [])) 0) ∷ (t_prim op.Fst (s_either s_int s_unit) (row ((t_var 0) ∷ [])) 0) ∷ (t_var 0) ∷ (t_prim op.Inr (s_either s_int s_unit) (row (t_unit ∷ [])) 0) ∷ t_unit ∷ (t_prim op.Eq s_bool (row ((t_prim op.Snd s_int (row ((t_var 0) ∷ [])) 0) ∷ (t_prim op.Sub s_int (row ((t_prim op.Outr s_int (row ((t_prim op.Fst (s_either s_int s_int) (row ((t_var 1) ∷ [])) 0) ∷ [])) 0) ∷ (t_var 3) ∷ [])) 0) ∷ [])) 0) ∷ (t_prim op.Snd s_int (row ((t_var 0) ∷ [])) 0) ∷ (t_prim op.Sub s_int (row ((t_prim op.Outr s_int (row ((t_prim op.Fst (s_either s_int s_int) (row ((t_var 1) ∷ [])) 0) ∷ [])) 0) ∷ (t_var 3) ∷ [])) 0) ∷ (t_prim op.Eq s_bool (row ((t_prim op.Fst (s_either s_int s_unit) (row ((t_var 0) ∷ [])) 0) ∷ (t_prim op.Inr (s_either s_int s_unit) (row ((t_prim op.Outr s_unit (row ((t_prim op.Fst (s_either s_int s_unit) (row ((t_var 0) ∷ [])) 0) ∷ [])) 0) ∷ [])) 0) ∷ [])) 0) ∷ (t_prim op.Inr (s_either s_int s_unit) (row ((t_prim op.Outr s_unit (row ((t_prim op.Fst (s_either s_int s_unit) (row ((t_var 0) ∷ [])) 0) ∷ [])) 0) ∷ [])) 0) ∷ (t_prim op.Outr s_unit (row ((t_prim op.Fst (s_either s_int s_unit) (row ((t_var 0) ∷ [])) 0) ∷ [])) 0) ∷ (t_prim op.Le s_bool (row ((t_int (pos 0)) ∷ (t_prim op.Snd s_int (row ((t_var 0) ∷ [])) 0) ∷ [])) 0) ∷ (t_prim op.Eq s_bool (row ((t_prim op.Fst (s_either s_int s_int) (row ((t_var 1) ∷ [])) 0) ∷ (t_prim op.Inl (s_either s_int s_int) (row ((t_prim op.Outl s_int (row ((t_prim op.Fst (s_either s_int s_int) (row ((t_var 1) ∷ [])) 0) ∷ [])) 0) ∷ [])) 0) ∷ [])) 0) ∷ (t_prim op.Inl (s_either s_int s_int) (row ((t_prim op.Outl s_int (row ((t_prim op.Fst (s_either s_int s_int) (row ((t_var 1) ∷ [])) 0) ∷ [])) 0) ∷ [])) 0) ∷ (t_prim op.Outl s_int (row ((t_prim op.Fst (s_either s_int s_int) (row ((t_var 1) ∷ [])) 0) ∷ [])) 0) ∷ (t_prim op.Eq s_bool (row ((t_prim op.Fst (s_either s_int s_unit) (row ((t_var 0) ∷ [])) 0) ∷ (t_prim op.Inl (s_either s_int s_unit) (row ((t_prim op.Outl s_int (row ((t_prim op.Fst (s_either s_int s_unit) (row ((t_var 0) ∷ [])) 0) ∷ [])) 0) ∷ [])) 0) ∷ [])) 0) ∷ (t_prim op.Inl (s_either s_int s_unit) (row ((t_prim op.Outl s_int (row ((t_prim op.Fst (s_either s_int s_unit) (row ((t_var 0) ∷ [])) 0) ∷ [])) 0) ∷ [])) 0) ∷ (t_prim op.Outl s_int (row ((t_prim op.Fst (s_either s_int s_unit) (row ((t_var 0) ∷ [])) 0) ∷ [])) 0) ∷ (t_prim op.Eq s_bool (row ((t_var 2) ∷ (t_prim op.Outr s_int (row ((t_prim op.Fst (s_either s_int s_int) (row ((t_var 1) ∷ [])) 0) ∷ [])) 0) ∷ [])) 0) ∷ (t_prim op.Pair (s_pair (s_either s_int s_int) s_int) (row ((t_prim op.Fst (s_either s_int s_int) (row ((t_var 1) ∷ [])) 0) ∷ (t_prim op.Snd s_int (row ((t_var 1) ∷ [])) 0) ∷ [])) 0) ∷ (t_prim op.Pair (s_pair (s_either s_int s_unit) s_int) (row ((t_prim op.Fst (s_either s_int s_unit) (row ((t_var 0) ∷ [])) 0) ∷ (t_prim op.Snd s_int (row ((t_var 0) ∷ [])) 0) ∷ [])) 0) ∷ (t_bool true) ∷ (t_bool false) ∷ []); atoms = ((t_prim op.Le s_bool (row ((t_int (pos 0)) ∷ (t_var 2) ∷ [])) 0) ∷ (t_prim op.Le s_bool (row ((t_int (pos 0)) ∷ (t_var 3) ∷ [])) 0) ∷ (t_prim op.Eq s_bool (row ((t_prim op.Fst (s_either s_int s_int) (row ((t_var 1) ∷ [])) 0) ∷ (t_prim op.Inr (s_either s_int s_int) (row ((t_var 2) ∷ [])) 0) ∷ [])) 0) ∷ (t_prim op.Eq s_bool (row ((t_prim op.Snd s_int (row ((t_var 1) ∷ [])) 0) ∷ (t_var 2) ∷ [])) 0) ∷ (t_prim op.Eq s_bool (row ((t_prim op.Fst (s_either s_int s_int) (row ((t_var 1) ∷ [])) 0) ∷ (t_prim op.Inr (s_either s_int s_int) (row ((t_prim op.Outr s_int (row ((t_prim op.Fst (s_either s_int s_int) (row ((t_var 1) ∷ [])) 0) ∷ [])) 0) ∷ [])) 0) ∷ [])) 0) ∷ (t_prim op.Le s_bool (row ((t_var 3) ∷ (t_prim op.Outr s_int (row ((t_prim op.Fst (s_either s_int s_int) (row ((t_var 1) ∷ [])) 0) ∷ [])) 0) ∷ [])) 0) ∷ (t_prim op.Eq s_bool (row ((t_prim op.Fst (s_either s_int s_unit) (row ((t_var 0) ∷ [])) 0) ∷ (t_prim op.Inr (s_either s_int s_unit) (row (t_unit ∷ [])) 0) ∷ [])) 0) ∷ (t_prim op.Eq s_bool (row ((t_prim op.Snd s_int (row ((t_var 0) ∷ [])) 0) ∷ (t_prim op.Sub s_int (row ((t_prim op.Outr s_int (row ((t_prim op.Fst (s_either s_int s_int) (row ((t_var 1) ∷ [])) 0) ∷ [])) 0) ∷ (t_var 3) ∷ [])) 0) ∷ [])) 0) ∷ (t_prim op.Eq s_bool (row ((t_prim op.Fst (s_either s_int s_unit) (row ((t_var 0) ∷ [])) 0) ∷ (t_prim op.Inr (s_either s_int s_unit) (row ((t_prim op.Outr s_unit (row ((t_prim op.Fst (s_either s_int s_unit) (row ((t_var 0) ∷ [])) 0) ∷ [])) 0) ∷ [])) 0) ∷ [])) 0) ∷ (t_prim op.Le s_bool (row ((t_int (pos 0)) ∷ (t_prim op.Snd s_int (row ((t_var 0) ∷ [])) 0) ∷ [])) 0) ∷ (t_prim op.Eq s_bool (row ((t_prim op.Fst (s_either s_int s_int) (row ((t_var 1) ∷ [])) 0) ∷ (t_prim op.Inl (s_either s_int s_int) (row ((t_prim op.Outl s_int (row ((t_prim op.Fst (s_either s_int s_int) (row ((t_var 1) ∷ [])) 0) ∷ [])) 0) ∷ [])) 0) ∷ [])) 0) ∷ (t_prim op.Eq s_bool (row ((t_prim op.Fst (s_either s_int s_unit) (row ((t_var 0) ∷ [])) 0) ∷ (t_prim op.Inl (s_either s_int s_unit) (row ((t_prim op.Outl s_int (row ((t_prim op.Fst (s_either s_int s_unit) (row ((t_var 0) ∷ [])) 0) ∷ [])) 0) ∷ [])) 0) ∷ [])) 0) ∷ (t_prim op.Eq s_bool (row ((t_var 2) ∷ (t_prim op.Outr s_int (row ((t_prim op.Fst (s_either s_int s_int) (row ((t_var 1) ∷ [])) 0) ∷ [])) 0) ∷ [])) 0) ∷ []) }
bank_flat_2 = refl

bank_facts_3 : function_facts bank (record { vars = (record { name = codes "n"; sort = s_int } ∷ record { name = codes "input"; sort = s_int } ∷ record { name = codes "get"; sort = (s_pair (s_either s_int s_int) s_int) } ∷ record { name = codes "raise"; sort = (s_pair (s_either s_int s_int) s_int) } ∷ []); hyps = ((t_if (t_prim op.Le s_bool (row ((t_int (pos 0)) ∷ (t_var 2) ∷ [])) 547) (t_prim op.Le s_bool (row ((t_int (pos 0)) ∷ (t_var 3) ∷ [])) 561) (t_bool false)) ∷ (t_prim op.Eq s_bool (row ((t_var 1) ∷ (t_prim op.Pair (s_pair (s_either s_int s_int) s_int) (row ((t_prim op.Inr (s_either s_int s_int) (row ((t_var 2) ∷ [])) 349) ∷ (t_var 2) ∷ [])) 348) ∷ [])) 346) ∷ (t_prim op.Eq s_bool (row ((t_prim op.Fst (s_either s_int s_int) (row ((t_var 1) ∷ [])) 0) ∷ (t_prim op.Inr (s_either s_int s_int) (row ((t_prim op.Outr s_int (row ((t_prim op.Fst (s_either s_int s_int) (row ((t_var 1) ∷ [])) 0) ∷ [])) 0) ∷ [])) 0) ∷ [])) 0) ∷ (t_if (t_prim op.Le s_bool (row ((t_var 3) ∷ (t_prim op.Outr s_int (row ((t_prim op.Fst (s_either s_int s_int) (row ((t_var 1) ∷ [])) 0) ∷ [])) 0) ∷ [])) 618) (t_bool false) (t_bool true)) ∷ (t_prim op.Eq s_bool (row ((t_var 0) ∷ (t_prim op.Pair (s_pair (s_either s_int s_int) s_int) (row ((t_prim op.Inl (s_either s_int s_int) (row ((t_var 3) ∷ [])) 262) ∷ (t_prim op.Snd s_int (row ((t_var 1) ∷ [])) 0) ∷ [])) 261) ∷ [])) 259) ∷ []); goal = (t_prim op.Le s_bool (row ((t_int (pos 0)) ∷ (t_prim op.Snd s_int (row ((t_var 0) ∷ [])) 581) ∷ [])) 578) }) 1 ≡ ([])
bank_facts_3 = refl

bank_flat_3 : flat_in bank 3 (record { vars = (record { name = codes "n"; sort = s_int } ∷ record { name = codes "input"; sort = s_int } ∷ record { name = codes "get"; sort = (s_pair (s_either s_int s_int) s_int) } ∷ record { name = codes "raise"; sort = (s_pair (s_either s_int s_int) s_int) } ∷ []); hyps = ((t_if (t_prim op.Le s_bool (row ((t_int (pos 0)) ∷ (t_var 2) ∷ [])) 547) (t_prim op.Le s_bool (row ((t_int (pos 0)) ∷ (t_var 3) ∷ [])) 561) (t_bool false)) ∷ (t_prim op.Eq s_bool (row ((t_var 1) ∷ (t_prim op.Pair (s_pair (s_either s_int s_int) s_int) (row ((t_prim op.Inr (s_either s_int s_int) (row ((t_var 2) ∷ [])) 349) ∷ (t_var 2) ∷ [])) 348) ∷ [])) 346) ∷ (t_prim op.Eq s_bool (row ((t_prim op.Fst (s_either s_int s_int) (row ((t_var 1) ∷ [])) 0) ∷ (t_prim op.Inr (s_either s_int s_int) (row ((t_prim op.Outr s_int (row ((t_prim op.Fst (s_either s_int s_int) (row ((t_var 1) ∷ [])) 0) ∷ [])) 0) ∷ [])) 0) ∷ [])) 0) ∷ (t_if (t_prim op.Le s_bool (row ((t_var 3) ∷ (t_prim op.Outr s_int (row ((t_prim op.Fst (s_either s_int s_int) (row ((t_var 1) ∷ [])) 0) ∷ [])) 0) ∷ [])) 618) (t_bool false) (t_bool true)) ∷ (t_prim op.Eq s_bool (row ((t_var 0) ∷ (t_prim op.Pair (s_pair (s_either s_int s_int) s_int) (row ((t_prim op.Inl (s_either s_int s_int) (row ((t_var 3) ∷ [])) 262) ∷ (t_prim op.Snd s_int (row ((t_var 1) ∷ [])) 0) ∷ [])) 261) ∷ [])) 259) ∷ []); goal = (t_prim op.Le s_bool (row ((t_int (pos 0)) ∷ (t_prim op.Snd s_int (row ((t_var 0) ∷ [])) 581) ∷ [])) 578) }) ≡ record { vars = (record { name = codes "n"; sort = s_int } ∷ record { name = codes "input"; sort = s_int } ∷ record { name = codes "get"; sort = (s_pair (s_either s_int s_int) s_int) } ∷ record { name = codes "raise"; sort = (s_pair (s_either s_int s_int) s_int) } ∷ []); formulas = ((t_if (t_prim op.Le s_bool (row ((t_int (pos 0)) ∷ (t_var 2) ∷ [])) 0) (t_prim op.Le s_bool (row ((t_int (pos 0)) ∷ (t_var 3) ∷ [])) 0) (t_bool false)) ∷ (t_prim op.Eq s_bool (row ((t_var 1) ∷ (t_prim op.Pair (s_pair (s_either s_int s_int) s_int) (row ((t_prim op.Inr (s_either s_int s_int) (row ((t_var 2) ∷ [])) 0) ∷ (t_var 2) ∷ [])) 0) ∷ [])) 0) ∷ (t_prim op.Eq s_bool (row ((t_prim op.Fst (s_either s_int s_int) (row ((t_var 1) ∷ [])) 0) ∷ (t_prim op.Inr (s_either s_int s_int) (row ((t_prim op.Outr s_int (row ((t_prim op.Fst (s_either s_int s_int) (row ((t_var 1) ∷ [])) 0) ∷ [])) 0) ∷ [])) 0) ∷ [])) 0) ∷ (t_if (t_prim op.Le s_bool (row ((t_var 3) ∷ (t_prim op.Outr s_int (row ((t_prim op.Fst (s_either s_int s_int) (row ((t_var 1) ∷ [])) 0) ∷ [])) 0) ∷ [])) 0) (t_bool false) (t_bool true)) ∷ (t_prim op.Eq s_bool (row ((t_var 0) ∷ (t_prim op.Pair (s_pair (s_either s_int s_int) s_int) (row ((t_prim op.Inl (s_either s_int s_int) (row ((t_var 3) ∷ [])) 0) ∷ (t_prim op.Snd s_int (row ((t_var 1) ∷ [])) 0) ∷ [])) 0) ∷ [])) 0) ∷ (t_if (t_prim op.Eq s_bool (row ((t_prim op.Fst (s_either s_int s_int) (row ((t_var 1) ∷ [])) 0) ∷ (t_prim op.Inl (s_either s_int s_int) (row ((t_prim op.Outl s_int (row ((t_prim op.Fst (s_either s_int s_int) (row ((t_var 1) ∷ [])) 0) ∷ [])) 0) ∷ [])) 0) ∷ [])) 0) (t_bool true) (t_prim op.Eq s_bool (row ((t_prim op.Fst (s_either s_int s_int) (row ((t_var 1) ∷ [])) 0) ∷ (t_prim op.Inr (s_either s_int s_int) (row ((t_prim op.Outr s_int (row ((t_prim op.Fst (s_either s_int s_int) (row ((t_var 1) ∷ [])) 0) ∷ [])) 0) ∷ [])) 0) ∷ [])) 0)) ∷ (t_if (t_prim op.Eq s_bool (row ((t_var 2) ∷ (t_prim op.Outr s_int (row ((t_prim op.Fst (s_either s_int s_int) (row ((t_var 1) ∷ [])) 0) ∷ [])) 0) ∷ [])) 0) (t_bool true) (t_if (t_prim op.Eq s_bool (row ((t_var 2) ∷ (t_prim op.Outr s_int (row ((t_prim op.Fst (s_either s_int s_int) (row ((t_var 1) ∷ [])) 0) ∷ [])) 0) ∷ [])) 0) (t_bool false) (t_bool true))) ∷ (t_if (t_prim op.Eq s_bool (row ((t_var 3) ∷ (t_prim op.Outl s_int (row ((t_prim op.Fst (s_either s_int s_int) (row ((t_var 1) ∷ [])) 0) ∷ [])) 0) ∷ [])) 0) (t_bool true) (t_if (t_prim op.Eq s_bool (row ((t_var 3) ∷ (t_prim op.Outl s_int (row ((t_prim op.Fst (s_either s_int s_int) (row ((t_var 1) ∷ [])) 0) ∷ [])) 0) ∷ [])) 0) (t_bool false) (t_bool true))) ∷ []); hyps = 5; goal = (t_prim op.Le s_bool (row ((t_int (pos 0)) ∷ (t_prim op.Snd s_int (row ((t_var 0) ∷ [])) 0) ∷ [])) 0); terms = ((t_prim op.Le s_bool (row ((t_int (pos 0)) ∷ (t_var 2) ∷ [])) 0) ∷ (t_int (pos 0)) ∷ (t_var 2) ∷ (t_prim op.Le s_bool (row ((t_int (pos 0)) ∷ (t_var 3) ∷ [])) 0) ∷ (t_var 3) ∷ (t_prim op.Eq s_bool (row ((t_prim op.Fst (s_either s_int s_int) (row ((t_var 1) ∷ [])) 0) ∷ (t_prim op.Inr (s_either s_int s_int) (row ((t_var 2) ∷ [])) 0) ∷ [])) 0) ∷ (t_prim op.Fst (s_either s_int s_int) (row ((t_var 1) ∷ [])) 0) ∷ (t_var 1) ∷ (t_prim op.Inr (s_either s_int s_int) (row ((t_var 2) ∷ [])) 0) ∷ (t_prim op.Eq s_bool (row ((t_prim op.Snd s_int (row ((t_var 1) ∷ [])) 0) ∷ (t_var 2) ∷ [])) 0) ∷ (t_prim op.Snd s_int (row ((t_var 1) ∷ [])) 0) ∷ (t_prim op.Eq s_bool (row ((t_prim op.Fst (s_either s_int s_int) (row ((t_var 1) ∷ [])) 0) ∷ (t_prim op.Inr (s_either s_int s_int) (row ((t_prim op.Outr s_int (row ((t_prim op.Fst (s_either s_int s_int) (row ((t_var 1) ∷ [])) 0) ∷ [])) 0) ∷ [])) 0) ∷ [])) 0) ∷ (t_prim op.Inr (s_either s_int s_int) (row ((t_prim op.Outr s_int (row ((t_prim op.Fst (s_either s_int s_int) (row ((t_var 1) ∷ [])) 0) ∷ [])) 0) ∷ [])) 0) ∷ (t_prim op.Outr s_int (row ((t_prim op.Fst (s_either s_int s_int) (row ((t_var 1) ∷ [])) 0) ∷ [])) 0) ∷ (t_prim op.Le s_bool (row ((t_var 3) ∷ (t_prim op.Outr s_int (row ((t_prim op.Fst (s_either s_int s_int) (row ((t_var 1) ∷ [])) 0) ∷ [])) 0) ∷ [])) 0) ∷ (t_prim op.Eq s_bool (row ((t_prim op.Fst (s_either s_int s_int) (row ((t_var 0) ∷ [])) 0) ∷ (t_prim op.Inl (s_either s_int s_int) (row ((t_var 3) ∷ [])) 0) ∷ [])) 0) ∷ (t_prim op.Fst (s_either s_int s_int) (row ((t_var 0) ∷ [])) 0) ∷ (t_var 0) ∷ (t_prim op.Inl (s_either s_int s_int) (row ((t_var 3) ∷ [])) 0) ∷ (t_prim op.Eq s_bool (row ((t_prim op.Snd s_int (row ((t_var 0) ∷ [])) 0) ∷ (t_prim op.Snd s_int (row ((t_var 1) ∷ [])) 0) ∷ [])) 0) ∷ (t_prim op.Snd s_int (row ((t_var 0) ∷ [])) 0) ∷ (t_prim op.Le s_bool (row ((t_int (pos 0)) ∷ (t_prim op.Snd s_int (row ((t_var 0) ∷ [])) 0) ∷ [])) 0) ∷ (t_prim op.Eq s_bool (row ((t_prim op.Fst (s_either s_int s_int) (row ((t_var 1) ∷ [])) 0) ∷ (t_prim op.Inl (s_either s_int s_int) (row ((t_prim op.Outl s_int (row ((t_prim op.Fst (s_either s_int s_int) (row ((t_var 1) ∷ [])) 0) ∷ [])) 0) ∷ [])) 0) ∷ [])) 0) ∷ (t_prim op.Inl (s_either s_int s_int) (row ((t_prim op.Outl s_int (row ((t_prim op.Fst (s_either s_int s_int) (row ((t_var 1) ∷ [])) 0) ∷ [])) 0) ∷ [])) 0) ∷ (t_prim op.Outl s_int (row ((t_prim op.Fst (s_either s_int s_int) (row ((t_var 1) ∷ [])) 0) ∷ [])) 0) ∷ (t_prim op.Eq s_bool (row ((t_var 2) ∷ (t_prim op.Outr s_int (row ((t_prim op.Fst (s_either s_int s_int) (row ((t_var 1) ∷ [])) 0) ∷ [])) 0) ∷ [])) 0) ∷ (t_prim op.Eq s_bool (row ((t_var 3) ∷ (t_prim op.Outl s_int (row ((t_prim op.Fst (s_either s_int s_int) (row ((t_var 1) ∷ [])) 0) ∷ [])) 0) ∷ [])) 0) ∷ (t_prim op.Pair (s_pair (s_either s_int s_int) s_int) (row ((t_prim op.Fst (s_either s_int s_int) (row ((t_var 1) ∷ [])) 0) ∷ (t_prim op.Snd s_int (row ((t_var 1) ∷ [])) 0) ∷ [])) 0) ∷ (t_prim op.Pair (s_pair (s_either s_int s_int) s_int) (row ((t_prim op.Fst (s_either s_int s_int) (row ((t_var 0) ∷ [])) 0) ∷ (t_prim op.Snd s_int (row ((t_var 0) ∷ [])) 0) ∷ [])) 0) ∷ (t_bool true) ∷ (t_bool false) ∷ t_unit ∷ []); atoms = ((t_prim op.Le s_bool (row ((t_int (pos 0)) ∷ (t_var 2) ∷ [])) 0) ∷ (t_prim op.Le s_bool (row ((t_int (pos 0)) ∷ (t_var 3) ∷ [])) 0) ∷ (t_prim op.Eq s_bool (row ((t_prim op.Fst (s_either s_int s_int) (row ((t_var 1) ∷ [])) 0) ∷ (t_prim op.Inr (s_either s_int s_int) (row ((t_var 2) ∷ [])) 0) ∷ [])) 0) ∷ (t_prim op.Eq s_bool (row ((t_prim op.Snd s_int (row ((t_var 1) ∷ [])) 0) ∷ (t_var 2) ∷ [])) 0) ∷ (t_prim op.Eq s_bool (row ((t_prim op.Fst (s_either s_int s_int) (row ((t_var 1) ∷ [])) 0) ∷ (t_prim op.Inr (s_either s_int s_int) (row ((t_prim op.Outr s_int (row ((t_prim op.Fst (s_either s_int s_int) (row ((t_var 1) ∷ [])) 0) ∷ [])) 0) ∷ [])) 0) ∷ [])) 0) ∷ (t_prim op.Le s_bool (row ((t_var 3) ∷ (t_prim op.Outr s_int (row ((t_prim op.Fst (s_either s_int s_int) (row ((t_var 1) ∷ [])) 0) ∷ [])) 0) ∷ [])) 0) ∷ (t_prim op.Eq s_bool (row ((t_prim op.Fst (s_either s_int s_int) (row ((t_var 0) ∷ [])) 0) ∷ (t_prim op.Inl (s_either s_int s_int) (row ((t_var 3) ∷ [])) 0) ∷ [])) 0) ∷ (t_prim op.Eq s_bool (row ((t_prim op.Snd s_int (row ((t_var 0) ∷ [])) 0) ∷ (t_prim op.Snd s_int (row ((t_var 1) ∷ [])) 0) ∷ [])) 0) ∷ (t_prim op.Le s_bool (row ((t_int (pos 0)) ∷ (t_prim op.Snd s_int (row ((t_var 0) ∷ [])) 0) ∷ [])) 0) ∷ (t_prim op.Eq s_bool (row ((t_prim op.Fst (s_either s_int s_int) (row ((t_var 1) ∷ [])) 0) ∷ (t_prim op.Inl (s_either s_int s_int) (row ((t_prim op.Outl s_int (row ((t_prim op.Fst (s_either s_int s_int) (row ((t_var 1) ∷ [])) 0) ∷ [])) 0) ∷ [])) 0) ∷ [])) 0) ∷ (t_prim op.Eq s_bool (row ((t_var 2) ∷ (t_prim op.Outr s_int (row ((t_prim op.Fst (s_either s_int s_int) (row ((t_var 1) ∷ [])) 0) ∷ [])) 0) ∷ [])) 0) ∷ (t_prim op.Eq s_bool (row ((t_var 3) ∷ (t_prim op.Outl s_int (row ((t_prim op.Fst (s_either s_int s_int) (row ((t_var 1) ∷ [])) 0) ∷ [])) 0) ∷ [])) 0) ∷ []) }
bank_flat_3 = refl

st_facts_0 : function_facts st (record { vars = (record { name = codes "input"; sort = s_int } ∷ record { name = codes "get"; sort = (s_pair s_int s_int) } ∷ record { name = codes "put"; sort = (s_pair s_unit s_int) } ∷ []); hyps = ((t_prim op.Eq s_bool (row ((t_var 1) ∷ (t_prim op.Pair (s_pair s_int s_int) (row ((t_var 2) ∷ (t_var 2) ∷ [])) 174) ∷ [])) 172) ∷ (t_prim op.Eq s_bool (row ((t_var 0) ∷ (t_prim op.Pair (s_pair s_unit s_int) (row (t_unit ∷ (t_prim op.Add s_int (row ((t_prim op.Fst s_int (row ((t_var 1) ∷ [])) 0) ∷ (t_int (pos 1)) ∷ [])) 399) ∷ [])) 268) ∷ [])) 266) ∷ []); goal = (t_prim op.Eq s_bool (row ((t_prim op.Pair (s_pair s_int s_int) (row ((t_prim op.Fst s_int (row ((t_var 1) ∷ [])) 0) ∷ (t_prim op.Snd s_int (row ((t_var 0) ∷ [])) 0) ∷ [])) 61) ∷ (t_prim op.Pair (s_pair s_int s_int) (row ((t_var 2) ∷ (t_prim op.Add s_int (row ((t_var 2) ∷ (t_int (pos 1)) ∷ [])) 361) ∷ [])) 347) ∷ [])) 345) }) 1 ≡ ([])
st_facts_0 = refl

st_flat_0 : flat_in st 2 (record { vars = (record { name = codes "input"; sort = s_int } ∷ record { name = codes "get"; sort = (s_pair s_int s_int) } ∷ record { name = codes "put"; sort = (s_pair s_unit s_int) } ∷ []); hyps = ((t_prim op.Eq s_bool (row ((t_var 1) ∷ (t_prim op.Pair (s_pair s_int s_int) (row ((t_var 2) ∷ (t_var 2) ∷ [])) 174) ∷ [])) 172) ∷ (t_prim op.Eq s_bool (row ((t_var 0) ∷ (t_prim op.Pair (s_pair s_unit s_int) (row (t_unit ∷ (t_prim op.Add s_int (row ((t_prim op.Fst s_int (row ((t_var 1) ∷ [])) 0) ∷ (t_int (pos 1)) ∷ [])) 399) ∷ [])) 268) ∷ [])) 266) ∷ []); goal = (t_prim op.Eq s_bool (row ((t_prim op.Pair (s_pair s_int s_int) (row ((t_prim op.Fst s_int (row ((t_var 1) ∷ [])) 0) ∷ (t_prim op.Snd s_int (row ((t_var 0) ∷ [])) 0) ∷ [])) 61) ∷ (t_prim op.Pair (s_pair s_int s_int) (row ((t_var 2) ∷ (t_prim op.Add s_int (row ((t_var 2) ∷ (t_int (pos 1)) ∷ [])) 361) ∷ [])) 347) ∷ [])) 345) }) ≡ record { vars = (record { name = codes "input"; sort = s_int } ∷ record { name = codes "get"; sort = (s_pair s_int s_int) } ∷ record { name = codes "put"; sort = (s_pair s_unit s_int) } ∷ []); formulas = ((t_prim op.Eq s_bool (row ((t_var 1) ∷ (t_prim op.Pair (s_pair s_int s_int) (row ((t_var 2) ∷ (t_var 2) ∷ [])) 0) ∷ [])) 0) ∷ (t_prim op.Eq s_bool (row ((t_var 0) ∷ (t_prim op.Pair (s_pair s_unit s_int) (row (t_unit ∷ (t_prim op.Add s_int (row ((t_prim op.Fst s_int (row ((t_var 1) ∷ [])) 0) ∷ (t_int (pos 1)) ∷ [])) 0) ∷ [])) 0) ∷ [])) 0) ∷ []); hyps = 2; goal = (t_prim op.Eq s_bool (row ((t_prim op.Pair (s_pair s_int s_int) (row ((t_prim op.Fst s_int (row ((t_var 1) ∷ [])) 0) ∷ (t_prim op.Snd s_int (row ((t_var 0) ∷ [])) 0) ∷ [])) 0) ∷ (t_prim op.Pair (s_pair s_int s_int) (row ((t_var 2) ∷ (t_prim op.Add s_int (row ((t_var 2) ∷ (t_int (pos 1)) ∷ [])) 0) ∷ [])) 0) ∷ [])) 0); terms = ((t_prim op.Eq s_bool (row ((t_prim op.Fst s_int (row ((t_var 1) ∷ [])) 0) ∷ (t_var 2) ∷ [])) 0) ∷ (t_prim op.Fst s_int (row ((t_var 1) ∷ [])) 0) ∷ (t_var 1) ∷ (t_var 2) ∷ (t_prim op.Eq s_bool (row ((t_prim op.Snd s_int (row ((t_var 1) ∷ [])) 0) ∷ (t_var 2) ∷ [])) 0) ∷ (t_prim op.Snd s_int (row ((t_var 1) ∷ [])) 0) ∷ (t_prim op.Eq s_bool (row ((t_prim op.Snd s_int (row ((t_var 0) ∷ [])) 0) ∷ (t_prim op.Add s_int (row ((t_prim op.Fst s_int (row ((t_var 1) ∷ [])) 0) ∷ (t_int (pos 1)) ∷ [])) 0) ∷ [])) 0) ∷ (t_prim op.Snd s_int (row ((t_var 0) ∷ [])) 0) ∷ (t_var 0) ∷ (t_prim op.Add s_int (row ((t_prim op.Fst s_int (row ((t_var 1) ∷ [])) 0) ∷ (t_int (pos 1)) ∷ [])) 0) ∷ (t_int (pos 1)) ∷ (t_prim op.Eq s_bool (row ((t_prim op.Snd s_int (row ((t_var 0) ∷ [])) 0) ∷ (t_prim op.Add s_int (row ((t_var 2) ∷ (t_int (pos 1)) ∷ [])) 0) ∷ [])) 0) ∷ (t_prim op.Add s_int (row ((t_var 2) ∷ (t_int (pos 1)) ∷ [])) 0) ∷ (t_prim op.Pair (s_pair s_int s_int) (row ((t_prim op.Fst s_int (row ((t_var 1) ∷ [])) 0) ∷ (t_prim op.Snd s_int (row ((t_var 1) ∷ [])) 0) ∷ [])) 0) ∷ (t_prim op.Pair (s_pair s_unit s_int) (row ((t_prim op.Fst s_unit (row ((t_var 0) ∷ [])) 0) ∷ (t_prim op.Snd s_int (row ((t_var 0) ∷ [])) 0) ∷ [])) 0) ∷ (t_prim op.Fst s_unit (row ((t_var 0) ∷ [])) 0) ∷ (t_bool true) ∷ (t_bool false) ∷ t_unit ∷ []); atoms = ((t_prim op.Eq s_bool (row ((t_prim op.Fst s_int (row ((t_var 1) ∷ [])) 0) ∷ (t_var 2) ∷ [])) 0) ∷ (t_prim op.Eq s_bool (row ((t_prim op.Snd s_int (row ((t_var 1) ∷ [])) 0) ∷ (t_var 2) ∷ [])) 0) ∷ (t_prim op.Eq s_bool (row ((t_prim op.Snd s_int (row ((t_var 0) ∷ [])) 0) ∷ (t_prim op.Add s_int (row ((t_prim op.Fst s_int (row ((t_var 1) ∷ [])) 0) ∷ (t_int (pos 1)) ∷ [])) 0) ∷ [])) 0) ∷ (t_prim op.Eq s_bool (row ((t_prim op.Snd s_int (row ((t_var 0) ∷ [])) 0) ∷ (t_prim op.Add s_int (row ((t_var 2) ∷ (t_int (pos 1)) ∷ [])) 0) ∷ [])) 0) ∷ []) }
st_flat_0 = refl
