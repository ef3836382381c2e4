-- The law speaks of worked programs, one with a user effect: certificates of their goals, one of them with a fact of an earlier function,
-- make them good.
use Rattle.std.proofs.Common.{zero, suc, [], ◌∷◌, pos, refl}
use Rattle.fst_terms.specs.Meaning.{Meaning}
use Rattle.fst_program.specs.Good.{AllGood}
use Rattle.fst_program.specs.Applications.{IsMeaning}
use Rattle.fst_program.proofs.WorkedPrograms.{sum}
use Rattle.fst_program.proofs.WorkedEffects.{st}
use Rattle.fst_program.proofs.WorkedSorts.{sum-sorted, st-sorted}
use Rattle.fst_program.proofs.WorkedDiscipline.{sum-disciplined, st-disciplined}
use Rattle.fst_cert.specs.declared.line.Line.TheVariants as line
use Rattle.fst_proved.specs.ProvedGoals.{GoalsProved}
use Rattle.fst_proved.proofs.GoalProofs.{proved-goals-law}

certificates : GoalsProved sum
certificates zero f q = ((((line.Split 1) ∷ (line.Split 2) ∷ (line.Split 3) ∷ (line.Split 4) ∷ (line.Close 2 5) ∷ (line.Given 1) ∷ (line.Same 10 12 (1 ∷ [])) ∷ (line.Atom 3 1) ∷ (line.Atom 4 2) ∷ (line.Equal 2 2) ∷ (line.Add (pos 1) 1 (pos 1) 2) ∷ (line.Add (pos 1) 4 (pos 1) 3) ∷ (line.Below 5) ∷ (line.Hyp 2) ∷ line.Done ∷ (line.Hyp 4) ∷ (line.Hyp 1) ∷ []), refl), tt)
certificates (suc zero) f q = ((((line.Split 1) ∷ line.Done ∷ (line.Hyp 1) ∷ []), refl), tt)
certificates (suc (suc k)) f q = cc

pub sum-certified : (M : Meaning) → IsMeaning sum M → AllGood sum M
sum-certified M means = (proved-goals-law sum sum-sorted sum-disciplined M means certificates).1

-- ---- a user effect

st-certificates : GoalsProved st
st-certificates zero f q = ((((line.Split 1) ∷ line.Done ∷ (line.Close 1 0) ∷ (line.Same 2 2 ([])) ∷ (line.Unequal 1 1) ∷ []), refl), tt)
st-certificates (suc zero) f q = ((((line.Split 1) ∷ line.Done ∷ (line.Close 1 0) ∷ (line.Same 2 2 ([])) ∷ (line.Unequal 1 1) ∷ []), refl), tt)
st-certificates (suc (suc zero)) f q = ((((line.Split 1) ∷ (line.Split 3) ∷ (line.Split 4) ∷ line.Done ∷ (line.Close 4 0) ∷ (line.Given 3) ∷ (line.Given 1) ∷ (line.Same 10 13 (2 ∷ 0 ∷ [])) ∷ (line.Chain 1 3) ∷ (line.Unequal 4 4) ∷ (line.Hyp 2) ∷ (line.Hyp 1) ∷ []), refl), tt)
st-certificates (suc (suc (suc k))) f q = cc

pub st-certified : (M : Meaning) → IsMeaning st M → AllGood st M
st-certified M means = (proved-goals-law st st-sorted st-disciplined M means st-certificates).1
