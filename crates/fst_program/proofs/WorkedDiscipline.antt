-- Two worked programs that obey the discipline.
use Rattle.std.proofs.Common.{◌≡◌, ◌⊎◌, inl, inr, ◌<◌, ◌≤◌, ℕ, zero, suc, [], ◌∷◌, length, Some, refl, subst, arith}
use Rattle.fst_program.specs.declared.effect.Effect.TheVariants as effect
use Rattle.fst_program.specs.Texts.{EffDef, Fn, fun_at, effect_at}
use Rattle.fst_program.specs.Full.{DmFull, CmFull, IsFull}
use Rattle.fst_program.specs.LiftPaths.{HasOnePath}
use Rattle.fst_program.specs.Discipline.{FunDisciplined, IsDisciplined}
use Rattle.fst_program.proofs.WorkedPrograms.{sum}
use Rattle.fst_program.proofs.WorkedEffects.{state, st}
use Rattle.fst_program.proofs.WorkedSorts.{same-fun}

-- ---- programs without lifts

pub no-path : HasOnePath []
no-path D E [] [] p q = refl
no-path D E [] (m ∷ ms) p q = absurd q
no-path D E (n ∷ ns) ms p q = absurd p

pub sum-full : IsFull sum
sum-full = record { returns = λ E d q. cc; binds = λ E d q. cc; lifts = λ n l q. cc; bodies = bodies }
  where
    bodies : (k : ℕ) (f : Fn) → fun_at sum k ≡ Some f → CmFull f.body
    bodies zero f q = subst (λ f. CmFull f.body) (same-fun _ f q) (tt, (tt, ((tt, tt), tt)))
    bodies (suc zero) f q = subst (λ f. CmFull f.body) (same-fun _ f q) tt
    bodies (suc (suc k)) f q = cc

sum-funs : (k : ℕ) (f : Fn) → fun_at sum k ≡ Some f → FunDisciplined sum f
sum-funs zero f q = subst (FunDisciplined sum) (same-fun _ f q) (record { effect_there = tt; places = (refl, (tt, (((tt, (inr refl, tt)), (refl, (refl, tt))), tt))); refines = (tt, tt); needs = tt; gives = tt; measures = ((tt, tt), tt); calls = (tt, (((omega arith, λ t e. (λ z. cc, refl)), tt), tt)) })
sum-funs (suc zero) f q = subst (FunDisciplined sum) (same-fun _ f q) (record { effect_there = tt; places = (tt, (inr refl, tt)); refines = (tt, tt); needs = tt; gives = (tt, (((omega arith, inl refl), (tt, tt)), tt)); measures = tt; calls = (omega arith, λ t e. absurd (omega (arith, e))) })
sum-funs (suc (suc k)) f q = cc

-- a recursive function with a measure, and one that calls it
pub sum-disciplined : IsDisciplined sum
sum-disciplined = record {
  full = sum-full;
  headers = record { returns = λ E d q. cc; binds = λ E d q. cc; lifts = λ n l q. cc };
  bases = λ E d q. cc;
  lifts = λ n l q. cc;
  paths = no-path;
  groups = groups;
  order = order;
  funs = sum-funs;
}
  where
    groups : (k : ℕ) (f : Fn) → fun_at sum k ≡ Some f → f.group ≤ k
    groups zero f q = subst (λ f. f.group ≤ 0) (same-fun _ f q) (omega arith)
    groups (suc zero) f q = subst (λ f. f.group ≤ 1) (same-fun _ f q) (omega arith)
    groups (suc (suc k)) f q = cc

    group-is : (k : ℕ) (f : Fn) → fun_at sum k ≡ Some f → f.group ≡ k
    group-is zero f q = subst (λ f. f.group ≡ 0) (same-fun _ f q) refl
    group-is (suc zero) f q = subst (λ f. f.group ≡ 1) (same-fun _ f q) refl
    group-is (suc (suc k)) f q = cc

    order : (j k : ℕ) (f g : Fn) → fun_at sum j ≡ Some f → fun_at sum k ≡ Some g → f.group < g.group → j < g.group
    order j k f g p q lt = let e = group-is j f p in omega (arith, e, lt)

-- ---- a user effect

effect-is : (Q : EffDef → Type 0) → Q state → (E : ℕ) (d : EffDef) → effect_at st E ≡ Some d → Q d
effect-is Q h zero d q = let e : state ≡ d = cc in subst Q e h
effect-is Q h (suc E) d q = cc

st-full : IsFull st
st-full = record { returns = effect-is (λ d. DmFull d.ret) tt; binds = effect-is (λ d. DmFull d.bind) (tt, (tt, (tt, tt))); lifts = λ n l q. cc; bodies = bodies }
  where
    bodies : (k : ℕ) (f : Fn) → fun_at st k ≡ Some f → CmFull f.body
    bodies zero f q = subst (λ f. CmFull f.body) (same-fun _ f q) tt
    bodies (suc zero) f q = subst (λ f. CmFull f.body) (same-fun _ f q) tt
    bodies (suc (suc zero)) f q = subst (λ f. CmFull f.body) (same-fun _ f q) (tt, (tt, tt))
    bodies (suc (suc (suc k))) f q = cc

st-funs : (k : ℕ) (f : Fn) → fun_at st k ≡ Some f → FunDisciplined st f
st-funs zero f q = subst (FunDisciplined st) (same-fun _ f q) (record { effect_there = tt; places = (refl, (refl, tt)); refines = tt; needs = tt; gives = (tt, ((tt, (tt, tt)), tt)); measures = tt; calls = tt })
st-funs (suc zero) f q = subst (FunDisciplined st) (same-fun _ f q) (record { effect_there = tt; places = (tt, (refl, tt)); refines = (tt, tt); needs = tt; gives = (tt, ((tt, (tt, tt)), tt)); measures = tt; calls = tt })
st-funs (suc (suc zero)) f q = subst (FunDisciplined st) (same-fun _ f q) (record {
  effect_there = tt;
  places = ((refl, tt), ((refl, (inr (refl, (tt, tt)), tt)), refl));
  refines = tt;
  needs = tt;
  gives = (tt, ((tt, ((tt, (tt, tt)), tt)), tt));
  measures = tt;
  calls = ((omega arith, λ t e. absurd (omega (arith, e))), ((omega arith, λ t e. absurd (omega (arith, e))), tt));
})
st-funs (suc (suc (suc k))) f q = cc

-- functions of a user effect, which is there and has its names
pub st-disciplined : IsDisciplined st
st-disciplined = record {
  full = st-full;
  headers = record { returns = effect-is (λ d. length d.ret_names ≡ 2) refl; binds = effect-is (λ d. length d.bind_names ≡ 3) refl; lifts = λ n l q. cc };
  bases = effect-is (λ d. (d.base ≡ effect.Pure) ⊎ (d.base ≡ effect.Div)) (inl refl);
  lifts = λ n l q. cc;
  paths = no-path;
  groups = groups;
  order = order;
  funs = st-funs;
}
  where
    group-is : (k : ℕ) (f : Fn) → fun_at st k ≡ Some f → f.group ≡ k
    group-is zero f q = subst (λ f. f.group ≡ 0) (same-fun _ f q) refl
    group-is (suc zero) f q = subst (λ f. f.group ≡ 1) (same-fun _ f q) refl
    group-is (suc (suc zero)) f q = subst (λ f. f.group ≡ 2) (same-fun _ f q) refl
    group-is (suc (suc (suc k))) f q = cc

    groups : (k : ℕ) (f : Fn) → fun_at st k ≡ Some f → f.group ≤ k
    groups k f q = let e = group-is k f q in omega (arith, e)

    order : (j k : ℕ) (f g : Fn) → fun_at st j ≡ Some f → fun_at st k ≡ Some g → f.group < g.group → j < g.group
    order j k f g p q lt = let e = group-is j f p in omega (arith, e, lt)
