-- The plain tree of a program tells the program.
use Rattle.std.proofs.Common.{◌≡◌, List, [], ◌∷◌, Option, Some, None, map, option_map, refl, sym, ap, ap₂, ◌∙◌}
use Rattle.fst_base.proofs.SortLemmas.{sort_of_plain, sort-back}
use Rattle.fst_terms.specs.Terms.{plain_term}
use Rattle.fst_terms.proofs.TermInduction.{term_of_plain, term-back}
use Rattle.fst_program.specs.declared.definition.EffectDef.{EffectDef}
use Rattle.fst_program.specs.declared.definition.LiftDef.{LiftDef}
use Rattle.fst_program.specs.declared.fun.Param.{Param}
use Rattle.fst_program.specs.declared.fun.Fun.{Fun}
use Rattle.fst_program.specs.declared.fun.Program.{Program}
use Rattle.fst_program.specs.Texts.{Prm, EffDef, LftDef, Fn, Prog}
use Rattle.fst_program.specs.Plain.{plain_param, plain_effect, plain_lift, plain_fun, plain_program}
use Rattle.fst_program.proofs.CompInduction.{comp_of_plain, comp-back}
use Rattle.fst_program.proofs.DmInduction.{dm_of_plain, dm-back}

module _ {A B : Type 0} (there : A → B) (back : B → A) (same : (a : A) → back (there a) ≡ a) where
  map-back : (xs : List A) → map back (map there xs) ≡ xs
  map-back [] = refl
  map-back (x ∷ xs) = ap₂ ◌∷◌ (same x) (map-back xs)

  option-back : (o : Option A) → option_map back (option_map there o) ≡ o
  option-back None = refl
  option-back (Some a) = ap Some (same a)

abbrev pub param_of_plain : Prm → Param
param_of_plain p = record { name = p.name; sort = sort_of_plain p.sort; hidden = p.hidden; refine = option_map term_of_plain p.refine }

param-back : (p : Param) → param_of_plain (plain_param p) ≡ p
param-back p = rw (sort-back p.sort, option-back plain_term term_of_plain term-back p.refine) refl

abbrev pub effect_of_plain : EffDef → EffectDef
effect_of_plain d = record { name = d.name; base = d.base; input = sort_of_plain d.input; result = sort_of_plain d.result; ret_names = d.ret_names; ret = dm_of_plain d.ret; bind_names = d.bind_names; bind = dm_of_plain d.bind }

effect-back : (d : EffectDef) → effect_of_plain (plain_effect d) ≡ d
effect-back d = rw (sort-back d.input, sort-back d.result, dm-back d.ret, dm-back d.bind) refl

abbrev pub lift_of_plain : LftDef → LiftDef
lift_of_plain d = record { from = d.from; «to» = d.«to»; names = d.names; text = dm_of_plain d.text }

lift-back : (d : LiftDef) → lift_of_plain (plain_lift d) ≡ d
lift-back d = rw (dm-back d.text) refl

abbrev pub fun_of_plain : Fn → Fun
fun_of_plain f = record { name = f.name; at = record { at = f.place }; params = map param_of_plain f.params; effect = f.effect; sort = sort_of_plain f.sort; needs = option_map term_of_plain f.needs; gives = option_map term_of_plain f.gives; measures = map term_of_plain f.measures; «unfold» = f.unfolds; body = comp_of_plain f.body; group = f.group }

fun-back : (f : Fun) → fun_of_plain (plain_fun f) ≡ f
fun-back f = rw (map-back plain_param param_of_plain param-back f.params, sort-back f.sort, option-back plain_term term_of_plain term-back f.needs, option-back plain_term term_of_plain term-back f.gives, map-back plain_term term_of_plain term-back f.measures, comp-back f.body) refl

abbrev pub funs_of_plain : List (Option Fn) → List Fun
funs_of_plain [] = []
funs_of_plain (None ∷ fs) = funs_of_plain fs
funs_of_plain (Some f ∷ fs) = fun_of_plain f ∷ funs_of_plain fs

funs-back : (fs : List Fun) → funs_of_plain (map (λ f. Some (plain_fun f)) fs) ≡ fs
funs-back [] = refl
funs-back (f ∷ fs) = ap₂ ◌∷◌ (fun-back f) (funs-back fs)

abbrev pub program_of_plain : Prog → Program
program_of_plain P = record { effects = map effect_of_plain P.effects; lifts = map lift_of_plain P.lifts; funs = funs_of_plain P.funs }

program-back : (p : Program) → program_of_plain (plain_program p) ≡ p
program-back p = rw (map-back plain_effect effect_of_plain effect-back p.effects, map-back plain_lift lift_of_plain lift-back p.lifts, funs-back p.funs) refl

-- two programs with one plain tree are equal
pub program-injective : (p q : Program) → plain_program p ≡ plain_program q → p ≡ q
program-injective p q e = sym (program-back p) ∙ ap program_of_plain e ∙ program-back q
