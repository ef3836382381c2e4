-- The laws on the transformers and the goals of a function, from what is known of walks.
use Rattle.std.proofs.Common.{◌≡◌, ℕ, List, [], ◌∷◌, ◌++◌, reverse, sym, ap, ◌∙◌, subst}
use mathlib.Core.List.{reverse_aux}
use Rattle.fst_base.specs.Values.{Val, HasSorts}
use Rattle.fst_terms.specs.Terms.{Tm}
use Rattle.fst_program.specs.declared.goal.SiteKind.{SiteKind}
use Rattle.fst_terms.specs.Meaning.{Env, Meaning, value, AllTrue, HasVars}
use Rattle.fst_program.specs.declared.effect.Effect.{Effect}
use Rattle.fst_program.specs.declared.effect.Effect.TheVariants as effect
use Rattle.fst_program.specs.Texts.{Fn, Prog}
use Rattle.fst_program.specs.Paths.{Path, Way, start}
use Rattle.fst_program.specs.Sorted.{place_of}
use Rattle.fst_program.specs.Discipline.{EffectThere}
use Rattle.fst_program.proofs.Ways.{Stands, turned-sorts}
use Rattle.fst_star.specs.Transformers.{no_holes, demands}
use Rattle.fst_star.specs.Inference.{infer_fun}
use Rattle.fst_star.specs.Laws.{Begins, GoalsMeetPaths, ValidGoalsMakeSafe, SafeMakesGoalsValid, Takes, TransformersEqualPaths}
use Rattle.fst_star.proofs.FunctionGoals.{PlaceThere}
use Rattle.fst_star.proofs.EachEnd.{AllGood, Demanded}
use Rattle.fst_star.proofs.FunctionLaws.{goals-of-infer, demanded-is-path, path-is-demanded}
use Rattle.fst_star.proofs.FunctionSafe.{safe-where-goals-valid}
use Rattle.fst_star.proofs.ValidGoals.{goals-valid-where-safe}

place-there : (P : Prog) (e : Effect) → EffectThere P e → PlaceThere P (place_of e)
place-there P effect.Pure h = tt
place-there P effect.Ghost h = tt
place-there P effect.Div h = tt
place-there P (effect.User E) h = h

pub goals-meet : (P : Prog) → GoalsMeetPaths P
goals-meet P sorted disciplined k f q =
    goals-of-infer P sorted disciplined.full k f q (place-there P f.effect (disciplined.funs k f q).effect_there) (disciplined.full.bodies k f q)

begun : (P : Prog) (M : Meaning) (f : Fn) (e : Env) → Begins P M f e → Stands M (start P f) e
begun P M f e b = record { sorts = b.sorts; hyps = b.hyps }

pub valid-safe : (P : Prog) → ValidGoalsMakeSafe P
valid-safe P M k f v q closed valid e b =
    let z = safe-where-goals-valid P k f M no_holes e (begun P M f e b) v closed valid in
    record { is_safe = z.0; meets = z.1 }

pub safe-valid : (P : Prog) → SafeMakesGoalsValid P
safe-valid P M k f v q closed fine =
    goals-valid-where-safe P k f M no_holes v closed (λ e s. let z = fine e (record { sorts = s.sorts; hyps = s.hyps }) in (z.is_safe, z.meets))

-- ---- paths

turned-true : (M : Meaning) (e : Env) (phis psis : List Tm) → AllTrue M phis e → AllTrue M psis e → AllTrue M (reverse_aux phis psis) e
turned-true M e [] psis h k = k
turned-true M e (phi ∷ phis) psis h k = turned-true M e phis (phi ∷ psis) h.1 (h.0, k)

abbrev no_sites : SiteKind → (place : ℕ) → Tm → Way → List Path
no_sites m at phi w = []

abbrev path_of : Way → Tm → Path
path_of w t = record { vars = reverse w.vars; hyps = reverse w.hyps; choices = reverse w.choices; result = t }

-- a way that stands, with a term of this value, is a path that has the value
takes : (M : Meaning) (e : Env) (r : Val) (w : Way) (t : Tm) (env new : Env) → env ≡ new ++ e → Stands M w env → value M t env ≡ r → Takes M e r (path_of w t)
takes M e r w t env new q s g = record {
  new = new;
  vars = subst (λ env. HasVars (reverse w.vars) env) q (subst (λ Ss. HasSorts Ss env) (sym (turned-sorts w)) s.sorts);
  hyps = subst (λ env. AllTrue M (reverse w.hyps) env) q (turned-true M env w.hyps [] s.hyps tt);
  gives = ap (value M t) (sym q) ∙ g;
}

good-among : (w0 : Way) (M : Meaning) (e0 : Env) (Q : Path → Type 0) (before : List Path) (p : Path) (after : List Path) → AllGood M w0 e0 Path Q (before ++ p ∷ after) → Q p
good-among w0 M e0 Q [] p after h = h.0
good-among w0 M e0 Q (x ∷ before) p after h = good-among w0 M e0 Q before p after h.1

pub equal-paths : (P : Prog) → TransformersEqualPaths P
equal-paths P sorted disciplined M k f q e b =
    let there = place-there P f.effect (disciplined.funs k f q).effect_there in
    let body = disciplined.full.bodies k f q in
    let s = begun P M f e b in
    record {
      to_path = λ r d.
          let z = demanded-is-path P sorted disciplined.full k f q there body M no_holes e s r d in
          record { before = z.part.before; one = path_of z.way z.term; after = z.part.after; is = z.part.is; holds = takes M e r z.way z.term z.env z.extends.new z.extends.env z.stands z.gives };
      from_path = λ r a.
          let all = path-is-demanded P sorted disciplined.full k f q there body M no_holes e s in
          let one = good-among (start P f) M e (Demanded M (start P f) e s.sorts (λ r. demands M no_holes (infer_fun P f) e r)) a.before a.one a.after (subst (λ l. AllGood M (start P f) e Path (Demanded M (start P f) e s.sorts (λ r. demands M no_holes (infer_fun P f) e r)) l) a.is all) in
          subst (λ r. demands M no_holes (infer_fun P f) e r) a.holds.gives (one a.holds.new a.holds.vars a.holds.hyps);
    }
