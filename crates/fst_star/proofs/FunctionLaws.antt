-- The goals of a function and its transformer: the laws together.
use Rattle.std.proofs.Common.{◌≡◌, ℕ, List, [], ◌∷◌, reverse, Some, refl, sym, ap, ◌∙◌, subst}
use Rattle.fst_base.specs.Values.{Val}
use Rattle.fst_terms.specs.Terms.{Tm}
use Rattle.fst_terms.specs.Meaning.{Env, Meaning}
use Rattle.fst_terms.specs.Formulas.{put}
use Rattle.fst_program.specs.declared.goal.SiteKind.{SiteKind}
use Rattle.fst_program.specs.Texts.{Fn, Prog, if_there, fun_at}
use Rattle.fst_program.specs.Paths.{Gl, Path, Way, start, fun_walk, goal_site, ensures_site, fun_goals, fun_paths, GoalsValid}
use Rattle.fst_program.specs.Sorted.{place_of, IsSorted}
use Rattle.fst_program.specs.Full.{IsFull, CmFull}
use Rattle.fst_star.specs.Transformers.{Wt, w_post, w_then, Holes, safe, demands}
use Rattle.fst_star.specs.Inference.{infer_fun, start_terms}
use Rattle.fst_star.specs.Walking.{wp_walk}
use Rattle.fst_program.proofs.Ways.{Stands}
use Rattle.fst_star.proofs.Places.{all-raised-here}
use Rattle.fst_star.proofs.ClosedTransformers.{infer-fun-closed}
use Rattle.fst_star.proofs.FunctionGoals.{PlaceThere, goals-meet-paths}
use Rattle.fst_star.proofs.FunctionSafe.{Meets, start-values, only-one, safe-where-goals-valid}
use Rattle.fst_star.proofs.Reached.{Ending, demanded-ends}
use Rattle.fst_star.proofs.EachEnd.{AllGood, Demanded, paths-demanded}
use Rattle.fst_terms.proofs.PutLemmas.{put_values}
use Rattle.fst_star.proofs.ValidGoals.{goals-valid-where-safe}

-- a term that is bound may as well be put in
pub then-post : (X : Type 0) (site : SiteKind → (place : ℕ) → Tm → Way → List X) (t : Tm) (x : List ℕ) (v : Wt) (us : List Tm) (w : Way) (k : Way → Tm → List X) → wp_walk X site (w_then (w_post t) x v) us w k ≡ wp_walk X site v (put us t ∷ us) w k
then-post X site t x v us w k = ap (λ vs. wp_walk X site v (put us t ∷ vs) w k) (all-raised-here w w refl us)

module _ (P : Prog) (sorted : IsSorted P) (full : IsFull P) (k : ℕ) (f : Fn) (q : fun_at P k ≡ Some f) (there : PlaceThere P (place_of f.effect)) (body : CmFull f.body) where
  pub goals-of-infer : wp_walk Gl (goal_site k) (infer_fun P f) (start_terms P f) (start P f) (ensures_site P k f) ≡ fun_goals P k
  goals-of-infer = goals-meet-paths P sorted full f there Gl (goal_site k) k q body (ensures_site P k f) ∙ sym (ap (λ o. if_there o (λ f. fun_walk P f Gl (goal_site k) (ensures_site P k f)) []) q)

  module _ (M : Meaning) (H : Holes) where
    -- valid goals make the function's transformer safe, with results that meet the ensures
    pub safe-from-goals : GoalsValid M (fun_goals P k) → (e0 : Env) (s : Stands M (start P f) e0) → safe M H (infer_fun P f) e0 × ((r : Val) → demands M H (infer_fun P f) e0 r → Meets P k f M H e0 s r)
    safe-from-goals h e0 s = safe-where-goals-valid P k f M H e0 s (infer_fun P f) (infer-fun-closed P f) (subst (GoalsValid M) (sym goals-of-infer) h)

    -- and the other way round
    pub goals-from-safe : ((e0 : Env) (s : Stands M (start P f) e0) → safe M H (infer_fun P f) e0 × ((r : Val) → demands M H (infer_fun P f) e0 r → Meets P k f M H e0 s r)) → GoalsValid M (fun_goals P k)
    goals-from-safe h = subst (GoalsValid M) goals-of-infer (goals-valid-where-safe P k f M H (infer_fun P f) (infer-fun-closed P f) h)

    -- ---- paths

    abbrev no_sites : SiteKind → (place : ℕ) → Tm → Way → List Path
    no_sites m at phi w = []

    abbrev end_of : Way → Tm → List Path
    end_of w t = record { vars = reverse w.vars; hyps = reverse w.hyps; choices = reverse w.choices; result = t } ∷ []

    paths-of-infer : wp_walk Path no_sites (infer_fun P f) (start_terms P f) (start P f) end_of ≡ fun_paths P k
    paths-of-infer = goals-meet-paths P sorted full f there Path no_sites k q body end_of ∙ sym (ap (λ o. if_there o (λ f. fun_walk P f Path no_sites end_of) []) q)

    -- a result that is demanded is that of a path, in an environment that extends e0 and makes its hypotheses true
    pub demanded-is-path : (e0 : Env) (s : Stands M (start P f) e0) (r : Val) → demands M H (infer_fun P f) e0 r → Ending M H Path no_sites (start P f) e0 end_of r (fun_paths P k)
    demanded-is-path e0 s r d = subst (Ending M H Path no_sites (start P f) e0 end_of r) paths-of-infer
        (demanded-ends M H Path no_sites (infer_fun P f) (start_terms P f) (start P f) e0 end_of r (infer-fun-closed P f) s (subst (λ e. demands M H (infer_fun P f) e r) (sym (start-values P k f M H e0 s)) d))

    -- and the result of each path is demanded
    pub path-is-demanded : (e0 : Env) (s : Stands M (start P f) e0) → AllGood M (start P f) e0 Path (Demanded M (start P f) e0 s.sorts (λ r. demands M H (infer_fun P f) e0 r)) (fun_paths P k)
    path-is-demanded e0 s = subst (AllGood M (start P f) e0 Path (Demanded M (start P f) e0 s.sorts (λ r. demands M H (infer_fun P f) e0 r))) paths-of-infer
        (paths-demanded M H (start P f) e0 s.sorts (λ r. demands M H (infer_fun P f) e0 r) (infer_fun P f) (start_terms P f) (infer-fun-closed P f)
        (λ e r x st d. subst (λ e. demands M H (infer_fun P f) e r) (ap (put_values M (start_terms P f)) (only-one P k f M H e0 s e x st) ∙ start-values P k f M H e0 s) d))
