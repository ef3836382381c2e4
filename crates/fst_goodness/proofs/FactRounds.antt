-- The rounds of facts: each gives formulas of earlier functions that are true.
use Rattle.std.proofs.Common.{◌≡◌, ℕ, zero, suc, Bool, true, false, List, [], ◌∷◌, ◌++◌, map, length, reverse, refl, sym, ◌∙◌, subst, arith}
use Rattle.std.specs.Prelude.{flat_map, filter, All}
use Rattle.std.proofs.lemmas.List.Elements.{All-nil, All-cons, All-head, All-tail}
use mathlib.Core.List.{reverse_aux}
use Rattle.fst_base.specs.Sorts.{Srt, s_bool}
use Rattle.fst_base.specs.Values.{HasSorts, default_of}
use Rattle.fst_base.proofs.RowLemmas.{default-has}
use Rattle.fst_terms.specs.Terms.{Tm, t_app, listed}
use Rattle.fst_terms.specs.Meaning.{Env, Meaning, Truth, AllTrue, Vr, Sqt, HasVars}
use Rattle.fst_terms.specs.Formulas.{vars_from}
use Rattle.fst_terms.specs.Flats.{sorts_of_vars}
use Rattle.fst_terms.specs.Sorted.{TmSorted}
use Rattle.fst_terms.proofs.MemberLemmas.{AllTm, all-append}
use Rattle.fst_program.specs.Texts.{Prog, if_there}
use Rattle.fst_program.specs.Applications.{IsMeaning}
use Rattle.fst_program.specs.Sorted.{Applies, IsSorted}
use Rattle.fst_program.specs.Groups.{TmEarlier}
use Rattle.fst_terms.specs.Cleared.{cleared}
use Rattle.fst_terms.specs.DataFacts.{again, subterms}
use Rattle.fst_program.specs.FunctionFacts.{is_application, applications, own_args, own_input, unfolded, posted, of_application, all_clear, unfoldings, postconditions, function_facts}
use Rattle.fst_terms.specs.Sentences.{AreFormulas, IsSequent}
use Rattle.fst_goodness.specs.FunctionSentences.{GoodBelow, AppliesBelow, FunctionFactsTrue}
use Rattle.fst_terms.proofs.SortedFactLemmas.{HasSort, subterms-sorted, all-flat-of, all-given}
use Rattle.fst_terms.proofs.ClearedLemmas.{cleared-sorted}
use Rattle.fst_terms.proofs.PreparedLemmas.{own-sorted, clear-value}
use Rattle.fst_program.proofs.Ways.{way_sorts}
use Rattle.fst_goodness.proofs.AppliedFacts.{earlier, below-keeps, base, applied-here, unfolded-forms, posted-forms, unfolded-true, posted-true}
use Rattle.fst_program.specs.Discipline.{IsDisciplined}

map-turned : (xs ys : List Vr) → map (λ (x : Vr). x.sort) (reverse_aux xs ys) ≡ reverse_aux (map (λ (x : Vr). x.sort) xs) (map (λ (x : Vr). x.sort) ys)
map-turned [] ys = refl
map-turned (x ∷ xs) ys = map-turned xs (x ∷ ys)

all-filter : (Q : Tm → Type 0) (p : Tm → Bool) (ts : List Tm) → AllTm Q ts → AllTm Q (filter p ts)
all-filter Q p [] h = tt
all-filter Q p (t ∷ ts) h = go (p t) refl (all-filter Q p ts h.1)
  where
    go : (b : Bool) → p t ≡ b → AllTm Q (filter p ts) → AllTm Q (filter p (t ∷ ts))
    go true q k = rw q (h.0, k)
    go false q k = rw q k

all-mapped : (R Q : Tm → Type 0) (g : Tm → Tm) (ts : List Tm) → ((t : Tm) → R t → Q (g t)) → AllTm R ts → AllTm Q (map g ts)
all-mapped R Q g [] h k = tt
all-mapped R Q g (t ∷ ts) h k = (h t k.0, all-mapped R Q g ts h k.1)

all-weaker : (R Q : Tm → Type 0) (ts : List Tm) → ((t : Tm) → R t → Q t) → AllTm R ts → AllTm Q ts
all-weaker R Q [] h k = tt
all-weaker R Q (t ∷ ts) h k = (h t k.0, all-weaker R Q ts h k.1)

-- a sequent whose formulas apply functions before n alone, said of sorts and of applications apart
pub sequent-below : (P : Prog) (n : ℕ) (s : Sqt) → IsSequent (Applies P) s [] → All (TmEarlier P n) s.hyps → TmEarlier P n s.goal → IsSequent (AppliesBelow P n) s []
sequent-below P n s formed hs gs = record { hyps = hyps-formed s.hyps formed.hyps hs; goal = earlier P n n (omega arith) (sorts_of_vars s.vars) s.goal s_bool formed.goal gs; facts = All-nil (λ phi. TmSorted (AppliesBelow P n) (sorts_of_vars s.vars) phi s_bool) }
  where
    hyps-formed : (phis : List Tm) → AreFormulas (Applies P) (sorts_of_vars s.vars) phis → All (TmEarlier P n) phis → AreFormulas (AppliesBelow P n) (sorts_of_vars s.vars) phis
    hyps-formed [] h k = All-nil (λ phi. TmSorted (AppliesBelow P n) (sorts_of_vars s.vars) phi s_bool)
    hyps-formed (phi ∷ phis) h k =
        All-cons (λ phi. TmSorted (AppliesBelow P n) (sorts_of_vars s.vars) phi s_bool) phi phis (earlier P n n (omega arith) (sorts_of_vars s.vars) phi s_bool (All-head (λ phi. TmSorted (Applies P) (sorts_of_vars s.vars) phi s_bool) phi phis h) (All-head (TmEarlier P n) phi phis k))
        (hyps-formed phis (All-tail (λ phi. TmSorted (Applies P) (sorts_of_vars s.vars) phi s_bool) phi phis h) (All-tail (TmEarlier P n) phi phis k))

module _ (P : Prog) (sorted : IsSorted P) (disciplined : IsDisciplined P) (M : Meaning) (means : IsMeaning P M) (n : ℕ) (good : GoodBelow P M n) (s : Sqt) (formed : IsSequent (AppliesBelow P n) s []) where
  abbrev Kind : (k : ℕ) → List Srt → (S : Srt) → Type 0
  Kind = AppliesBelow P n

  abbrev Ss : List Srt
  Ss = sorts_of_vars s.vars

  abbrev IsForm : Tm → Type 0
  IsForm phi = TmSorted Kind Ss phi s_bool

  base-sorts : way_sorts (base P sorted disciplined n (reverse s.vars)) ≡ Ss
  base-sorts = map-turned s.vars []

  module _ (e : Env) (has : HasVars s.vars e) where
    abbrev Sound : Tm → Type 0
    Sound phi = IsForm phi × Truth M phi e

    both : (phis : List Tm) → AllTm IsForm phis → AllTrue M phis e → AllTm Sound phis
    both [] h k = tt
    both (phi ∷ phis) h k = ((h.0, k.0), both phis h.1 k.1)

    based : HasSorts (way_sorts (base P sorted disciplined n (reverse s.vars))) e
    based = subst (λ Ts. HasSorts Ts e) (sym base-sorts) has

    forms-here : (phis : List Tm) → AllTm (λ phi. TmSorted Kind (way_sorts (base P sorted disciplined n (reverse s.vars))) phi s_bool) phis → AllTm IsForm phis
    forms-here phis h = subst (λ Ts. AllTm (λ phi. TmSorted Kind Ts phi s_bool) phis) base-sorts h

    -- the facts of an application
    of-unfolded : (t : Tm) → HasSort Kind Ss t → AllTm Sound (of_application P (unfolded P (reverse s.vars)) t)
    of-unfolded (t_app k S ts) h =
        let r = applied-here P sorted disciplined n (reverse s.vars) k S ts h.0 (subst (λ Ts. TmSorted Kind Ts (t_app k S ts) h.0) (sym base-sorts) h.1) in
        let f = r.0 in
        subst (λ o. AllTm Sound (if_there o (λ f. unfolded P (reverse s.vars) (t_app k S ts) f (own_args f.effect (listed ts)) (own_input f.effect (listed ts))) [])) (sym r.1.at)
        (both (unfolded P (reverse s.vars) (t_app k S ts) f (own_args f.effect (listed ts)) (own_input f.effect (listed ts)))
        (forms-here (unfolded P (reverse s.vars) (t_app k S ts) f (own_args f.effect (listed ts)) (own_input f.effect (listed ts))) (unfolded-forms P sorted disciplined n (reverse s.vars) k S ts f r.1))
        (unfolded-true P sorted disciplined n (reverse s.vars) k S ts f r.1 M means good e based))
    of-unfolded t h = tt

    of-posted : (t : Tm) → HasSort Kind Ss t → AllTm Sound (of_application P posted t)
    of-posted (t_app k S ts) h =
        let r = applied-here P sorted disciplined n (reverse s.vars) k S ts h.0 (subst (λ Ts. TmSorted Kind Ts (t_app k S ts) h.0) (sym base-sorts) h.1) in
        let f = r.0 in
        subst (λ o. AllTm Sound (if_there o (λ f. posted (t_app k S ts) f (own_args f.effect (listed ts)) (own_input f.effect (listed ts))) [])) (sym r.1.at)
        (both (posted (t_app k S ts) f (own_args f.effect (listed ts)) (own_input f.effect (listed ts)))
        (forms-here (posted (t_app k S ts) f (own_args f.effect (listed ts)) (own_input f.effect (listed ts))) (posted-forms P sorted disciplined n (reverse s.vars) k S ts f r.1))
        (posted-true P sorted disciplined n (reverse s.vars) k S ts f r.1 M means good e based))
    of-posted t h = tt

    clear-form : (phi : Tm) → IsForm phi → IsForm (cleared (vars_from 0 (length s.vars)) phi)
    clear-form phi h = cleared-sorted Kind Ss (vars_from 0 (length s.vars)) Ss phi s_bool (own-sorted Kind M (below-keeps P sorted M means n) s [] formed e has) h

    clear-sound : (phi : Tm) → Sound phi → Sound (cleared (vars_from 0 (length s.vars)) phi)
    clear-sound phi h = (clear-form phi h.0, clear-value Kind M (below-keeps P sorted M means n) s [] formed e has phi ∙ h.1)

    applications-sorted : (phis : List Tm) → AllTm IsForm phis → AllTm (HasSort Kind Ss) (applications phis)
    applications-sorted phis h = all-filter (HasSort Kind Ss) is_application (subterms phis) (subterms-sorted Kind Ss phis (all-weaker IsForm (HasSort Kind Ss) phis (λ t k. (s_bool, k)) h))

    -- one round, and all of them
    module _ (of : Tm → List Tm) (of-sound : (t : Tm) → HasSort Kind Ss t → AllTm Sound (of t)) (phis : List Tm) (forms : AllTm IsForm phis) where
      rounds-sound : (depth : ℕ) → AllTm Sound (again depth (λ facts. all_clear (length s.vars) (flat_map of (applications (phis ++ facts)))) [])
      rounds-sound zero = tt
      rounds-sound (suc depth) =
          let facts = again depth (λ facts. all_clear (length s.vars) (flat_map of (applications (phis ++ facts)))) [] in
          all-mapped Sound Sound (cleared (vars_from 0 (length s.vars))) (flat_map of (applications (phis ++ facts))) clear-sound
          (all-flat-of Kind Ss (HasSort Kind Ss) Sound of (applications (phis ++ facts)) of-sound
          (applications-sorted (phis ++ facts) (all-append IsForm phis facts forms (all-weaker Sound IsForm facts (λ t k. k.0) (rounds-sound depth)))))

    sequent-forms : AllTm IsForm (all_clear (length s.vars) (s.hyps ++ s.goal ∷ []))
    sequent-forms = all-mapped IsForm IsForm (cleared (vars_from 0 (length s.vars))) (s.hyps ++ s.goal ∷ []) clear-form
        (all-append IsForm s.hyps (s.goal ∷ []) (all-given Kind Ss IsForm s.hyps formed.hyps) (formed.goal, tt))

    pub facts-sound : (depth : ℕ) → AllTm Sound (function_facts P s depth)
    facts-sound depth =
        let phis = all_clear (length s.vars) (s.hyps ++ s.goal ∷ []) in
        let ways = rounds-sound (of_application P (unfolded P (reverse s.vars))) of-unfolded phis sequent-forms depth in
        all-append Sound (unfoldings P s phis depth) (postconditions P s (phis ++ unfoldings P s phis depth)) ways
        (rounds-sound (of_application P posted) of-posted (phis ++ unfoldings P s phis depth)
        (all-append IsForm phis (unfoldings P s phis depth) sequent-forms (all-weaker Sound IsForm (unfoldings P s phis depth) (λ t k. k.0) ways)) (length P.funs))

default-env : (Ss : List Srt) → HasSorts Ss (map default_of Ss)
default-env [] = tt
default-env (S ∷ Ss) = (default-has S, default-env Ss)

-- the facts of functions are formulas of earlier functions, and true
pub function-facts-true : (P : Prog) → FunctionFactsTrue P
function-facts-true P sorted disciplined M means n good s depth formed = record {
  formed = record {
    hyps = formed.hyps;
    goal = formed.goal;
    facts = forms (function_facts P s depth) (facts-sound P sorted disciplined M means n good s formed (map default_of (sorts_of_vars s.vars)) (default-env (sorts_of_vars s.vars)) depth);
  };
  holds = λ e has. truths e (function_facts P s depth) (facts-sound P sorted disciplined M means n good s formed e has depth);
}
  where
    forms : (phis : List Tm) → AllTm (λ phi. TmSorted (AppliesBelow P n) (sorts_of_vars s.vars) phi s_bool × Truth M phi (map default_of (sorts_of_vars s.vars))) phis → AreFormulas (AppliesBelow P n) (sorts_of_vars s.vars) phis
    forms [] h = All-nil (λ phi. TmSorted (AppliesBelow P n) (sorts_of_vars s.vars) phi s_bool)
    forms (phi ∷ phis) h = All-cons (λ phi. TmSorted (AppliesBelow P n) (sorts_of_vars s.vars) phi s_bool) phi phis h.0.0 (forms phis h.1)

    truths : (e : Env) (phis : List Tm) → AllTm (λ phi. TmSorted (AppliesBelow P n) (sorts_of_vars s.vars) phi s_bool × Truth M phi e) phis → AllTrue M phis e
    truths e [] h = tt
    truths e (phi ∷ phis) h = (h.0.1, truths e phis h.1)
