-- Definition text whose symbolic run has valid goals keeps every claim that its computations keep, however often it runs them: the walk
-- walks a computation as often as the text runs it. So nothing but sorts is asked of a user effect.
use Rattle.std.proofs.Common.{◌≡◌, ℕ, Bool, true, false, if◌then◌else◌, List, [], ◌∷◌, ◌++◌, map, reverse, Option, Some, None, refl, sym, ap, ap₂, ◌∙◌, subst}
use Rattle.std.specs.Prelude.{⊤}
use Rattle.fst_base.specs.Sorts.{Srt, s_bool, s_pair, s_opt, s_list, s_either, put_sorts}
use Rattle.fst_base.specs.Values.{Val, v_bool, Has, HasSorts}
use Rattle.fst_base.specs.Primitives.{is_true}
use Rattle.fst_terms.specs.Terms.{Tm, t_bool}
use Rattle.fst_terms.specs.Meaning.{Env, Meaning, value}
use Rattle.fst_terms.specs.Formulas.{put, term_at}
use Rattle.fst_terms.proofs.PutLemmas.{put_values, put-value}
use Rattle.fst_program.specs.declared.comp.Con.{Con}
use Rattle.fst_program.specs.declared.comp.Con.TheVariants as con
use Rattle.fst_program.specs.declared.goal.SiteKind.TheVariants as kind
use Rattle.fst_program.specs.Texts.{Dm, DmArms, d_ret, d_let, d_if, d_match, d_run_f, d_run_g, d_end, d_arm, Prog, if_there}
use Rattle.fst_program.specs.Evaluation.{eval}
use Rattle.fst_program.specs.Runs.{Outcome, Done, Run, parts, if_fits, dm, dm_arm}
use Rattle.fst_program.specs.Paths.{Gl, Way, count, all_raised, over, Side, Case, same_con, divisions, term_sites, part_sorts, dm_at, dm_arms_at, dm_walk, dm_arm_walk, goal_site, GoalsValid}
use Rattle.fst_program.specs.Sorted.{Applies, FormSorted, RunSorted, FSorts, GSorts, ConOf, DmSorted, DmArmsSorted}
use Rattle.fst_program.proofs.SortedLemmas.{GotHas, eval-has, bound-parts, append-have}
use Rattle.fst_program.specs.Full.{DmFull, DmArmsFull, HasDmArm}
use Rattle.fst_program.proofs.SortedTerms.{AllSorted, append-sorted, put-sorted, at-sorted}
use Rattle.fst_program.proofs.Ways.{valid-left, valid-right, way_sorts, Stands, goal-true, Extends, extends-same, extends-then, raised-put-values, all-raised-sorted, Reaches, reaches-from}
use Rattle.fst_program.proofs.Evaluated.{Evaluates, sites-nonzero, AllNonzero, eval-sound}
use Rattle.fst_goodness.proofs.Choices.{chosen-side, same-con-is, other-con, taken-case}
use Rattle.fst_program.proofs.Modality.{Modality, with-term}

pub con-at : (A B : Srt) (c : Con) (T : Srt) → ConOf c T → ConOf c (put_sorts A B T)
con-at A B con.True s_bool h = tt
con-at A B con.False s_bool h = tt
con-at A B con.Empty (s_opt S) h = tt
con-at A B con.Full (s_opt S) h = tt
con-at A B con.Nil (s_list S) h = tt
con-at A B con.Cons (s_list S) h = tt
con-at A B con.Left (s_either S T) h = tt
con-at A B con.Right (s_either S T) h = tt
con-at A B con.Pair (s_pair S T) h = tt
con-at A B c T h = absurd h

pub parts-at : (A B : Srt) (c : Con) (T : Srt) → ConOf c T → part_sorts c (put_sorts A B T) ≡ map (put_sorts A B) (part_sorts c T)
parts-at A B con.True s_bool h = refl
parts-at A B con.False s_bool h = refl
parts-at A B con.Empty (s_opt S) h = refl
parts-at A B con.Full (s_opt S) h = refl
parts-at A B con.Nil (s_list S) h = refl
parts-at A B con.Cons (s_list S) h = refl
parts-at A B con.Left (s_either S T) h = refl
parts-at A B con.Right (s_either S T) h = refl
parts-at A B con.Pair (s_pair S T) h = refl
parts-at A B c T h = absurd h

pub map-append : (A B : Srt) (Ss Ts : List Srt) → map (put_sorts A B) (Ss ++ Ts) ≡ map (put_sorts A B) Ss ++ map (put_sorts A B) Ts
map-append A B [] Ts = refl
map-append A B (S ∷ Ss) Ts = ap (λ Us. put_sorts A B S ∷ Us) (map-append A B Ss Ts)

pub put-values-append : (M : Meaning) (us ts : List Tm) (e : Env) → put_values M (us ++ ts) e ≡ put_values M us e ++ put_values M ts e
put-values-append M [] ts e = refl
put-values-append M (u ∷ us) ts e = ap (λ vs. value M u e ∷ vs) (put-values-append M us ts e)

-- the rest of a walk, and a walk of a computation
abbrev pub After : Type 0
After = Way → Tm → List Gl

abbrev pub Steps : Type 0
Steps = Tm → Way → After → List Gl

module _ (P : Prog) (M : Meaning) (number : ℕ) (I : Type 0) (b : Bool) (Ok : (Val → Type 0) → (I → ℕ → Outcome) → Type 0) (GhostOk : (Val → Type 0) → (I → Outcome) → Type 0) (rules : Modality I b Ok GhostOk) (A B : Srt) where
  -- a computation of the header, from a way further on than w0: where its symbolic run has valid goals, its runs reach what follows
  abbrev pub ComputesF : Option FSorts → Way → Env → Steps → (I → Run) → Type 0
  ComputesF None w0 e0 steps f = ⊤
  ComputesF (Some h) w0 e0 steps f = (w : Way) (e : Env) (s : Tm) (sv : Val) (rest : After) → Extends w0 e0 w e → Stands M w e → FormSorted P (way_sorts w) s (put_sorts A B h.input) → value M s e ≡ sv → Has (put_sorts A B h.input) sv
      → GoalsValid M (steps s w rest) → Ok (Reaches P M w e (put_sorts A B h.result) rest) (λ i F. f i sv F)

  abbrev pub ComputesG : Option GSorts → Way → Env → (Tm → Steps) → (I → Val → Run) → Type 0
  ComputesG None w0 e0 steps g = ⊤
  ComputesG (Some h) w0 e0 steps g = (w : Way) (e : Env) (v : Tm) (vv : Val) (s : Tm) (sv : Val) (rest : After) → Extends w0 e0 w e → Stands M w e
      → FormSorted P (way_sorts w) v (put_sorts A B h.value) → value M v e ≡ vv → Has (put_sorts A B h.value) vv
      → FormSorted P (way_sorts w) s (put_sorts A B h.input) → value M s e ≡ sv → Has (put_sorts A B h.input) sv
      → GoalsValid M (steps v s w rest) → Ok (Reaches P M w e (put_sorts A B h.result) rest) (λ i F. g i vv sv F)

  -- terms for the text's variables, on a way that stands
  pub record Placed (w0 : Way) (e0 : Env) (Ss : List Srt) (us : List Tm) (w : Way) (e : Env) (ev : Env) : Type 0 where
    pub extends : Extends w0 e0 w e
    pub stands : Stands M w e
    pub sorted : AllSorted (Applies P) (way_sorts w) us (map (put_sorts A B) Ss)
    pub values : put_values M us e ≡ ev
    pub have : HasSorts (map (put_sorts A B) Ss) ev

  module _ (w0 : Way) (e0 : Env) (hf : Option FSorts) (hg : Option GSorts) (fw : Steps) (gw : Tm → Steps) (f : I → Run) (g : I → Val → Run) (computes_f : ComputesF hf w0 e0 fw f) (computes_g : ComputesG hg w0 e0 gw g) where
    term-sound : (Ss : List Srt) (t : Tm) (S : Srt) (us : List Tm) (w : Way) (e ev : Env) → RunSorted P Ss t S → Placed w0 e0 Ss us w e ev → GoalsValid M (term_sites P Gl (goal_site number) (term_at A B t) us w) → Evaluates b (eval b t ev) (value M (term_at A B t) ev)
    term-sound Ss t S us w e ev h p valid = eval-sound M (Applies P) A B ev Ss p.have b [] t S h.0 h.1 tt
        (subst (λ x. AllNonzero M x (divisions [] (term_at A B t))) p.values (sites-nonzero M P number (divisions [] (term_at A B t)) us w e p.stands valid))

    term-has : (Ss : List Srt) (t : Tm) (S : Srt) (us : List Tm) (w : Way) (e ev : Env) → RunSorted P Ss t S → Placed w0 e0 Ss us w e ev → GotHas (put_sorts A B S) (eval b t ev)
    term-has Ss t S us w e ev h p = eval-has A B (Applies P) b Ss t S ev h.0 h.1 p.have

    symbol-value : (Ss : List Srt) (t : Tm) (us : List Tm) (w : Way) (e ev : Env) → Placed w0 e0 Ss us w e ev → value M (put us (term_at A B t)) e ≡ value M (term_at A B t) ev
    symbol-value Ss t us w e ev p = put-value M us (term_at A B t) e ∙ ap (value M (term_at A B t)) p.values

    symbol-sorted : (Ss : List Srt) (t : Tm) (S : Srt) (us : List Tm) (w : Way) (e ev : Env) → RunSorted P Ss t S → Placed w0 e0 Ss us w e ev → FormSorted P (way_sorts w) (put us (term_at A B t)) (put_sorts A B S)
    symbol-sorted Ss t S us w e ev h p = put-sorted (Applies P) (way_sorts w) us (map (put_sorts A B) Ss) (term_at A B t) (put_sorts A B S) p.sorted (at-sorted (Applies P) A B Ss t S h.0 h.1)

    placed-later : (Ss : List Srt) (us : List Tm) (w : Way) (e ev : Env) (T : Srt) (rest : After) (v : Val) → Placed w0 e0 Ss us w e ev → (r : Reaches P M w e (put_sorts A B T) rest v) → Placed w0 e0 (T ∷ Ss) (r.term ∷ all_raised (count w) r.way us) r.way r.env (v ∷ ev)
    placed-later Ss us w e ev T rest v p r = record {
      extends = extends-then w0 e0 w e r.way r.env p.extends r.extends;
      stands = r.stands;
      sorted = (r.sorted, all-raised-sorted P w e r.way r.env us (map (put_sorts A B) Ss) r.extends p.sorted);
      values = ap₂ ◌∷◌ r.gives (raised-put-values M w e r.way r.env us r.extends ∙ p.values);
      have = (r.has, p.have);
    }

    placed-on : (Ss : List Srt) (us : List Tm) (w w1 : Way) (e ev : Env) → w1.vars ≡ w.vars → Stands M w1 e → Placed w0 e0 Ss us w e ev → Placed w0 e0 Ss us w1 e ev
    placed-on Ss us w w1 e ev q s p = record {
      extends = extends-then w0 e0 w e w1 e p.extends (extends-same w w1 e q);
      stands = s;
      sorted = subst (λ xs. AllSorted (Applies P) (map (λ x. x.sort) xs) us (map (put_sorts A B) Ss)) (sym q) p.sorted;
      values = p.values;
      have = p.have;
    }

    -- the case of a match that a value takes
    pub record Entered (w : Way) (e : Env) (T : Srt) (v : Val) (c : Case) (items : List Val) : Type 0 where
      pub fits : parts c.con v ≡ Some items
      pub vars : c.way.vars ≡ w.vars
      pub stands : Stands M c.way e
      pub sorted : AllSorted (Applies P) (way_sorts w) (reverse c.parts) (part_sorts c.con (put_sorts A B T))
      pub gives : put_values M (reverse c.parts) e ≡ items

    placed-under : (Ss : List Srt) (us : List Tm) (w : Way) (e ev : Env) (T : Srt) (v : Val) (c : Case) (items : List Val) → Entered w e T v c items → ConOf c.con T → Has (put_sorts A B T) v → Placed w0 e0 Ss us w e ev → Placed w0 e0 (part_sorts c.con T ++ Ss) (reverse c.parts ++ us) c.way e (items ++ ev)
    placed-under Ss us w e ev T v c items t o h p =
        let q = placed-on Ss us w c.way e ev t.vars t.stands p in
        let together : map (put_sorts A B) (part_sorts c.con T ++ Ss) ≡ part_sorts c.con (put_sorts A B T) ++ map (put_sorts A B) Ss = map-append A B (part_sorts c.con T) Ss ∙ ap (λ Us. Us ++ map (put_sorts A B) Ss) (sym (parts-at A B c.con T o)) in
        record {
          extends = q.extends;
          stands = t.stands;
          sorted = subst (λ Us. AllSorted (Applies P) (way_sorts c.way) (reverse c.parts ++ us) Us) (sym together)
              (append-sorted (Applies P) (way_sorts c.way) (reverse c.parts) us (part_sorts c.con (put_sorts A B T)) (map (put_sorts A B) Ss)
              (subst (λ xs. AllSorted (Applies P) (map (λ x. x.sort) xs) (reverse c.parts) (part_sorts c.con (put_sorts A B T))) (sym t.vars) t.sorted) q.sorted);
          values = put-values-append M (reverse c.parts) us e ∙ ap₂ ◌++◌ t.gives p.values;
          have = subst (λ Us. HasSorts Us (items ++ ev)) (sym (map-append A B (part_sorts c.con T) Ss)) (append-have (map (put_sorts A B) (part_sorts c.con T)) (map (put_sorts A B) Ss) items ev (bound-parts A B c.con T v o h items t.fits) p.have);
        }

    abbrev walked : Dm → List Tm → Way → After → List Gl
    walked d us w rest = dm_walk P Gl (goal_site number) fw gw (dm_at A B d) us w rest

    abbrev arm-walked : DmArms → Case → List Tm → After → List Gl
    arm-walked arms c us rest = dm_arm_walk P Gl (goal_site number) fw gw (dm_arms_at A B arms) c us rest

    abbrev side-goals : Dm → Dm → List Tm → After → Side → List Gl
    side-goals d1 d2 us rest s = if s.first then walked d1 us s.way rest else walked d2 us s.way rest

    abbrev runs : Dm → Env → I → ℕ → Outcome
    runs d ev i F = dm b (f i) (λ v s l. g i v s l) d ev F

    abbrev arm-runs : DmArms → Val → Env → I → ℕ → Outcome
    arm-runs arms v ev i F = dm_arm b (f i) (λ v s l. g i v s l) arms v ev F

    run-f-ok : (h : Option FSorts) → ComputesF h w0 e0 fw f → (Ss : List Srt) (t : Tm) (R : Srt) (us : List Tm) (w : Way) (e ev : Env) (rest : After) → if_there h (λ h. RunSorted P Ss t h.input × (R ≡ h.result)) ⊥ → Placed w0 e0 Ss us w e ev → GoalsValid M (walked (d_run_f t) us w rest) → Ok (Reaches P M w e (put_sorts A B R) rest) (runs (d_run_f t) ev)
    run-f-ok None c Ss t R us w e ev rest h p valid = absurd h
    run-f-ok (Some x) c Ss t R us w e ev rest h p valid =
        subst (λ S. Ok (Reaches P M w e (put_sorts A B S) rest) (runs (d_run_f t) ev)) (sym h.1)
        (rules.unit (Reaches P M w e (put_sorts A B x.result) rest) _
        (with-term I b Ok GhostOk rules (Reaches P M w e (put_sorts A B x.result) rest) (eval b t ev) (value M (term_at A B t) ev) (put_sorts A B x.input) (λ i s l. f i s l)
        (term-sound Ss t x.input us w e ev h.0 p (valid-left M (term_sites P Gl (goal_site number) (term_at A B t) us w) _ valid)) (term-has Ss t x.input us w e ev h.0 p)
        (λ n. c w e (put us (term_at A B t)) (value M (term_at A B t) ev) rest p.extends p.stands (symbol-sorted Ss t x.input us w e ev h.0 p) (symbol-value Ss t us w e ev p) n (valid-right M (term_sites P Gl (goal_site number) (term_at A B t) us w) _ valid))))

    run-g-ok : (h : Option GSorts) → ComputesG h w0 e0 gw g → (Ss : List Srt) (t u : Tm) (R : Srt) (us : List Tm) (w : Way) (e ev : Env) (rest : After) → if_there h (λ h. RunSorted P Ss t h.value × RunSorted P Ss u h.input × (R ≡ h.result)) ⊥ → Placed w0 e0 Ss us w e ev → GoalsValid M (walked (d_run_g t u) us w rest) → Ok (Reaches P M w e (put_sorts A B R) rest) (runs (d_run_g t u) ev)
    run-g-ok None c Ss t u R us w e ev rest h p valid = absurd h
    run-g-ok (Some x) c Ss t u R us w e ev rest h p valid =
        let ts = term_sites P Gl (goal_site number) (term_at A B t) us w in
        let us' = term_sites P Gl (goal_site number) (term_at A B u) us w in
        let both = valid-left M (ts ++ us') _ valid in
        let Q = Reaches P M w e (put_sorts A B x.result) rest in
        subst (λ S. Ok (Reaches P M w e (put_sorts A B S) rest) (runs (d_run_g t u) ev)) (sym h.2)
        (rules.unit Q _
        (with-term I b Ok GhostOk rules Q (eval b t ev) (value M (term_at A B t) ev) (put_sorts A B x.value) _
        (term-sound Ss t x.value us w e ev h.0 p (valid-left M ts us' both)) (term-has Ss t x.value us w e ev h.0 p)
        (λ n. with-term I b Ok GhostOk rules Q (eval b u ev) (value M (term_at A B u) ev) (put_sorts A B x.input) (λ i s l. g i (value M (term_at A B t) ev) s l)
        (term-sound Ss u x.input us w e ev h.1 p (valid-right M ts us' both)) (term-has Ss u x.input us w e ev h.1 p)
        (λ m. c w e (put us (term_at A B t)) (value M (term_at A B t) ev) (put us (term_at A B u)) (value M (term_at A B u) ev) rest p.extends p.stands
        (symbol-sorted Ss t x.value us w e ev h.0 p) (symbol-value Ss t us w e ev p) n (symbol-sorted Ss u x.input us w e ev h.1 p) (symbol-value Ss u us w e ev p) m (valid-right M (ts ++ us') _ valid)))))

    mutual
      pub dm-ok : (d : Dm) (Ss : List Srt) (R : Srt) (us : List Tm) (w : Way) (e ev : Env) (rest : After) → DmSorted P hf hg Ss d R → DmFull d → Placed w0 e0 Ss us w e ev → GoalsValid M (walked d us w rest) → Ok (Reaches P M w e (put_sorts A B R) rest) (runs d ev)
      dm-ok (d_ret t) Ss R us w e ev rest h full p valid =
          rules.unit (Reaches P M w e (put_sorts A B R) rest) _
          (with-term I b Ok GhostOk rules (Reaches P M w e (put_sorts A B R) rest) (eval b t ev) (value M (term_at A B t) ev) (put_sorts A B R) (λ i v l. Done v l)
          (term-sound Ss t R us w e ev h p (valid-left M (term_sites P Gl (goal_site number) (term_at A B t) us w) _ valid)) (term-has Ss t R us w e ev h p)
          (λ n. rules.done (Reaches P M w e (put_sorts A B R) rest) (value M (term_at A B t) ev)
          (record { way = w; env = e; extends = extends-same w w e refl; stands = p.stands; term = put us (term_at A B t); sorted = symbol-sorted Ss t R us w e ev h p; gives = symbol-value Ss t us w e ev p; has = n; valid = valid-right M (term_sites P Gl (goal_site number) (term_at A B t) us w) _ valid })))
      dm-ok (d_let x d1 d2) Ss R us w e ev rest h full p valid =
          let after : After = λ w1 t. walked d2 (t ∷ all_raised (count w) w1 us) w1 rest in
          rules.unit (Reaches P M w e (put_sorts A B R) rest) _
          (rules.next (Reaches P M w e (put_sorts A B h.0) after) (Reaches P M w e (put_sorts A B R) rest) (runs d1 ev) (λ i v l. runs d2 (v ∷ ev) i l)
          (dm-ok d1 Ss h.0 us w e ev after h.1.0 full.0 p valid)
          (λ v r. rules.weaken (Reaches P M r.way r.env (put_sorts A B R) rest) (Reaches P M w e (put_sorts A B R) rest) (runs d2 (v ∷ ev)) (λ v2 r2. reaches-from P M w e r.way r.env (put_sorts A B R) rest v2 r.extends r2)
          (dm-ok d2 (h.0 ∷ Ss) R (r.term ∷ all_raised (count w) r.way us) r.way r.env (v ∷ ev) rest h.1.1 full.1 (placed-later Ss us w e ev h.0 after v p r) r.valid)))
      dm-ok (d_if t d1 d2) Ss R us w e ev rest h full p valid =
          let Q = Reaches P M w e (put_sorts A B R) rest in
          rules.unit Q _
          (with-term I b Ok GhostOk rules Q (eval b t ev) (value M (term_at A B t) ev) s_bool (λ i v l. if is_true v then runs d1 ev i l else runs d2 ev i l)
          (term-sound Ss t s_bool us w e ev h.0 p (valid-left M (term_sites P Gl (goal_site number) (term_at A B t) us w) _ valid)) (term-has Ss t s_bool us w e ev h.0 p)
          (λ n. go (is_true (value M (term_at A B t) ev)) refl
          (λ w1 q s v1. dm-ok d1 Ss R us w1 e ev rest h.1 full.0 (placed-on Ss us w w1 e ev q s p) v1)
          (λ w1 q s v1. dm-ok d2 Ss R us w1 e ev rest h.2 full.1 (placed-on Ss us w w1 e ev q s p) v1)))
        where
          go : (x : Bool) → is_true (value M (term_at A B t) ev) ≡ x
              → ((w1 : Way) → w1.vars ≡ w.vars → Stands M w1 e → GoalsValid M (walked d1 us w1 rest) → Ok (Reaches P M w1 e (put_sorts A B R) rest) (runs d1 ev))
              → ((w1 : Way) → w1.vars ≡ w.vars → Stands M w1 e → GoalsValid M (walked d2 us w1 rest) → Ok (Reaches P M w1 e (put_sorts A B R) rest) (runs d2 ev))
              → Ok (Reaches P M w e (put_sorts A B R) rest) (λ i l. if x then runs d1 ev i l else runs d2 ev i l)
          go true q on_then on_else =
              let o = chosen-side M e w (side-goals d1 d2 us rest) p.stands (put us (term_at A B t)) true (ap is_true (symbol-value Ss t us w e ev p) ∙ q) (valid-right M (term_sites P Gl (goal_site number) (term_at A B t) us w) _ valid) in
              rules.weaken (Reaches P M o.way e (put_sorts A B R) rest) (Reaches P M w e (put_sorts A B R) rest) (runs d1 ev) (λ v r. reaches-from P M w e o.way e (put_sorts A B R) rest v (extends-same w o.way e o.vars) r) (on_then o.way o.vars o.stands o.valid)
          go false q on_then on_else =
              let o = chosen-side M e w (side-goals d1 d2 us rest) p.stands (put us (term_at A B t)) false (ap is_true (symbol-value Ss t us w e ev p) ∙ q) (valid-right M (term_sites P Gl (goal_site number) (term_at A B t) us w) _ valid) in
              rules.weaken (Reaches P M o.way e (put_sorts A B R) rest) (Reaches P M w e (put_sorts A B R) rest) (runs d2 ev) (λ v r. reaches-from P M w e o.way e (put_sorts A B R) rest v (extends-same w o.way e o.vars) r) (on_else o.way o.vars o.stands o.valid)
      dm-ok (d_match t arms) Ss R us w e ev rest h full p valid =
          let Q = Reaches P M w e (put_sorts A B R) rest in
          rules.unit Q _
          (with-term I b Ok GhostOk rules Q (eval b t ev) (value M (term_at A B t) ev) (put_sorts A B h.0) (λ i v l. arm-runs arms v ev i l)
          (term-sound Ss t h.0 us w e ev h.1.0 p (valid-left M (term_sites P Gl (goal_site number) (term_at A B t) us w) _ valid)) (term-has Ss t h.0 us w e ev h.1.0 p)
          (λ n. go arms h.1.1 full.0 (valid-right M (term_sites P Gl (goal_site number) (term_at A B t) us w) _ valid) n
          (λ c items t1 v1. dm-arm-ok arms Ss h.0 R us w e ev rest c items (value M (term_at A B t) ev) h.1.1 full.1 t1 n p v1)))
        where
          go : (arms1 : DmArms) → DmArmsSorted P hf hg Ss h.0 arms1 R → HasDmArm arms1
              → GoalsValid M (over (Rattle.fst_program.specs.Paths.cases (Rattle.fst_program.specs.Paths.dm_family (dm_arms_at A B arms1)) (put us (term_at A B t)) w) (λ c. arm-walked arms1 c us rest))
              → Has (put_sorts A B h.0) (value M (term_at A B t) ev)
              → ((c : Case) (items : List Val) → Entered w e h.0 (value M (term_at A B t) ev) c items → GoalsValid M (arm-walked arms1 c us rest) → Ok (Reaches P M w e (put_sorts A B R) rest) (λ i l. arm-runs arms1 (value M (term_at A B t) ev) ev i l))
              → Ok (Reaches P M w e (put_sorts A B R) rest) (λ i l. arm-runs arms1 (value M (term_at A B t) ev) ev i l)
          go d_end s a v1 n k = absurd a
          go (d_arm c xs d more) s a v1 n k =
              let y = taken-case P M w e (λ c1. arm-walked (d_arm c xs d more) c1 us rest) (put us (term_at A B t)) c (put_sorts A B h.0) (value M (term_at A B t) ev) p.stands (con-at A B c h.0 s.0) n (symbol-value Ss t us w e ev p) (symbol-sorted Ss t h.0 us w e ev h.1.0 p) v1 in
              k y.case y.items (record { fits = y.fits; vars = y.vars; stands = y.stands; sorted = y.sorted; gives = y.gives }) y.valid
      dm-ok (d_run_f t) Ss R us w e ev rest h full p valid = run-f-ok hf computes_f Ss t R us w e ev rest h p valid
      dm-ok (d_run_g t u) Ss R us w e ev rest h full p valid = run-g-ok hg computes_g Ss t u R us w e ev rest h p valid

      dm-arm-ok : (arms : DmArms) (Ss : List Srt) (T R : Srt) (us : List Tm) (w : Way) (e ev : Env) (rest : After) (c : Case) (items : List Val) (v : Val) → DmArmsSorted P hf hg Ss T arms R → DmArmsFull arms → Entered w e T v c items → Has (put_sorts A B T) v → Placed w0 e0 Ss us w e ev → GoalsValid M (arm-walked arms c us rest) → Ok (Reaches P M w e (put_sorts A B R) rest) (arm-runs arms v ev)
      dm-arm-ok d_end Ss T R us w e ev rest c items v h full t n p valid = let bad = goal-true M number kind.Match 0 (t_bool false) c.way e t.stands valid in absurd (let x : v_bool false ≡ v_bool true = bad in cc)
      dm-arm-ok (d_arm c' xs d more) Ss T R us w e ev rest c items v h full t n p valid =
          go (same_con c' c.con) refl valid
          (λ o q v1. rules.weaken (Reaches P M c.way e (put_sorts A B R) rest) (Reaches P M w e (put_sorts A B R) rest) (runs d (items ++ ev)) (λ v2 r. reaches-from P M w e c.way e (put_sorts A B R) rest v2 (extends-same w c.way e t.vars) r)
          (dm-ok d (part_sorts c.con T ++ Ss) R (reverse c.parts ++ us) c.way e (items ++ ev) rest (subst (λ x. DmSorted P hf hg (part_sorts x T ++ Ss) d R) q h.2) full.0 (placed-under Ss us w e ev T v c items t o n p) v1))
          (λ v1. dm-arm-ok more Ss T R us w e ev rest c items v h.3 full.1 t n p v1)
        where
          go : (x : Bool) → same_con c' c.con ≡ x → GoalsValid M (if x then walked d (reverse c.parts ++ us) c.way rest else arm-walked more c us rest)
              → (ConOf c.con T → c' ≡ c.con → GoalsValid M (walked d (reverse c.parts ++ us) c.way rest) → Ok (Reaches P M w e (put_sorts A B R) rest) (runs d (items ++ ev)))
              → (GoalsValid M (arm-walked more c us rest) → Ok (Reaches P M w e (put_sorts A B R) rest) (arm-runs more v ev))
              → Ok (Reaches P M w e (put_sorts A B R) rest) (λ i l. if_fits (parts c' v) (λ vs. runs d (vs ++ ev) i l) (arm-runs more v ev i l))
          go true q v1 on_this on_more =
              let is = same-con-is c' c.con q in
              subst (λ o. Ok (Reaches P M w e (put_sorts A B R) rest) (λ i l. if_fits o (λ vs. runs d (vs ++ ev) i l) (arm-runs more v ev i l))) (sym (ap (λ x. parts x v) is ∙ t.fits))
              (on_this (subst (λ x. ConOf x T) is h.0) is v1)
          go false q v1 on_this on_more =
              subst (λ o. Ok (Reaches P M w e (put_sorts A B R) rest) (λ i l. if_fits o (λ vs. runs d (vs ++ ev) i l) (arm-runs more v ev i l))) (sym (other-con c' c.con v items q t.fits))
              (on_more v1)
