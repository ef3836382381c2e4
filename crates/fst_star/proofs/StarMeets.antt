-- The walk of a translated definition text is the walk of the text.
use Rattle.std.proofs.Common.{◌≡◌, ℕ, suc, ◌+◌, ◌-◌, Bool, true, false, not, ◌&&◌, if◌then◌else◌, nat_lt, List, [], ◌∷◌, ◌++◌, map, length, get_or, reverse, Option, Some, None, option_map, refl, sym, ap, ap₂, ◌∙◌, subst, arith}
use Rattle.std.specs.Prelude.{⊤}
use Rattle.std.proofs.lemmas.Bool.{le-ltb}
use Rattle.fst_base.specs.Sorts.{Srt, s_bool, s_pair, s_opt, s_list, s_either, put_sorts}
use Rattle.fst_base.specs.Rows.{is_inner}
use Rattle.fst_terms.specs.Terms.{Tm, Tms, t_var, t_int, t_bool, t_unit, t_prim, t_if, t_app, t_let, t_end, t_more, shift}
use Rattle.fst_terms.specs.Formulas.{put, negation, term_at, terms_at}
use Rattle.fst_terms.specs.Sorted.{is_run, are_run}
use Rattle.fst_program.specs.declared.comp.Con.{Con}
use Rattle.fst_program.specs.declared.comp.Con.TheVariants as con
use Rattle.fst_program.specs.declared.goal.SiteKind.{SiteKind}
use Rattle.fst_program.specs.declared.goal.SiteKind.TheVariants as kind
use Rattle.fst_program.specs.declared.goal.Choice.TheVariants as choice
use Rattle.fst_program.specs.Texts.{Dm, DmArms, d_ret, d_let, d_if, d_match, d_run_f, d_run_g, d_end, d_arm, Fn, Prog, if_there}
use Rattle.fst_program.specs.Paths.{Way, count, suppose, choose, raised, all_raised, term_sites, dm_walk, dm_arm_walk, Case, selectors, same_con, dm_family, dm_at, dm_arms_at, part_sorts}
use Rattle.fst_program.specs.Sorted.{Applies, ConOf, FSorts, GSorts, RunSorted, DmSorted, DmArmsSorted}
use Rattle.fst_program.specs.Full.{HasDmArm, DmFull, DmArmsFull}
use Rattle.fst_star.specs.Transformers.{Wt, w_post, wshift}
use Rattle.fst_star.specs.Translation.{Scope, under, con_ways, dm_sort, dm_arms_sort, star, star_arm}
use Rattle.fst_star.specs.Walking.{by_look, literal, negated, wp_walk, ways_walk}
use Rattle.fst_star.proofs.PutLaws.{Skips, skips-mapped, skips-under, put-put, map-put-under, map-shift-put, put-under}
use Rattle.fst_program.proofs.SortedTerms.{append-sorted, put-sorted, sort-is, sorts-are, at-sorted}
use Rattle.fst_star.proofs.RaisedWalk.{raised-walk}
use Rattle.fst_star.proofs.Places.{sorts_of, Later, later-same, later-then, Sorted, AllOf, all-put-sorted, under-sorted, all-raised-here, all-raised-raised, At, at-same, at-under, Agree, agree-later}
use Rattle.fst_star.proofs.Needs.{append-again, append-none, term-needs-walk, if-ways, sides-agree}
use Rattle.fst_star.proofs.Calls.{map-append, map-reverse}
use Rattle.fst_star.proofs.ConWays.{put-selectors, sort_family, family-of, same-con-is, look_ways, case_ways, con-ways, selectors-sorted, con-ways-walk}

-- ---- the sort of a definition text's results

abbrev pub ResultF : Option FSorts → Srt → Type 0
ResultF None rf = ⊤
ResultF (Some h) rf = h.result ≡ rf

abbrev pub ResultG : Option GSorts → Srt → Type 0
ResultG None rg = ⊤
ResultG (Some h) rg = h.result ≡ rg

module _ (P : Prog) (hf : Option FSorts) (hg : Option GSorts) (rf rg : Srt) (isf : ResultF hf rf) (isg : ResultG hg rg) where
  sort-run-f : (o : Option FSorts) (Ss : List Srt) (t : Tm) (R : Srt) → ResultF o rf → if_there o (λ h. RunSorted P Ss t h.input × (R ≡ h.result)) ⊥ → rf ≡ R
  sort-run-f None Ss t R q h = absurd h
  sort-run-f (Some x) Ss t R q h = sym q ∙ sym h.1

  sort-run-g : (o : Option GSorts) (Ss : List Srt) (t u : Tm) (R : Srt) → ResultG o rg → if_there o (λ h. RunSorted P Ss t h.value × RunSorted P Ss u h.input × (R ≡ h.result)) ⊥ → rg ≡ R
  sort-run-g None Ss t u R q h = absurd h
  sort-run-g (Some x) Ss t u R q h = sym q ∙ sym h.2

  mutual
    pub dm-sort-is : (d : Dm) (Ss : List Srt) (R : Srt) → DmSorted P hf hg Ss d R → DmFull d → dm_sort rf rg Ss d ≡ R
    dm-sort-is (d_ret t) Ss R h n = sort-is (Applies P) Ss t R h.0
    dm-sort-is (d_let x d1 d2) Ss R h n = ap (λ S. dm_sort rf rg (S ∷ Ss) d2) (dm-sort-is d1 Ss h.0 h.1.0 n.0) ∙ dm-sort-is d2 (h.0 ∷ Ss) R h.1.1 n.1
    dm-sort-is (d_if t d1 d2) Ss R h n = dm-sort-is d1 Ss R h.1 n.0
    dm-sort-is (d_match t arms) Ss R h n = ap (λ S. dm_arms_sort rf rg Ss S arms) (sort-is (Applies P) Ss t h.0 h.1.0.0) ∙ dm-arms-sort-is arms Ss h.0 R h.1.1 n.0 n.1
    dm-sort-is (d_run_f t) Ss R h n = sort-run-f hf Ss t R isf h
    dm-sort-is (d_run_g t u) Ss R h n = sort-run-g hg Ss t u R isg h

    dm-arms-sort-is : (arms : DmArms) (Ss : List Srt) (S R : Srt) → DmArmsSorted P hf hg Ss S arms R → HasDmArm arms → DmArmsFull arms → dm_arms_sort rf rg Ss S arms ≡ R
    dm-arms-sort-is d_end Ss S R h q n = absurd q
    dm-arms-sort-is (d_arm c xs d more) Ss S R h q n = dm-sort-is d (part_sorts c S ++ Ss) R h.2 n.0

pub skips-more : (n : ℕ) (us vs : List Tm) (t : Tm) → Skips 0 n us vs → Skips 0 (suc n) us (t ∷ vs)
skips-more n us vs t h j =
    let z : nat_lt j 0 ≡ false = le-ltb j 0 (omega arith) in
    let p : j + suc n ≡ suc (j + n) = omega arith in
    ap (λ b. get_or (t ∷ vs) (if b then j else j + suc n) t_unit) z
    ∙ ap (λ m. get_or (t ∷ vs) m t_unit) p
    ∙ sym (ap (λ b. get_or vs (if b then j else j + n) t_unit) z)
    ∙ h j

module _ (P : Prog) (f : Fn) (X : Type 0) (site : SiteKind → (place : ℕ) → Tm → Way → List X) where
  abbrev Rest : Type 0
  Rest = Way → Tm → List X

  abbrev Walk : Type 0
  Walk = Tm → Way → Rest → List X

  abbrev here : Wt → (vs : List Tm) → Way → Rest → List X
  here = wp_walk X site

  module _ (w0 : Way) (vs0 : List Tm) where
    -- F is the transformer of the computation that fw walks
    abbrev pub MeetsF : Option FSorts → Wt → Walk → Type 0
    MeetsF None F fw = Unit {0}
    MeetsF (Some h) F fw = (w : Way) (s : Tm) (k k' : Rest) → Later w0.vars w.vars → Sorted P (sorts_of w.vars) s h.input → Agree P f X w h.result k k' → here F (s ∷ all_raised (count w0) w vs0) w k ≡ fw s w k'

    abbrev pub MeetsG : Option GSorts → Wt → (Tm → Walk) → Type 0
    MeetsG None G gw = Unit {0}
    MeetsG (Some h) G gw = (w : Way) (v s : Tm) (k k' : Rest) → Later w0.vars w.vars → Sorted P (sorts_of w.vars) v h.value → Sorted P (sorts_of w.vars) s h.input → Agree P f X w h.result k k' → here G (s ∷ v ∷ all_raised (count w0) w vs0) w k ≡ gw v s w k'

    -- a place of the text: n variables before the shared ones
    pub record Deep (w : Way) (vs : List Tm) (sc : Scope) (n : ℕ) : Type 0 where
      pub at : At P f w vs sc
      pub later : Later w0.vars w.vars
      pub skips : Skips 0 n (all_raised (count w0) w vs0) vs

    deep-same : (w w1 : Way) (vs : List Tm) (sc : Scope) (n : ℕ) → w1.vars ≡ w.vars → Deep w vs sc n → Deep w1 vs sc n
    deep-same w w1 vs sc n p d = record {
      at = at-same P f w w1 vs sc p d.at;
      later = subst (λ xs. Later w0.vars xs) (sym p) d.later;
      skips = subst (λ us. Skips 0 n us vs) (ap (λ xs. map (shift 0 (length xs - count w0)) vs0) (sym p)) d.skips;
    }

    deep-under : (w w1 : Way) (vs : List Tm) (sc : Scope) (n : ℕ) (t : Tm) (S : Srt) → Deep w vs sc n → Later w.vars w1.vars → Sorted P (sorts_of w1.vars) t S → Deep w1 (t ∷ all_raised (count w) w1 vs) (under S sc) (suc n)
    deep-under w w1 vs sc n t S d l h = record {
      at = at-under P f w w1 vs sc t S d.at l h;
      later = later-then w0.vars w.vars w1.vars d.later l;
      skips = skips-more n _ _ t (subst (λ us. Skips 0 n us (all_raised (count w) w1 vs)) (all-raised-raised w0 w w1 d.later l vs0) (skips-mapped (raised (count w) w1) refl 0 n _ _ d.skips));
    }

    module _ (hf : Option FSorts) (hg : Option GSorts) (rf rg : Srt) (isf : ResultF hf rf) (isg : ResultG hg rg) (F G : Wt) (fw : Walk) (gw : Tm → Walk) (mf : MeetsF hf F fw) (mg : MeetsG hg G gw) where
      abbrev there : Dm → (us : List Tm) → Way → Rest → List X
      there d us w k = dm_walk P X site fw gw d us w k

      abbrev in_arm : DmArms → Case → (us : List Tm) → Rest → List X
      in_arm arms c us k = dm_arm_walk P X site fw gw arms c us k

      abbrev tr : Scope → List Tm → ℕ → Dm → Wt
      tr sc us n d = star rf rg F G sc us n d

      abbrev tr_arm : Scope → List Tm → ℕ → DmArms → Con → List Tm → Wt
      tr_arm sc us n arms c parts = star_arm rf rg F G sc us n arms c parts

      term-sorted : (w : Way) (sc : Scope) (vs us : List Tm) (Ts : List Srt) (t : Tm) (S : Srt) → At P f w vs sc → AllOf P sc.sorts us Ts → Sorted P Ts t S → Sorted P (sorts_of w.vars) (put (map (put vs) us) t) S
      term-sorted w sc vs us Ts t S a b h = put-sorted (Applies P) (sorts_of w.vars) (map (put vs) us) Ts t S (all-put-sorted P (sorts_of w.vars) sc.sorts vs us Ts a.sorted b) h

      run-f : (o : Option FSorts) → MeetsF o F fw → (t : Tm) (R : Srt) (sc : Scope) (us : List Tm) (Ts : List Srt) (n : ℕ) (vs : List Tm) (w : Way) (k k' : Rest)
          → if_there o (λ h. RunSorted P Ts t h.input × (R ≡ h.result)) ⊥ → AllOf P sc.sorts us Ts → Deep w vs sc n → Agree P f X w R k k'
          → here (wshift 1 n F) (put vs (put us t) ∷ all_raised (count w) w vs) w k ≡ fw (put (map (put vs) us) t) w k'
      run-f None m t R sc us Ts n vs w k k' h b d g = absurd h
      run-f (Some x) m t R sc us Ts n vs w k k' h b d g =
          ap₂ (λ s vs. here (wshift 1 n F) (s ∷ vs) w k) (put-put vs us t) (all-raised-here w w refl vs)
          ∙ raised-walk X site F 1 n _ _ w k (skips-under 0 n (all_raised (count w0) w vs0) vs (put (map (put vs) us) t) d.skips)
          ∙ m w (put (map (put vs) us) t) k k' d.later (term-sorted w sc vs us Ts t x.input d.at b h.0.0) (subst (λ R. Agree P f X w R k k') h.1 g)

      run-g : (o : Option GSorts) → MeetsG o G gw → (t u : Tm) (R : Srt) (sc : Scope) (us : List Tm) (Ts : List Srt) (n : ℕ) (vs : List Tm) (w : Way) (k k' : Rest)
          → if_there o (λ h. RunSorted P Ts t h.value × RunSorted P Ts u h.input × (R ≡ h.result)) ⊥ → AllOf P sc.sorts us Ts → Deep w vs sc n → Agree P f X w R k k'
          → here (wshift 2 n G) (put (put vs (put us t) ∷ all_raised (count w) w vs) (shift 0 1 (put us u)) ∷ all_raised (count w) w (put vs (put us t) ∷ all_raised (count w) w vs)) w k ≡ gw (put (map (put vs) us) t) (put (map (put vs) us) u) w k'
      run-g None m t u R sc us Ts n vs w k k' h b d g = absurd h
      run-g (Some x) m t u R sc us Ts n vs w k k' h b d g =
          let p = all-raised-here w w refl vs in
          let v = put (map (put vs) us) t in
          let s = put (map (put vs) us) u in
          let q : put (put vs (put us t) ∷ all_raised (count w) w vs) (shift 0 1 (put us u)) ≡ s = put-under (put vs (put us t)) (all_raised (count w) w vs) (put us u) ∙ ap (λ vs. put vs (put us u)) p ∙ put-put vs us u in
          let r : all_raised (count w) w (put vs (put us t) ∷ all_raised (count w) w vs) ≡ v ∷ vs = all-raised-here w w refl (put vs (put us t) ∷ all_raised (count w) w vs) ∙ ap₂ ◌∷◌ (put-put vs us t) p in
          ap₂ (λ s vs. here (wshift 2 n G) (s ∷ vs) w k) q r
          ∙ raised-walk X site G 2 n _ _ w k (skips-under 1 n (v ∷ all_raised (count w0) w vs0) (v ∷ vs) s (skips-under 0 n (all_raised (count w0) w vs0) vs v d.skips))
          ∙ m w v s k k' d.later (term-sorted w sc vs us Ts t x.value d.at b h.0.0) (term-sorted w sc vs us Ts u x.input d.at b h.1.0) (subst (λ R. Agree P f X w R k k') h.2 g)

      arms-family : (arms : DmArms) (T R : Srt) (Ts : List Srt) → DmArmsSorted P hf hg Ts T arms R → HasDmArm arms → dm_family arms ≡ sort_family T
      arms-family d_end T R Ts h n = absurd n
      arms-family (d_arm c xs d more) T R Ts h n = family-of c T h.0

      match-meets : (t : Tm) (arms : DmArms) (R T : Srt) (sc : Scope) (us : List Tm) (Ts : List Srt) (n : ℕ) (vs : List Tm) (w : Way) (k k' : Rest)
          → Sorted P Ts t T → DmArmsSorted P hf hg Ts T arms R → HasDmArm arms → AllOf P sc.sorts us Ts → Deep w vs sc n
          → ((c : Con) (w1 : Way) → w1.vars ≡ w.vars → here (tr_arm sc us n arms c (selectors c T (put us t))) vs w1 k ≡ in_arm arms (record { con = c; parts = selectors c T (put vs (put us t)); way = w1 }) (map (put vs) us) k')
          → here (tr sc us n (d_match t arms)) vs w k ≡ there (d_match t arms) (map (put vs) us) w k'
      match-meets t arms R T sc us Ts n vs w k k' h q e b d ih =
          let u = put us t in
          let us1 = map (put vs) us in
          let A = λ (c : Con) (parts : List Tm) (w : Way). in_arm arms (record { con = c; parts = parts; way = w }) us1 k' in
          let r : Sorted P (sorts_of w.vars) (put us1 t) T = term-sorted w sc vs us Ts t T d.at b h in
          term-needs-walk P X site t vs us _ w k
          ∙ ap (λ l. term_sites P X site t us1 w ++ l)
          (ap (λ T. ways_walk X site (con_ways (dm_family arms) T u (λ c parts. tr_arm sc us n arms c parts)) vs w k) (sort-is (Applies P) sc.sorts u T (put-sorted (Applies P) sc.sorts us Ts t T b h))
          ∙ con-ways-walk X site A (λ c parts. tr_arm sc us n arms c parts) vs w k T u (λ c w1 p. ih c w1 p) (dm_family arms)
          ∙ ap₂ (λ cs u. look_ways X A w cs T u) (arms-family arms T R Ts q e) (put-put vs us t)
          ∙ con-ways X A w P (sorts_of w.vars) (put us1 t) T r
          ∙ ap₂ (λ cs T. case_ways X A w cs T (put us1 t)) (sym (arms-family arms T R Ts q e)) (sym (sort-is (Applies P) (sorts_of w.vars) (put us1 t) T r)))

      arm-meets : (c c' : Con) (T R : Srt) (sc : Scope) (us : List Tm) (Ts : List Srt) (n : ℕ) (u : Tm) (vs : List Tm) (w : Way) (k k' : Rest) (d : Dm) (more : DmArms)
          → ConOf c' T → Sorted P sc.sorts u T → AllOf P sc.sorts us Ts
          → ((parts : List Tm) → AllOf P sc.sorts (parts ++ us) (part_sorts c' T ++ Ts) → here (tr sc (parts ++ us) n d) vs w k ≡ there d (map (put vs) (parts ++ us)) w k')
          → here (tr_arm sc us n more c (selectors c T u)) vs w k ≡ in_arm more (record { con = c; parts = selectors c T (put vs u); way = w }) (map (put vs) us) k'
          → (y : Bool) → same_con c' c ≡ y
          → here (if y then tr sc (reverse (selectors c T u) ++ us) n d else tr_arm sc us n more c (selectors c T u)) vs w k
          ≡ (if y then there d (reverse (selectors c T (put vs u)) ++ map (put vs) us) w k' else in_arm more (record { con = c; parts = selectors c T (put vs u); way = w }) (map (put vs) us) k')
      arm-meets c c' T R sc us Ts n u vs w k k' d more o r b ih other false q = other
      arm-meets c c' T R sc us Ts n u vs w k k' d more o r b ih other true q =
          let p = same-con-is c' c q in
          ih (reverse (selectors c T u)) (append-sorted (Applies P) sc.sorts (reverse (selectors c T u)) us (part_sorts c' T) Ts (subst (λ d. AllOf P sc.sorts (reverse (selectors d T u)) (part_sorts c' T)) p (selectors-sorted P sc.sorts c' T u o r)) b)
          ∙ ap (λ us. there d us w k') (map-append (put vs) (reverse (selectors c T u)) us ∙ ap (λ l. l ++ map (put vs) us) (map-reverse (put vs) (selectors c T u) ∙ ap reverse (put-selectors vs c T u)))

      mutual
        pub dm-meets : (d : Dm) (R : Srt) (sc : Scope) (us : List Tm) (Ts : List Srt) (n : ℕ) (vs : List Tm) (w : Way) (k k' : Rest)
            → DmSorted P hf hg Ts d R → DmFull d → AllOf P sc.sorts us Ts → Deep w vs sc n → Agree P f X w R k k'
            → here (tr sc us n d) vs w k ≡ there d (map (put vs) us) w k'
        dm-meets (d_ret t) R sc us Ts n vs w k k' h e b d g =
            term-needs-walk P X site t vs us (w_post (put us t)) w k
            ∙ ap (λ l. term_sites P X site t (map (put vs) us) w ++ l) (ap (k w) (put-put vs us t) ∙ g w (put (map (put vs) us) t) (later-same w.vars w.vars refl) (term-sorted w sc vs us Ts t R d.at b h.0))
        dm-meets (d_let x d1 d2) R sc us Ts n vs w k k' h e b d g =
            ap (λ S. here (tr sc us n d1) vs w (λ w1 t. here (tr (under S sc) (t_var 0 ∷ map (shift 0 1) us) (suc n) d2) (t ∷ all_raised (count w) w1 vs) w1 k))
            (ap (λ Us. dm_sort rf rg Us d1) (sorts-are (Applies P) sc.sorts us Ts b) ∙ dm-sort-is P hf hg rf rg isf isg d1 Ts h.0 h.1.0 e.0)
            ∙ dm-meets d1 h.0 sc us Ts n vs w _ _ h.1.0 e.0 b d (λ w1 t later r.
            let rvs = all_raised (count w) w1 vs in
            dm-meets d2 R (under h.0 sc) (t_var 0 ∷ map (shift 0 1) us) (h.0 ∷ Ts) (suc n) (t ∷ rvs) w1 k k' h.1.1 e.1 (refl, under-sorted P h.0 sc.sorts us Ts b) (deep-under w w1 vs sc n t h.0 d later r) (agree-later P f X w w1 R k k' later g)
            ∙ ap (λ us. there d2 (t ∷ us) w1 k') (map-put-under t rvs us ∙ sym (map-shift-put 0 (count w1 - count w) vs us)))
        dm-meets (d_if t d1 d2) R sc us Ts n vs w k k' h e b d g =
            term-needs-walk P X site t vs us _ w k
            ∙ ap (λ l. term_sites P X site t (map (put vs) us) w ++ l)
            (ap (λ u. by_look (literal u) (here (tr sc us n d1) vs w k) (here (tr sc us n d1) vs (choose choice.Then (suppose u w)) k) ++ (by_look (negated (negation u)) (here (tr sc us n d2) vs w k) (here (tr sc us n d2) vs (choose choice.Else (suppose (negation u) w)) k) ++ [])) (put-put vs us t)
            ∙ if-ways P X site (put (map (put vs) us) t) (λ w. here (tr sc us n d1) vs w k) (λ w. here (tr sc us n d2) vs w k) w
            ∙ sides-agree P X site (put (map (put vs) us) t) w _ _ (λ y w1 p.
            go y w1 (dm-meets d1 R sc us Ts n vs w1 k k' h.1 e.0 b (deep-same w w1 vs sc n p d) (agree-later P f X w w1 R k k' (later-same w.vars w1.vars p) g))
            (dm-meets d2 R sc us Ts n vs w1 k k' h.2 e.1 b (deep-same w w1 vs sc n p d) (agree-later P f X w w1 R k k' (later-same w.vars w1.vars p) g))))
          where
            go : (y : Bool) (w1 : Way) → here (tr sc us n d1) vs w1 k ≡ there d1 (map (put vs) us) w1 k' → here (tr sc us n d2) vs w1 k ≡ there d2 (map (put vs) us) w1 k'
                → (if y then here (tr sc us n d1) vs w1 k else here (tr sc us n d2) vs w1 k) ≡ (if y then there d1 (map (put vs) us) w1 k' else there d2 (map (put vs) us) w1 k')
            go true w1 p q = p
            go false w1 p q = q
        dm-meets (d_match t arms) R sc us Ts n vs w k k' h e b d g =
            match-meets t arms R h.0 sc us Ts n vs w k k' h.1.0.0 h.1.1 e.0 b d
            (λ c w1 p. arms-meet arms c R h.0 sc us Ts n (put us t) vs w1 k k' h.1.1 e.1 (put-sorted (Applies P) sc.sorts us Ts t h.0 b h.1.0.0) b (deep-same w w1 vs sc n p d) (agree-later P f X w w1 R k k' (later-same w.vars w1.vars p) g))
        dm-meets (d_run_f t) R sc us Ts n vs w k k' h e b d g =
            term-needs-walk P X site t vs us _ w k
            ∙ ap (λ l. term_sites P X site t (map (put vs) us) w ++ l) (run-f hf mf t R sc us Ts n vs w k k' h b d g)
        dm-meets (d_run_g t u) R sc us Ts n vs w k k' h e b d g =
            term-needs-walk P X site t vs us _ w k
            ∙ ap (λ l. term_sites P X site t (map (put vs) us) w ++ l) (term-needs-walk P X site u vs us _ w k ∙ ap (λ l. term_sites P X site u (map (put vs) us) w ++ l) (run-g hg mg t u R sc us Ts n vs w k k' h b d g))
            ∙ append-again (term_sites P X site t (map (put vs) us) w) (term_sites P X site u (map (put vs) us) w) (gw (put (map (put vs) us) t) (put (map (put vs) us) u) w k')

        arms-meet : (arms : DmArms) (c : Con) (R T : Srt) (sc : Scope) (us : List Tm) (Ts : List Srt) (n : ℕ) (u : Tm) (vs : List Tm) (w : Way) (k k' : Rest)
            → DmArmsSorted P hf hg Ts T arms R → DmArmsFull arms → Sorted P sc.sorts u T → AllOf P sc.sorts us Ts → Deep w vs sc n → Agree P f X w R k k'
            → here (tr_arm sc us n arms c (selectors c T u)) vs w k ≡ in_arm arms (record { con = c; parts = selectors c T (put vs u); way = w }) (map (put vs) us) k'
        arms-meet d_end c R T sc us Ts n u vs w k k' h e r b d g = append-none (site kind.Match 0 (t_bool false) w)
        arms-meet (d_arm c' xs d1 more) c R T sc us Ts n u vs w k k' h e r b d g =
            arm-meets c c' T R sc us Ts n u vs w k k' d1 more h.0 r b
            (λ parts all. dm-meets d1 R sc (parts ++ us) (part_sorts c' T ++ Ts) n vs w k k' h.2 e.0 all d g)
            (arms-meet more c R T sc us Ts n u vs w k k' h.3 e.1 r b d g)
            (same_con c' c) refl

-- ---- texts at the sorts of their values

mutual
  run-at : (A B : Srt) (t : Tm) → is_run (term_at A B t) ≡ is_run t
  run-at A B (t_var i) = refl
  run-at A B (t_int n) = refl
  run-at A B (t_bool b) = refl
  run-at A B t_unit = refl
  run-at A B (t_prim o S ts at) = ap (λ b. not (is_inner o) && b) (runs-at A B ts)
  run-at A B (t_if c t u) = rw (run-at A B c, run-at A B t, run-at A B u) refl
  run-at A B (t_app k S ts) = refl
  run-at A B (t_let x t u) = refl

  runs-at : (A B : Srt) (ts : Tms) → are_run (terms_at A B ts) ≡ are_run ts
  runs-at A B t_end = refl
  runs-at A B (t_more t ts) = ap₂ ◌&&◌ (run-at A B t) (runs-at A B ts)

abbrev pub f_at : (A B : Srt) → Option FSorts → Option FSorts
f_at A B o = option_map (λ h. record { input = put_sorts A B h.input; result = put_sorts A B h.result }) o

abbrev pub g_at : (A B : Srt) → Option GSorts → Option GSorts
g_at A B o = option_map (λ h. record { value = put_sorts A B h.value; input = put_sorts A B h.input; result = put_sorts A B h.result }) o

module _ (P : Prog) (A B : Srt) where
  pub term-at : (Ss : List Srt) (t : Tm) (S : Srt) → RunSorted P Ss t S → RunSorted P (map (put_sorts A B) Ss) (term_at A B t) (put_sorts A B S)
  term-at Ss t S h = (at-sorted (Applies P) A B Ss t S h.0 h.1, run-at A B t ∙ h.1)

  abbrev at : Srt → Srt
  at S = put_sorts A B S

  pub con-at : (c : Con) (S : Srt) → ConOf c S → ConOf c (at S)
  con-at con.True s_bool h = tt
  con-at con.False s_bool h = tt
  con-at con.Empty (s_opt S) h = tt
  con-at con.Full (s_opt S) h = tt
  con-at con.Nil (s_list S) h = tt
  con-at con.Cons (s_list S) h = tt
  con-at con.Left (s_either S T) h = tt
  con-at con.Right (s_either S T) h = tt
  con-at con.Pair (s_pair S T) h = tt
  con-at c S h = absurd h

  pub parts-at : (c : Con) (S : Srt) → ConOf c S → map at (part_sorts c S) ≡ part_sorts c (at S)
  parts-at con.True s_bool h = refl
  parts-at con.False s_bool h = refl
  parts-at con.Empty (s_opt S) h = refl
  parts-at con.Full (s_opt S) h = refl
  parts-at con.Nil (s_list S) h = refl
  parts-at con.Cons (s_list S) h = refl
  parts-at con.Left (s_either S T) h = refl
  parts-at con.Right (s_either S T) h = refl
  parts-at con.Pair (s_pair S T) h = refl
  parts-at c S h = absurd h

  pub map-++ : (Ss Ts : List Srt) → map at (Ss ++ Ts) ≡ map at Ss ++ map at Ts
  map-++ [] Ts = refl
  map-++ (S ∷ Ss) Ts = ap (λ Us. at S ∷ Us) (map-++ Ss Ts)

  length-map : (Ss : List Srt) → length (map at Ss) ≡ length Ss
  length-map [] = refl
  length-map (S ∷ Ss) = ap suc (length-map Ss)

  mutual
    pub dm-full-at : (d : Dm) → DmFull d → DmFull (dm_at A B d)
    dm-full-at (d_ret t) h = tt
    dm-full-at (d_let x d1 d2) h = (dm-full-at d1 h.0, dm-full-at d2 h.1)
    dm-full-at (d_if t d1 d2) h = (dm-full-at d1 h.0, dm-full-at d2 h.1)
    dm-full-at (d_match t arms) h = (has-arm-at arms h.0, arms-full-at arms h.1)
    dm-full-at (d_run_f t) h = tt
    dm-full-at (d_run_g t u) h = tt

    has-arm-at : (arms : DmArms) → HasDmArm arms → HasDmArm (dm_arms_at A B arms)
    has-arm-at d_end h = h
    has-arm-at (d_arm c xs d more) h = tt

    arms-full-at : (arms : DmArms) → DmArmsFull arms → DmArmsFull (dm_arms_at A B arms)
    arms-full-at d_end h = tt
    arms-full-at (d_arm c xs d more) h = (dm-full-at d h.0, arms-full-at more h.1)

  module _ (hf : Option FSorts) (hg : Option GSorts) where
    run-f-at : (o : Option FSorts) (Ss : List Srt) (t : Tm) (R : Srt) → if_there o (λ h. RunSorted P Ss t h.input × (R ≡ h.result)) ⊥ → if_there (f_at A B o) (λ h. RunSorted P (map at Ss) (term_at A B t) h.input × (at R ≡ h.result)) ⊥
    run-f-at None Ss t R h = h
    run-f-at (Some x) Ss t R h = (term-at Ss t x.input h.0, ap at h.1)

    run-g-at : (o : Option GSorts) (Ss : List Srt) (t u : Tm) (R : Srt) → if_there o (λ h. RunSorted P Ss t h.value × RunSorted P Ss u h.input × (R ≡ h.result)) ⊥ → if_there (g_at A B o) (λ h. RunSorted P (map at Ss) (term_at A B t) h.value × RunSorted P (map at Ss) (term_at A B u) h.input × (at R ≡ h.result)) ⊥
    run-g-at None Ss t u R h = h
    run-g-at (Some x) Ss t u R h = (term-at Ss t x.value h.0, term-at Ss u x.input h.1, ap at h.2)

    mutual
      pub dm-at-sorted : (d : Dm) (Ss : List Srt) (R : Srt) → DmSorted P hf hg Ss d R → DmSorted P (f_at A B hf) (g_at A B hg) (map at Ss) (dm_at A B d) (at R)
      dm-at-sorted (d_ret t) Ss R h = term-at Ss t R h
      dm-at-sorted (d_let x d1 d2) Ss R h = (at h.0, (dm-at-sorted d1 Ss h.0 h.1.0, dm-at-sorted d2 (h.0 ∷ Ss) R h.1.1))
      dm-at-sorted (d_if t d1 d2) Ss R h = (term-at Ss t s_bool h.0, dm-at-sorted d1 Ss R h.1, dm-at-sorted d2 Ss R h.2)
      dm-at-sorted (d_match t arms) Ss R h = (at h.0, (term-at Ss t h.0 h.1.0, arms-at-sorted arms Ss h.0 R h.1.1))
      dm-at-sorted (d_run_f t) Ss R h = run-f-at hf Ss t R h
      dm-at-sorted (d_run_g t u) Ss R h = run-g-at hg Ss t u R h

      arms-at-sorted : (arms : DmArms) (Ss : List Srt) (S R : Srt) → DmArmsSorted P hf hg Ss S arms R → DmArmsSorted P (f_at A B hf) (g_at A B hg) (map at Ss) (at S) (dm_arms_at A B arms) (at R)
      arms-at-sorted d_end Ss S R h = tt
      arms-at-sorted (d_arm c xs d more) Ss S R h =
          let p = parts-at c S h.0 in (
            con-at c S h.0,
            h.1 ∙ sym (length-map (part_sorts c S)) ∙ ap length p,
            subst (λ Us. DmSorted P (f_at A B hf) (g_at A B hg) Us (dm_at A B d) (at R)) (map-++ (part_sorts c S) Ss ∙ ap (λ Us. Us ++ map at Ss) p) (dm-at-sorted d (part_sorts c S ++ Ss) R h.2),
            arms-at-sorted more Ss S R h.3,
          )
