-- Definition text whose symbolic run keeps ways well sorted: each site and each end of a way is met with formulas and a result of their sorts.
use Rattle.std.proofs.Common.{◌≡◌, ℕ, Bool, true, false, if◌then◌else◌, List, [], ◌∷◌, ◌++◌, map, reverse, Option, Some, None, refl, sym, ap, ◌∙◌, subst}
use Rattle.std.specs.Prelude.{⊤}
use Rattle.fst_base.specs.declared.op.Op.TheVariants as op
use Rattle.fst_base.specs.Sorts.{Srt, s_bool, s_int, s_pair, s_opt, s_list, s_either, put_sorts}
use Rattle.fst_terms.specs.Terms.{Tm, t_bool, t_prim, row}
use Rattle.fst_terms.specs.Formulas.{negation, equation, nought, put, term_at}
use Rattle.fst_terms.specs.Sorted.{TmSorted}
use Rattle.fst_program.specs.declared.comp.Con.{Con}
use Rattle.fst_program.specs.declared.comp.Con.TheVariants as con
use Rattle.fst_program.specs.declared.goal.Choice.TheVariants as choice
use Rattle.fst_program.specs.declared.goal.SiteKind.{SiteKind}
use Rattle.fst_program.specs.declared.goal.SiteKind.TheVariants as kind
use Rattle.fst_program.specs.Texts.{Dm, DmArms, d_ret, d_let, d_if, d_match, d_run_f, d_run_g, d_end, d_arm, Prog, if_there}
use Rattle.fst_program.specs.Paths.{Way, count, suppose, suppose_all, choose, all_raised, over, Side, sides, Case, cases, con_of, con_args, selectors, enter, family, dm_family, same_con, sort_on, Division, divisions, divisor_sites, part_sorts, dm_at, dm_arms_at, dm_walk, dm_arm_walk}
use Rattle.fst_program.specs.Sorted.{Applies, RunSorted, FSorts, GSorts, ConOf, DmSorted, DmArmsSorted}
use Rattle.fst_program.specs.Full.{DmFull, DmArmsFull, HasDmArm}
use Rattle.fst_program.proofs.SortedTerms.{AllSorted, append-sorted, put-sorted, at-sorted, sort-is}
use Rattle.fst_program.proofs.Ways.{way_sorts, suppose-all-vars}
use Rattle.fst_goodness.proofs.Choices.{same-con-is, family-of, sort_family, HasCons, has-cons}
use Rattle.fst_goodness.proofs.DefinitionText.{con-at, parts-at, map-append}
use Rattle.fst_goodness.proofs.Formed.{run-sorted, Later, later-same, later-then, Formed, suppose-all-formed, all-raised-later, sorted-on, all-sorted-on, prim-of, equation-of, negation-of, Divides, AllDivide, divisions-of, put-forms, known-case, selector-of}

-- ---- what sites and ends give

module _ (fixed : Bool) (P : Prog) (A : (k : ℕ) → List Srt → (S : Srt) → Type 0) (X : Type 0) (site : SiteKind → (place : ℕ) → Tm → Way → List X) (Good : X → Type 0) where
  abbrev pub Each : List X → Type 0
  Each [] = ⊤
  Each (x ∷ xs) = Good x × Each xs

  pub each-both : (xs ys : List X) → Each xs → Each ys → Each (xs ++ ys)
  each-both [] ys h k = k
  each-both (x ∷ xs) ys h k = (h.0, each-both xs ys h.1 k)

  -- what follows a way is as wanted, from each formed way further on and each result of the sort
  abbrev pub Wants : Way → Srt → (Way → Tm → List X) → Type 0
  Wants w S k = (w1 : Way) (t : Tm) → Later fixed w w1 → Formed A w1 → TmSorted A (way_sorts w1) t S → Each (k w1 t)

  pub wants-on : (w w1 : Way) (S : Srt) (k : Way → Tm → List X) → Later fixed w w1 → Wants w S k → Wants w1 S k
  wants-on w w1 S k x h w2 t y f s = h w2 t (later-then fixed w w1 w2 x y) f s

  -- one way of a match
  pub record Branch (w : Way) (T : Srt) (c : Case) : Type 0 where
    pub con : ConOf c.con T
    pub vars : c.way.vars ≡ w.vars
    pub formed : Formed A c.way
    pub parts : AllSorted A (way_sorts w) (reverse c.parts) (part_sorts c.con T)

  module _ (w : Way) (u : Tm) (f : Case → List X) (formed : Formed A w) where
    abbrev case-of : Srt → Con → Case
    case-of T c = record { con = c; parts = selectors c T u; way = enter c T u w }

    each-branch : (T : Srt) → HasCons T → TmSorted A (way_sorts w) u T → ((c : Case) → Branch w T c → Each (f c)) → Each (over (map (case-of T) (sort_family T)) f)
    each-branch s_bool c s k =
        each-both _ _ (k (case-of s_bool con.True) (record { con = tt; vars = refl; formed = (s, formed); parts = tt }))
        (each-both _ [] (k (case-of s_bool con.False) (record { con = tt; vars = refl; formed = (negation-of A (way_sorts w) u s, formed); parts = tt })) tt)
    each-branch (s_opt S) c s k =
        let Ss = way_sorts w in
        let the = selector-of A Ss op.The S (s_opt S) u (record { first = S; second = S; args = refl; result = refl }) s in
        each-both _ _ (k (case-of (s_opt S) con.Empty) (record { con = tt; vars = refl; formed = (equation-of A Ss (s_opt S) u (t_prim op.Nothing (s_opt S) (row []) 0) s (prim-of A Ss op.Nothing (s_opt S) [] [] (record { first = S; second = S; args = refl; result = refl }) tt), formed); parts = tt }))
        (each-both _ [] (k (case-of (s_opt S) con.Full) (record {
          con = tt;
          vars = refl;
          formed = (equation-of A Ss (s_opt S) u (t_prim op.Just (s_opt S) (row (selectors con.Full (s_opt S) u)) 0) s (prim-of A Ss op.Just (s_opt S) (selectors con.Full (s_opt S) u) (S ∷ []) (record { first = S; second = S; args = refl; result = refl }) (the, tt)), formed);
          parts = (the, tt);
        })) tt)
    each-branch (s_list S) c s k =
        let Ss = way_sorts w in
        let hd = selector-of A Ss op.Hd S (s_list S) u (record { first = S; second = S; args = refl; result = refl }) s in
        let tl = selector-of A Ss op.Tl (s_list S) (s_list S) u (record { first = S; second = S; args = refl; result = refl }) s in
        each-both _ _ (k (case-of (s_list S) con.Nil) (record { con = tt; vars = refl; formed = (equation-of A Ss (s_list S) u (t_prim op.Nil (s_list S) (row []) 0) s (prim-of A Ss op.Nil (s_list S) [] [] (record { first = S; second = S; args = refl; result = refl }) tt), formed); parts = tt }))
        (each-both _ [] (k (case-of (s_list S) con.Cons) (record {
          con = tt;
          vars = refl;
          formed = (equation-of A Ss (s_list S) u (t_prim op.Cons (s_list S) (row (selectors con.Cons (s_list S) u)) 0) s (prim-of A Ss op.Cons (s_list S) (selectors con.Cons (s_list S) u) (S ∷ s_list S ∷ []) (record { first = S; second = S; args = refl; result = refl }) (hd, (tl, tt))), formed);
          parts = (tl, (hd, tt));
        })) tt)
    each-branch (s_either S T) c s k =
        let Ss = way_sorts w in
        let left = selector-of A Ss op.Outl S (s_either S T) u (record { first = S; second = T; args = refl; result = refl }) s in
        let right = selector-of A Ss op.Outr T (s_either S T) u (record { first = S; second = T; args = refl; result = refl }) s in
        each-both _ _ (k (case-of (s_either S T) con.Left) (record {
          con = tt;
          vars = refl;
          formed = (equation-of A Ss (s_either S T) u (t_prim op.Inl (s_either S T) (row (selectors con.Left (s_either S T) u)) 0) s (prim-of A Ss op.Inl (s_either S T) (selectors con.Left (s_either S T) u) (S ∷ []) (record { first = S; second = T; args = refl; result = refl }) (left, tt)), formed);
          parts = (left, tt);
        }))
        (each-both _ [] (k (case-of (s_either S T) con.Right) (record {
          con = tt;
          vars = refl;
          formed = (equation-of A Ss (s_either S T) u (t_prim op.Inr (s_either S T) (row (selectors con.Right (s_either S T) u)) 0) s (prim-of A Ss op.Inr (s_either S T) (selectors con.Right (s_either S T) u) (T ∷ []) (record { first = S; second = T; args = refl; result = refl }) (right, tt)), formed);
          parts = (right, tt);
        })) tt)
    each-branch (s_pair S T) c s k =
        let Ss = way_sorts w in
        each-both _ [] (k (case-of (s_pair S T) con.Pair) (record {
          con = tt;
          vars = refl;
          formed = formed;
          parts = (selector-of A Ss op.Snd T (s_pair S T) u (record { first = S; second = T; args = refl; result = refl }) s, (selector-of A Ss op.Fst S (s_pair S T) u (record { first = S; second = T; args = refl; result = refl }) s, tt));
        })) tt
    each-branch T c s k = absurd c

    pub each-case : (c : Con) (T : Srt) → ConOf c T → TmSorted A (way_sorts w) u T → ((c : Case) → Branch w T c → Each (f c)) → Each (over (cases (family c) u w) f)
    each-case c T o s k = go (con_of u) refl
      where
        go : (x : Option Con) → con_of u ≡ x → Each (over (if_there x (λ c. record { con = c; parts = con_args u; way = w } ∷ []) (map (λ c. record { con = c; parts = selectors c (sort_on w u) u; way = enter c (sort_on w u) u w }) (family c))) f)
        go (Some d) q = let y = known-case A (way_sorts w) u T d s q in each-both _ [] (k (record { con = d; parts = con_args u; way = w }) (record { con = y.0; vars = refl; formed = formed; parts = y.1 })) tt
        go None q =
            subst (λ cs. Each (over (map (case-of (sort_on w u)) cs) f)) (sym (family-of c T o))
            (subst (λ S. Each (over (map (case-of S) (sort_family T)) f)) (sym (sort-is A (way_sorts w) u T s)) (each-branch T (has-cons c T o) s k))

  -- both sides of an if
  pub each-side : (w : Way) (u : Tm) (f : Side → List X) → Formed A w → TmSorted A (way_sorts w) u s_bool → ((w1 : Way) (b : Bool) → w1.vars ≡ w.vars → Formed A w1 → Each (f (record { first = b; way = w1 }))) → Each (over (sides u w) f)
  each-side w u f formed s k = go u s
    where
      two : (u : Tm) → TmSorted A (way_sorts w) u s_bool → Each (f (record { first = true; way = choose choice.Then (suppose u w) }) ++ (f (record { first = false; way = choose choice.Else (suppose (negation u) w) }) ++ []))
      two u s = each-both _ _ (k (choose choice.Then (suppose u w)) true refl (s, formed)) (each-both _ [] (k (choose choice.Else (suppose (negation u) w)) false refl (negation-of A (way_sorts w) u s, formed)) tt)

      go : (u : Tm) → TmSorted A (way_sorts w) u s_bool → Each (over (sides u w) f)
      go (t_bool b) s = each-both _ [] (k w b refl formed) tt
      go u s = two u s

  module _ (site-ok : (m : SiteKind) (at : ℕ) (phi : Tm) (w : Way) → Formed A w → TmSorted A (way_sorts w) phi s_bool → Each (site m at phi w)) where
    divisor-formed : (d : Division) (us : List Tm) (Us : List Srt) (w : Way) → Formed A w → AllSorted A (way_sorts w) us Us → Divides A Us d → Each (site kind.Divisor d.place (negation (equation (put us d.divisor) nought)) (suppose_all (map (put us) d.conditions) w))
    divisor-formed d us Us w formed h k =
        let w1 = suppose_all (map (put us) d.conditions) w in
        site-ok kind.Divisor d.place (negation (equation (put us d.divisor) nought)) w1
        (suppose-all-formed A (map (put us) d.conditions) w (put-forms A (way_sorts w) us Us d.conditions h k.conditions) formed)
        (sorted-on A w w1 (negation (equation (put us d.divisor) nought)) s_bool (suppose-all-vars (map (put us) d.conditions) w)
        (negation-of A (way_sorts w) (equation (put us d.divisor) nought) (equation-of A (way_sorts w) s_int (put us d.divisor) nought (put-sorted A (way_sorts w) us Us d.divisor s_int h k.divisor) refl)))

    pub each-divisor : (ds : List Division) (us : List Tm) (Us : List Srt) (w : Way) → Formed A w → AllSorted A (way_sorts w) us Us → AllDivide A Us ds → Each (divisor_sites P X site ds us w)
    each-divisor [] us Us w formed h k = tt
    each-divisor (d ∷ ds) us Us w formed h k = each-both _ _ (divisor-formed d us Us w formed h k.0) (each-divisor ds us Us w formed h k.1)

    -- ---- definition text

    abbrev pub Steps : Type 0
    Steps = Tm → Way → (Way → Tm → List X) → List X

    module _ (B C : Srt) where
      -- a computation of the header, from ways further on than w0
      abbrev pub FormsF : Option FSorts → Way → Steps → Type 0
      FormsF None w0 steps = ⊤
      FormsF (Some h) w0 steps = (w : Way) (s : Tm) (k : Way → Tm → List X) → Later fixed w0 w → Formed A w → TmSorted A (way_sorts w) s (put_sorts B C h.input) → Wants w (put_sorts B C h.result) k → Each (steps s w k)

      abbrev pub FormsG : Option GSorts → Way → (Tm → Steps) → Type 0
      FormsG None w0 steps = ⊤
      FormsG (Some h) w0 steps = (w : Way) (t s : Tm) (k : Way → Tm → List X) → Later fixed w0 w → Formed A w → TmSorted A (way_sorts w) t (put_sorts B C h.value) → TmSorted A (way_sorts w) s (put_sorts B C h.input) → Wants w (put_sorts B C h.result) k → Each (steps t s w k)

      module _ (w0 : Way) (hf : Option FSorts) (hg : Option GSorts) (fw : Steps) (gw : Tm → Steps) (forms_f : FormsF hf w0 fw) (forms_g : FormsG hg w0 gw) where
        -- terms for the text's variables, on a formed way
        pub record Placed (Ss : List Srt) (us : List Tm) (w : Way) : Type 0 where
          pub later : Later fixed w0 w
          pub formed : Formed A w
          pub terms : AllSorted A (way_sorts w) us (map (put_sorts B C) Ss)

        run-at : (Ss : List Srt) (t : Tm) (S : Srt) → RunSorted P Ss t S → TmSorted A (map (put_sorts B C) Ss) (term_at B C t) (put_sorts B C S)
        run-at Ss t S h = at-sorted A B C Ss t S (run-sorted (Applies P) A Ss t S h.0 h.1) h.1

        symbol : (Ss : List Srt) (t : Tm) (S : Srt) (us : List Tm) (w : Way) → RunSorted P Ss t S → Placed Ss us w → TmSorted A (way_sorts w) (put us (term_at B C t)) (put_sorts B C S)
        symbol Ss t S us w h p = put-sorted A (way_sorts w) us (map (put_sorts B C) Ss) (term_at B C t) (put_sorts B C S) p.terms (run-at Ss t S h)

        sites : (Ss : List Srt) (t : Tm) (S : Srt) (us : List Tm) (w : Way) → RunSorted P Ss t S → Placed Ss us w → Each (divisor_sites P X site (divisions [] (term_at B C t)) us w)
        sites Ss t S us w h p = each-divisor (divisions [] (term_at B C t)) us (map (put_sorts B C) Ss) w p.formed p.terms (divisions-of A (map (put_sorts B C) Ss) [] (term_at B C t) (put_sorts B C S) tt (run-at Ss t S h))

        placed-on : (Ss : List Srt) (us : List Tm) (w w1 : Way) → w1.vars ≡ w.vars → Formed A w1 → Placed Ss us w → Placed Ss us w1
        placed-on Ss us w w1 q f p = record { later = later-then fixed w0 w w1 p.later (later-same fixed w w1 q); formed = f; terms = all-sorted-on A w w1 us (map (put_sorts B C) Ss) q p.terms }

        placed-later : (Ss : List Srt) (us : List Tm) (w w1 : Way) (T : Srt) (t : Tm) → Placed Ss us w → Later fixed w w1 → Formed A w1 → TmSorted A (way_sorts w1) t (put_sorts B C T) → Placed (T ∷ Ss) (t ∷ all_raised (count w) w1 us) w1
        placed-later Ss us w w1 T t p x f s = record { later = later-then fixed w0 w w1 p.later x; formed = f; terms = (s, all-raised-later A fixed w w1 us (map (put_sorts B C) Ss) x p.terms) }

        placed-under : (Ss : List Srt) (us : List Tm) (w : Way) (T : Srt) (c : Case) → Branch w (put_sorts B C T) c → ConOf c.con T → Placed Ss us w → Placed (part_sorts c.con T ++ Ss) (reverse c.parts ++ us) c.way
        placed-under Ss us w T c br o p =
            let q = placed-on Ss us w c.way br.vars br.formed p in
            let together : map (put_sorts B C) (part_sorts c.con T ++ Ss) ≡ part_sorts c.con (put_sorts B C T) ++ map (put_sorts B C) Ss = map-append B C (part_sorts c.con T) Ss ∙ ap (λ Us. Us ++ map (put_sorts B C) Ss) (sym (parts-at B C c.con T o)) in
            record {
              later = q.later;
              formed = br.formed;
              terms = subst (λ Us. AllSorted A (way_sorts c.way) (reverse c.parts ++ us) Us) (sym together)
                  (append-sorted A (way_sorts c.way) (reverse c.parts) us (part_sorts c.con (put_sorts B C T)) (map (put_sorts B C) Ss) (all-sorted-on A w c.way (reverse c.parts) (part_sorts c.con (put_sorts B C T)) br.vars br.parts) q.terms);
            }

        abbrev walked : Dm → List Tm → Way → (Way → Tm → List X) → List X
        walked d us w k = dm_walk P X site fw gw (dm_at B C d) us w k

        abbrev arm-walked : DmArms → Case → List Tm → (Way → Tm → List X) → List X
        arm-walked arms c us k = dm_arm_walk P X site fw gw (dm_arms_at B C arms) c us k

        abbrev side-walked : Dm → Dm → List Tm → (Way → Tm → List X) → Side → List X
        side-walked d1 d2 us k s = if s.first then walked d1 us s.way k else walked d2 us s.way k

        run-f-each : (h : Option FSorts) → FormsF h w0 fw → (Ss : List Srt) (t : Tm) (R : Srt) (us : List Tm) (w : Way) (k : Way → Tm → List X) → if_there h (λ h. RunSorted P Ss t h.input × (R ≡ h.result)) ⊥ → Placed Ss us w → Wants w (put_sorts B C R) k → Each (walked (d_run_f t) us w k)
        run-f-each None c Ss t R us w k h p wn = absurd h
        run-f-each (Some x) c Ss t R us w k h p wn =
            each-both _ _ (sites Ss t x.input us w h.0 p)
            (c w (put us (term_at B C t)) k p.later p.formed (symbol Ss t x.input us w h.0 p) (subst (λ S. Wants w (put_sorts B C S) k) h.1 wn))

        run-g-each : (h : Option GSorts) → FormsG h w0 gw → (Ss : List Srt) (t u : Tm) (R : Srt) (us : List Tm) (w : Way) (k : Way → Tm → List X) → if_there h (λ h. RunSorted P Ss t h.value × RunSorted P Ss u h.input × (R ≡ h.result)) ⊥ → Placed Ss us w → Wants w (put_sorts B C R) k → Each (walked (d_run_g t u) us w k)
        run-g-each None c Ss t u R us w k h p wn = absurd h
        run-g-each (Some x) c Ss t u R us w k h p wn =
            each-both _ _ (each-both _ _ (sites Ss t x.value us w h.0 p) (sites Ss u x.input us w h.1 p))
            (c w (put us (term_at B C t)) (put us (term_at B C u)) k p.later p.formed (symbol Ss t x.value us w h.0 p) (symbol Ss u x.input us w h.1 p) (subst (λ S. Wants w (put_sorts B C S) k) h.2 wn))

        mutual
          pub dm-each : (d : Dm) (Ss : List Srt) (R : Srt) (us : List Tm) (w : Way) (k : Way → Tm → List X) → DmSorted P hf hg Ss d R → DmFull d → Placed Ss us w → Wants w (put_sorts B C R) k → Each (walked d us w k)
          dm-each (d_ret t) Ss R us w k h full p wn = each-both _ _ (sites Ss t R us w h p) (wn w (put us (term_at B C t)) (later-same fixed w w refl) p.formed (symbol Ss t R us w h p))
          dm-each (d_let x d1 d2) Ss R us w k h full p wn =
              dm-each d1 Ss h.0 us w _ h.1.0 full.0 p
              (λ w1 t x f s. dm-each d2 (h.0 ∷ Ss) R (t ∷ all_raised (count w) w1 us) w1 k h.1.1 full.1 (placed-later Ss us w w1 h.0 t p x f s) (wants-on w w1 (put_sorts B C R) k x wn))
          dm-each (d_if t d1 d2) Ss R us w k h full p wn =
              each-both _ _ (sites Ss t s_bool us w h.0 p)
              (each-side w (put us (term_at B C t)) (side-walked d1 d2 us k) p.formed (symbol Ss t s_bool us w h.0 p) (λ w1 b q f. go w1 b
              (dm-each d1 Ss R us w1 k h.1 full.0 (placed-on Ss us w w1 q f p) (wants-on w w1 (put_sorts B C R) k (later-same fixed w w1 q) wn))
              (dm-each d2 Ss R us w1 k h.2 full.1 (placed-on Ss us w w1 q f p) (wants-on w w1 (put_sorts B C R) k (later-same fixed w w1 q) wn))))
            where
              go : (w1 : Way) (b : Bool) → Each (walked d1 us w1 k) → Each (walked d2 us w1 k) → Each (side-walked d1 d2 us k (record { first = b; way = w1 }))
              go w1 true x y = x
              go w1 false x y = y
          dm-each (d_match t arms) Ss R us w k h full p wn =
              each-both _ _ (sites Ss t h.0 us w h.1.0 p)
              (go arms full.0 h.1.1 (λ c br. dm-arm-each arms Ss h.0 R us w k c h.1.1 full.1 br p wn))
            where
              go : (arms1 : DmArms) → HasDmArm arms1 → DmArmsSorted P hf hg Ss h.0 arms1 R → ((c : Case) → Branch w (put_sorts B C h.0) c → Each (arm-walked arms1 c us k))
                  → Each (over (cases (dm_family (dm_arms_at B C arms1)) (put us (term_at B C t)) w) (λ c. arm-walked arms1 c us k))
              go d_end a s each = absurd a
              go (d_arm c xs d more) a s each = each-case w (put us (term_at B C t)) (λ c1. arm-walked (d_arm c xs d more) c1 us k) p.formed c (put_sorts B C h.0) (con-at B C c h.0 s.0) (symbol Ss t h.0 us w h.1.0 p) each
          dm-each (d_run_f t) Ss R us w k h full p wn = run-f-each hf forms_f Ss t R us w k h p wn
          dm-each (d_run_g t u) Ss R us w k h full p wn = run-g-each hg forms_g Ss t u R us w k h p wn

          dm-arm-each : (arms : DmArms) (Ss : List Srt) (T R : Srt) (us : List Tm) (w : Way) (k : Way → Tm → List X) (c : Case) → DmArmsSorted P hf hg Ss T arms R → DmArmsFull arms → Branch w (put_sorts B C T) c → Placed Ss us w → Wants w (put_sorts B C R) k → Each (arm-walked arms c us k)
          dm-arm-each d_end Ss T R us w k c h full br p wn = site-ok kind.Match 0 (t_bool false) c.way br.formed refl
          dm-arm-each (d_arm c' xs d more) Ss T R us w k c h full br p wn =
              go (same_con c' c.con) refl
              (λ o q. dm-each d (part_sorts c.con T ++ Ss) R (reverse c.parts ++ us) c.way k (subst (λ x. DmSorted P hf hg (part_sorts x T ++ Ss) d R) q h.2) full.0 (placed-under Ss us w T c br o p) (wants-on w c.way (put_sorts B C R) k (later-same fixed w c.way br.vars) wn))
              (dm-arm-each more Ss T R us w k c h.3 full.1 br p wn)
            where
              go : (x : Bool) → same_con c' c.con ≡ x → (ConOf c.con T → c' ≡ c.con → Each (walked d (reverse c.parts ++ us) c.way k)) → Each (arm-walked more c us k) → Each (if x then walked d (reverse c.parts ++ us) c.way k else arm-walked more c us k)
              go true q this others = let is = same-con-is c' c.con q in this (subst (λ x. ConOf x T) is h.0) is
              go false q this others = others
