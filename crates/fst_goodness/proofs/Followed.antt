-- On each way of a symbolic run whose hypotheses are true, a run that is done gives the value of the way's result. It is the walk of
-- `DefinitionText` read backwards: there the run is given and the way is found, here the way is given.
use Rattle.std.proofs.Common.{◌≡◌, ℕ, Bool, true, false, if◌then◌else◌, List, [], ◌∷◌, ◌++◌, map, reverse, Option, Some, None, refl, sym, ap, ap₂, ◌∙◌, subst, ◌⊎◌, inl, inr}
use Rattle.std.specs.Prelude.{⊤}
use Rattle.fst_base.specs.declared.op.Op.TheVariants as op
use Rattle.fst_base.specs.Sorts.{Srt, s_bool, s_pair, s_opt, s_list, s_either, put_sorts}
use Rattle.fst_base.specs.Values.{Val, v_unit, v_bool, v_pair, v_none, v_some, v_nil, v_cons, v_inl, v_inr, Has, HasSorts, same}
use Rattle.fst_base.specs.Primitives.{prim, is_true}
use Rattle.fst_base.proofs.ValueLemmas.{same-decides}
use Rattle.fst_terms.specs.Terms.{Tm, t_bool, t_prim, row}
use Rattle.fst_terms.specs.Meaning.{Env, Meaning, value, AllTrue}
use Rattle.fst_terms.specs.Formulas.{negation, make, put, term_at}
use Rattle.fst_terms.proofs.PutLemmas.{put_values, put-value}
use Rattle.fst_program.specs.declared.comp.Con.{Con}
use Rattle.fst_program.specs.declared.comp.Con.TheVariants as con
use Rattle.fst_program.specs.declared.goal.Choice.TheVariants as choice
use Rattle.fst_program.specs.declared.goal.SiteKind.{SiteKind}
use Rattle.fst_program.specs.declared.goal.SiteKind.TheVariants as kind
use Rattle.fst_program.specs.Texts.{Dm, DmArms, d_ret, d_let, d_if, d_match, d_run_f, d_run_g, d_end, d_arm, Prog, if_there}
use Rattle.fst_program.specs.Evaluation.{got, eval}
use Rattle.fst_program.specs.Runs.{Outcome, Done, Run, parts, if_fits, dm, dm_arm}
use Rattle.fst_program.specs.Paths.{Way, count, suppose, choose, all_raised, over, Side, sides, Case, cases, con_of, con_args, selectors, enter, family, dm_family, same_con, sort_on, Division, divisions, divisor_sites, part_sorts, dm_at, dm_arms_at, dm_walk, dm_arm_walk}
use Rattle.fst_program.specs.Sorted.{Applies, FormSorted, RunSorted, FSorts, GSorts, ConOf, DmSorted, DmArmsSorted}
use Rattle.fst_program.proofs.SortedLemmas.{GotHas, eval-has, bound-parts, append-have}
use Rattle.fst_program.specs.Full.{DmFull, DmArmsFull, HasDmArm}
use Rattle.fst_program.proofs.SortedTerms.{AllSorted, append-sorted, put-sorted, at-sorted, sort-is}
use Rattle.fst_program.proofs.Ways.{way_sorts, extends-same, raised-put-values, all-raised-sorted}
use Rattle.fst_goodness.proofs.Choices.{same-con-is, other-con, selector-value, selector-sorted, Known, known, has-cons, family-of, sort_family, HasCons}
use Rattle.fst_goodness.proofs.DefinitionText.{con-at, parts-at, map-append, put-values-append}
use Rattle.fst_goodness.proofs.Gives.{Gives, spent, valued, gone-on, eval-gives}

known-con : (P : Prog) (Ss : List Srt) (u : Tm) (T : Srt) → FormSorted P Ss u T → (c : Con) → con_of u ≡ Some c → ConOf c T
known-con P Ss (t_bool true) T h c q = let p : con.True ≡ c = cc in subst (λ x. ConOf x T) p (subst (ConOf con.True) (sym h) tt)
known-con P Ss (t_bool false) T h c q = let p : con.False ≡ c = cc in subst (λ x. ConOf x T) p (subst (ConOf con.False) (sym h) tt)
known-con P Ss (t_prim op.Nothing S ts at) T h c q = let p : con.Empty ≡ c = cc in subst (λ x. ConOf x T) p (subst (ConOf con.Empty) (sym (h.0 ∙ h.1.1.0.result)) tt)
known-con P Ss (t_prim op.Just S ts at) T h c q = let p : con.Full ≡ c = cc in subst (λ x. ConOf x T) p (subst (ConOf con.Full) (sym (h.0 ∙ h.1.1.0.result)) tt)
known-con P Ss (t_prim op.Nil S ts at) T h c q = let p : con.Nil ≡ c = cc in subst (λ x. ConOf x T) p (subst (ConOf con.Nil) (sym (h.0 ∙ h.1.1.0.result)) tt)
known-con P Ss (t_prim op.Cons S ts at) T h c q = let p : con.Cons ≡ c = cc in subst (λ x. ConOf x T) p (subst (ConOf con.Cons) (sym (h.0 ∙ h.1.1.0.result)) tt)
known-con P Ss (t_prim op.Inl S ts at) T h c q = let p : con.Left ≡ c = cc in subst (λ x. ConOf x T) p (subst (ConOf con.Left) (sym (h.0 ∙ h.1.1.0.result)) tt)
known-con P Ss (t_prim op.Inr S ts at) T h c q = let p : con.Right ≡ c = cc in subst (λ x. ConOf x T) p (subst (ConOf con.Right) (sym (h.0 ∙ h.1.1.0.result)) tt)
known-con P Ss (t_prim op.Pair S ts at) T h c q = let p : con.Pair ≡ c = cc in subst (λ x. ConOf x T) p (subst (ConOf con.Pair) (sym (h.0 ∙ h.1.1.0.result)) tt)
known-con P Ss u T h c q = cc

equal-values : (x y : Val) → v_bool (same x y) ≡ v_bool true → x ≡ y
equal-values x y h = (same-decides x y).0 (let z : same x y ≡ true = cc in z)

negated-false : (x : Val) → Has s_bool x → (if is_true x then v_bool false else v_bool true) ≡ v_bool true → x ≡ v_bool false
negated-false (v_bool true) h q = cc
negated-false (v_bool false) h q = refl
negated-false x h q = absurd h

not-true-side : (x : Val) → (if is_true x then v_bool false else v_bool true) ≡ v_bool true → is_true x ≡ false
not-true-side x = go (is_true x)
  where
    go : (b : Bool) → (if b then v_bool false else v_bool true) ≡ v_bool true → b ≡ false
    go true q = cc
    go false q = refl

pub truth-decided : (M : Meaning) (e : Env) (phis : List Tm) → AllTrue M phis e ⊎ (AllTrue M phis e → ⊥)
truth-decided M e [] = inl tt
truth-decided M e (phi ∷ phis) = go (same (value M phi e) (v_bool true)) refl (truth-decided M e phis)
  where
    go : (b : Bool) → same (value M phi e) (v_bool true) ≡ b → AllTrue M phis e ⊎ (AllTrue M phis e → ⊥) → AllTrue M (phi ∷ phis) e ⊎ (AllTrue M (phi ∷ phis) e → ⊥)
    go true q (inl h) = inl ((same-decides (value M phi e) (v_bool true)).0 q, h)
    go true q (inr lacks) = inr (λ h. lacks h.1)
    go false q r = inr (λ h. let z = (same-decides (value M phi e) (v_bool true)).1 h.0 in let bad : true ≡ false = sym z ∙ q in cc)

module _ (P : Prog) (M : Meaning) (X : Type 0) (site : SiteKind → (place : ℕ) → Tm → Way → List X) (Pi : X → Type 0) (e : Env) where
  abbrev pub Every : List X → Type 0
  Every [] = ⊤
  Every (x ∷ xs) = Pi x × Every xs

  pub every-both : (xs ys : List X) → Every xs → Every ys → Every (xs ++ ys)
  every-both [] ys h k = k
  every-both (x ∷ xs) ys h k = (h.0, every-both xs ys h.1 k)

  abbrev pub Alive : Way → Type 0
  Alive w = AllTrue M w.hyps e

  abbrev pub Rest1 : Type 0
  Rest1 = Way → Tm → List X

  -- what follows is as wanted where the way's hypotheses give its result this value
  abbrev pub Follows : Way → Srt → Rest1 → Val → Type 0
  Follows w S k v = (w1 : Way) (t : Tm) → w1.vars ≡ w.vars → FormSorted P (way_sorts w1) t S → (Alive w1 → Alive w) → (Alive w1 → value M t e ≡ v) → Every (k w1 t)

  -- one way of a match
  pub record Branch (w : Way) (T : Srt) (u : Tm) (c : Case) : Type 0 where
    pub con : ConOf c.con T
    pub vars : c.way.vars ≡ w.vars
    pub alive : Alive c.way → Alive w
    pub sorted : AllSorted (Applies P) (way_sorts w) (reverse c.parts) (part_sorts c.con T)
    pub fits : Alive c.way → parts c.con (value M u e) ≡ Some (put_values M (reverse c.parts) e)

  module _ (w : Way) (u : Tm) (f : Case → List X) where
    abbrev case-of : Srt → Con → Case
    case-of T c = record { con = c; parts = selectors c T u; way = enter c T u w }

    pair-fits : (S T : Srt) (v : Val) → value M u e ≡ v → Has (s_pair S T) v → parts con.Pair (value M u e) ≡ Some (put_values M (reverse (selectors con.Pair (s_pair S T) u)) e)
    pair-fits S T (v_pair a b) q h =
        let m : value M (make op.Fst S (row (u ∷ [])) 0) e ≡ a = selector-value P M op.Fst S u e ∙ ap (λ v. prim op.Fst S (v ∷ [])) q in
        let n : value M (make op.Snd T (row (u ∷ [])) 0) e ≡ b = selector-value P M op.Snd T u e ∙ ap (λ v. prim op.Snd T (v ∷ [])) q in
        ap (parts con.Pair) q ∙ ap₂ (λ x y. Some (x ∷ y ∷ [])) (sym n) (sym m)
    pair-fits S T v q h = absurd h

    each-branch : (T : Srt) → HasCons T → FormSorted P (way_sorts w) u T → (Alive w → Has T (value M u e)) → ((c : Case) → Branch w T u c → Every (f c)) → Every (over (map (case-of T) (sort_family T)) f)
    each-branch s_bool c s h k =
        every-both _ _ (k (case-of s_bool con.True) (record { con = tt; vars = refl; alive = λ a. a.1; sorted = tt; fits = λ a. ap (parts con.True) a.0 }))
        (every-both _ [] (k (case-of s_bool con.False) (record { con = tt; vars = refl; alive = λ a. a.1; sorted = tt; fits = λ a. ap (parts con.False) (negated-false (value M u e) (h a.1) a.0) })) tt)
    each-branch (s_opt S) c s h k =
        every-both _ _ (k (case-of (s_opt S) con.Empty) (record { con = tt; vars = refl; alive = λ a. a.1; sorted = tt; fits = λ a. ap (parts con.Empty) (equal-values (value M u e) v_none a.0) }))
        (every-both _ [] (k (case-of (s_opt S) con.Full) (record {
          con = tt;
          vars = refl;
          alive = λ a. a.1;
          sorted = (selector-sorted P M (way_sorts w) op.The S (s_opt S) u (record { first = S; second = S; args = refl; result = refl }) s, tt);
          fits = λ a. ap (parts con.Full) (equal-values (value M u e) (v_some (value M (make op.The S (row (u ∷ [])) 0) e)) a.0);
        })) tt)
    each-branch (s_list S) c s h k =
        every-both _ _ (k (case-of (s_list S) con.Nil) (record { con = tt; vars = refl; alive = λ a. a.1; sorted = tt; fits = λ a. ap (parts con.Nil) (equal-values (value M u e) v_nil a.0) }))
        (every-both _ [] (k (case-of (s_list S) con.Cons) (record {
          con = tt;
          vars = refl;
          alive = λ a. a.1;
          sorted = (selector-sorted P M (way_sorts w) op.Tl (s_list S) (s_list S) u (record { first = S; second = S; args = refl; result = refl }) s, (selector-sorted P M (way_sorts w) op.Hd S (s_list S) u (record { first = S; second = S; args = refl; result = refl }) s, tt));
          fits = λ a. ap (parts con.Cons) (equal-values (value M u e) (v_cons (value M (make op.Hd S (row (u ∷ [])) 0) e) (value M (make op.Tl (s_list S) (row (u ∷ [])) 0) e)) a.0);
        })) tt)
    each-branch (s_either S T) c s h k =
        every-both _ _ (k (case-of (s_either S T) con.Left) (record {
          con = tt;
          vars = refl;
          alive = λ a. a.1;
          sorted = (selector-sorted P M (way_sorts w) op.Outl S (s_either S T) u (record { first = S; second = T; args = refl; result = refl }) s, tt);
          fits = λ a. ap (parts con.Left) (equal-values (value M u e) (v_inl (value M (make op.Outl S (row (u ∷ [])) 0) e)) a.0);
        }))
        (every-both _ [] (k (case-of (s_either S T) con.Right) (record {
          con = tt;
          vars = refl;
          alive = λ a. a.1;
          sorted = (selector-sorted P M (way_sorts w) op.Outr T (s_either S T) u (record { first = S; second = T; args = refl; result = refl }) s, tt);
          fits = λ a. ap (parts con.Right) (equal-values (value M u e) (v_inr (value M (make op.Outr T (row (u ∷ [])) 0) e)) a.0);
        })) tt)
    each-branch (s_pair S T) c s h k =
        every-both _ [] (k (case-of (s_pair S T) con.Pair) (record {
          con = tt;
          vars = refl;
          alive = λ a. a;
          sorted = (selector-sorted P M (way_sorts w) op.Snd T (s_pair S T) u (record { first = S; second = T; args = refl; result = refl }) s, (selector-sorted P M (way_sorts w) op.Fst S (s_pair S T) u (record { first = S; second = T; args = refl; result = refl }) s, tt));
          fits = λ a. pair-fits S T (value M u e) refl (h a);
        })) tt
    each-branch T c s h k = absurd c

    pub every-case : (c : Con) (T : Srt) → ConOf c T → FormSorted P (way_sorts w) u T → (Alive w → Has T (value M u e)) → ((c : Case) → Branch w T u c → Every (f c)) → Every (over (cases (family c) u w) f)
    every-case c T o s h k = go (con_of u) refl (known P M (way_sorts w) e u T s)
      where
        go : (x : Option Con) → con_of u ≡ x → Known P M (way_sorts w) e u T x
            → Every (over (if_there x (λ c. record { con = c; parts = con_args u; way = w } ∷ []) (map (λ c. record { con = c; parts = selectors c (sort_on w u) u; way = enter c (sort_on w u) u w }) (family c))) f)
        go (Some d) q y = every-both _ [] (k (record { con = d; parts = con_args u; way = w }) (record { con = known-con P (way_sorts w) u T s d q; vars = refl; alive = λ a. a; sorted = y.1; fits = λ a. y.0 })) tt
        go None q y =
            subst (λ cs. Every (over (map (case-of (sort_on w u)) cs) f)) (sym (family-of c T o))
            (subst (λ S. Every (over (map (case-of S) (sort_family T)) f)) (sym (sort-is (Applies P) (way_sorts w) u T s)) (each-branch T (has-cons c T o) s h k))

  -- both sides of an if
  pub every-side : (w : Way) (u : Tm) (f : Side → List X) → ((w1 : Way) (b : Bool) → w1.vars ≡ w.vars → (Alive w1 → Alive w) → (Alive w1 → is_true (value M u e) ≡ b) → Every (f (record { first = b; way = w1 }))) → Every (over (sides u w) f)
  every-side w u f k = go u (λ w1 b q a h. k w1 b q a h)
    where
      two : (u : Tm) → ((w1 : Way) (b : Bool) → w1.vars ≡ w.vars → (Alive w1 → Alive w) → (Alive w1 → is_true (value M u e) ≡ b) → Every (f (record { first = b; way = w1 })))
          → Every (f (record { first = true; way = choose choice.Then (suppose u w) }) ++ (f (record { first = false; way = choose choice.Else (suppose (negation u) w) }) ++ []))
      two u k = every-both _ _ (k (choose choice.Then (suppose u w)) true refl (λ a. a.1) (λ a. ap is_true a.0)) (every-both _ [] (k (choose choice.Else (suppose (negation u) w)) false refl (λ a. a.1) (λ a. not-true-side (value M u e) a.0)) tt)

      go : (u : Tm) → ((w1 : Way) (b : Bool) → w1.vars ≡ w.vars → (Alive w1 → Alive w) → (Alive w1 → is_true (value M u e) ≡ b) → Every (f (record { first = b; way = w1 }))) → Every (over (sides u w) f)
      go (t_bool b) k = every-both _ [] (k w b refl (λ a. a) (λ a. refl)) tt
      go u k = two u k

  module _ (site-ok : (m : SiteKind) (at : ℕ) (phi : Tm) (w : Way) → Every (site m at phi w)) where
    pub every-divisor : (ds : List Division) (us : List Tm) (w : Way) → Every (divisor_sites P X site ds us w)
    every-divisor [] us w = tt
    every-divisor (d ∷ ds) us w = every-both _ _ (site-ok _ _ _ _) (every-divisor ds us w)

    -- ---- definition text

    abbrev pub Steps1 : Type 0
    Steps1 = Tm → Way → Rest1 → List X

    module _ (A B : Srt) where
      -- a computation of the header, from ways with the same variables that are alive where w0 is
      abbrev pub FollowsF : Option FSorts → Way → Steps1 → Run → Type 0
      FollowsF None w0 steps f = ⊤
      FollowsF (Some h) w0 steps f = (w : Way) (s : Tm) (sv v : Val) (k : Rest1) → w.vars ≡ w0.vars → (Alive w → Alive w0) → FormSorted P (way_sorts w) s (put_sorts A B h.input)
          → (Alive w → (value M s e ≡ sv) × Has (put_sorts A B h.input) sv × Gives (f sv) v) → Follows w (put_sorts A B h.result) k v → Every (steps s w k)

      abbrev pub FollowsG : Option GSorts → Way → (Tm → Steps1) → (Val → Run) → Type 0
      FollowsG None w0 steps g = ⊤
      FollowsG (Some h) w0 steps g = (w : Way) (t : Tm) (tv : Val) (s : Tm) (sv v : Val) (k : Rest1) → w.vars ≡ w0.vars → (Alive w → Alive w0) → FormSorted P (way_sorts w) t (put_sorts A B h.value) → FormSorted P (way_sorts w) s (put_sorts A B h.input)
          → (Alive w → (value M t e ≡ tv) × Has (put_sorts A B h.value) tv × (value M s e ≡ sv) × Has (put_sorts A B h.input) sv × Gives (g tv sv) v) → Follows w (put_sorts A B h.result) k v → Every (steps t s w k)

      module _ (w0 : Way) (hf : Option FSorts) (hg : Option GSorts) (fw : Steps1) (gw : Tm → Steps1) (f : Run) (g : Val → Run) (follows_f : FollowsF hf w0 fw f) (follows_g : FollowsG hg w0 gw g) (keeps : Alive w0 → (Ss : List Srt) (d : Dm) (R : Srt) (ev : Env) (v : Val) → DmSorted P hf hg Ss d R → HasSorts (map (put_sorts A B) Ss) ev → Gives (dm false f g d ev) v → Has (put_sorts A B R) v) where
        -- terms for the text's variables; where the way is alive the environment has their values
        pub record Held (Ss : List Srt) (us : List Tm) (w : Way) (ev : Env) : Type 0 where
          pub vars : w.vars ≡ w0.vars
          pub alive : Alive w → Alive w0
          pub terms : AllSorted (Applies P) (way_sorts w) us (map (put_sorts A B) Ss)
          pub values : Alive w → (put_values M us e ≡ ev) × HasSorts (map (put_sorts A B) Ss) ev

        term-is : (Ss : List Srt) (t : Tm) (S : Srt) (us : List Tm) (w : Way) (ev : Env) (x : Val) → RunSorted P Ss t S → Held Ss us w ev → Alive w → eval false t ev ≡ got x → value M (put us (term_at A B t)) e ≡ x
        term-is Ss t S us w ev x h p a q = put-value M us (term_at A B t) e ∙ ap (value M (term_at A B t)) (p.values a).0 ∙ eval-gives M (Applies P) A B ev Ss (p.values a).1 t S x h.0 h.1 q

        term-has : (Ss : List Srt) (t : Tm) (S : Srt) (us : List Tm) (w : Way) (ev : Env) (x : Val) → RunSorted P Ss t S → Held Ss us w ev → Alive w → eval false t ev ≡ got x → Has (put_sorts A B S) x
        term-has Ss t S us w ev x h p a q = subst (GotHas (put_sorts A B S)) q (eval-has A B (Applies P) false Ss t S ev h.0 h.1 (p.values a).1)

        term-sorted : (Ss : List Srt) (t : Tm) (S : Srt) (us : List Tm) (w : Way) (ev : Env) → RunSorted P Ss t S → Held Ss us w ev → FormSorted P (way_sorts w) (put us (term_at A B t)) (put_sorts A B S)
        term-sorted Ss t S us w ev h p = put-sorted (Applies P) (way_sorts w) us (map (put_sorts A B) Ss) (term_at A B t) (put_sorts A B S) p.terms (at-sorted (Applies P) A B Ss t S h.0 h.1)

        held-on : (Ss : List Srt) (us : List Tm) (w w1 : Way) (ev : Env) → w1.vars ≡ w.vars → (Alive w1 → Alive w) → Held Ss us w ev → Held Ss us w1 ev
        held-on Ss us w w1 ev q a p = record { vars = q ∙ p.vars; alive = λ z. p.alive (a z); terms = subst (λ xs. AllSorted (Applies P) (map (λ x. x.sort) xs) us (map (put_sorts A B) Ss)) (sym q) p.terms; values = λ z. p.values (a z) }

        -- the values that are given where the way is alive, and any others where it isn't
        chosen : (w : Way) (Q : Val → Type 0) → (Alive w → (x : Val) × Q x) → (x : Val) × (Alive w → Q x)
        chosen w Q h = go (truth-decided M e w.hyps)
          where
            go : Alive w ⊎ (Alive w → ⊥) → (x : Val) × (Alive w → Q x)
            go (inl a) = let r = h a in (r.0, λ z. r.1)
            go (inr lacks) = (v_unit, λ a. absurd (lacks a))

        follow-on : (w w1 : Way) (S : Srt) (k : Rest1) (v : Val) → w1.vars ≡ w.vars → (Alive w1 → Alive w) → Follows w S k v → Follows w1 S k v
        follow-on w w1 S k v q a h w2 t q2 s a2 val = h w2 t (q2 ∙ q) s (λ z. a (a2 z)) val

        done-is : (x v : Val) (l left : ℕ) → Done x l ≡ Done v left → x ≡ v
        done-is x v l left q = cc

        held-later : (Ss : List Srt) (us : List Tm) (w w1 : Way) (ev : Env) (T : Srt) (t : Tm) (x : Val) → Held Ss us w ev → w1.vars ≡ w.vars → (Alive w1 → Alive w) → FormSorted P (way_sorts w1) t (put_sorts A B T) → (Alive w1 → value M t e ≡ x) → (Alive w → Has (put_sorts A B T) x) → Held (T ∷ Ss) (t ∷ all_raised (count w) w1 us) w1 (x ∷ ev)
        held-later Ss us w w1 ev T t x p q a s val has = record {
          vars = q ∙ p.vars;
          alive = λ z. p.alive (a z);
          terms = (s, all-raised-sorted P w e w1 e us (map (put_sorts A B) Ss) (extends-same w w1 e q) p.terms);
          values = λ z. (ap₂ ◌∷◌ (val z) (raised-put-values M w e w1 e us (extends-same w w1 e q) ∙ (p.values (a z)).0), (has (a z), (p.values (a z)).1));
        }

        run-f-follows : (h : Option FSorts) → FollowsF h w0 fw f → (Ss : List Srt) (t : Tm) (R : Srt) (us : List Tm) (w : Way) (ev : Env) (v : Val) (k : Rest1) → if_there h (λ h. RunSorted P Ss t h.input × (R ≡ h.result)) ⊥ → Held Ss us w ev → (Alive w → Gives (dm false f g (d_run_f t) ev) v) → Follows w (put_sorts A B R) k v → Every (dm_walk P X site fw gw (dm_at A B (d_run_f t)) us w k)
        run-f-follows None fo Ss t R us w ev v k h p gives follows = absurd h
        run-f-follows (Some y) fo Ss t R us w ev v k h p gives follows =
            let c = chosen w (λ s. (eval false t ev ≡ got s) × Gives (f s) v) (λ a. let r = gives a in let sp = spent r.0 _ v r.1 r.2 in let va = valued (eval false t ev) (λ s. f s sp.0) v r.1 sp.1 in (va.0, (va.1, (sp.0, r.1, va.2)))) in
            every-both _ _ (every-divisor (divisions [] (term_at A B t)) us w)
            (fo w (put us (term_at A B t)) c.0 v k p.vars p.alive (term-sorted Ss t y.input us w ev h.0 p)
            (λ a. (term-is Ss t y.input us w ev c.0 h.0 p a (c.1 a).0, term-has Ss t y.input us w ev c.0 h.0 p a (c.1 a).0, (c.1 a).1))
            (subst (λ S. Follows w (put_sorts A B S) k v) h.1 follows))

        run-g-follows : (h : Option GSorts) → FollowsG h w0 gw g → (Ss : List Srt) (t u : Tm) (R : Srt) (us : List Tm) (w : Way) (ev : Env) (v : Val) (k : Rest1) → if_there h (λ h. RunSorted P Ss t h.value × RunSorted P Ss u h.input × (R ≡ h.result)) ⊥ → Held Ss us w ev → (Alive w → Gives (dm false f g (d_run_g t u) ev) v) → Follows w (put_sorts A B R) k v → Every (dm_walk P X site fw gw (dm_at A B (d_run_g t u)) us w k)
        run-g-follows None fo Ss t u R us w ev v k h p gives follows = absurd h
        run-g-follows (Some y) fo Ss t u R us w ev v k h p gives follows =
            let c = chosen w (λ x. (eval false t ev ≡ got x) × ((s : Val) × (eval false u ev ≡ got s) × Gives (g x s) v)) (λ a.
            let r = gives a in
            let sp = spent r.0 _ v r.1 r.2 in
            let va = valued (eval false t ev) (λ x. Rattle.fst_program.specs.Runs.with_value (eval false u ev) (λ s. g x s sp.0)) v r.1 sp.1 in
            let vb = valued (eval false u ev) (λ s. g va.0 s sp.0) v r.1 va.2 in
            (va.0, (va.1, (vb.0, vb.1, (sp.0, r.1, vb.2))))) in
            let d = chosen w (λ s. (eval false u ev ≡ got s) × Gives (g c.0 s) v) (λ a. let r = (c.1 a).1 in (r.0, (r.1, r.2))) in
            every-both _ _ (every-both _ _ (every-divisor (divisions [] (term_at A B t)) us w) (every-divisor (divisions [] (term_at A B u)) us w))
            (fo w (put us (term_at A B t)) c.0 (put us (term_at A B u)) d.0 v k p.vars p.alive (term-sorted Ss t y.value us w ev h.0 p) (term-sorted Ss u y.input us w ev h.1 p)
            (λ a. (term-is Ss t y.value us w ev c.0 h.0 p a (c.1 a).0, term-has Ss t y.value us w ev c.0 h.0 p a (c.1 a).0, term-is Ss u y.input us w ev d.0 h.1 p a (d.1 a).0, term-has Ss u y.input us w ev d.0 h.1 p a (d.1 a).0, (d.1 a).1))
            (subst (λ S. Follows w (put_sorts A B S) k v) h.2 follows))

        abbrev side-walk : Dm → Dm → List Tm → Rest1 → Side → List X
        side-walk d1 d2 us k s = if s.first then dm_walk P X site fw gw (dm_at A B d1) us s.way k else dm_walk P X site fw gw (dm_at A B d2) us s.way k

        held-under : (Ss : List Srt) (us : List Tm) (w : Way) (ev : Env) (T : Srt) (u : Tm) (c : Case) → Branch w (put_sorts A B T) u c → ConOf c.con T → (Alive w → Has (put_sorts A B T) (value M u e)) → Held Ss us w ev → Held (part_sorts c.con T ++ Ss) (reverse c.parts ++ us) c.way (put_values M (reverse c.parts) e ++ ev)
        held-under Ss us w ev T u c br o has p =
            let q = held-on Ss us w c.way ev br.vars br.alive p in
            let together : map (put_sorts A B) (part_sorts c.con T ++ Ss) ≡ part_sorts c.con (put_sorts A B T) ++ map (put_sorts A B) Ss = map-append A B (part_sorts c.con T) Ss ∙ ap (λ Us. Us ++ map (put_sorts A B) Ss) (sym (parts-at A B c.con T o)) in
            record {
              vars = q.vars;
              alive = q.alive;
              terms = subst (λ Us. AllSorted (Applies P) (way_sorts c.way) (reverse c.parts ++ us) Us) (sym together)
                  (append-sorted (Applies P) (way_sorts c.way) (reverse c.parts) us (part_sorts c.con (put_sorts A B T)) (map (put_sorts A B) Ss)
                  (subst (λ xs. AllSorted (Applies P) (map (λ x. x.sort) xs) (reverse c.parts) (part_sorts c.con (put_sorts A B T))) (sym br.vars) br.sorted) q.terms);
              values = λ a. (
                put-values-append M (reverse c.parts) us e ∙ ap (λ l. put_values M (reverse c.parts) e ++ l) (q.values a).0,
                subst (λ Us. HasSorts Us (put_values M (reverse c.parts) e ++ ev)) (sym (map-append A B (part_sorts c.con T) Ss)) (append-have (map (put_sorts A B) (part_sorts c.con T)) (map (put_sorts A B) Ss) (put_values M (reverse c.parts) e) ev (bound-parts A B c.con T (value M u e) o (has (br.alive a)) (put_values M (reverse c.parts) e) (br.fits a)) (q.values a).1),
              );
            }

        mutual
          pub dm-follows : (d : Dm) (Ss : List Srt) (R : Srt) (us : List Tm) (w : Way) (ev : Env) (v : Val) (k : Rest1) → DmSorted P hf hg Ss d R → DmFull d → Held Ss us w ev → (Alive w → Gives (dm false f g d ev) v) → Follows w (put_sorts A B R) k v → Every (dm_walk P X site fw gw (dm_at A B d) us w k)
          dm-follows (d_ret t) Ss R us w ev v k h full p gives follows =
              every-both _ _ (every-divisor (divisions [] (term_at A B t)) us w)
              (follows w (put us (term_at A B t)) refl (term-sorted Ss t R us w ev h p) (λ a. a)
              (λ a. let r = gives a in let sp = spent r.0 _ v r.1 r.2 in let va = valued (eval false t ev) (λ x. Done x sp.0) v r.1 sp.1 in term-is Ss t R us w ev va.0 h p a va.1 ∙ done-is va.0 v sp.0 r.1 va.2))
          dm-follows (d_let y d1 d2) Ss R us w ev v k h full p gives follows =
              let c = chosen w (λ x. Gives (dm false f g d1 ev) x × Gives (dm false f g d2 (x ∷ ev)) v) (λ a.
              let r = gives a in
              let sp = spent r.0 _ v r.1 r.2 in
              let x = gone-on (dm false f g d1 ev sp.0) (λ x l. dm false f g d2 (x ∷ ev) l) v r.1 sp.1 in
              (x.0, ((sp.0, x.1, x.2), (x.1, r.1, x.3)))) in
              dm-follows d1 Ss h.0 us w ev c.0 _ h.1.0 full.0 p (λ a. (c.1 a).0)
              (λ w1 t q s al val. dm-follows d2 (h.0 ∷ Ss) R (t ∷ all_raised (count w) w1 us) w1 (c.0 ∷ ev) v k h.1.1 full.1
              (held-later Ss us w w1 ev h.0 t c.0 p q al s val (λ a. keeps (p.alive a) Ss d1 h.0 ev c.0 h.1.0 (p.values a).1 (c.1 a).0)) (λ a. (c.1 (al a)).1) (follow-on w w1 (put_sorts A B R) k v q al follows))
          dm-follows (d_if t d1 d2) Ss R us w ev v k h full p gives follows =
              every-both _ _ (every-divisor (divisions [] (term_at A B t)) us w)
              (every-side w (put us (term_at A B t)) (side-walk d1 d2 us k) (λ w1 b q al is. go w1 b q al is
              (λ gv. dm-follows d1 Ss R us w1 ev v k h.1 full.0 (held-on Ss us w w1 ev q al p) gv (follow-on w w1 (put_sorts A B R) k v q al follows))
              (λ gv. dm-follows d2 Ss R us w1 ev v k h.2 full.1 (held-on Ss us w w1 ev q al p) gv (follow-on w w1 (put_sorts A B R) k v q al follows))))
            where
              taken : (w1 : Way) (b : Bool) → (Alive w1 → Alive w) → (Alive w1 → is_true (value M (put us (term_at A B t)) e) ≡ b) → Alive w1 → Gives (λ l. if b then dm false f g d1 ev l else dm false f g d2 ev l) v
              taken w1 b al is a =
                  let r = gives (al a) in
                  let sp = spent r.0 _ v r.1 r.2 in
                  let va = valued (eval false t ev) (λ x. if is_true x then dm false f g d1 ev sp.0 else dm false f g d2 ev sp.0) v r.1 sp.1 in
                  let side : is_true va.0 ≡ b = ap is_true (sym (term-is Ss t s_bool us w ev va.0 h.0 p (al a) va.1)) ∙ is a in
                  (sp.0, r.1, subst (λ z. (if z then dm false f g d1 ev sp.0 else dm false f g d2 ev sp.0) ≡ Done v r.1) side va.2)

              go : (w1 : Way) (b : Bool) → w1.vars ≡ w.vars → (Alive w1 → Alive w) → (Alive w1 → is_true (value M (put us (term_at A B t)) e) ≡ b)
                  → ((Alive w1 → Gives (dm false f g d1 ev) v) → Every (dm_walk P X site fw gw (dm_at A B d1) us w1 k))
                  → ((Alive w1 → Gives (dm false f g d2 ev) v) → Every (dm_walk P X site fw gw (dm_at A B d2) us w1 k))
                  → Every (side-walk d1 d2 us k (record { first = b; way = w1 }))
              go w1 true q al is k1 k2 = k1 (taken w1 true al is)
              go w1 false q al is k1 k2 = k2 (taken w1 false al is)
          dm-follows (d_match t arms) Ss R us w ev v k h full p gives follows =
              every-both _ _ (every-divisor (divisions [] (term_at A B t)) us w)
              (go arms full.0 h.1.1 (λ c br. dm-arm-follows arms Ss h.0 R us w ev v k c (put us (term_at A B t)) h.1.1 full.1 br has p (λ a. scrutinee (br.alive a)) follows))
            where
              scrutinee : Alive w → Gives (dm_arm false f g arms (value M (put us (term_at A B t)) e) ev) v
              scrutinee a =
                  let r = gives a in
                  let sp = spent r.0 _ v r.1 r.2 in
                  let va = valued (eval false t ev) (λ x. dm_arm false f g arms x ev sp.0) v r.1 sp.1 in
                  (sp.0, r.1, subst (λ x. dm_arm false f g arms x ev sp.0 ≡ Done v r.1) (sym (term-is Ss t h.0 us w ev va.0 h.1.0 p a va.1)) va.2)

              has : Alive w → Has (put_sorts A B h.0) (value M (put us (term_at A B t)) e)
              has a =
                  let r = gives a in
                  let sp = spent r.0 _ v r.1 r.2 in
                  let va = valued (eval false t ev) (λ x. dm_arm false f g arms x ev sp.0) v r.1 sp.1 in
                  subst (Has (put_sorts A B h.0)) (sym (term-is Ss t h.0 us w ev va.0 h.1.0 p a va.1)) (term-has Ss t h.0 us w ev va.0 h.1.0 p a va.1)

              go : (arms1 : DmArms) → HasDmArm arms1 → DmArmsSorted P hf hg Ss h.0 arms1 R → ((c : Case) → Branch w (put_sorts A B h.0) (put us (term_at A B t)) c → Every (dm_arm_walk P X site fw gw (dm_arms_at A B arms1) c us k))
                  → Every (over (cases (dm_family (dm_arms_at A B arms1)) (put us (term_at A B t)) w) (λ c. dm_arm_walk P X site fw gw (dm_arms_at A B arms1) c us k))
              go d_end z s next = absurd z
              go (d_arm c xs d more) z s next = every-case w (put us (term_at A B t)) (λ c1. dm_arm_walk P X site fw gw (dm_arms_at A B (d_arm c xs d more)) c1 us k) c (put_sorts A B h.0) (con-at A B c h.0 s.0) (term-sorted Ss t h.0 us w ev h.1.0 p) has next
          dm-follows (d_run_f t) Ss R us w ev v k h full p gives follows = run-f-follows hf follows_f Ss t R us w ev v k h p gives follows
          dm-follows (d_run_g t u) Ss R us w ev v k h full p gives follows = run-g-follows hg follows_g Ss t u R us w ev v k h p gives follows

          dm-arm-follows : (arms : DmArms) (Ss : List Srt) (T R : Srt) (us : List Tm) (w : Way) (ev : Env) (v : Val) (k : Rest1) (c : Case) (u : Tm) → DmArmsSorted P hf hg Ss T arms R → DmArmsFull arms → Branch w (put_sorts A B T) u c → (Alive w → Has (put_sorts A B T) (value M u e)) → Held Ss us w ev → (Alive c.way → Gives (dm_arm false f g arms (value M u e) ev) v) → Follows w (put_sorts A B R) k v → Every (dm_arm_walk P X site fw gw (dm_arms_at A B arms) c us k)
          dm-arm-follows d_end Ss T R us w ev v k c u h full br has p gives follows = site-ok kind.Match 0 (t_bool false) c.way
          dm-arm-follows (d_arm c' xs d more) Ss T R us w ev v k c u h full br has p gives follows =
              go (same_con c' c.con) refl
              (λ o q gv. dm-follows d (part_sorts c.con T ++ Ss) R (reverse c.parts ++ us) c.way (put_values M (reverse c.parts) e ++ ev) v k (subst (λ x. DmSorted P hf hg (part_sorts x T ++ Ss) d R) q h.2) full.0 (held-under Ss us w ev T u c br o has p) gv (follow-on w c.way (put_sorts A B R) k v br.vars br.alive follows))
              (λ gv. dm-arm-follows more Ss T R us w ev v k c u h.3 full.1 br has p gv follows)
            where
              go : (z : Bool) → same_con c' c.con ≡ z
                  → (ConOf c.con T → c' ≡ c.con → (Alive c.way → Gives (dm false f g d (put_values M (reverse c.parts) e ++ ev)) v) → Every (dm_walk P X site fw gw (dm_at A B d) (reverse c.parts ++ us) c.way k))
                  → ((Alive c.way → Gives (dm_arm false f g more (value M u e) ev) v) → Every (dm_arm_walk P X site fw gw (dm_arms_at A B more) c us k))
                  → Every (if z then dm_walk P X site fw gw (dm_at A B d) (reverse c.parts ++ us) c.way k else dm_arm_walk P X site fw gw (dm_arms_at A B more) c us k)
              go true q on_this on_more =
                  let is = same-con-is c' c.con q in
                  on_this (subst (λ x. ConOf x T) is h.0) is
                  (λ a. let r = gives a in (r.0, r.1, subst (λ o. if_fits o (λ vs. dm false f g d (vs ++ ev) r.0) (dm_arm false f g more (value M u e) ev r.0) ≡ Done v r.1) (ap (λ x. parts x (value M u e)) is ∙ br.fits a) r.2))
              go false q on_this on_more =
                  on_more (λ a. let r = gives a in (r.0, r.1, subst (λ o. if_fits o (λ vs. dm false f g d (vs ++ ev) r.0) (dm_arm false f g more (value M u e) ev r.0) ≡ Done v r.1) (other-con c' c.con (value M u e) (put_values M (reverse c.parts) e) q (br.fits a)) r.2))
