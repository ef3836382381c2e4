-- The way that a run takes at an if or a match, among the ways of the symbolic run.
use Rattle.std.proofs.Common.{◌≡◌, Bool, true, false, List, [], ◌∷◌, ◌++◌, map, reverse, Option, Some, None, refl, sym, ap, ap₂, ◌∙◌, subst}
use Rattle.std.specs.Prelude.{⊤}
use Rattle.fst_base.specs.declared.op.Op.{Op}
use Rattle.fst_base.specs.declared.op.Op.TheVariants as op
use Rattle.fst_base.specs.Sorts.{Srt, s_bool, s_pair, s_opt, s_list, s_either}
use Rattle.fst_base.specs.Values.{Val, v_bool, v_pair, v_none, v_some, v_nil, v_cons, v_inl, v_inr, Has, same}
use Rattle.fst_base.specs.Primitives.{prim, is_true}
use Rattle.fst_base.specs.Rows.{Fits}
use Rattle.fst_base.proofs.ValueLemmas.{same-decides}
use Rattle.fst_terms.specs.Terms.{Tm, Tms, t_var, t_bool, t_prim, t_end, t_more, row, listed}
use Rattle.fst_terms.specs.Meaning.{Env, Meaning, value, values}
use Rattle.fst_terms.specs.Formulas.{negation, equation, make}
use Rattle.fst_terms.specs.Sorted.{TmsSorted}
use Rattle.fst_terms.proofs.PutLemmas.{put_values, put-value}
use Rattle.fst_program.specs.declared.comp.Con.{Con}
use Rattle.fst_program.specs.declared.comp.Con.TheVariants as con
use Rattle.fst_program.specs.declared.goal.Choice.TheVariants as choice
use Rattle.fst_program.specs.Texts.{Prog, if_there}
use Rattle.fst_program.specs.Runs.{parts}
use Rattle.fst_program.specs.Paths.{Gl, Way, suppose, choose, Side, sides, over, Case, cases, con_of, con_args, selectors, enter, family, same_con, sort_on, part_sorts, GoalsValid}
use Rattle.fst_program.specs.Sorted.{Applies, FormSorted, ConOf}
use Rattle.fst_program.proofs.SortedTerms.{AllSorted, make-sorted, sort-is}
use Rattle.fst_program.proofs.Ways.{valid-left, valid-right, true-value, way_sorts, Stands, suppose-stands}

-- ---- an if

pub record Onward (M : Meaning) (e : Env) (w : Way) (f : Side → List Gl) (x : Bool) : Type 0 where
  pub way : Way
  pub vars : way.vars ≡ w.vars
  pub stands : Stands M way e
  pub valid : GoalsValid M (f (record { first = x; way = way }))

choose-stands : (M : Meaning) (c : _) (w : Way) (e : Env) → Stands M w e → Stands M (choose c w) e
choose-stands M c w e s = record { sorts = s.sorts; hyps = s.hyps }

-- the side that a condition chooses has valid goals, and its way stands
module _ (M : Meaning) (e : Env) (w : Way) (f : Side → List Gl) (stands : Stands M w e) where
  both-sides : (u : Tm) (x : Bool) → is_true (value M u e) ≡ x
      → GoalsValid M (f (record { first = true; way = choose choice.Then (suppose u w) }) ++ (f (record { first = false; way = choose choice.Else (suppose (negation u) w) }) ++ []))
      → Onward M e w f x
  both-sides u true q h = record { way = choose choice.Then (suppose u w); vars = refl; stands = choose-stands M choice.Then (suppose u w) e (suppose-stands M u w e stands (true-value (value M u e) q)); valid = valid-left M _ _ h }
  both-sides u false q h = record { way = choose choice.Else (suppose (negation u) w); vars = refl; stands = choose-stands M choice.Else (suppose (negation u) w) e (suppose-stands M (negation u) w e stands (rw q refl)); valid = valid-left M _ [] (valid-right M (f (record { first = true; way = choose choice.Then (suppose u w) })) _ h) }

  pub chosen-side : (u : Tm) (x : Bool) → is_true (value M u e) ≡ x → GoalsValid M (over (sides u w) f) → Onward M e w f x
  chosen-side (t_bool y) x q h = record { way = w; vars = refl; stands = stands; valid = subst (λ z. GoalsValid M (f (record { first = z; way = w }))) q (valid-left M _ [] h) }
  chosen-side u x q h = both-sides u x q h

-- ---- constructors

val_con : Val → Con
val_con (v_bool true) = con.True
val_con (v_bool false) = con.False
val_con v_none = con.Empty
val_con (v_some a) = con.Full
val_con v_nil = con.Nil
val_con (v_cons a b) = con.Cons
val_con (v_inl a) = con.Left
val_con (v_inr a) = con.Right
val_con v = con.Pair

only-con : (c : Con) (v : Val) (vs : List Val) → parts c v ≡ Some vs → c ≡ val_con v
unfolding val_con
only-con con.True (v_bool true) vs q = refl
only-con con.False (v_bool false) vs q = refl
only-con con.Empty v_none vs q = refl
only-con con.Full (v_some a) vs q = refl
only-con con.Nil v_nil vs q = refl
only-con con.Cons (v_cons a b) vs q = refl
only-con con.Left (v_inl a) vs q = refl
only-con con.Right (v_inr a) vs q = refl
only-con con.Pair (v_pair a b) vs q = refl
only-con c v vs q = cc

pub same-con-is : (c d : Con) → same_con c d ≡ true → c ≡ d
same-con-is con.True con.True q = refl
same-con-is con.False con.False q = refl
same-con-is con.Empty con.Empty q = refl
same-con-is con.Full con.Full q = refl
same-con-is con.Nil con.Nil q = refl
same-con-is con.Cons con.Cons q = refl
same-con-is con.Left con.Left q = refl
same-con-is con.Right con.Right q = refl
same-con-is con.Pair con.Pair q = refl
same-con-is c d q = cc

same-con-self : (c : Con) → same_con c c ≡ true
same-con-self con.True = refl
same-con-self con.False = refl
same-con-self con.Empty = refl
same-con-self con.Full = refl
same-con-self con.Nil = refl
same-con-self con.Cons = refl
same-con-self con.Left = refl
same-con-self con.Right = refl
same-con-self con.Pair = refl

-- a value fits no other constructor
pub other-con : (c d : Con) (v : Val) (vs : List Val) → same_con c d ≡ false → parts d v ≡ Some vs → parts c v ≡ None
other-con c d v vs q h = go (parts c v) refl
  where
    go : (o : Option (List Val)) → parts c v ≡ o → o ≡ None
    go None r = refl
    go (Some ws) r =
        let p : c ≡ d = only-con c v ws r ∙ sym (only-con d v vs h) in
        let t : same_con c d ≡ true = subst (λ x. same_con c x ≡ true) p (same-con-self c) in
        let bad : true ≡ false = sym t ∙ q in
        cc

-- the constructors of a sort
abbrev pub sort_family : Srt → List Con
sort_family s_bool = con.True ∷ con.False ∷ []
sort_family (s_opt S) = con.Empty ∷ con.Full ∷ []
sort_family (s_list S) = con.Nil ∷ con.Cons ∷ []
sort_family (s_either S T) = con.Left ∷ con.Right ∷ []
sort_family (s_pair S T) = con.Pair ∷ []
sort_family S = []

pub family-of : (c : Con) (T : Srt) → ConOf c T → family c ≡ sort_family T
family-of con.True s_bool h = refl
family-of con.False s_bool h = refl
family-of con.Empty (s_opt S) h = refl
family-of con.Full (s_opt S) h = refl
family-of con.Nil (s_list S) h = refl
family-of con.Cons (s_list S) h = refl
family-of con.Left (s_either S T) h = refl
family-of con.Right (s_either S T) h = refl
family-of con.Pair (s_pair S T) h = refl
family-of c T h = absurd h

-- the sorts that have constructors
abbrev pub HasCons : Srt → Type 0
HasCons s_bool = ⊤
HasCons (s_opt S) = ⊤
HasCons (s_list S) = ⊤
HasCons (s_either S T) = ⊤
HasCons (s_pair S T) = ⊤
HasCons S = ⊥

pub has-cons : (c : Con) (T : Srt) → ConOf c T → HasCons T
has-cons con.True s_bool h = tt
has-cons con.False s_bool h = tt
has-cons con.Empty (s_opt S) h = tt
has-cons con.Full (s_opt S) h = tt
has-cons con.Nil (s_list S) h = tt
has-cons con.Cons (s_list S) h = tt
has-cons con.Left (s_either S T) h = tt
has-cons con.Right (s_either S T) h = tt
has-cons con.Pair (s_pair S T) h = tt
has-cons c T h = absurd h

pub equal-true : (v w : Val) → v ≡ w → v_bool (same v w) ≡ v_bool true
equal-true v w p = ap v_bool (subst (λ x. same v x ≡ true) p ((same-decides v v).1 refl))

module _ (P : Prog) (M : Meaning) where
  pub selector-value : (o : Op) (S : Srt) (u : Tm) (e : Env) → value M (make o S (row (u ∷ [])) 0) e ≡ prim o S (value M u e ∷ [])
  selector-value o S u e = put-value M (u ∷ []) (t_prim o S (t_more (t_var 0) t_end) 0) e

  pub selector-sorted : (Ss : List Srt) (o : Op) (S T : Srt) (u : Tm) → Fits o (T ∷ []) S → FormSorted P Ss u T → FormSorted P Ss (make o S (row (u ∷ [])) 0) S
  selector-sorted Ss o S T u f h = make-sorted (Applies P) Ss o S (row (u ∷ [])) 0 (T ∷ []) f (T, ([], (refl, h, refl)))

  -- the case of the symbolic run that a value takes
  pub record Taken (w : Way) (e : Env) (T : Srt) (f : Case → List Gl) (v : Val) : Type 0 where
    pub case : Case
    pub items : List Val
    pub fits : parts case.con v ≡ Some items
    pub vars : case.way.vars ≡ w.vars
    pub stands : Stands M case.way e
    pub sorted : AllSorted (Applies P) (way_sorts w) (reverse case.parts) (part_sorts case.con T)
    pub gives : put_values M (reverse case.parts) e ≡ items
    pub valid : GoalsValid M (f case)

  module _ (w : Way) (e : Env) (f : Case → List Gl) (stands : Stands M w e) (u : Tm) where
    abbrev case-of : Srt → Con → Case
    case-of T c = record { con = c; parts = selectors c T u; way = enter c T u w }

    -- where the scrutinee isn't a constructor term
    pick : (T : Srt) (v : Val) → HasCons T → Has T v → value M u e ≡ v → FormSorted P (way_sorts w) u T → GoalsValid M (over (map (case-of T) (sort_family T)) f) → Taken w e T f v
    pick s_bool (v_bool true) c h q s valid = record { case = case-of s_bool con.True; items = []; fits = refl; vars = refl; stands = choose-stands M _ (suppose u w) e (suppose-stands M u w e stands q); sorted = tt; gives = refl; valid = valid-left M _ _ valid }
    pick s_bool (v_bool false) c h q s valid = record { case = case-of s_bool con.False; items = []; fits = refl; vars = refl; stands = choose-stands M _ (suppose (negation u) w) e (suppose-stands M (negation u) w e stands (rw q refl)); sorted = tt; gives = refl; valid = valid-left M _ [] (valid-right M (f (case-of s_bool con.True)) _ valid) }
    pick s_bool v c h q s valid = absurd h
    pick (s_opt S) v_none c h q s valid = record { case = case-of (s_opt S) con.Empty; items = []; fits = refl; vars = refl; stands = choose-stands M _ (suppose _ w) e (suppose-stands M (equation u (t_prim op.Nothing (s_opt S) t_end 0)) w e stands (equal-true (value M u e) v_none q)); sorted = tt; gives = refl; valid = valid-left M _ _ valid }
    pick (s_opt S) (v_some a) c h q s valid =
        let m : value M (make op.The S (row (u ∷ [])) 0) e ≡ a = selector-value op.The S u e ∙ ap (λ v. prim op.The S (v ∷ [])) q in
        record {
          case = case-of (s_opt S) con.Full;
          items = a ∷ [];
          fits = refl;
          vars = refl;
          stands = choose-stands M _ (suppose _ w) e (suppose-stands M (equation u (t_prim op.Just (s_opt S) (row (make op.The S (row (u ∷ [])) 0 ∷ [])) 0)) w e stands (equal-true (value M u e) (v_some (value M (make op.The S (row (u ∷ [])) 0) e)) (q ∙ ap v_some (sym m))));
          sorted = (selector-sorted (way_sorts w) op.The S (s_opt S) u (record { first = S; second = S; args = refl; result = refl }) s, tt);
          gives = ap (λ v. v ∷ []) m;
          valid = valid-left M _ [] (valid-right M (f (case-of (s_opt S) con.Empty)) _ valid);
        }
    pick (s_opt S) v c h q s valid = absurd h
    pick (s_list S) v_nil c h q s valid = record { case = case-of (s_list S) con.Nil; items = []; fits = refl; vars = refl; stands = choose-stands M _ (suppose _ w) e (suppose-stands M (equation u (t_prim op.Nil (s_list S) t_end 0)) w e stands (equal-true (value M u e) v_nil q)); sorted = tt; gives = refl; valid = valid-left M _ _ valid }
    pick (s_list S) (v_cons a b) c h q s valid =
        let hd = make op.Hd S (row (u ∷ [])) 0 in
        let tl = make op.Tl (s_list S) (row (u ∷ [])) 0 in
        let m : value M hd e ≡ a = selector-value op.Hd S u e ∙ ap (λ v. prim op.Hd S (v ∷ [])) q in
        let n : value M tl e ≡ b = selector-value op.Tl (s_list S) u e ∙ ap (λ v. prim op.Tl (s_list S) (v ∷ [])) q in
        record {
          case = case-of (s_list S) con.Cons;
          items = b ∷ a ∷ [];
          fits = refl;
          vars = refl;
          stands = choose-stands M _ (suppose _ w) e (suppose-stands M (equation u (t_prim op.Cons (s_list S) (row (hd ∷ tl ∷ [])) 0)) w e stands (equal-true (value M u e) (v_cons (value M hd e) (value M tl e)) (q ∙ ap₂ v_cons (sym m) (sym n))));
          sorted = (selector-sorted (way_sorts w) op.Tl (s_list S) (s_list S) u (record { first = S; second = S; args = refl; result = refl }) s, (selector-sorted (way_sorts w) op.Hd S (s_list S) u (record { first = S; second = S; args = refl; result = refl }) s, tt));
          gives = ap₂ (λ x y. x ∷ y ∷ []) n m;
          valid = valid-left M _ [] (valid-right M (f (case-of (s_list S) con.Nil)) _ valid);
        }
    pick (s_list S) v c h q s valid = absurd h
    pick (s_either S T) (v_inl a) c h q s valid =
        let part = make op.Outl S (row (u ∷ [])) 0 in
        let m : value M part e ≡ a = selector-value op.Outl S u e ∙ ap (λ v. prim op.Outl S (v ∷ [])) q in
        record {
          case = case-of (s_either S T) con.Left;
          items = a ∷ [];
          fits = refl;
          vars = refl;
          stands = choose-stands M _ (suppose _ w) e (suppose-stands M (equation u (t_prim op.Inl (s_either S T) (row (part ∷ [])) 0)) w e stands (equal-true (value M u e) (v_inl (value M part e)) (q ∙ ap v_inl (sym m))));
          sorted = (selector-sorted (way_sorts w) op.Outl S (s_either S T) u (record { first = S; second = T; args = refl; result = refl }) s, tt);
          gives = ap (λ v. v ∷ []) m;
          valid = valid-left M _ _ valid;
        }
    pick (s_either S T) (v_inr a) c h q s valid =
        let part = make op.Outr T (row (u ∷ [])) 0 in
        let m : value M part e ≡ a = selector-value op.Outr T u e ∙ ap (λ v. prim op.Outr T (v ∷ [])) q in
        record {
          case = case-of (s_either S T) con.Right;
          items = a ∷ [];
          fits = refl;
          vars = refl;
          stands = choose-stands M _ (suppose _ w) e (suppose-stands M (equation u (t_prim op.Inr (s_either S T) (row (part ∷ [])) 0)) w e stands (equal-true (value M u e) (v_inr (value M part e)) (q ∙ ap v_inr (sym m))));
          sorted = (selector-sorted (way_sorts w) op.Outr T (s_either S T) u (record { first = S; second = T; args = refl; result = refl }) s, tt);
          gives = ap (λ v. v ∷ []) m;
          valid = valid-left M _ [] (valid-right M (f (case-of (s_either S T) con.Left)) _ valid);
        }
    pick (s_either S T) v c h q s valid = absurd h
    pick (s_pair S T) (v_pair a b) c h q s valid =
        let m : value M (make op.Fst S (row (u ∷ [])) 0) e ≡ a = selector-value op.Fst S u e ∙ ap (λ v. prim op.Fst S (v ∷ [])) q in
        let n : value M (make op.Snd T (row (u ∷ [])) 0) e ≡ b = selector-value op.Snd T u e ∙ ap (λ v. prim op.Snd T (v ∷ [])) q in
        record {
          case = case-of (s_pair S T) con.Pair;
          items = b ∷ a ∷ [];
          fits = refl;
          vars = refl;
          stands = stands;
          sorted = (selector-sorted (way_sorts w) op.Snd T (s_pair S T) u (record { first = S; second = T; args = refl; result = refl }) s, (selector-sorted (way_sorts w) op.Fst S (s_pair S T) u (record { first = S; second = T; args = refl; result = refl }) s, tt));
          gives = ap₂ (λ x y. x ∷ y ∷ []) n m;
          valid = valid-left M _ _ valid;
        }
    pick (s_pair S T) v c h q s valid = absurd h
    pick T v c h q s valid = absurd c

  -- ---- constructor terms

  module _ (Ss : List Srt) (e : Env) where
    two-terms : (ts : Tms) (S T : Srt) → TmsSorted (Applies P) Ss ts (S ∷ T ∷ []) → (t : Tm) × (u : Tm) × (ts ≡ t_more t (t_more u t_end)) × FormSorted P Ss t S × FormSorted P Ss u T
    two-terms t_end S T h = cc
    two-terms (t_more t t_end) S T h = let q = h.1.1.0 in let r = h.1.1.2 in cc
    two-terms (t_more t (t_more u (t_more x ts))) S T h = let q = h.1.1.0 in let r = h.1.1.2.1.1.0 in let z = h.1.1.2.1.1.2.1.1.0 in cc
    two-terms (t_more t (t_more u t_end)) S T h =
        let q = h.1.1.0 in
        let r = h.1.1.2.1.1.0 in
        let p1 : h.0 ≡ S = cc in
        let p2 : h.1.1.2.0 ≡ T = cc in
        (t, u, refl, subst (λ X. FormSorted P Ss t X) p1 h.1.1.1, subst (λ X. FormSorted P Ss u X) p2 h.1.1.2.1.1.1)

    one-term : (ts : Tms) (S : Srt) → TmsSorted (Applies P) Ss ts (S ∷ []) → (t : Tm) × (ts ≡ t_more t t_end) × FormSorted P Ss t S
    one-term t_end S h = cc
    one-term (t_more t (t_more u ts)) S h = let q = h.1.1.0 in let r = h.1.1.2.1.1.0 in cc
    one-term (t_more t t_end) S h =
        let q = h.1.1.0 in
        let p1 : h.0 ≡ S = cc in
        (t, refl, subst (λ X. FormSorted P Ss t X) p1 h.1.1.1)

    no-term : (ts : Tms) → TmsSorted (Applies P) Ss ts [] → ts ≡ t_end
    no-term t_end h = refl
    no-term (t_more t ts) h = let q = h.1.1.0 in cc

    abbrev KnownArgs : Con → Op → Srt → Tms → Srt → Type 0
    KnownArgs c o S ts T = (parts c (prim o S (values M ts e)) ≡ Some (put_values M (reverse (listed ts)) e)) × AllSorted (Applies P) Ss (reverse (listed ts)) (part_sorts c T)

    known-none : (c : Con) (o : Op) (S : Srt) (ts : Tms) (T U : Srt) → TmsSorted (Applies P) Ss ts [] → T ≡ U → KnownArgs c o S t_end U → KnownArgs c o S ts T
    known-none c o S ts T U h q k = subst (λ x. KnownArgs c o S x T) (sym (no-term ts h)) (subst (λ X. KnownArgs c o S t_end X) (sym q) k)

    known-one : (c : Con) (o : Op) (S : Srt) (ts : Tms) (T U A : Srt) → TmsSorted (Applies P) Ss ts (A ∷ []) → T ≡ U → ((t : Tm) → FormSorted P Ss t A → KnownArgs c o S (t_more t t_end) U) → KnownArgs c o S ts T
    known-one c o S ts T U A h q k = let t = one-term ts A h in subst (λ x. KnownArgs c o S x T) (sym t.1) (subst (λ X. KnownArgs c o S (t_more t.0 t_end) X) (sym q) (k t.0 t.2))

    known-two : (c : Con) (o : Op) (S : Srt) (ts : Tms) (T U A B : Srt) → TmsSorted (Applies P) Ss ts (A ∷ B ∷ []) → T ≡ U → ((t u : Tm) → FormSorted P Ss t A → FormSorted P Ss u B → KnownArgs c o S (t_more t (t_more u t_end)) U) → KnownArgs c o S ts T
    known-two c o S ts T U A B h q k = let t = two-terms ts A B h in subst (λ x. KnownArgs c o S x T) (sym t.2) (subst (λ X. KnownArgs c o S (t_more t.0 (t_more t.1 t_end)) X) (sym q) (k t.0 t.1 t.3 t.4))

    abbrev pub Known : Tm → Srt → Option Con → Type 0
    Known u T None = Unit {0}
    Known u T (Some c) = (parts c (value M u e) ≡ Some (put_values M (reverse (con_args u)) e)) × AllSorted (Applies P) Ss (reverse (con_args u)) (part_sorts c T)

    pub known : (u : Tm) (T : Srt) → FormSorted P Ss u T → Known u T (con_of u)
    known (t_bool true) T h = (refl, tt)
    known (t_bool false) T h = (refl, tt)
    known (t_prim op.Nothing S ts at) T h = let f = h.1.1.0 in known-none con.Empty op.Nothing S ts T (s_opt f.first) (subst (λ X. TmsSorted (Applies P) Ss ts X) f.args h.1.1.1) (h.0 ∙ f.result) (refl, tt)
    known (t_prim op.Just S ts at) T h = let f = h.1.1.0 in known-one con.Full op.Just S ts T (s_opt f.first) f.first (subst (λ X. TmsSorted (Applies P) Ss ts X) f.args h.1.1.1) (h.0 ∙ f.result) (λ t k. (refl, (k, tt)))
    known (t_prim op.Nil S ts at) T h = let f = h.1.1.0 in known-none con.Nil op.Nil S ts T (s_list f.first) (subst (λ X. TmsSorted (Applies P) Ss ts X) f.args h.1.1.1) (h.0 ∙ f.result) (refl, tt)
    known (t_prim op.Cons S ts at) T h = let f = h.1.1.0 in known-two con.Cons op.Cons S ts T (s_list f.first) f.first (s_list f.first) (subst (λ X. TmsSorted (Applies P) Ss ts X) f.args h.1.1.1) (h.0 ∙ f.result) (λ t u k l. (refl, (l, (k, tt))))
    known (t_prim op.Inl S ts at) T h = let f = h.1.1.0 in known-one con.Left op.Inl S ts T (s_either f.first f.second) f.first (subst (λ X. TmsSorted (Applies P) Ss ts X) f.args h.1.1.1) (h.0 ∙ f.result) (λ t k. (refl, (k, tt)))
    known (t_prim op.Inr S ts at) T h = let f = h.1.1.0 in known-one con.Right op.Inr S ts T (s_either f.first f.second) f.second (subst (λ X. TmsSorted (Applies P) Ss ts X) f.args h.1.1.1) (h.0 ∙ f.result) (λ t k. (refl, (k, tt)))
    known (t_prim op.Pair S ts at) T h = let f = h.1.1.0 in known-two con.Pair op.Pair S ts T (s_pair f.first f.second) f.first f.second (subst (λ X. TmsSorted (Applies P) Ss ts X) f.args h.1.1.1) (h.0 ∙ f.result) (λ t u k l. (refl, (l, (k, tt))))
    known u T h = tt

  -- the case that a value takes has valid goals, and its way stands
  pub taken-case : (w : Way) (e : Env) (f : Case → List Gl) (u : Tm) (c : Con) (T : Srt) (v : Val) → Stands M w e → ConOf c T → Has T v → value M u e ≡ v → FormSorted P (way_sorts w) u T → GoalsValid M (over (cases (family c) u w) f) → Taken w e T f v
  taken-case w e f u c T v stands o h q s valid = go (con_of u) (known (way_sorts w) e u T s) valid
    where
      go : (x : Option Con) → Known (way_sorts w) e u T x
          → GoalsValid M (over (if_there x (λ c. record { con = c; parts = con_args u; way = w } ∷ []) (map (λ c. record { con = c; parts = selectors c (sort_on w u) u; way = enter c (sort_on w u) u w }) (family c))) f)
          → Taken w e T f v
      go None k valid = pick w e f stands u T v (has-cons c T o) h q s
          (subst (λ S. GoalsValid M (over (map (case-of w e f stands u S) (sort_family T)) f)) (sort-is (Applies P) (way_sorts w) u T s)
          (subst (λ cs. GoalsValid M (over (map (case-of w e f stands u (sort_on w u)) cs) f)) (family-of c T o) valid))
      go (Some d) k valid = record {
        case = record { con = d; parts = con_args u; way = w };
        items = put_values M (reverse (con_args u)) e;
        fits = subst (λ v. parts d v ≡ Some (put_values M (reverse (con_args u)) e)) q k.0;
        vars = refl;
        stands = stands;
        sorted = k.1;
        gives = refl;
        valid = valid-left M _ [] valid;
      }
