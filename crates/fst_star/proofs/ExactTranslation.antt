-- The translation is safe exactly where the rules say, and demands exactly what they say.
use Rattle.std.proofs.Common.{◌≡◌, inl, inr, ℕ, suc, Bool, true, false, if◌then◌else◌, List, [], ◌∷◌, ◌++◌, map, reverse, Option, Some, None, refl, sym, ap, ap₂, ◌∙◌, subst, pos, ⊎_elim}
use Rattle.std.specs.Prelude.{⊤}
use Rattle.fst_base.specs.Sorts.{Srt, s_bool, s_a, s_b, s_pair, s_opt, s_list, s_either}
use Rattle.fst_base.specs.Values.{Val, v_bool, v_int, v_pair, Has, HasSorts, same}
use Rattle.fst_base.specs.Primitives.{is_true}
use Rattle.fst_base.proofs.ValueLemmas.{same-decides}
use Rattle.fst_base.proofs.RowLemmas.{put_sorts-same}
use Rattle.fst_terms.specs.Terms.{Tm, t_var, shift}
use Rattle.fst_terms.specs.Meaning.{Env, Meaning, value, Truth, AllTrue}
use Rattle.fst_terms.specs.Formulas.{put, negation, equation, nought, sort_of}
use Rattle.fst_terms.proofs.PutLemmas.{put_values, put-value}
use Rattle.fst_terms.proofs.TermLemmas.{Widens, value_shift, widens_one}
use Rattle.fst_program.specs.declared.comp.Con.{Con}
use Rattle.fst_program.specs.declared.comp.Con.TheVariants as con
use Rattle.fst_program.specs.declared.goal.Choice.TheVariants as choice
use Rattle.fst_program.specs.Texts.{Dm, DmArms, d_ret, d_let, d_if, d_match, d_run_f, d_run_g, d_end, d_arm, Prog, if_there}
use Rattle.fst_program.specs.Runs.{parts}
use Rattle.fst_program.specs.Paths.{Division, divisions, selectors, same_con, dm_family, part_sorts}
use Rattle.fst_program.specs.Sorted.{Applies, ConOf, FSorts, GSorts, RunSorted, DmSorted, DmArmsSorted}
use Rattle.fst_program.proofs.SortedLemmas.{bound-parts, append-have}
use Rattle.fst_program.specs.Full.{HasDmArm, DmFull, DmArmsFull}
use Rattle.fst_star.specs.Transformers.{Wt, Wts, w_ways, w_way, w_none, wshift, Holes, safe, all_safe, demands, some_demands}
use Rattle.fst_star.specs.Translation.{Scope, under, implied, divisor_needs, term_needs, condition, con_ways, dm_sort, star, star_arm, IsSound, side_on, arm_on, dsafe, arm_safe, ddemands, arm_demands}
use Rattle.fst_program.proofs.SortedTerms.{append-sorted, put-sorted, sort-is, sorts-are, map-same}
use Rattle.fst_program.proofs.Ways.{true-value}
use Rattle.fst_program.proofs.Evaluated.{AllNonzero}
use Rattle.fst_star.proofs.ShiftedMeaning.{widens-under, demands-shift, safe-shift}
use Rattle.fst_star.proofs.Places.{Sorted, AllOf, under-sorted}
use Rattle.fst_star.proofs.ConWays.{sort_family, family-of, same-con-is, selectors-sorted}
use Rattle.fst_star.proofs.StarMeets.{ResultF, ResultG, dm-sort-is}
use Rattle.fst_star.proofs.FittingTexts.{needs-nonzero, needs-rest, needs-demand, In, way-safe, way-demands, Chosen, HasCons, has-cons, choose-con, val_con, only-con, other-con, values-append, raised-values, widens-more}
use Rattle.fst_star.proofs.SoundTerms.{value-has, sound-nonzero, nonzero-sound}

module _ (M : Meaning) (H : Holes) where
  implied-from : (us : List Tm) (cs : List Tm) (phi : Tm) (x : Env) → (AllTrue M cs (put_values M us x) → Truth M phi x) → Truth M (implied (map (put us) cs) phi) x
  implied-from us [] phi x h = h tt
  implied-from us (c ∷ cs) phi x h = go (is_true (value M (put us c) x)) refl
      (λ q. implied-from us cs phi x (λ a. h (sym (put-value M us c x) ∙ true-value (value M (put us c) x) q, a)))
    where
      go : (b : Bool) → is_true (value M (put us c) x) ≡ b → (is_true (value M (put us c) x) ≡ true → Truth M (implied (map (put us) cs) phi) x) → (if b then value M (implied (map (put us) cs) phi) x else v_bool true) ≡ v_bool true
      go true q n = n q
      go false q n = refl

  needs-from : (ds : List Division) (us : List Tm) (w : Wt) (x : Env) → AllNonzero M (put_values M us x) ds → safe M H w x → safe M H (divisor_needs ds us w) x
  needs-from [] us w x n h = h
  needs-from (d ∷ ds) us w x n h = (
    implied-from us d.conditions (negation (equation (put us d.divisor) nought)) x (λ a.
        let z : same (value M (put us d.divisor) x) (v_int (pos 0)) ≡ false = ap (λ v. same v (v_int (pos 0))) (put-value M us d.divisor x) ∙ n.0 a in
        ap (λ b. if b then v_bool false else v_bool true) z),
    needs-from ds us w x n.1 h,
  )

  needs-demand-back : (ds : List Division) (us : List Tm) (w : Wt) (x : Env) (r : Val) → demands M H (divisor_needs ds us w) x r → demands M H w x r
  needs-demand-back [] us w x r h = h
  needs-demand-back (d ∷ ds) us w x r h = needs-demand-back ds us w x r h

  -- the transformer is safe exactly where A holds and demands exactly what B holds of
  pub record Exact (w : Wt) (x : Env) (A : Type 0) (B : Val → Type 0) : Type 0 where
    pub safe_to : safe M H w x → A
    pub safe_from : A → safe M H w x
    pub demands_to : (r : Val) → demands M H w x r → B r
    pub demands_from : (r : Val) → B r → demands M H w x r

  not-both : (v : Val) → v ≡ v_bool true → (if is_true v then v_bool false else v_bool true) ≡ v_bool true → ⊥
  not-both v q h = let z : v_bool false ≡ v_bool true = subst (λ v. (if is_true v then v_bool false else v_bool true) ≡ v_bool true) q h in cc

  else-exact : (u : Tm) (w1 w2 : Wt) (x : Env) (A1 A2 : Type 0) (B1 B2 : Val → Type 0) → (Truth M u x → ⊥) → Truth M (negation u) x → Exact w2 x A2 B2 → Exact (w_ways (w_way choice.Then u w1 (w_way choice.Else (negation u) w2 w_none))) x A2 B2
  else-exact u w1 w2 x A1 A2 B1 B2 n t e = record {
    safe_to = λ s. e.safe_to (s.1.0 t);
    safe_from = λ a. ((λ z. absurd (n z)), ((λ z. e.safe_from a), tt));
    demands_to = λ r d. ⊎_elim (λ z. absurd (n z.0)) (λ z. ⊎_elim (λ y. e.demands_to r y.1) (λ y. absurd y) z) d;
    demands_from = λ r b. inr (inl (t, e.demands_from r b));
  }

  if-exact : (v : Val) (u : Tm) (w1 w2 : Wt) (x : Env) (A1 A2 : Type 0) (B1 B2 : Val → Type 0) → value M u x ≡ v → Exact w1 x A1 B1 → Exact w2 x A2 B2
      → Exact (w_ways (w_way choice.Then u w1 (w_way choice.Else (negation u) w2 w_none))) x (side_on v A1 A2) (λ r. side_on v (B1 r) (B2 r))
  if-exact (v_bool true) u w1 w2 x A1 A2 B1 B2 q e1 e2 = record {
    safe_to = λ s. e1.safe_to (s.0 q);
    safe_from = λ a. ((λ z. e1.safe_from a), ((λ z. absurd (not-both (value M u x) q z)), tt));
    demands_to = λ r d. ⊎_elim (λ z. e1.demands_to r z.1) (λ z. ⊎_elim (λ y. absurd (not-both (value M u x) q y.0)) (λ y. absurd y) z) d;
    demands_from = λ r b. inl (q, e1.demands_from r b);
  }
  if-exact v u w1 w2 x A1 A2 B1 B2 q e1 e2 = else-exact u w1 w2 x A1 A2 B1 B2 (λ t. let z : v ≡ v_bool true = sym q ∙ t in cc) (ap (λ v. if is_true v then v_bool false else v_bool true) q) e2

  same-is : (v w : Val) → v_bool (same v w) ≡ v_bool true → v ≡ w
  same-is v w q = let p : same v w ≡ true = ap is_true q in (same-decides v w).0 p

  false-con : (v : Val) → Has s_bool v → (if is_true v then v_bool false else v_bool true) ≡ v_bool true → con.False ≡ val_con v
  false-con (v_bool true) h q = let z : v_bool false ≡ v_bool true = q in cc
  false-con (v_bool false) h q = only-con con.False (v_bool false) [] refl
  false-con v h q = absurd h

  pair-con : (S T : Srt) (v : Val) → Has (s_pair S T) v → con.Pair ≡ val_con v
  pair-con S T (v_pair a b) h = only-con con.Pair (v_pair a b) (b ∷ a ∷ []) refl
  pair-con S T v h = absurd h

  -- a constructor whose condition holds is that of the value
  fits-where : (d : Con) (T : Srt) (u : Tm) (x : Env) → In M H d (sort_family T) → Truth M (condition d T u) x → Has T (value M u x) → d ≡ val_con (value M u x)
  fits-where d s_bool u x (inl p) t h = sym p ∙ only-con con.True (value M u x) [] (ap (parts con.True) (subst (λ d. Truth M (condition d s_bool u) x) (sym p) t))
  fits-where d s_bool u x (inr (inl p)) t h = sym p ∙ false-con (value M u x) h (subst (λ d. Truth M (condition d s_bool u) x) (sym p) t)
  fits-where d s_bool u x (inr (inr i)) t h = absurd i
  fits-where d (s_opt S) u x (inl p) t h = sym p ∙ only-con con.Empty (value M u x) [] (ap (parts con.Empty) (same-is (value M u x) _ (subst (λ d. Truth M (condition d (s_opt S) u) x) (sym p) t)))
  fits-where d (s_opt S) u x (inr (inl p)) t h = sym p ∙ only-con con.Full (value M u x) _ (ap (parts con.Full) (same-is (value M u x) _ (subst (λ d. Truth M (condition d (s_opt S) u) x) (sym p) t)))
  fits-where d (s_opt S) u x (inr (inr i)) t h = absurd i
  fits-where d (s_list S) u x (inl p) t h = sym p ∙ only-con con.Nil (value M u x) [] (ap (parts con.Nil) (same-is (value M u x) _ (subst (λ d. Truth M (condition d (s_list S) u) x) (sym p) t)))
  fits-where d (s_list S) u x (inr (inl p)) t h = sym p ∙ only-con con.Cons (value M u x) _ (ap (parts con.Cons) (same-is (value M u x) _ (subst (λ d. Truth M (condition d (s_list S) u) x) (sym p) t)))
  fits-where d (s_list S) u x (inr (inr i)) t h = absurd i
  fits-where d (s_either S T) u x (inl p) t h = sym p ∙ only-con con.Left (value M u x) _ (ap (parts con.Left) (same-is (value M u x) _ (subst (λ d. Truth M (condition d (s_either S T) u) x) (sym p) t)))
  fits-where d (s_either S T) u x (inr (inl p)) t h = sym p ∙ only-con con.Right (value M u x) _ (ap (parts con.Right) (same-is (value M u x) _ (subst (λ d. Truth M (condition d (s_either S T) u) x) (sym p) t)))
  fits-where d (s_either S T) u x (inr (inr i)) t h = absurd i
  fits-where d (s_pair S T) u x (inl p) t h = sym p ∙ pair-con S T (value M u x) h
  fits-where d (s_pair S T) u x (inr i) t h = absurd i
  fits-where d T u x i t h = absurd i

  all-from : (cs : List Con) (T : Srt) (u : Tm) (arm : Con → List Tm → Wt) (x : Env) → ((d : Con) → In M H d cs → Truth M (condition d T u) x → safe M H (arm d (selectors d T u)) x) → all_safe M H (con_ways cs T u arm) x
  all-from [] T u arm x h = tt
  all-from (c ∷ cs) T u arm x h = (h c (inl refl), all-from cs T u arm x (λ d i. h d (inr i)))

  record OneWay (cs : List Con) (T : Srt) (u : Tm) (arm : Con → List Tm → Wt) (x : Env) (r : Val) : Type 0 where
    pub con : Con
    pub among : In M H con cs
    pub holds : Truth M (condition con T u) x
    pub demanded : demands M H (arm con (selectors con T u)) x r

  some-to : (cs : List Con) (T : Srt) (u : Tm) (arm : Con → List Tm → Wt) (x : Env) (r : Val) → some_demands M H (con_ways cs T u arm) x r → OneWay cs T u arm x r
  some-to [] T u arm x r d = absurd d
  some-to (c ∷ cs) T u arm x r (inl d) = record { con = c; among = inl refl; holds = d.0; demanded = d.1 }
  some-to (c ∷ cs) T u arm x r (inr d) = let z = some-to cs T u arm x r d in record { con = z.con; among = inr z.among; holds = z.holds; demanded = z.demanded }

  match-exact : (T : Srt) (u : Tm) (arm : Con → List Tm → Wt) (x : Env) (A : Type 0) (B : Val → Type 0) → Has T (value M u x) → (ch : Chosen M H T u x (value M u x)) → Exact (arm ch.con (selectors ch.con T u)) x A B → Exact (w_ways (con_ways (sort_family T) T u arm)) x A B
  match-exact T u arm x A B h ch e =
      let only = λ (d : Con) (i : In M H d (sort_family T)) (t : Truth M (condition d T u) x). fits-where d T u x i t h ∙ sym (only-con ch.con (value M u x) ch.items ch.fits) in
      record {
        safe_to = λ s. e.safe_to (way-safe M H (sort_family T) T u arm x ch.con ch.among s ch.holds);
        safe_from = λ a. all-from (sort_family T) T u arm x (λ d i t. subst (λ c. safe M H (arm c (selectors c T u)) x) (sym (only d i t)) (e.safe_from a));
        demands_to = λ r d. let z = some-to (sort_family T) T u arm x r d in e.demands_to r (subst (λ c. demands M H (arm c (selectors c T u)) x r) (only z.con z.among z.holds) z.demanded);
        demands_from = λ r b. way-demands M H (sort_family T) T u arm x r ch.con ch.among ch.holds (e.demands_from r b);
      }

-- the parts of a value have the sorts of the constructor's parts
bound-same : (c : Con) (S : Srt) (v : Val) → ConOf c S → Has S v → (ws : List Val) → parts c v ≡ Some ws → HasSorts (part_sorts c S) ws
bound-same c S v o h ws q = subst (λ Us. HasSorts Us ws) (map-same (part_sorts c S)) (bound-parts s_a s_b c S v o (subst (λ T. Has T v) (sym (put_sorts-same S)) h) ws q)

module _ (P : Prog) (M : Meaning) (H : Holes) (F G : Wt) (x0 : Env) where
  -- f and g read by their transformers
  abbrev pub read_holes : Holes
  read_holes = record {
    safe_f = λ s. safe M H F (s ∷ x0);
    demands_f = λ s r. demands M H F (s ∷ x0) r;
    safe_g = λ v s. safe M H G (s ∷ v ∷ x0);
    demands_g = λ v s r. demands M H G (s ∷ v ∷ x0) r;
  }

  -- the transformers of f and g demand results of their sorts alone
  abbrev pub KeepsF : Option FSorts → Type 0
  KeepsF None = Unit {0}
  KeepsF (Some h) = (s r : Val) → Has h.input s → demands M H F (s ∷ x0) r → Has h.result r

  abbrev pub KeepsG : Option GSorts → Type 0
  KeepsG None = Unit {0}
  KeepsG (Some h) = (v s r : Val) → Has h.value v → Has h.input s → demands M H G (s ∷ v ∷ x0) r → Has h.result r

  pub record Place (Ss : List Srt) (sc : Scope) (us : List Tm) (n : ℕ) (x e : Env) : Type 0 where
    pub sorted : AllOf P sc.sorts us Ss
    pub values : put_values M us x ≡ e
    pub have : HasSorts Ss e
    pub widens : Widens 0 n x0 x

  place-under : (Ss : List Srt) (sc : Scope) (us : List Tm) (n : ℕ) (x e : Env) (S : Srt) (v : Val) → Place Ss sc us n x e → Has S v → Place (S ∷ Ss) (under S sc) (t_var 0 ∷ map (shift 0 1) us) (suc n) (v ∷ x) (v ∷ e)
  place-under Ss sc us n x e S v p h = record {
    sorted = (refl, under-sorted P S sc.sorts us Ss p.sorted);
    values = ap (λ l. v ∷ l) (raised-values M us x v ∙ p.values);
    have = (h, p.have);
    widens = widens-more n x0 x v p.widens;
  }

  module _ (hf : Option FSorts) (hg : Option GSorts) (rf rg : Srt) (isf : ResultF hf rf) (isg : ResultG hg rg) (kf : KeepsF hf) (kg : KeepsG hg) where
    abbrev tr : Scope → List Tm → ℕ → Dm → Wt
    tr sc us n d = star rf rg F G sc us n d

    abbrev tr_arm : Scope → List Tm → ℕ → DmArms → Con → List Tm → Wt
    tr_arm sc us n arms c sels = star_arm rf rg F G sc us n arms c sels

    term-has : (Ss : List Srt) (t : Tm) (S : Srt) (e : Env) → RunSorted P Ss t S → HasSorts Ss e → Has S (value M t e)
    term-has Ss t S e h k = value-has M (Applies P) Ss t S e h.0 h.1 k

    -- ---- results have their sort

    keep-f : (o : Option FSorts) → KeepsF o → (Ss : List Srt) (t : Tm) (R : Srt) (e : Env) (r : Val) → if_there o (λ h. RunSorted P Ss t h.input × (R ≡ h.result)) ⊥ → HasSorts Ss e → demands M H F (value M t e ∷ x0) r → Has R r
    keep-f None k Ss t R e r h i d = absurd h
    keep-f (Some z) k Ss t R e r h i d = subst (λ R. Has R r) (sym h.1) (k (value M t e) r (term-has Ss t z.input e h.0 i) d)

    keep-g : (o : Option GSorts) → KeepsG o → (Ss : List Srt) (t u : Tm) (R : Srt) (e : Env) (r : Val) → if_there o (λ h. RunSorted P Ss t h.value × RunSorted P Ss u h.input × (R ≡ h.result)) ⊥ → HasSorts Ss e → demands M H G (value M u e ∷ value M t e ∷ x0) r → Has R r
    keep-g None k Ss t u R e r h i d = absurd h
    keep-g (Some z) k Ss t u R e r h i d = subst (λ R. Has R r) (sym h.2) (k (value M t e) (value M u e) r (term-has Ss t z.value e h.0 i) (term-has Ss u z.input e h.1 i) d)

    side-has : (v : Val) (A B C : Type 0) → (A → C) → (B → C) → side_on v A B → C
    side-has (v_bool true) A B C f g s = f s
    side-has v A B C f g s = g s

    arm-has : (o : Option (List Val)) (Q : List Val → Type 0) (B C : Type 0) → ((ws : List Val) → o ≡ Some ws → Q ws → C) → (B → C) → arm_on o Q B → C
    arm-has None Q B C f g s = g s
    arm-has (Some ws) Q B C f g s = f ws refl s

    mutual
      demanded-has : (d : Dm) (Ss : List Srt) (R : Srt) (e : Env) (r : Val) → DmSorted P hf hg Ss d R → HasSorts Ss e → ddemands M read_holes d e r → Has R r
      demanded-has (d_ret t) Ss R e r h k d = subst (Has R) d (term-has Ss t R e h k)
      demanded-has (d_let x d1 d2) Ss R e r h k d = demanded-has d2 (h.0 ∷ Ss) R (d.0 ∷ e) r h.1.1 (demanded-has d1 Ss h.0 e d.0 h.1.0 k d.1.0, k) d.1.1
      demanded-has (d_if t d1 d2) Ss R e r h k d = side-has (value M t e) _ _ (Has R r) (λ z. demanded-has d1 Ss R e r h.1 k z) (λ z. demanded-has d2 Ss R e r h.2 k z) d
      demanded-has (d_match t arms) Ss R e r h k d = arms-keep arms Ss h.0 R (value M t e) e r h.1.1 (term-has Ss t h.0 e h.1.0 k) k d
      demanded-has (d_run_f t) Ss R e r h k d = keep-f hf kf Ss t R e r h k d
      demanded-has (d_run_g t u) Ss R e r h k d = keep-g hg kg Ss t u R e r h k d

      arms-keep : (arms : DmArms) (Ss : List Srt) (S R : Srt) (v : Val) (e : Env) (r : Val) → DmArmsSorted P hf hg Ss S arms R → Has S v → HasSorts Ss e → arm_demands M read_holes arms v e r → Has R r
      arms-keep d_end Ss S R v e r h i k d = absurd d
      arms-keep (d_arm c xs d1 more) Ss S R v e r h i k d = arm-has (parts c v) _ _ (Has R r)
          (λ ws q z. demanded-has d1 (part_sorts c S ++ Ss) R (ws ++ e) r h.2 (append-have (part_sorts c S) Ss ws e (bound-same c S v h.0 i ws q) k) z)
          (λ z. arms-keep more Ss S R v e r h.3 i k z) d

    -- ---- terms

    same-value : (Ss : List Srt) (sc : Scope) (us : List Tm) (n : ℕ) (x e : Env) (t : Tm) → Place Ss sc us n x e → value M (put us t) x ≡ value M t e
    same-value Ss sc us n x e t p = put-value M us t x ∙ ap (value M t) p.values

    needs-to : (Ss : List Srt) (sc : Scope) (us : List Tm) (n : ℕ) (x e : Env) (t : Tm) (S : Srt) (w : Wt) → Place Ss sc us n x e → RunSorted P Ss t S → safe M H (term_needs t us w) x → IsSound t e
    needs-to Ss sc us n x e t S w p h s = nonzero-sound M (Applies P) e Ss t S h.0 h.1 p.have (subst (λ e. AllNonzero M e (divisions [] t)) p.values (needs-nonzero M H (divisions [] t) us w x s))

    -- a term before what is exact
    after-term : (Ss : List Srt) (sc : Scope) (us : List Tm) (n : ℕ) (x e : Env) (t : Tm) (S : Srt) (w : Wt) (A : Type 0) (B : Val → Type 0) → Place Ss sc us n x e → RunSorted P Ss t S → Exact M H w x A B → Exact M H (term_needs t us w) x (IsSound t e × A) B
    after-term Ss sc us n x e t S w A B p h z = record {
      safe_to = λ s. (needs-to Ss sc us n x e t S w p h s, z.safe_to (needs-rest M H (divisions [] t) us w x s));
      safe_from = λ a. needs-from M H (divisions [] t) us w x (subst (λ e. AllNonzero M e (divisions [] t)) (sym p.values) (sound-nonzero M (Applies P) e [] t a.0)) (z.safe_from a.1);
      demands_to = λ r d. z.demands_to r (needs-demand-back M H (divisions [] t) us w x r d);
      demands_from = λ r b. needs-demand M H (divisions [] t) us w x r (z.demands_from r b);
    }

    same-exact : (w : Wt) (x : Env) (A A' : Type 0) (B B' : Val → Type 0) → (A → A') → (A' → A) → ((r : Val) → B r → B' r) → ((r : Val) → B' r → B r) → Exact M H w x A B → Exact M H w x A' B'
    same-exact w x A A' B B' f g f' g' z = record { safe_to = λ s. f (z.safe_to s); safe_from = λ a. z.safe_from (g a); demands_to = λ r d. f' r (z.demands_to r d); demands_from = λ r b. z.demands_from r (g' r b) }

    run-f-exact : (n : ℕ) (x e : Env) (u : Tm) (s1 : Val) (name : List ℕ) → value M u x ≡ s1 → Widens 0 n x0 x → Exact M H (Rattle.fst_star.specs.Transformers.w_then (Rattle.fst_star.specs.Transformers.w_post u) name (wshift 1 n F)) x (safe M H F (s1 ∷ x0)) (λ r. demands M H F (s1 ∷ x0) r)
    run-f-exact n x e u s1 name q wid =
        let w1 = λ (v : Val). widens-under 0 n x0 x v wid in
        record {
          safe_to = λ s. subst (λ T. T) (safe-shift M H F 1 n (s1 ∷ x0) (s1 ∷ x) (w1 s1)) (s.1 s1 q);
          safe_from = λ a. (tt, λ v d. subst (λ v. safe M H (wshift 1 n F) (v ∷ x)) (sym q ∙ d) (subst (λ T. T) (sym (safe-shift M H F 1 n (s1 ∷ x0) (s1 ∷ x) (w1 s1))) a));
          demands_to = λ r d. subst (λ T. T) (demands-shift M H F 1 n (s1 ∷ x0) (s1 ∷ x) (w1 s1) r) (subst (λ v. demands M H (wshift 1 n F) (v ∷ x) r) (sym d.1.0 ∙ q) d.1.1);
          demands_from = λ r b. (s1, (q, subst (λ T. T) (sym (demands-shift M H F 1 n (s1 ∷ x0) (s1 ∷ x) (w1 s1) r)) b));
        }

    run-g-exact : (n : ℕ) (x e : Env) (t u : Tm) (v1 s1 : Val) (y name : List ℕ) → value M t x ≡ v1 → value M u x ≡ s1 → Widens 0 n x0 x
        → Exact M H (Rattle.fst_star.specs.Transformers.w_then (Rattle.fst_star.specs.Transformers.w_post t) y (Rattle.fst_star.specs.Transformers.w_then (Rattle.fst_star.specs.Transformers.w_post (shift 0 1 u)) name (wshift 2 n G))) x (safe M H G (s1 ∷ v1 ∷ x0)) (λ r. demands M H G (s1 ∷ v1 ∷ x0) r)
    run-g-exact n x e t u v1 s1 y name q q' wid =
        let w2 = widens-under 1 n (v1 ∷ x0) (v1 ∷ x) s1 (widens-under 0 n x0 x v1 wid) in
        let under_value = λ (v : Val). value_shift M 0 1 u x (v ∷ x) (widens_one x v) ∙ q' in
        record {
          safe_to = λ s. subst (λ T. T) (safe-shift M H G 2 n (s1 ∷ v1 ∷ x0) (s1 ∷ v1 ∷ x) w2) ((s.1 v1 q).1 s1 (under_value v1));
          safe_from = λ a. (tt, λ v d. (tt, λ s c. subst (λ v. safe M H (wshift 2 n G) (s ∷ v ∷ x)) (sym q ∙ d) (subst (λ s. safe M H (wshift 2 n G) (s ∷ v1 ∷ x)) (sym (under_value v) ∙ c) (subst (λ T. T) (sym (safe-shift M H G 2 n (s1 ∷ v1 ∷ x0) (s1 ∷ v1 ∷ x) w2)) a))));
          demands_to = λ r d. subst (λ T. T) (demands-shift M H G 2 n (s1 ∷ v1 ∷ x0) (s1 ∷ v1 ∷ x) w2 r) (subst (λ s. demands M H (wshift 2 n G) (s ∷ v1 ∷ x) r) (sym d.1.1.1.0 ∙ under_value d.0) (subst (λ v. demands M H (wshift 2 n G) (d.1.1.0 ∷ v ∷ x) r) (sym d.1.0 ∙ q) d.1.1.1.1));
          demands_from = λ r b. (v1, (q, (s1, (under_value v1, subst (λ T. T) (sym (demands-shift M H G 2 n (s1 ∷ v1 ∷ x0) (s1 ∷ v1 ∷ x) w2 r)) b))));
        }

    let-exact : (w1 w2 : Wt) (name : List ℕ) (x : Env) (S : Srt) (A1 : Type 0) (B1 : Val → Type 0) (A2 : Val → Type 0) (B2 : Val → Val → Type 0) → Exact M H w1 x A1 B1 → ((v : Val) → B1 v → Has S v) → ((v : Val) → Has S v → Exact M H w2 (v ∷ x) (A2 v) (B2 v))
        → Exact M H (Rattle.fst_star.specs.Transformers.w_then w1 name w2) x (A1 × ((v : Val) → B1 v → A2 v)) (λ r. (v : Val) × (B1 v × B2 v r))
    let-exact w1 w2 name x S A1 B1 A2 B2 z has y = record {
      safe_to = λ s. (z.safe_to s.0, λ v b. (y v (has v b)).safe_to (s.1 v (z.demands_from v b)));
      safe_from = λ a. (z.safe_from a.0, λ v d. (y v (has v (z.demands_to v d))).safe_from (a.1 v (z.demands_to v d)));
      demands_to = λ r d. (d.0, (z.demands_to d.0 d.1.0, (y d.0 (has d.0 (z.demands_to d.0 d.1.0))).demands_to r d.1.1));
      demands_from = λ r b. (b.0, (z.demands_from b.0 b.1.0, (y b.0 (has b.0 b.1.0)).demands_from r b.1.1));
    }

    arms-family : (arms : DmArms) (T R : Srt) (Ss : List Srt) → DmArmsSorted P hf hg Ss T arms R → HasDmArm arms → dm_family arms ≡ sort_family T
    arms-family d_end T R Ss h n = absurd n
    arms-family (d_arm c xs d more) T R Ss h n = family-of c T h.0

    arms-have : (arms : DmArms) (T R : Srt) (Ss : List Srt) → DmArmsSorted P hf hg Ss T arms R → HasDmArm arms → HasCons M H T
    arms-have d_end T R Ss h n = absurd n
    arms-have (d_arm c xs d more) T R Ss h n = has-cons M H c T h.0

    f-exact : (o : Option FSorts) (Ss : List Srt) (t : Tm) (R : Srt) (sc : Scope) (us : List Tm) (n : ℕ) (x e : Env) → if_there o (λ h. RunSorted P Ss t h.input × (R ≡ h.result)) ⊥ → Place Ss sc us n x e → Exact M H (tr sc us n (d_run_f t)) x (dsafe M read_holes (d_run_f t) e) (ddemands M read_holes (d_run_f t) e)
    f-exact None Ss t R sc us n x e h p = absurd h
    f-exact (Some z) Ss t R sc us n x e h p = after-term Ss sc us n x e t z.input _ _ _ p h.0 (run-f-exact n x e (put us t) (value M t e) _ (same-value Ss sc us n x e t p) p.widens)

    g-exact : (o : Option GSorts) (Ss : List Srt) (t u : Tm) (R : Srt) (sc : Scope) (us : List Tm) (n : ℕ) (x e : Env) → if_there o (λ h. RunSorted P Ss t h.value × RunSorted P Ss u h.input × (R ≡ h.result)) ⊥ → Place Ss sc us n x e → Exact M H (tr sc us n (d_run_g t u)) x (dsafe M read_holes (d_run_g t u) e) (ddemands M read_holes (d_run_g t u) e)
    g-exact None Ss t u R sc us n x e h p = absurd h
    g-exact (Some z) Ss t u R sc us n x e h p = same-exact _ x _ _ _ _ (λ a. (a.0, a.1.0, a.1.1)) (λ a. (a.0, (a.1, a.2))) (λ r b. b) (λ r b. b)
        (after-term Ss sc us n x e t z.value _ _ _ p h.0 (after-term Ss sc us n x e u z.input _ _ _ p h.1 (run-g-exact n x e (put us t) (put us u) (value M t e) (value M u e) _ _ (same-value Ss sc us n x e t p) (same-value Ss sc us n x e u p) p.widens)))

    one-arm : (c' : Con) (d : Dm) (more : DmArms) (Ss : List Srt) (S : Srt) (sc : Scope) (us : List Tm) (n : ℕ) (x e : Env) (u : Tm) (v : Val) (c : Con) (items : List Val)
        → ConOf c' S → Place Ss sc us n x e → Sorted P sc.sorts u S → Has S v → parts c v ≡ Some items → put_values M (reverse (selectors c S u)) x ≡ items
        → (Place (part_sorts c' S ++ Ss) sc (reverse (selectors c S u) ++ us) n x (items ++ e) → Exact M H (tr sc (reverse (selectors c S u) ++ us) n d) x (dsafe M read_holes d (items ++ e)) (ddemands M read_holes d (items ++ e)))
        → Exact M H (tr_arm sc us n more c (selectors c S u)) x (arm_safe M read_holes more v e) (arm_demands M read_holes more v e)
        → (y : Bool) → same_con c' c ≡ y
        → Exact M H (if y then tr sc (reverse (selectors c S u) ++ us) n d else tr_arm sc us n more c (selectors c S u)) x
        (arm_on (parts c' v) (λ vs. dsafe M read_holes d (vs ++ e)) (arm_safe M read_holes more v e)) (λ r. arm_on (parts c' v) (λ vs. ddemands M read_holes d (vs ++ e) r) (arm_demands M read_holes more v e r))
    one-arm c' d more Ss S sc us n x e u v c items o p r j fits gives one two true z =
        let q = same-con-is c' c z in
        let k : parts c' v ≡ Some items = ap (λ c. parts c v) q ∙ fits in
        subst (λ w. Exact M H (tr sc (reverse (selectors c S u) ++ us) n d) x (arm_on w (λ vs. dsafe M read_holes d (vs ++ e)) (arm_safe M read_holes more v e)) (λ r. arm_on w (λ vs. ddemands M read_holes d (vs ++ e) r) (arm_demands M read_holes more v e r))) (sym k)
        (one (record {
          sorted = append-sorted (Applies P) sc.sorts (reverse (selectors c S u)) us (part_sorts c' S) Ss (subst (λ d. AllOf P sc.sorts (reverse (selectors d S u)) (part_sorts c' S)) q (selectors-sorted P sc.sorts c' S u o r)) p.sorted;
          values = values-append M (reverse (selectors c S u)) us x ∙ ap₂ ◌++◌ gives p.values;
          have = append-have (part_sorts c' S) Ss items e (bound-same c' S v o j items k) p.have;
          widens = p.widens;
        }))
    one-arm c' d more Ss S sc us n x e u v c items o p r j fits gives one two false z =
        subst (λ w. Exact M H (tr_arm sc us n more c (selectors c S u)) x (arm_on w (λ vs. dsafe M read_holes d (vs ++ e)) (arm_safe M read_holes more v e)) (λ r. arm_on w (λ vs. ddemands M read_holes d (vs ++ e) r) (arm_demands M read_holes more v e r))) (sym (other-con c' c v items z fits)) two

    mutual
      pub star-exact : (d : Dm) (Ss : List Srt) (R : Srt) (sc : Scope) (us : List Tm) (n : ℕ) (x e : Env) → DmSorted P hf hg Ss d R → DmFull d → Place Ss sc us n x e → Exact M H (tr sc us n d) x (dsafe M read_holes d e) (ddemands M read_holes d e)
      star-exact (d_ret t) Ss R sc us n x e h q p =
          same-exact _ x _ _ _ _ (λ a. a.0) (λ a. (a, tt)) (λ r b. b) (λ r b. b)
          (after-term Ss sc us n x e t R _ ⊤ (λ r. value M t e ≡ r) p h (record { safe_to = λ s. tt; safe_from = λ a. tt; demands_to = λ r d. sym (same-value Ss sc us n x e t p) ∙ d; demands_from = λ r b. same-value Ss sc us n x e t p ∙ b }))
      star-exact (d_let y d1 d2) Ss R sc us n x e h q p =
          let S1 = dm_sort rf rg (map (sort_of sc.sorts) us) d1 in
          let is : S1 ≡ h.0 = ap (λ Us. dm_sort rf rg Us d1) (sorts-are (Applies P) sc.sorts us Ss p.sorted) ∙ dm-sort-is P hf hg rf rg isf isg d1 Ss h.0 h.1.0 q.0 in
          let-exact (tr sc us n d1) (tr (under S1 sc) (t_var 0 ∷ map (shift 0 1) us) (suc n) d2) y x h.0 _ _ (λ v. dsafe M read_holes d2 (v ∷ e)) (λ v r. ddemands M read_holes d2 (v ∷ e) r)
          (star-exact d1 Ss h.0 sc us n x e h.1.0 q.0 p) (λ v b. demanded-has d1 Ss h.0 e v h.1.0 p.have b)
          (λ v b. subst (λ S. Exact M H (tr (under S sc) (t_var 0 ∷ map (shift 0 1) us) (suc n) d2) (v ∷ x) (dsafe M read_holes d2 (v ∷ e)) (ddemands M read_holes d2 (v ∷ e))) (sym is)
          (star-exact d2 (h.0 ∷ Ss) R (under h.0 sc) (t_var 0 ∷ map (shift 0 1) us) (suc n) (v ∷ x) (v ∷ e) h.1.1 q.1 (place-under Ss sc us n x e h.0 v p b)))
      star-exact (d_if t d1 d2) Ss R sc us n x e h q p =
          after-term Ss sc us n x e t s_bool _ _ _ p h.0 (if-exact M H (value M t e) (put us t) (tr sc us n d1) (tr sc us n d2) x _ _ _ _ (same-value Ss sc us n x e t p) (star-exact d1 Ss R sc us n x e h.1 q.0 p) (star-exact d2 Ss R sc us n x e h.2 q.1 p))
      star-exact (d_match t arms) Ss R sc us n x e h q p =
          let T = h.0 in
          let u = put us t in
          let same = same-value Ss sc us n x e t p in
          let ru : Sorted P sc.sorts u T = put-sorted (Applies P) sc.sorts us Ss t T p.sorted h.1.0.0 in
          let has : Has T (value M u x) = subst (Has T) (sym same) (term-has Ss t T e h.1.0 p.have) in
          let ch = choose-con M H T u x (value M u x) (arms-have arms T R Ss h.1.1 q.0) has refl in
          let arm = λ (c : Con) (sels : List Tm). tr_arm sc us n arms c sels in
          let inner = arms-exact arms Ss T R sc us n x e u (value M u x) ch.con ch.items h.1.1 q.1 p ru has ch.fits ch.gives in
          let whole = match-exact M H T u arm x (arm_safe M read_holes arms (value M u x) e) (arm_demands M read_holes arms (value M u x) e) has ch inner in
          after-term Ss sc us n x e t T _ _ _ p h.1.0
          (subst (λ v. Exact M H (w_ways (con_ways (dm_family arms) (sort_of sc.sorts u) u arm)) x (arm_safe M read_holes arms v e) (arm_demands M read_holes arms v e)) same
          (subst (λ S. Exact M H (w_ways (con_ways (dm_family arms) S u arm)) x (arm_safe M read_holes arms (value M u x) e) (arm_demands M read_holes arms (value M u x) e)) (sym (sort-is (Applies P) sc.sorts u T ru))
          (subst (λ cs. Exact M H (w_ways (con_ways cs T u arm)) x (arm_safe M read_holes arms (value M u x) e) (arm_demands M read_holes arms (value M u x) e)) (sym (arms-family arms T R Ss h.1.1 q.0)) whole)))
      star-exact (d_run_f t) Ss R sc us n x e h q p = f-exact hf Ss t R sc us n x e h p
      star-exact (d_run_g t u) Ss R sc us n x e h q p = g-exact hg Ss t u R sc us n x e h p

      arms-exact : (arms : DmArms) (Ss : List Srt) (S R : Srt) (sc : Scope) (us : List Tm) (n : ℕ) (x e : Env) (u : Tm) (v : Val) (c : Con) (items : List Val)
          → DmArmsSorted P hf hg Ss S arms R → DmArmsFull arms → Place Ss sc us n x e → Sorted P sc.sorts u S → Has S v → parts c v ≡ Some items → put_values M (reverse (selectors c S u)) x ≡ items
          → Exact M H (tr_arm sc us n arms c (selectors c S u)) x (arm_safe M read_holes arms v e) (arm_demands M read_holes arms v e)
      arms-exact d_end Ss S R sc us n x e u v c items h q p r j fits gives = record { safe_to = λ s. (let bad : v_bool false ≡ v_bool true = s.0 in cc); safe_from = λ a. absurd a; demands_to = λ r d. absurd d; demands_from = λ r b. absurd b }
      arms-exact (d_arm c' xs d more) Ss S R sc us n x e u v c items h q p r j fits gives =
          one-arm c' d more Ss S sc us n x e u v c items h.0 p r j fits gives
          (λ pl. star-exact d (part_sorts c' S ++ Ss) R sc (reverse (selectors c S u) ++ us) n x (items ++ e) h.2 q.0 pl)
          (arms-exact more Ss S R sc us n x e u v c items h.3 q.1 p r j fits gives)
          (same_con c' c) refl
