-- Named terms, and terms with names put in, from the answers for their parts.
use Rattle.std.proofs.Common.{◌≡◌, ℕ, zero, suc, ◌+◌, ◌-◌, ◌<◌, ◌≤◌, Bool, true, false, ◌&&◌, if◌then◌else◌, List, [], ◌∷◌, ◌++◌, length, get_or, take, drop, map, refl, sym, ap, ap₂, ◌∙◌, arith, add-one}
use Rattle.std.proofs.lemmas.List.{append_assoc, append-nil, length-map}
use Rattle.fst_base.specs.declared.op.Op.{Op}
use Rattle.fst_base.specs.declared.place.Pos.{Pos}
use Rattle.fst_base.specs.declared.sort.Sort.{Sort}
use Rattle.fst_base.specs.Sorts.{Srt, plain_sort}
use Rattle.fst_terms.specs.Terms.{Tm, t_var, t_prim, t_if, t_app, t_more, row, plain_term, plain_terms}
use Rattle.fst_terms.specs.Formulas.{sort_of}
use Rattle.fst_terms.specs.Same.{same_term, firsts}
use Rattle.fst_terms.specs.declared.term.Term.{Term}
use Rattle.fst_terms.specs.declared.term.Term.TheVariants as T
use Rattle.fst_terms.proofs.PlainLemmas.{plain-term-Var, plain-term-Prim, plain-term-If, plain-term-App}
use Rattle.fst_terms.proofs.FirstsLemmas.{firsts-append}
use Rattle.fst_flats.specs.Preparing.{fact_of_name}
use Rattle.fst_terms.specs.Naming.{is_data, is_comparison, takes_data, named_in, named_among, name_index, renamed, all_renamed}

-- ---- the index of a name

pub name_index-here : (t : Term) (us : List Term) (k : ℕ) (d : Term) → k < length us → same_term (plain_term t) (plain_term (get_or us k d)) ≡ true → name_index (map plain_term (drop k us)) (plain_term t) ≡ length us - 1 - k
name_index-here t [] k d h e = absurd (omega arith)
name_index-here t (u ∷ us) zero d h e = ap (λ b. if b then length (map plain_term us) else name_index (map plain_term us) (plain_term t)) e ∙ length-map us plain_term ∙ omega arith
name_index-here t (u ∷ us) (suc k) d h e =
    let inner : name_index (map plain_term (drop k us)) (plain_term t) ≡ length us - 1 - k = name_index-here t us k d (omega (arith, h)) e in
    let less : length us - 1 - k ≡ suc (length us) - 1 - suc k = omega (arith, h) in
    inner ∙ less

index-suc : (t : Term) (us : List Term) (k : ℕ) (d : Term) → k < length us → same_term (plain_term t) (plain_term (get_or us k d)) ≡ false → name_index (map plain_term (drop k us)) (plain_term t) ≡ name_index (map plain_term (drop (suc k) us)) (plain_term t)
index-suc t [] k d h e = absurd (omega arith)
index-suc t (u ∷ us) zero d h e = ap (λ b. if b then length (map plain_term us) else name_index (map plain_term us) (plain_term t)) e
index-suc t (u ∷ us) (suc k) d h e = index-suc t us k d (omega (arith, h)) e

pub name_index-next : (t : Term) (us : List Term) (k : ℕ) (d : Term) (n : ℕ) → k < length us → n ≡ name_index (map plain_term (drop k us)) (plain_term t) → same_term (plain_term t) (plain_term (get_or us k d)) ≡ false → n ≡ name_index (map plain_term (drop (k + 1) us)) (plain_term t)
name_index-next t us k d n h i e = rw add-one (i ∙ index-suc t us k d h e)

pub name_index-end : (t : Term) (us : List Term) (k : ℕ) → length us ≤ k → name_index (map plain_term (drop k us)) (plain_term t) ≡ 0
name_index-end t [] zero h = refl
name_index-end t [] (suc k) h = refl
name_index-end t (u ∷ us) zero h = absurd (omega (arith, h))
name_index-end t (u ∷ us) (suc k) h = name_index-end t us k (omega (arith, h))

-- ---- named terms

module _ (Ss : List Srt) where
  named-suc : (a : Bool) (ts : List Term) (k : ℕ) (d : Term) → k < length ts → named_among Ss a (plain_terms (take (suc k) ts)) ≡ named_among Ss a (plain_terms (take k ts)) ++ named_in Ss a (plain_term (get_or ts k d))
  named-suc a [] k d h = absurd (omega arith)
  named-suc a (t ∷ ts) zero d h = append-nil (named_in Ss a (plain_term t))
  named-suc a (t ∷ ts) (suc k) d h =
      ap (λ us. named_in Ss a (plain_term t) ++ us) (named-suc a ts k d (omega (arith, h)))
      ∙ sym (append_assoc (named_in Ss a (plain_term t)) (named_among Ss a (plain_terms (take k ts))) (named_in Ss a (plain_term (get_or ts k d))))

  pub named-more : (a : Bool) (old now new : List Tm) (ts : List Term) (k : ℕ) (d : Term) → k < length ts → now ≡ firsts old (named_among Ss a (plain_terms (take k ts))) → new ≡ firsts now (named_in Ss a (plain_term (get_or ts k d))) → new ≡ firsts old (named_among Ss a (plain_terms (take (k + 1) ts)))
  named-more a old now new ts k d h e f =
      rw add-one (f ∙ ap (λ us. firsts us (named_in Ss a (plain_term (get_or ts k d)))) e
      ∙ sym (firsts-append old (named_among Ss a (plain_terms (take k ts))) (named_in Ss a (plain_term (get_or ts k d)))) ∙ ap (firsts old) (sym (named-suc a ts k d h)))

  two-more : (a b old m n : List Tm) → m ≡ firsts old a → n ≡ firsts m b → n ≡ firsts old (a ++ b)
  two-more a b old m n e f = f ∙ ap (λ m. firsts m b) e ∙ sym (firsts-append old a b)

  pub named-If-by : (a b : Bool) (old m1 m2 m3 m4 : List Tm) (c t u c' t' u' l w : Term)
      → w ≡ T.If c t u → l ≡ t → c' ≡ c → t' ≡ t → u' ≡ u → b ≡ is_data (sort_of Ss (plain_term l))
      → m1 ≡ firsts old (named_in Ss false (plain_term c')) → m2 ≡ firsts m1 (named_in Ss b (plain_term t')) → m3 ≡ firsts m2 (named_in Ss b (plain_term u'))
      → m4 ≡ firsts m3 (if a then plain_term w ∷ [] else []) → m4 ≡ firsts old (named_in Ss a (plain_term w))
  named-If-by a b old m1 m2 m3 m4 c t u c' t' u' l w is el ec et eu d e1 e2 e3 e4 =
      let open_w : plain_term w ≡ t_if (plain_term c) (plain_term t) (plain_term u) = ap plain_term is ∙ plain-term-If c t u in
      let d' : b ≡ is_data (sort_of Ss (plain_term t)) = d ∙ ap (λ t. is_data (sort_of Ss (plain_term t))) el in
      let f1 : m1 ≡ firsts old (named_in Ss false (plain_term c)) = e1 ∙ ap (λ t. firsts old (named_in Ss false (plain_term t))) ec in
      let f2 : m2 ≡ firsts m1 (named_in Ss (is_data (sort_of Ss (plain_term t))) (plain_term t)) = e2 ∙ ap₂ (λ b t. firsts m1 (named_in Ss b (plain_term t))) d' et in
      let f3 : m3 ≡ firsts m2 (named_in Ss (is_data (sort_of Ss (plain_term t))) (plain_term u)) = e3 ∙ ap₂ (λ b t. firsts m2 (named_in Ss b (plain_term t))) d' eu in
      let f4 : m4 ≡ firsts m3 (if a then t_if (plain_term c) (plain_term t) (plain_term u) ∷ [] else []) = e4 ∙ ap (λ v. firsts m3 (if a then v ∷ [] else [])) open_w in
      let A : List Tm = named_in Ss false (plain_term c) in
      let B : List Tm = named_in Ss (is_data (sort_of Ss (plain_term t))) (plain_term t) in
      let C : List Tm = named_in Ss (is_data (sort_of Ss (plain_term t))) (plain_term u) in
      let D : List Tm = if a then t_if (plain_term c) (plain_term t) (plain_term u) ∷ [] else [] in
      two-more (A ++ B ++ C) D old m3 m4 (two-more (A ++ B) C old m2 m3 (two-more A B old m1 m2 f1 f2) f3) f4 ∙ ap (λ v. firsts old (named_in Ss a v)) (sym open_w)

  pub named-Prim-by : (a b x : Bool) (old m1 m2 : List Tm) (o : Op) (S : Sort) (ts first second : List Term) (p : Pos) (w : Term)
      → w ≡ T.Prim o S ts p → first ≡ ts → second ≡ ts → b ≡ takes_data Ss o (plain_terms first) → x ≡ (a && is_comparison o)
      → m1 ≡ firsts old (named_among Ss b (plain_terms second)) → m2 ≡ firsts m1 (if x then plain_term w ∷ [] else []) → m2 ≡ firsts old (named_in Ss a (plain_term w))
  named-Prim-by a b x old m1 m2 o S ts first second p w is ef es d ex e1 e2 =
      let open_w : plain_term w ≡ t_prim o (plain_sort S) (plain_terms ts) p.at = ap plain_term is ∙ plain-term-Prim o S ts p in
      let d' : b ≡ takes_data Ss o (plain_terms ts) = d ∙ ap (λ ts. takes_data Ss o (plain_terms ts)) ef in
      let f1 : m1 ≡ firsts old (named_among Ss (takes_data Ss o (plain_terms ts)) (plain_terms ts)) = e1 ∙ ap₂ (λ b ts. firsts old (named_among Ss b (plain_terms ts))) d' es in
      let f2 : m2 ≡ firsts m1 (if a && is_comparison o then t_prim o (plain_sort S) (plain_terms ts) p.at ∷ [] else []) = e2 ∙ ap₂ (λ x v. firsts m1 (if x then v ∷ [] else [])) ex open_w in
      two-more (named_among Ss (takes_data Ss o (plain_terms ts)) (plain_terms ts)) (if a && is_comparison o then t_prim o (plain_sort S) (plain_terms ts) p.at ∷ [] else []) old m1 m2 f1 f2 ∙ ap (λ v. firsts old (named_in Ss a v)) (sym open_w)

  pub named-App-by : (a : Bool) (old m1 : List Tm) (k : ℕ) (S : Sort) (ts args : List Term) (w : Term) → w ≡ T.App k S ts → args ≡ ts → m1 ≡ firsts old (named_among Ss true (plain_terms args)) → m1 ≡ firsts old (named_in Ss a (plain_term w))
  named-App-by a old m1 k S ts args w is e f = f ∙ ap (λ ts. firsts old (named_among Ss true (plain_terms ts))) e ∙ ap (λ v. firsts old (named_in Ss a v)) (sym (ap plain_term is ∙ plain-term-App k S ts))

-- ---- terms with names put in

module _ (Ss : List Srt) (ns : List Tm) where
  renamed-row : (a : Bool) (ts : List Term) → row (map (λ t. renamed Ss ns a (plain_term t)) ts) ≡ all_renamed Ss ns a (plain_terms ts)
  renamed-row a [] = refl
  renamed-row a (t ∷ ts) = ap (t_more (renamed Ss ns a (plain_term t))) (renamed-row a ts)

  args-renamed : (a : Bool) (ts args vs : List Term) → args ≡ ts → map plain_term vs ≡ map (λ t. renamed Ss ns a (plain_term t)) args → plain_terms vs ≡ all_renamed Ss ns a (plain_terms ts)
  args-renamed a ts args vs e f = ap row f ∙ renamed-row a args ∙ ap (λ ts. all_renamed Ss ns a (plain_terms ts)) e

  pub rename-Prim-name : (a x : Bool) (o : Op) (S : Sort) (ts : List Term) (p : Pos) (w : Term)
      → w ≡ T.Prim o S ts p → x ≡ (a && is_comparison o) → x ≡ true → t_var (name_index ns (plain_term w)) ≡ renamed Ss ns a (plain_term w)
  rename-Prim-name a x o S ts p w is ex h =
      let open_w : plain_term w ≡ t_prim o (plain_sort S) (plain_terms ts) p.at = ap plain_term is ∙ plain-term-Prim o S ts p in
      ap (λ v. t_var (name_index ns v)) open_w
      ∙ sym (ap (renamed Ss ns a) open_w ∙ ap (λ b. if b then t_var (name_index ns (t_prim o (plain_sort S) (plain_terms ts) p.at)) else t_prim o (plain_sort S) (all_renamed Ss ns (takes_data Ss o (plain_terms ts)) (plain_terms ts)) p.at) (sym ex ∙ h))

  pub rename-Prim-by : (a b x : Bool) (o : Op) (S S' : Sort) (ts first second vs : List Term) (p : Pos) (w : Term)
      → w ≡ T.Prim o S ts p → x ≡ (a && is_comparison o) → x ≡ false → S' ≡ S → first ≡ ts → second ≡ ts → b ≡ takes_data Ss o (plain_terms first)
      → map plain_term vs ≡ map (λ t. renamed Ss ns b (plain_term t)) second → plain_term (T.Prim o S' vs p) ≡ renamed Ss ns a (plain_term w)
  rename-Prim-by a b x o S S' ts first second vs p w is ex h es ef eg d f =
      let open_w : plain_term w ≡ t_prim o (plain_sort S) (plain_terms ts) p.at = ap plain_term is ∙ plain-term-Prim o S ts p in
      let d' : b ≡ takes_data Ss o (plain_terms ts) = d ∙ ap (λ ts. takes_data Ss o (plain_terms ts)) ef in
      let made : plain_terms vs ≡ all_renamed Ss ns (takes_data Ss o (plain_terms ts)) (plain_terms ts) = args-renamed b ts second vs eg f ∙ ap (λ b. all_renamed Ss ns b (plain_terms ts)) d' in
      plain-term-Prim o S' vs p ∙ ap₂ (λ S us. t_prim o S us p.at) (ap plain_sort es) made
      ∙ sym (ap (renamed Ss ns a) open_w ∙ ap (λ b. if b then t_var (name_index ns (t_prim o (plain_sort S) (plain_terms ts) p.at)) else t_prim o (plain_sort S) (all_renamed Ss ns (takes_data Ss o (plain_terms ts)) (plain_terms ts)) p.at) (sym ex ∙ h))

  pub rename-App-by : (a : Bool) (k : ℕ) (S S' : Sort) (ts args vs : List Term) (w : Term) → w ≡ T.App k S ts → S' ≡ S → args ≡ ts
      → map plain_term vs ≡ map (λ t. renamed Ss ns true (plain_term t)) args → plain_term (T.App k S' vs) ≡ renamed Ss ns a (plain_term w)
  rename-App-by a k S S' ts args vs w is es e f =
      plain-term-App k S' vs ∙ ap₂ (t_app k) (ap plain_sort es) (args-renamed true ts args vs e f) ∙ sym (ap (renamed Ss ns a) (ap plain_term is ∙ plain-term-App k S ts))

  pub rename-If-name : (a : Bool) (c t u w : Term) → w ≡ T.If c t u → a ≡ true → t_var (name_index ns (plain_term w)) ≡ renamed Ss ns a (plain_term w)
  rename-If-name a c t u w is h =
      let open_w : plain_term w ≡ t_if (plain_term c) (plain_term t) (plain_term u) = ap plain_term is ∙ plain-term-If c t u in
      ap (λ v. t_var (name_index ns v)) open_w ∙ sym (ap (renamed Ss ns a) open_w ∙ ap (λ a. renamed Ss ns a (t_if (plain_term c) (plain_term t) (plain_term u))) h)

  pub rename-If-by : (a b : Bool) (c t u c' t' u' l mc mt mu : Term) (w : Term) → w ≡ T.If c t u → a ≡ false → l ≡ t → c' ≡ c → t' ≡ t → u' ≡ u → b ≡ is_data (sort_of Ss (plain_term l))
      → plain_term mc ≡ renamed Ss ns false (plain_term c') → plain_term mt ≡ renamed Ss ns b (plain_term t') → plain_term mu ≡ renamed Ss ns b (plain_term u')
      → plain_term (T.If mc mt mu) ≡ renamed Ss ns a (plain_term w)
  rename-If-by a b c t u c' t' u' l mc mt mu w is h el ec et eu d e1 e2 e3 =
      let open_w : plain_term w ≡ t_if (plain_term c) (plain_term t) (plain_term u) = ap plain_term is ∙ plain-term-If c t u in
      let d' : b ≡ is_data (sort_of Ss (plain_term t)) = d ∙ ap (λ t. is_data (sort_of Ss (plain_term t))) el in
      let f1 : plain_term mc ≡ renamed Ss ns false (plain_term c) = e1 ∙ ap (λ t. renamed Ss ns false (plain_term t)) ec in
      let f2 : plain_term mt ≡ renamed Ss ns (is_data (sort_of Ss (plain_term t))) (plain_term t) = e2 ∙ ap₂ (λ b t. renamed Ss ns b (plain_term t)) d' et in
      let f3 : plain_term mu ≡ renamed Ss ns (is_data (sort_of Ss (plain_term t))) (plain_term u) = e3 ∙ ap₂ (λ b t. renamed Ss ns b (plain_term t)) d' eu in
      plain-term-If mc mt mu ∙ ap (λ v. t_if v (plain_term mt) (plain_term mu)) f1 ∙ ap₂ (λ v w. t_if (renamed Ss ns false (plain_term c)) v w) f2 f3
      ∙ sym (ap (renamed Ss ns a) open_w ∙ ap (λ a. renamed Ss ns a (t_if (plain_term c) (plain_term t) (plain_term u))) h)

pub rename-Var-by : (Ss : List Srt) (a : Bool) (names : List Term) (i n : ℕ) (w : Term) → w ≡ T.Var i → n ≡ length names → t_var (i + n) ≡ renamed Ss (map plain_term names) a (plain_term w)
rename-Var-by Ss a names i n w is e =
    let long : n ≡ length (map plain_term names) = e ∙ sym (length-map names plain_term) in
    ap (λ n. t_var (i + n)) long ∙ sym (ap (renamed Ss (map plain_term names) a) (ap plain_term is ∙ plain-term-Var i))

-- the facts of the names, from the fact of each
pub facts-row : (Ss : List Srt) (ns : List Tm) (ts : List Term) → map (λ t. fact_of_name Ss ns (plain_term t)) ts ≡ map (fact_of_name Ss ns) (map plain_term ts)
facts-row Ss ns [] = refl
facts-row Ss ns (t ∷ ts) = ap (λ us. fact_of_name Ss ns (plain_term t) ∷ us) (facts-row Ss ns ts)
