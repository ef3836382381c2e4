-- Induction over terms; a term's plain tree tells the term.
use Rattle.std.proofs.Common.{ℕ, ℤ, Bool, List, [], ◌∷◌, ◌≡◌, refl, sym, ap, ap₂, ◌∙◌, subst, map, All}
use Rattle.std.proofs.lemmas.List.Elements.{All-nil, All-cons, All-head, All-tail}
use Rattle.fst_base.specs.declared.op.Op.{Op}
use Rattle.fst_base.specs.declared.place.Pos.{Pos}
use Rattle.fst_base.specs.declared.sort.Sort.{Sort}
use Rattle.fst_base.proofs.SortLemmas.{sort_of_plain, sort-back}
use Rattle.fst_terms.specs.Terms.{Tm, Tms, t_var, t_int, t_bool, t_unit, t_prim, t_if, t_app, t_let, t_end, t_more, plain_term, plain_terms}
use Rattle.fst_terms.specs.declared.term.Term.{Term, roll-Term, map-Term, ind-Term}
use Rattle.fst_terms.specs.declared.term.Term.TheVariants as T
use Rattle.fst_terms.specs.declared.term.Term.TheOpen as TF
use Rattle.fst_terms.specs.declared.term.Term.TheOpen.{Term-F}
use Rattle.fst_terms.proofs.PlainLemmas.{plain-term-Var, plain-term-Int, plain-term-Bool, plain-term-Unit, plain-term-Prim, plain-term-If, plain-term-App, plain-term-Let}

module _ (P : Term → Type 0) where
  -- what an induction over terms has to show
  pub record TermSteps : Type 0 where
    pub at_var : (i : ℕ) → P (T.Var i)
    pub at_int : (n : ℤ) → P (T.Int n)
    pub at_bool : (b : Bool) → P (T.Bool b)
    pub at_unit : P T.Unit
    pub at_prim : (o : Op) (S : Sort) (ts : List Term) (p : Pos) → All P ts → P (T.Prim o S ts p)
    pub at_if : (c t u : Term) → P c → P t → P u → P (T.If c t u)
    pub at_app : (k : ℕ) (S : Sort) (ts : List Term) → All P ts → P (T.App k S ts)
    pub at_let : (x : List ℕ) (t u : Term) → P t → P u → P (T.Let x t u)

  -- a part that P holds for
  abbrev Known : Type 0
  Known = (t : Term) × P t

  all_known : (ts : List Known) → All P (map (λ t. t.0) ts)
  all_known [] = All-nil P
  all_known (t ∷ ts) = All-cons P t.0 _ t.1 (all_known ts)

  step : TermSteps → (y : Term-F Known) → P (roll-Term (map-Term Known Term (λ t. t.0) y))
  step s (TF.Var i) = subst P (sym (T.rolls-Var i)) (s.at_var i)
  step s (TF.Int n) = subst P (sym (T.rolls-Int n)) (s.at_int n)
  step s (TF.Bool b) = subst P (sym (T.rolls-Bool b)) (s.at_bool b)
  step s TF.Unit = subst P (sym T.rolls-Unit) s.at_unit
  step s (TF.Prim o S ts p) = subst P (sym (T.rolls-Prim o S _ p)) (s.at_prim o S _ p (all_known ts))
  step s (TF.If c t u) = subst P (sym (T.rolls-If c.0 t.0 u.0)) (s.at_if c.0 t.0 u.0 c.1 t.1 u.1)
  step s (TF.App k S ts) = subst P (sym (T.rolls-App k S _)) (s.at_app k S _ (all_known ts))
  step s (TF.Let x t u) = subst P (sym (T.rolls-Let x t.0 u.0)) (s.at_let x t.0 u.0 t.1 u.1)

  pub term_by_parts : TermSteps → (t : Term) → P t
  term_by_parts s = ind-Term P (λ x y is. subst (λ z. P (roll-Term z)) is (step s y))

-- the term of a plain tree
abbrev mutual
  pub term_of_plain : Tm → Term
  term_of_plain (t_var i) = T.Var i
  term_of_plain (t_int n) = T.Int n
  term_of_plain (t_bool b) = T.Bool b
  term_of_plain t_unit = T.Unit
  term_of_plain (t_prim o S ts at) = T.Prim o (sort_of_plain S) (terms_of_plain ts) (record { at = at })
  term_of_plain (t_if c t u) = T.If (term_of_plain c) (term_of_plain t) (term_of_plain u)
  term_of_plain (t_app k S ts) = T.App k (sort_of_plain S) (terms_of_plain ts)
  term_of_plain (t_let x t u) = T.Let x (term_of_plain t) (term_of_plain u)

  pub terms_of_plain : Tms → List Term
  terms_of_plain t_end = []
  terms_of_plain (t_more t ts) = term_of_plain t ∷ terms_of_plain ts

abbrev Back : Term → Type 0
Back t = term_of_plain (plain_term t) ≡ t

rows-back : (ts : List Term) → All Back ts → terms_of_plain (plain_terms ts) ≡ ts
rows-back [] h = refl
rows-back (t ∷ ts) h = ap₂ ◌∷◌ (All-head Back t ts h) (rows-back ts (All-tail Back t ts h))

prim_of : Op → Pos → Sort → List Term → Term
prim_of o p S ts = T.Prim o S ts p

pub term-back : (t : Term) → term_of_plain (plain_term t) ≡ t
unfolding prim_of
term-back = term_by_parts Back (record {
  at_var = λ i. ap term_of_plain (plain-term-Var i);
  at_int = λ n. ap term_of_plain (plain-term-Int n);
  at_bool = λ b. ap term_of_plain (plain-term-Bool b);
  at_unit = ap term_of_plain plain-term-Unit;
  at_prim = λ o S ts p h. ap term_of_plain (plain-term-Prim o S ts p) ∙ ap₂ (prim_of o p) (sort-back S) (rows-back ts h);
  at_if = λ c t u p q r. ap term_of_plain (plain-term-If c t u) ∙ ap (λ x. T.If x (term_of_plain (plain_term t)) (term_of_plain (plain_term u))) p ∙ ap₂ (T.If c) q r;
  at_app = λ k S ts h. ap term_of_plain (plain-term-App k S ts) ∙ ap₂ (T.App k) (sort-back S) (rows-back ts h);
  at_let = λ x t u p q. ap term_of_plain (plain-term-Let x t u) ∙ ap₂ (T.Let x) p q;
})

pub terms-back : (ts : List Term) → terms_of_plain (plain_terms ts) ≡ ts
terms-back [] = refl
terms-back (t ∷ ts) = ap₂ ◌∷◌ (term-back t) (terms-back ts)

-- two terms with one plain tree are equal
pub term-injective : (t u : Term) → plain_term t ≡ plain_term u → t ≡ u
term-injective t u e = sym (term-back t) ∙ ap term_of_plain e ∙ term-back u
