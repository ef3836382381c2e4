-- The constructors of made terms, and the hypotheses of ways, from the answers for their parts.
use Rattle.std.proofs.Common.{◌≡◌, ℕ, List, [], ◌∷◌, ◌++◌, map, Result, IfOk, refl, sym, ap, ap₂, ◌∙◌}
use Rattle.std.proofs.lemmas.Result.{IfOk-weaker}
use Rattle.fst_base.specs.Sorts.{Srt}
use Rattle.fst_base.specs.declared.memory.OutOfMemory.{OutOfMemory}
use Rattle.fst_base.specs.declared.op.Op.{Op}
use Rattle.fst_base.specs.declared.op.Op.TheVariants as op
use Rattle.fst_base.specs.declared.place.Pos.{Pos}
use Rattle.fst_base.specs.declared.sort.Sort.{Sort}
use Rattle.fst_terms.specs.Terms.{Tm, Tms, t_prim, row, plain_term, plain_terms}
use Rattle.fst_terms.specs.Formulas.{equation}
use Rattle.fst_terms.specs.declared.term.Term.{Term}
use Rattle.fst_terms.specs.declared.term.Term.TheVariants as T
use Rattle.fst_terms.proofs.PlainLemmas.{plain-term-Prim}
use Rattle.fst_terms.proofs.FirstsLemmas.{listed-row}
use Rattle.fst_program.specs.declared.comp.Con.{Con}
use Rattle.fst_program.specs.declared.comp.Con.TheVariants as con
use Rattle.fst_program.specs.Paths.{con_of, con_args, op_of, selectors}
use Rattle.fst_logicfun.specs.Ends.{entered}
use Rattle.fst_logicfun.specs.Makes.{Makes}
use Rattle.fst_scopes.specs.Scopes.{terms_for}
use Rattle.fst_logicfun.specs.Ways.{made_by}
use Rattle.fst_logicfun.proofs.ClearLemmas.{scope-push}

pub con-of-prim : (o : Op) (S : Srt) (ts : Tms) (at : ℕ) → con_of (t_prim o S ts at) ≡ made_by o
con-of-prim op.Nothing S ts at = refl
con-of-prim op.Just S ts at = refl
con-of-prim op.Nil S ts at = refl
con-of-prim op.Cons S ts at = refl
con-of-prim op.Inl S ts at = refl
con-of-prim op.Inr S ts at = refl
con-of-prim op.Pair S ts at = refl
con-of-prim _ S ts at = refl

pub ruleset made_variants = (con-of-prim)

pub con-args-Prim : (o : Op) (S : Sort) (ts us : List Term) (p : Pos) (t : Term) → t ≡ T.Prim o S ts p → us ≡ ts → map plain_term us ≡ con_args (plain_term t)
con-args-Prim o S ts us p t is f = ap (map plain_term) f ∙ sym (listed-row (map plain_term ts)) ∙ sym (ap con_args (ap plain_term is ∙ plain-term-Prim o S ts p))

-- ---- hypotheses

pub supposed-by : (hyps hs made : List Term) (x : Term) (e : Tm) → made ≡ hyps ++ x ∷ [] → hyps ≡ hs → plain_term x ≡ e → terms_for made ≡ e ∷ terms_for hs
supposed-by hyps hs made x e m h f = ap terms_for m ∙ scope-push hyps x ∙ ap₂ ◌∷◌ f (ap terms_for h)

pub entered-other : (c : Con) (S : Srt) (u : Tm) (hs : List Tm) → (c ≡ con.True → ⊥) → (c ≡ con.False → ⊥) → (c ≡ con.Pair → ⊥) → entered c S u hs ≡ equation u (t_prim (op_of c) S (row (selectors c S u)) 0) ∷ hs
entered-other con.True S u hs n m p = absurd (n refl)
entered-other con.False S u hs n m p = absurd (m refl)
entered-other con.Pair S u hs n m p = absurd (p refl)
entered-other c S u hs n m p = refl

pub makes-prim : (r : Result Term OutOfMemory) (o o' : Op) (S : Srt) (ts : List Term) (ss : List Tm) → o ≡ o' → map plain_term ts ≡ ss → IfOk r (λ made. plain_term made ≡ t_prim o S (plain_terms ts) 0) → Makes r (t_prim o' S (row ss) 0)
unfolding Makes
makes-prim r o o' S ts ss e f h = IfOk-weaker r _ _ (λ made p. p ∙ ap₂ (λ o ts. t_prim o S (row ts) 0) e f) h
