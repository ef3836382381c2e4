-- The clauses of a function, with terms of their sorts put in, are formulas.
use Rattle.std.proofs.Common.{ℕ, Bool, List, [], ◌∷◌, ◌++◌, map, reverse, Option, Some, None, refl, sym, subst}
use Rattle.std.specs.Prelude.{⊤}
use Rattle.fst_base.specs.declared.op.Op.TheVariants as op
use Rattle.fst_base.specs.Sorts.{Srt, s_bool, s_int}
use Rattle.fst_terms.specs.Terms.{Tm}
use Rattle.fst_terms.specs.Formulas.{joined, at_most, less, nought, descends, decrease, put}
use Rattle.fst_terms.specs.Sorted.{TmSorted}
use Rattle.fst_program.specs.declared.effect.Effect.{Effect}
use Rattle.fst_program.specs.declared.effect.Effect.TheVariants as effect
use Rattle.fst_program.specs.Texts.{Prm, EffDef, Fn, Prog, if_there, effect_at}
use Rattle.fst_program.specs.Paths.{Way, clause_terms, given, refinements, demands_of, measures_at}
use Rattle.fst_program.specs.Sorted.{Applies, place_of, input_sorts, param_sorts, body_sorts, GivenSorted, RefinesSorted, MeasuresSorted, FunSorted}
use Rattle.fst_program.specs.Groups.{TmEarlier, GivenEarlier, RefinesEarlier, EachEarlier}
use Rattle.fst_program.specs.FunctionFacts.{with_input}
use Rattle.fst_program.proofs.SortedTerms.{AllSorted, append-sorted, put-sorted}
use Rattle.fst_program.proofs.Ways.{way_sorts}
use Rattle.fst_goodness.proofs.UnfoldedTrue.{turned-sorted, none-more}
use Rattle.fst_goodness.proofs.Formed.{Forms, forms-both, prim-of, equation-of}
use Rattle.fst_goodness.proofs.FormedText.{InputFormed}

module _ (A : (k : ℕ) → List Srt → (S : Srt) → Type 0) where
  pub joined-form : (Ss : List Srt) (phis : List Tm) → Forms A Ss phis → TmSorted A Ss (joined phis) s_bool
  joined-form Ss [] h = refl
  joined-form Ss (p ∷ []) h = h.0
  joined-form Ss (p ∷ q ∷ ps) h = (h.0, joined-form Ss (q ∷ ps) h.1, refl)

  -- ---- measures

  abbrev pub Ints : (Ss : List Srt) → List Tm → Type 0
  Ints Ss [] = ⊤
  Ints Ss (t ∷ ts) = TmSorted A Ss t s_int × Ints Ss ts

  at-most-form : (Ss : List Srt) (t u : Tm) → TmSorted A Ss t s_int → TmSorted A Ss u s_int → TmSorted A Ss (at_most t u) s_bool
  at-most-form Ss t u h k = prim-of A Ss op.Le s_bool (t ∷ u ∷ []) (s_int ∷ s_int ∷ []) (record { first = s_int; second = s_int; args = refl; result = refl }) (h, (k, tt))

  less-form : (Ss : List Srt) (t u : Tm) → TmSorted A Ss t s_int → TmSorted A Ss u s_int → TmSorted A Ss (less t u) s_bool
  less-form Ss t u h k = prim-of A Ss op.Lt s_bool (t ∷ u ∷ []) (s_int ∷ s_int ∷ []) (record { first = s_int; second = s_int; args = refl; result = refl }) (h, (k, tt))

  floor-forms : (Ss : List Srt) (ns : List Tm) → Ints Ss ns → Forms A Ss (map (at_most nought) ns)
  floor-forms Ss [] h = tt
  floor-forms Ss (n ∷ ns) h = (at-most-form Ss nought n refl h.0, floor-forms Ss ns h.1)

  descends-form : (Ss : List Srt) (ns os : List Tm) → Ints Ss ns → Ints Ss os → TmSorted A Ss (descends ns os) s_bool
  descends-form Ss [] os h k = refl
  descends-form Ss (n ∷ []) [] h k = refl
  descends-form Ss (n ∷ []) (o ∷ os) h k = less-form Ss n o h.0 k.0
  descends-form Ss (n ∷ m ∷ ns) [] h k = refl
  descends-form Ss (n ∷ m ∷ ns) (o ∷ os) h k = (less-form Ss n o h.0 k.0, refl, (equation-of A Ss s_int n o h.0 k.0, descends-form Ss (m ∷ ns) os h.1 k.1, refl))

  pub decrease-form : (Ss : List Srt) (ns os : List Tm) → Ints Ss ns → Ints Ss os → TmSorted A Ss (decrease ns os) s_bool
  decrease-form Ss ns os h k = (joined-form Ss (map (at_most nought) ns) (floor-forms Ss ns h), descends-form Ss ns os h k, refl)

module _ (fixed : Bool) (P : Prog) (m : ℕ) (A : (k : ℕ) → List Srt → (S : Srt) → Type 0) (speaks : (Ss : List Srt) (phi : Tm) (S : Srt) → TmSorted (Applies P) Ss phi S → TmEarlier P m phi → TmSorted A Ss phi S) where
  pub given-forms : (Ss Us : List Srt) (phi : Option Tm) (us : List Tm) → GivenSorted P Us phi → GivenEarlier P m phi → AllSorted A Ss us Us → Forms A Ss (given phi us)
  given-forms Ss Us None us h k t = tt
  given-forms Ss Us (Some phi) us h k t = (put-sorted A Ss us Us phi s_bool t (speaks Us phi s_bool h k), tt)

  refinement-forms : (Ss : List Srt) (ps : List Prm) (ts us : List Tm) (Us : List Srt) → RefinesSorted P Us ps → RefinesEarlier P m ps → AllSorted A Ss ts (map (λ (p : Prm). p.sort) ps) → AllSorted A Ss us Us → Forms A Ss (refinements ps ts us)
  refinement-forms Ss [] ts us Us h k a u = tt
  refinement-forms Ss (p ∷ ps) [] us Us h k a u = tt
  refinement-forms Ss (p ∷ ps) (t ∷ ts) us Us h k a u =
      forms-both A Ss (given p.refine (t ∷ us)) (refinements ps ts (t ∷ us)) (given-forms Ss (p.sort ∷ Us) p.refine (t ∷ us) h.0 k.0 (a.0, u)) (refinement-forms Ss ps ts (t ∷ us) (p.sort ∷ Us) h.1 k.1 a.1 (a.0, u))

  pub clause-sorted : (w : Way) (x : Effect) (ts : List Tm) (s : Tm) (Ts : List Srt) → AllSorted A (way_sorts w) ts Ts → InputFormed fixed P A w (place_of x) s → AllSorted A (way_sorts w) (clause_terms x ts s) (input_sorts P x ++ reverse Ts)
  clause-sorted w effect.Pure ts s Ts h i = turned-sorted A (way_sorts w) ts [] Ts [] h tt
  clause-sorted w effect.Ghost ts s Ts h i = turned-sorted A (way_sorts w) ts [] Ts [] h tt
  clause-sorted w effect.Div ts s Ts h i = turned-sorted A (way_sorts w) ts [] Ts [] h tt
  clause-sorted w (effect.User E) ts s Ts h i = go (effect_at P E) i
    where
      go : (o : Option EffDef) → if_there o (λ d. TmSorted A (way_sorts w) s d.input) ⊥ → AllSorted A (way_sorts w) (s ∷ reverse ts) (if_there o (λ d. d.input ∷ []) [] ++ reverse Ts)
      go None i = absurd i
      go (Some d) i = (i, turned-sorted A (way_sorts w) ts [] Ts [] h tt)

  pub with-formed : (w : Way) (x : Effect) (ts : List Tm) (s : Tm) (Ts : List Srt) → AllSorted A (way_sorts w) ts Ts → InputFormed fixed P A w (place_of x) s → AllSorted A (way_sorts w) (with_input x ts s) (Ts ++ input_sorts P x)
  with-formed w effect.Pure ts s Ts h i = subst (λ Us. AllSorted A (way_sorts w) ts Us) (sym (none-more Ts)) h
  with-formed w effect.Ghost ts s Ts h i = subst (λ Us. AllSorted A (way_sorts w) ts Us) (sym (none-more Ts)) h
  with-formed w effect.Div ts s Ts h i = subst (λ Us. AllSorted A (way_sorts w) ts Us) (sym (none-more Ts)) h
  with-formed w (effect.User E) ts s Ts h i = go (effect_at P E) i
    where
      go : (o : Option EffDef) → if_there o (λ d. TmSorted A (way_sorts w) s d.input) ⊥ → AllSorted A (way_sorts w) (ts ++ s ∷ []) (Ts ++ if_there o (λ d. d.input ∷ []) [])
      go None i = absurd i
      go (Some d) i = append-sorted A (way_sorts w) ts (s ∷ []) Ts (d.input ∷ []) h (i, tt)

  pub demand-forms : (w : Way) (f : Fn) (ts : List Tm) (s : Tm) → FunSorted P f → RefinesEarlier P m f.params → GivenEarlier P m f.needs → AllSorted A (way_sorts w) ts (param_sorts P f) → InputFormed fixed P A w (place_of f.effect) s → Forms A (way_sorts w) (demands_of f ts s)
  demand-forms w f ts s h r k a i =
      forms-both A (way_sorts w) (refinements f.params ts []) (given f.needs (clause_terms f.effect ts s))
      (refinement-forms (way_sorts w) f.params ts [] [] h.refines r a tt)
      (given-forms (way_sorts w) (input_sorts P f.effect ++ body_sorts P f) f.needs (clause_terms f.effect ts s) h.needs k (clause-sorted w f.effect ts s (param_sorts P f) a i))

  pub measure-ints : (w : Way) (f : Fn) (ts : List Tm) → FunSorted P f → EachEarlier P m f.measures → AllSorted A (way_sorts w) ts (param_sorts P f) → Ints A (way_sorts w) (measures_at f ts)
  measure-ints w f ts h k a = go f.measures h.measures k
    where
      go : (ms : List Tm) → MeasuresSorted P (body_sorts P f) ms → EachEarlier P m ms → Ints A (way_sorts w) (map (put (reverse ts)) ms)
      go [] h k = tt
      go (n ∷ ms) h k = (put-sorted A (way_sorts w) (reverse ts) (body_sorts P f) n s_int (turned-sorted A (way_sorts w) ts [] (param_sorts P f) [] a tt) (speaks (body_sorts P f) n s_int h.0 k.0), go ms h.1 k.1)
