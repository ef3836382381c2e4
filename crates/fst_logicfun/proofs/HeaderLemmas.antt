-- The ends of what goes through a definition's text, from the answers for its parts.
use Rattle.std.proofs.Common.{◌≡◌, ℕ, List, [], ◌∷◌, ◌++◌, map, Option, None, refl, ap, ap₂, ◌∙◌}
use Rattle.fst_base.specs.Sorts.{Srt}
use Rattle.fst_base.specs.declared.sort.Sort.{Sort}
use Rattle.fst_terms.specs.Formulas.{sort_of}
use Rattle.fst_terms.specs.Terms.{Tm, t_unit, plain_term}
use Rattle.fst_program.specs.Paths.{over, dm_at, text_sort}
use Rattle.fst_program.specs.Plain.{plain_program}
use Rattle.fst_program.specs.Texts.{Cm, Dm, Prog, c_return, return_text}
use Rattle.fst_logicfun.specs.Ends.{End, dm_ends, ends}
use Rattle.fst_scopes.specs.Scopes.{terms_for, sorts_in}
use Rattle.fst_logicfun.specs.Turns.{Heads, ends_at, header_ends, next_sort, rest_ends, run_of, second_run, value_sort}
use Rattle.fst_logicfun.specs.declared.ways.At.{At}
use Rattle.fst_logicfun.specs.declared.ways.Header.{Header}
use Rattle.fst_logicfun.specs.declared.ways.Rest.{Rest}

over-same : {A B : Type 0} (xs : List A) (f g : A → List B) → ((x : A) → f x ≡ g x) → over xs f ≡ over xs g
over-same [] f g e = refl
over-same (x ∷ xs) f g e = ap₂ ◌++◌ (e x) (over-same xs f g e)

module _ (at : At) where
  abbrev P : Prog
  P = plain_program at.program.now

  abbrev Ss : List Srt
  Ss = sorts_in at.sorts.now

  abbrev us : List Tm
  us = terms_for at.scope.now

  abbrev hs : List Tm
  hs = terms_for at.hyps.now

  pub value-sort-by : (c : Cm) (sorts slice : List Sort) (S : Srt) → sorts_in sorts ≡ map (sort_of Ss) us → slice ≡ sorts → S ≡ text_sort P (sorts_in slice) c → S ≡ value_sort c at
  value-sort-by c sorts slice S e s h = h ∙ ap (λ Ts. text_sort P (sorts_in Ts) c) s ∙ ap (λ Ts. text_sort P Ts c) e

  pub next-sort-by : (A : Srt) (c : Cm) (outer front sorts slice : List Sort) (S : Srt) → sorts_in outer ≡ map (sort_of Ss) us → front ≡ outer → sorts_in sorts ≡ A ∷ sorts_in front → slice ≡ sorts
      → S ≡ text_sort P (sorts_in slice) c → S ≡ next_sort A c at
  next-sort-by A c outer front sorts slice S e f n s h =
      h ∙ ap (λ Ts. text_sort P (sorts_in Ts) c) s ∙ ap (λ Ts. text_sort P Ts c) (n ∙ ap (λ Ts. A ∷ sorts_in Ts) f ∙ ap (λ Ts. A ∷ Ts) e)

  -- by what a header holds
  pub header-by : (h : Header) (first second : Option Cm) (xs : List Tm) (A B : Srt) (D d : Dm) (vs gs : List Tm) → Heads h first second xs A B → D ≡ d
      → header_ends P Ss h D vs gs ≡ dm_ends P Ss (run_of P Ss first xs) (λ v. run_of P Ss second (v ∷ xs)) (dm_at A B d) vs gs
  header-by h first second xs A B D d vs gs is e =
      ap₂ (λ r d. dm_ends P Ss r (second_run P Ss h) d vs gs) (ap₂ (run_of P Ss) is.first_is is.scope_is) (ap₂ (λ A B. dm_at A B D) is.a_is is.b_is ∙ ap (dm_at A B) e)
      ∙ ap (λ r. dm_ends P Ss (run_of P Ss first xs) r (dm_at A B d) vs gs) (ap₂ (λ o xs v. run_of P Ss o (v ∷ xs)) is.second_is is.scope_is)

  -- definition text from each end of a part, where it runs nothing
  pub return-by : (E : ℕ) (c : Cm) (h : Header) (D : Dm) (r : Rest) (first : List End) → Heads h None None [] (value_sort c at) (value_sort c at) → D ≡ return_text P E
      → ((e : End) → rest_ends P Ss r e ≡ header_ends P Ss h D (plain_term at.input.now ∷ e.result ∷ []) e.hyps) → first ≡ ends P Ss c us t_unit hs
      → over first (rest_ends P Ss r) ≡ ends_at (c_return E c) at
  return-by E c h D r first is e f g =
      ap (λ es. over es (rest_ends P Ss r)) g
      ∙ over-same (ends P Ss c us t_unit hs) (rest_ends P Ss r) _
      (λ x. f x ∙ header-by h None None [] (value_sort c at) (value_sort c at) D (return_text P E) (plain_term at.input.now ∷ x.result ∷ []) x.hyps is e)
