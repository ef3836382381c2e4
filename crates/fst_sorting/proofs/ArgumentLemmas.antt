-- What the arguments of a call break, one after the other.
use Rattle.std.proofs.Common.{◌≡◌, ℕ, ◌+◌, ◌<◌, ◌≤◌, Bool, ◌||◌, List, [], ◌∷◌, ◌++◌, map, length, take, get_or, slice_get, Option, Some, None, refl, sym, ap, ◌∙◌, append_assoc, arith}
use Rattle.std.proofs.lemmas.List.{append-nil, length-take-le, take_more, length-map, get_or-map}
use Rattle.std.proofs.lemmas.Option.{slice_get_read, slice_get_past}
use Rattle.fst_trees.specs.declared.form.Form.{Form}
use Rattle.fst_names.specs.declared.reference.Ref.{Ref}
use Rattle.fst_names.specs.declared.broken.Broken.{Broken}
use Rattle.fst_names.specs.Broken.{first_broken, least}
use Rattle.fst_names.specs.Trees.{f_end, plain_form, plain_forms}
use Rattle.fst_names.proofs.BrokenLemmas.{first-append}
use Rattle.fst_effects.specs.declared.scope.Entry as E
use Rattle.fst_effects.specs.Known.{Ctx, Entry, Known}
use Rattle.fst_effects.specs.Scopes.{entry_of}
use Rattle.fst_effects.specs.TermSorts.{broken}
use Rattle.fst_effects.specs.TextSorts.{broken_args}
use Rattle.fst_effects.specs.TermChecks.{node_breaks}
use Rattle.fst_sorting.specs.Bodies.{arg_breaks, args_break}

-- ---- the parameter of an argument

pub param-there : (es : List E.Entry) (i : ℕ) (e : E.Entry) → e ≡ get_or es i e → i < length es → slice_get (map entry_of es) i ≡ Some (entry_of e)
param-there es i e q h = slice_get_read (map entry_of es) (length es) i (entry_of e) (sym (length-map es entry_of)) h (ap entry_of q ∙ sym (get_or-map entry_of es i e (entry_of e) h))

pub param-absent : (es : List E.Entry) (i : ℕ) → length es ≤ i → slice_get (map entry_of es) i ≡ None
param-absent es i h = let e = length-map es entry_of in slice_get_past (map entry_of es) i (omega arith)

pub ruleset arguments = (param-there, param-absent)

-- ---- lists

module _ (K : Known) (gh : Bool) (xs : Ctx) where
  abbrev arg_broken : Form Ref → Option Entry → List Broken
  arg_broken f None = broken K.applied gh xs (plain_form f) None
  arg_broken f (Some a) = broken K.applied (gh || a.hidden) xs (plain_form f) (Some a.sort)

  nothing-left : (ps : List Entry) → broken_args K gh xs f_end ps ≡ []
  nothing-left [] = refl
  nothing-left (a ∷ ps) = refl

  more : (fs : List (Form Ref)) (f : Form Ref) (ps : List Entry) → broken_args K gh xs (plain_forms (fs ++ f ∷ [])) ps ≡ broken_args K gh xs (plain_forms fs) ps ++ arg_broken f (slice_get ps (length fs))
  more [] f [] = append-nil (broken K.applied gh xs (plain_form f) None)
  more [] f (a ∷ ps) = ap (λ bs. broken K.applied (gh || a.hidden) xs (plain_form f) (Some a.sort) ++ bs) (nothing-left ps) ∙ append-nil (broken K.applied (gh || a.hidden) xs (plain_form f) (Some a.sort))
  more (g ∷ fs) f [] = ap (λ bs. broken K.applied gh xs (plain_form g) None ++ bs) (more fs f []) ∙ sym (append_assoc (broken K.applied gh xs (plain_form g) None) (broken_args K gh xs (plain_forms fs) []) (broken K.applied gh xs (plain_form f) None))
  more (g ∷ fs) f (a ∷ ps) =
      ap (λ bs. broken K.applied (gh || a.hidden) xs (plain_form g) (Some a.sort) ++ bs) (more fs f ps)
      ∙ sym (append_assoc (broken K.applied (gh || a.hidden) xs (plain_form g) (Some a.sort)) (broken_args K gh xs (plain_forms fs) ps) (arg_broken f (slice_get ps (length fs))))

  one : (f : Form Ref) (o : Option Entry) → first_broken (arg_broken f o) ≡ arg_breaks K gh xs f o
  unfolding node_breaks
  one f None = refl
  one f (Some a) = refl

  pub args-none : (ps : List Entry) → args_break K gh xs [] ps ≡ None
  unfolding args_break
  args-none ps = ap first_broken (nothing-left ps)

  -- the step of a loop over them
  pub args-step : (fs : List (Form Ref)) (i : ℕ) (f : Form Ref) (ps : List Entry) → f ≡ get_or fs i f → i < length fs
      → args_break K gh xs (take (i + 1) fs) ps ≡ least (args_break K gh xs (take i fs) ps) (arg_breaks K gh xs f (slice_get ps i))
  unfolding args_break
  args-step fs i f ps e h =
      ap (λ gs. first_broken (broken_args K gh xs (plain_forms gs) ps)) (take_more fs i f h ∙ ap (λ g. take i fs ++ g ∷ []) (sym e))
      ∙ ap first_broken (more (take i fs) f ps)
      ∙ first-append (broken_args K gh xs (plain_forms (take i fs)) ps) (arg_broken f (slice_get ps (length (take i fs))))
      ∙ ap (least (args_break K gh xs (take i fs) ps)) (one f (slice_get ps (length (take i fs))) ∙ ap (λ n. arg_breaks K gh xs f (slice_get ps n)) (length-take-le i fs (omega (arith, h))))

pub ruleset lists = (args-none, args-step)
