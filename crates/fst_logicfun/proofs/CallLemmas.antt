-- The ends of a call, from the answers for its parts.
use Rattle.std.proofs.Common.{◌≡◌, ℕ, List, [], ◌∷◌, map, Some, sym, ap, ap₂, ◌∙◌}
use Rattle.fst_base.specs.Sorts.{Srt, plain_sort}
use Rattle.fst_terms.specs.Formulas.{put, puts}
use Rattle.fst_terms.specs.Terms.{Tm, t_app, row, listed, plain_term, plain_terms}
use Rattle.fst_terms.specs.declared.term.Term.{Term}
use Rattle.fst_terms.proofs.FirstsLemmas.{listed-row}
use Rattle.fst_program.specs.FunctionFacts.{with_input}
use Rattle.fst_program.specs.Plain.{plain_fun, plain_program}
use Rattle.fst_program.specs.Texts.{Fn, Prog, c_call, if_there, fun_at, result_sort}
use Rattle.fst_program.specs.declared.fun.Fun.{Fun}
use Rattle.fst_logicfun.specs.Ends.{End, at_end}
use Rattle.fst_scopes.specs.Scopes.{terms_for}
use Rattle.fst_logicfun.specs.Turns.{ends_at}
use Rattle.fst_logicfun.specs.Ways.{plain_end}
use Rattle.fst_logicfun.specs.declared.ways.At.{At}
use Rattle.fst_logicfun.specs.declared.ways.End as walked
use Rattle.fst_logicfun.proofs.PutLemmas.{put-row}

-- the one end of a call of a function, on these arguments and this input
abbrev call_end : Prog → (j : ℕ) → (hyps ts : List Tm) → (input : Tm) → Fn → List End
call_end P j hs ts s g = at_end hs (t_app j (result_sort P g.effect g.sort) (row (with_input g.effect ts s)))

module _ (at : At) (j : ℕ) (args : List Term) where
  abbrev P : Prog
  P = plain_program at.program.now

  -- the arguments with the terms of the scope for their variables
  abbrev ts : List Tm
  ts = listed (puts (terms_for at.scope.now) (plain_terms args))

  pub call-some : (f : Fun) (own slice all hyps : List Term) (result : Term) (made : List walked.End) → Some (plain_fun f) ≡ fun_at P j
      → map plain_term own ≡ map (λ t. put (terms_for at.scope.now) (plain_term t)) args → slice ≡ own
      → map plain_term all ≡ with_input f.effect (map plain_term slice) (plain_term at.input.now)
      → plain_term result ≡ t_app j (result_sort P f.effect (plain_sort f.sort)) (plain_terms all)
      → hyps ≡ at.hyps.now → made ≡ record { hyps = hyps; result = result } ∷ [] → map plain_end made ≡ ends_at (c_call j (plain_terms args) 0) at
  call-some f own slice all hyps result made found o sl i r h m =
      let us : List Tm = terms_for at.scope.now in
      let own' : map plain_term slice ≡ ts = ap (map plain_term) sl ∙ o ∙ sym (listed-row (map (λ t. put us (plain_term t)) args)) ∙ ap listed (put-row us args) in
      let S : Srt = result_sort P f.effect (plain_sort f.sort) in
      ap (map plain_end) m ∙ ap₂ (λ hs t. at_end (terms_for hs) t) h (r ∙ ap (λ vs. t_app j S (row vs)) (i ∙ ap (λ vs. with_input f.effect vs (plain_term at.input.now)) own'))
      ∙ ap (λ g. if_there g (call_end P j (terms_for at.hyps.now) ts (plain_term at.input.now)) []) found
