use Rattle.std.proofs.Common.{◌≡◌, Some, get_or, refl, sym, subst, ◌∙◌}
use Rattle.std.proofs.lemmas.Option.{slice_get_read}
use Rattle.fst_program.specs.Plain.{plain_fun, plain_program}
use Rattle.fst_program.specs.Texts.{fun_at}
use Rattle.fst_top.proofs.GoalLemmas.{fun-goals-simple, fun-plain, fun-simple}
use Rattle.fst_top.proofs.goals.function_goals.Goals as goal

pub goals-requires : goal.goals-requires
goals-requires c =
    let f = c.index-as_slice-number.result in
    let there : fun_at (plain_program c.args.program.now) c.args.number ≡ Some (plain_fun f) =
    fun-plain c.args.program.now.funs c.args.number f (slice_get_read _ _ _ _ refl c.requires.within (subst (λ fs. f ≡ get_or fs c.args.number f) c.as_slice.ensures c.index-as_slice-number.is)) in
    fun-simple (plain_fun f) (c.requires.built.funs c.args.number (plain_fun f) there)

pub returns : goal.returns
returns c =
    let f = c.index-as_slice-number.result in
    let there : fun_at (plain_program c.args.program.now) c.args.number ≡ Some (plain_fun f) =
    fun-plain c.args.program.now.funs c.args.number f (slice_get_read _ _ _ _ refl c.requires.within (subst (λ fs. f ≡ get_or fs c.args.number f) c.as_slice.ensures c.index-as_slice-number.is)) in
    c.in_ok-goals.ensures ∙ sym (fun-goals-simple (plain_program c.args.program.now) c.args.number (plain_fun f) there (c.requires.built.funs c.args.number (plain_fun f) there))
