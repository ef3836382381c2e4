use Rattle.std.proofs.Common.{◌≡◌, ◌-◌, Some, sym, ap, ◌∙◌, arith, get_or}
use Rattle.std.proofs.lemmas.List.{length-map}
use Rattle.fst_names.specs.Names.{number_of, fun_from}
use Rattle.fst_names.specs.Heads.{head_in}
use Rattle.fst_names.proofs.NumberLemmas.{number-within, fun-found, fun-absent}
use Rattle.fst_names.proofs.globals.Globals.fun.Goals as goal

pub index-requires : goal.index-requires
index-requires c =
    let w = number-within 0 c.in-Some.number c.args.name.now _ (ap (number_of c.args.name.now) (sym c.self.invariant) ∙ sym c.find.ensures ∙ c.in-Some.is) in
    omega (arith, w, length-map c.self.inside.heads.items (λ h. h.name.now), c.self.inside.heads.ok.0)

pub returns-in-Some : goal.returns-in-Some
returns-in-Some c =
    let d = c.index.result.now in
    let f = fun-found c.self.inside.heads.items 0 c.in-Some.number c.args.name.now d (ap (number_of c.args.name.now) (sym c.self.invariant) ∙ sym c.find.ensures ∙ c.in-Some.is) in
    let same : c.in-Some.number ≡ c.in-Some.number - 0 = omega arith in
    ap (λ h. Some (c.in-Some.number, head_in h)) c.index.ensures
    ∙ ap (λ n. Some (c.in-Some.number, head_in (get_or c.self.inside.heads.items n d))) same ∙ sym f.is ∙ ap (λ g. fun_from 0 c.args.name.now g.funs) c.self.view_is

pub returns-in-None : goal.returns-in-None
returns-in-None c =
    sym (fun-absent c.self.inside.heads.items 0 c.args.name.now (ap (number_of c.args.name.now) (sym c.self.invariant) ∙ sym c.find.ensures ∙ c.in-None.is)) ∙ ap (λ g. fun_from 0 c.args.name.now g.funs) c.self.view_is
