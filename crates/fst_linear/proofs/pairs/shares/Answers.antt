use Rattle.std.proofs.Common.{rules, sym, ap, ◌∙◌, FitsSigned, not}
use Rattle.std.proofs.lemmas.Int.{to_z-of_z}
use mir.Syntax.{w128}
use Rattle.fst_base.specs.Primitives.{in128}
use Rattle.fst_linear.specs.Derivations.{at}
use Rattle.fst_linear.proofs.PairLemmas.{shares-are, first-wide, second-wide, share-of}
use Rattle.fst_linear.proofs.pairs.shares.Goals as goal

pub returns-in-Some-share : goal.returns-in-Some-share
returns-in-Some-share c =
    let f : FitsSigned w128 c.in-Some.p = search rules in
    let g : FitsSigned w128 c.in-Some-share.q = search rules in
    let u = c.args.unknown in
    let a = at c.args.given.now c.args.made.now c.args.i in
    let b = at c.args.given.now c.args.made.now c.args.j in
    simp to_z-of_z (shares-are u a b c.in-Some.p c.in-Some-share.q c.requires.opposite
    (c.in-Some.ensures ∙ share-of u _ _ a b c.row_at-first.ensures c.row_at-second.ensures) (c.in-Some-share.ensures ∙ share-of u _ _ b a c.row_at-second.ensures c.row_at-first.ensures))

pub returns-in-None-share : goal.returns-in-None-share
returns-in-None-share c =
    let u = c.args.unknown in
    let a = at c.args.given.now c.args.made.now c.args.i in
    let b = at c.args.given.now c.args.made.now c.args.j in
    second-wide u a b c.requires.opposite (sym (ap (λ z. not (in128 z)) (share-of u _ _ b a c.row_at-second.ensures c.row_at-first.ensures)) ∙ c.in-None-share.ensures)

pub returns-in-None : goal.returns-in-None
returns-in-None c =
    let u = c.args.unknown in
    let a = at c.args.given.now c.args.made.now c.args.i in
    let b = at c.args.given.now c.args.made.now c.args.j in
    first-wide u a b c.requires.opposite (sym (ap (λ z. not (in128 z)) (share-of u _ _ a b c.row_at-first.ensures c.row_at-second.ensures)) ∙ c.in-None.ensures)
