use Rattle.std.proofs.lemmas.Result.{on_ok_weaker}
use Rattle.fst_terms.specs.Terms.{plain_term}
use Rattle.fst_flats.proofs.BuildingLemmas.{atom-new, atom-there, atom-turned}
use Rattle.fst_flats.proofs.atoms.add_atom.Goals as goal

pub returns-then-contains : goal.returns-then-contains
returns-then-contains c = atom-there (plain_term c.args.atom.now) _ c.contains.result c.contains.ensures c.if-contains.true

pub returns-then-branch : goal.returns-then-branch
returns-then-branch c =
    atom-turned (plain_term c.args.atom.now) _ c.contains.result c.in_ok-is_turned_among.field-0 c.contains.ensures c.if-contains.false c.in_ok-is_turned_among.ensures c.if-branch.true

pub returns : goal.returns
returns c =
    on_ok_weaker c.push.result
    (atom-new c.args.atom.now c.args.atoms.now _ c.contains.result c.in_ok-is_turned_among.field-0 c.contains.ensures c.if-contains.false c.in_ok-is_turned_among.ensures c.if-branch.false)
    c.push.ensures
