use Rattle.std.proofs.Common.{map, arith}
use Rattle.std.proofs.lemmas.List.{length-map}
use Rattle.fst_terms.specs.Terms.{plain_term}
use Rattle.fst_flats.proofs.KeyLemmas.{index-place}
use Rattle.fst_flats.proofs.renaming.name_index.Goals as goal

pub returns-then-place-len : goal.returns-then-place-len
returns-then-place-len c =
    let long = length-map c.args.names.now plain_term in
    let place = index-place (plain_term c.args.term.now) (map plain_term c.args.names.now) in
    omega (arith, long, place, c.place-place.ensures, c.len-then-place-len.ensures)

pub returns-else-place-len : goal.returns-else-place-len
returns-else-place-len c =
    let long = length-map c.args.names.now plain_term in
    let place = index-place (plain_term c.args.term.now) (map plain_term c.args.names.now) in
    omega (arith, long, place, c.place-place.ensures, c.len.ensures, c.if-place-len.false)
