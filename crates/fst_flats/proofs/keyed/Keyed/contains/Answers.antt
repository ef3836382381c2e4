use Rattle.std.proofs.Common.{map, nat_lt, sym, ap₂, ◌∙◌}
use Rattle.std.proofs.lemmas.List.{length-map}
use Rattle.fst_terms.specs.Terms.{plain_term}
use Rattle.fst_flats.proofs.KeyLemmas.{among-place}
use Rattle.fst_flats.proofs.keyed.Keyed.contains.Goals as goal

pub returns : goal.returns
returns c =
    ap₂ nat_lt c.place.ensures (c.len.ensures ∙ sym (length-map c.args.self.now plain_term)) ∙ sym (among-place (plain_term c.args.term.now) (map plain_term c.args.self.now))
