use Rattle.std.proofs.Common.{inl, inr, refl, sym, ap, ◌∙◌}
use Rattle.std.specs.Option.{option_copied}
use Rattle.fst_congruence.specs.Firsts.{first_of}
use Rattle.fst_congruence.proofs.FirstLemmas.{others-kept}
use Rattle.fst_congruence.proofs.firsts.Firsts.first.Goals as goal

pub returns-in-Some : goal.returns-in-Some
returns-in-Some c =
    let found = ap (first_of c.args.self.now) (sym c.as_slice.ensures.value) ∙ sym c.get.ensures.value ∙ ap option_copied c.in-Some.is in
    record { now = found; was = inl found; others = λ other n. refl }

pub returns : goal.returns
returns c =
    let none = ap (first_of c.args.self.now) (sym c.as_slice.ensures.value) ∙ sym c.get.ensures.value ∙ ap option_copied c.in_default.is in
    record {
      now = c.in_ok-insert.ensures.updates.1;
      was = inr (none, refl);
      others = others-kept c.args.key _ _ c.in_ok-insert.ensures.updates.3;
    }
