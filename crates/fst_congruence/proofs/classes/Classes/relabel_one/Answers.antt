use Rattle.std.proofs.Common.{get_or, refl, sym, ap, ◌∙◌, arith}
use Rattle.std.proofs.lemmas.List.{length-set}
use Rattle.fst_congruence.proofs.LogLemmas.{extends-none}
use Rattle.fst_congruence.proofs.ClassLemmas.{relabelling-moved, relabelling-kept}
use Rattle.fst_congruence.proofs.classes.Classes.relabel_one.Goals as goal

pub returns-then-as_slice-term : goal.returns-then-as_slice-term
returns-then-as_slice-term c = record {
  grown = extends-none _;
  members = refl;
  count = refl;
  more = λ old terms n r is. relabelling-kept old _ _ _ terms _ _ n _ r is (λ e. c.if-as_slice-term.true (ap (λ ls. get_or ls c.args.term 0) c.as_slice.ensures ∙ e));
}

pub returns : goal.returns
returns c =
    let is_from = sym (ap (λ ls. get_or ls c.args.term 0) c.as_slice.ensures) ∙ c.if-as_slice-term.false in
    rw (c.set.ensures, c.set-2.ensures) (record {
      grown = c.in_ok-why.ensures.1;
      members = refl;
      count = length-set _ _ _;
      more = λ old terms n r is. relabelling-moved old _ _ c.args.self.now.log c.chain.new.log terms _ _ n _ _ r is (let below = c.requires.term in let count = r.labels_count in omega (arith, below, count)) is_from c.requires.differ c.in_ok-why.ensures.1 c.in_ok-why.ensures.0;
    })
