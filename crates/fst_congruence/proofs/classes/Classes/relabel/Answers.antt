use Rattle.std.proofs.Common.{refl, sym, ◌∙◌, arith}
use Rattle.fst_congruence.proofs.LogLemmas.{because-extends, extends-none, extends-extends}
use Rattle.fst_congruence.proofs.ClassLemmas.{relabelling-none}
use Rattle.fst_congruence.proofs.classes.Classes.relabel.Goals as goal

pub loop-at-init : goal.loop-at-init
loop-at-init c = record { done = relabelling-none _ _ _ _ _ _ c.requires.labelled; link = c.requires.link; grown = extends-none _; members = refl }

pub relabel_one-requires-clause-count : goal.relabel_one-requires-clause-count
relabel_one-requires-clause-count c = c.loop-at.invariant.done.whys_count ∙ sym c.loop-at.invariant.done.labels_count

pub relabel_one-requires-clause-term : goal.relabel_one-requires-clause-term
relabel_one-requires-clause-term c = let below = c.requires.terms c.loop-at.at c.loop-at-test.true in let count = c.loop-at.invariant.done.labels_count in omega (arith, below, count)

pub relabel_one-requires-clause-why : goal.relabel_one-requires-clause-why
relabel_one-requires-clause-why c = c.loop-at.invariant.done.reasons _ (c.requires.terms c.loop-at.at c.loop-at-test.true)

pub loop-at-preserved : goal.loop-at-preserved
loop-at-preserved c = record {
  done = c.in_ok-relabel_one.ensures.more _ _ _ c.loop-at.invariant.done refl;
  link = because-extends c.loop-at.self.log _ c.in_ok-relabel_one.ensures.grown _ _ _ c.loop-at.invariant.link;
  grown = extends-extends _ c.loop-at.self.log _ c.loop-at.invariant.grown c.in_ok-relabel_one.ensures.grown;
  members = c.in_ok-relabel_one.ensures.members ∙ c.loop-at.invariant.members;
}
