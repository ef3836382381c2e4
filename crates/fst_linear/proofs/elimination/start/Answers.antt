use Rattle.std.proofs.Common.{arith, sym, ◌∙◌}
use Rattle.std.proofs.lemmas.Bool.{false≢true}
use Rattle.fst_linear.proofs.StartLemmas.{starting-more, given-refutes, below-at, below-of}
use Rattle.fst_linear.proofs.elimination.start.Goals as goal

pub returns-then-is_below : goal.returns-then-is_below
returns-then-is_below c = given-refutes c.args.given.now c.loop-i.i (omega arith) (below-at c.args.given.now c.loop-i.i c.index-given-i.result (omega arith) c.index-given-i.is (c.is_below.ensures.yes c.if-is_below.true))

pub loop-i-preserved : goal.loop-i-preserved
loop-i-preserved c =
    starting-more c.args.given.now c.loop-i.i c.loop-i.live.items c.note.new.places.items c.loop-i.invariant
    (λ b. false≢true (sym c.if-is_below.false ∙ c.is_below.ensures.not (below-of c.args.given.now c.loop-i.i c.index-given-i.result (omega arith) c.index-given-i.is b)))
    c.in_ok-note.ensures
