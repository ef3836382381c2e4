use Rattle.std.proofs.lemmas.Result.{IfOk-weaker}
use Rattle.fst_terms.specs.Flats.{plain_flat}
use Rattle.fst_cases.specs.Trails.{marks_in}
use Rattle.fst_cases.proofs.SearchLemmas.{leaf-grows, leaf-refutes, leaf-advanced}
use Rattle.fst_cases.proofs.TrailLemmas.{trail-grown}
use Rattle.fst_cases.proofs.search.refute.Goals as goal

pub advance-requires-clause-trail : goal.advance-requires-clause-trail
advance-requires-clause-trail c =
    trail-grown (plain_flat c.args.flat.now) c.args.arena.now c.add.new.arena
    (leaf-grows (plain_flat c.args.flat.now) c.args.arena.now c.add.new.arena c.args.core c.args.lines c.in_ok-node.node c.in_ok-node.ensures.0 c.in_ok-node.ensures.1) c.args.trail.now c.requires.trail

pub advance-requires-clause-node : goal.advance-requires-clause-node
advance-requires-clause-node c = leaf-refutes (plain_flat c.args.flat.now) c.args.arena.now c.add.new.arena c.args.core c.args.lines c.in_ok-node.node c.in_ok-node.ensures.0 c.in_ok-node.ensures.1 (marks_in c.args.trail.now) c.requires.refuted

pub returns : goal.returns
returns c =
    IfOk-weaker c.advance.result _ _
    (leaf-advanced (plain_flat c.args.flat.now) c.args.arena.now c.add.new.arena c.args.core c.args.lines c.in_ok-node.node c.in_ok-node.ensures.0 c.in_ok-node.ensures.1 c.advance.new.arena c.args.trail.now c.advance.new.trail)
    c.advance.ensures
