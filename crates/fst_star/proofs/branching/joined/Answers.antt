use Rattle.std.proofs.Common.{◌∙◌, ap}
use Rattle.fst_star.specs.Plain.{plain_ways}
use Rattle.fst_star.proofs.WayLemmas.{plain-joined}
use Rattle.fst_star.proofs.branching.joined.Goals as goal

pub returns : goal.returns
returns c = ap plain_ways (c.in_ok-append.ensures.ok) ∙ plain-joined c.args.first c.args.second
