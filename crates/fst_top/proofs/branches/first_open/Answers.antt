use Rattle.std.proofs.Common.{subst}
use Rattle.fst_terms.specs.Flats.{plain_flat}
use Rattle.fst_terms.specs.Searching.{Searched, IsFirstFrom, NoneFrom}
use Rattle.fst_terms.proofs.SearchLemmas.{first-open}
use Rattle.fst_top.proofs.branches.first_open.Goals as goal

pub returns-then-branch : goal.returns-then-branch
returns-then-branch c =
    let f = plain_flat c.args.flat.now in
    let found = subst (Searched f c.new-marks.result c.new-marks.result c.search.new.marks) c.if-branch.true c.in_ok-search.ensures in
    first-open f c.search.new.marks (subst (λ ms. IsFirstFrom f ms c.search.new.marks) c.new-marks.ensures found)

pub returns-else-branch : goal.returns-else-branch
returns-else-branch c =
    let f = plain_flat c.args.flat.now in
    let none = subst (Searched f c.new-marks.result c.new-marks.result c.search.new.marks) c.if-branch.false c.in_ok-search.ensures in
    subst (NoneFrom f) c.new-marks.ensures none.1
