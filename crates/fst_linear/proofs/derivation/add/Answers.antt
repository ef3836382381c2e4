use Rattle.std.proofs.Common.{◌≡◌, ap, ◌∙◌, sym, false}
use Rattle.std.proofs.lemmas.Int.{to_z-of_z}
use Rattle.fst_terms.specs.Rows.{combined, is_wide}
use Rattle.fst_rows.specs.Plain.{plain_row}
use Rattle.fst_linear.specs.Derivations.{at}
use Rattle.fst_linear.proofs.DerivationLemmas.{added, added-or-not, rows-or-not}
use Rattle.fst_linear.proofs.derivation.add.Goals as goal

pub returns-clause-derives : goal.returns-clause-derives
returns-clause-derives c =
    let fp = c.ranges.p in
    let fq = c.ranges.q in
    let given = c.args.given.now in
    let made = c.args.made.now.items in
    let ra : plain_row c.row_at.result.now ≡ at given made c.args.i = c.row_at.ensures ∙ ap (λ m. at given m c.args.i) c.as_slice.ensures.value in
    let rb : plain_row c.row_at-2.result.now ≡ at given made c.args.j = c.row_at-2.ensures ∙ ap (λ m. at given m c.args.j) c.as_slice-2.ensures.value in
    let e0 : plain_row c.in_ok-row.row ≡ combined c.args.p (plain_row c.row_at.result.now) c.args.q (plain_row c.row_at-2.result.now) = simp to_z-of_z at c.in_ok-row.ensures.ok in
    let n0 : is_wide c.args.p (plain_row c.row_at.result.now) c.args.q (plain_row c.row_at-2.result.now) ≡ false = simp to_z-of_z at c.in_ok-row.ensures.narrow in
    let e : plain_row c.in_ok-row.row ≡ combined c.args.p (at given made c.args.i) c.args.q (at given made c.args.j) = e0 ∙ ap (λ t. combined c.args.p t c.args.q (plain_row c.row_at-2.result.now)) ra ∙ ap (λ t. combined c.args.p (at given made c.args.i) c.args.q t) rb in
    let n : is_wide c.args.p (at given made c.args.i) c.args.q (at given made c.args.j) ≡ false = sym (ap (λ t. is_wide c.args.p t c.args.q (plain_row c.row_at-2.result.now)) ra ∙ ap (λ t. is_wide c.args.p (at given made c.args.i) c.args.q t) rb) ∙ n0 in
    let k = simp to_z-of_z at c.put.ensures.ok in
    added-or-not c.put.result given made c.put.new.made.items _ k c.put.ensures.err
    (added given made c.in_ok-row.row c.args.p c.args.q c.args.i c.args.j c.in-Ok.first c.in-Ok-try_from.second e n c.in-Ok.ensures.1 c.in-Ok-try_from.ensures.1 c.requires.p c.requires.q c.requires.i c.requires.j c.requires.derives)
    c.requires.derives

pub returns-clause-ok : goal.returns-clause-ok
returns-clause-ok c =
    let fp = c.ranges.p in
    let fq = c.ranges.q in
    let given = c.args.given.now in
    let made = c.args.made.now.items in
    let ra : plain_row c.row_at.result.now ≡ at given made c.args.i = c.row_at.ensures ∙ ap (λ m. at given m c.args.i) c.as_slice.ensures.value in
    let rb : plain_row c.row_at-2.result.now ≡ at given made c.args.j = c.row_at-2.ensures ∙ ap (λ m. at given m c.args.j) c.as_slice-2.ensures.value in
    let e0 : plain_row c.in_ok-row.row ≡ combined c.args.p (plain_row c.row_at.result.now) c.args.q (plain_row c.row_at-2.result.now) = simp to_z-of_z at c.in_ok-row.ensures.ok in
    let k = simp to_z-of_z at c.put.ensures.ok in
    rows-or-not c.put.result given made c.put.new.made.items _ _ _ _ _ c.args.p c.args.q e0 ra rb k
