use Rattle.std.proofs.Common.{◌≡◌, ◌<◌, ◌+◌, Bool, true, List, length, set, sym, ap, subst, ◌∙◌, arith}
use Rattle.std.proofs.lemmas.List.{with_items_is, length-set}
use Rattle.std.proofs.lemmas.Result.{IfOk-weaker}
use Rattle.fst_congruence.specs.Extracts.{IsWanted}
use Rattle.fst_congruence.proofs.ExtractLemmas.{copied-keeps, both-wanted}
use Rattle.fst_congruence.proofs.extract.needed_lines.Goals as goal

pub returns : goal.returns
returns c =
    let begun : List Bool = c.as_mut_slice-marks.result.now in
    let long : length begun ≡ length c.args.log.now + 1 = ap length c.as_mut_slice-marks.ensures.value ∙ c.in_ok-wanted.ensures in
    let first : c.args.first < length begun = let le = c.requires.first in omega (arith, long, le) in
    let second : c.args.second < length begun = let le = c.requires.second in omega (arith, long, le) in
    let size : length c.mark_needed.new.wanted ≡ c.in_ok-wanted.wanted.len =
    c.mark_needed.auto.wanted ∙ length-set (set begun c.args.first true) c.args.second true ∙ length-set begun c.args.first true ∙ ap length c.as_mut_slice-marks.ensures.value ∙ sym c.in_ok-wanted.wanted.ok.0 in
    let is : c.as_slice.result.now ≡ c.mark_needed.new.wanted = c.as_slice.ensures.value ∙ with_items_is c.in_ok-wanted.wanted c.mark_needed.new.wanted size in
    let marked = both-wanted begun c.args.first c.args.second first second in
    IfOk-weaker c.copy_wanted.result _ _
    (λ kept h. copied-keeps c.args.log.now kept c.as_slice.result.now c.args.first c.args.second h c.requires.first c.requires.second
    (subst (λ ws. IsWanted ws c.args.first) (sym is) (c.mark_needed.ensures.kept c.args.first marked.0))
    (subst (λ ws. IsWanted ws c.args.second) (sym is) (c.mark_needed.ensures.kept c.args.second marked.1)))
    c.copy_wanted.ensures
