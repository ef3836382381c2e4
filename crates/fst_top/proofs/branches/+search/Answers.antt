use Rattle.std.proofs.Common.{◌≡◌, ◌<◌, ◌∙◌, [], ◌∷◌, ◌++◌, length, refl, ap, sym, subst, arith, rules}
use Rattle.std.proofs.lemmas.List.{length-map, length_push}
use Rattle.std.proofs.lemmas.Result.{IfOk-weaker}
use Rattle.fst_terms.specs.Flats.{plain_flat, AreTruths}
use Rattle.fst_terms.specs.Searching.{is_closed, Searched}
use Rattle.fst_terms.specs.Terms.{plain_term}
use Rattle.fst_terms.specs.declared.flat.Mark.TheVariants as mark
use Rattle.fst_terms.proofs.SearchLemmas.{closed-none, marked-first, first-true, searched-false, truths-push}
use Rattle.fst_top.proofs.branches.+search.Goals as goal

pub search-returns-then-is_closed : goal.search-returns-then-is_closed
search-returns-then-is_closed t c = (refl, closed-none (plain_flat c.args.flat.now) c.args.marks.now (sym (c.is_closed.ensures ∙ ap (is_closed (plain_flat c.args.flat.now)) c.as_slice.ensures) ∙ c.if-is_closed.true))

pub search-returns-then-len : goal.search-returns-then-len
search-returns-then-len t c =
    let all : length c.args.marks.now ≡ length c.args.flat.now.atoms = omega arith in
    marked-first (plain_flat c.args.flat.now) c.args.marks.now c.requires.flat (all ∙ sym (length-map c.args.flat.now.atoms plain_term)) c.requires.truths
    (sym (c.is_closed.ensures ∙ ap (is_closed (plain_flat c.args.flat.now)) c.as_slice.ensures) ∙ c.if-is_closed.false)

pub search-returns-then-branch : goal.search-returns-then-branch
search-returns-then-branch t c =
    let f = plain_flat c.args.flat.now in
    let short : length c.args.marks.now < length f.atoms = omega (arith, length-map c.args.flat.now.atoms plain_term) in
    first-true f c.args.marks.now short c.search_with.new.marks (subst (Searched f (c.args.marks.now ++ mark.True ∷ []) c.args.marks.now c.search_with.new.marks) c.if-branch.true c.in_ok-search_with.ensures)

pub search-returns : goal.search-returns
search-returns t c =
    let f = plain_flat c.args.flat.now in
    let short : length c.args.marks.now < length f.atoms = omega (arith, length-map c.args.flat.now.atoms plain_term) in
    let none = subst (Searched f (c.args.marks.now ++ mark.True ∷ []) c.args.marks.now c.search_with.new.marks) c.if-branch.false c.in_ok-search_with.ensures in
    IfOk-weaker c.search_with-2.result _ _ (λ found h. searched-false f c.args.marks.now short c.search_with-2.new.marks found none.1 (subst (λ ms. Searched f (ms ++ mark.False ∷ []) ms c.search_with-2.new.marks found) none.0 h)) c.search_with-2.ensures

pub search_with-search-requires : goal.search_with-search-requires
search_with-search-requires t c =
    let long = ap length c.in_ok-push.ensures.ok ∙ length_push c.args.marks.now c.args.mark in
    (search (rules, long), (c.requires.flat, (omega arith, subst AreTruths (sym c.in_ok-push.ensures.ok) (truths-push c.args.marks.now c.args.mark c.requires.truths c.requires.mark))))
