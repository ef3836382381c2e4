-- A closing holds under fewer marks, where these have what its lines read.
use Rattle.std.proofs.Common.{◌≡◌, true, not, ◌&&◌, List, [], ◌∷◌, ◌++◌, Option, Some, None, option_map, refl, sym, ap, ◌∙◌, subst}
use Rattle.fst_terms.specs.Flats.{Flt, truth_of}
use Rattle.fst_terms.specs.declared.flat.Mark.{Mark}
use Rattle.fst_terms.specs.Skeletons.{arg_of, rest_of}
use Rattle.fst_terms.specs.Rows.{Rw}
use Rattle.fst_terms.specs.Marks.{Marking, at_number, var_sorts, is_equation, mark_ineqs}
use Rattle.fst_cert.specs.Proving.{on, holds, Eqn, is_eqn, equation_of_mark, equation_by, narrow_row, row_by, is_verdict}
use Rattle.fst_cert.specs.declared.line.Line.{Line}
use Rattle.fst_cert.specs.declared.line.Line.TheVariants as line
use Rattle.fst_congruence.specs.Explained.{equations_by}
use Rattle.fst_cases.specs.Closings.{Kept, AllKept}
use Rattle.fst_cases.specs.Refuting.{rows_after, Closes}
use Rattle.fst_cert.proofs.EquationTruths.{on-inv}

truth-holds : (o : Option Mark) → holds o (λ m. not (truth_of m)) ≡ holds (option_map truth_of o) not
truth-holds None = refl
truth-holds (Some m) = refl

module _ (f : Flt) (core look : Marking) where
  equation-kept : (es : List Eqn) (l : Line) (d : Eqn) → Kept core look l → equation_by f look es l ≡ Some d → equation_by f core es l ≡ Some d
  equation-kept es (line.Given a) d k h = subst (λ o. on (at_number f.atoms a) (λ t. on o (equation_of_mark t)) ≡ Some d) (sym k) h
  equation-kept es l d k h = h

  row-kept : (es : List Eqn) (rows : List Rw) (l : Line) (r : Rw) → Kept core look l → row_by f look es rows l ≡ Some r → row_by f core es rows l ≡ Some r
  row-kept es rows (line.Atom a n) r k h = subst (λ o. on (at_number f.atoms a) (λ t. on o (λ m. on (at_number (mark_ineqs (var_sorts f) t m) n) (narrow_row f))) ≡ Some r) (sym k) h
  row-kept es rows l r k h = h

  verdict-kept : (es : List Eqn) (rows : List Rw) (l : Line) → Kept core look l → is_verdict f look es rows l ≡ true → is_verdict f core es rows l ≡ true
  verdict-kept es rows (line.Unequal a i) k h =
      let same : holds (core a) (λ m. not (truth_of m)) ≡ holds (look a) (λ m. not (truth_of m)) = truth-holds (core a) ∙ ap (λ o. holds o not) k ∙ sym (truth-holds (look a)) in
      ap (λ b. holds (at_number f.atoms a) (λ t. is_equation t && b && holds (at_number es i) (is_eqn (arg_of t) (rest_of t)))) same ∙ h
  verdict-kept es rows l k h = h

  equations-kept : (es : List Eqn) (ls : List Line) (ds : List Eqn) → AllKept core look ls → equations_by f look es ls ≡ Some ds → equations_by f core es ls ≡ Some ds
  equations-kept es [] ds k h = h
  equations-kept es (l ∷ ls) ds k h =
      let d = on-inv (equation_by f look es l) (λ d. equations_by f look (es ++ d ∷ []) ls) ds h in
      ap (λ o. on o (λ d. equations_by f core (es ++ d ∷ []) ls)) (equation-kept es l d.0 k.0 d.1.0) ∙ equations-kept (es ++ d.0 ∷ []) ls ds k.1 d.1.1

  rows-kept : (es : List Eqn) (rows : List Rw) (ls : List Line) (rs : List Rw) → AllKept core look ls → rows_after f look es rows ls ≡ Some rs → rows_after f core es rows ls ≡ Some rs
  rows-kept es rows [] rs k h = h
  rows-kept es rows (l ∷ ls) rs k h =
      let r = on-inv (row_by f look es rows l) (λ r. rows_after f look es (rows ++ r ∷ []) ls) rs h in
      ap (λ o. on o (λ r. rows_after f core es (rows ++ r ∷ []) ls)) (row-kept es rows l r.0 k.0 r.1.0) ∙ rows-kept es (rows ++ r.0 ∷ []) ls rs k.1 r.1.1

  pub closes-kept : (es rs : List Line) (v : Line) → AllKept core look es → AllKept core look rs → Kept core look v → Closes f look es rs v → Closes f core es rs v
  closes-kept es rs v j k m c = record {
    gives = c.gives;
    sums = c.sums;
    equations_hold = equations-kept [] es c.gives j c.equations_hold;
    rows_hold = rows-kept c.gives [] rs c.sums k c.rows_hold;
    ends = verdict-kept c.gives c.sums v m c.ends;
  }
