-- Closings by clashes, as code counts their lines.
use Rattle.std.proofs.Common.{◌≡◌, ℕ, ◌+◌, true, false, List, [], ◌∷◌, ◌++◌, length, Some, sym, ap, ◌∙◌, subst, arith}
use Rattle.std.proofs.lemmas.List.{length_push}
use Rattle.fst_terms.specs.Terms.{Tm}
use Rattle.fst_terms.specs.Flats.{Flt, truth_of}
use Rattle.fst_terms.specs.declared.flat.Mark.{Mark}
use Rattle.fst_terms.specs.Skeletons.{arg_of, rest_of}
use Rattle.fst_terms.specs.Marks.{Marking, is_equation}
use Rattle.fst_terms.specs.Branches.{HasMark, differ}
use Rattle.fst_cert.specs.declared.line.Line.{Line}
use Rattle.fst_cert.specs.declared.line.Line.TheVariants as line
use Rattle.fst_cert.specs.Proving.{Eqn, equation_by}
use Rattle.fst_cert.proofs.EquationTruths.{on-inv}
use Rattle.fst_congruence.specs.Explained.{equations_by, Gives}
use Rattle.fst_cases.specs.Refuting.{Closes}
use Rattle.fst_cases.proofs.ClashLemmas.{closes-differ, closes-unequal}

module _ (f : Flt) (look : Marking) where
  pub equations-length : (es : List Eqn) (ls : List Line) (ds : List Eqn) → equations_by f look es ls ≡ Some ds → length ds ≡ length es + length ls
  equations-length es [] ds h = let e : es ≡ ds = cc in let l = ap length e in omega (arith, l)
  equations-length es (l ∷ ls) ds h =
      let d = on-inv (equation_by f look es l) (λ d. equations_by f look (es ++ d ∷ []) ls) ds h in
      let ih = equations-length (es ++ d.0 ∷ []) ls ds d.1.1 in
      let p = length_push es d.0 in
      omega (arith, ih, p)

  gives-length : (ls : List Line) (t u : Tm) (g : Gives f look ls t u) → length g.equations ≡ length ls
  gives-length ls t u g = let l = equations-length [] ls g.equations g.hold in omega (arith, l)

  pub unequal-closes : (a n : ℕ) (t x y : Tm) (m : Mark) (ls rows : List Line) → HasMark f look a t m → is_equation t ≡ true → truth_of m ≡ false → Gives f look ls x y → x ≡ arg_of t → y ≡ rest_of t → rows ≡ [] → n ≡ length ls
      → Closes f look ls rows (line.Unequal a n)
  unequal-closes a n t x y m ls rows h e off g p q r c =
      let g1 : Gives f look ls (arg_of t) (rest_of t) = subst (Gives f look ls (arg_of t)) q (subst (λ z. Gives f look ls z y) p g) in
      subst (λ k. Closes f look ls rows (line.Unequal a k)) (gives-length ls (arg_of t) (rest_of t) g1 ∙ sym c)
      (subst (λ rs. Closes f look ls rs (line.Unequal a (length g1.equations))) (sym r) (closes-unequal f look a t m ls h e off g1))

  pub differ-closes : (n : ℕ) (x y : Tm) (ls rows : List Line) → Gives f look ls x y → differ x y ≡ true → rows ≡ [] → n ≡ length ls → Closes f look ls rows (line.Differ n)
  differ-closes n x y ls rows g d r c =
      subst (λ k. Closes f look ls rows (line.Differ k)) (gives-length ls x y g ∙ sym c)
      (subst (λ rs. Closes f look ls rs (line.Differ (length g.equations))) (sym r) (closes-differ f look ls x y g d))
