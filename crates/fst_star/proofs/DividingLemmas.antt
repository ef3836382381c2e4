-- Divisions of a term, from the answers for its parts.
use Rattle.std.proofs.Common.{◌≡◌, ℕ, ◌+◌, ◌<◌, List, [], ◌∷◌, ◌++◌, length, get_or, take, map, sym, ap, ap₂, ◌∙◌}
use Rattle.fst_base.specs.declared.op.Op.{Op}
use Rattle.fst_base.specs.declared.place.Pos.{Pos}
use Rattle.fst_base.specs.declared.sort.Sort.{Sort}
use Rattle.fst_terms.specs.declared.term.Term.{Term}
use Rattle.fst_terms.specs.declared.term.Term.TheVariants as T
use Rattle.fst_terms.specs.Formulas.{negation}
use Rattle.fst_terms.specs.Terms.{Tm, row, listed, plain_term, plain_terms}
use Rattle.fst_terms.proofs.FirstsLemmas.{listed-row}
use Rattle.fst_terms.proofs.PlainLemmas.{plain-term-Prim, plain-term-If, plain-term-App}
use Rattle.fst_program.specs.Paths.{Division, all_divisions, divisions}
use Rattle.fst_star.specs.Divided.{own_division}
use Rattle.fst_star.proofs.Needs.{append-again, append-none}
use Rattle.fst_star.proofs.TrailLemmas.{map-end}
use Rattle.fst_star.proofs.WayLemmas.{take-more}

module _ (cs : List Tm) (old : List Division) where
  pub Prim-divisions : (t : Term) (o : Op) (S : Sort) (ts us vs : List Term) (at : Pos) (mid new : List Division) → t ≡ T.Prim o S ts at → us ≡ ts → vs ≡ ts
      → mid ≡ old ++ all_divisions cs (plain_terms us) → new ≡ mid ++ own_division cs o (map plain_term vs) at.at → new ≡ old ++ divisions cs (plain_term t)
  Prim-divisions t o S ts us vs at mid new is p q e f =
      let own : own_division cs o (map plain_term vs) at.at ≡ own_division cs o (listed (plain_terms ts)) at.at =
      ap (λ vs. own_division cs o (map plain_term vs) at.at) q ∙ ap (λ ts. own_division cs o ts at.at) (sym (listed-row (map plain_term ts))) in
      f ∙ ap₂ ◌++◌ e own ∙ ap (λ us. (old ++ all_divisions cs (plain_terms us)) ++ own_division cs o (listed (plain_terms ts)) at.at) p
      ∙ sym (append-again old (all_divisions cs (plain_terms ts)) (own_division cs o (listed (plain_terms ts)) at.at))
      ∙ ap (λ t. old ++ divisions cs t) (sym (ap plain_term is ∙ plain-term-Prim o S ts at))

  pub App-divisions : (t : Term) (k : ℕ) (S : Sort) (ts us : List Term) (new : List Division) → t ≡ T.App k S ts → us ≡ ts → new ≡ old ++ all_divisions cs (plain_terms us) → new ≡ old ++ divisions cs (plain_term t)
  App-divisions t k S ts us new is p e =
      e ∙ ap (λ us. old ++ all_divisions cs (plain_terms us)) p ∙ ap (λ t. old ++ divisions cs t) (sym (ap plain_term is ∙ plain-term-App k S ts))

  pub If-divisions : (t c l r c1 c2 c3 l1 r1 : Term) (one two new : List Division) → t ≡ T.If c l r → c1 ≡ c → c2 ≡ c → c3 ≡ c → l1 ≡ l → r1 ≡ r
      → one ≡ old ++ divisions cs (plain_term c1) → two ≡ one ++ divisions (cs ++ plain_term c2 ∷ []) (plain_term l1) → new ≡ two ++ divisions (cs ++ negation (plain_term c3) ∷ []) (plain_term r1)
      → new ≡ old ++ divisions cs (plain_term t)
  If-divisions t c l r c1 c2 c3 l1 r1 one two new is p1 p2 p3 q s e f g =
      let A = divisions cs (plain_term c) in
      let B = divisions (cs ++ plain_term c ∷ []) (plain_term l) in
      let C = divisions (cs ++ negation (plain_term c) ∷ []) (plain_term r) in
      let here : one ≡ old ++ A = e ∙ ap (λ c. old ++ divisions cs (plain_term c)) p1 in
      let left : two ≡ (old ++ A) ++ B = f ∙ ap₂ ◌++◌ here (ap₂ (λ c l. divisions (cs ++ plain_term c ∷ []) (plain_term l)) p2 q) in
      let right : new ≡ ((old ++ A) ++ B) ++ C = g ∙ ap₂ ◌++◌ left (ap₂ (λ c r. divisions (cs ++ negation (plain_term c) ∷ []) (plain_term r)) p3 s) in
      right ∙ ap (λ ds. ds ++ C) (sym (append-again old A B)) ∙ sym (append-again old (A ++ B) C)
      ∙ ap (λ t. old ++ divisions cs t) (sym (ap plain_term is ∙ plain-term-If c l r))

  row-more : (ts : List Tm) (t : Tm) → all_divisions cs (row (ts ++ t ∷ [])) ≡ all_divisions cs (row ts) ++ divisions cs t
  row-more [] t = append-none (divisions cs t)
  row-more (u ∷ ts) t = ap (λ ds. divisions cs u ++ ds) (row-more ts t) ∙ append-again (divisions cs u) (all_divisions cs (row ts)) (divisions cs t)

  pub divisions-none : old ≡ old ++ all_divisions cs (row [])
  divisions-none = sym (append-none old)

  -- one term more
  pub divisions-more : (ts : List Term) (i : ℕ) (t : Term) (now new : List Division) → i < length ts → t ≡ get_or ts i t → now ≡ old ++ all_divisions cs (plain_terms (take i ts))
      → new ≡ now ++ divisions cs (plain_term t) → new ≡ old ++ all_divisions cs (plain_terms (take (i + 1) ts))
  divisions-more ts i t now new h is e f =
      f ∙ ap (λ ds. ds ++ divisions cs (plain_term t)) e ∙ sym (append-again old (all_divisions cs (plain_terms (take i ts))) (divisions cs (plain_term t)))
      ∙ ap (λ ds. old ++ ds) (sym (row-more (map plain_term (take i ts)) (plain_term t)) ∙ ap (λ us. all_divisions cs (row us)) (sym (map-end plain_term (take i ts) t))
      ∙ ap (λ t. all_divisions cs (plain_terms (take i ts ++ t ∷ []))) is ∙ ap (λ us. all_divisions cs (plain_terms us)) (sym (take-more ts i t h)))
