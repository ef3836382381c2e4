-- Explanations one after the other: the second with its numbers moved behind the first.
use Rattle.std.proofs.Common.{◌≡◌, ℕ, zero, suc, ◌+◌, ◌<◌, Bool, true, false, not, ◌&&◌, List, [], ◌∷◌, ◌++◌, length, map, slice_get, Some, option_map, refl, ap, ◌∙◌, subst, arith, append_assoc}
use Rattle.std.proofs.lemmas.Bool.{false≢true}
use Rattle.fst_terms.specs.Terms.{Tm, Tms, t_end, t_more, listed}
use Rattle.fst_terms.specs.Same.{same_term}
use Rattle.fst_terms.specs.Flats.{Flt}
use Rattle.fst_terms.specs.Skeletons.{args_of}
use Rattle.fst_terms.specs.Marks.{Marking, at_number}
use Rattle.fst_terms.specs.Branches.{same_constructor}
use Rattle.fst_cert.specs.Proving.{only_if, on, holds, Eqn, eqn, is_eqn, are_reasons, one_head, equation_by}
use Rattle.fst_cert.specs.declared.line.Line.{Line}
use Rattle.fst_cert.specs.declared.line.Line.TheVariants as line
use Rattle.fst_congruence.specs.Explained.{equations_by, Gives}
use Rattle.fst_cases.specs.Closings.{moved, shifted}
use Rattle.fst_cert.proofs.EquationTruths.{on-inv, holds-inv, map-inv, both-true}

later-get : {A : Type 0} (xs ys : List A) (n : ℕ) → slice_get (xs ++ ys) (length xs + n) ≡ slice_get ys n
later-get [] ys n = ap (slice_get ys) (let e : 0 + n ≡ n = omega arith in e)
later-get (x ∷ xs) ys n = ap (slice_get (x ∷ (xs ++ ys))) (let e : suc (length xs) + n ≡ suc (length xs + n) = omega arith in e) ∙ later-get xs ys n

pub at-moved : {A : Type 0} (xs ys : List A) (i : ℕ) (x : A) → at_number ys i ≡ Some x → at_number (xs ++ ys) (moved (length xs) i) ≡ Some x
at-moved xs ys zero x h = cc
at-moved xs ys (suc n) x h = ap (slice_get (xs ++ ys)) (let e : n + length xs ≡ length xs + n = omega arith in e) ∙ later-get xs ys n ∙ h

only-inv : {A : Type 0} (b : Bool) (x y : A) → only_if b x ≡ Some y → (b ≡ true) × (x ≡ y)
only-inv true x y h = (refl, cc)
only-inv false x y h = cc

both-hold : (a b : Bool) → a ≡ true → b ≡ true → (a && b) ≡ true
both-hold a b p q = rw (p, q) refl

module _ (es : List Eqn) where
  abbrev k : ℕ
  k = length es

  reasons-moved : (ds : List Eqn) (ns : List ℕ) (ts us : Tms) → are_reasons ds ns ts us ≡ true → are_reasons (es ++ ds) (map (moved k) ns) ts us ≡ true
  reasons-moved ds [] t_end t_end h = refl
  reasons-moved ds (zero ∷ ns) (t_more t ts) (t_more u us) h =
      let b = both-true (same_term t u) (are_reasons ds ns ts us) h in
      both-hold (same_term t u) (are_reasons (es ++ ds) (map (moved k) ns) ts us) b.0 (reasons-moved ds ns ts us b.1)
  reasons-moved ds (suc n ∷ ns) (t_more t ts) (t_more u us) h =
      let b = both-true (not (same_term t u) && holds (at_number ds (suc n)) (is_eqn t u)) (are_reasons ds ns ts us) h in
      let c = both-true (not (same_term t u)) (holds (at_number ds (suc n)) (is_eqn t u)) b.0 in
      let e = holds-inv (at_number ds (suc n)) (is_eqn t u) c.1 in
      both-hold (not (same_term t u) && holds (at_number (es ++ ds) (moved k (suc n))) (is_eqn t u)) (are_reasons (es ++ ds) (map (moved k) ns) ts us)
      (both-hold (not (same_term t u)) (holds (at_number (es ++ ds) (moved k (suc n))) (is_eqn t u)) c.0 (ap (λ o. holds o (is_eqn t u)) (at-moved es ds (suc n) e.0 e.1.0) ∙ e.1.1))
      (reasons-moved ds ns ts us b.1)
  reasons-moved ds ns ts us h = absurd (false≢true h)

  module _ (f : Flt) (look : Marking) where
    equation-moved : (ds : List Eqn) (l : Line) (d : Eqn) → equation_by f look ds l ≡ Some d → equation_by f look (es ++ ds) (shifted k l) ≡ Some d
    equation-moved ds (line.Given a) d h = h
    equation-moved ds (line.Eta t) d h = h
    equation-moved ds (line.Unit t) d h = h
    equation-moved ds (line.Flip i) d h =
        let e = map-inv (λ (e : Eqn). eqn e.right e.left) (at_number ds i) d h in
        ap (option_map (λ (e : Eqn). eqn e.right e.left)) (at-moved es ds i e.0 e.1.0) ∙ ap Some e.1.1
    equation-moved ds (line.Chain i j) d h =
        let a = on-inv (at_number ds i) (λ d. on (at_number ds j) (λ e. only_if (same_term d.right e.left) (eqn d.left e.right))) d h in
        let b = on-inv (at_number ds j) (λ e. only_if (same_term a.0.right e.left) (eqn a.0.left e.right)) d a.1.1 in
        ap (λ o. on o (λ d. on (at_number (es ++ ds) (moved k j)) (λ e. only_if (same_term d.right e.left) (eqn d.left e.right)))) (at-moved es ds i a.0 a.1.0)
        ∙ ap (λ o. on o (λ e. only_if (same_term a.0.right e.left) (eqn a.0.left e.right))) (at-moved es ds j b.0 b.1.0) ∙ b.1.1
    equation-moved ds (line.Part i p) d h =
        let a = on-inv (at_number ds i) (λ e. on (at_number (listed (args_of e.left)) p) (λ x. on (at_number (listed (args_of e.right)) p) (λ y. only_if (same_constructor e.left e.right) (eqn x y)))) d h in
        ap (λ o. on o (λ e. on (at_number (listed (args_of e.left)) p) (λ x. on (at_number (listed (args_of e.right)) p) (λ y. only_if (same_constructor e.left e.right) (eqn x y))))) (at-moved es ds i a.0 a.1.0) ∙ a.1.1
    equation-moved ds (line.Same t u ns) d h =
        let a = on-inv (at_number f.terms t) (λ x. on (at_number f.terms u) (λ y. only_if (one_head x y && are_reasons ds ns (args_of x) (args_of y)) (eqn x y))) d h in
        let b = on-inv (at_number f.terms u) (λ y. only_if (one_head a.0 y && are_reasons ds ns (args_of a.0) (args_of y)) (eqn a.0 y)) d a.1.1 in
        let c = only-inv (one_head a.0 b.0 && are_reasons ds ns (args_of a.0) (args_of b.0)) (eqn a.0 b.0) d b.1.1 in
        let g = both-true (one_head a.0 b.0) (are_reasons ds ns (args_of a.0) (args_of b.0)) c.0 in
        ap (λ o. on o (λ x. on (at_number f.terms u) (λ y. only_if (one_head x y && are_reasons (es ++ ds) (map (moved k) ns) (args_of x) (args_of y)) (eqn x y)))) a.1.0
        ∙ ap (λ o. on o (λ y. only_if (one_head a.0 y && are_reasons (es ++ ds) (map (moved k) ns) (args_of a.0) (args_of y)) (eqn a.0 y))) b.1.0
        ∙ ap (λ q. only_if q (eqn a.0 b.0)) (both-hold (one_head a.0 b.0) (are_reasons (es ++ ds) (map (moved k) ns) (args_of a.0) (args_of b.0)) g.0 (reasons-moved ds ns (args_of a.0) (args_of b.0) g.1))
        ∙ ap Some c.1
    equation-moved ds l d h = cc

    pub equations-moved : (ds : List Eqn) (ls : List Line) (gs : List Eqn) → equations_by f look ds ls ≡ Some gs → equations_by f look (es ++ ds) (map (shifted k) ls) ≡ Some (es ++ gs)
    equations-moved ds [] gs h = let e : ds ≡ gs = cc in ap (λ hs. Some (es ++ hs)) e
    equations-moved ds (l ∷ ls) gs h =
        let d = on-inv (equation_by f look ds l) (λ d. equations_by f look (ds ++ d ∷ []) ls) gs h in
        ap (λ o. on o (λ d. equations_by f look ((es ++ ds) ++ d ∷ []) (map (shifted k) ls))) (equation-moved ds l d.0 d.1.0)
        ∙ ap (λ xs. equations_by f look xs (map (shifted k) ls)) (append_assoc es ds (d.0 ∷ [])) ∙ equations-moved (ds ++ d.0 ∷ []) ls gs d.1.1

module _ (f : Flt) (look : Marking) where
  pub equations-then : (xs ys zs : List Eqn) (ls ks : List Line) → equations_by f look xs ls ≡ Some ys → equations_by f look ys ks ≡ Some zs → equations_by f look xs (ls ++ ks) ≡ Some zs
  equations-then xs ys zs [] ks h i = let e : xs ≡ ys = cc in ap (λ ws. equations_by f look ws ks) e ∙ i
  equations-then xs ys zs (l ∷ ls) ks h i =
      let d = on-inv (equation_by f look xs l) (λ d. equations_by f look (xs ++ d ∷ []) ls) ys h in
      ap (λ o. on o (λ d. equations_by f look (xs ++ d ∷ []) (ls ++ ks))) d.1.0 ∙ equations-then (xs ++ d.0 ∷ []) ys zs ls ks d.1.1 i

  -- an explanation behind equations that hold: all hold, and its own equation comes last
  pub record Behind (es : List Eqn) (before ls : List Line) (t u : Tm) : Type 0 where
    pub equations : List Eqn
    pub hold : equations_by f look [] (before ++ map (shifted (length es)) ls) ≡ Some (es ++ equations)
    pub last : at_number (es ++ equations) (length es + length equations) ≡ Some (eqn t u)

  last-moved : (es ds : List Eqn) (e : Eqn) → at_number ds (length ds) ≡ Some e → at_number (es ++ ds) (length es + length ds) ≡ Some e
  last-moved es ds e h = ap (at_number (es ++ ds)) (same (length ds) (some ds h)) ∙ at-moved es ds (length ds) e h
    where
      some : (ds : List Eqn) → at_number ds (length ds) ≡ Some e → 0 < length ds
      some [] h = cc
      some (d ∷ ds) h = omega arith

      same : (n : ℕ) → 0 < n → length es + n ≡ moved (length es) n
      same zero l = absurd (omega (arith, l))
      same (suc n) l = omega arith

  pub gives-behind : (es : List Eqn) (before ls : List Line) (t u : Tm) → equations_by f look [] before ≡ Some es → Gives f look ls t u → Behind es before ls t u
  gives-behind es before ls t u h g = record {
    equations = g.equations;
    hold = equations-then [] es (es ++ g.equations) before (map (shifted (length es)) ls) h
        (subst (λ xs. equations_by f look xs (map (shifted (length es)) ls) ≡ Some (es ++ g.equations)) (none es) (equations-moved es f look [] ls g.equations g.hold));
    last = last-moved es g.equations (eqn t u) g.last;
  }
    where
      none : (xs : List Eqn) → xs ++ [] ≡ xs
      none [] = refl
      none (x ∷ xs) = ap (λ ys. x ∷ ys) (none xs)
