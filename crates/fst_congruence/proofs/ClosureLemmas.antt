-- Closures: what a settled state gives, and explanations.
use Rattle.std.proofs.Common.{◌≡◌, ℕ, ◌-◌, ◌<◌, ◌≤◌, ◌⊎◌, inl, inr, List, [], ◌∷◌, ◌++◌, length, take, get_or, refl, sym, ap, subst, ◌∙◌, arith, length-append}
use Rattle.std.proofs.lemmas.Bool.{cases_lt}
use Rattle.std.proofs.lemmas.List.{take-append-le, take_all, get_or-take, length-take-le}
use Rattle.fst_congruence.specs.declared.equation.Equation.{Equation}
use Rattle.fst_congruence.specs.declared.node.Node.{Node}
use Rattle.fst_congruence.specs.Lines.{At, Grown, grown_none, grown_more, Valid}
use Rattle.fst_congruence.specs.declared.classes.Classes.{Classes}
use Rattle.fst_congruence.specs.Classes.{IsClosed}
use Rattle.fst_congruence.specs.Steps.{Fits}
use Rattle.fst_congruence.specs.Closures.{GivenLines, IsClosure, IsExact}
use Rattle.fst_congruence.proofs.ClosedLemmas.{labels-exact}

pub closure-exact : (ns : List Node) (es : List Equation) (c : Classes) → Fits ns c → Valid ns es c.log → IsClosed ns es c.labels → IsExact ns es c.labels
closure-exact ns es c f v closed i j p q = labels-exact ns es c.labels c.whys c.log v f.sound.labelled closed i j (let count = f.count in omega (arith, p, count)) (let count = f.count in omega (arith, q, count))

-- a log that has grown from none
pub grown-valid : (ns : List Node) (es start log : List Equation) → Grown ns es start log → start ≡ [] → Valid ns es log
grown-valid ns es start log g e = subst (λ (l : List Equation). Grown ns es l log) e g

pub closure-made : (slice ns : List Node) (es : List Equation) (start c : Classes) → slice ≡ ns → GivenLines es → Fits slice c → Grown slice es start.log c.log → start.log ≡ [] → IsClosed slice es c.labels → IsClosure ns es c
closure-made slice ns es start c e given f g none closed =
    subst (λ (ms : List Node). IsClosure ms es c) e (record { given = given; fits = f; valid = grown-valid slice es start.log c.log g none; closed = closed })

-- ---- the first lines of a valid log are valid

pub take-valid : (ns : List Node) (es old log : List Equation) → Grown ns es old log → old ≡ [] → (n : ℕ) → Valid ns es (take n log)
take-valid ns es old log grown_none e n = subst (λ (l : List Equation). Valid ns es (take n l)) (sym e) (subst (λ (l : List Equation). Valid ns es l) (sym (take_all n [] (omega arith))) grown_none)
take-valid ns es old log (grown_more {new = between} {e = f} g h) e n = go (cases_lt (length between) n) (take-valid ns es old between g e n)
  where
    go : (length between < n) ⊎ (n ≤ length between) → Valid ns es (take n between) → Valid ns es (take n (between ++ f ∷ []))
    go (inl lt) before =
        subst (λ (l : List Equation). Valid ns es l) (sym (take_all n (between ++ f ∷ []) (omega (arith, lt, length-append between (f ∷ [])))))
        (grown_more (subst (λ (l : List Equation). Grown ns es l between) e g) h)
    go (inr le) before = subst (λ (l : List Equation). Valid ns es l) (sym (take-append-le n between (f ∷ []) le)) before

pub take-last : (log : List Equation) (n x y : ℕ) → At log n x y → At (take n log) (length (take n log)) x y
take-last log n x y h =
    let is : length (take n log) ≡ n = length-take-le n log h.within in
    let read : (d : Equation) → get_or (take n log) (length (take n log) - 1) d ≡ get_or log (n - 1) d =
    λ d. ap (λ k. get_or (take n log) (k - 1) d) is ∙ get_or-take n log (n - 1) d (let above : 0 < n = h.counted in omega arith) in
    record {
      counted = omega (arith, is, h.counted);
      within = omega arith;
      left = λ d. ap (λ (e : Equation). e.left) (read d) ∙ h.left d;
      right = λ d. ap (λ (e : Equation). e.right) (read d) ∙ h.right d;
    }

-- a valid log up to the line that is asked for
pub taken : (ns : List Node) (es log new : List Equation) (n x y : ℕ) → new ≡ take n log → Valid ns es log → At log n x y → Valid ns es new × At new (length new) x y
taken ns es log new n x y e v h =
    let P : List Equation → Type 0 = λ l. Valid ns es l × At l (length l) x y in
    subst P (sym e) (take-valid ns es [] log v refl n, take-last log n x y h)
