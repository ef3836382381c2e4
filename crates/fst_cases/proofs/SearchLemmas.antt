-- The loop of the search: marks are put until all atoms have one, and what its answers say.
use Rattle.std.proofs.Common.{◌≡◌, ℕ, zero, suc, ◌+◌, ◌<◌, ◌≤◌, List, [], ◌∷◌, ◌++◌, length, slice_get, Option, Some, None, refl, sym, ap, ◌∙◌, subst, arith}
use Rattle.std.proofs.lemmas.List.{length_push}
use Rattle.fst_terms.specs.Terms.{Tm}
use Rattle.fst_terms.specs.Flats.{Flt}
use Rattle.fst_terms.specs.declared.flat.Mark.{Mark}
use Rattle.fst_terms.specs.declared.flat.Mark.TheVariants as mark
use Rattle.fst_terms.specs.Marks.{marks_of, var_sorts}
use Rattle.fst_terms.specs.Branches.{AllFit}
use Rattle.fst_cert.specs.declared.line.Line.{Line}
use Rattle.fst_cert.specs.Proving.{Proves}
use Rattle.fst_cases.specs.declared.arena.Refutation.{Refutation}
use Rattle.fst_cases.specs.declared.arena.Rule.TheVariants as by
use Rattle.fst_cases.specs.declared.known.Known.{Known}
use Rattle.fst_cases.specs.declared.trail.Step.{Step}
use Rattle.fst_cases.specs.declared.verdict.Leaf.{Leaf}
use Rattle.fst_cases.specs.declared.verdict.Leaf.TheVariants as leaf
use Rattle.fst_cases.specs.Arenas.{Grows, Writes, writes_end, core_at}
use Rattle.fst_cases.specs.Knowing.{Falls, look_of}
use Rattle.fst_cases.specs.Refuting.{Within, IsRefuted, LeftRefuted}
use Rattle.fst_cases.specs.Trails.{marks_in, RefutesAt, Trail, trail_none, trail_more, branches, Advanced, Filled}
use Rattle.fst_cases.specs.Verdicts.{IsOf}
use Rattle.fst_cases.proofs.ArenaLemmas.{grows-grows, pushed-there, pushed-is, pushed-grows}
use Rattle.fst_cases.proofs.WritingLemmas.{writes-once}
use Rattle.fst_cases.proofs.SearchSteps.{refuted-all}
use Rattle.fst_cases.proofs.TrailLemmas.{marks-push, marks-length, trail-put, branches-put, trail-fit, trail-left}

-- ---- marks are put

abbrev pub first_step : Step
first_step = record { mark = mark.True; on_true = 0; on_less = 0 }

get-there : {A : Type 0} (xs : List A) (k : ℕ) → k < length xs → (x : A) × (slice_get xs k ≡ Some x)
get-there [] k h = absurd (omega (arith, h))
get-there (x ∷ xs) zero h = (x, refl)
get-there (x ∷ xs) (suc k) h = get-there xs k (omega (arith, h))

module _ (f : Flt) (ns : List Refutation) where
  pub trail-short : (ss : List Step) → Trail f ns ss → length ss ≤ length f.atoms
  trail-short ss trail_none = omega arith
  trail-short ss (trail_more rs s t h q fit left) = let w = within f.atoms (length rs) t q in let l = length_push rs s in omega (arith, w, l)
    where
      within : (xs : List Tm) (k : ℕ) (x : Tm) → slice_get xs k ≡ Some x → k < length xs
      within [] k x q = cc
      within (y ∷ ys) zero x q = omega arith
      within (y ∷ ys) (suc k) x q = let l = within ys k x q in omega (arith, l)

  pub fill-more : (ss new : List Step) → Trail f ns ss → length ss < length f.atoms → new ≡ ss ++ first_step ∷ [] → Trail f ns new
  fill-more ss new h l e = let t = get-there f.atoms (length ss) l in trail-put f ns ss new first_step h (record { atom = t.0; at = t.1; fit = refl; left = tt }) e

  pub fill-fewer : (ss new : List Step) (n : ℕ) → length ss < length f.atoms → new ≡ ss ++ first_step ∷ [] → branches (length f.atoms) (marks_in ss) ≤ n → branches (length f.atoms) (marks_in new) ≤ n
  fill-fewer ss new n l e h =
      let k = marks-length ss in
      let less = branches-put (length f.atoms) (marks_in ss) (omega (arith, l, k)) in
      subst (λ ms. branches (length f.atoms) ms ≤ n) (sym (ap marks_in e ∙ marks-push ss first_step)) (omega (arith, less, h))

-- ---- a leaf is refuted

module _ (f : Flt) (old new : List Refutation) (core : List Known) (lines : List Line) (at : ℕ) (e : new ≡ old ++ (record { core = core; rule = by.Ends lines }) ∷ []) (q : at ≡ length old) where
  pub leaf-grows : Grows old new
  leaf-grows = pushed-grows old new _ e

  pub leaf-refutes : (ms : List Mark) → IsOf f ms (leaf.Refuted core lines) → RefutesAt f new ms at
  leaf-refutes ms h =
      let is = pushed-is old new _ at e q in
      let same : core ≡ core_at new at = sym (ap (λ (n : Refutation). n.core) is) in
      record {
        there = pushed-there old new _ at e q;
        falls = subst (Falls (length ms + 1)) same h.0;
        within = subst (λ ks. Within (look_of ks) (marks_of ms)) same h.1.0;
        lines = lines;
        written = writes_end at lines (pushed-there old new _ at e q) (ap (λ (n : Refutation). n.rule) is);
        refuted = subst (λ ks. IsRefuted f [] (length ms) (look_of ks) lines) same h.1.1;
      }

  pub leaf-advanced : (after : List Refutation) (before next : List Step) (o : Option ℕ) → Advanced f new after before next o → Advanced f old after before next o
  leaf-advanced after before next None h = (grows-grows old new after leaf-grows h.0, h.1)
  leaf-advanced after before next (Some i) h = (grows-grows old new after leaf-grows h.0, h.1)

-- ---- answers

-- a refutation of the branch without marks is a proof
pub root-proves : (f : Flt) (ns : List Refutation) (i : ℕ) (lines : List Line) → RefutesAt f ns [] i → Writes ns i lines → Proves f lines
root-proves f ns i lines r w = subst (Proves f) (writes-once ns i r.lines lines r.written w) (refuted-all f (record { core = look_of (core_at ns i); lines = r.lines; within = r.within; refuted = r.refuted }))

pub trail-begun : (f : Flt) (ns : List Refutation) (ss : List Step) → ss ≡ [] → Trail f ns ss
trail-begun f ns ss e = subst (Trail f ns) (sym e) trail_none

-- the marks of a whole trail
pub whole-marks : (f : Flt) (ns : List Refutation) (before after ss : List Step) (ms : List Mark) → Filled f ns before after → ss ≡ after → ms ≡ marks_in ss → AllFit (var_sorts f) f.atoms ms × LeftRefuted f [] f.atoms ms
whole-marks f ns before after ss ms h e q =
    let is : marks_in after ≡ ms = sym (q ∙ ap marks_in e) in (
      subst (AllFit (var_sorts f) f.atoms) is (trail-fit f ns after h.trail h.full),
      subst (LeftRefuted f [] f.atoms) is (trail-left f ns after h.trail),
    )

-- what is told of a leaf
pub told : (g f : Flt) (xs ms : List Mark) (l k : Leaf) → g ≡ f → xs ≡ ms → l ≡ k → IsOf g xs l → IsOf f ms k
told g f xs ms l k e q p h = subst (IsOf f ms) p (subst (λ ns. IsOf f ns l) q (subst (λ g. IsOf g xs l) e h))

pub root-told : (f : Flt) (old new ns : List Refutation) (before after : List Step) (o : Option ℕ) (i : ℕ) (lines : List Line) → Advanced f old new before after o → o ≡ Some i → ns ≡ new → Writes ns i lines → Proves f lines
root-told f old new ns before after o i lines h e q w =
    let a : Advanced f old new before after (Some i) = subst (Advanced f old new before after) e h in
    root-proves f new i lines a.1 (subst (λ ms. Writes ms i lines) q w)
