-- Learned refutations as the shared parts of a proof, and formulas that have a value.
use Rattle.std.proofs.Common.{◌≡◌, ℕ, suc, ◌+◌, Bool, true, false, ◌&&◌, nat_eq, List, [], ◌∷◌, ◌++◌, length, Option, Some, None, refl, sym, subst}
use Rattle.std.specs.Prelude.{is_none}
use Rattle.std.proofs.lemmas.Bool.{eq-eqb}
use Rattle.fst_base.specs.Values.{same_bool}
use Rattle.fst_terms.specs.Terms.{Tm}
use Rattle.fst_terms.specs.Flats.{Flt}
use Rattle.fst_terms.specs.declared.flat.Mark.{Mark}
use Rattle.fst_terms.proofs.MemberLemmas.{AllTm}
use Rattle.fst_terms.specs.Skeletons.{Skl, k_truth, k_atom, k_if, k_same, reading, chosen, agree, atoms_in}
use Rattle.fst_terms.specs.Marks.{at_number, var_sorts}
use Rattle.fst_cert.specs.Proving.{Mk, marking_of, marked, holds, owed_all, owed_branch, owed_shares, owed_marks, owe_shares, owe_marks, may_mark, Proves}
use Rattle.fst_cert.specs.declared.line.Line.{Line}
use Rattle.fst_cert.specs.declared.line.Line.TheVariants as line
use Rattle.fst_cases.specs.Refuting.{UnmarkedAfter, Settles, IsRefuted}
use Rattle.fst_cases.proofs.RefutedLemmas.{within-self}
use Rattle.fst_cases.proofs.RefutationRules.{step, no-more, held}

-- ---- shared parts

-- these lines put the marks of a share, one after the other, to those that stand
pub data Puts (f : Flt) : List Mk → List Line → List Mk → Type 0 where
  puts_none : {ms : List Mk} → Puts f ms [] ms
  puts_more : {ms ks : List Mk} {ls : List Line} (a : ℕ) (m : Mark) → holds (at_number f.atoms a) (λ t. is_none (marking_of ms a) && may_mark (var_sorts f) t m) ≡ true → Puts f (marked a m ms) ls ks → Puts f ms (line.Marked a m ∷ ls) ks

marks-settle : (f : Flt) (n : ℕ) (ended : List (List Mk)) (rest : List Line) (ms ks : List Mk) (ls : List Line) → Puts f ms ls ks
    → Settles f (owed_branch ended ks ∷ owe_shares n (ended ++ ks ∷ [])) rest → Settles f (owe_marks (length ls) n ended ms) (ls ++ rest)
marks-settle f n ended rest ms ks ls puts_none s = s
marks-settle f n ended rest ms ks ls (puts_more {ls = js} a m h p) s =
    step f (owed_marks (length js) n ended ms) (line.Marked a m) (owe_marks (length js) n ended (marked a m ms)) [] (js ++ rest)
    (held (holds (at_number f.atoms a) (λ t. is_none (marking_of ms a) && may_mark (var_sorts f) t m)) (owe_marks (length js) n ended (marked a m ms)) h)
    (subst (λ os. Settles f os (js ++ rest)) (sym (no-more (owe_marks (length js) n ended (marked a m ms)))) (marks-settle f n ended rest (marked a m ms) ks js p s))

-- a refutation of the marks of a share proves the share, and what is owed after it can use it
pub share-settles : (f : Flt) (n k : ℕ) (ended : List (List Mk)) (ks : List Mk) (marks ls more : List Line) → Puts f [] marks ks
    → UnmarkedAfter k (marking_of ks) → IsRefuted f ended k (marking_of ks) ls → Settles f (owe_shares n (ended ++ ks ∷ [])) more
    → Settles f (owe_shares (suc n) ended) (line.Share (length ended + 1) (length marks) ∷ marks ++ (ls ++ more))
share-settles f n k ended ks marks ls more puts unmarked refuted s =
    step f (owed_shares n ended) (line.Share (length ended + 1) (length marks)) (owe_marks (length marks) n ended []) [] (marks ++ (ls ++ more))
    (held (nat_eq (length ended + 1) (length ended + 1)) (owe_marks (length marks) n ended []) (eq-eqb (length ended + 1) (length ended + 1) refl))
    (subst (λ os. Settles f os (marks ++ (ls ++ more))) (sym (no-more (owe_marks (length marks) n ended [])))
    (marks-settle f n ended (ls ++ more) [] ks marks puts (refuted ks (within-self (marking_of ks)) unmarked (owe_shares n (ended ++ ks ∷ [])) more s)))

-- after the last share the goal is refuted with their help
pub last-settles : (f : Flt) (ended : List (List Mk)) (ls : List Line) → IsRefuted f ended 0 (λ a. None) ls → Settles f (owe_shares 0 ended) ls
last-settles f ended ls refuted = subst (Settles f (owed_branch ended [] ∷ [])) (no-more ls) (refuted [] (λ a m q. cc) (λ a l. refl) [] [] (λ at. refl))

pub shared-proves : (f : Flt) (n : ℕ) (ls : List Line) → Settles f (owe_shares n []) ls → Proves f (line.Shared n ∷ ls)
shared-proves f n ls s =
    step f owed_all (line.Shared n) (owe_shares n []) [] ls refl (subst (λ os. Settles f os ls) (sym (no-more (owe_shares n []))) s) 1

-- ---- a formula whose atoms are marked has a value

abbrev pub HasValue : Option Bool → Type 0
HasValue o = (b : Bool) × (o ≡ Some b)

chosen-value : (x y z : Option Bool) → HasValue x → HasValue y → HasValue z → HasValue (chosen x y z)
chosen-value (Some true) y z h i j = i
chosen-value (Some false) y z h i j = j
chosen-value None y z h i j = let p = h.1 in cc

agree-value : (x y : Option Bool) → HasValue x → HasValue y → HasValue (agree x y)
agree-value (Some x) (Some y) h i = (same_bool x y, refl)
agree-value None y h i = let p = h.1 in cc
agree-value (Some x) None h i = let p = i.1 in cc

all-first : (P : Tm → Type 0) (ts us : List Tm) → AllTm P (ts ++ us) → AllTm P ts
all-first P [] us h = tt
all-first P (t ∷ ts) us h = (h.0, all-first P ts us h.1)

all-rest : (P : Tm → Type 0) (ts us : List Tm) → AllTm P (ts ++ us) → AllTm P us
all-rest P [] us h = h
all-rest P (t ∷ ts) us h = all-rest P ts us h.1

pub reading-value : (look : Tm → Option Bool) (k : Skl) → AllTm (λ t. HasValue (look t)) (atoms_in k) → HasValue (reading look k)
reading-value look (k_truth b) h = (b, refl)
reading-value look (k_atom t) h = h.0
reading-value look (k_if c p q) h =
    let cp = all-first (λ (t : Tm). HasValue (look t)) (atoms_in c ++ atoms_in p) (atoms_in q) h in
    chosen-value (reading look c) (reading look p) (reading look q)
    (reading-value look c (all-first (λ (t : Tm). HasValue (look t)) (atoms_in c) (atoms_in p) cp)) (reading-value look p (all-rest (λ (t : Tm). HasValue (look t)) (atoms_in c) (atoms_in p) cp)) (reading-value look q (all-rest (λ (t : Tm). HasValue (look t)) (atoms_in c ++ atoms_in p) (atoms_in q) h))
reading-value look (k_same p q) h =
    agree-value (reading look p) (reading look q) (reading-value look p (all-first (λ (t : Tm). HasValue (look t)) (atoms_in p) (atoms_in q) h)) (reading-value look q (all-rest (λ (t : Tm). HasValue (look t)) (atoms_in p) (atoms_in q) h))
