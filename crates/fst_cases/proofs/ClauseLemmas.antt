-- A part that forces a formula, and the closing that it gives.
use Rattle.std.proofs.Common.{◌≡◌, Bool, true, false, not, Option, Some, None, refl, sym, subst}
use Rattle.fst_terms.specs.Terms.{Tm}
use Rattle.fst_terms.specs.Skeletons.{Skl, reading, chosen}
use Rattle.fst_cases.specs.Clauses.{Forces, forces_self, forces_conjunct, forces_last_conjunct, forces_disjunct, forces_last_disjunct, forces_premise, forces_conclusion, forces_not}

both-sides : (x : Option Bool) (b : Bool) → chosen x (Some b) (Some b) ≡ Some b
both-sides (Some true) b = refl
both-sides (Some false) b = refl
both-sides None true = refl
both-sides None false = refl

negated : (c : Bool) → chosen (Some c) (Some false) (Some true) ≡ Some (not c)
negated true = refl
negated false = refl

pub forced : (look : Tm → Option Bool) (b c : Bool) (s k : Skl) → Forces b s c k → reading look s ≡ Some b → reading look k ≡ Some c
forced look b c s k forces_self h = h
forced look b c s k (forces_conjunct {p = p} {q = q} i) h = subst (λ o. chosen o (reading look q) (Some false) ≡ Some false) (sym (forced look b false s p i h)) refl
forced look b c s k (forces_last_conjunct {p = p} {q = q} i) h = subst (λ o. chosen (reading look p) o (Some false) ≡ Some false) (sym (forced look b false s q i h)) (both-sides (reading look p) false)
forced look b c s k (forces_disjunct {p = p} {q = q} i) h = subst (λ o. chosen o (Some true) (reading look q) ≡ Some true) (sym (forced look b true s p i h)) refl
forced look b c s k (forces_last_disjunct {p = p} {q = q} i) h = subst (λ o. chosen (reading look p) (Some true) o ≡ Some true) (sym (forced look b true s q i h)) (both-sides (reading look p) true)
forced look b c s k (forces_premise {p = p} {q = q} i) h = subst (λ o. chosen o (reading look q) (Some true) ≡ Some true) (sym (forced look b false s p i h)) refl
forced look b c s k (forces_conclusion {p = p} {q = q} i) h = subst (λ o. chosen (reading look p) o (Some true) ≡ Some true) (sym (forced look b true s q i h)) (both-sides (reading look p) true)
forced look b c s k (forces_not {c = d} {p = p} i) h = subst (λ o. chosen o (Some false) (Some true) ≡ Some (not d)) (sym (forced look b d s p i h)) (negated d)
