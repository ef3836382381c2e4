-- Equations that are decided by their look.
use Rattle.std.proofs.Common.{◌≡◌, ℕ, Bool, true, false, List, [], ◌∷◌, Option, None, length, get_or, refl, sym, ap, ap₂, ◌∙◌, subst, rules}
use Rattle.std.proofs.lemmas.Bool.Decides.{same_from_decides}
use denote.Enum.Bare.{sameb, same_true, true_same}
use Rattle.fst_base.specs.Rows.{same_op}
use Rattle.fst_base.specs.declared.op.Op.{Op}
use Rattle.fst_base.specs.declared.op.Op.TheVariants as op
use Rattle.fst_base.specs.declared.place.Pos.{Pos}
use Rattle.fst_base.specs.declared.sort.Sort.{Sort}
use Rattle.fst_base.specs.Sorts.{Srt, s_bool, plain_sort}
use Rattle.fst_terms.specs.declared.term.Term.{Term}
use Rattle.fst_terms.specs.declared.term.Term.TheVariants as T
use Rattle.fst_terms.specs.Terms.{Tm, Tms, t_prim, t_end, t_more, plain_term, plain_terms}
use Rattle.fst_terms.proofs.PlainLemmas.{plain-term-Prim}
use Rattle.fst_terms.proofs.SameLemmas.{same_op-decides}
use Rattle.fst_program.specs.contracts.comp.Con.{the_type}
use Rattle.fst_program.specs.declared.comp.Con.{Con}
use Rattle.fst_program.specs.Paths.{con_of, same_con}
use Rattle.fst_star.specs.Walking.{both_cons, equated}
use Rattle.fst_star.proofs.ConWays.{same-con-is}
use Rattle.fst_star.proofs.SafeTransformers.{same-con-self}

pub same-con-by : (c d : Con) (b : Bool) → b ≡ sameb the_type c d → b ≡ same_con c d
same-con-by c d b e = e ∙ same_from_decides (sameb the_type c d) (same_con c d) (same_true the_type (search rules) c d, true_same the_type c d)
    (same-con-is c d, λ q. subst (λ x. same_con c x ≡ true) q (same-con-self c))

abbrev equation_of : List Term → Tm
equation_of ts = t_prim op.Eq s_bool (plain_terms ts) 0

pub two-equated : (ts : List Term) (x y : Term) → length ts ≡ 2 → x ≡ get_or ts 0 x → y ≡ get_or ts 1 y
    → both_cons (plain_term x) (plain_term y) (con_of (plain_term x)) (con_of (plain_term y)) ≡ equated (equation_of ts)
two-equated [] x y n p q = cc
two-equated (a ∷ []) x y n p q = cc
two-equated (a ∷ b ∷ []) x y n p q = ap₂ (λ x y. both_cons (plain_term x) (plain_term y) (con_of (plain_term x)) (con_of (plain_term y))) p q
two-equated (a ∷ b ∷ c ∷ ts) x y n p q = cc

pub not-two : (ts : List Term) → (length ts ≡ 2 → ⊥) → None ≡ equated (equation_of ts)
not-two [] n = refl
not-two (a ∷ []) n = refl
not-two (a ∷ b ∷ []) n = absurd (n refl)
not-two (a ∷ b ∷ c ∷ ts) n = refl

-- neither the sort nor the place counts
any-place : (S : Srt) (ts : Tms) (at : ℕ) → equated (t_prim op.Eq s_bool ts 0) ≡ equated (t_prim op.Eq S ts at)
any-place S t_end at = refl
any-place S (t_more t t_end) at = refl
any-place S (t_more t (t_more u t_end)) at = refl
any-place S (t_more t (t_more u (t_more v ts))) at = refl

other-equated : (o : Op) (S : Srt) (ts : Tms) (at : ℕ) → (o ≡ op.Eq → ⊥) → None ≡ equated (t_prim o S ts at)
other-equated op.Eq S ts at n = absurd (n refl)
other-equated o S ts at n = refl

pub Prim-equated : (t : Term) (o : Op) (S : Sort) (ts ts' : List Term) (at : Pos) (b : Bool) (r : Option Bool)
    → t ≡ T.Prim o S ts at → b ≡ same_op o op.Eq → b ≡ true → ts' ≡ ts → r ≡ equated (equation_of ts') → r ≡ equated (plain_term t)
Prim-equated t o S ts ts' at b r is d p q e =
    e ∙ ap (λ ts. equated (equation_of ts)) q ∙ any-place (plain_sort S) (plain_terms ts) at.at
    ∙ ap (λ o. equated (t_prim o (plain_sort S) (plain_terms ts) at.at)) (sym ((same_op-decides o op.Eq).0 (sym d ∙ p))) ∙ ap equated (sym (ap plain_term is ∙ plain-term-Prim o S ts at))

pub Prim-other : (t : Term) (o : Op) (S : Sort) (ts : List Term) (at : Pos) (b : Bool) → t ≡ T.Prim o S ts at → b ≡ same_op o op.Eq → b ≡ false → None ≡ equated (plain_term t)
Prim-other t o S ts at b is d n =
    let no : o ≡ op.Eq → ⊥ = λ e. let both : true ≡ false = sym ((same_op-decides o op.Eq).1 e) ∙ sym d ∙ n in cc in
    other-equated o (plain_sort S) (plain_terms ts) at.at no ∙ ap equated (sym (ap plain_term is ∙ plain-term-Prim o S ts at))
