-- The plain tree of each variant of definition text, for search; the ends of a match.
use Rattle.std.proofs.Common.{◌≡◌, ℕ, List, [], ◌∷◌, map, Option, refl, sym, ap, ap₂, ◌∙◌}
use Rattle.fst_base.specs.Sorts.{Srt, plain_sort}
use Rattle.fst_base.specs.declared.sort.Sort.{Sort}
use Rattle.fst_terms.specs.Formulas.{put, sort_of, term_at}
use Rattle.fst_terms.specs.Terms.{Tm, plain_term}
use Rattle.fst_terms.specs.declared.term.Term.{Term}
use Rattle.fst_program.specs.declared.comp.Arm.{Arm}
use Rattle.fst_program.specs.declared.definition.DmTerm.{DmTerm}
use Rattle.fst_program.specs.declared.definition.DmTerm.TheVariants as W
use Rattle.fst_program.specs.declared.comp.Con.{Con}
use Rattle.fst_program.specs.Paths.{over, dm_arms_at, dm_family}
use Rattle.fst_program.specs.Texts.{DmArms, d_arm, d_end, d_let, d_match}
use Rattle.fst_program.specs.Plain.{plain_dm}
use Rattle.fst_program.proofs.PlainLemmas.{plain-dm-Ret, plain-dm-Let, plain-dm-If, plain-dm-RunF, plain-dm-RunG, plain-dm-Match, plain_dm_arms}
use Rattle.fst_logicfun.specs.Ends.{End, takings}
use Rattle.fst_scopes.specs.Scopes.{terms_for, sorts_in}
use Rattle.fst_logicfun.specs.Turns.{dm_arm_ends_at, dm_arms_in, dm_ends_at, dm_first_con}
use Rattle.fst_logicfun.specs.Ways.{family_of, plain_taken}
use Rattle.fst_logicfun.specs.declared.ways.Taken as walked
use Rattle.fst_logicfun.specs.declared.ways.At.{At}
use Rattle.fst_logicfun.specs.declared.ways.Header.{Header}

pub ruleset dm_variants = (plain-dm-Ret, plain-dm-Let, plain-dm-If, plain-dm-RunF, plain-dm-RunG)

arms-in : (arms : List (Arm DmTerm)) → dm_arms_in arms ≡ plain_dm_arms arms
arms-in [] = refl
arms-in (arm ∷ more) = ap (d_arm arm.con arm.names (plain_dm arm.body)) (arms-in more)

pub match-ends-by : (h : Header) (at : At) (x : Term) (arms slice : List (Arm DmTerm)) (t : DmTerm) (made : List End) → t ≡ W.Match x arms → slice ≡ arms
    → made ≡ dm_ends_at (d_match (plain_term x) (dm_arms_in slice)) h at → made ≡ dm_ends_at (plain_dm t) h at
match-ends-by h at x arms slice t made is s e =
    e ∙ ap (λ arms. dm_ends_at (d_match (plain_term x) arms) h at) (ap dm_arms_in s ∙ arms-in arms) ∙ sym (ap (λ t. dm_ends_at (plain_dm t) h at) is ∙ ap (λ d. dm_ends_at d h at) (plain-dm-Match x arms))

family-at : (A B : Srt) (arms : DmArms) → family_of (dm_first_con arms) ≡ dm_family (dm_arms_at A B arms)
family-at A B d_end = refl
family-at A B (d_arm c xs d more) = refl

-- a match on a term, from the ways of its constructors
pub match-by : (h : Header) (at : At) (x : Tm) (arms : DmArms) (u u1 u2 : Term) (S S1 : Sort) (first : Option Con) (ways slice : List walked.Taken) (made : List End)
    → plain_term u ≡ put (terms_for at.scope.now) (term_at (plain_sort h.a) (plain_sort h.b) x) → u1 ≡ u → plain_sort S ≡ sort_of (sorts_in at.sorts.now) (plain_term u1)
    → first ≡ dm_first_con arms → S1 ≡ S → u2 ≡ u → map plain_taken ways ≡ takings (family_of first) (plain_sort S1) (plain_term u2) (terms_for at.hyps.now)
    → slice ≡ ways → made ≡ over (map plain_taken slice) (dm_arm_ends_at arms h at) → made ≡ dm_ends_at (d_match x arms) h at
match-by h at x arms u u1 u2 S S1 first ways slice made e e1 s f s1 e2 w sl m =
    let v : Tm = put (terms_for at.scope.now) (term_at (plain_sort h.a) (plain_sort h.b) x) in
    let hs : List Tm = terms_for at.hyps.now in
    let sort : plain_sort S1 ≡ sort_of (sorts_in at.sorts.now) v = ap plain_sort s1 ∙ s ∙ ap (sort_of (sorts_in at.sorts.now)) (ap plain_term e1 ∙ e) in
    let cons : family_of first ≡ dm_family (dm_arms_at (plain_sort h.a) (plain_sort h.b) arms) = ap family_of f ∙ family-at (plain_sort h.a) (plain_sort h.b) arms in
    let taken : map plain_taken ways ≡ takings (dm_family (dm_arms_at (plain_sort h.a) (plain_sort h.b) arms)) (sort_of (sorts_in at.sorts.now) v) v hs =
    w ∙ ap (λ cs. takings cs (plain_sort S1) (plain_term u2) hs) cons ∙ ap₂ (λ S u. takings (dm_family (dm_arms_at (plain_sort h.a) (plain_sort h.b) arms)) S u hs) sort (ap plain_term e2 ∙ e) in
    m ∙ ap (λ ts. over ts (dm_arm_ends_at arms h at)) (ap (map plain_taken) sl ∙ taken)

pub let-ends-by : (h : Header) (at : At) (x : List ℕ) (d e d' e' t : DmTerm) (made : List End) → t ≡ W.Let x d e → d' ≡ d → e' ≡ e
    → made ≡ dm_ends_at (d_let [] (plain_dm d') (plain_dm e')) h at → made ≡ dm_ends_at (plain_dm t) h at
let-ends-by h at x d e d' e' t made is f g m =
    m ∙ ap₂ (λ d e. dm_ends_at (d_let [] (plain_dm d) (plain_dm e)) h at) f g ∙ sym (ap (λ t. dm_ends_at (plain_dm t) h at) is ∙ ap (λ d. dm_ends_at d h at) (plain-dm-Let x d e))
