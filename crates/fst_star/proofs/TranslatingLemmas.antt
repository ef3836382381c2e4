-- The translation, from the answers for its parts.
use Rattle.std.proofs.Common.{◌≡◌, ℕ, zero, suc, ◌<◌, if◌then◌else◌, List, [], ◌∷◌, ◌++◌, map, drop, get_or, length, reverse, refl, ap, ap₂, sym, ◌∙◌, arith}
use Rattle.fst_base.specs.Sorts.{Srt, plain_sort}
use Rattle.fst_terms.specs.declared.term.Term.{Term}
use Rattle.fst_terms.specs.Formulas.{negation, put, sort_of}
use Rattle.fst_terms.specs.Terms.{Tm, plain_term, shift, t_var}
use Rattle.fst_program.specs.declared.comp.Arm.{Arm}
use Rattle.fst_program.specs.declared.comp.Con.{Con}
use Rattle.fst_program.specs.declared.definition.DmTerm.{DmTerm}
use Rattle.fst_program.specs.Paths.{part_sorts, same_con, dm_family, selectors}
use Rattle.fst_program.specs.Plain.{plain_dm}
use Rattle.fst_program.specs.Texts.{Dm, DmArms, d_ret, d_let, d_if, d_match, d_run_f, d_run_g, d_end, d_arm}
use Rattle.fst_program.specs.declared.goal.Choice.TheVariants as choice
use Rattle.fst_program.proofs.PlainLemmas.{plain_dm_arms}
use Rattle.fst_scopes.specs.Scopes.{terms_for, sorts_in}
use Rattle.fst_star.specs.Transformers.{Wt, w_none, w_way, w_then, w_ways}
use Rattle.fst_star.specs.Translation.{con_ways, condition, dm_arms_sort, dm_sort, star, star_arm, term_needs}

-- ---- arms

dropped : {A : Type 0} (xs : List A) (k : ℕ) (x : A) → k < length xs → x ≡ get_or xs k x → drop k xs ≡ x ∷ drop (suc k) xs
dropped [] k x h e = absurd (omega (arith, h))
dropped (y ∷ xs) zero x h e = ap (λ z. z ∷ xs) (sym e)
dropped (y ∷ xs) (suc k) x h e = dropped xs k x (omega (arith, h)) e

pub sorted-arm : (rf rg : Srt) (Ss : List Srt) (S : Srt) (arms : List (Arm DmTerm)) (k : ℕ) (x : Arm DmTerm) (inner : List Srt) (m : Srt) → k < length arms → x ≡ get_or arms k x
    → dm_arms_sort rf rg Ss S (plain_dm_arms arms) ≡ dm_arms_sort rf rg Ss S (plain_dm_arms (drop k arms))
    → inner ≡ part_sorts x.con S ++ Ss → m ≡ dm_sort rf rg inner (plain_dm x.body) → m ≡ dm_arms_sort rf rg Ss S (plain_dm_arms arms)
sorted-arm rf rg Ss S arms k x inner m h is i e p =
    p ∙ ap (λ Ts. dm_sort rf rg Ts (plain_dm x.body)) e ∙ sym (i ∙ ap (λ l. dm_arms_sort rf rg Ss S (plain_dm_arms l)) (dropped arms k x h is))

-- ---- the translation reads no measures

same-ways : (cs : List Con) (S : Srt) (u : Tm) (f g : Con → List Tm → Wt) → ((c : Con) (parts : List Tm) → f c parts ≡ g c parts) → con_ways cs S u f ≡ con_ways cs S u g
same-ways [] S u f g e = refl
same-ways (c ∷ cs) S u f g e = ap₂ (λ w ws. w_way (choice.Case c) (condition c S u) w ws) (e c (selectors c S u)) (same-ways cs S u f g e)

module _ (rf rg : Srt) (f g : Wt) where
  mutual
    pub olds-unread : (Ss : List Srt) (os ps : List Tm) (us : List Tm) (n : ℕ) (d : Dm)
        → star rf rg f g (record { sorts = Ss; olds = os }) us n d ≡ star rf rg f g (record { sorts = Ss; olds = ps }) us n d
    olds-unread Ss os ps us n (d_ret t) = refl
    olds-unread Ss os ps us n (d_let x d1 d2) =
        ap₂ (λ v w. w_then v x w) (olds-unread Ss os ps us n d1)
        (olds-unread (dm_sort rf rg (map (sort_of Ss) us) d1 ∷ Ss) (map (shift 0 1) os) (map (shift 0 1) ps) (t_var 0 ∷ map (shift 0 1) us) (suc n) d2)
    olds-unread Ss os ps us n (d_if t d1 d2) =
        ap₂ (λ v w. term_needs t us (w_ways (w_way choice.Then (put us t) v (w_way choice.Else (negation (put us t)) w w_none)))) (olds-unread Ss os ps us n d1) (olds-unread Ss os ps us n d2)
    olds-unread Ss os ps us n (d_match t arms) =
        ap (λ ws. term_needs t us (w_ways ws)) (same-ways (dm_family arms) (sort_of Ss (put us t)) (put us t) _ _ (λ c parts. olds-unread-arms Ss os ps us n arms c parts))
    olds-unread Ss os ps us n (d_run_f t) = refl
    olds-unread Ss os ps us n (d_run_g t u) = refl

    olds-unread-arms : (Ss : List Srt) (os ps : List Tm) (us : List Tm) (n : ℕ) (arms : DmArms) (c : Con) (parts : List Tm)
        → star_arm rf rg f g (record { sorts = Ss; olds = os }) us n arms c parts ≡ star_arm rf rg f g (record { sorts = Ss; olds = ps }) us n arms c parts
    olds-unread-arms Ss os ps us n d_end c parts = refl
    olds-unread-arms Ss os ps us n (d_arm a xs d more) c parts =
        ap₂ (λ v w. if same_con a c then v else w) (olds-unread Ss os ps (reverse parts ++ us) n d) (olds-unread-arms Ss os ps us n more c parts)
