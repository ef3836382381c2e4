-- What an application unfolds to, from the answers for its parts.
use Rattle.std.proofs.Common.{◌≡◌, List, [], ◌∷◌, ◌++◌, map, reverse, refl, sym, ap, ap₂, ◌∙◌}
use Rattle.std.proofs.lemmas.List.{append_assoc, append-nil, reverse-append, reverse-reverse}
use Rattle.fst_base.specs.Sorts.{plain_sort}
use Rattle.fst_base.specs.declared.sort.Sort.{Sort}
use Rattle.fst_terms.specs.Terms.{Tm, plain_term}
use Rattle.fst_terms.specs.Meaning.{Vr, plain_var}
use Rattle.fst_terms.specs.declared.sequent.Var.{Var}
use Rattle.fst_program.specs.FunctionFacts.{own_args, own_input, unfolded}
use Rattle.fst_program.specs.Paths.{over, Way, suppose, suppose_all, demands_of}
use Rattle.fst_program.specs.Texts.{Fn, Prog}
use Rattle.fst_logicfun.specs.Ends.{End, ends}
use Rattle.fst_scopes.specs.Scopes.{sorts_in}
use Rattle.fst_logicfun.specs.Ways.{told, plain_end}
use Rattle.fst_logicfun.specs.declared.ways.End as walked
use Rattle.fst_terms.specs.DataFacts.{implies}
use Rattle.fst_terms.specs.Formulas.{equation, joined}
use Rattle.fst_logicfun.proofs.EndLemmas.{begun, unfolded-ends}
use Rattle.fst_logicfun.proofs.PutLemmas.{map-reverse}

suppose-all-hyps : (phis : List Tm) (w : Way) → (suppose_all phis w).hyps ≡ reverse phis ++ w.hyps
suppose-all-hyps [] w = refl
suppose-all-hyps (phi ∷ phis) w =
    suppose-all-hyps phis (suppose phi w) ∙ sym (append_assoc (reverse phis) (phi ∷ []) w.hyps) ∙ ap (λ hs. hs ++ w.hyps) (sym (reverse-append (phi ∷ []) phis))

one-each : {A B : Type 0} (f : A → B) (xs : List A) → over xs (λ x. f x ∷ []) ≡ map f xs
one-each f [] = refl
one-each f (x ∷ xs) = ap (λ ys. f x ∷ ys) (one-each f xs)

var-sorts : (xs : List Var) → map (λ (x : Vr). x.sort) (map plain_var xs) ≡ map (λ (x : Var). plain_sort x.sort) xs
var-sorts [] = refl
var-sorts (x ∷ xs) = ap (λ Ss. plain_sort x.sort ∷ Ss) (var-sorts xs)

abbrev implied : (application : Tm) → End → Tm
implied t e = implies (joined (reverse e.hyps)) (equation t e.result)

facts-told : (t : Tm) (es : List walked.End) → map (told t) es ≡ map (implied t) (map plain_end es)
facts-told t [] = refl
facts-told t (e ∷ es) = ap₂ (λ hs fs. implies (joined hs) (equation t (plain_term e.result)) ∷ fs) (sym (reverse-reverse (map plain_term e.hyps))) (facts-told t es)

pub unfolded-by : (P : Prog) (vars : List Var) (sorts slice : List Sort) (t : Tm) (f : Fn) (ts : List Tm) (s : Tm) (es eslice : List walked.End) (made : List Tm)
    → map plain_sort sorts ≡ map (λ (x : Var). plain_sort x.sort) vars → slice ≡ sorts
    → map plain_end es ≡ ends P (sorts_in slice) f.body (reverse ts) s (reverse (demands_of f ts s)) → eslice ≡ es → made ≡ map (told t) eslice
    → made ≡ unfolded P (reverse (map plain_var vars)) t f ts s
unfolded-by P vars sorts slice t f ts s es eslice made e sl h es' m =
    let Ss : sorts_in slice ≡ map (λ (x : Vr). x.sort) (reverse (map plain_var vars)) =
    ap (λ Ss. reverse (map plain_sort Ss)) sl ∙ ap reverse (e ∙ sym (var-sorts vars)) ∙ sym (map-reverse (λ (x : Vr). x.sort) (map plain_var vars)) in
    let hs : reverse (demands_of f ts s) ≡ (begun (reverse (map plain_var vars)) (demands_of f ts s)).hyps = sym (suppose-all-hyps (demands_of f ts s) _ ∙ append-nil (reverse (demands_of f ts s))) in
    m ∙ ap (map (told t)) es' ∙ facts-told t es ∙ ap (map (implied t)) (h ∙ ap₂ (λ Ss hs. ends P Ss f.body (reverse ts) s hs) Ss hs) ∙ sym (one-each (implied t) _)
    ∙ sym (unfolded-ends P (reverse (map plain_var vars)) t f ts s)

-- at the arguments and the input of an application
pub unfolded-at : (P : Prog) (vars : List Var) (sorts slice : List Sort) (t : Tm) (f : Fn) (ts : List Tm) (s : Tm) (all : List Tm) (es eslice : List walked.End) (made : List Tm)
    → map plain_sort sorts ≡ map (λ (x : Var). plain_sort x.sort) vars → slice ≡ sorts → ts ≡ own_args f.effect all → s ≡ own_input f.effect all
    → map plain_end es ≡ ends P (sorts_in slice) f.body (reverse ts) s (reverse (demands_of f ts s)) → eslice ≡ es → made ≡ map (told t) eslice
    → made ≡ unfolded P (reverse (map plain_var vars)) t f (own_args f.effect all) (own_input f.effect all)
unfolded-at P vars sorts slice t f ts s all es eslice made e sl a i h es' m =
    unfolded-by P vars sorts slice t f ts s es eslice made e sl h es' m ∙ ap₂ (unfolded P (reverse (map plain_var vars)) t f) a i
