-- What answers among several lists of broken rules, grouped as the code joins it.
use Rattle.std.proofs.Common.{◌≡◌, List, ◌++◌, Option, ap, ◌∙◌}
use Rattle.fst_names.specs.declared.broken.Broken.{Broken}
use Rattle.fst_names.specs.Broken.{first_broken, least}
use Rattle.fst_names.proofs.BrokenLemmas.{least-assoc}
use Rattle.fst_names.proofs.CheckTextLemmas.{two, four}

abbrev F : List Broken → Option Broken
F = first_broken

-- one list more
onto : (a b : List Broken) (o : Option Broken) → F a ≡ o → F (a ++ b) ≡ least o (F b)
onto a b o e = two a b ∙ ap (λ p. least p (F b)) e

five : (a b c d e : List Broken) → F (a ++ b ++ c ++ d ++ e) ≡ least (least (least (least (F a) (F b)) (F c)) (F d)) (F e)
five a b c d e = onto (a ++ b ++ c ++ d) e _ (four a b c d)

six : (a b c d e f : List Broken) → F (a ++ b ++ c ++ d ++ e ++ f) ≡ least (least (least (least (least (F a) (F b)) (F c)) (F d)) (F e)) (F f)
six a b c d e f = onto (a ++ b ++ c ++ d ++ e) f _ (five a b c d e)

seven : (a b c d e f g : List Broken) → F (a ++ b ++ c ++ d ++ e ++ f ++ g) ≡ least (least (least (least (least (least (F a) (F b)) (F c)) (F d)) (F e)) (F f)) (F g)
seven a b c d e f g = onto (a ++ b ++ c ++ d ++ e ++ f) g _ (six a b c d e f)

eight : (a b c d e f g h : List Broken) → F (a ++ b ++ c ++ d ++ e ++ f ++ g ++ h) ≡ least (least (least (least (least (least (least (F a) (F b)) (F c)) (F d)) (F e)) (F f)) (F g)) (F h)
eight a b c d e f g h = onto (a ++ b ++ c ++ d ++ e ++ f ++ g) h _ (seven a b c d e f g)

-- the parts of a lift
pub in_lift : (a b c d : List Broken) → F (a ++ b ++ c ++ d) ≡ least (least (F a) (F b)) (least (F c) (F d))
in_lift a b c d = four a b c d ∙ least-assoc (least (F a) (F b)) (F c) (F d)

-- the parts of an effect
pub in_effect : (a b c d e f g : List Broken) → F (a ++ b ++ c ++ d ++ e ++ f ++ g) ≡ least (least (least (least (F a) (F b)) (F c)) (least (F d) (F e))) (least (F f) (F g))
in_effect a b c d e f g =
    let p = least (least (F a) (F b)) (F c) in
    seven a b c d e f g
    ∙ ap (λ q. least (least q (F f)) (F g)) (least-assoc p (F d) (F e))
    ∙ least-assoc (least p (least (F d) (F e))) (F f) (F g)

regroup : (a b c d e f g h : Option Broken) → least (least (least (least (least (least (least a b) c) d) e) f) g) h ≡ least (least a (least b c)) (least (least (least d e) (least f g)) h)
regroup a b c d e f g h =
    let p = least a (least b c) in
    ap (λ q. least (least (least (least (least q d) e) f) g) h) (least-assoc a b c)
    ∙ ap (λ q. least (least (least q f) g) h) (least-assoc p d e)
    ∙ ap (λ q. least q h) (least-assoc (least p (least d e)) f g ∙ least-assoc p (least d e) (least f g))
    ∙ least-assoc p (least (least d e) (least f g)) h

-- the parts of a function
pub in_fun : (a b c d e f g h i : List Broken)
    → F (a ++ b ++ c ++ d ++ e ++ f ++ g ++ h ++ i) ≡ least (least (least (F a) (least (F b) (F c))) (least (least (least (F d) (F e)) (least (F f) (F g))) (F h))) (F i)
in_fun a b c d e f g h i = onto (a ++ b ++ c ++ d ++ e ++ f ++ g ++ h) i _ (eight a b c d e f g h ∙ regroup (F a) (F b) (F c) (F d) (F e) (F f) (F g) (F h))
