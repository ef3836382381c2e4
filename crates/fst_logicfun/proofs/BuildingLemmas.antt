-- Made terms, from the results that they are put together of.
use Rattle.std.proofs.Common.{◌≡◌, List, [], ◌∷◌, Result, Ok, Err, IfOk, ap, ap₂, ◌∙◌}
use Rattle.std.proofs.lemmas.Result.{IfOk-weaker, IfOk-at_ok}
use Rattle.std.specs.Result.{IsErrAnd}
use Rattle.fst_base.specs.declared.memory.OutOfMemory.{OutOfMemory}
use Rattle.fst_base.specs.declared.op.Op.{Op}
use Rattle.fst_base.specs.Sorts.{Srt}
use Rattle.fst_terms.specs.Terms.{Tm, t_if, t_prim, row, plain_term, plain_terms}
use Rattle.fst_terms.specs.DataFacts.{op_term}
use Rattle.fst_terms.specs.declared.term.Term.{Term}
use Rattle.fst_terms.specs.declared.term.Term.TheVariants as T
use Rattle.fst_terms.proofs.PlainLemmas.{plain-term-If}
use Rattle.fst_logicfun.specs.Makes.{Makes}

-- what was made, where it is known
pub made-is : (a : Result Term OutOfMemory) (x : Term) (e : Tm) → a ≡ Ok x → Makes a e → plain_term x ≡ e
unfolding Makes
made-is a x e is h = IfOk-at_ok (λ t. plain_term t ≡ e) is h

-- the exit of a `?` makes nothing
pub makes-residual : (Q : OutOfMemory → Type 0) (r : Result Term OutOfMemory) (e : Tm) → IsErrAnd r Q → Makes r e
unfolding Makes
makes-residual Q (Ok t) e h = absurd h
makes-residual Q (Err d) e h = tt

pub binary-by : (r : Result Term OutOfMemory) (o : Op) (S : Srt) (a b : Result Term OutOfMemory) (x y : Term) (ts : List Term) → a ≡ Ok x → b ≡ Ok y → ts ≡ x ∷ y ∷ []
    → IfOk r (λ made. plain_term made ≡ t_prim o S (plain_terms ts) 0) → (d e : Tm) → Makes a d → Makes b e → Makes r (op_term o S (d ∷ e ∷ []))
unfolding Makes
binary-by r o S a b x y ts is js l h d e m n =
    IfOk-weaker r _ _ (λ made p. p ∙ ap (λ ts. t_prim o S (plain_terms ts) 0) l ∙ ap₂ (λ t u. t_prim o S (row (t ∷ u ∷ [])) 0) (made-is a x d is m) (made-is b y e js n)) h

pub choice-by : (a b c : Result Term OutOfMemory) (x y z : Term) → a ≡ Ok x → b ≡ Ok y → c ≡ Ok z → (d e f : Tm) → Makes a d → Makes b e → Makes c f → Makes (Ok (T.If x y z)) (t_if d e f)
unfolding Makes
choice-by a b c x y z is js ks d e f m n o =
    plain-term-If x y z ∙ ap₂ (λ u v. t_if u v (plain_term z)) (made-is a x d is m) (made-is b y e js n) ∙ ap (t_if d e) (made-is c z f ks o)
