-- Made terms, from the results that they are put together of.
use Rattle.std.proofs.Common.{◌≡◌, Bool, true, false, ◌||◌, if◌then◌else◌, List, [], ◌∷◌, ◌++◌, map, Result, Ok, Err, IfOk, sym, ap, ap₂, ◌∙◌}
use Rattle.std.proofs.lemmas.List.{map-append}
use Rattle.std.proofs.lemmas.Result.{IfOk-weaker, IfOk-at_ok}
use Rattle.std.specs.Result.{IsErrAnd}
use Rattle.fst_base.specs.declared.memory.OutOfMemory.{OutOfMemory}
use Rattle.fst_base.specs.declared.op.Op.{Op}
use Rattle.fst_base.specs.Sorts.{Srt}
use Rattle.fst_terms.specs.Terms.{Tm, t_if, t_prim, row, plain_term, plain_terms}
use Rattle.fst_terms.specs.DataFacts.{op_term}
use Rattle.fst_terms.specs.Same.{firsts, is_among}
use Rattle.fst_terms.specs.Skeletons.{first_atoms, turned}
use Rattle.fst_terms.specs.declared.term.Term.{Term}
use Rattle.fst_terms.specs.declared.term.Term.TheVariants as T
use Rattle.fst_terms.proofs.PlainLemmas.{plain-term-If}
use Rattle.fst_shapes.specs.Makes.{Makes}

-- what was made, where it is known
pub made-is : (a : Result Term OutOfMemory) (x : Term) (e : Tm) → a ≡ Ok x → Makes a e → plain_term x ≡ e
unfolding Makes
made-is a x e is h = IfOk-at_ok (λ t. plain_term t ≡ e) is h

pub makes-err : (d : OutOfMemory) (e : Tm) → Makes (Err d) e
unfolding Makes
makes-err d e = tt

-- the exit of a `?` makes nothing
pub makes-residual : (Q : OutOfMemory → Type 0) (r : Result Term OutOfMemory) (e : Tm) → IsErrAnd r Q → Makes r e
unfolding Makes
makes-residual Q (Ok t) e h = absurd h
makes-residual Q (Err d) e h = tt

-- what was made and put on the heap
pub boxed-is : (a b : Result Term OutOfMemory) (x : Term) (e : Tm) → b ≡ Ok x → IfOk b (λ made. a ≡ Ok made) → Makes a e → plain_term x ≡ e
boxed-is a b x e is h m = made-is a x e (IfOk-at_ok (λ made. a ≡ Ok made) is h) m

module _ (r : Result Term OutOfMemory) (o : Op) (S : Srt) where
  pub binary-by : (a b : Result Term OutOfMemory) (x y : Term) (ts : List Term) → a ≡ Ok x → b ≡ Ok y → ts ≡ x ∷ y ∷ []
      → IfOk r (λ made. plain_term made ≡ t_prim o S (plain_terms ts) 0) → (d e : Tm) → Makes a d → Makes b e → Makes r (op_term o S (d ∷ e ∷ []))
  unfolding Makes
  binary-by a b x y ts is js l h d e m n =
      IfOk-weaker r _ _ (λ made p. p ∙ ap (λ ts. t_prim o S (plain_terms ts) 0) l ∙ ap₂ (λ t u. t_prim o S (row (t ∷ u ∷ [])) 0) (made-is a x d is m) (made-is b y e js n)) h
