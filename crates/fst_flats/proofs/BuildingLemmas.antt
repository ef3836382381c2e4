-- Made terms, from the results that they are put together of.
use Rattle.std.proofs.Common.{◌≡◌, Bool, true, false, ◌||◌, if◌then◌else◌, List, [], ◌∷◌, ◌++◌, map, Result, Ok, Err, IfOk, sym, ap, ap₂, ◌∙◌}
use Rattle.std.proofs.lemmas.List.{map-append}
use Rattle.std.proofs.lemmas.Result.{IfOk-weaker, IfOk-at_ok}
use Rattle.std.specs.Result.{IsErrAnd}
use Rattle.fst_base.specs.declared.memory.OutOfMemory.{OutOfMemory}
use Rattle.fst_base.specs.declared.op.Op.{Op}
use Rattle.fst_base.specs.Sorts.{Srt}
use Rattle.fst_terms.specs.Terms.{Tm, t_if, t_prim, row, plain_term, plain_terms}
use Rattle.fst_terms.specs.DataFacts.{op_term}
use Rattle.fst_terms.specs.Same.{firsts, is_among}
use Rattle.fst_terms.specs.Skeletons.{first_atoms, turned}
use Rattle.fst_terms.specs.declared.term.Term.{Term}
use Rattle.fst_terms.specs.declared.term.Term.TheVariants as T
use Rattle.fst_terms.proofs.PlainLemmas.{plain-term-If}
use Rattle.fst_flats.specs.Makes.{Makes}
use Rattle.fst_flats.proofs.AtomForms.{atom-test}

-- what was made, where it is known
pub made-is : (a : Result Term OutOfMemory) (x : Term) (e : Tm) → a ≡ Ok x → Makes a e → plain_term x ≡ e
unfolding Makes
made-is a x e is h = IfOk-at_ok (λ t. plain_term t ≡ e) is h

pub makes-err : (d : OutOfMemory) (e : Tm) → Makes (Err d) e
unfolding Makes
makes-err d e = tt

-- the exit of a `?` makes nothing
pub makes-residual : (Q : OutOfMemory → Type 0) (r : Result Term OutOfMemory) (e : Tm) → IsErrAnd r Q → Makes r e
unfolding Makes
makes-residual Q (Ok t) e h = absurd h
makes-residual Q (Err d) e h = tt

-- what was made and put on the heap
pub boxed-is : (a b : Result Term OutOfMemory) (x : Term) (e : Tm) → b ≡ Ok x → IfOk b (λ made. a ≡ Ok made) → Makes a e → plain_term x ≡ e
boxed-is a b x e is h m = made-is a x e (IfOk-at_ok (λ made. a ≡ Ok made) is h) m

module _ (r : Result Term OutOfMemory) (o : Op) (S : Srt) where
  pub unary-by : (a : Result Term OutOfMemory) (x : Term) (ts : List Term) → a ≡ Ok x → ts ≡ x ∷ [] → IfOk r (λ made. plain_term made ≡ t_prim o S (plain_terms ts) 0)
      → (e : Tm) → Makes a e → Makes r (op_term o S (e ∷ []))
  unfolding Makes
  unary-by a x ts is l h e m =
      IfOk-weaker r _ _ (λ made p. p ∙ ap (λ ts. t_prim o S (plain_terms ts) 0) l ∙ ap (λ t. t_prim o S (row (t ∷ [])) 0) (made-is a x e is m)) h

  pub binary-by : (a b : Result Term OutOfMemory) (x y : Term) (ts : List Term) → a ≡ Ok x → b ≡ Ok y → ts ≡ x ∷ y ∷ []
      → IfOk r (λ made. plain_term made ≡ t_prim o S (plain_terms ts) 0) → (d e : Tm) → Makes a d → Makes b e → Makes r (op_term o S (d ∷ e ∷ []))
  unfolding Makes
  binary-by a b x y ts is js l h d e m n =
      IfOk-weaker r _ _ (λ made p. p ∙ ap (λ ts. t_prim o S (plain_terms ts) 0) l ∙ ap₂ (λ t u. t_prim o S (row (t ∷ u ∷ [])) 0) (made-is a x d is m) (made-is b y e js n)) h

pub choice-by : (a b c : Result Term OutOfMemory) (x y z : Term) → a ≡ Ok x → b ≡ Ok y → c ≡ Ok z → (d e f : Tm) → Makes a d → Makes b e → Makes c f → Makes (Ok (T.If x y z)) (t_if d e f)
unfolding Makes
choice-by a b c x y z is js ks d e f m n o =
    plain-term-If x y z ∙ ap₂ (λ u v. t_if u v (plain_term z)) (made-is a x d is m) (made-is b y e js n) ∙ ap (t_if d e) (made-is c z f ks o)

-- ---- lists that a made term is put into

pub pushed-is : (a : Result Term OutOfMemory) (x : Term) (old new : List Term) → a ≡ Ok x → new ≡ old ++ x ∷ [] → (e : Tm) → Makes a e → map plain_term new ≡ map plain_term old ++ e ∷ []
pushed-is a x old new is h e m = ap (map plain_term) h ∙ map-append plain_term old (x ∷ []) ∙ ap (λ t. map plain_term old ++ t ∷ []) (made-is a x e is m)

pub added-is : (a : Result Term OutOfMemory) (x y : Term) (old new : List Tm) → a ≡ Ok x → y ≡ x → new ≡ firsts old (plain_term y ∷ []) → (e : Tm) → Makes a e → new ≡ firsts old (e ∷ [])
added-is a x y old new is js h e m = h ∙ ap (λ t. firsts old (t ∷ [])) (ap plain_term js ∙ made-is a x e is m)

pub atom-is : (a : Result Term OutOfMemory) (x y : Term) (old new : List Tm) (e : Tm) → a ≡ Ok x → y ≡ x → Makes a e → new ≡ first_atoms old (plain_term y ∷ []) → new ≡ first_atoms old (e ∷ [])
atom-is a x y old new e is js m h = h ∙ ap (λ t. first_atoms old (t ∷ [])) (ap plain_term js ∙ made-is a x e is m)

-- a term that is no atom yet
pub atom-new : (t : Term) (old new : List Term) (a b : Bool) → a ≡ is_among (plain_term t) (map plain_term old) → a ≡ false → b ≡ is_among (turned (plain_term t)) (map plain_term old) → b ≡ false
    → new ≡ old ++ t ∷ [] → map plain_term new ≡ first_atoms (map plain_term old) (plain_term t ∷ [])
atom-new t old new a b p h q k e =
    ap (map plain_term) e ∙ map-append plain_term old (t ∷ [])
    ∙ sym (ap (λ b. if b then map plain_term old else map plain_term old ++ plain_term t ∷ [])
    (atom-test (plain_term t) (map plain_term old) ∙ ap₂ ◌||◌ (sym p ∙ h) (sym q ∙ k)))

-- one that is
pub atom-there : (t : Tm) (old : List Tm) (a : Bool) → a ≡ is_among t old → a ≡ true → old ≡ first_atoms old (t ∷ [])
atom-there t old a p h =
    sym (ap (λ b. if b then old else old ++ t ∷ []) (atom-test t old ∙ ap (λ a. a || is_among (turned t) old) (sym p ∙ h)))

pub atom-turned : (t : Tm) (old : List Tm) (a b : Bool) → a ≡ is_among t old → a ≡ false → b ≡ is_among (turned t) old → b ≡ true → old ≡ first_atoms old (t ∷ [])
atom-turned t old a b p h q k =
    sym (ap (λ b. if b then old else old ++ t ∷ []) (atom-test t old ∙ ap₂ ◌||◌ (sym p ∙ h) (sym q ∙ k)))
