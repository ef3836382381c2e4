-- The words of a run are one list of values, or have one first bad word.
use Rattle.std.proofs.Common.{◌≡◌, ◌⊎◌, inl, inr, ℕ, suc, ◌+◌, List, [], ◌∷◌, ◌++◌, length, map, refl, sym, ap, ap₂, ◌∙◌, subst, arith, append_assoc}
use Rattle.std.proofs.lemmas.List.{append-nil, length-append, map-append}
use Rattle.fst_base.specs.declared.value.Value.{Value}
use Rattle.fst_base.specs.Primitives.{InRange}
use Rattle.fst_base.specs.Sorts.{Srt}
use Rattle.fst_base.specs.Values.{Val, plain_value}
use Rattle.fst_program.specs.declared.fun.Param.{Param}
use Rattle.fst_program.specs.Plain.{plain_param}
use Rattle.fst_program.specs.Good.{HaveAll}
use Rattle.fst_program.specs.Texts.{Prm}
use Rattle.fst_values.proofs.CompleteLemmas.{one_value}
use Rattle.fst_values.proofs.HasLemmas.{text-has}
use Rattle.fst_values.specs.Texts.{IsText}
use Rattle.fst_values.specs.Tokens.{skip}
use Rattle.fst_top.specs.Arguments.{IsArgument, AreArguments, IsBadArgument}

-- ---- one answer

pub arguments-one : (ps : List Prm) (ws : List (List ℕ)) (us vs : List Val) → AreArguments ps ws us → AreArguments ps ws vs → us ≡ vs
arguments-one [] [] [] [] h k = refl
arguments-one [] [] [] (v ∷ vs) h k = absurd k
arguments-one [] [] (u ∷ us) vs h k = absurd h
arguments-one [] (w ∷ ws) us vs h k = absurd h
arguments-one (p ∷ ps) [] us vs h k = absurd h
arguments-one (p ∷ ps) (w ∷ ws) [] vs h k = absurd h
arguments-one (p ∷ ps) (w ∷ ws) (u ∷ us) [] h k = absurd k
arguments-one (p ∷ ps) (w ∷ ws) (u ∷ us) (v ∷ vs) h k = ap₂ ◌∷◌ (one_value p.sort u v w h.0.0 k.0.0) (arguments-one ps ws us vs h.1 k.1)

pub bad-not-good : (ps : List Prm) (ws : List (List ℕ)) (k : ℕ) (vs : List Val) → IsBadArgument ps ws k → AreArguments ps ws vs → ⊥
bad-not-good [] [] k vs b h = b
bad-not-good [] (w ∷ ws) k vs b h = h
bad-not-good (p ∷ ps) [] k vs b h = h
bad-not-good (p ∷ ps) (w ∷ ws) k [] b h = h
bad-not-good (p ∷ ps) (w ∷ ws) k (v ∷ vs) (inl b) h = b.1 v h.0
bad-not-good (p ∷ ps) (w ∷ ws) k (v ∷ vs) (inr b) h = bad-not-good ps ws b.1.1.0 vs b.1.1.1.1 h.1

pub bad-one : (ps : List Prm) (ws : List (List ℕ)) (j k : ℕ) → IsBadArgument ps ws j → IsBadArgument ps ws k → j ≡ k
bad-one [] [] j k b c = absurd b
bad-one [] (w ∷ ws) j k b c = b ∙ sym c
bad-one (p ∷ ps) [] j k b c = b ∙ sym c
bad-one (p ∷ ps) (w ∷ ws) j k (inl b) (inl c) = b.0 ∙ sym c.0
bad-one (p ∷ ps) (w ∷ ws) j k (inl b) (inr c) = absurd (b.1 c.0 c.1.0)
bad-one (p ∷ ps) (w ∷ ws) j k (inr b) (inl c) = absurd (c.1 b.0 b.1.0)
bad-one (p ∷ ps) (w ∷ ws) j k (inr b) (inr c) = b.1.1.1.0 ∙ ap suc (bad-one ps ws b.1.1.0 c.1.1.0 b.1.1.1.1 c.1.1.1.1) ∙ sym c.1.1.1.0

-- ---- sorts

pub arguments-have : (ps : List Prm) (ws : List (List ℕ)) (vs : List Val) → AreArguments ps ws vs → HaveAll ps vs
arguments-have [] [] [] h = tt
arguments-have [] [] (v ∷ vs) h = absurd h
arguments-have [] (w ∷ ws) vs h = absurd h
arguments-have (p ∷ ps) [] vs h = absurd h
arguments-have (p ∷ ps) (w ∷ ws) [] h = absurd h
arguments-have (p ∷ ps) (w ∷ ws) (v ∷ vs) h = (text-has p.sort v (skip w) [] h.0.0, arguments-have ps ws vs h.1)

-- ---- word by word

-- what is told of the parameters and the words that are left is told of all, behind the values so far
pub record Follows (ps : List Prm) (ws : List (List ℕ)) (left : List Prm) (words : List (List ℕ)) (done : List Val) : Type 0 where
  pub values : (vs : List Val) → AreArguments left words vs → AreArguments ps ws (done ++ vs)
  pub bad : (k : ℕ) → IsBadArgument left words k → IsBadArgument ps ws (length done + k)

pub follows-start : (ps : List Prm) (ws : List (List ℕ)) → Follows ps ws ps ws []
follows-start ps ws = record {
  values = λ vs h. h;
  bad = λ k h. let z : k ≡ 0 + k = omega arith in subst (IsBadArgument ps ws) z h;
}

pub follows-more : (ps : List Prm) (ws : List (List ℕ)) (p : Prm) (left : List Prm) (w : List ℕ) (words : List (List ℕ)) (done : List Val) (v : Val)
    → IsArgument p.sort w v → Follows ps ws (p ∷ left) (w ∷ words) done → Follows ps ws left words (done ++ v ∷ [])
follows-more ps ws p left w words done v a f = record {
  values = λ vs h. subst (AreArguments ps ws) (sym (append_assoc done (v ∷ []) vs)) (f.values (v ∷ vs) (a, h));
  bad = λ k h.
      let l = length-append done (v ∷ []) in
      let z : length done + suc k ≡ length (done ++ v ∷ []) + k = omega (arith, l) in
      subst (IsBadArgument ps ws) z (f.bad (suc k) (inr (v, (a, (k, (refl, h))))));
}

-- the same where the value is appended
pub follows-pushed : (ps : List Prm) (ws : List (List ℕ)) (p : Param) (left : List Param) (w : List ℕ) (words : List (List ℕ)) (values pushed : List Value) (v : Value) → pushed ≡ values ++ v ∷ []
    → IsArgument (plain_param p).sort w (plain_value v) → Follows ps ws (map plain_param (p ∷ left)) (w ∷ words) (map plain_value values) → Follows ps ws (map plain_param left) words (map plain_value pushed)
follows-pushed ps ws p left w words values pushed v e a f =
    subst (Follows ps ws (map plain_param left) words) (sym (map-append plain_value values (v ∷ [])) ∙ ap (map plain_value) (sym e))
    (follows-more ps ws (plain_param p) (map plain_param left) w words (map plain_value values) (plain_value v) a f)

-- where no parameter and no word is left
pub all-are-arguments : (ps : List Prm) (ws : List (List ℕ)) (values : List Value) (left : List Param) (words : List (List ℕ)) → length left ≡ 0 → length words ≡ 0 → Follows ps ws (map plain_param left) words (map plain_value values) → AreArguments ps ws (map plain_value values)
all-are-arguments ps ws values [] [] e n f = subst (AreArguments ps ws) (append-nil (map plain_value values)) (f.values [] tt)
all-are-arguments ps ws values [] (w ∷ words) e n f = absurd (omega (arith, n))
all-are-arguments ps ws values (p ∷ left) words e n f = absurd (omega (arith, e))

-- a word that is a text of a value past 128 bits is no argument
pub too-wide-none : (S : Srt) (bytes word : List ℕ) → bytes ≡ word → (w : Val) × (IsText S w bytes × (InRange w → ⊥)) → (v : Val) → IsArgument S word v → ⊥
too-wide-none S bytes word e h v a = h.1.1 (subst InRange (one_value S v h.0 word a.0 (subst (IsText S h.0) e h.1.0)) a.1)
