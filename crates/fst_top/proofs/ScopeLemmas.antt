-- The last variable of a name, looked for from the last one on.
use Rattle.std.proofs.Common.{◌≡◌, ℕ, zero, suc, ◌+◌, ◌-◌, ◌<◌, ◌≤◌, Bool, true, false, if◌then◌else◌, List, [], ◌∷◌, map, reverse, length, drop, slice_get, get_or, Option, Some, None, refl, sym, ap, subst, ◌∙◌, arith, bytes_eq}
use Rattle.fst_terms.specs.Terms.{t_var}
use Rattle.fst_terms.specs.Meaning.{Vr}
use Rattle.std.proofs.Common.{Decides}
use Rattle.std.proofs.lemmas.Option.{slice_get_read}
use Rattle.std.proofs.lemmas.List.{get_or-reverse, get_or-map, length-map, length-reverse}
use Rattle.std.proofs.lemmas.Slice.Eq.{bytes_eq-Decides}
use Rattle.fst_top.specs.declared.elaborate.typed.Binding.{Binding}
use Rattle.fst_terms.specs.declared.term.Term.TheVariants as T
use Rattle.fst_terms.proofs.PlainLemmas.{plain-term-Var}
use Rattle.fst_top.specs.declared.elaborate.typed.BuiltSort.{BuiltSort}
use Rattle.fst_top.specs.Elaborating.{srt_of, binding_var, plain_typed}
use Rattle.fst_top.specs.Elaboration.{Typed, typed, variable}

-- what stands at an index begins the rest from there
pub drop-at : {A : Type 0} (k : ℕ) (xs : List A) (x : A) → slice_get xs k ≡ Some x → drop k xs ≡ x ∷ drop (suc k) xs
drop-at zero (y ∷ ys) x q = let e : y ≡ x = cc in ap (λ z. z ∷ ys) e
drop-at (suc k) (y ∷ ys) x q = drop-at k ys x q
drop-at zero [] x q = cc
drop-at (suc k) [] x q = cc

choose-here : (t u : Option Typed) (b : Bool) → b ≡ true → (if b then t else u) ≡ t
choose-here t u b e = rw e refl

choose-there : (t u : Option Typed) (b : Bool) → b ≡ false → (if b then t else u) ≡ u
choose-there t u b e = rw e refl

pub variable-here : (k : ℕ) (xs : List Vr) (x : Vr) (name : List ℕ) → slice_get xs k ≡ Some x → bytes_eq x.name name ≡ true → variable k (drop k xs) name ≡ typed (t_var k) x.sort
variable-here k xs x name q e = ap (λ ys. variable k ys name) (drop-at k xs x q) ∙ choose-here _ _ (bytes_eq x.name name) e

pub variable-later : (k : ℕ) (xs : List Vr) (x : Vr) (name : List ℕ) → slice_get xs k ≡ Some x → bytes_eq x.name name ≡ false → variable k (drop k xs) name ≡ variable (suc k) (drop (suc k) xs) name
variable-later k xs x name q e = ap (λ ys. variable k ys name) (drop-at k xs x q) ∙ choose-there _ _ (bytes_eq x.name name) e

pub variable-end : (k : ℕ) (xs : List Vr) (name : List ℕ) → length xs ≤ k → variable k (drop k xs) name ≡ None
variable-end k xs name h = ap (λ ys. variable k ys name) (drop-past k xs h)
  where
    drop-past : (k : ℕ) (xs : List Vr) → length xs ≤ k → drop k xs ≡ []
    drop-past zero [] h = refl
    drop-past (suc k) [] h = refl
    drop-past zero (x ∷ xs) h = absurd (omega (arith, h))
    drop-past (suc k) (x ∷ xs) h = drop-past k xs (omega (arith, h))

-- the k-th binding from the end is the k-th variable
pub turned-at : (bs : List Binding) (n k : ℕ) (b : Binding) → n ≡ length bs → k < n → b ≡ get_or bs (n - 1 - k) b → slice_get (reverse (map binding_var bs)) k ≡ Some (binding_var b)
turned-at bs n k b e lt q =
    let long : length (map binding_var bs) ≡ n = length-map bs binding_var ∙ sym e in
    slice_get_read (reverse (map binding_var bs)) n k (binding_var b) (sym (length-reverse (map binding_var bs) ∙ long)) lt
    (ap binding_var q ∙ sym (get_or-map binding_var bs (n - 1 - k) b (binding_var b) (omega (arith, e, lt))) ∙ ap (λ m. get_or (map binding_var bs) (m - 1 - k) (binding_var b)) (sym long) ∙ sym (get_or-reverse (map binding_var bs) k (binding_var b) (subst (λ m. k < m) (sym long) lt)))

pub step-here : (bs : List Binding) (n k : ℕ) (b : Binding) (name : List ℕ) → n ≡ length bs → k < n → b ≡ get_or bs (n - 1 - k) b → b.name.now ≡ name
    → variable 0 (reverse (map binding_var bs)) name ≡ variable k (drop k (reverse (map binding_var bs))) name → variable 0 (reverse (map binding_var bs)) name ≡ typed (t_var k) (srt_of b.sort)
step-here bs n k b name e lt q same h = h ∙ variable-here k _ (binding_var b) name (turned-at bs n k b e lt q) ((bytes_eq-Decides b.name.now name).1 same)

decided-false : {A : Type 0} (b : Bool) → Decides b A → (A → ⊥) → b ≡ false
decided-false true d n = absurd (n (d.0 refl))
decided-false false d n = refl

pub step-there : (bs : List Binding) (n k : ℕ) (b : Binding) (name : List ℕ) → n ≡ length bs → k < n → b ≡ get_or bs (n - 1 - k) b → (b.name.now ≡ name → ⊥)
    → variable 0 (reverse (map binding_var bs)) name ≡ variable k (drop k (reverse (map binding_var bs))) name → variable 0 (reverse (map binding_var bs)) name ≡ variable (k + 1) (drop (k + 1) (reverse (map binding_var bs))) name
step-there bs n k b name e lt q differ h =
    let one : suc k ≡ k + 1 = omega arith in
    h ∙ variable-later k _ (binding_var b) name (turned-at bs n k b e lt q) (decided-false _ (bytes_eq-Decides b.name.now name) differ) ∙ ap (λ m. variable m (drop m (reverse (map binding_var bs))) name) one

pub var-typed : (i k : ℕ) (S : BuiltSort) → i ≡ k → typed (t_var k) (srt_of S) ≡ Some (plain_typed (record { term = T.Var i; sort = S }))
var-typed i k S e = ap (λ t. typed t (srt_of S)) (ap t_var (sym e) ∙ sym (plain-term-Var i))
