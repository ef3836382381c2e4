-- Lemmas on printed texts.
use Rattle.std.proofs.Common.{◌≡◌, ◌↔◌, ℕ, zero, suc, ◌-◌, ◌<◌, ◌≤◌, Bool, true, false, if◌then◌else◌, IsTrue, List, [], ◌∷◌, ◌++◌, get_or, codes, Result, Ok, Err, OnOk, map, length, take, slice_get, Option, Some, None, refl, sym, ap, ap₂, ◌∙◌, arith, bytes_eq}
use Rattle.std.specs.Prelude.{nat_lt}
use Rattle.std.proofs.lemmas.List.{length-map, append_assoc}
use Rattle.fst_program.specs.Texts.{Prog}
use Rattle.fst_program.specs.Paths.{goals_of}
use Rattle.fst_terms.specs.declared.sequent.Var.{Var}
use Rattle.fst_terms.specs.Meaning.{Vr, plain_var}
use Rattle.std.proofs.lemmas.Slice.Eq.{bytes_eq-Decides}
use Rattle.fst_top.specs.Printed.{counted, yes_text, count_of_name, numbered, variable_behind, variable_text}

-- a test that decides equality of names is the test of the definition
pub same-name-is : (b : Bool) (x y : List ℕ) → IsTrue b ↔ (x ≡ y) → b ≡ bytes_eq x y
same-name-is b x y h = go b (bytes_eq x y) refl (λ e. h.0 e) (λ e. h.1 e)
  where
    go : (b c : Bool) → bytes_eq x y ≡ c → (IsTrue b → x ≡ y) → (x ≡ y → IsTrue b) → b ≡ bytes_eq x y
    go true true e f g = sym e
    go false false e f g = sym e
    go true false e f g = sym ((bytes_eq-Decides x y).1 (f refl))
    go false true e f g = g ((bytes_eq-Decides x y).0 e) ∙ sym e

take-map : {A B : Type 0} (f : A → B) (n : ℕ) (xs : List A) → take n (map f xs) ≡ map f (take n xs)
take-map f zero xs = refl
take-map f (suc n) [] = refl
take-map f (suc n) (x ∷ xs) = ap (λ ys. f x ∷ ys) (take-map f n xs)

get-map : {A B : Type 0} (f : A → B) (n : ℕ) (xs : List A) (x : A) → slice_get xs n ≡ Some x → slice_get (map f xs) n ≡ Some (f x)
get-map f zero [] x e = cc
get-map f (suc n) [] x e = cc
get-map f zero (y ∷ xs) x e = let q : y ≡ x = cc in ap (λ z. Some (f z)) q
get-map f (suc n) (y ∷ xs) x e = get-map f n xs x e

get-map-none : {A B : Type 0} (f : A → B) (n : ℕ) (xs : List A) → slice_get xs n ≡ None → slice_get (map f xs) n ≡ None
get-map-none f zero [] e = refl
get-map-none f (suc n) [] e = refl
get-map-none f zero (y ∷ xs) e = cc
get-map-none f (suc n) (y ∷ xs) e = get-map-none f n xs e

-- a variable with the ones before it
pub variable-there : (vars : List Var) (at : ℕ) (x : Var) → slice_get vars at ≡ Some x
    → variable_behind (take at (map plain_var vars)) (slice_get (map plain_var vars) at) ≡ numbered x.name (count_of_name x.name (map plain_var (take at vars)))
variable-there vars at x e = ap₂ variable_behind (take-map plain_var at vars) (get-map plain_var at vars x e)

pub no-variable-there : (vars : List Var) (at : ℕ) → slice_get vars at ≡ None → variable_behind (take at (map plain_var vars)) (slice_get (map plain_var vars) at) ≡ []
no-variable-there vars at e = ap (variable_behind (take at (map plain_var vars))) (get-map-none plain_var at vars e)

chosen-first : (b : Bool) (x y : List ℕ) → b ≡ true → (if b then x else y) ≡ x
chosen-first b x y e = rw e refl

chosen-second : (b : Bool) (x y : List ℕ) → b ≡ false → (if b then x else y) ≡ y
chosen-second b x y e = rw e refl

-- the variable of an index stands as many places before the last one
pub variable-within : (vars : List Var) (i : ℕ) → i < length vars
    → variable_text (map plain_var vars) i ≡ variable_behind (take (length vars - 1 - i) (map plain_var vars)) (slice_get (map plain_var vars) (length vars - 1 - i))
variable-within vars i h = rw (length-map vars plain_var) (chosen-first (nat_lt i (length vars)) _ _ (grind arith))

pub variable-past : (vars : List Var) (i : ℕ) → length vars ≤ i → variable_text (map plain_var vars) i ≡ []
variable-past vars i h = rw (length-map vars plain_var) (chosen-second (nat_lt i (length vars)) _ _ (grind arith))

-- what holds where a call went well gives what follows from it
pub on-ok : {A B : Type 0} {X Y : Type 0} (r : Result X Y) → (A → B) → OnOk r A → OnOk r B
on-ok (Ok x) f h = f h
on-ok (Err e) f h = tt

pub yes-text : (P : Prog) (old a b c : List ℕ) (n m : ℕ) → n ≡ length P.funs → m ≡ length (goals_of P)
    → a ≡ old ++ codes "checked: " → b ≡ a ++ counted n (codes " functions, ") → c ≡ b ++ counted m (codes " goals\n") → c ≡ old ++ yes_text P
yes-text P old a b c n m e f g h k =
    k ∙ ap₂ (λ x i. x ++ counted i (codes " goals\n")) (h ∙ ap₂ (λ x i. x ++ counted i (codes " functions, ")) g e) f
    ∙ append_assoc (old ++ codes "checked: ") _ _ ∙ append_assoc old _ _

-- an item that stands there
pub get-there : {A : Type 0} (xs : List A) (i : ℕ) (x d : A) → i < length xs → x ≡ get_or xs i d → slice_get xs i ≡ Some x
get-there [] i x d h e = absurd (omega (arith, h))
get-there (y ∷ xs) zero x d h e = ap Some (sym e)
get-there (y ∷ xs) (suc i) x d h e = get-there xs i x d (omega (arith, h)) e
