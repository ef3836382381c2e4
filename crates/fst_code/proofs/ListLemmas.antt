-- A test of each item of a list, as a loop makes it; the tests of rows and arms are tests of lists.
use Rattle.std.proofs.Common.{◌≡◌, ℕ, zero, suc, ◌+◌, ◌<◌, Bool, true, false, ◌&&◌, List, [], ◌∷◌, length, get_or, take, refl, ap, sym, ◌∙◌, arith, add-one, lt-ltb, map, option_map, Option, Some, None}
use Rattle.std.specs.Prelude.{◌^◌, ◌-◌, min, nat_lt}
use Rattle.std.specs.List.{list_all}
use Rattle.fst_base.specs.declared.op.Op.{Op}
use Rattle.fst_base.specs.declared.place.Pos.{Pos}
use Rattle.fst_base.specs.declared.sort.Sort.{Sort}
use Rattle.fst_terms.specs.declared.term.Term.{Term}
use Rattle.fst_terms.specs.declared.term.Term.TheVariants as T
use Rattle.fst_terms.specs.Indices.{Stands}
use Rattle.fst_terms.proofs.PlainLemmas.{plain-term-Prim, plain-term-App}
use Rattle.fst_program.specs.declared.comp.Comp.TheVariants as V
use Rattle.fst_terms.specs.Terms.{plain_term, plain_terms}
use Rattle.fst_program.specs.declared.comp.Arm.{Arm}
use Rattle.fst_program.specs.declared.comp.Comp.{Comp}
use Rattle.fst_program.specs.declared.definition.DmTerm.{DmTerm}
use Rattle.fst_program.specs.Texts.{Prog, if_there}
use Rattle.fst_program.specs.Plain.{plain_comp, plain_dm, plain_effect, plain_lift}
use Rattle.fst_program.proofs.PlainLemmas.{plain_arms, plain_dm_arms, plain-comp-Call}
use Rattle.fst_code.specs.Within.{term_within, terms_within, dm_within, dm_arms_within}
use Rattle.fst_code.specs.Sound.{text_sound, arms_sound, is_there, is_sound, effect_sound, lift_sound, fun_sound}
use Rattle.fst_code.specs.Plain.{plain_code, plain_code_fun}
use Rattle.fst_code.specs.declared.code.Code.{Code}
use Rattle.fst_code.specs.declared.code.CodeFun.{CodeFun}

and-false : (b c : Bool) → c ≡ false → (b && c) ≡ false
and-false true c e = e
and-false false c e = refl

and-true : (b c : Bool) → b ≡ true → c ≡ true → (b && c) ≡ true
and-true true c e f = f
and-true false c e f = e

first-true : (b c : Bool) → (b && c) ≡ true → b ≡ true
first-true true c e = refl
first-true false c e = e

second-true : (b c : Bool) → (b && c) ≡ true → c ≡ true
second-true true c e = e
second-true false c e = cc

module _ {A : Type 0} (p : A → Bool) where
  -- an item that fails
  pub all-fails : (xs : List A) (k : ℕ) (d : A) → k < length xs → p (get_or xs k d) ≡ false → list_all p xs ≡ false
  all-fails [] k d h e = absurd (omega arith)
  all-fails (x ∷ xs) zero d h e = rw e refl
  all-fails (x ∷ xs) (suc k) d h e = and-false (p x) _ (all-fails xs k d (omega arith) e)

  all-suc : (xs : List A) (k : ℕ) (d : A) → k < length xs → list_all p (take k xs) ≡ true → p (get_or xs k d) ≡ true → list_all p (take (suc k) xs) ≡ true
  all-suc [] k d h e f = absurd (omega arith)
  all-suc (x ∷ xs) zero d h e f = and-true (p x) _ f refl
  all-suc (x ∷ xs) (suc k) d h e f = and-true (p x) _ (first-true _ (list_all p (take k xs)) e) (all-suc xs k d (omega arith) (second-true (p x) _ e) f)

  -- an item more that passes
  pub all-more : (xs : List A) (k : ℕ) (d : A) → k < length xs → list_all p (take k xs) ≡ true → p (get_or xs k d) ≡ true → list_all p (take (k + 1) xs) ≡ true
  all-more xs k d h e f = rw add-one (all-suc xs k d h e f)

pub terms-all : (n k : ℕ) (ts : List Term) → terms_within n k (plain_terms ts) ≡ list_all (λ t. term_within n k (plain_term t)) ts
terms-all n k [] = refl
terms-all n k (t ∷ ts) = ap (λ b. term_within n k (plain_term t) && b) (terms-all n k ts)

pub dm-arms-all : (n : ℕ) (arms : List (Arm DmTerm)) → dm_arms_within n (plain_dm_arms arms) ≡ list_all (λ arm. dm_within (length arm.names + n) (plain_dm arm.body)) arms
dm-arms-all n [] = refl
dm-arms-all n (arm ∷ arms) = ap (λ b. dm_within (length arm.names + n) (plain_dm arm.body) && b) (dm-arms-all n arms)

pub arms-all : (P : Prog) (n : ℕ) (arms : List (Arm Comp)) → arms_sound P n (plain_arms arms) ≡ list_all (λ arm. text_sound P (length arm.names + n) (plain_comp arm.body)) arms
arms-all P n [] = refl
arms-all P n (arm ∷ arms) = ap (λ b. text_sound P (length arm.names + n) (plain_comp arm.body) && b) (arms-all P n arms)

-- ---- the same, as the code has it

pub prim-by : (n k : ℕ) (o : Op) (S : Sort) (ts us : List Term) (at : Pos) (t : Term) (r : Bool) → t ≡ T.Prim o S ts at → us ≡ ts → r ≡ list_all (λ t. term_within n k (plain_term t)) us → r ≡ term_within n k (plain_term t)
prim-by n k o S ts us at t r e f h = h ∙ ap (list_all (λ t. term_within n k (plain_term t))) f ∙ sym (terms-all n k ts) ∙ sym (ap (λ t. term_within n k (plain_term t)) e ∙ ap (term_within n k) (plain-term-Prim o S ts at))

pub app-by : (n k j : ℕ) (S : Sort) (ts us : List Term) (t : Term) (r : Bool) → t ≡ T.App j S ts → us ≡ ts → nat_lt j k ≡ true → r ≡ list_all (λ t. term_within n k (plain_term t)) us → r ≡ term_within n k (plain_term t)
app-by n k j S ts us t r e f lt h = h ∙ ap (list_all (λ t. term_within n k (plain_term t))) f ∙ sym (terms-all n k ts) ∙ ap (λ b. b && terms_within n k (plain_terms ts)) (sym lt) ∙ sym (ap (λ t. term_within n k (plain_term t)) e ∙ ap (term_within n k) (plain-term-App j S ts))

pub call-by : (P : Prog) (n j : ℕ) (ts us : List Term) (at : Pos) (c : Comp) (r : Bool) → c ≡ V.Call j ts at → us ≡ ts → is_there P j ≡ true → r ≡ list_all (λ t. term_within n 0 (plain_term t)) us → r ≡ text_sound P n (plain_comp c)
call-by P n j ts us at c r e f there h = h ∙ ap (list_all (λ t. term_within n 0 (plain_term t))) f ∙ sym (terms-all n 0 ts) ∙ ap (λ b. b && terms_within n 0 (plain_terms ts)) (sym there) ∙ sym (ap (λ c. text_sound P n (plain_comp c)) e ∙ ap (text_sound P n) (plain-comp-Call j ts at))

-- under some variables more
pub Stands-plus : (number n k s : ℕ) → Stands number n → s ≡ min (number + k) (2 ^ 64 - 1) → Stands s (k + n)
Stands-plus number n k s h e = omega arith

pub below : (i n : ℕ) → i < n → nat_lt i n ≡ true
below i n h = lt-ltb i n h

-- ---- all of the code

list-map : {A B : Type 0} (p : B → Bool) (f : A → B) (xs : List A) → list_all p (map f xs) ≡ list_all (λ x. p (f x)) xs
list-map p f [] = refl
list-map p f (x ∷ xs) = ap (λ b. p (f x) && b) (list-map p f xs)

funs-map : (P : Prog) (fs : List (Option CodeFun)) → list_all (λ f. if_there f (fun_sound P) true) (map (option_map plain_code_fun) fs) ≡ list_all (λ f. if_there f (λ g. fun_sound P (plain_code_fun g)) true) fs
funs-map P [] = refl
funs-map P (None ∷ fs) = funs-map P fs
funs-map P (Some f ∷ fs) = ap (λ b. fun_sound P (plain_code_fun f) && b) (funs-map P fs)

pub sound-is : (c : Code) → is_sound (plain_code c) ≡ (list_all (λ d. effect_sound (plain_code c) (plain_effect d)) c.effects && list_all (λ l. lift_sound (plain_code c) (plain_lift l)) c.lifts && list_all (λ f. if_there f (λ g. fun_sound (plain_code c) (plain_code_fun g)) true) c.funs)
sound-is c = rw (list-map (effect_sound (plain_code c)) plain_effect c.effects, list-map (lift_sound (plain_code c)) plain_lift c.lifts, funs-map (plain_code c) c.funs) refl
