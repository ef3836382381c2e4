-- What a search makes of a flat form once is what it asks for.
use Rattle.std.proofs.Common.{◌≡◌, ℕ, zero, suc, ◌<◌, Bool, true, false, List, [], ◌∷◌, length, map, get_or, slice_get, Option, Some, None, refl, sym, ap, ◌∙◌, subst, arith}
use Rattle.std.proofs.lemmas.List.{length-map}
use Rattle.fst_base.specs.declared.op.Op.TheVariants as op
use Rattle.fst_terms.specs.Terms.{Tm, t_bool, t_unit, t_prim, listed}
use Rattle.fst_terms.specs.Flats.{Flt}
use Rattle.fst_terms.specs.Skeletons.{arg_of, rest_of}
use Rattle.fst_terms.specs.Marks.{at_number}
use Rattle.fst_terms.specs.Branches.{IsNumbered}
use Rattle.fst_congruence.specs.Numbered.{number_of, term_at, IsNumber}
use Rattle.fst_cases.specs.Formed.{IsFormed}
use Rattle.fst_cases.specs.Making.{role_by, roles_by}
use Rattle.fst_cases.specs.Roles.{IsNumberOf, IsRole, role_equation, role_order, role_truth, AreRoles}
use Rattle.fst_cases.specs.declared.roles.Role.{Role}
use Rattle.fst_cases.proofs.ClashLemmas.{number-found}

pub found-number : (f : Flt) (t : Tm) → IsNumbered f t → IsNumberOf f (number_of f.terms t) t
found-number f t n = let w = number-found f t n in record { number = w.0; is = w.1 }

role-is : (f : Flt) (t : Tm) → IsNumbered f t → IsNumbered f (arg_of t) → IsNumbered f (rest_of t) → IsRole f t (role_by f.terms t)
role-is f (t_prim op.Eq S args at) n l r = role_equation _ _ refl (found-number f _ l) (found-number f _ r)
role-is f (t_prim op.Le S args at) n l r = role_order refl refl
role-is f t n l r = role_truth _ refl refl (found-number f t n)

mapped : {A B : Type 0} (g : A → B) (xs : List A) (k : ℕ) (x : A) (y : B) → slice_get xs k ≡ Some x → slice_get (map g xs) k ≡ Some y → g x ≡ y
mapped g [] k x y h i = cc
mapped g (z ∷ zs) zero x y h i = cc
mapped g (z ∷ zs) (suc k) x y h i = mapped g zs k x y h i

pub are-roles : (f : Flt) → IsFormed f → AreRoles f (roles_by f)
are-roles f h = record {
  yes = found-number f (t_bool true) h.yes_numbered;
  no = found-number f (t_bool false) h.no_numbered;
  count = length-map f.atoms (role_by f.terms);
  each = each;
}
  where
    each : (a : ℕ) (t : Tm) (r : Role) → at_number f.atoms a ≡ Some t → at_number (roles_by f).atoms a ≡ Some r → IsRole f t r
    each zero t r p q = cc
    each (suc k) t r p q =
        let s = h.sides (suc k) t p in
        subst (IsRole f t) (mapped (role_by f.terms) f.atoms k t r p q) (role-is f t (h.atoms (suc k) t p) s.0 s.1)
