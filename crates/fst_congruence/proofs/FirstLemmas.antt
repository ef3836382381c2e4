-- The map from keys to first terms.
use Rattle.std.proofs.Common.{◌≡◌, ℕ, Bool, true, false, List, refl, sym, ◌∙◌, nat_eq, Decides}
use Rattle.std.specs.Cmp.Lexicographic.{pointwise}
use Rattle.std.specs.Global.{Vec}
use Rattle.std.specs.Map.{lookup, KeepsOthers}
use Rattle.std.proofs.lemmas.Bool.Decides.{Decides-eqb}
use Rattle.std.proofs.lemmas.Cmp.{nat_list_eq_equiv}
use Rattle.std.proofs.lemmas.Slice.Eq.{slice_eq-Decides}

pub keys-decide : (xs ys : List ℕ) → Decides (pointwise nat_eq xs ys) (xs ≡ ys)
keys-decide xs ys = slice_eq-Decides Decides-eqb xs ys _ refl

abbrev pub is_key : List ℕ → Vec ℕ → Bool
is_key key k = pointwise nat_eq key k.items

apart : (xs ys : List ℕ) → (xs ≡ ys → ⊥) → (b : Bool) → pointwise nat_eq xs ys ≡ b → b ≡ false
apart xs ys n true e = absurd (n ((keys-decide xs ys).0 e))
apart xs ys n false e = refl

-- what other keys find after a change at one key
pub others-kept : (key : Vec ℕ) (old new : List (Vec ℕ × ℕ)) → KeepsOthers (λ x y. pointwise nat_eq x.items y.items) (λ k. pointwise nat_eq key.items k.items) old new
    → (other : List ℕ) → (other ≡ key.items → ⊥) → lookup (is_key other) new ≡ lookup (is_key other) old
unfolding KeepsOthers
others-kept key old new h other n = h (is_key other) (λ x y e. nat_list_eq_equiv.congr other x.items y.items e)
    (λ k e. (let is : key.items ≡ k.items = (keys-decide key.items k.items).0 e in apart other k.items (λ f. n (f ∙ sym is)) _ refl))
