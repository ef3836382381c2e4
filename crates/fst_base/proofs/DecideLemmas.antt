-- Tests that decide facts.
use Rattle.std.proofs.Common.{Bool, true, false, ◌≡◌, refl, sym, ◌∙◌, ◌&&◌, Decides}
use Rattle.std.proofs.lemmas.Bool.{false≢true}

-- a test that is false, of two that differ
pub decided-no : {A : Type 0} {b : Bool} → b ≡ false → (A → ⊥) → Decides b A
decided-no e n = (λ t. absurd (false≢true (sym e ∙ t)), λ a. absurd (n a))

-- the test of one fact is that of another
pub decided-by : {A B : Type 0} {b : Bool} → (A → B) → (B → A) → Decides b A → Decides b B
decided-by f g d = (λ e. f (d.0 e), λ y. d.1 (g y))

-- two tests are that of a fact that holds where both do
pub decided-both : {A B C : Type 0} (a b : Bool) → (A → B → C) → (C → A) → (C → B) → Decides a A → Decides b B → Decides (a && b) C
decided-both true b f g h d e = (λ t. f (d.0 refl) (e.0 t), λ c. e.1 (h c))
decided-both false b f g h d e = (λ t. absurd (false≢true t), λ c. d.1 (g c))
