-- The texts of the effects and lifts of a program whose matches have arms, with the unit value in place of one that isn't there.
use Rattle.std.proofs.Common.{◌≡◌, ℕ, Option, Some, None, slice_get, refl}
use Rattle.fst_terms.specs.Terms.{t_unit}
use Rattle.fst_program.specs.Texts.{d_ret, EffDef, LftDef, Prog, if_there, effect_at, bind_text, return_text, lift_text}
use Rattle.fst_program.specs.Full.{DmFull, IsFull}

module _ (P : Prog) (full : IsFull P) where
  pub bind-full : (E : ℕ) → DmFull (bind_text P E)
  bind-full E = go (effect_at P E) refl
    where
      go : (o : Option EffDef) → effect_at P E ≡ o → DmFull (if_there o (λ d. d.bind) (d_ret t_unit))
      go None q = tt
      go (Some d) q = full.binds E d q

  pub return-full : (E : ℕ) → DmFull (return_text P E)
  return-full E = go (effect_at P E) refl
    where
      go : (o : Option EffDef) → effect_at P E ≡ o → DmFull (if_there o (λ d. d.ret) (d_ret t_unit))
      go None q = tt
      go (Some d) q = full.returns E d q

  pub lift-full : (n : ℕ) → DmFull (lift_text P n)
  lift-full n = go (slice_get P.lifts n) refl
    where
      go : (o : Option LftDef) → slice_get P.lifts n ≡ o → DmFull (if_there o (λ d. d.text) (d_ret t_unit))
      go None q = tt
      go (Some d) q = full.lifts n d q
