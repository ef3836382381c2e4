-- What a part of an effect breaks at a place, by the two effects.
use Rattle.std.proofs.Common.{◌≡◌, ℕ, Bool, true, false, Some, None, refl, if◌then◌else◌}
use Rattle.fst_base.specs.declared.place.Pos.{Pos}
use Rattle.fst_base.specs.declared.rule.Rule.{Rule}
use Rattle.fst_base.specs.declared.rule.Rule.TheVariants as rule
use Rattle.fst_program.specs.declared.effect.Effect.{Effect}
use Rattle.fst_program.specs.declared.effect.Effect.TheVariants as effect
use Rattle.fst_names.specs.Broken.{first_broken, breaks}
use Rattle.fst_names.specs.Names.{unless}
use Rattle.fst_effects.specs.Known.{Known, base_is_div, is_path, refused_by}
use Rattle.fst_sorting.specs.Sites.{refused_of}

chosen : (b : Bool) (r : Rule) (at : Pos) → first_broken (refused_by at.at (if b then None else Some r)) ≡ first_broken (unless b (breaks r at.at))
chosen true r at = refl
chosen false r at = refl

module _ (K : Known) (at : Pos) where
  pub pure-any : (x : Effect) → refused_of K x effect.Pure at ≡ None
  unfolding refused_of
  pure-any x = refl

  pub ghost-pure : refused_of K effect.Pure effect.Ghost at ≡ first_broken (unless false (breaks rule.GhostUse at.at))
  unfolding refused_of
  ghost-pure = refl

  pub ghost-ghost : refused_of K effect.Ghost effect.Ghost at ≡ None
  unfolding refused_of
  ghost-ghost = refl

  pub ghost-div : refused_of K effect.Div effect.Ghost at ≡ first_broken (unless false (breaks rule.GhostUse at.at))
  unfolding refused_of
  ghost-div = refl

  pub ghost-user : (E : ℕ) → refused_of K (effect.User E) effect.Ghost at ≡ first_broken (unless false (breaks rule.GhostUse at.at))
  unfolding refused_of
  ghost-user E = refl

  pub div-pure : refused_of K effect.Pure effect.Div at ≡ first_broken (unless false (breaks rule.NoLift at.at))
  unfolding refused_of
  div-pure = refl

  pub div-ghost : refused_of K effect.Ghost effect.Div at ≡ first_broken (unless false (breaks rule.NoLift at.at))
  unfolding refused_of
  div-ghost = refl

  pub div-div : refused_of K effect.Div effect.Div at ≡ None
  unfolding refused_of
  div-div = refl

  pub div-user : (E : ℕ) → refused_of K (effect.User E) effect.Div at ≡ first_broken (unless (base_is_div (K.effects E)) (breaks rule.NoLift at.at))
  unfolding refused_of
  div-user E = chosen (base_is_div (K.effects E)) rule.NoLift at

  pub user-pure : (D : ℕ) → refused_of K effect.Pure (effect.User D) at ≡ first_broken (unless false (breaks rule.NoLift at.at))
  unfolding refused_of
  user-pure D = refl

  pub user-ghost : (D : ℕ) → refused_of K effect.Ghost (effect.User D) at ≡ first_broken (unless false (breaks rule.NoLift at.at))
  unfolding refused_of
  user-ghost D = refl

  pub user-div : (D : ℕ) → refused_of K effect.Div (effect.User D) at ≡ first_broken (unless false (breaks rule.NoLift at.at))
  unfolding refused_of
  user-div D = refl

  pub user-user : (E D : ℕ) → refused_of K (effect.User E) (effect.User D) at ≡ first_broken (unless (is_path (K.path D E)) (breaks rule.NoLift at.at))
  unfolding refused_of
  user-user E D = chosen (is_path (K.path D E)) rule.NoLift at

pub ruleset refusals = (pure-any, ghost-pure, ghost-ghost, ghost-div, ghost-user, div-pure, div-ghost, div-div, div-user, user-pure, user-ghost, user-div, user-user)
