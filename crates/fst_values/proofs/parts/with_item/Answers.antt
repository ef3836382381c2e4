use Rattle.std.proofs.Common.{subst}
use Rattle.fst_values.specs.Reading.{Part, Parts}
use Rattle.fst_values.proofs.PartLemmas.{pushed, pushed_wide, pushed_to_wide}
use Rattle.fst_values.proofs.parts.with_item.Goals as goal

pub returns-in_ok-push-in-Some-Some : goal.returns-in_ok-push-in-Some-Some
returns-in_ok-push-in-Some-Some c = λ ws w h k. pushed _ _ _ ws w c.in_ok-push-in-Some-Some.ensures.ok (subst (Parts ws) c.in-Some-Some.is-0 h) (subst (Part w) c.in-Some-Some.is-1 k)

pub returns-in-Some-None : goal.returns-in-Some-None
returns-in-Some-None c = λ ws w h k. pushed_wide _ _ ws w c.in-Some-None.is-1 h k

pub returns-in-None-default : goal.returns-in-None-default
returns-in-None-default c = λ ws w h k. pushed_to_wide _ _ ws w c.in-None-default.is-0 h k
