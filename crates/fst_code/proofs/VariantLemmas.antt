-- The plain trees of the variants of core text and of definition text, for search.
use Rattle.fst_program.proofs.PlainLemmas.{plain-comp-Ret, plain-comp-Let, plain-comp-Bind, plain-comp-GhostLet, plain-comp-Assert, plain-comp-If, plain-comp-Match, plain-comp-Call, plain-comp-Reify, plain-comp-Reflect, plain-comp-Return, plain-comp-Lift, plain-dm-Ret, plain-dm-Let, plain-dm-If, plain-dm-Match, plain-dm-RunF, plain-dm-RunG}
use Rattle.fst_code.proofs.ListLemmas.{terms-all, arms-all, dm-arms-all, sound-is}

pub ruleset comp_variants = (plain-comp-Ret, plain-comp-Let, plain-comp-Bind, plain-comp-GhostLet, plain-comp-Assert, plain-comp-If, plain-comp-Match, plain-comp-Call, plain-comp-Reify, plain-comp-Reflect, plain-comp-Return, plain-comp-Lift, terms-all, arms-all)

pub ruleset dm_variants = (plain-dm-Ret, plain-dm-Let, plain-dm-If, plain-dm-Match, plain-dm-RunF, plain-dm-RunG, dm-arms-all)

-- a code is sound where its parts are
pub ruleset sound_parts = (sound-is)
