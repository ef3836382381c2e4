use Rattle.std.proofs.Common.{pos, false, ap, subst, ◌∙◌, ◌<◌, ◌^◌, rules, arith}
use Rattle.std.proofs.Math.Facts.{to_z_pos}
use mir.Syntax.{w128}
use Rattle.fst_base.specs.Primitives.{first, len_of}
use Rattle.fst_cells.specs.Made.{NumberIs}
use Rattle.fst_cells.proofs.store.Store.make_len.Goals as goal

pub returns-clause-made : goal.returns-clause-made
returns-clause-made c = λ vs k.
    let lt : c.items-items.result < 2 ^ 64 = search rules in
    c.number.ensures.made (pos (len_of (first vs))) false
    (subst (λ n. NumberIs n false c.exact.result) (to_z_pos w128 (omega (arith, lt)) ∙ ap pos (c.items-items.ensures (first vs) k.0)) c.exact.ensures)
