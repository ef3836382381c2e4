use Rattle.std.proofs.Common.{sym, ◌∙◌, arith}
use Rattle.fst_text.proofs.AsciiLemmas.{ascii-steps, ascii-stops, end-stops}
use Rattle.fst_text.proofs.character.Class.ascii_len.Goals as goal

pub loop-at-preserved : goal.loop-at-preserved
loop-at-preserved c =
    let low = c.has_ascii.ensures.ascii c.if-has_ascii.true in
    record {
      within = omega arith;
      so_far = ascii-steps _ _ _ c.loop-at-test.true low (sym (c.has_ascii.ensures.value low) ∙ c.if-has_ascii.true) c.loop-at.invariant.so_far;
    }

pub returns-else-has_ascii-clause-stops : goal.returns-else-has_ascii-clause-stops
returns-else-has_ascii-clause-stops c low = ascii-stops _ _ _ c.loop-at-test.true low (sym (c.has_ascii.ensures.value low) ∙ c.if-has_ascii.false)

pub returns-after-loop-at-clause-stops : goal.returns-after-loop-at-clause-stops
returns-after-loop-at-clause-stops c low = end-stops _ _ _ c.loop-at-test.false
