use Rattle.std.proofs.Common.{◌<◌, sym, ◌∙◌, arith}
use Rattle.std.proofs.lemmas.List.{take_rest, length-drop}
use Rattle.fst_text.proofs.ManyLemmas.{many-stops_at, many-steps_at}
use Rattle.fst_text.proofs.CharacterLemmas.{char_len-within}
use Rattle.fst_text.proofs.character.Class.decoded_len.Goals as goal

pub returns-then-size-eq0-clause-value : goal.returns-then-size-eq0-clause-value
returns-then-size-eq0-clause-value c =
    let size = rw take_rest at c.char_len-size.ensures.value in
    sym (many-stops_at _ _ _ c.loop-self.invariant.so_far (sym size ∙ c.if-size-eq0.true))

pub loop-self-preserved : goal.loop-self-preserved
loop-self-preserved c =
    let size = rw take_rest at c.char_len-size.ensures.value in
    let fits = rw take_rest at c.char_len-size.ensures.within in
    let some : 0 < c.char_len-size.result = omega arith in
    record {
      within = omega (arith, length-drop c.loop-self.at c.args.bytes.now);
      so_far = many-steps_at _ (char_len-within _) _ _ _ c.loop-self.invariant.so_far size some;
    }
