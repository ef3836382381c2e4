use Rattle.std.proofs.Common.{◌≡◌, bytes_eq, refl, ap, sym, ◌∙◌}
use Rattle.std.specs.List.{list_any}
use Rattle.fst_text.specs.Scans.{token_text}
use Rattle.fst_top.proofs.token_words.has_word.Goals as goal

pub returns-in-Err : goal.returns-in-Err
returns-in-Err c = sym (ap (list_any (λ t. bytes_eq (token_text c.args.text.now t) c.args.word.now)) ((c.in-Err.ensures.err c.in-Err.field-0).0 refl).0) ∙ c.tokens.invariant.so_far
