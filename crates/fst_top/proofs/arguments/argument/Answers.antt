use Rattle.std.proofs.Common.{◌∙◌, Err, ap}
use Rattle.fst_base.specs.Sorts.{plain_sort}
use Rattle.fst_top.proofs.ArgumentLemmas.{too-wide-none}
use Rattle.fst_top.proofs.arguments.argument.Goals as goal

pub returns-in-Err-NumberTooWide : goal.returns-in-Err-NumberTooWide
returns-in-Err-NumberTooWide c = too-wide-none (plain_sort c.args.sort.now) c.as_bytes.result.now c.args.word.now (c.as_bytes.ensures.value ∙ c.text.ensures) (c.in-Err-NumberTooWide.ensures.too_wide (ap Err c.in-Err-NumberTooWide.field-0-is))
