use Rattle.std.proofs.Common.{rules}
use Rattle.fst_base.specs.Sorts.{plain_sort}
use Rattle.fst_values.proofs.WholeLemmas.{no_text, bytes_left, text_read, only_read, sort_read, wide_read}
use Rattle.fst_values.proofs.read.read_value.Goals as goal

pub returns-in_err-part-clause-no_value : goal.returns-in_err-part-clause-no_value
returns-in_err-part-clause-no_value c = λ e. no_text (plain_sort c.args.sort.now) c.args.bytes.now _ _ c.new-reader.ensures c.in_err-part.field-0.0 c.in_err-part.ensures (search rules)

pub returns-then-not-is_at_end-clause-no_value : goal.returns-then-not-is_at_end-clause-no_value
returns-then-not-is_at_end-clause-no_value c = λ e. bytes_left (plain_sort c.args.sort.now) c.args.bytes.now _ _ c.new-reader.ensures _ c.in_ok-part.ensures (search rules)

pub returns-in-Some-clause-value : goal.returns-in-Some-clause-value
returns-in-Some-clause-value c = text_read (plain_sort c.args.sort.now) c.args.bytes.now _ _ c.new-reader.ensures _ _ c.in_ok-part.ensures (search rules) c.in-Some.is

pub returns-in-Some-clause-only : goal.returns-in-Some-clause-only
returns-in-Some-clause-only c = only_read (plain_sort c.args.sort.now) c.args.bytes.now _ _ c.new-reader.ensures _ _ c.in_ok-part.ensures (search rules) c.in-Some.is

pub returns-in-Some-clause-sort : goal.returns-in-Some-clause-sort
returns-in-Some-clause-sort c = sort_read (plain_sort c.args.sort.now) c.args.bytes.now _ _ c.new-reader.ensures _ _ c.in_ok-part.ensures (search rules) c.in-Some.is

pub returns-in-None-clause-too_wide : goal.returns-in-None-clause-too_wide
returns-in-None-clause-too_wide c = λ e. wide_read (plain_sort c.args.sort.now) c.args.bytes.now _ _ c.new-reader.ensures _ c.in_ok-part.ensures (search rules) c.in-None.is
