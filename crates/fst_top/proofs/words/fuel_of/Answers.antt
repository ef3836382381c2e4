use Rattle.std.proofs.Common.{◌∙◌, ap, sym}
use Rattle.std.specs.declared.num.ParseIntError.{ParseIntError}
use Rattle.std.specs.Char.{is_ascii_digit}
use Rattle.std.specs.List.{list_all}
use Rattle.fst_top.proofs.FuelLemmas.{fuel-read, fuel-not-read}
use Rattle.fst_top.proofs.words.fuel_of.Goals as goal

pub returns-in-Ok : goal.returns-in-Ok
returns-in-Ok c = c.within.ensures ∙ sym (fuel-read ParseIntError c.args.word.now c.in-Ok.fuel c.in-Ok.ensures.value (ap (list_all is_ascii_digit) (sym c.as_bytes.ensures.value) ∙ sym c.are_digits.ensures ∙ c.if-not-are_digits.false))

pub returns-in-Err : goal.returns-in-Err
returns-in-Err c = sym (fuel-not-read {E = ParseIntError} c.args.word.now c.in-Err.field-0 c.in-Err.ensures.value)
