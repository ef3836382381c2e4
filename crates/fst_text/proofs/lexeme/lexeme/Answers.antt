use Rattle.std.proofs.Common.{◌≡◌, sym, ◌∙◌, arith}
use Rattle.fst_text.specs.Characters.{name_len}
use Rattle.fst_text.proofs.LexemeLemmas.{number_len, lexeme-name, lexeme-number, lexeme-mark, lexeme-longest, lexeme-none}
use Rattle.fst_text.proofs.lexeme.lexeme.Goals as goal

pub returns-then-name-gt0-clause-value : goal.returns-then-name-gt0-clause-value
returns-then-name-gt0-clause-value c = lexeme-name _ _ _ c.name_len-name.ensures.value c.if-name-gt0.true c.kind_of.ensures

pub returns-then-name-gt0-clause-longest : goal.returns-then-name-gt0-clause-longest
returns-then-name-gt0-clause-longest c = lexeme-longest _ _ (sym (returns-then-name-gt0-clause-value c))

pub returns-then-number-gt0-clause-longest : goal.returns-then-number-gt0-clause-longest
returns-then-number-gt0-clause-longest c =
    let none : name_len c.args.bytes.now ≡ 0 = omega (arith, c.name_len-name.ensures.value) in
    lexeme-longest c.args.bytes.now _ (sym (lexeme-number c.args.bytes.now _ none c.number_len-number.ensures.value c.if-number-gt0.true))

pub returns-in-Some-clause-longest : goal.returns-in-Some-clause-longest
returns-in-Some-clause-longest c =
    let none : name_len c.args.bytes.now ≡ 0 = omega (arith, c.name_len-name.ensures.value) in
    let no_digit : number_len c.args.bytes.now ≡ 0 = omega (arith, c.number_len-number.ensures.value) in
    lexeme-longest c.args.bytes.now _ (sym (lexeme-mark c.args.bytes.now _ none no_digit (sym c.in-Some.is ∙ c.longest_mark.ensures.value)))

pub returns-in-None-clause-none : goal.returns-in-None-clause-none
returns-in-None-clause-none c =
    let none : name_len c.args.bytes.now ≡ 0 = omega (arith, c.name_len-name.ensures.value) in
    let no_digit : number_len c.args.bytes.now ≡ 0 = omega (arith, c.number_len-number.ensures.value) in
    lexeme-none c.args.bytes.now (sym (lexeme-mark c.args.bytes.now _ none no_digit (sym c.in-None.is ∙ c.longest_mark.ensures.value)))
