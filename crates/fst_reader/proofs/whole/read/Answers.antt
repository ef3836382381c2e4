use Rattle.std.proofs.Common.{◌≡◌, ◌≤◌, ◌^◌, length, map, Some, ◌∙◌, ap, subst, sym, arith}
use Rattle.std.proofs.lemmas.Bool.Decides.{nat_tests}
use Rattle.fst_syntax.specs.Tokens.{token_of}
use Rattle.fst_syntax.specs.Lexemes.{lexemes}
use Rattle.fst_syntax.specs.Limits.{first_limit}
use Rattle.fst_syntax.specs.Program.{Rising}
use Rattle.fst_trees.specs.declared.decl.RawProgram.{RawProgram}
use Rattle.fst_reader.proofs.Refusals.{refused, err_same}
use Rattle.fst_reader.proofs.whole.read.Goals as goal

pub returns-in-Some-clause-refused : goal.returns-in-Some-clause-refused
returns-in-Some-clause-refused c = λ rule at e.
    let ts = map token_of c.deref-in-Some.result.now in
    let long = c.if-bytes-gt-LONGEST.false in
    let short : length c.args.bytes.now ≤ 2 ^ 20 = grind (arith, nat_tests) in
    let same : ts ≡ lexemes c.args.bytes.now = ap (map token_of) c.deref-in-Some.ensures.value ∙ c.in-Ok.ensures.value in
    let passed : first_limit ts ≡ Some c.in-Some.limit =
    sym (c.in-Some.ensures.value ∙ ap (λ xs. first_limit (map token_of xs)) (c.deref.ensures.value ∙ sym c.deref-in-Some.ensures.value)) in
    let rising : Rising 0 ts (length c.args.bytes.now) = subst (λ us. Rising 0 us (length c.args.bytes.now)) (sym same) c.in-Ok.ensures.rising in
    refused c.args.bytes.now ts c.in-Some.limit c.up_to.result rule at short same passed (c.up_to.ensures (length c.args.bytes.now) rising) (err_same RawProgram _ _ e)
