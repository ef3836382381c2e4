use Rattle.std.proofs.Common.{◌≡◌, Bool, true, false, List, [], ◌∷◌, sym, subst, ◌∙◌, rules, arith, Err}
use Rattle.std.proofs.lemmas.Grind.{common_steps}
use Rattle.fst_grammar.specs.Alphabet.{has, next}
use Rattle.fst_syntax.specs.declared.terminal.Terminal.TheVariants as k
use Rattle.fst_syntax.specs.Tokens.{Token, alphabet}
use Rattle.fst_syntax.specs.Reading.{Reads}
use Rattle.fst_syntax.proofs.Runs.{Listed, listed}
use Rattle.fst_reader.specs.Texts.{Kind}
use Rattle.fst_reader.proofs.texts.Texts.arms_more.Goals as goal

abbrev arm_comes : List Token → Bool
arm_comes ts = has alphabet (k.Bar ∷ []) (next alphabet ts)

arms_listed : {A B : Type 0} (kind : Kind A B) (ts : List Token) → Listed (arm_comes ts) (kind.arm ts) kind.arms_more ts
arms_listed kind ts = listed (arm_comes ts) (kind.arm ts) kind.arms_more ts (kind.arms_list ts)

pub returns-in_err-arm-clause-reads : goal.returns-in_err-arm-clause-reads
returns-in_err-arm-clause-reads g c =
    let test : arm_comes c.arms.reader ≡ true = first_of (search rules, grind (arith, common_steps)) in
    let h = subst (λ o. Reads o (Err c.in_err-arm.field-0.0) c.arm.new.reader) (sym c.arms.invariant.so_far) ((arms_listed g.T.Text.kind c.arms.reader).no_item _ _ _ test c.in_err-arm.ensures.reads) in
    first_of (search rules, grind (arith, common_steps))

pub arms-preserved : goal.arms-preserved
arms-preserved g c =
    let test : arm_comes c.arms.reader ≡ true = first_of (search rules, grind (arith, common_steps)) in
    let e = c.arms.invariant.so_far ∙ (arms_listed g.T.Text.kind c.arms.reader).step c.arms.arms _ _ test c.in_ok-arm.ensures.reads in
    record { so_far = first_of (search rules, grind (arith, common_steps)); no_longer = first_of (omega arith, grind (arith, common_steps)) }

pub returns-clause-reads : goal.returns-clause-reads
returns-clause-reads g c =
    let test : arm_comes c.arms.reader ≡ false = first_of (search rules, grind (arith, common_steps)) in
    c.arms.invariant.so_far ∙ (arms_listed g.T.Text.kind c.arms.reader).stop _ test
