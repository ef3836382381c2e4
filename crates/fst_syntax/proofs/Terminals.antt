-- The test of equality of terminals decides it.
use Rattle.std.proofs.Common.{refl, rules}
use denote.Enum.Bare.{same_true, true_same}
use Rattle.fst_syntax.specs.contracts.terminal.Terminal.{the_type}
use Rattle.fst_syntax.specs.Tokens.{alphabet}
use Rattle.fst_grammar.specs.Alphabet.{Sound}

pub kinds : Sound alphabet
kinds = record {
  equal = λ j k e. same_true the_type (search rules) j k e;
  reflexive = λ k. true_same the_type k k refl;
  exemplary = λ k. refl;
}
