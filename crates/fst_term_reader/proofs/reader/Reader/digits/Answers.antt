use Rattle.std.proofs.lemmas.List.Elements.{All-take, All-drop}
use Rattle.fst_syntax.specs.Tokens.{HasText}
use Rattle.fst_term_reader.proofs.reader.Reader.digits.Goals as goal

pub invariant_of-self : goal.invariant_of-self
invariant_of-self c = All-take HasText _ _ (All-drop HasText 1 _ c.self.invariant)
