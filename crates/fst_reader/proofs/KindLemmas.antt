-- What the readings of a kind of text are, each by the others.
use Rattle.std.proofs.Common.{◌≡◌, List, [], ◌∷◌}
use Rattle.fst_grammar.specs.Reading.{◌>>=◌}
use Rattle.fst_syntax.specs.Tokens.{Token}
use Rattle.fst_syntax.specs.Reading.{behind}
use Rattle.fst_reader.specs.Texts.{Kind, binding, arm}

pub names_opens : {A B : Type 0} (kind : Kind A B) (ts : List Token) → kind.names ts ≡ binding kind.part ts
names_opens kind ts = kind.names_open ts

pub arm_opens : {A B : Type 0} (kind : Kind A B) (ts : List Token) → kind.arm ts ≡ arm kind.text ts
arm_opens kind ts = kind.arm_opens ts

pub arms_opens : {A B : Type 0} (kind : Kind A B) (ts : List Token) → kind.arms ts ≡ (kind.arm ts >>= λ a us. behind (a ∷ []) (kind.arms_more us))
arms_opens kind ts = kind.arms_open ts
