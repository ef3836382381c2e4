-- What reading does at each nonterminal.
use Rattle.std.proofs.Common.{◌≡◌, List}
use Rattle.fst_grammar.proofs.Claims as G
use Rattle.fst_syntax.specs.Tokens.{Token, alphabet}
use Rattle.fst_syntax.specs.Productions.{N, T, rule}
use Rattle.fst_syntax.specs.Tables.{firsts, nullable, follow, rank, top}
use Rattle.fst_syntax.specs.Reading.{reads, layer}
use Rattle.fst_syntax.proofs.Terminals.{kinds}
use Rattle.fst_syntax.proofs.Tables.{settled}
use Rattle.fst_syntax.proofs.Samples.{sample}

pub opens : (n : N) (ts : List Token) → reads n ts ≡ layer n ts
unfolding reads
opens n ts = G.opens alphabet kinds N T rule firsts nullable follow rank top settled sample n ts
