use Rattle.fst_syntax.proofs.Texts.{token_utf8}
use Rattle.fst_term_reader.proofs.lexeme.lexed.Goals as goal

pub returns-clause-utf8 : goal.returns-clause-utf8
returns-clause-utf8 c = token_utf8 c.args.token.kind _ c.requires.longest.token
