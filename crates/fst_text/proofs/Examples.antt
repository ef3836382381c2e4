-- The definitions on worked texts.
use Rattle.std.proofs.Common.{◌≡◌, ℕ, [], ◌∷◌, Some, None, codes, refl}
use Rattle.unicode_ident.proofs.Computing.{unicode_ident}
use Rattle.fst_text.specs.declared.token.Kind.{Kind}
use Rattle.fst_text.specs.declared.token.Kind.TheVariants.{Word, Ident, Number, Mark}
use Rattle.fst_text.specs.declared.word.Word.TheVariants as word
use Rattle.fst_text.specs.declared.mark.Mark.TheVariants as mark
use Rattle.fst_text.specs.declared.token.Token.{Token}
use Rattle.fst_text.specs.Characters.{many}
use Rattle.fst_text.specs.Words.{words}
use Rattle.fst_text.specs.Scans.{tokens, tokens_from, fault, fault_from}

abbrev pub token : Kind → ℕ → ℕ → Token
token kind from to = record { kind = kind; from = from; to = to }

-- the longest mark is taken, and a comment ends with its line
pub longest_mark : tokens (codes "a<=1//b\nc") ≡ token Ident 0 1 ∷ token (Mark mark.LessEqual) 1 3 ∷ token Number 3 4 ∷ token Ident 8 9 ∷ []
unfolding tokens_from many words unicode_ident
longest_mark = refl

pub no_fault : fault (codes "if x") ≡ None
unfolding fault_from tokens_from many words unicode_ident
no_fault = refl

-- a reserved word, an identifier that goes on, and a byte that begins no token
pub reserved : tokens (codes "in int9 !") ≡ token (Word word.In) 0 2 ∷ token Ident 3 7 ∷ []
unfolding tokens_from many words unicode_ident
reserved = refl

pub a_fault : fault (codes "in int9 !") ≡ Some 8
unfolding fault_from tokens_from many words unicode_ident
a_fault = refl

-- é is a letter, and a sequence that is cut short is at fault at its first byte
pub not_utf8 : tokens (0xC3 ∷ 0xA9 ∷ 0xE2 ∷ 0x82 ∷ []) ≡ token Ident 0 2 ∷ []
unfolding tokens_from many words unicode_ident
not_utf8 = refl

pub not_utf8_fault : fault (0xC3 ∷ 0xA9 ∷ 0xE2 ∷ 0x82 ∷ []) ≡ Some 2
unfolding fault_from tokens_from many words unicode_ident
not_utf8_fault = refl
