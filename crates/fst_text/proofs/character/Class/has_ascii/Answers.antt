use Rattle.unicode_ident.proofs.IdentLemmas.{is_xid_continue-ascii}
use Rattle.fst_text.proofs.AsciiLemmas.{starts_name-ascii, either-first, either-second}
use Rattle.fst_text.proofs.character.Class.has_ascii.Goals as goal

pub returns-then-is_ascii_alphabetic-clause-value : goal.returns-then-is_ascii_alphabetic-clause-value
returns-then-is_ascii_alphabetic-clause-value c low =
    rw c.in-Start.is (either-first _ _ _ _ (starts_name-ascii _ low) c.is_ascii_alphabetic.ensures.value c.if-is_ascii_alphabetic.true)

pub returns-else-is_ascii_alphabetic-clause-value : goal.returns-else-is_ascii_alphabetic-clause-value
returns-else-is_ascii_alphabetic-clause-value c low =
    rw c.in-Start.is (either-second _ _ _ _ (starts_name-ascii _ low) c.is_ascii_alphabetic.ensures.value c.if-is_ascii_alphabetic.false)

pub returns-then-is_ascii_alphanumeric-clause-value : goal.returns-then-is_ascii_alphanumeric-clause-value
returns-then-is_ascii_alphanumeric-clause-value c low =
    rw c.in-Continue.is (either-first _ _ _ _ (is_xid_continue-ascii _ low) c.is_ascii_alphanumeric.ensures.value c.if-is_ascii_alphanumeric.true)

pub returns-else-is_ascii_alphanumeric-clause-value : goal.returns-else-is_ascii_alphanumeric-clause-value
returns-else-is_ascii_alphanumeric-clause-value c low =
    rw c.in-Continue.is (either-second _ _ _ _ (is_xid_continue-ascii _ low) c.is_ascii_alphanumeric.ensures.value c.if-is_ascii_alphanumeric.false)
