use Rattle.std.proofs.Common.{sym, ◌∙◌, rules}
use Rattle.rc_sitetext.proofs.Appends.{hex_none, hex_some}
use Rattle.rc_sitetext.proofs.writer.put_security.Goals as goal

pub returns-then-is_empty : goal.returns-then-is_empty
returns-then-is_empty c = rw (hex_none c.args.bytes.now (sym c.is_empty.ensures ∙ c.if-is_empty.true)) (search rules)

pub returns-else-is_empty : goal.returns-else-is_empty
returns-else-is_empty c = rw (hex_some c.args.bytes.now (sym c.is_empty.ensures ∙ c.if-is_empty.false)) c.put_hex.ensures
