-- What is stored determines the attribute, so that no other one is stored so.
use Rattle.std.proofs.Common.{sym, ap, ◌∙◌}
use Rattle.rc_tree.specs.Attr.{stored_of}
use Rattle.rc_tree.proofs.Digits.{read_of, read_of-stored_of}
use Rattle.rc_tree.proofs.attr.Attr.read.Goals as goal

pub returns-else-stored-clause-refused : goal.returns-else-stored-clause-refused
returns-else-stored-clause-refused c attr h =
    c.if-stored.false (c.stored.ensures ∙ ap (stored_of c.args.kind) (ap read_of (sym h) ∙ read_of-stored_of c.args.kind attr) ∙ h)
