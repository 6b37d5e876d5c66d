use Rattle.std.proofs.Common.{chars}
use Rattle.rc_wild.specs.Pattern.{pattern_fault}
use Rattle.rc_words.proofs.Refusing.{refused}
use Rattle.rc_words.proofs.values.pattern.Goals as goal

pub returns-in-Err : goal.returns-in-Err
returns-in-Err c =
    refused (pattern_fault (chars c.args.text.now)) c.in-Err.err c.fault_of.result (chars c.args.text.now)
    c.in-Err.ensures.refused c.fault_of.ensures.memory c.fault_of.ensures.refused
