use Rattle.std.proofs.Common.{chars}
use Rattle.rc_wild.specs.PathPattern.{path_pattern_fault}
use Rattle.rc_words.proofs.Refusing.{refused}
use Rattle.rc_words.proofs.values.path_pattern.Goals as goal

pub returns-in-Err : goal.returns-in-Err
returns-in-Err c =
    refused (path_pattern_fault (chars c.args.text.now)) c.in-Err.err c.fault_of.result (chars c.args.text.now)
    c.in-Err.ensures.refused c.fault_of.ensures.memory c.fault_of.ensures.refused
