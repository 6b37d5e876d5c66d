use Rattle.std.proofs.Common.{length, ap, arith}
use Rattle.rc_record.proofs.Lengths.{are_characters, name_short, spelled}
use Rattle.rc_record.proofs.spelling.name_len.Goals as goal

pub returns-clause-len : goal.returns-clause-len
returns-clause-len c = ap length (spelled c.text.result.now c.args.name.now c.text.utf8 c.text.ensures.spelling)

pub returns-clause-bound : goal.returns-clause-bound
returns-clause-bound c =
    omega (arith, ap length (spelled c.text.result.now c.args.name.now c.text.utf8 c.text.ensures.spelling), name_short c.args.name.now c.text.ensures.is_name)

pub returns-clause-characters : goal.returns-clause-characters
returns-clause-characters c = are_characters c.text.result.now c.args.name.now c.text.utf8 c.text.ensures.spelling
