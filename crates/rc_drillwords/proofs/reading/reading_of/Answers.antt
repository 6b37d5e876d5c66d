use Rattle.std.proofs.Common.{None, sym, lit<}
use Rattle.std.proofs.lemmas.Str.Pattern.{strip_prefix_char}
use Rattle.rc_drillwords.proofs.Readings.{run_word}
use Rattle.rc_drillwords.proofs.reading.reading_of.Goals as goal

pub returns-in-None : goal.returns-in-None
returns-in-None c = sym (run_word c.args.argument.now (strip_prefix_char 47 c.args.argument.now None c.in-None.ensures.cases (lit< tt)))
