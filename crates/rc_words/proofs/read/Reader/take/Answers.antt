use Rattle.std.proofs.Common.{sym, subst}
use Rattle.rc_words.specs.Reader.{NumberFits}
use Rattle.rc_words.proofs.Knowing.{fits}
use Rattle.rc_words.proofs.read.Reader.take.Goals as goal

pub read-read-requires : goal.read-read-requires
read-read-requires c = subst NumberFits (sym c.spelled-found.ensures) (fits c.args.self.now c.args.word.now)

pub pass-requires : goal.pass-requires
pass-requires c = subst NumberFits (sym c.spelled-found.ensures) (fits c.args.self.now c.args.word.now)
