use Rattle.std.proofs.Common.{None, sym, ap}
use Rattle.std.proofs.lemmas.Str.Pattern.{strip_prefix_char}
use Rattle.rc_sitetext.proofs.Cuts.{letter_none}
use Rattle.rc_sitetext.proofs.values.Letters.take.Goals as goal

pub returns-in-None-clause-found : goal.returns-in-None-clause-found
returns-in-None-clause-found c =
    sym (ap (λ p. p.0) (letter_none c.args.letter c.args.self.now.rest.now (strip_prefix_char c.args.letter c.args.self.now.rest.now None c.in-None.ensures.cases c.requires)))

pub returns-in-None-clause-rest : goal.returns-in-None-clause-rest
returns-in-None-clause-rest c =
    sym (ap (λ p. p.1) (letter_none c.args.letter c.args.self.now.rest.now (strip_prefix_char c.args.letter c.args.self.now.rest.now None c.in-None.ensures.cases c.requires)))
