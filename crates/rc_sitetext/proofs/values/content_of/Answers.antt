use Rattle.std.proofs.Common.{None, lit<}
use Rattle.std.proofs.lemmas.Str.Pattern.{strip_prefix_char}
use Rattle.rc_sitetext.proofs.FieldValues.{content_plain}
use Rattle.rc_sitetext.proofs.values.content_of.Goals as goal

pub returns-in-None : goal.returns-in-None
returns-in-None c =
    let other = strip_prefix_char 42 c.args.text.now None c.in-None.ensures.cases (lit< tt) in
    rw (content_plain c.args.size c.args.text.now c.if-size-eq0.false other) c.written_out.ensures
