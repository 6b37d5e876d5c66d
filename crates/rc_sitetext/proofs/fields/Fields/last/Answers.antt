use Rattle.std.proofs.Common.{lit<, Some, None, refl}
use Rattle.std.proofs.lemmas.Str.Pattern.{split_parts}
use Rattle.rc_sitetext.specs.Reading.{last_field}
use Rattle.rc_sitetext.proofs.Cuts.{cut_at, cut_none}
use Rattle.rc_sitetext.proofs.fields.Fields.last.Goals as goal

pub returns-in-Some-clause-field : goal.returns-in-Some-clause-field
unfolding last_field
returns-in-Some-clause-field c =
    let parts = split_parts 9 c.args.self.now.rest.now (Some c.in-Some.field-0) c.in-Some.ensures.cases (lit< tt) in
    rw parts.0 (rw (cut_at 9 c.in-Some.field-0.0.now c.in-Some.field-0.1.now parts.1) refl)

pub returns-in-None-clause-field : goal.returns-in-None-clause-field
unfolding last_field
returns-in-None-clause-field c = rw (cut_none 9 c.args.self.now.rest.now (split_parts 9 c.args.self.now.rest.now None c.in-None.ensures.cases (lit< tt))) refl
