use Rattle.std.proofs.Common.{lit<, Some, None}
use Rattle.std.proofs.lemmas.Str.Pattern.{split_parts}
use Rattle.rc_sitetext.proofs.Cuts.{cut_at, cut_none}
use Rattle.rc_sitetext.proofs.fields.Fields.next.Goals as goal

pub returns-in-Some-clause-field : goal.returns-in-Some-clause-field
returns-in-Some-clause-field c =
    let parts = split_parts 9 c.args.self.now.rest.now (Some (c.in-Some.field, c.in-Some.rest)) c.in-Some.ensures.cases (lit< tt) in
    rw parts.0 (cut_at 9 c.in-Some.field.now c.in-Some.rest.now parts.1)

pub returns-in-None-clause-field : goal.returns-in-None-clause-field
returns-in-None-clause-field c = cut_none 9 c.args.self.now.rest.now (split_parts 9 c.args.self.now.rest.now None c.in-None.ensures.cases (lit< tt))
