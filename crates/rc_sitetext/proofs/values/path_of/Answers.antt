use Rattle.std.proofs.Common.{arith, sym, ap, ◌∙◌}
use Rattle.std.proofs.lemmas.Bool.{eqb-false}
use Rattle.std.specs.Prelude.{length}
use Rattle.rc_sitetext.proofs.PathTexts.{path_read}
use Rattle.rc_sitetext.proofs.values.path_of.Goals as goal

pub returns : goal.returns
returns c =
    let some = eqb-false (length c.names.result.now) 0 (sym c.is_empty.ensures ∙ c.if-is_empty.false) in
    path_read c.args.text.now c.in_ok-path.path c.utf8.text c.in_ok-path.ensures.named.0 c.in_ok-path.ensures.named.1 (omega (arith, some, ap length c.names.ensures.same))
