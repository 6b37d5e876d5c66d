use Rattle.std.proofs.Common.{◌≡◌, ap, ◌∙◌}
use Rattle.std.proofs.lemmas.Result.{IfOk-weaker}
use Rattle.rc_dates.specs.Stamp.{IsMomentText}
use Rattle.rc_report.specs.Stamps.{stamp_of}
use Rattle.rc_report.proofs.Days.{stamp_is}
use Rattle.rc_report.proofs.stamps.stamp_of.Goals as goal

pub returns : goal.returns
returns c =
    IfOk-weaker c.moment_text.result (IsMomentText c.units.result) (λ text. text ≡ stamp_of c.args.moment)
    (λ text is. stamp_is c.units.result text is ∙ ap stamp_of c.units.ensures.count) c.moment_text.ensures
