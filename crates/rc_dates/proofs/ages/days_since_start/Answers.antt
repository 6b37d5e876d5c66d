use Rattle.std.proofs.Common.{◌≡◌, ap, ◌∙◌, arith}
use Rattle.jiff_core.specs.Date.{epoch_day}
use Rattle.jiff_core.proofs.SignedLemmas.{signed_casts}
use Rattle.rc_dates.proofs.Midnights.{first_day_is}
use Rattle.rc_dates.proofs.ages.days_since_start.Goals as goal

pub returns-clause-value : goal.returns-clause-value
returns-clause-value c =
    let day : c.to_unix_epoch_day.result ≡ epoch_day c.args.date = c.to_unix_epoch_day.ensures.value ∙ ap epoch_day c.to_plain.ensures in
    omega (arith, signed_casts, first_day_is, c.to_unix_epoch_day.ensures.bound)
