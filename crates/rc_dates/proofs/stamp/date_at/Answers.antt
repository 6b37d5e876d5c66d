use Rattle.std.proofs.Common.{◌≡◌, ap, ◌∙◌, arith}
use Rattle.jiff_core.specs.Date.{epoch_day}
use Rattle.jiff_core.proofs.SignedLemmas.{signed_casts}
use Rattle.rc_dates.specs.Dates.{first_day}
use Rattle.rc_dates.proofs.Midnights.{first_day_is, on_first_day}
use Rattle.rc_dates.proofs.stamp.date_at.Goals as goal

pub unwrap-requires : goal.unwrap-requires
unwrap-requires c =
    let first : epoch_day c.to_plain-first.result ≡ first_day = ap epoch_day c.to_plain-first.ensures ∙ on_first_day c.constant.result c.constant.ensures in
    c.checked_add.ensures.succeeds.1 (omega (arith, signed_casts, first_day_is, c.requires), omega (arith, signed_casts, first_day_is, c.requires))

pub returns : goal.returns
returns c =
    let first : epoch_day c.to_plain-first.result ≡ first_day = ap epoch_day c.to_plain-first.ensures ∙ on_first_day c.constant.result c.constant.ensures in
    let there = rw c.unwrap.ensures at c.checked_add.ensures.value in
    omega (arith, signed_casts, first, there, ap epoch_day c.from_plain.ensures)
