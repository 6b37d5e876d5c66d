use Rattle.std.proofs.Common.{sym, ◌∙◌}
use Rattle.jiff_core.proofs.DateLemmas.{epoch_day_injective}
use Rattle.rc_dates.proofs.laws.one_text_a_moment.Goals as goal

pub returns : goal.returns
returns c = λ moment one other is was.
    let same = epoch_day_injective is.date was.date (is.on_day ∙ sym was.on_day) in
    is.written ∙ rw (same.0, same.1, same.2) (sym was.written)
