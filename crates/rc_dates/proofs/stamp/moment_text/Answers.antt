use Rattle.std.proofs.Common.{◌≡◌, ℕ, ◌/◌, ◌%◌, List, ◌++◌, codes, chars, string_bytes, ap, ◌∙◌, arith, pos, ◌+ℤ◌}
use Rattle.std.proofs.lemmas.Result.{IfOk-weaker}
use Rattle.rc_dates.specs.Dates.{first_day, date_text, clock_text}
use Rattle.rc_dates.specs.Stamp.{IsMomentText, printed_units}
use Rattle.rc_dates.proofs.Stamps.{stamp_chars}
use Rattle.rc_dates.proofs.stamp.moment_text.Goals as goal

pub returns : goal.returns
returns c =
    let units : c.min-units.result ≡ printed_units c.args.moment = c.min-units.ensures in
    let second = printed_units c.args.moment % 864000000000 / 10000000 in
    let date = c.date_at.result in
    let with_date : string_bytes c.push_date.new.text ≡ date_text date = c.in_ok-push_date.ensures ∙ ap (λ (bs : List ℕ). bs ++ date_text date) c.new-text.ensures.bytes in
    let with_mark : string_bytes c.push.new.self ≡ date_text date ++ codes " " =
    rw (c.in_ok-push.ensures.ascii (omega arith), with_date) at c.in_ok-push.ensures.bytes in
    let bytes : c.as_str.result.now ≡ date_text date ++ codes " " ++ clock_text second =
    c.as_str.ensures.value ∙ c.in_ok-push_clock.ensures
    ∙ ap (λ (n : ℕ). string_bytes c.push.new.self ++ clock_text (n % 864000000000 / 10000000)) units
    ∙ ap (λ (bs : List ℕ). bs ++ clock_text second) with_mark in
    IfOk-weaker c.of.result (λ made. made ≡ chars c.as_str.result.now) (IsMomentText c.args.moment)
    (λ made is. record {
      date = c.date_at.result;
      on_day = c.date_at.ensures ∙ ap (λ (n : ℕ). first_day +ℤ pos (n / 864000000000)) units;
      written = is ∙ ap chars bytes ∙ stamp_chars c.date_at.result second (omega arith);
    })
    c.of.ensures
