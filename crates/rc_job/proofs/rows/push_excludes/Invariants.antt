use Rattle.std.proofs.Common.{◌≡◌, ◌++◌, take, map}
use Rattle.rc_job.specs.Settings.{text_of}
use Rattle.rc_job.specs.Values.{value_text, exclude_text}
use Rattle.rc_job.proofs.rows.push_excludes.Given as goal

abbrev pub invariant-loop-value : goal.invariant-loop-value
invariant-loop-value l = l.lines ≡ l.initial.lines ++ text_of (map (λ v. value_text (exclude_text v)) (take l.value-index l.fn.excludes))
