use Rattle.std.proofs.Common.{◌≡◌, ◌++◌, take, map}
use Rattle.rc_job.specs.Settings.{text_of}
use Rattle.rc_job.specs.Values.{value_text}
use Rattle.rc_job.proofs.rows.push_files.Given as goal

abbrev pub invariant-loop-pattern : goal.invariant-loop-pattern
invariant-loop-pattern l = l.lines ≡ l.initial.lines ++ text_of (map value_text (take l.pattern-index l.fn.files))
