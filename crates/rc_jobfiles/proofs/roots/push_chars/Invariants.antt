use Rattle.std.proofs.Common.{◌≡◌, ◌++◌}
use Rattle.rc_jobfiles.proofs.roots.push_chars.Given as goal

abbrev pub invariant-loop-c : goal.invariant-loop-c
invariant-loop-c l = l.form.items ≡ l.fn.form.items ++ l.yielded
