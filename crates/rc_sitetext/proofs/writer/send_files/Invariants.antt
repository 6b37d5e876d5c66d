use Rattle.std.proofs.Common.{◌≡◌, ◌++◌, length, true, take}
use Rattle.std.specs.List.{flat_map}
use Rattle.rc_sitetext.specs.Writing.{job_bytes_line}
use Rattle.rc_sitetext.proofs.writer.send_files.Given as goal

abbrev pub invariant-loop-job : goal.invariant-loop-job
invariant-loop-job g l =
    record {
      told : g.K.Sink.tells ≡ true → g.K.Sink.received l.out ≡ g.K.Sink.received l.fn.out ++ flat_map job_bytes_line (take (length l.yielded) l.fn.files);
      counts : g.K.Sink.faults l.out ≡ g.K.Sink.faults l.fn.out;
    }
