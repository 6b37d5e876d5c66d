use Rattle.std.proofs.Common.{◌≡◌, ◌++◌, length, true, take}
use Rattle.std.specs.List.{flat_map}
use Rattle.rc_sitetext.specs.Writing.{node_line}
use Rattle.rc_sitetext.proofs.writer.send_entries.Given as goal

abbrev pub invariant-loop-node : goal.invariant-loop-node
invariant-loop-node g l =
    record {
      told : g.K.Sink.tells ≡ true → g.K.Sink.received l.out ≡ g.K.Sink.received l.fn.out ++ flat_map node_line (take (length l.yielded) l.fn.nodes);
      counts : g.K.Sink.faults l.out ≡ g.K.Sink.faults l.fn.out;
    }
