use Rattle.std.proofs.Common.{Option}
use Rattle.rc_tree.specs.declared.entry.Entry.{Entry}
use Rattle.rc_finish.proofs.WaitLemmas.{waited_at_ok, waited_in_vain, waited_without_memory}
use Rattle.rc_finish.proofs.tries.look.Goals as goal

pub returns-in-Ok-clause-waits : goal.returns-in-Ok-clause-waits
returns-in-Ok-clause-waits g c = waited_at_ok _ c.args.side _ _ _ _ _ _ c.loop.invariant.paused c.loop.invariant.frame.counts c.in-Ok.ensures.frame.counts

pub returns-in-Err-NoMemory-clause-waits : goal.returns-in-Err-NoMemory-clause-waits
returns-in-Err-NoMemory-clause-waits g c = waited_without_memory (Option Entry) _ c.args.side _ _ _ _ _ _ _ c.loop.invariant.paused c.loop.invariant.frame.counts c.in-Err-NoMemory.ensures.frame.counts

pub returns-in-Ok-stat-clause-waits : goal.returns-in-Ok-stat-clause-waits
returns-in-Ok-stat-clause-waits g c = waited_at_ok _ c.args.side _ _ _ _ _ _ c.loop.invariant.paused c.loop.invariant.frame.counts c.in-Ok-stat.ensures.frame.counts

pub returns-in-Err-clause-waits : goal.returns-in-Err-clause-waits
returns-in-Err-clause-waits g c = waited_in_vain (Option Entry) _ c.args.side _ _ _ _ _ _ _ _ _ c.fault.ensures c.loop.invariant.paused c.loop.invariant.frame.counts c.in-Err.ensures.frame.counts
