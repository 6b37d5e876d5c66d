use Rattle.rc_finish.proofs.WaitLemmas.{waited_at_ok, waited_in_vain, waited_without_memory, waits_not}
use Rattle.rc_finish.proofs.tries.sync.Goals as goal

pub returns-then-not-is_asked-clause-waits : goal.returns-then-not-is_asked-clause-waits
returns-then-not-is_asked-clause-waits g c = waits_not _ _ _

pub returns-in-Ok-clause-waits : goal.returns-in-Ok-clause-waits
returns-in-Ok-clause-waits g c = waited_at_ok _ c.args.side _ _ _ _ _ _ c.loop.invariant.paused c.loop.invariant.frame.counts c.in-Ok.ensures.frame.counts

pub returns-in-Err-NoMemory-clause-waits : goal.returns-in-Err-NoMemory-clause-waits
returns-in-Err-NoMemory-clause-waits g c = waited_without_memory (Unit {0}) _ c.args.side _ _ _ _ _ _ _ c.loop.invariant.paused c.loop.invariant.frame.counts c.in-Err-NoMemory.ensures.frame.counts

pub returns-in-Ok-sync-clause-waits : goal.returns-in-Ok-sync-clause-waits
returns-in-Ok-sync-clause-waits g c = waited_at_ok _ c.args.side _ _ _ _ _ _ c.loop.invariant.paused c.loop.invariant.frame.counts c.in-Ok-sync.ensures.frame.counts

pub returns-in-Err-clause-waits : goal.returns-in-Err-clause-waits
returns-in-Err-clause-waits g c = waited_in_vain (Unit {0}) _ c.args.side _ _ _ _ _ _ _ _ _ c.fault.ensures c.loop.invariant.paused c.loop.invariant.frame.counts c.in-Err.ensures.frame.counts
