use Rattle.std.proofs.Common.{arith, rules, option_map}
use Rattle.rc_volume.specs.Site.{with_props}
use Rattle.rc_finish.proofs.Retries.{done_at_last, each_logs, each_then, failed_at_last, failed_once_more, out_of_memory, set_again, set_perhaps, still_some}
use Rattle.rc_finish.proofs.WaitLemmas.{paused_more, waited_at_ok, waited_in_vain, waited_without_memory}
use Rattle.rc_finish.proofs.tries.set.Goals as goal

pub returns-in-Ok-clause-frame : goal.returns-in-Ok-clause-frame
returns-in-Ok-clause-frame g c =
    done_at_last c.args.side (option_map (with_props c.args.props.now)) (set_again c.args.props.now) _ _ _ _ _ _ c.loop.invariant.frame c.in-Ok.ensures.frame

pub returns-in-Ok-clause-calls : goal.returns-in-Ok-clause-calls
returns-in-Ok-clause-calls g c = λ tells. each_then _ _ _ _ (c.loop.invariant.calls tells) (each_logs _ _ _ _ (c.set_props.ensures.log tells))

pub returns-in-Ok-clause-waits : goal.returns-in-Ok-clause-waits
returns-in-Ok-clause-waits g c = waited_at_ok _ c.args.side _ _ _ _ _ _ c.loop.invariant.paused c.loop.invariant.frame.counts c.in-Ok.ensures.frame.counts

pub returns-in-Err-NoMemory-clause-frame : goal.returns-in-Err-NoMemory-clause-frame
returns-in-Err-NoMemory-clause-frame g c =
    out_of_memory c.args.side (option_map (with_props c.args.props.now)) (set_again c.args.props.now) _ _ _ _ _ _ _ c.loop.invariant.frame (set_perhaps c.args.side _ _ _ _ _ _ _ c.in-Err-NoMemory.ensures.frame)

pub returns-in-Err-NoMemory-clause-calls : goal.returns-in-Err-NoMemory-clause-calls
returns-in-Err-NoMemory-clause-calls g c = λ tells. each_then _ _ _ _ (c.loop.invariant.calls tells) (each_logs _ _ _ _ (c.set_props.ensures.log tells))

pub returns-in-Err-NoMemory-clause-waits : goal.returns-in-Err-NoMemory-clause-waits
returns-in-Err-NoMemory-clause-waits g c = waited_without_memory (Unit {0}) _ c.args.side _ _ _ _ _ _ _ c.loop.invariant.paused c.loop.invariant.frame.counts c.in-Err-NoMemory.ensures.frame.counts

pub loop-preserved : goal.loop-preserved
loop-preserved g c =
    let once = set_perhaps c.args.side _ _ _ _ _ _ _ c.in-Err-Failed.ensures.frame in
    record {
      frame = failed_once_more c.args.side (option_map (with_props c.args.props.now)) (set_again c.args.props.now) _ _ _ _ _ _ _ c.in-Err-Failed.field-0-is c.loop.invariant.frame once;
      stands = λ tells. still_some c.args.props.now _ _ (c.loop.invariant.stands tells) (once.here tells);
      calls = λ tells. each_then _ _ _ _ (c.loop.invariant.calls tells) (each_logs _ _ _ _ (c.set_props.ensures.log tells));
      always = search rules;
      last = search rules;
      unread = search rules;
      no_pause = λ none. absurd (omega (arith, none, c.loop-test.true));
      paused = paused_more c.args.tries.wait c.loop.counter (g.C.Clock.paused c.args.clock.now) _ _ c.loop.invariant.paused c.pause.ensures.paused;
    }

pub returns-in-Ok-set_props-clause-frame : goal.returns-in-Ok-set_props-clause-frame
returns-in-Ok-set_props-clause-frame g c =
    done_at_last c.args.side (option_map (with_props c.args.props.now)) (set_again c.args.props.now) _ _ _ _ _ _ c.loop.invariant.frame c.in-Ok-set_props.ensures.frame

pub returns-in-Ok-set_props-clause-calls : goal.returns-in-Ok-set_props-clause-calls
returns-in-Ok-set_props-clause-calls g c = λ tells. each_then _ _ _ _ (c.loop.invariant.calls tells) (each_logs _ _ _ _ (c.set_props-2.ensures.log tells))

pub returns-in-Ok-set_props-clause-waits : goal.returns-in-Ok-set_props-clause-waits
returns-in-Ok-set_props-clause-waits g c = waited_at_ok _ c.args.side _ _ _ _ _ _ c.loop.invariant.paused c.loop.invariant.frame.counts c.in-Ok-set_props.ensures.frame.counts

pub returns-in-Err-clause-frame : goal.returns-in-Err-clause-frame
returns-in-Err-clause-frame g c =
    failed_at_last c.args.side (option_map (with_props c.args.props.now)) (set_again c.args.props.now) _ _ _ _ _ _ _ _ _ c.fault.ensures (omega (arith, c.loop-test.false)) c.loop.invariant.frame (set_perhaps c.args.side _ _ _ _ _ _ _ c.in-Err.ensures.frame)

pub returns-in-Err-clause-calls : goal.returns-in-Err-clause-calls
returns-in-Err-clause-calls g c = λ tells. each_then _ _ _ _ (c.loop.invariant.calls tells) (each_logs _ _ _ _ (c.set_props-2.ensures.log tells))

pub returns-in-Err-clause-waits : goal.returns-in-Err-clause-waits
returns-in-Err-clause-waits g c = waited_in_vain (Unit {0}) _ c.args.side _ _ _ _ _ _ _ _ _ c.fault.ensures c.loop.invariant.paused c.loop.invariant.frame.counts c.in-Err.ensures.frame.counts
