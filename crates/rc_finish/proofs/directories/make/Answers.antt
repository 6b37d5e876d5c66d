use Rattle.std.proofs.Common.{arith, rules}
use Rattle.rc_volume.specs.declared.site.Side.TheVariants.{Target}
use Rattle.rc_finish.specs.Passes.{directory_at}
use Rattle.rc_finish.proofs.MakeLemmas.{directory_again, still_makable}
use Rattle.rc_finish.proofs.Retries.{done_at_last, each_then, failed_at_last, failed_once_more, out_of_memory}
use Rattle.rc_finish.proofs.WaitLemmas.{paused_more, waited_at_ok, waited_in_vain, waited_without_memory}
use Rattle.rc_finish.proofs.directories.make.Goals as goal

pub returns-in-Ok-clause-frame : goal.returns-in-Ok-clause-frame
returns-in-Ok-clause-frame g c =
    done_at_last Target (directory_at c.args.path.now) (directory_again c.args.path.now) _ _ _ _ _ _ c.loop.invariant.frame c.in-Ok.ensures.frame

pub returns-in-Ok-clause-calls : goal.returns-in-Ok-clause-calls
returns-in-Ok-clause-calls g c = λ tells. each_then _ _ _ _ (c.loop.invariant.calls tells) (c.attempt.ensures.calls tells)

pub returns-in-Ok-clause-waits : goal.returns-in-Ok-clause-waits
returns-in-Ok-clause-waits g c = waited_at_ok _ Target _ _ _ _ _ _ c.loop.invariant.paused c.loop.invariant.frame.counts c.in-Ok.ensures.frame.counts

pub returns-in-Err-NoMemory-clause-frame : goal.returns-in-Err-NoMemory-clause-frame
returns-in-Err-NoMemory-clause-frame g c =
    out_of_memory Target (directory_at c.args.path.now) (directory_again c.args.path.now) _ _ _ _ _ _ _ c.loop.invariant.frame c.in-Err-NoMemory.ensures.frame

pub returns-in-Err-NoMemory-clause-calls : goal.returns-in-Err-NoMemory-clause-calls
returns-in-Err-NoMemory-clause-calls g c = λ tells. each_then _ _ _ _ (c.loop.invariant.calls tells) (c.attempt.ensures.calls tells)

pub returns-in-Err-NoMemory-clause-waits : goal.returns-in-Err-NoMemory-clause-waits
returns-in-Err-NoMemory-clause-waits g c = waited_without_memory (Unit {0}) _ Target _ _ _ _ _ _ _ c.loop.invariant.paused c.loop.invariant.frame.counts c.in-Err-NoMemory.ensures.frame.counts

pub loop-preserved : goal.loop-preserved
loop-preserved g c =
    let once = c.in-Err-Failed.ensures.frame in
    record {
      frame = failed_once_more Target (directory_at c.args.path.now) (directory_again c.args.path.now) _ _ _ _ _ _ _ c.in-Err-Failed.field-0-is c.loop.invariant.frame once;
      place = λ tells. still_makable _ _ c.args.path.now (c.loop.invariant.place tells) (once.here tells) (once.elsewhere tells).others;
      calls = λ tells. each_then _ _ _ _ (c.loop.invariant.calls tells) (c.attempt.ensures.calls tells);
      always = search rules;
      last = search rules;
      unread = search rules;
      no_pause = λ none. absurd (omega (arith, none, c.loop-test.true));
      paused = paused_more c.args.tries.wait c.loop.counter (g.C.Clock.paused c.args.clock.now) _ _ c.loop.invariant.paused c.pause.ensures.paused;
    }

pub returns-in-Ok-attempt-clause-frame : goal.returns-in-Ok-attempt-clause-frame
returns-in-Ok-attempt-clause-frame g c =
    done_at_last Target (directory_at c.args.path.now) (directory_again c.args.path.now) _ _ _ _ _ _ c.loop.invariant.frame c.in-Ok-attempt.ensures.frame

pub returns-in-Ok-attempt-clause-calls : goal.returns-in-Ok-attempt-clause-calls
returns-in-Ok-attempt-clause-calls g c = λ tells. each_then _ _ _ _ (c.loop.invariant.calls tells) (c.attempt-2.ensures.calls tells)

pub returns-in-Ok-attempt-clause-waits : goal.returns-in-Ok-attempt-clause-waits
returns-in-Ok-attempt-clause-waits g c = waited_at_ok _ Target _ _ _ _ _ _ c.loop.invariant.paused c.loop.invariant.frame.counts c.in-Ok-attempt.ensures.frame.counts

pub returns-in-Err-clause-frame : goal.returns-in-Err-clause-frame
returns-in-Err-clause-frame g c =
    failed_at_last Target (directory_at c.args.path.now) (directory_again c.args.path.now) _ _ _ _ _ _ _ _ _ c.fault.ensures (omega (arith, c.loop-test.false)) c.loop.invariant.frame c.in-Err.ensures.frame

pub returns-in-Err-clause-calls : goal.returns-in-Err-clause-calls
returns-in-Err-clause-calls g c = λ tells. each_then _ _ _ _ (c.loop.invariant.calls tells) (c.attempt-2.ensures.calls tells)

pub returns-in-Err-clause-waits : goal.returns-in-Err-clause-waits
returns-in-Err-clause-waits g c = waited_in_vain (Unit {0}) _ Target _ _ _ _ _ _ _ _ _ c.fault.ensures c.loop.invariant.paused c.loop.invariant.frame.counts c.in-Err.ensures.frame.counts
