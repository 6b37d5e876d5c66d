-- What holds of the job that is run; and a fault at the words says of each job what it is to say.
use Rattle.std.proofs.Common.{sym, ap, subst}
use Rattle.rc_jobfiles.specs.Ask.{texts}
use Rattle.rc_run.specs.Words.{asked}
use Rattle.rc_run.proofs.StillLemmas.{still_mirrors}
use Rattle.rc_run.proofs.WordLemmas.{run_so, run_stopped}
use Rattle.rc_run.proofs.run.mirror_alone.Goals as goal

pub returns-in-Ok-2-clause-mirrors : goal.returns-in-Ok-2-clause-mirrors
returns-in-Ok-2-clause-mirrors g c = λ known.
    run_so (asked (texts c.args.words.now) (g.J.JobStore.files c.args.jobs.now)) c.ask.result c.in-Ok.accepted _ (c.ask.ensures.asked known) c.in-Ok.is (record {
      answers = c.run-outcome.ensures.answers;
      cause = c.run-outcome.ensures.cause;
      tried = c.run-outcome.ensures.tried;
      leaves = c.run-outcome.ensures.leaves;
      lasting = c.run-outcome.ensures.lasting;
      in_order = c.run-outcome.ensures.in_order;
      listed = c.run-outcome.ensures.listed;
      opened = c.run-outcome.ensures.opened;
      bound = c.run-outcome.ensures.bound;
      bits = c.run-outcome.ensures.bits;
      sends = c.run-outcome.ensures.sends;
      reported = c.run-outcome.ensures.reported;
      waits = c.run-outcome.ensures.waits;
      no_pause = c.run-outcome.ensures.no_pause;
    })

pub returns-in-Err-clause-mirrors : goal.returns-in-Err-clause-mirrors
returns-in-Err-clause-mirrors g c = λ known.
    run_stopped (asked (texts c.args.words.now) (g.J.JobStore.files c.args.jobs.now)) c.ask.result c.in-Err.outcome _ (c.ask.ensures.asked known) c.in-Err.is
    (λ fault job. still_mirrors _ _ job _ c.in-Err.outcome _ _ _ fault)
