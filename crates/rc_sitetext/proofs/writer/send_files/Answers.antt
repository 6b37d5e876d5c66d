-- Each turn writes the line of the next file behind those of the files before it.
use Rattle.std.proofs.Common.{◌++◌, ◌+◌, length, take, drop, ap, sym, ◌∙◌, append_assoc, arith}
use Rattle.std.proofs.lemmas.List.{length_push, take_all}
use Rattle.std.proofs.lemmas.Iterator.Consumers.{YieldsList-end, YieldsList-from_first, YieldsList-turn}
use Rattle.rc_sitetext.specs.Writing.{job_bytes_line}
use Rattle.rc_sitetext.proofs.Sends.{on_err, front_in, pieces_split, pieces_next, file_lines}
use Rattle.rc_sitetext.proofs.writer.send_files.Goals as goal

pub returns-in_err-send_job-clause-front : goal.returns-in_err-send_job-clause-front
returns-in_err-send_job-clause-front g c = λ told.
    let files = c.args.files in
    let job = c.in-Some.job.now in
    let i = length c.loop-job.yielded in
    let turn = YieldsList-turn (YieldsList-from_first (λ n. n.now) (λ n. n) files cc) c.loop-job.yielded _ c.loop-job.yielded_by _ _ c.in-Some.job c.in-Some.is c.next.ensures.steps in
    let whole = pieces_split job_bytes_line files i job turn.0 ∙ ap (λ n. file_lines (take i files) ++ (job_bytes_line n ++ file_lines (drop (i + 1) files))) (sym turn.1) in
    on_err c.from_residual.result
    (front_in (g.K.Sink.received c.args.out.now) (g.K.Sink.received c.loop-job.out) (g.K.Sink.received c.send_job.new.out) (file_lines (take i files)) (job_bytes_line job) (file_lines (drop (i + 1) files)) (file_lines files)
    (c.loop-job.invariant.told told) (c.in_err-send_job.ensures.front told) whole)

pub loop-job-preserved : goal.loop-job-preserved
loop-job-preserved g c =
    let files = c.args.files in
    let job = c.in-Some.job.now in
    let i = length c.loop-job.yielded in
    let old = g.K.Sink.received c.args.out.now in
    let turn = YieldsList-turn (YieldsList-from_first (λ n. n.now) (λ n. n) files cc) c.loop-job.yielded _ c.loop-job.yielded_by _ _ c.in-Some.job c.in-Some.is c.next.ensures.steps in
    record {
      told = λ told.
          let more = pieces_next job_bytes_line files i job turn.0 ∙ ap (λ n. file_lines (take i files) ++ job_bytes_line n) (sym turn.1) in
          c.in_ok-send_job.ensures.written told ∙ ap (λ t. t ++ job_bytes_line job) (c.loop-job.invariant.told told)
          ∙ append_assoc old (file_lines (take i files)) (job_bytes_line job) ∙ ap (λ t. old ++ t) (sym more)
          ∙ ap (λ k. old ++ file_lines (take k files)) (sym (length_push c.loop-job.yielded c.in-Some.job));
      counts = c.in_ok-send_job.ensures.cause ∙ c.loop-job.invariant.counts;
    }

pub returns-clause-written : goal.returns-clause-written
returns-clause-written g c = λ told.
    let files = c.args.files in
    let old = g.K.Sink.received c.args.out.now in
    let end = YieldsList-end (YieldsList-from_first (λ n. n.now) (λ n. n) files cc) c.loop-job.yielded _ c.loop-job.yielded_by _ _ c.in-None.is c.next.ensures.steps in
    c.loop-job.invariant.told told ∙ ap (λ k. old ++ file_lines (take k files)) end.1
    ∙ ap (λ ns. old ++ file_lines ns) (take_all (length files) files (omega arith))
