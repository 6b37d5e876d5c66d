use Rattle.std.proofs.Common.{[]}
use Rattle.rc_jobfiles.specs.Resolving.{Gathering, file_gathered, gathered}
use Rattle.rc_jobfiles.proofs.Picks.{all_named, due_read, job_read}
use Rattle.rc_jobfiles.proofs.resolving.read_job.Goals as goal

pub returns-in-Ok-clause-read : goal.returns-in-Ok-clause-read
returns-in-Ok-clause-read g c tells =
    let store = g.J.JobStore.files c.args.jobs.now in
    let settings = c.args.settings.items in
    let old = c.new-progress.result in
    let start = c.new-progress.ensures in
    let due : Gathering = gathered (file_gathered 8 store [] []) settings 0 in
    let read = due_read old c.read_list.new.progress store settings old.chain.items c.args.line.now old.begun start.chain c.requires start.begun (c.in-Ok.ensures.reads tells) in
    job_read old c.read_list.new.progress due c.picked.result start.lists start.files start.excluded_files start.excluded_dirs (all_named 8 store [] [] settings 0) read c.picked.ensures
