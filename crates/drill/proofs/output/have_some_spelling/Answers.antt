use Rattle.rc_sitetext.proofs.Sends.{are_files, texts_of}
use Rattle.drill.proofs.output.have_some_spelling.Goals as goal

pub returns : goal.returns
returns c = (texts_of c.files-files.result, are_files c.args.jobs.now c.files-files.result c.files-files.ensures)
