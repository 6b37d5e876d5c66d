use Rattle.rc_sitetext.specs.declared.site_file.SiteFile.{SiteFile}
use Rattle.rc_sitetext.specs.Drafts.{seen}
use Rattle.rc_sitetext.proofs.SiteLaws.{error_refuses, file_found, file_only, file_refused, only_error}
use Rattle.rc_sitetext.proofs.reader.read_site.Goals as goal

pub returns-in-Ok-clause-found : goal.returns-in-Ok-clause-found
returns-in-Ok-clause-found c =
    file_found c.args.text.now (seen c.in-Ok.draft) c.file_of.result c.in-Ok.ensures
    (record { moment = c.file_of.ensures.moment; told = c.file_of.ensures.told; jobs = c.file_of.ensures.jobs; memory = c.file_of.ensures.memory })

pub returns-in-Ok-clause-only : goal.returns-in-Ok-clause-only
returns-in-Ok-clause-only c =
    file_only c.args.text.now (seen c.in-Ok.draft) c.file_of.result c.in-Ok.ensures
    (record { moment = c.file_of.ensures.moment; told = c.file_of.ensures.told; jobs = c.file_of.ensures.jobs; memory = c.file_of.ensures.memory })

pub returns-in-Ok-clause-refused : goal.returns-in-Ok-clause-refused
returns-in-Ok-clause-refused c =
    file_refused c.args.text.now (seen c.in-Ok.draft) c.file_of.result c.in-Ok.ensures
    (record { moment = c.file_of.ensures.moment; told = c.file_of.ensures.told; jobs = c.file_of.ensures.jobs; memory = c.file_of.ensures.memory })

pub returns-in-Err-clause-only : goal.returns-in-Err-clause-only
returns-in-Err-clause-only c = only_error seen c.args.text.now c.in-Err.e c.in-Err.ensures

pub returns-in-Err-clause-refused : goal.returns-in-Err-clause-refused
returns-in-Err-clause-refused c = error_refuses SiteFile seen c.args.text.now c.in-Err.e c.in-Err.ensures
