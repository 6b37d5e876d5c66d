-- What contracts see of a draft, of the fields of an entry and of a job file.
use Rattle.rc_sitetext.specs.declared.draft.Draft as draft
use Rattle.rc_sitetext.specs.declared.entry.EntryFields as fields
use Rattle.rc_sitetext.specs.declared.entry.EntryValues as values
use Rattle.rc_sitetext.specs.declared.jobs.JobFile as jobs
use Rattle.rc_sitetext.specs.Faults.{Draft}
use Rattle.rc_sitetext.specs.Reading.{EntryFields, EntryValues}
use Rattle.rc_sitetext.specs.SiteText.{JobText}

abbrev pub seen : draft.Draft → Draft
seen d = record {
  place = d.place;
  moment = d.moment;
  source = d.source;
  target = d.target;
  notes = d.notes.items;
  jobs = d.jobs;
}

abbrev pub fields_of : fields.EntryFields → EntryFields
fields_of f = record { path = f.path; attr = f.attr; access = f.access.items; owner = f.owner.items; audit = f.audit.items }

abbrev pub values_of : values.EntryValues → EntryValues
values_of v = record { path = v.path; props = v.props; size = v.size }

abbrev pub job_of : jobs.JobFile → JobText
job_of job = (job.name, job.bytes.items)
