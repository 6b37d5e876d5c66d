use Rattle.std.proofs.Common.{[], codes, refl, arith}
use Rattle.std.specs.Str.{chars}
use Rattle.rc_run.specs.declared.outcome.Outcome.TheVariants.{Done, Listed, JobMissing, JobDeep, JobRound, JobFault, NotYet, RootFault, ListFault, TooMany, RecordFault, SiteFault, SinkFault, NoMemory}
use Rattle.rc_run.proofs.OutcomeLemmas.{chars_made, chars_named, not_yet_chars, root_chars, list_chars, site_chars, too_many_chars}
use Rattle.rc_run.proofs.outcome.line_of.Goals as goal

pub returns-in-Done : goal.returns-in-Done
unfolding chars
returns-in-Done c = chars_made c.from_str.result [] c.args.outcome.now (Done c.in-Done.bits c.in-Done.moment) c.in-Done.is refl c.from_str.ensures.ok

pub returns-in-Listed : goal.returns-in-Listed
unfolding chars
returns-in-Listed c = chars_made c.from_str-in-Listed.result [] c.args.outcome.now (Listed c.in-Listed.bits) c.in-Listed.is refl c.from_str-in-Listed.ensures.ok

pub returns-in-JobMissing : goal.returns-in-JobMissing
unfolding chars
returns-in-JobMissing c = chars_named c.job_line.result (codes "ERROR: job file missing: ") _ c.args.outcome.now (JobMissing c.in-JobMissing.name) c.in-JobMissing.is refl c.job_line.ensures

pub returns-in-JobDeep : goal.returns-in-JobDeep
unfolding chars
returns-in-JobDeep c = chars_named c.job_line-in-JobDeep.result (codes "ERROR: job file too deep: ") _ c.args.outcome.now (JobDeep c.in-JobDeep.name) c.in-JobDeep.is refl c.job_line-in-JobDeep.ensures

pub returns-in-JobRound : goal.returns-in-JobRound
unfolding chars
returns-in-JobRound c = chars_named c.job_line-in-JobRound.result (codes "ERROR: job file names itself: ") _ c.args.outcome.now (JobRound c.in-JobRound.name) c.in-JobRound.is refl c.job_line-in-JobRound.ensures

pub returns-in-JobFault : goal.returns-in-JobFault
unfolding chars
returns-in-JobFault c = chars_made c.from_str-in-JobFault.result (codes "ERROR: job store fault") c.args.outcome.now JobFault c.in-JobFault.is refl c.from_str-in-JobFault.ensures.ok

pub returns-in-NotYet : goal.returns-in-NotYet
returns-in-NotYet c = chars_made c.not_yet_line.result _ c.args.outcome.now (NotYet c.in-NotYet.what) c.in-NotYet.is (not_yet_chars c.in-NotYet.what) c.not_yet_line.ensures

pub returns-in-RootFault : goal.returns-in-RootFault
returns-in-RootFault c = chars_made c.fault_line.result _ c.args.outcome.now (RootFault c.in-RootFault.side) c.in-RootFault.is (root_chars c.in-RootFault.side) c.fault_line.ensures

pub returns-in-ListFault : goal.returns-in-ListFault
returns-in-ListFault c = chars_made c.fault_line-in-ListFault.result _ c.args.outcome.now (ListFault c.in-ListFault.side) c.in-ListFault.is (list_chars c.in-ListFault.side) c.fault_line-in-ListFault.ensures

pub returns-in-TooMany : goal.returns-in-TooMany
returns-in-TooMany c = chars_made c.too_many_line.result _ c.args.outcome.now (TooMany c.in-TooMany.side c.in-TooMany.count) c.in-TooMany.is (too_many_chars c.in-TooMany.side c.in-TooMany.count (omega arith)) c.too_many_line.ensures

pub returns-in-RecordFault : goal.returns-in-RecordFault
unfolding chars
returns-in-RecordFault c = chars_made c.from_str-in-RecordFault.result (codes "ERROR: record fault") c.args.outcome.now RecordFault c.in-RecordFault.is refl c.from_str-in-RecordFault.ensures.ok

pub returns-in-SiteFault : goal.returns-in-SiteFault
returns-in-SiteFault c = chars_made c.fault_line-in-SiteFault.result _ c.args.outcome.now (SiteFault c.in-SiteFault.side) c.in-SiteFault.is (site_chars c.in-SiteFault.side) c.fault_line-in-SiteFault.ensures

pub returns-in-SinkFault : goal.returns-in-SinkFault
unfolding chars
returns-in-SinkFault c = chars_made c.from_str-in-SinkFault.result (codes "ERROR: report fault") c.args.outcome.now SinkFault c.in-SinkFault.is refl c.from_str-in-SinkFault.ensures.ok

pub returns-in-NoMemory : goal.returns-in-NoMemory
unfolding chars
returns-in-NoMemory c = chars_made c.from_str-in-NoMemory.result (codes "ERROR: no memory") c.args.outcome.now NoMemory c.in-NoMemory.is refl c.from_str-in-NoMemory.ensures.ok
