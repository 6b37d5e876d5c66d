-- What contracts see of the fields of a line.
use Rattle.rc_sitetext.specs.declared.fields.EntryTexts as declared
use Rattle.rc_sitetext.specs.declared.fields.LastTexts as last
use Rattle.rc_sitetext.specs.Reading.{EntryTexts, LastTexts}

abbrev pub last_of_texts : last.LastTexts → LastTexts
last_of_texts t = record { audit = t.audit.now; size = t.size.now; content = t.content.now }

abbrev pub texts_of : declared.EntryTexts → EntryTexts
texts_of t = record {
  kind = t.kind;
  path = t.path.now;
  attr = t.attr.now;
  created = t.created.now;
  written = t.written.now;
  access = t.access.now;
  owner = t.owner.now;
  audit = t.last.audit.now;
  size = t.last.size.now;
  content = t.last.content.now;
}
