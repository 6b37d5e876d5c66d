use Rattle.std.proofs.Common.{◌≡◌, ◌≤◌, ◌+◌, length}
use Rattle.rc_sitetext.specs.Drafts.{seen}
use Rattle.rc_sitetext.specs.Faults.{lines_in, lines_read, text_read_whole}
use Rattle.rc_sitetext.proofs.reader.read_draft.Given as goal

abbrev pub invariant-lines : goal.invariant-lines
invariant-lines l = record {
  read : lines_read l.number (seen l.draft) (lines_in l.rest) ≡ text_read_whole l.text;
  counted : l.number + length l.rest ≤ length l.text + 1;
}

abbrev pub decreases-lines : goal.decreases-lines
decreases-lines l = length l.rest
