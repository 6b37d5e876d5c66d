use Rattle.std.proofs.Common.{ap, refl, arith}
use Rattle.rc_sitetext.specs.Drafts.{seen}
use Rattle.rc_sitetext.specs.Faults.{Draft, lines_in, lines_read, text_read_whole}
use Rattle.rc_sitetext.proofs.Steps.{ends_there, goes_on, stops_at}
use Rattle.rc_sitetext.proofs.reader.read_draft.Goals as goal

pub lines-init : goal.lines-init
lines-init c = record {
  read = ap (λ (d : Draft). lines_read 1 d (lines_in c.args.text.now)) c.new-draft.ensures;
  counted = omega arith;
}

pub returns-in-Err : goal.returns-in-Err
returns-in-Err c =
    rw c.line_at.ensures
    (stops_at seen c.lines.number (seen c.lines.draft) c.in-Err.e c.in-Some.first.line.now c.in-Some.first.rest.now (lines_in c.lines.rest.now) (text_read_whole c.args.text.now) c.in-Some.ensures.found c.in-Err.ensures c.lines.invariant.read)

pub overflow_add-number : goal.overflow_add-number
overflow_add-number c = let shorter = c.in-Some.ensures.shorter in omega (arith, c.lines.invariant.counted, c.keeps_length.ensures, shorter)

pub lines-smaller : goal.lines-smaller
lines-smaller c = c.in-Some.ensures.shorter

pub lines-preserved : goal.lines-preserved
lines-preserved c = record {
  read = goes_on c.lines.number (seen c.lines.draft) (seen c.in-Ok.more) c.in-Some.first.line.now c.in-Some.first.rest.now (lines_in c.lines.rest.now) (text_read_whole c.args.text.now) c.in-Some.ensures.found c.in-Ok.ensures c.lines.invariant.read;
  counted = let shorter = c.in-Some.ensures.shorter in omega (arith, c.lines.invariant.counted, shorter);
}

pub returns : goal.returns
returns c =
    rw (ends_there c.lines.number (seen c.lines.draft) c.lines.rest.now (lines_in c.lines.rest.now) (text_read_whole c.args.text.now) (c.in_default.ensures.last refl) c.lines.invariant.read)
    c.ended.ensures
