use Rattle.std.proofs.Common.{◌∙◌, arith}
use Rattle.rc_report.proofs.TextLemmas.{spaces_more}
use Rattle.rc_report.proofs.parts.push_spaces.Goals as goal

pub loop-preserved : goal.loop-preserved
unfolding lib.Utf8.encode
loop-preserved c = record {
  spaces = c.in_ok-push.ensures.bytes ∙ spaces_more _ _ c.args.from c.loop.counter c.loop.auto.counter c.loop.invariant.spaces;
  within = omega arith;
}
