use Rattle.std.proofs.Common.{string_bytes, decimal}
use Rattle.std.proofs.lemmas.Fmt.{IsAscii-decimal}
use Rattle.std.proofs.lemmas.Str.{IsUtf8-string_bytes, chars-IsAscii}
use Rattle.rc_job.proofs.Characters.{pushed}
use Rattle.rc_job.proofs.lines.Lines.push_number.Goals as goal

pub returns : goal.returns
returns c =
    let text = c.self.inside.text in
    pushed (string_bytes text) _ (decimal c.args.number) _ _ (IsUtf8-string_bytes text) c.self.view_is c.in_ok-write.ensures.bytes (chars-IsAscii (decimal c.args.number) (IsAscii-decimal c.args.number c.ranges.number.fits))
