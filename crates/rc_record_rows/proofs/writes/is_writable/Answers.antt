use Rattle.std.proofs.Common.{length, ap, arith}
use Rattle.std.proofs.lemmas.Bool.{leb-true}
use Rattle.rc_record.specs.declared.room.TheConstants.{TEXT_MAX}
use Rattle.rc_record.proofs.Lengths.{spelled}
use Rattle.rc_record_rows.proofs.writes.is_writable.Goals as goal

pub returns : goal.returns
returns c = λ fits. record {
  allowed = c.requires.allowed;
  text = omega (
    arith,
    leb-true (length c.text.result.now) TEXT_MAX fits,
    ap length (spelled c.text.result.now c.args.plan.now.job c.text.utf8 c.text.ensures),
  );
}
