use Rattle.std.proofs.Common.{◌+◌, ◌≤◌, rules, length, take, drop, ap, arith}
use Rattle.std.proofs.lemmas.List.{length-take}
use Rattle.rc_record.proofs.Closed.{piece_images, piece_put}
use Rattle.rc_record.proofs.Since.{call_logged, grows_call, grows_len, grows_on, left_by_write}
use Rattle.rc_record.proofs.durable.write_pieces.Goals as goal

pub returns-in-Err-clause-images : goal.returns-in-Err-clause-images
returns-in-Err-clause-images g c = λ tells.
    let old = (g.S.Site.view c.args.site.now).log in
    let mid = (g.S.Site.view c.pieces.site).log in
    piece_images c.record_write.result (1 + c.pieces.done) _ mid (g.S.Site.view c.record_write.new.self).log (length old) (omega arith) (grows_len old mid (c.pieces.invariant.log tells)) (c.pieces.invariant.images tells) (c.record_write.ensures.log tells)

pub pieces-preserved : goal.pieces-preserved
pieces-preserved g c =
    let old = (g.S.Site.view c.args.site.now).log in
    let mid = g.S.Site.view c.pieces.site in
    let new = g.S.Site.view c.record_write.new.self in
    let within : c.pieces.done + c.min-len.result ≤ length c.args.bytes.now = omega (arith, c.min-len.ensures, c.pieces.invariant.within) in
    record {
      within = within;
      told = λ tells. piece_put c.pieces.done c.min-len.result c.args.bytes.now mid.told.notes new.told.notes _ within (c.pieces.invariant.told tells)
          (ap (λ n. take n (drop c.pieces.done c.args.bytes.now)) (omega arith)) (c.in-Ok.ensures.frame.here tells);
      frame = search rules;
      log = λ tells. grows_on old mid.log new.log (c.pieces.invariant.log tells) (grows_call _ mid.log new.log (call_logged c.record_write.result _ mid.log new.log (c.record_write.ensures.log tells)));
      images = λ tells. piece_images c.record_write.result (1 + c.pieces.done) _ mid.log new.log (length old) (omega arith) (grows_len old mid.log (c.pieces.invariant.log tells)) (c.pieces.invariant.images tells) (c.record_write.ensures.log tells);
      left = λ tells. left_by_write c.record_write.result (1 + c.pieces.done) _ mid new (omega (arith, ap length (c.pieces.invariant.told tells), length-take c.pieces.done c.args.bytes.now, c.pieces.invariant.within)) (c.record_write.ensures.frame.here tells) (c.record_write.ensures.log tells) (c.pieces.invariant.left tells);
    }

pub returns-in-Err-clause-left : goal.returns-in-Err-clause-left
returns-in-Err-clause-left g c = λ tells.
    left_by_write c.record_write.result (1 + c.pieces.done) _ (g.S.Site.view c.pieces.site) (g.S.Site.view c.record_write.new.self) (omega (arith, ap length (c.pieces.invariant.told tells), length-take c.pieces.done c.args.bytes.now, c.pieces.invariant.within))
    (c.record_write.ensures.frame.here tells) (c.record_write.ensures.log tells) (c.pieces.invariant.left tells)
