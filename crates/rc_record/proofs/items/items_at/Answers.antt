use Rattle.std.proofs.Common.{◌≡◌, ◌++◌, ◌∷◌, [], Ok, subst, arith}
use Rattle.rc_record.specs.Answers.{Fails}
use Rattle.rc_record.specs.Grammar.{items_at, next_at}
use Rattle.rc_record.proofs.Walk.{goes_on, ends, is_done, more_units, limit_with}
use Rattle.rc_record.proofs.items.items_at.Goals as goal

pub returns-in-Err-clause-items : goal.returns-in-Err-clause-items
returns-in-Err-clause-items c =
    ends c.in-Err.e c.args.head c.args.count c.loop.counter c.loop.items.items c.loop.end c.args.bytes.now
    (items_at c.args.head c.args.count [] c.args.off c.args.bytes.now) c.loop-test.true c.loop.units c.loop.invariant.units
    (subst (λ before. Fails c.in-Err.e (next_at (limit_with c.args.head c.loop.units) before c.loop.end c.args.bytes.now)) c.deref.ensures.value c.in-Err.ensures.item)
    c.loop.invariant.read

pub loop-preserved : goal.loop-preserved
loop-preserved c =
    let pushed : c.push.new.self.items ≡ c.loop.items.items ++ c.in-Ok.item ∷ [] = c.in_ok-push-in-Ok.ensures.items in
    record {
      read = rw pushed (goes_on c.args.head c.args.count c.loop.counter c.loop.items.items c.loop.end c.args.bytes.now c.in-Ok.item c.in-Ok.behind
          (items_at c.args.head c.args.count [] c.args.off c.args.bytes.now) c.loop-test.true c.loop.units c.loop.invariant.units
          (subst (λ before. next_at (limit_with c.args.head c.loop.units) before c.loop.end c.args.bytes.now ≡ Ok (c.in-Ok.item, c.in-Ok.behind)) c.deref.ensures.value c.in-Ok.ensures.item)
          c.loop.invariant.read);
      units = rw pushed (more_units c.args.head c.loop.items.items c.in-Ok.item c.loop.units c.taken_by-units.result c.loop.invariant.units c.taken_by-units.ensures);
      bound = omega (arith, c.taken_by-units.ensures, c.in-Ok.ensures.fits);
    }

pub returns-clause-items : goal.returns-clause-items
returns-clause-items c =
    is_done c.args.head c.args.count c.loop.counter c.loop.items.items c.loop.end c.args.bytes.now
    (items_at c.args.head c.args.count [] c.args.off c.args.bytes.now) c.loop-test.false c.loop.invariant.read
