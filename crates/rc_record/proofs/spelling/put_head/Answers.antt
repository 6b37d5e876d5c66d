use Rattle.std.proofs.lemmas.Result.{on_ok_weaker}
use Rattle.rc_record.proofs.Puts.{head_put}
use Rattle.rc_record.proofs.spelling.put_head.Goals as goal

pub returns-clause-head : goal.returns-clause-head
returns-clause-head c =
    on_ok_weaker c.put_u32-2.result
    (λ is. head_put c.args.plan.now _ _ _ _ _ _ _ _ _ c.units.ensures.count c.flag_code.ensures c.job_len.ensures c.in_ok-put_magic.ensures c.in_ok-put_u64.ensures c.in_ok-put_u32.ensures c.in_ok-put_byte.ensures is)
    c.put_u32-2.ensures
