use Rattle.std.proofs.lemmas.Result.{on_ok_weaker}
use Rattle.rc_record.proofs.Puts.{item_put}
use Rattle.rc_record.proofs.spelling.put_item.Goals as goal

pub returns-clause-item : goal.returns-clause-item
returns-clause-item c =
    on_ok_weaker c.put_path.result
    (λ is. item_put c.args.item.now _ _ _ _ _ _ _ _ _ _ _ c.code.ensures c.code-2.ensures c.code-3.ensures c.path_len-len.ensures.len c.in_ok-put_byte.ensures c.in_ok-put_byte-2.ensures c.in_ok-put_byte-3.ensures c.in_ok-put_facts.ensures.facts c.in_ok-put_u16.ensures is)
    c.put_path.ensures
