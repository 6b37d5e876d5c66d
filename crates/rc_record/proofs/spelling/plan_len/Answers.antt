use Rattle.std.proofs.Common.{◌++◌, length, ap, arith, length-append}
use Rattle.std.specs.Int.{w32, to_le_bytes}
use Rattle.std.specs.List.{flat_map}
use Rattle.rc_record.specs.Spelling.{item_bytes, text_bytes}
use Rattle.rc_record.proofs.Lengths.{spelled}
use Rattle.rc_record.proofs.spelling.plan_len.Goals as goal

pub returns-clause-len : goal.returns-clause-len
returns-clause-len c =
    let plan = c.args.plan.now in
    omega (
      arith,
      c.items_len.ensures.len,
      ap (λ items. length (flat_map item_bytes items)) c.items.ensures,
      ap length (spelled c.text.result.now plan.job c.text.utf8 c.text.ensures),
      length-append (text_bytes plan) (to_le_bytes w32 (length plan.items) ++ flat_map item_bytes plan.items),
    )

pub returns-clause-bound : goal.returns-clause-bound
returns-clause-bound c =
    omega (arith, c.items_len.ensures.bound, ap (λ items. length items) c.items.ensures, ap length (spelled c.text.result.now c.args.plan.now.job c.text.utf8 c.text.ensures), c.requires.allowed.text, c.requires.allowed.count)
