use Rattle.std.proofs.Common.{refl}
use Rattle.std.specs.Option.{option_copied}
use Rattle.rc_mem.proofs.Listings.{next-none, next-shown, next-gap}
use Rattle.rc_mem.proofs.tree.next_node.Goals as goal
use Rattle.rc_mem.proofs.tree.next_node.Goals.{in_default-via-in-Some+else-is_child, in_default-via-in_default}

pub returns-in-Some : goal.returns-in-Some
returns-in-Some c =
    next-shown c.args.nodes.now c.requires c.args.dir.now (option_copied c.args.after) c.in_ok-floor.floor c.in_ok-floor.ensures c.range.result (c.range.ensures.in_range tt) c.in-Some.field-0-0.now c.in-Some.node.now c.next.new.self c.in-Some.ensures.steps
    (c.if-is_child.ensures.child refl)

pub returns-in_default : goal.returns-in_default
returns-in_default c =
    elim c.in_default.branch [
      | in_default-via-in-Some+else-is_child w ↦
          next-gap c.args.nodes.now c.requires c.args.dir.now (option_copied c.args.after) c.in_ok-floor.floor c.in_ok-floor.ensures c.range.result (c.range.ensures.in_range tt) w.in-Some.field-0-0.now w.in-Some.node.now c.next.new.self w.in-Some.ensures.steps
          (w.is_child.ensures.other w.if-is_child.false)
      | in_default-via-in_default w ↦
          next-none c.args.nodes.now c.requires c.args.dir.now (option_copied c.args.after) c.in_ok-floor.floor c.in_ok-floor.ensures c.range.result (c.range.ensures.in_range tt) w.in_default.ensures.steps.0
    ]
