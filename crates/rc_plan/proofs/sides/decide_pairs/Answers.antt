-- Rows are those of both trees, and the items of all that is settled are those that are decided.
use Rattle.std.proofs.Common.{ap, ◌∙◌, List, []}
use Rattle.rc_class.specs.declared.item.Item.{Item}
use Rattle.rc_class.specs.Items.{are_rising, item_at}
use Rattle.rc_plan.proofs.Neighbours.{settled-decided, settled-rising, settled-root}
use Rattle.rc_plan.proofs.Settles.{items_settled}
use Rattle.rc_plan.proofs.sides.decide_pairs.Goals as goal

pub returns-in-Ok-make_items-clause-rising : goal.returns-in-Ok-make_items-clause-rising
returns-in-Ok-make_items-clause-rising c =
    let job = c.args.job.now in
    let rows = c.in-Ok.rows.items in
    ap are_rising (items_settled job c.args.moment rows _ _ _ c.deref.ensures.value c.in-Ok-settle.ensures c.in-Ok-make_items.ensures)
    ∙ settled-rising job c.args.moment rows c.in-Ok.ensures.rising

pub returns-in-Ok-make_items-clause-root : goal.returns-in-Ok-make_items-clause-root
returns-in-Ok-make_items-clause-root c = λ none.
    let job = c.args.job.now in
    let rows = c.in-Ok.rows.items in
    ap (λ (items : List Item). item_at items []) (items_settled job c.args.moment rows _ _ _ c.deref.ensures.value c.in-Ok-settle.ensures c.in-Ok-make_items.ensures)
    ∙ settled-root job c.args.moment rows c.in-Ok.ensures.rising (c.in-Ok.ensures.root none)

pub returns-in-Ok-make_items-clause-decided : goal.returns-in-Ok-make_items-clause-decided
returns-in-Ok-make_items-clause-decided c = λ source target ours theirs all key.
    let job = c.args.job.now in
    let rows = c.in-Ok.rows.items in
    let law = c.decisions_by_neighbours.ensures in
    ap (λ (items : List Item). item_at items key) (items_settled job c.args.moment rows _ _ _ c.deref.ensures.value c.in-Ok-settle.ensures c.in-Ok-make_items.ensures)
    ∙ settled-decided job source target c.args.moment ours theirs (law.copied job source target c.args.moment) (law.purged job source target c.args.moment) (law.moved job source target c.args.moment) rows
    c.in-Ok.ensures.rising (c.in-Ok.ensures.scoped source target ours theirs all) key
