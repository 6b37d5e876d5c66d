use Rattle.std.proofs.Common.{List, length, sym, subst, arith, rules}
use Rattle.rc_tree.specs.Path.{key_of}
use Rattle.rc_volume.specs.declared.want.Want.{Want}
use Rattle.rc_volume.specs.Reading.{Opens}
use Rattle.rc_copy.proofs.ItemLemmas.{between_done, between_failed, contains_want, copyable_still, opens_want, passed_more, taken_all}
use Rattle.rc_volume.specs.declared.site.Part.TheVariants as part
use Rattle.rc_volume.proofs.ImageLemmas.{logs_then}
use Rattle.rc_copy.proofs.copying.copy_each.Goals as goal

pub do_item-requires-clause-opens : goal.do_item-requires-clause-opens
do_item-requires-clause-opens g c κs within read =
    let item = c.item-item.result in
    subst (λ (wants : List Want). Opens wants (key_of item.path) 0 item.facts.size) (sym c.requires.wants)
    (opens_want _ item (contains_want c.args.copying.now.with_bytes c.args.items.now c.loop-item.item-index item c.loop-item-test.true (sym c.item-item.is) read))

pub do_item-requires-clause-copyable : goal.do_item-requires-clause-copyable
do_item-requires-clause-copyable g c κs within tells =
    copyable_still c.args.copying.now c.args.items.now c.loop-item.item-index c.item-item.result (g.S.Site.view c.args.site.now).told _ c.requires.rising c.loop-item-test.true c.item-item.is (c.requires.copyable tells) (c.loop-item.invariant.frame.other_tree tells) (c.loop-item.invariant.passed tells)

pub returns-in-Err-clause-between : goal.returns-in-Err-clause-between
returns-in-Err-clause-between g c = λ tells.
    let done = c.in-Err.ensures.done tells in
    between_failed c.args.copying.now c.args.items.now c.loop-item.item-index c.item-item.result (g.S.Site.view c.args.site.now).told _ _ _ c.requires.rising c.loop-item-test.true c.item-item.is (c.requires.copyable tells) (c.loop-item.invariant.frame.other_tree tells) (c.loop-item.invariant.passed tells) done.0 done.1
    (c.do_item.ensures.frame.elsewhere tells).others

pub loop-item-preserved : goal.loop-item-preserved
loop-item-preserved g c = record {
  passed = λ tells.
      passed_more c.args.copying.now c.args.items.now c.loop-item.item-index c.item-item.result (g.S.Site.view c.args.site.now).told _ _ _ c.requires.rising c.loop-item-test.true c.item-item.is (c.loop-item.invariant.frame.other_tree tells) (c.loop-item.invariant.passed tells) (c.in-Ok.ensures.done tells) (c.do_item.ensures.frame.elsewhere tells).others;
  frame = record {
    other_tree = search rules;
    notes = search rules;
    log = λ tells. logs_then part.Target _ _ _ (c.loop-item.invariant.frame.log tells) (c.do_item.ensures.frame.log tells);
    opened = search rules;
    bound = search rules;
    counts = search rules;
  };
  buffer = search rules;
}

pub returns-clause-between : goal.returns-clause-between
returns-clause-between g c = λ tells.
    between_done c.args.copying.now c.args.items.now (length c.args.items.now) (g.S.Site.view c.args.site.now).told _ (c.requires.copyable tells)
    (taken_all c.args.copying.now c.args.items.now c.loop-item.item-index (g.S.Site.view c.args.site.now).told _ (omega (arith, c.loop-item-test.false, c.loop-item.auto.item-index-end)) (c.loop-item.invariant.passed tells))

pub returns-in-Err-clause-frame : goal.returns-in-Err-clause-frame
returns-in-Err-clause-frame g c = record {
  other_tree = search rules;
  notes = search rules;
  log = λ tells. logs_then part.Target _ _ _ (c.loop-item.invariant.frame.log tells) (c.do_item.ensures.frame.log tells);
  opened = search rules;
  bound = search rules;
  counts = search rules;
}
