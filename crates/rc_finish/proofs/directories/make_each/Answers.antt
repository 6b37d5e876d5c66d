use Rattle.std.proofs.Common.{◌+◌, ◌<◌, List, Ok, Err, length, take, subst, sym, arith, rules}
use Rattle.std.proofs.lemmas.List.{take_all}
use Rattle.rc_class.specs.declared.item.Item.{Item}
use Rattle.rc_volume.specs.declared.site.Side.TheVariants.{Target}
use Rattle.rc_finish.specs.Calls.{Makes}
use Rattle.rc_finish.specs.Passes.{made, HasPassed}
use Rattle.rc_finish.proofs.ItemKeys.{contains_item, front_found, front_grown, front_missing, own_item}
use Rattle.rc_finish.proofs.MakeLemmas.{makable}
use Rattle.rc_finish.proofs.PassLemmas.{calls_of, calls_then, pass_more, passing, passing_failed, side_then}
use Rattle.rc_finish.proofs.WaitLemmas.{waits_behind, waits_not}
use Rattle.rc_finish.proofs.directories.make_each.Goals as goal

pub make_item-requires-clause-place : goal.make_item-requires-clause-place
make_item-requires-clause-place g c κs within tells own =
    let items = c.args.items.now in
    let i = c.loop-item.item-index in
    makable items i c.item-item.result (g.S.Site.view c.args.site.now).told _ c.requires.rising (c.requires.fit tells) c.loop-item-test.true c.item-item.is (c.loop-item.invariant.made tells)
    (subst (λ (x : Item). 0 < length x.path) (sym c.item-item.is) (c.requires.below i c.item-item.result c.loop-item-test.true)) own

pub loop-item-init : goal.loop-item-init
loop-item-init g c = record {
  frame = search rules;
  made = search rules;
  calls = search rules;
  always = search rules;
  last = search rules;
  unread = search rules;
  no_pause = search rules;
  waits = waits_not _ _ _;
}

pub loop-item-preserved : goal.loop-item-preserved
loop-item-preserved g c =
    let items = c.args.items.now in
    let i = c.loop-item.item-index in
    let item = c.item-item.result in
    record {
      frame = side_then Target _ _ _ c.args.tries.retries (Ok _) _ _ _ c.loop-item.invariant.frame c.in-Ok.ensures.frame;
      made = λ tells. pass_more Target made (g.S.Site.view c.args.site.now).told (take i items) (take (i + 1) items) item _ _ (λ key. front_grown items i item key c.requires.rising c.loop-item-test.true c.item-item.is) (front_missing items i item c.requires.rising c.loop-item-test.true c.item-item.is) (c.loop-item.invariant.made tells) (c.in-Ok.ensures.frame.here tells) (c.in-Ok.ensures.frame.elsewhere tells).others;
      calls = λ tells. calls_then Target Makes items _ _ _ (c.loop-item.invariant.calls tells) (calls_of Target Makes Makes items item _ _ (contains_item items i item c.loop-item-test.true c.item-item.is) (λ call is. is) (c.make_item.ensures.calls tells));
      always = search rules;
      last = search rules;
      unread = search rules;
      no_pause = search rules;
      waits = waits_behind _ _ _ _ _ _ _ _ c.loop-item.invariant.waits c.in-Ok.ensures.waits;
    }

pub returns-in-Err-clause-frame : goal.returns-in-Err-clause-frame
returns-in-Err-clause-frame g c = side_then Target _ _ _ _ (Err _) _ _ _ c.loop-item.invariant.frame c.in-Err.ensures.frame

pub returns-in-Err-clause-waits : goal.returns-in-Err-clause-waits
returns-in-Err-clause-waits g c = waits_behind _ _ _ _ _ _ _ _ c.loop-item.invariant.waits c.in-Err.ensures.waits

pub returns-in-Err-clause-between : goal.returns-in-Err-clause-between
returns-in-Err-clause-between g c = λ tells.
    let items = c.args.items.now in
    let i = c.loop-item.item-index in
    let item = c.item-item.result in
    passing_failed Target made (g.S.Site.view c.args.site.now).told items (take i items) item _ _ (front_found items i) (own_item items i item c.requires.rising c.loop-item-test.true c.item-item.is) (front_missing items i item c.requires.rising c.loop-item-test.true c.item-item.is) (c.loop-item.invariant.made tells) (c.in-Err.ensures.frame.here tells) (c.in-Err.ensures.frame.elsewhere tells).others

pub returns-in-Err-clause-calls : goal.returns-in-Err-clause-calls
returns-in-Err-clause-calls g c = λ tells.
    let items = c.args.items.now in
    let i = c.loop-item.item-index in
    let item = c.item-item.result in
    calls_then Target Makes items _ _ _ (c.loop-item.invariant.calls tells) (calls_of Target Makes Makes items item _ _ (contains_item items i item c.loop-item-test.true c.item-item.is) (λ call is. is) (c.make_item.ensures.calls tells))

pub returns-clause-made : goal.returns-clause-made
returns-clause-made g c = λ tells.
    subst (λ (done : List Item). HasPassed made done (g.S.Site.view c.args.site.now).told (g.S.Site.view c.loop-item.site).told.target) (take_all c.loop-item.item-index c.args.items.now (omega (arith, c.loop-item-test.false))) (c.loop-item.invariant.made tells)

pub returns-clause-between : goal.returns-clause-between
returns-clause-between g c = λ tells.
    passing Target made (g.S.Site.view c.args.site.now).told c.args.items.now (take c.loop-item.item-index c.args.items.now) _ (front_found c.args.items.now c.loop-item.item-index) (c.loop-item.invariant.made tells)
