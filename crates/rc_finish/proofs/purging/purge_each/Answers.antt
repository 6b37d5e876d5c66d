use Rattle.std.proofs.Common.{◌≡◌, ℕ, true, ◌+◌, ◌-◌, ◌<◌, List, Ok, Err, drop, length, refl, sym, subst, arith, rules}
use Rattle.std.proofs.Math.Seq.{drop-length}
use Rattle.rc_class.specs.declared.item.Item.{Item}
use Rattle.rc_volume.specs.declared.site.Side.TheVariants.{Target}
use Rattle.rc_finish.specs.Calls.{Purges}
use Rattle.rc_finish.specs.Passes.{purged, HasPassedOn, ToPurge}
use Rattle.rc_finish.proofs.ItemKeys.{back_found, back_grown, back_missing, contains_item, own_item}
use Rattle.rc_finish.proofs.PassLemmas.{calls_of, calls_then, pass_more, passing, passing_failed, side_then}
use Rattle.rc_finish.proofs.RemovalLemmas.{bare_now, purged_none, purged_goes}
use Rattle.rc_finish.proofs.WaitLemmas.{waits_behind, waits_not}
use Rattle.rc_finish.proofs.purging.purge_each.Goals as goal

pub purge_item-requires-clause-bare : goal.purge_item-requires-clause-bare
purge_item-requires-clause-bare g c κs within tells own =
    let items = c.args.items.now in
    let start = (g.S.Site.view c.args.site.now).told in
    let mid = (g.S.Site.view c.loop-left.site).told in
    let i = c.loop-left.left - 1 in
    let item = c.index-items-left.result in
    let up : c.loop-left.left ≡ i + 1 = omega (arith, c.loop-left-test.true) in
    let l : i < length items = omega (arith, c.loop-left-test.true, c.loop-left.invariant.within) in
    let missing = back_missing items i item c.requires.rising l c.index-items-left.is in
    bare_now Target purged ToPurge purged_none purged_goes items i item start mid.target c.requires.rising l c.index-items-left.is (c.requires.whole tells) (subst (λ (n : ℕ). HasPassedOn Target purged (drop n items) start mid.target) up (c.loop-left.invariant.has_passed tells)) own

pub loop-left-init : goal.loop-left-init
loop-left-init g c = record {
  within = search rules;
  frame = search rules;
  has_passed = λ tells.
      let start = (g.S.Site.view c.args.site.now).told in
      subst (λ (rest : List Item). HasPassedOn Target purged rest start start.target) (sym (drop-length c.args.items.now)) (λ key. refl);
  calls = search rules;
  always = search rules;
  last = search rules;
  unread = search rules;
  no_pause = search rules;
  waits = waits_not _ _ _;
}

pub loop-left-preserved : goal.loop-left-preserved
loop-left-preserved g c =
    let items = c.args.items.now in
    let start = (g.S.Site.view c.args.site.now).told in
    let mid = (g.S.Site.view c.loop-left.site).told in
    let i = c.loop-left.left - 1 in
    let item = c.index-items-left.result in
    let up : c.loop-left.left ≡ i + 1 = omega (arith, c.loop-left-test.true) in
    let l : i < length items = omega (arith, c.loop-left-test.true, c.loop-left.invariant.within) in
    let missing = back_missing items i item c.requires.rising l c.index-items-left.is in
    let sofar : g.S.Site.tells ≡ true → HasPassedOn Target purged (drop (i + 1) items) start mid.target = λ tells. subst (λ (n : ℕ). HasPassedOn Target purged (drop n items) start mid.target) up (c.loop-left.invariant.has_passed tells) in
    record {
      within = omega (arith, l);
      frame = side_then Target _ _ _ c.args.tries.retries (Ok _) _ _ _ c.loop-left.invariant.frame c.in-Ok.ensures.frame;
      has_passed = λ tells. pass_more Target purged start (drop (i + 1) items) (drop i items) item mid.target _ (λ key. back_grown items i item key l c.index-items-left.is) missing (sofar tells) (c.in-Ok.ensures.frame.here tells) (c.in-Ok.ensures.frame.elsewhere tells).others;
      calls = λ tells. calls_then Target Purges items _ _ _ (c.loop-left.invariant.calls tells)
          (calls_of Target Purges Purges items item _ _ (contains_item items i item l c.index-items-left.is) (λ call is. is) (c.purge_item.ensures.calls tells));
      always = search rules;
      last = search rules;
      unread = search rules;
      no_pause = search rules;
      waits = waits_behind _ _ _ _ _ _ _ _ c.loop-left.invariant.waits c.in-Ok.ensures.waits;
    }

pub returns-in-Err-clause-frame : goal.returns-in-Err-clause-frame
returns-in-Err-clause-frame g c = side_then Target _ _ _ _ (Err _) _ _ _ c.loop-left.invariant.frame c.in-Err.ensures.frame

pub returns-in-Err-clause-waits : goal.returns-in-Err-clause-waits
returns-in-Err-clause-waits g c = waits_behind _ _ _ _ _ _ _ _ c.loop-left.invariant.waits c.in-Err.ensures.waits

pub returns-in-Err-clause-between : goal.returns-in-Err-clause-between
returns-in-Err-clause-between g c = λ tells.
    let items = c.args.items.now in
    let start = (g.S.Site.view c.args.site.now).told in
    let mid = (g.S.Site.view c.loop-left.site).told in
    let i = c.loop-left.left - 1 in
    let item = c.index-items-left.result in
    let up : c.loop-left.left ≡ i + 1 = omega (arith, c.loop-left-test.true) in
    let l : i < length items = omega (arith, c.loop-left-test.true, c.loop-left.invariant.within) in
    let missing = back_missing items i item c.requires.rising l c.index-items-left.is in
    passing_failed Target purged start items (drop (i + 1) items) item mid.target _ (λ key other. back_found items (i + 1) key other c.requires.rising)
    (own_item items i item c.requires.rising l c.index-items-left.is) missing
    (subst (λ (n : ℕ). HasPassedOn Target purged (drop n items) start mid.target) up (c.loop-left.invariant.has_passed tells))
    (c.in-Err.ensures.frame.here tells) (c.in-Err.ensures.frame.elsewhere tells).others

pub returns-in-Err-clause-calls : goal.returns-in-Err-clause-calls
returns-in-Err-clause-calls g c = λ tells.
    let items = c.args.items.now in
    let start = (g.S.Site.view c.args.site.now).told in
    let mid = (g.S.Site.view c.loop-left.site).told in
    let i = c.loop-left.left - 1 in
    let item = c.index-items-left.result in
    let up : c.loop-left.left ≡ i + 1 = omega (arith, c.loop-left-test.true) in
    let l : i < length items = omega (arith, c.loop-left-test.true, c.loop-left.invariant.within) in
    let missing = back_missing items i item c.requires.rising l c.index-items-left.is in
    let sofar = subst (λ (n : ℕ). HasPassedOn Target purged (drop n items) start mid.target) up (c.loop-left.invariant.has_passed tells) in
    calls_then Target Purges items _ _ _ (c.loop-left.invariant.calls tells)
    (calls_of Target Purges Purges items item _ _ (contains_item items i item l c.index-items-left.is) (λ call is. is) (c.purge_item.ensures.calls tells))

pub returns-clause-purged : goal.returns-clause-purged
returns-clause-purged g c = λ tells.
    let none : c.loop-left.left ≡ 0 = omega (arith, c.loop-left-test.false) in
    subst (λ (n : ℕ). HasPassedOn Target purged (drop n c.args.items.now) (g.S.Site.view c.args.site.now).told (g.S.Site.view c.loop-left.site).told.target) none (c.loop-left.invariant.has_passed tells)

pub returns-clause-between : goal.returns-clause-between
returns-clause-between g c = λ tells.
    passing Target purged (g.S.Site.view c.args.site.now).told c.args.items.now (drop c.loop-left.left c.args.items.now) _ (λ key item. back_found c.args.items.now c.loop-left.left key item c.requires.rising) (c.loop-left.invariant.has_passed tells)
