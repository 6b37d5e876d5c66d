use Rattle.std.proofs.Common.{◌≡◌, ℕ, true, ◌+◌, ◌-◌, ◌<◌, List, Ok, Err, drop, length, refl, sym, subst, arith, rules}
use Rattle.std.proofs.Math.Seq.{drop-length}
use Rattle.rc_class.specs.declared.item.Item.{Item}
use Rattle.rc_volume.specs.declared.site.Side.TheVariants.{Source}
use Rattle.rc_finish.specs.Calls.{Frees}
use Rattle.rc_finish.specs.Passes.{freed, HasPassedOn, ToRemove}
use Rattle.rc_finish.proofs.FreeLemmas.{frees_at}
use Rattle.rc_finish.proofs.ItemKeys.{back_found, back_grown, back_missing, contains_item, own_item}
use Rattle.rc_finish.proofs.PassLemmas.{calls_of, calls_then, pass_more, passing, passing_failed, side_then, still}
use Rattle.rc_finish.proofs.RemovalLemmas.{bare_now, freed_none, freed_goes}
use Rattle.rc_finish.proofs.WaitLemmas.{waits_behind, waits_not}
use Rattle.rc_finish.proofs.sources.free_each.Goals as goal

pub free_item-requires-clause-bare : goal.free_item-requires-clause-bare
free_item-requires-clause-bare g c κs within tells own =
    let items = c.args.items.now in
    let start = (g.S.Site.view c.args.site.now).told in
    let mid = (g.S.Site.view c.loop-left.site).told in
    let i = c.loop-left.left - 1 in
    let item = c.index-items-left.result in
    let up : c.loop-left.left ≡ i + 1 = omega (arith, c.loop-left-test.true) in
    let l : i < length items = omega (arith, c.loop-left-test.true, c.loop-left.invariant.within) in
    let missing = back_missing items i item c.requires.rising l c.index-items-left.is in
    bare_now Source freed ToRemove freed_none freed_goes items i item start mid.source c.requires.rising l c.index-items-left.is (c.requires.whole tells) (subst (λ (n : ℕ). HasPassedOn Source freed (drop n items) start mid.source) up (c.loop-left.invariant.has_passed tells)) own

pub loop-left-init : goal.loop-left-init
loop-left-init g c = record {
  within = search rules;
  frame = search rules;
  has_passed = λ tells.
      let start = (g.S.Site.view c.args.site.now).told in
      subst (λ (rest : List Item). HasPassedOn Source freed rest start start.source) (sym (drop-length c.args.items.now)) (λ key. refl);
  calls = search rules;
  always = search rules;
  last = search rules;
  unread = search rules;
  no_pause = search rules;
  waits = waits_not _ _ _;
}

pub loop-left-preserved : goal.loop-left-preserved
loop-left-preserved g c =
    let items = c.args.items.now in
    let start = (g.S.Site.view c.args.site.now).told in
    let mid = (g.S.Site.view c.loop-left.site).told in
    let i = c.loop-left.left - 1 in
    let item = c.index-items-left.result in
    let up : c.loop-left.left ≡ i + 1 = omega (arith, c.loop-left-test.true) in
    let l : i < length items = omega (arith, c.loop-left-test.true, c.loop-left.invariant.within) in
    let missing = back_missing items i item c.requires.rising l c.index-items-left.is in
    let sofar : g.S.Site.tells ≡ true → HasPassedOn Source freed (drop (i + 1) items) start mid.source = λ tells. subst (λ (n : ℕ). HasPassedOn Source freed (drop n items) start mid.source) up (c.loop-left.invariant.has_passed tells) in
    record {
      within = omega (arith, l);
      frame = side_then Source _ _ _ c.args.tries.retries (Ok _) _ _ _ c.loop-left.invariant.frame c.in-Ok.ensures.frame;
      has_passed = λ tells. pass_more Source freed start (drop (i + 1) items) (drop i items) item mid.source _ (λ key. back_grown items i item key l c.index-items-left.is) missing (sofar tells) (c.in-Ok.ensures.frame.here tells) (c.in-Ok.ensures.frame.elsewhere tells).others;
      calls = λ tells. calls_then Source (Frees start) items _ _ _ (c.loop-left.invariant.calls tells)
          (calls_of Source (Frees mid) (Frees start) items item _ _ (contains_item items i item l c.index-items-left.is) (λ call. frees_at start mid item call (still Source freed start (drop (i + 1) items) item mid.source missing (sofar tells))) (c.free_item.ensures.calls tells));
      always = search rules;
      last = search rules;
      unread = search rules;
      no_pause = search rules;
      waits = waits_behind _ _ _ _ _ _ _ _ c.loop-left.invariant.waits c.in-Ok.ensures.waits;
    }

pub returns-in-Err-clause-frame : goal.returns-in-Err-clause-frame
returns-in-Err-clause-frame g c = side_then Source _ _ _ _ (Err _) _ _ _ c.loop-left.invariant.frame c.in-Err.ensures.frame

pub returns-in-Err-clause-waits : goal.returns-in-Err-clause-waits
returns-in-Err-clause-waits g c = waits_behind _ _ _ _ _ _ _ _ c.loop-left.invariant.waits c.in-Err.ensures.waits

pub returns-in-Err-clause-between : goal.returns-in-Err-clause-between
returns-in-Err-clause-between g c = λ tells.
    let items = c.args.items.now in
    let start = (g.S.Site.view c.args.site.now).told in
    let mid = (g.S.Site.view c.loop-left.site).told in
    let i = c.loop-left.left - 1 in
    let item = c.index-items-left.result in
    let up : c.loop-left.left ≡ i + 1 = omega (arith, c.loop-left-test.true) in
    let l : i < length items = omega (arith, c.loop-left-test.true, c.loop-left.invariant.within) in
    let missing = back_missing items i item c.requires.rising l c.index-items-left.is in
    passing_failed Source freed start items (drop (i + 1) items) item mid.source _ (λ key other. back_found items (i + 1) key other c.requires.rising)
    (own_item items i item c.requires.rising l c.index-items-left.is) missing
    (subst (λ (n : ℕ). HasPassedOn Source freed (drop n items) start mid.source) up (c.loop-left.invariant.has_passed tells))
    (c.in-Err.ensures.frame.here tells) (c.in-Err.ensures.frame.elsewhere tells).others

pub returns-in-Err-clause-calls : goal.returns-in-Err-clause-calls
returns-in-Err-clause-calls g c = λ tells.
    let items = c.args.items.now in
    let start = (g.S.Site.view c.args.site.now).told in
    let mid = (g.S.Site.view c.loop-left.site).told in
    let i = c.loop-left.left - 1 in
    let item = c.index-items-left.result in
    let up : c.loop-left.left ≡ i + 1 = omega (arith, c.loop-left-test.true) in
    let l : i < length items = omega (arith, c.loop-left-test.true, c.loop-left.invariant.within) in
    let missing = back_missing items i item c.requires.rising l c.index-items-left.is in
    let sofar = subst (λ (n : ℕ). HasPassedOn Source freed (drop n items) start mid.source) up (c.loop-left.invariant.has_passed tells) in
    calls_then Source (Frees start) items _ _ _ (c.loop-left.invariant.calls tells)
    (calls_of Source (Frees mid) (Frees start) items item _ _ (contains_item items i item l c.index-items-left.is) (λ call. frees_at start mid item call (still Source freed start (drop (i + 1) items) item mid.source missing sofar)) (c.free_item.ensures.calls tells))

pub returns-clause-freed : goal.returns-clause-freed
returns-clause-freed g c = λ tells.
    let none : c.loop-left.left ≡ 0 = omega (arith, c.loop-left-test.false) in
    subst (λ (n : ℕ). HasPassedOn Source freed (drop n c.args.items.now) (g.S.Site.view c.args.site.now).told (g.S.Site.view c.loop-left.site).told.source) none (c.loop-left.invariant.has_passed tells)

pub returns-clause-between : goal.returns-clause-between
returns-clause-between g c = λ tells.
    passing Source freed (g.S.Site.view c.args.site.now).told c.args.items.now (drop c.loop-left.left c.args.items.now) _ (λ key item. back_found c.args.items.now c.loop-left.left key item c.requires.rising) (c.loop-left.invariant.has_passed tells)
