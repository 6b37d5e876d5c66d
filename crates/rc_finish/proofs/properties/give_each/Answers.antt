use Rattle.std.proofs.Common.{◌≡◌, ℕ, true, ◌+◌, ◌-◌, ◌<◌, List, Ok, Err, drop, length, refl, sym, ap, subst, ◌∙◌, arith, rules}
use Rattle.std.proofs.Math.Seq.{drop-length}
use Rattle.std.specs.FinMap.{get}
use Rattle.rc_tree.specs.Path.{key_of}
use Rattle.rc_tree.specs.Tree.{Tree}
use Rattle.rc_class.specs.declared.item.Item.{Item}
use Rattle.rc_volume.specs.Site.{Maybe}
use Rattle.rc_volume.specs.declared.site.Side.TheVariants.{Target}
use Rattle.rc_finish.specs.Calls.{Gives}
use Rattle.rc_finish.specs.Passes.{given, HasPassed, IsNow}
use Rattle.rc_finish.proofs.GiveLemmas.{gives_at}
use Rattle.rc_finish.proofs.ItemKeys.{back_found, back_grown, back_missing, contains_item, own_item}
use Rattle.rc_finish.proofs.PassLemmas.{calls_of, calls_then, pass_more, passing, passing_failed, side_then, still}
use Rattle.rc_finish.proofs.WaitLemmas.{waits_behind, waits_not}
use Rattle.rc_finish.proofs.properties.give_each.Goals as goal

pub loop-left-init : goal.loop-left-init
loop-left-init g c = record {
  within = search rules;
  frame = search rules;
  has_passed = λ tells.
      let start = (g.S.Site.view c.args.site.now).told in
      subst (λ (rest : List Item). HasPassed (given c.args.giving.now.rules c.args.giving.now.moment) rest start start.target) (sym (drop-length c.args.items.now)) (λ key. refl);
  calls = search rules;
  always = search rules;
  last = search rules;
  unread = search rules;
  no_pause = search rules;
  waits = waits_not _ _ _;
}

pub loop-left-preserved : goal.loop-left-preserved
loop-left-preserved g c =
    let items = c.args.items.now in
    let pass = given c.args.giving.now.rules c.args.giving.now.moment in
    let start = (g.S.Site.view c.args.site.now).told in
    let mid = (g.S.Site.view c.loop-left.site).told in
    let i = c.loop-left.left - 1 in
    let item = c.index-items-left.result in
    let up : c.loop-left.left ≡ i + 1 = omega (arith, c.loop-left-test.true) in
    let l : i < length items = omega (arith, c.loop-left-test.true, c.loop-left.invariant.within) in
    let missing = back_missing items i item c.requires.rising l c.index-items-left.is in
    let sofar : g.S.Site.tells ≡ true → HasPassed pass (drop (i + 1) items) start mid.target = λ tells. subst (λ (n : ℕ). HasPassed pass (drop n items) start mid.target) up (c.loop-left.invariant.has_passed tells) in
    record {
      within = omega (arith, l);
      frame = side_then Target _ _ _ c.args.giving.now.tries.retries (Ok _) _ _ _ c.loop-left.invariant.frame c.in-Ok.ensures.frame;
      has_passed = λ tells. pass_more Target pass start (drop (i + 1) items) (drop i items) item mid.target _ (λ key. back_grown items i item key l c.index-items-left.is) missing (sofar tells)
          (c.in-Ok.ensures.frame.here tells ∙ ap (λ (tree : Tree). pass item (get tree (key_of item.path)) (get mid.target (key_of item.path))) (c.loop-left.invariant.frame.other_tree tells))
          (c.in-Ok.ensures.frame.elsewhere tells).others;
      calls = λ tells. calls_then Target (Gives pass start) items _ _ _ (c.loop-left.invariant.calls tells)
          (calls_of Target (Gives pass mid) (Gives pass start) items item _ _ (contains_item items i item l c.index-items-left.is)
          (λ call. gives_at pass start mid item call (c.loop-left.invariant.frame.other_tree tells) (still Target pass start (drop (i + 1) items) item mid.target missing (sofar tells))) (c.give_item.ensures.calls tells));
      always = search rules;
      last = search rules;
      unread = search rules;
      no_pause = search rules;
      waits = waits_behind _ _ _ _ _ _ _ _ c.loop-left.invariant.waits c.in-Ok.ensures.waits;
    }

pub returns-in-Err-clause-frame : goal.returns-in-Err-clause-frame
returns-in-Err-clause-frame g c = side_then Target _ _ _ _ (Err _) _ _ _ c.loop-left.invariant.frame c.in-Err.ensures.frame

pub returns-in-Err-clause-waits : goal.returns-in-Err-clause-waits
returns-in-Err-clause-waits g c = waits_behind _ _ _ _ _ _ _ _ c.loop-left.invariant.waits c.in-Err.ensures.waits

pub returns-in-Err-clause-between : goal.returns-in-Err-clause-between
returns-in-Err-clause-between g c = λ tells.
    let items = c.args.items.now in
    let pass = given c.args.giving.now.rules c.args.giving.now.moment in
    let start = (g.S.Site.view c.args.site.now).told in
    let mid = (g.S.Site.view c.loop-left.site).told in
    let new = (g.S.Site.view c.give_item.new.site).told in
    let i = c.loop-left.left - 1 in
    let item = c.index-items-left.result in
    let key = key_of item.path in
    let up : c.loop-left.left ≡ i + 1 = omega (arith, c.loop-left-test.true) in
    let l : i < length items = omega (arith, c.loop-left-test.true, c.loop-left.invariant.within) in
    passing_failed Target pass start items (drop (i + 1) items) item mid.target new.target (λ key other. back_found items (i + 1) key other c.requires.rising)
    (own_item items i item c.requires.rising l c.index-items-left.is)
    (back_missing items i item c.requires.rising l c.index-items-left.is)
    (subst (λ (n : ℕ). HasPassed pass (drop n items) start mid.target) up (c.loop-left.invariant.has_passed tells))
    (subst (λ (tree : Tree). Maybe (IsNow (pass item (get tree key))) (get mid.target key) (get new.target key)) (c.loop-left.invariant.frame.other_tree tells) (c.in-Err.ensures.frame.here tells))
    (c.in-Err.ensures.frame.elsewhere tells).others

pub returns-in-Err-clause-calls : goal.returns-in-Err-clause-calls
returns-in-Err-clause-calls g c = λ tells.
    let items = c.args.items.now in
    let pass = given c.args.giving.now.rules c.args.giving.now.moment in
    let start = (g.S.Site.view c.args.site.now).told in
    let mid = (g.S.Site.view c.loop-left.site).told in
    let i = c.loop-left.left - 1 in
    let item = c.index-items-left.result in
    let up : c.loop-left.left ≡ i + 1 = omega (arith, c.loop-left-test.true) in
    let l : i < length items = omega (arith, c.loop-left-test.true, c.loop-left.invariant.within) in
    let missing = back_missing items i item c.requires.rising l c.index-items-left.is in
    let sofar = subst (λ (n : ℕ). HasPassed pass (drop n items) start mid.target) up (c.loop-left.invariant.has_passed tells) in
    calls_then Target (Gives pass start) items _ _ _ (c.loop-left.invariant.calls tells)
    (calls_of Target (Gives pass mid) (Gives pass start) items item _ _ (contains_item items i item l c.index-items-left.is)
    (λ call. gives_at pass start mid item call (c.loop-left.invariant.frame.other_tree tells) (still Target pass start (drop (i + 1) items) item mid.target missing sofar)) (c.give_item.ensures.calls tells))

pub returns-clause-given : goal.returns-clause-given
returns-clause-given g c = λ tells.
    let pass = given c.args.giving.now.rules c.args.giving.now.moment in
    let none : c.loop-left.left ≡ 0 = omega (arith, c.loop-left-test.false) in
    subst (λ (n : ℕ). HasPassed pass (drop n c.args.items.now) (g.S.Site.view c.args.site.now).told (g.S.Site.view c.loop-left.site).told.target) none (c.loop-left.invariant.has_passed tells)

pub returns-clause-between : goal.returns-clause-between
returns-clause-between g c = λ tells.
    let pass = given c.args.giving.now.rules c.args.giving.now.moment in
    passing Target pass (g.S.Site.view c.args.site.now).told c.args.items.now (drop c.loop-left.left c.args.items.now) _ (λ key item. back_found c.args.items.now c.loop-left.left key item c.requires.rising) (c.loop-left.invariant.has_passed tells)
