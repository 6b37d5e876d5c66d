use Rattle.std.proofs.Common.{◌≡◌, ◌+◌, ◌-◌, ◌/◌, ◌<◌, length, arith}
use Rattle.rc_report.proofs.Found.{high_less, item_at, low_more, named, not_named}
use Rattle.rc_report.proofs.given.is_found.Goals as goal

pub halves-init : goal.halves-init
halves-init c = record {
  order = omega arith;
  within = omega arith;
  before = λ k l. absurd (omega arith);
  behind = λ k h l. absurd (omega arith);
}

pub returns-then-named-place : goal.returns-then-named-place
returns-then-named-place c =
    let middle = c.halves.low + (c.halves.high - c.halves.low) / 2 in
    let inside : middle < length c.args.failed.now = omega (arith, c.halves.invariant.within) in
    let here : item_at c.args.failed.now middle ≡ c.args.place = omega (arith, c.place_of-named.ensures) in
    named c.args.failed.now c.args.place middle inside here

pub halves-preserved-then-named-place-2 : goal.halves-preserved-then-named-place-2
halves-preserved-then-named-place-2 c =
    let middle = c.halves.low + (c.halves.high - c.halves.low) / 2 in
    let inside : middle < length c.args.failed.now = omega (arith, c.halves.invariant.within) in
    let here : item_at c.args.failed.now middle < c.args.place = omega (arith, c.place_of-named.ensures) in
    record {
      order = omega arith;
      within = c.halves.invariant.within;
      before = low_more c.args.failed.now c.args.place middle c.requires inside here;
      behind = c.halves.invariant.behind;
    }

pub halves-preserved : goal.halves-preserved
halves-preserved c =
    let middle = c.halves.low + (c.halves.high - c.halves.low) / 2 in
    let here : c.args.place < item_at c.args.failed.now middle = omega (arith, c.place_of-named.ensures) in
    record {
      order = omega arith;
      within = omega (arith, c.halves.invariant.within);
      before = c.halves.invariant.before;
      behind = high_less c.args.failed.now c.args.place middle c.requires here;
    }

pub returns : goal.returns
returns c = not_named c.args.failed.now c.args.place c.halves.low c.halves.high (omega arith) c.halves.invariant.before c.halves.invariant.behind
