use Rattle.std.proofs.Common.{◌≡◌, ◌<◌, ◌++◌, List, length, get_or, sym, ap, ◌∙◌, arith}
use Rattle.std.proofs.lemmas.List.{take_all}
use Rattle.std.specs.List.{flat_map}
use Rattle.rc_class.specs.declared.item.Item.{Item}
use Rattle.rc_report.specs.Report.{line_of}
use Rattle.rc_report.specs.Totals.{reported, Reported}
use Rattle.rc_report.proofs.FrontLemmas.{AppendsFront-at}
use Rattle.rc_report.proofs.Sums.{length-reported, reported_is}
use Rattle.rc_report.proofs.TextLemmas.{pieces_more}
use Rattle.rc_report.proofs.report.write_lines.Goals as goal

pub loop-place-preserved : goal.loop-place-preserved
loop-place-preserved g c =
    let items = c.args.plan.now.items in
    let failed = c.args.failed.now in
    let i = c.loop-place.place in
    let x = c.index-items-place.result in
    let r : Reported = record { item = x; given_up = c.is_given_up-given_up.result } in
    let l : i < length items = omega (arith, ap length c.items-items.ensures) in
    let at : x ≡ get_or items i x = c.index-items-place.is ∙ ap (λ (xs : List Item). get_or xs i x) c.items-items.ensures in
    let own = sym (reported_is items failed i x c.is_given_up-given_up.result r l at c.is_given_up-given_up.ensures) in
    record {
      received = λ tells. pieces_more (line_of c.args.job.now) (reported items failed) i r _ _ _ (omega (arith, length-reported items failed)) own (c.loop-place.invariant.received tells) (c.in-Ok.ensures.written tells);
      counts = c.in-Ok.ensures.cause ∙ c.loop-place.invariant.counts;
    }

pub returns-in-Err-clause-front : goal.returns-in-Err-clause-front
returns-in-Err-clause-front g c tells =
    let items = c.args.plan.now.items in
    let failed = c.args.failed.now in
    let i = c.loop-place.place in
    let x = c.index-items-place.result in
    let r : Reported = record { item = x; given_up = c.is_given_up-given_up.result } in
    let l : i < length items = omega (arith, ap length c.items-items.ensures) in
    let at : x ≡ get_or items i x = c.index-items-place.is ∙ ap (λ (xs : List Item). get_or xs i x) c.items-items.ensures in
    let own = sym (reported_is items failed i x c.is_given_up-given_up.result r l at c.is_given_up-given_up.ensures) in
    AppendsFront-at (line_of c.args.job.now) (reported items failed) i r (g.K.Sink.received c.args.sink.now) (g.K.Sink.received c.loop-place.sink) (g.K.Sink.received c.write_item.new.sink)
    (omega (arith, length-reported items failed)) own (c.loop-place.invariant.received tells) (c.in-Err.ensures.front tells)

pub returns-clause-written : goal.returns-clause-written
returns-clause-written g c tells =
    let items = c.args.plan.now.items in
    let failed = c.args.failed.now in
    c.loop-place.invariant.received tells
    ∙ ap (λ (rs : List Reported). g.K.Sink.received c.args.sink.now ++ flat_map (line_of c.args.job.now) rs)
    (take_all c.loop-place.place (reported items failed) (omega (arith, length-reported items failed, ap length c.items-items.ensures)))
