use Rattle.std.proofs.Common.{ap, length, length-take, take, arith}
use Rattle.rc_core.proofs.Building.{file_more, files_few}
use Rattle.rc_core.proofs.opening.opened_files.Goals as goal

pub loop-place-preserved : goal.loop-place-preserved
loop-place-preserved c =
    file_more c.args.marks.now c.args.source.now c.args.target.now c.args.items.now c.loop-place.place c.index-items-place.result c.loop-place.files.items c.push_file.new.files.items
    c.loop-place-test.true c.index-items-place.is c.loop-place.invariant c.in_ok-push_file.ensures

pub returns-clause-few : goal.returns-clause-few
returns-clause-few c =
    let done = take c.loop-place.place c.args.items.now in
    omega (arith, files_few c.args.marks.now c.args.source.now c.args.target.now done, length-take c.loop-place.place c.args.items.now, ap length c.loop-place.invariant)
