use Rattle.std.proofs.Common.{◌≡◌}
use Rattle.rc_stop.specs.Grown.{odd_in}
use Rattle.rc_stop.specs.Stops.{IsPicked}
use Rattle.rc_stop.proofs.Draws.{if_ok-to}
use Rattle.rc_stop.proofs.Growing.{picked-same}
use Rattle.rc_stop.proofs.image.copy_tree.Goals as goal

pub returns : goal.returns
returns c =
    let tree = c.args.tree.now in
    if_ok-to (IsPicked (odd_in c.new.result) tree tree) (λ copy. copy ≡ tree) c.mix.result (λ copy. picked-same (odd_in c.new.result) tree copy c.keeps_shape.ensures) c.mix.ensures
