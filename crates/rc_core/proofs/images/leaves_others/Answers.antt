use Rattle.rc_tree.specs.Path.{key_of}
use Rattle.rc_core.proofs.Found.{both_true}
use Rattle.rc_core.proofs.Rising.{leaves_all}
use Rattle.rc_core.proofs.Same.{and_also}
use Rattle.rc_core.proofs.images.leaves_others.Goals as goal

pub returns : goal.returns
returns c =
    let image = c.in_ok-of_image.of_image in
    let target = c.in_ok-of_target.of_target in (
      (λ both.
          let tests = both_true image target both in
          leaves_all c.args.files.now c.args.target.now c.args.image.now (c.in_ok-of_image.ensures.0 tests.0) (c.in_ok-of_target.ensures.0 tests.1)),
      (λ all. and_also image target (c.in_ok-of_image.ensures.1 (λ n node at. all (key_of node.path))) (c.in_ok-of_target.ensures.1 (λ n node at. all (key_of node.path)))),
    )
