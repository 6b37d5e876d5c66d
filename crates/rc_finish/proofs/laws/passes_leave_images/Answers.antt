use Rattle.rc_finish.specs.Passes.{given}
use Rattle.rc_finish.proofs.StopLemmas.{freed_left, given_left, made_left, purged_left}
use Rattle.rc_finish.proofs.laws.passes_leave_images.Goals as goal

pub returns : goal.returns
returns c = record {
  made = made_left;
  given = λ rules moment start. given_left (given rules moment) start;
  purged = purged_left;
  freed = freed_left;
}
