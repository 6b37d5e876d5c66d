use Rattle.rc_volume.proofs.ImageLemmas.{not_begun}
use Rattle.rc_volume.proofs.laws.a_call_may_not_be_begun.Goals as goal

pub returns : goal.returns
returns c = not_begun
