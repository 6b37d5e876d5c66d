use Rattle.rc_volume.proofs.ReadLemmas.{made_steps, props_steps, put_steps, remove_steps, resize_steps}
use Rattle.rc_volume.proofs.laws.a_told_change_is_a_step.Goals as goal

pub returns : goal.returns
returns c = record {
  made = made_steps;
  put = put_steps;
  resized = resize_steps;
  props = props_steps;
  removed = remove_steps;
}
