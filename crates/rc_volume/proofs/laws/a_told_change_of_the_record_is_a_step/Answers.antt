use Rattle.rc_volume.proofs.ReadLemmas.{cut_steps, write_steps}
use Rattle.rc_volume.proofs.laws.a_told_change_of_the_record_is_a_step.Goals as goal

pub returns : goal.returns
returns c = record {
  written = write_steps;
  cut = cut_steps;
}
