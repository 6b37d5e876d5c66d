use Rattle.rc_volume.specs.declared.site.Side.TheVariants.{Source, Target}
use Rattle.rc_finish.specs.Calls.{Frees, Gives, Makes, Purges}
use Rattle.rc_finish.specs.Passes.{given}
use Rattle.rc_finish.proofs.PassLemmas.{pass_durable}
use Rattle.rc_finish.proofs.laws.a_pass_is_durable.Goals as goal

pub returns : goal.returns
returns c = record {
  made = pass_durable Target Makes;
  given = λ rules moment start. pass_durable Target (Gives (given rules moment) start);
  purged = pass_durable Target Purges;
  freed = λ start. pass_durable Source (Frees start);
}
