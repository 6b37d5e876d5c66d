-- A call is counted on its part and by its kind.
use Rattle.std.proofs.Common.{◌≡◌, ap, ◌∙◌}
use Rattle.rc_volume.specs.declared.site.Part.{Part}
use Rattle.rc_volume.specs.declared.site.Part.TheVariants.{Source, Target, Record}
use Rattle.rc_failing.specs.declared.named.Named.{Named}
use Rattle.rc_failing.specs.Named.{CountsNumber, counted, numbers_on}

-- a named that has the same numbers shows the same on each part
pub same-numbers : (old new : Named) → new ≡ record old { kind = new.kind } → (at : Part) → numbers_on new at ≡ numbers_on old at
same-numbers old new is Source = ap (λ (n : Named). n.source) is
same-numbers old new is Target = ap (λ (n : Named). n.target) is
same-numbers old new is Record = ap (λ (n : Named). n.notes) is

pub counts-behind : (at : Part) (old mid new : Named) → mid ≡ record old { kind = mid.kind } → CountsNumber at mid new → CountsNumber at old new
counts-behind at old mid new is counts = record {
  here = counts.here ∙ ap counted (same-numbers old mid is at);
  others = λ other apart. counts.others other apart ∙ same-numbers old mid is other;
  reads = counts.reads ∙ ap (λ (n : Named). n.reads) is;
}
