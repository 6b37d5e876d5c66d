use Rattle.std.proofs.Common.{◌≡◌, ℕ, List, [], None, codes, refl, arith}
use Rattle.std.proofs.lemmas.List.Elements.{All-nil, All-cons}
use Rattle.rc_wild.specs.Pattern.{pattern_fault}
use Rattle.rc_job.specs.Allowed.{exclude_fault}
use Rattle.rc_job.specs.declared.lists.Exclude.{Exclude}
use Rattle.rc_job.proofs.laws.the_defaults_are_allowed.Goals as goal

all_files : pattern_fault (codes "*.*") ≡ None
unfolding pattern_fault
all_files = refl

pub returns : goal.returns
returns c = record {
  source = tt;
  target = tt;
  files = All-cons (λ (pattern : List ℕ). pattern_fault pattern ≡ None) (codes "*.*") [] all_files (All-nil (λ (pattern : List ℕ). pattern_fault pattern ≡ None));
  lev = tt;
  plus = refl;
  minus = refl;
  ia = refl;
  xa = refl;
  xf = All-nil (λ (value : Exclude). exclude_fault value ≡ None);
  xd = All-nil (λ (value : Exclude). exclude_fault value ≡ None);
  max = tt;
  min = tt;
  maxage = tt;
  minage = tt;
  workers = (omega arith, omega arith);
  retries = omega arith;
  wait = omega arith;
}
