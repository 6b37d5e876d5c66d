use Rattle.std.proofs.Common.{◌≡◌, [], ◌∷◌, ap, refl, ◌∙◌}
use Rattle.std.specs.Prelude.{codes}
use Rattle.std.specs.Str.{chars}
use Rattle.rc_job.proofs.job.all_files.Goals as goal

-- the characters of the literal
all_characters : chars (codes "*.*") ≡ codes "*.*"
unfolding chars
all_characters = refl

pub returns-in_ok-vec-in-Ok : goal.returns-in_ok-vec-in-Ok
returns-in_ok-vec-in-Ok c =
    c.new.ensures ∙ c.in_ok-vec-in-Ok.ensures.items ∙ ap (λ pattern. pattern ∷ []) (c.in-Ok.ensures.same ∙ all_characters)
