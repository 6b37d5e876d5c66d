-- Settings that are written one after the other.
use Rattle.std.proofs.Common.{◌≡◌, ℕ, List, ◌++◌, ap, sym, ◌∙◌, append_assoc}
use Rattle.std.proofs.lemmas.Grind.{flat_map-append}
use Rattle.rc_job.specs.Settings.{Setting, text_of, written}

-- what was written before, and then these settings, and then those
pub both : (a b : List Setting) (old between now : List ℕ) → between ≡ old ++ written a → now ≡ between ++ written b → now ≡ old ++ written (a ++ b)
both a b old between now first second =
    second ∙ ap (λ (cs : List ℕ). cs ++ written b) first ∙ append_assoc old (written a) (written b)
    ∙ ap (λ (cs : List ℕ). old ++ cs) (sym (flat_map-append (λ (s : Setting). text_of s.lines) a b))
