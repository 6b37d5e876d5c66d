-- What a drill prints.
use Rattle.std.specs.Prelude.{◌≡◌, ℕ, Bool, true, false, List, [], ◌∷◌, ◌++◌, codes, decimal, encode_utf8_all}
use Rattle.hex.specs.Hex.{encode_lower}
use Rattle.sha2.specs.Sha256.{sha256}
use Rattle.rc_run.specs.declared.outcome.Outcome.{Outcome}
use Rattle.rc_run.specs.Outcome.{line_of, status_of}
use Rattle.rc_sitetext.specs.SiteText.{AreFiles, JobText, site_text}
use Rattle.drill.specs.Runs.{End}

-- a line and its end; nothing for the empty text
abbrev pub whole_line : List ℕ → List ℕ
whole_line [] = []
whole_line (c ∷ cs) = encode_utf8_all (c ∷ cs) ++ codes "\n"

-- the line of a refusal or a fault, where there is one, and the line of the exit status
abbrev pub status_lines : Outcome → List ℕ
status_lines outcome = whole_line (line_of outcome) ++ (codes "STATUS\t" ++ (decimal (status_of outcome) ++ codes "\n"))

abbrev pub digest_line : List ℕ → List ℕ
digest_line text = codes "DIGEST\t" ++ (encode_lower (sha256 text) ++ codes "\n")

-- the site text of the end, or the line of its digest
abbrev pub end_text : Bool → List ℕ → List ℕ
end_text false text = text
end_text true text = digest_line text

-- the report, the lines of the outcome, and the site text of the end or its digest
abbrev pub drill_text : Bool → ℕ → List JobText → End → List ℕ
drill_text digests moment files end = end.report ++ status_lines end.outcome ++ end_text digests (site_text moment end.now files)

-- what is printed and answered of a run at a moment that ended so
pub record Shows (digests : Bool) (moment : ℕ) (ended : End → Type 0) (printed : List ℕ) (status : ℕ) : Type 0 where
  pub end : End
  pub ends : ended end
  pub files : List JobText
  pub filed : AreFiles end.jobs files
  pub text : printed ≡ drill_text digests moment files end
  pub answer : status ≡ status_of end.outcome

-- the line of a bad argument, by its number
abbrev pub argument_line : ℕ → List ℕ
argument_line place = codes "ERROR: drill word " ++ (decimal place ++ codes "\n")

-- the line of a text that is refused, by the number of its line and the number of the kind
abbrev pub text_line : ℕ → ℕ → List ℕ
text_line line kind = codes "ERROR: site text line " ++ (decimal line ++ (codes " kind " ++ (decimal kind ++ codes "\n")))

abbrev pub input_line : List ℕ
input_line = codes "ERROR: input\n"
