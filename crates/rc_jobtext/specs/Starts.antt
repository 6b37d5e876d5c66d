-- Where a word begins, and what its characters are, as the readers see it.
use Rattle.std.specs.Prelude.{ℕ, Bool, true, false, ◌||◌, ◌==◌, List, ◌++◌, Ok, Err, if◌then◌else◌}
use Rattle.rc_jobtext.specs.declared.start.Gap.{Gap}
use Rattle.rc_jobtext.specs.declared.start.Gap.TheVariants as gap
use Rattle.rc_jobtext.specs.declared.word.Step.{Step}
use Rattle.rc_jobtext.specs.declared.word.Step.TheVariants as step
use Rattle.rc_jobtext.specs.Lexing.{Spot, Between, Comment, Inside, Outside, Reading, ahead, begins_comment, begun, is_blank, is_dropped, with_char}

-- Between words

abbrev pub outside_words : Bool → Spot
outside_words in_comment = if in_comment then Comment else Between

-- what a character between two words is
abbrev pub gap_at : Bool → ℕ → List ℕ → Gap
gap_at true c cs = if c == 10 then gap.LineEnd else gap.Blank
gap_at false c cs =
    if c == 10 then gap.LineEnd
    else if is_blank c || is_dropped c cs then gap.Blank
    else if c == 34 then gap.Word
    else if begins_comment c cs then gap.Comment
    else gap.Word

-- what is ahead of a word that begins with a character
abbrev pub started : ℕ → ℕ → List ℕ → Reading
started place c cs =
    if c == 34 then begun true (ahead place Inside cs) else begun false (with_char c (ahead place Outside cs))

-- In a word

abbrev pub within : Bool → Spot
within inside = if inside then Inside else Outside

-- what a character of a word is
abbrev pub step_at : Bool → ℕ → List ℕ → Step
step_at true c cs = if c == 10 then step.Open else if c == 34 then step.Quote else step.Char
step_at false c cs =
    if (c == 10 || is_blank c) || is_dropped c cs then step.End else if c == 34 then step.Quote else step.Char

-- the word has these characters before the place
abbrev pub prefixed : List ℕ → Reading → Reading
prefixed cs (Ok a) = Ok (record { word = cs ++ a.word; later = a.later })
prefixed cs (Err place) = Err place

-- the word has these characters, and ends here
abbrev pub whole : List ℕ → Reading → Reading
whole cs (Ok a) = Ok (record { word = cs; later = a.later })
whole cs (Err place) = Err place
