-- The words of the text of a job file.
use Rattle.std.specs.Prelude.{ℕ, ◌+◌, Bool, true, false, ◌&&◌, ◌||◌, ◌==◌, List, [], ◌∷◌, Result, Ok, Err, if◌then◌else◌}
use Rattle.rc_words.specs.Spelling.{begins_with}
use Rattle.rc_words.specs.declared.setting.Word.{Word}
use Rattle.rc_jobtext.specs.declared.reading.JobTextErr.{JobTextErr}
use Rattle.rc_jobtext.specs.declared.reading.JobTextErr.TheVariants as text

-- where a place in a text stands: between two words, in a comment, or in a word, outside of its quotes or inside
pub data Spot : Type 0 where
  Between : Spot
  Comment : Spot
  Outside : Spot
  Inside : Spot

-- what is ahead of a place: what is left of the word in which it stands, and the words behind that
pub record Ahead : Type 0 where
  pub word : List ℕ
  pub later : List Word

-- that, or the number of the line at whose end a quote is open
abbrev pub Reading : Type 0
Reading = Result Ahead ℕ

abbrev pub nothing : Reading
nothing = Ok (record { word = []; later = [] })

-- a character of the word in which the place stands
abbrev pub with_char : ℕ → Reading → Reading
with_char c (Ok a) = Ok (record { word = c ∷ a.word; later = a.later })
with_char c (Err place) = Err place

-- the word begins here
abbrev pub begun : Bool → Reading → Reading
begun quoted (Ok a) = Ok (record { word = []; later = record { text = a.word; quoted = quoted } ∷ a.later })
begun quoted (Err place) = Err place

-- the word has ended
abbrev pub ended : Reading → Reading
ended (Ok a) = Ok (record { word = []; later = a.later })
ended (Err place) = Err place

-- a space or a tab
abbrev pub is_blank : ℕ → Bool
is_blank c = c == 32 || c == 9

-- a carriage return before a line feed
abbrev pub is_dropped : ℕ → List ℕ → Bool
is_dropped c cs = c == 13 && begins_with 10 cs

-- two colons
abbrev pub begins_comment : ℕ → List ℕ → Bool
begins_comment c cs = c == 58 && begins_with 58 cs

-- what is ahead of a place in the line of a number
abbrev pub ahead : ℕ → Spot → List ℕ → Reading
ahead place Inside [] = Err place
ahead place other [] = nothing
ahead place Between (c ∷ cs) =
    if c == 10 then ahead (place + 1) Between cs
    else if is_blank c || is_dropped c cs then ahead place Between cs
    else if c == 34 then begun true (ahead place Inside cs)
    else if begins_comment c cs then ahead place Comment cs
    else begun false (with_char c (ahead place Outside cs))
ahead place Comment (c ∷ cs) = if c == 10 then ahead (place + 1) Between cs else ahead place Comment cs
ahead place Outside (c ∷ cs) =
    if c == 10 then ended (ahead (place + 1) Between cs)
    else if is_blank c then ended (ahead place Between cs)
    else if is_dropped c cs then ahead place Outside cs
    else if c == 34 then ahead place Inside cs
    else with_char c (ahead place Outside cs)
ahead place Inside (c ∷ cs) =
    if c == 10 then Err place
    else if c == 34 then ahead place Outside cs
    else with_char c (ahead place Inside cs)

abbrev pub words_read : Reading → Result (List Word) JobTextErr
words_read (Ok a) = Ok a.later
words_read (Err place) = Err (text.BadText place)

-- the words of a text
unfoldable pub words_in : List ℕ → Result (List Word) JobTextErr
words_in cs = words_read (ahead 1 Between cs)
