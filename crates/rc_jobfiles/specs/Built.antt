-- Which words have their effect in a run.
use Rattle.std.specs.Prelude.{ℕ, Bool, true, false, not, List, Result, Ok, Err, map}
use Rattle.rc_words.specs.Meaning.{words_of}
use Rattle.rc_words.specs.declared.setting.Placed.{Placed}
use Rattle.rc_words.specs.declared.setting.WordsErr.{WordsErr}
use Rattle.rc_jobfiles.specs.Ask.{as_word}
use Rattle.rc_jobfiles.specs.Merge.{has}

-- words that read as settings, none of which is a switch that has no effect so far: `/DROP`
abbrev pub built_in : Result (List Placed) WordsErr → Bool
built_in (Ok settings) = not (has 71 settings)
built_in (Err e) = true

abbrev pub built_words : List (List ℕ) → Bool
built_words texts = built_in (words_of false (map as_word texts))
