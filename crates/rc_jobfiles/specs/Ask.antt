-- The words of a command line.
use Rattle.std.specs.Prelude.{ℕ, false, List, String, map, chars, string_bytes}
use Rattle.rc_words.specs.declared.setting.Word.{Word}

-- the characters of words
abbrev pub texts : {A : Type 0} → List (String A) → List (List ℕ)
texts words = map (λ w. chars (string_bytes w)) words

-- a word of a command line
abbrev pub as_word : List ℕ → Word
as_word text = record { text = text; quoted = false }
