-- The text that the bytes of a job file are.
use Rattle.std.specs.Prelude.{ℕ, ◌+◌, ◌*◌, ◌==◌, List, [], ◌∷◌, Option, None, Some, Result, Err, chars, if◌then◌else◌}
use Rattle.std.specs.Char.Utf16.{has_unpaired_surrogate, utf16_lossy_chars}
use Rattle.std.specs.Str.{is_utf8}
use Rattle.rc_words.specs.declared.setting.Word.{Word}
use Rattle.rc_jobtext.specs.declared.reading.JobTextErr.{JobTextErr}
use Rattle.rc_jobtext.specs.declared.reading.JobTextErr.TheVariants as text
use Rattle.rc_jobtext.specs.Lexing.{words_in}

-- UTF-8
abbrev pub narrow_text : List ℕ → Option (List ℕ)
narrow_text bytes = if is_utf8 bytes then Some (chars bytes) else None

abbrev pub one_unit : ℕ → ℕ → Option (List ℕ) → Option (List ℕ)
one_unit low high (Some units) = Some ((low + 256 * high) ∷ units)
one_unit low high None = None

-- the numbers of two bytes each, the least byte first; none where a byte is left over
abbrev pub units_in : List ℕ → Option (List ℕ)
units_in [] = Some []
units_in (low ∷ []) = None
units_in (low ∷ high ∷ bytes) = one_unit low high (units_in bytes)

-- UTF-16, in which each surrogate has its partner
abbrev pub wide_text : Option (List ℕ) → Option (List ℕ)
wide_text (Some units) = if has_unpaired_surrogate units then None else Some (utf16_lossy_chars units)
wide_text None = None

-- what stands behind a mark
abbrev pub behind_mark : List ℕ → List ℕ → Option (List ℕ)
behind_mark [] bytes = Some bytes
behind_mark (m ∷ ms) [] = None
behind_mark (m ∷ ms) (b ∷ bytes) = if b == m then behind_mark ms bytes else None

abbrev pub text_behind : Option (List ℕ) → Option (List ℕ) → List ℕ → Option (List ℕ)
text_behind (Some wide) marked bytes = wide_text (units_in wide)
text_behind None (Some narrow) bytes = narrow_text narrow
text_behind None None bytes = narrow_text bytes

-- UTF-16 behind the mark FF FE, else UTF-8, with the mark EF BB BF or without one
abbrev pub text_of : List ℕ → Option (List ℕ)
text_of bytes = text_behind (behind_mark (255 ∷ 254 ∷ []) bytes) (behind_mark (239 ∷ 187 ∷ 191 ∷ []) bytes) bytes

abbrev pub words_by : Option (List ℕ) → Result (List Word) JobTextErr
words_by (Some cs) = words_in cs
words_by None = Err (text.BadText 1)

-- the words of a job file of these bytes; what is no text is refused at place 1
unfoldable pub job_words : List ℕ → Result (List Word) JobTextErr
job_words bytes = words_by (text_of bytes)
