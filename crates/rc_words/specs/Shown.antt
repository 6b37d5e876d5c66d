-- What the code's readings of a word stand for.
use Rattle.rc_words.specs.declared.spelling.Found.{Found}
use Rattle.rc_words.specs.declared.spelling.Reading.{Reading as Kept}
use Rattle.rc_words.specs.declared.spelling.Reading.TheVariants as kept
use Rattle.std.specs.Prelude.{chars}
use Rattle.rc_words.specs.Spelling.{Reading, Plain, Bare, Behind, Spelled}

abbrev pub shown : Kept → Reading
shown kept.Plain = Plain
shown kept.Bare = Bare
shown (kept.Behind text) = Behind (chars text.now)

abbrev pub as_spelled : Found → Spelled
as_spelled f = record { number = f.number; value = f.value; reading = shown f.reading }
