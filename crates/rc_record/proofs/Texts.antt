-- A text of a record, by what its bytes are.
use Rattle.std.proofs.Common.{◌≡◌, ℕ, Bool, true, false, List, Ok, Err, refl}
use Rattle.std.specs.Prelude.{IsUtf8, chars}
use Rattle.std.specs.Str.{is_utf8}
use Rattle.std.proofs.lemmas.Str.{IsUtf8-from_is_utf8, is_utf8-from_IsUtf8}
use Rattle.rc_record.specs.Fields.{field_at}
use Rattle.rc_record.specs.Grammar.{text_at}

pub text_read : (len off : ℕ) (bytes field : List ℕ) → field_at len off bytes ≡ Ok field → IsUtf8 field → text_at len off bytes ≡ Ok (chars field)
unfolding text_at
text_read len off bytes field is text = rw (is, is_utf8-from_IsUtf8 field text) refl

no_text_here : (field : List ℕ) (test : Bool) → is_utf8 field ≡ test → ¬ (IsUtf8 field) → test ≡ false
no_text_here field true is other = absurd (other (IsUtf8-from_is_utf8 field is))
no_text_here field false is other = refl

pub no_text : (len off : ℕ) (bytes field : List ℕ) → field_at len off bytes ≡ Ok field → ¬ (IsUtf8 field) → text_at len off bytes ≡ Err off
unfolding text_at
no_text len off bytes field is other = rw (is, no_text_here field (is_utf8 field) refl other) refl
