-- Texts of printable ASCII characters from a least one on.
use Rattle.std.proofs.Common.{◌≡◌, ℕ, ◌<◌, ◌≤◌, true, ◌&&◌, ltb, leb, List, [], ◌∷◌, arith}
use Rattle.std.specs.List.{list_all, AllByRecursion}
use Rattle.std.specs.Str.{IsUtf8, IsAscii}
use Rattle.std.proofs.lemmas.Bool.{and_parts, leb-true, ltb-true}
use Rattle.std.proofs.lemmas.Str.{IsUtf8-from_ascii}
use Rattle.std.proofs.lemmas.Str.Ascii.{IsAscii-nil, IsAscii-cons}
use Rattle.rc_sitetext.proofs.Plain.{IsPlain, IsPlain-nil, IsPlain-cons}

abbrev pub IsPrintable : ℕ → List ℕ → Type 0
IsPrintable least text = AllByRecursion (λ c. (least ≤ c) × (c < 128)) text

pub IsPlain-printable : (least : ℕ) (text : List ℕ) → 32 ≤ least → IsPrintable least text → IsPlain text
IsPlain-printable least [] le h = IsPlain-nil
IsPlain-printable least (c ∷ text) le h = IsPlain-cons c text (omega (arith, h.0.0)) (IsPlain-printable least text le h.1)

ascii : (least : ℕ) (text : List ℕ) → IsPrintable least text → IsAscii text
ascii least [] h = IsAscii-nil
ascii least (c ∷ text) h = IsAscii-cons c text h.0.1 (ascii least text h.1)

pub IsUtf8-printable : (least : ℕ) (text : List ℕ) → IsPrintable least text → IsUtf8 text
IsUtf8-printable least text h = IsUtf8-from_ascii text (ascii least text h)

-- a literal text, by computing
pub IsPrintable-literal : (least : ℕ) (text : List ℕ) → list_all (λ c. leb least c && ltb c 128) text ≡ true → IsPrintable least text
IsPrintable-literal least [] h = tt
IsPrintable-literal least (c ∷ text) h =
    let both = and_parts (leb least c && ltb c 128) (list_all (λ c. leb least c && ltb c 128) text) h in
    let one = and_parts (leb least c) (ltb c 128) both.0 in
    ((leb-true least c one.0, ltb-true c 128 one.1), IsPrintable-literal least text both.1)

-- a literal ASCII text, by computing
pub ascii_utf8 : (text : List ℕ) → list_all (λ c. leb 0 c && ltb c 128) text ≡ true → IsUtf8 text
ascii_utf8 text h = IsUtf8-printable 0 text (IsPrintable-literal 0 text h)
