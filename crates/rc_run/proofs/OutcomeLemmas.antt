-- The characters of the lines of an outcome.
use Rattle.std.proofs.Common.{◌≡◌, ◌≢◌, ℕ, ◌<◌, ◌^◌, true, List, [], ◌∷◌, ◌++◌, String, Result, Ok, Err, length, ltb, codes, decimal, string_bytes, refl, sym, ap, ◌∙◌, arith, append_assoc}
use Rattle.std.specs.Prelude.{IfOk, encode_utf8_all}
use Rattle.std.specs.List.{list_all}
use Rattle.std.specs.Str.{chars, IsAscii, IsUtf8}
use Rattle.std.proofs.lemmas.Bool.{and_parts, ltb-true}
use Rattle.std.proofs.lemmas.Fmt.{IsAscii-decimal}
use Rattle.std.proofs.lemmas.List.{append-nil}
use Rattle.std.proofs.lemmas.Str.{chars-append, chars-IsAscii, encodes-chars, IsAscii-append, IsUtf8-from_ascii}
use Rattle.std.proofs.lemmas.Str.Ascii.{IsAscii-nil, IsAscii-cons}
use Rattle.rc_report.specs.Report.{path_text}
use Rattle.rc_volume.specs.declared.site.Side.{Side}
use Rattle.rc_volume.specs.declared.site.Side.TheVariants.{Source, Target}
use Rattle.rc_run.specs.declared.outcome.Outcome.{Outcome}
use Rattle.rc_run.specs.declared.outcome.Outcome.TheVariants.{Usage, NotYet, RootFault, ListFault, TooMany, TooBig, SiteFault}
use Rattle.rc_run.specs.declared.outcome.Unbuilt.{Unbuilt}
use Rattle.rc_run.specs.declared.outcome.Unbuilt.TheVariants.{Words, Record}
use Rattle.rc_run.specs.Outcome.{line_of, in_file, side_name, unbuilt_number}

-- the characters of a made text, from its bytes
pub chars_made : {A E : Type 0} (r : Result (String A) E) (bs : List ℕ) (o p : Outcome) → o ≡ p → chars bs ≡ line_of p → IfOk r (λ line. string_bytes line ≡ bs) → IfOk r (λ line. chars (string_bytes line) ≡ line_of o)
chars_made (Ok line) bs o p e is h = ap chars h ∙ is ∙ ap line_of (sym e)
chars_made (Err x) bs o p e is h = h

-- a literal is ASCII by a test that computes
IsAscii-from_test : (bs : List ℕ) → list_all (λ b. ltb b 128) bs ≡ true → IsAscii bs
IsAscii-from_test [] h = IsAscii-nil
IsAscii-from_test (b ∷ bs) h =
    let parts = and_parts (ltb b 128) (list_all (λ c. ltb c 128) bs) h in
    IsAscii-cons b bs (ltb-true b 128 parts.0) (IsAscii-from_test bs parts.1)

-- the lines that have one number or one side
unbuilt_fits : (what : Unbuilt) → unbuilt_number what < 2 ^ 64
unbuilt_fits Words = omega arith
unbuilt_fits Record = omega arith

pub not_yet_chars : (what : Unbuilt) → chars (codes "ERROR: not built yet: " ++ decimal (unbuilt_number what)) ≡ line_of (NotYet what)
not_yet_chars what =
    chars-IsAscii _
    (IsAscii-append (codes "ERROR: not built yet: ") (decimal (unbuilt_number what))
    (IsAscii-from_test (codes "ERROR: not built yet: ") refl) (IsAscii-decimal (unbuilt_number what) (unbuilt_fits what)))

pub root_chars : (side : Side) → chars (codes "ERROR: " ++ codes "root" ++ codes " fault: " ++ side_name side) ≡ line_of (RootFault side)
unfolding chars
root_chars Source = refl
root_chars Target = refl

pub list_chars : (side : Side) → chars (codes "ERROR: " ++ codes "listing" ++ codes " fault: " ++ side_name side) ≡ line_of (ListFault side)
unfolding chars
list_chars Source = refl
list_chars Target = refl

pub site_chars : (side : Side) → chars (codes "ERROR: " ++ codes "volume" ++ codes " fault: " ++ side_name side) ≡ line_of (SiteFault side)
unfolding chars
site_chars Source = refl
site_chars Target = refl

-- the lines of the limits
side_ascii : (side : Side) → IsAscii (side_name side)
side_ascii Source = IsAscii-from_test (codes "source") refl
side_ascii Target = IsAscii-from_test (codes "target") refl

pub too_many_chars : (side : Side) (count : ℕ) → count < 2 ^ 64 → chars (codes "ERROR: too many entries: " ++ side_name side ++ codes " " ++ decimal count) ≡ line_of (TooMany side count)
too_many_chars side count l =
    chars-IsAscii _
    (IsAscii-append (codes "ERROR: too many entries: " ++ side_name side ++ codes " ") (decimal count)
    (IsAscii-append (codes "ERROR: too many entries: " ++ side_name side) (codes " ")
    (IsAscii-append (codes "ERROR: too many entries: ") (side_name side) (IsAscii-from_test (codes "ERROR: too many entries: ") refl) (side_ascii side))
    (IsAscii-from_test (codes " ") refl))
    (IsAscii-decimal count l))

pub too_big_chars : (path : List (List ℕ)) (bs : List ℕ) (size : ℕ) → bs ≡ path_text path → IsUtf8 bs → size < 2 ^ 64 → chars (codes "ERROR: file too big: " ++ (bs ++ (codes " " ++ decimal size))) ≡ line_of (TooBig path size)
too_big_chars path bs size is text l =
    let front : IsAscii (codes "ERROR: file too big: ") = IsAscii-from_test (codes "ERROR: file too big: ") refl in
    let end : IsAscii (codes " " ++ decimal size) = IsAscii-append (codes " ") (decimal size) (IsAscii-from_test (codes " ") refl) (IsAscii-decimal size l) in
    chars-append (codes "ERROR: file too big: ") (bs ++ (codes " " ++ decimal size)) (IsUtf8-from_ascii _ front)
    ∙ ap (λ (cs : List ℕ). cs ++ chars (bs ++ (codes " " ++ decimal size))) (chars-IsAscii _ front)
    ∙ ap (λ (cs : List ℕ). codes "ERROR: file too big: " ++ cs)
    (chars-append bs (codes " " ++ decimal size) text
    ∙ ap (λ (cs : List ℕ). chars bs ++ cs) (chars-IsAscii _ end)
    ∙ ap (λ (b : List ℕ). chars b ++ (codes " " ++ decimal size)) is)
    ∙ sym (append_assoc (codes "ERROR: file too big: ") (chars (path_text path)) (codes " " ++ decimal size))
    ∙ sym (append_assoc (codes "ERROR: file too big: " ++ chars (path_text path)) (codes " ") (decimal size))

-- what the line of a refusal begins with
abbrev pub word_front : ℕ → ℕ → List ℕ
word_front place kind = codes "ERROR: usage U" ++ decimal kind ++ codes " at word " ++ decimal place

-- it has no other characters than its bytes
IsAscii-word_front : (place kind : ℕ) → place < 2 ^ 64 → kind < 2 ^ 64 → IsAscii (word_front place kind)
IsAscii-word_front place kind p k =
    IsAscii-append (codes "ERROR: usage U" ++ decimal kind ++ codes " at word ") (decimal place)
    (IsAscii-append (codes "ERROR: usage U" ++ decimal kind) (codes " at word ")
    (IsAscii-append (codes "ERROR: usage U") (decimal kind) (IsAscii-from_test (codes "ERROR: usage U") refl) (IsAscii-decimal kind k))
    (IsAscii-from_test (codes " at word ") refl))
    (IsAscii-decimal place p)

-- a refusal of a word of the command line
pub command_chars : (place kind : ℕ) (file : List ℕ) → place < 2 ^ 64 → kind < 2 ^ 64 → length file ≡ 0 → chars (word_front place kind) ≡ line_of (Usage (chars file) place kind)
unfolding chars
command_chars place kind [] p k e = chars-IsAscii _ (IsAscii-word_front place kind p k) ∙ sym (append-nil (word_front place kind))
command_chars place kind (b ∷ bs) p k e = absurd (omega (arith, e))

-- a job file is named where its text has bytes
in_file_some : (cs bs : List ℕ) → encode_utf8_all cs ≡ bs → length bs ≢ 0 → in_file cs ≡ codes " of job file " ++ cs
in_file_some [] bs e some = absurd (some (ap length (sym e)))
in_file_some (c ∷ cs) bs e some = refl

-- a refusal of a word of a job file
pub job_chars : (place kind : ℕ) (file : List ℕ) → place < 2 ^ 64 → kind < 2 ^ 64 → IsUtf8 file → length file ≢ 0 → chars ((word_front place kind ++ codes " of job file ") ++ file) ≡ line_of (Usage (chars file) place kind)
job_chars place kind file p k text some =
    let front : IsAscii (word_front place kind ++ codes " of job file ") = IsAscii-append (word_front place kind) (codes " of job file ") (IsAscii-word_front place kind p k) (IsAscii-from_test (codes " of job file ") refl) in
    chars-append (word_front place kind ++ codes " of job file ") file (IsUtf8-from_ascii _ front)
    ∙ ap (λ (cs : List ℕ). cs ++ chars file) (chars-IsAscii _ front)
    ∙ append_assoc (word_front place kind) (codes " of job file ") (chars file)
    ∙ ap (λ (cs : List ℕ). word_front place kind ++ cs) (sym (in_file_some (chars file) file (encodes-chars file text) some))

-- a line that ends with the name of a job file
pub chars_named : {A E : Type 0} (r : Result (String A) E) (front name : List ℕ) (o p : Outcome) → o ≡ p → chars front ++ name ≡ line_of p → IfOk r (λ line. chars (string_bytes line) ≡ chars front ++ name) → IfOk r (λ line. chars (string_bytes line) ≡ line_of o)
chars_named (Ok line) front name o p e is h = h ∙ is ∙ ap line_of (sym e)
chars_named (Err x) front name o p e is h = h
