-- What a drill wrote.
use Rattle.std.proofs.Common.{◌≡◌, ◌⊎◌, ℕ, ◌<◌, Bool, true, false, List, [], ◌∷◌, ◌++◌, length, Result, Ok, Err, inl, inr, refl, sym, ap, ◌∙◌, arith, true≢false}
use Rattle.std.specs.Prelude.{OnErr, OnOk}
use Rattle.std.specs.Str.{IsUtf8, chars, encode_utf8_all}
use Rattle.std.proofs.lemmas.Str.{encodes-chars}
use Rattle.std.proofs.lemmas.List.{append-nil}
use Rattle.rc_volume.specs.declared.sink.SinkErr.{SinkErr}
use Rattle.rc_volume.specs.Streams.{AppendsFront}
use Rattle.rc_sitetext.specs.SiteText.{AreFiles, JobText, Jobs}
use Rattle.rc_sitetext.proofs.Appends.{behind}
use Rattle.rc_sitetext.proofs.Sends.{front_first, front_in}
use Rattle.drill.specs.Drilling.{OfSome, WritesOne, WritesOut}
use Rattle.drill.specs.Finishing.{IsPrinted, OfFiles, Sent, end_of}
use Rattle.drill.specs.Printed.{drill_text, whole_line}
use Rattle.drill.specs.declared.output.Printing.{Printing}
use Rattle.rc_run.specs.Outcome.{status_of}

pub wrote_all : (tells : Bool) (old bytes new : List ℕ) (failed : Type 0) (answer : ℕ) → (tells ≡ true → new ≡ old ++ bytes) → OfSome tells new (λ x. WritesOut failed old bytes answer x answer)
wrote_all tells old bytes new failed answer is = (old ++ bytes, λ t. sym (is t), inl (refl, refl))

pub AppendsFront-none : (old bytes : List ℕ) → AppendsFront old bytes old
AppendsFront-none old bytes = (0, omega arith, sym (append-nil old))

some_front : (tells : Bool) (old bytes new : List ℕ) → (tells ≡ true → AppendsFront old bytes new) → OfSome tells new (AppendsFront old bytes)
some_front true old bytes new front = (new, λ t. refl, front refl)
some_front false old bytes new front = (old, λ t. absurd (true≢false (sym t)), AppendsFront-none old bytes)

pub wrote_front : (tells : Bool) (old bytes new : List ℕ) (failed : Type 0) (answer status : ℕ) → (tells ≡ true → AppendsFront old bytes new) → (failed × (status ≡ 16)) ⊎ (status ≡ 32) → OfSome tells new (λ x. WritesOut failed old bytes answer x status)
wrote_front tells old bytes new failed answer status front why =
    let some = some_front tells old bytes new front in
    (some.0, some.1, inr (some.2, why))

-- a line that is not empty got its end
pub line_ended : (text cs line : List ℕ) → chars text ≡ cs → IsUtf8 text → 0 < length text → line ≡ text ++ 10 ∷ [] → line ≡ whole_line cs
line_ended text [] line e utf8 some is =
    let none : [] ≡ text = ap encode_utf8_all (sym e) ∙ encodes-chars text utf8 in
    absurd (omega (arith, some, ap length none))
line_ended text (c ∷ cs) line e utf8 some is = is ∙ ap (λ (t : List ℕ). t ++ 10 ∷ []) (sym (ap encode_utf8_all (sym e) ∙ encodes-chars text utf8))

-- and an empty one is none
pub line_kept : (text cs : List ℕ) → chars text ≡ cs → length text ≡ 0 → text ≡ whole_line cs
unfolding chars
line_kept [] cs e none = ap whole_line e
line_kept (c ∷ text) cs e none = absurd (omega (arith, none))

-- Texts that are written in two parts

-- the second part came behind the first
pub sent_then : (tells : Bool) (result : Result Unit SinkErr) (one two old mid new : List ℕ) → (tells ≡ true → mid ≡ old ++ one) → Sent tells result two mid new → Sent tells result (one ++ two) old new
sent_then tells (Ok x) one two old mid new first sent = record {
  whole = λ told. behind old one two mid new (first told) (sent.whole told);
  front = λ told. tt;
}
sent_then tells (Err e) one two old mid new first sent = record {
  whole = λ told. tt;
  front = λ told. front_in old mid new one two [] (one ++ two) (first told) (sent.front told) (ap (λ (t : List ℕ). one ++ t) (sym (append-nil two)));
}

-- the first part stopped
pub sent_first : (tells : Bool) (e : SinkErr) (one two old new : List ℕ) → (tells ≡ true → AppendsFront old one new) → Sent tells (Err e) (one ++ two) old new
sent_first tells e one two old new front = record { whole = λ told. tt; front = λ told. front_first old new one two (one ++ two) (front told) refl }

-- nothing was written
pub sent_none : (tells : Bool) (e : SinkErr) (text old : List ℕ) → Sent tells (Err e) text old old
sent_none tells e text old = record { whole = λ told. tt; front = λ told. AppendsFront-none old text }

-- a text by job files, of which a sink that tells has some
pub sent_files : (tells : Bool) (result : Result Unit SinkErr) (jobs : Jobs) (text : List JobText → List ℕ) (old new : List ℕ) → (files : List JobText) × AreFiles jobs files
    → (tells ≡ true → OnOk result (OfFiles jobs (λ files. new ≡ old ++ text files))) → (tells ≡ true → OnErr result (OfFiles jobs (λ files. AppendsFront old (text files) new)))
    → OfFiles jobs (λ files. Sent tells result (text files) old new)
sent_files false result jobs text old new some whole front =
    (some.0, some.1, record { whole = λ told. absurd (true≢false (sym told)); front = λ told. absurd (true≢false (sym told)) })
sent_files true (Ok x) jobs text old new some whole front =
    let is = whole refl in (is.0, is.1, record { whole = λ told. is.2; front = λ told. tt })
sent_files true (Err e) jobs text old new some whole front =
    let is = front refl in (is.0, is.1, record { whole = λ told. tt; front = λ told. is.2 })

-- what is printed of the end of a run is one of its texts
pub printed_one : (tells : Bool) (printing : Printing) (files : List JobText) → AreFiles printing.jobs files → (failed : Type 0) (old new : List ℕ) (status : ℕ)
    → OfSome tells new (λ x. WritesOut failed old (drill_text printing.digests printing.moment files (end_of printing.finished printing.jobs)) (status_of printing.finished.outcome) x status)
    → OfSome tells new (λ x. WritesOne (IsPrinted printing) failed old x status)
printed_one tells printing files filed failed old new status some = (
  some.0,
  some.1,
  record {
    printed = drill_text printing.digests printing.moment files (end_of printing.finished printing.jobs);
    answer = status_of printing.finished.outcome;
    is_printed = record { files = files; filed = filed; text = refl; is = refl };
    writes = some.2;
  },
)
