-- What a drill did: of which arguments and which text it is one.
use Rattle.std.proofs.Common.{◌≡◌, ◌⊎◌, ℕ, Bool, true, List, [], ◌∷◌, map, Option, Some, None, Err, inl, inr, refl, sym, ap, subst, ◌∙◌, is_some, String, string_bytes, chars}
use Rattle.rc_volume.specs.Faults.{RisesIf, RoseBy}
use Rattle.rc_jobfiles.specs.Ask.{texts}
use Rattle.rc_sitetext.specs.declared.site_file.SiteFile.{SiteFile}
use Rattle.rc_drillwords.specs.declared.arguments.Asked.{Asked}
use Rattle.rc_drillwords.specs.declared.reading.FailingCall.{FailingCall}
use Rattle.rc_drillwords.specs.declared.reading.FailingReads.{FailingReads}
use Rattle.rc_drillwords.specs.Asking.{IsAsked, calls_asked, first_bad, number_asked, reads_asked, spellings}
use Rattle.drill.specs.declared.begin.Stop.{Stop}
use Rattle.drill.specs.declared.begin.Stop.TheVariants.{Input, SiteText, NoMemory}
use Rattle.drill.specs.Drilling.{Begins, Drills, EndsBy, OfSome, ReadsInput, WritesOne, WritesOut, run_words}
use Rattle.drill.specs.Finishing.{EndsAsked, IsPrinted, IsStop, ShowsAsked, end_of, refuses_text, stop_failed, stop_line}
use Rattle.drill.specs.Printed.{Shows, argument_line, drill_text}
use Rattle.drill.specs.Runs.{Start}
use Rattle.drill.specs.declared.output.Printing.{Printing}
use Rattle.drill.proofs.ReadTexts.{of_told}

-- Stops

-- only a stop at the input raised its count, and no stop let it fall
pub stop_rose : (stop : Stop) (before now : ℕ) → RisesIf (stop_failed {T = SiteFile} (Err stop)) before now → stop ≡ Input → RoseBy 1 before now
stop_rose Input before now h e = h.1
stop_rose (SiteText line kind) before now h e = absurd cc
stop_rose NoMemory before now h e = absurd cc

-- only a refused text is left
pub stop_read : (stop : Stop) (input_failed read : Type 0) (status : ℕ) → (stop ≡ Input → input_failed) → (input_failed → ⊥) → (stop ≡ NoMemory → status ≡ 32) → (status ≡ 32 → ⊥) → (refuses_text {T = SiteFile} (Err stop) ≡ true → read) → read
stop_read Input input_failed read status rose never_rose memory enough all = absurd (never_rose (rose refl))
stop_read (SiteText line kind) input_failed read status rose never_rose memory enough all = all refl
stop_read NoMemory input_failed read status rose never_rose memory enough all = absurd (enough (memory refl))

-- Arguments

texts_are : {A : Type 0} (words : List (String A)) → texts words ≡ map chars (spellings words)
texts_are [] = refl
texts_are (word ∷ words) = ap (λ (ws : List (List ℕ)). chars (string_bytes word) ∷ ws) (texts_are words)

-- what a run of what is asked says, said of the arguments
shows_asked : (args : List (List ℕ)) (asked : Asked) (start : Start) (printed : List ℕ) (status : ℕ) → IsAsked args asked → ShowsAsked asked start printed status
    → Shows (is_some (number_asked args)) start.moment (EndsBy (calls_asked args) (reads_asked args) (run_words args) start) printed status
shows_asked args asked start printed status is shows = record {
  end = shows.end;
  ends =
      subst (λ (calls : List FailingCall). EndsBy calls (reads_asked args) (run_words args) start shows.end) is.calls
      (subst (λ (reads : List FailingReads). EndsBy asked.calls.items reads (run_words args) start shows.end) is.reads
      (subst (λ (words : List (List ℕ)). EndsBy asked.calls.items asked.reads.items words start shows.end) (texts_are asked.words.items ∙ ap (λ (ws : List (List ℕ)). map chars ws) is.words) shows.ends));
  files = shows.files;
  filed = shows.filed;
  text = subst (λ (number : Option ℕ). printed ≡ drill_text (is_some number) start.moment shows.files shows.end) is.number shows.text;
  answer = shows.answer;
}

pub none_some : {n : ℕ} → ◌≡◌ {A = Option ℕ} None (Some n) → ⊥
none_some e = cc

-- what is printed of a run that ended so, of this moment
pub shows_printed : (asked : Asked) (start : Start) (printing : Printing) (printed : List ℕ) (answer : ℕ) → EndsAsked asked start (end_of printing.finished printing.jobs) → printing.digests ≡ is_some asked.number → printing.moment ≡ start.moment → IsPrinted printing printed answer → ShowsAsked asked start printed answer
shows_printed asked start printing printed answer ends digests moment is = record {
  end = end_of printing.finished printing.jobs;
  ends = ends;
  files = is.files;
  filed = is.filed;
  text =
      is.text ∙ ap (λ (d : Bool). drill_text d printing.moment is.files (end_of printing.finished printing.jobs)) digests
      ∙ ap (λ (m : ℕ). drill_text (is_some asked.number) m is.files (end_of printing.finished printing.jobs)) moment;
  answer = is.is;
}

pub shows_one : (tells : Bool) (asked : Asked) (start : Start) (printing : Printing) (failed : Type 0) (old new : List ℕ) (status : ℕ) → EndsAsked asked start (end_of printing.finished printing.jobs) → printing.digests ≡ is_some asked.number → printing.moment ≡ start.moment
    → OfSome tells new (λ x. WritesOne (IsPrinted printing) failed old x status) → OfSome tells new (λ x. WritesOne (ShowsAsked asked start) failed old x status ⊎ ((x ≡ old) × (status ≡ 32)))
shows_one tells asked start printing failed old new status ends digests moment some = (
  some.0,
  some.1,
  inl (record {
    printed = some.2.printed;
    answer = some.2.answer;
    is_printed = shows_printed asked start printing some.2.printed some.2.answer ends digests moment some.2.is_printed;
    writes = some.2.writes;
  }),
)

-- Drills

run_drilled : (input_failed failed : Type 0) (args : List (List ℕ)) (asked : Asked) (text : List ℕ) (start : Start) (old new : List ℕ) (status : ℕ) → first_bad args ≡ None → IsAsked args asked → Begins asked.number text start
    → WritesOne (ShowsAsked asked start) failed old new status ⊎ ((new ≡ old) × (status ≡ 32)) → Drills input_failed failed args text old new status
run_drilled input_failed failed args asked text start old new status good is begins (inl one) = inl (record {
  printed = one.printed;
  answer = one.answer;
  is_printed = inr (inr (inr (record {
    good = good;
    start = start;
    begins = subst (λ (number : Option ℕ). Begins number text start) is.number begins;
    shows = shows_asked args asked start one.printed one.answer is one.is_printed;
  })));
  writes = one.writes;
})
run_drilled input_failed failed args asked text start old new status good is begins (inr none) = inr none

-- on a site
pub file_drilled : (reads hears : Bool) (input_failed failed : Type 0) (args : List (List ℕ)) (asked : Asked) (rest : List ℕ) (start : Start) (old told : List ℕ) (status : ℕ) → first_bad args ≡ None → IsAsked args asked
    → OfSome reads rest (λ text. Begins asked.number text start)
    → OfSome hears told (λ new. WritesOne (ShowsAsked asked start) failed old new status ⊎ ((new ≡ old) × (status ≡ 32)))
    → OfSome reads rest (λ text. OfSome hears told (λ new. Drills input_failed failed args text old new status))
file_drilled reads hears input_failed failed args asked rest start old told status good is some wrote = (
  some.0,
  some.1,
  (wrote.0, wrote.1, run_drilled input_failed failed args asked some.0 start old wrote.0 status good is some.2 wrote.2),
)

input_read : (args : List (List ℕ)) (asked : Asked) → first_bad args ≡ None → IsAsked args asked → asked.number ≡ None → ReadsInput args
input_read args asked good is none = record { good = good; number = sym is.number ∙ none }

-- or without one
pub stop_drilled : (stop : Stop) (reads hears : Bool) (input_failed failed : Type 0) (args : List (List ℕ)) (asked : Asked) (rest old told : List ℕ) (status : ℕ) → first_bad args ≡ None → IsAsked args asked
    → (stop ≡ Input → input_failed)
    → OfSome reads rest (λ text. IsStop asked.number text stop)
    → OfSome hears told (λ new. WritesOut failed old (stop_line stop) 16 new status)
    → (stop ≡ NoMemory → (hears ≡ true → told ≡ old) × (status ≡ 32))
    → OfSome reads rest (λ text. OfSome hears told (λ new. Drills input_failed failed args text old new status))
stop_drilled Input reads hears input_failed failed args asked rest old told status good is rose why wrote silent = (
  why.0,
  why.1,
  (
    wrote.0,
    wrote.1,
    inl (record {
      printed = stop_line Input;
      answer = 16;
      is_printed = inr (inl (record { reads = input_read args asked good is why.2; cause = rose refl; line = refl; answer = refl }));
      writes = wrote.2;
    }),
  ),
)
stop_drilled (SiteText line kind) reads hears input_failed failed args asked rest old told status good is rose why wrote silent = (
  why.0,
  why.1,
  (
    wrote.0,
    wrote.1,
    inl (record {
      printed = stop_line (SiteText line kind);
      answer = 16;
      is_printed = inr (inr (inl (record { reads = input_read args asked good is why.2.0; at = line; kind = kind; refused = why.2.1; line = refl; answer = refl })));
      writes = wrote.2;
    }),
  ),
)
stop_drilled NoMemory reads hears input_failed failed args asked rest old told status good is rose why wrote silent = (
  rest,
  λ t. refl,
  (old, λ t. sym ((silent refl).0 t), inr (refl, (silent refl).1)),
)

-- refused for an argument
pub argument_drilled : (reads hears : Bool) (input_failed failed : Type 0) (args : List (List ℕ)) (place : ℕ) (rest old told : List ℕ) (status : ℕ) → first_bad args ≡ Some place
    → OfSome hears told (λ new. WritesOut failed old (argument_line place) 16 new status)
    → OfSome reads rest (λ text. OfSome hears told (λ new. Drills input_failed failed args text old new status))
argument_drilled reads hears input_failed failed args place rest old told status bad wrote = (
  rest,
  λ t. refl,
  (
    wrote.0,
    wrote.1,
    inl (record {
      printed = argument_line place;
      answer = 16;
      is_printed = inl (record { place = place; bad = bad; line = refl; answer = refl });
      writes = wrote.2;
    }),
  ),
)

-- for want of memory
pub memory_drilled : (reads hears : Bool) (input_failed failed : Type 0) (args : List (List ℕ)) (rest old : List ℕ) → OfSome reads rest (λ text. OfSome hears old (λ new. Drills input_failed failed args text old new 32))
memory_drilled reads hears input_failed failed args rest old = (rest, λ t. refl, (old, λ t. refl, inr (refl, refl)))

-- of an input and an output that tell
pub drilled_told : (reads hears : Bool) (input_failed failed : Type 0) (args : List (List ℕ)) (rest old told : List ℕ) (status : ℕ) → OfSome reads rest (λ text. OfSome hears told (λ new. Drills input_failed failed args text old new status)) → reads ≡ true → hears ≡ true
    → Drills input_failed failed args rest old told status
drilled_told reads hears input_failed failed args rest old told status some r h =
    of_told hears told (λ new. Drills input_failed failed args rest old new status) h
    (of_told reads rest (λ text. OfSome hears told (λ new. Drills input_failed failed args text old new status)) r some)

-- the input is read, or the site is generated
pub reads_unless : (args : List (List ℕ)) (asked : Asked) → first_bad args ≡ None → IsAsked args asked → (ReadsInput args → ⊥) → is_some asked.number ≡ true
reads_unless args asked good is not = by asked.number refl
  where
    by : (number : Option ℕ) → asked.number ≡ number → is_some number ≡ true
    by (Some n) e = refl
    by None e = absurd (not (input_read args asked good is e))
