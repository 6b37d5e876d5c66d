-- How calls and reads are named that fail, and what a run then says.
use Rattle.std.proofs.Common.{◌≡◌, ℕ, ◌-◌, ◌<◌, ◌≤◌, Bool, true, false, ◌&&◌, eqb, List, [], ◌∷◌, length, take, drop, get_or, ◌⊎◌, inl, inr, Result, Ok, Err, refl, sym, ap, subst, ◌∙◌, arith, true≢false}
use Rattle.std.proofs.lemmas.Bool.{and_parts, eqb-true}
use Rattle.std.proofs.lemmas.List.{take_rest}
use Rattle.rc_tree.specs.Path.{key_of}
use Rattle.rc_volume.specs.declared.site.Part.{Part}
use Rattle.rc_volume.specs.Site.{Seen, Told}
use Rattle.rc_mem.specs.declared.site.MemSite.{MemSite}
use Rattle.rc_mem.specs.MemSite.{IsFreshSite, seen_by, told_by}
use Rattle.rc_failing.specs.declared.named.Named.{Named}
use Rattle.rc_failing.specs.declared.site.FailingSite.{FailingSite}
use Rattle.rc_failing.specs.Failing.{failures_in, seen_failing}
use Rattle.rc_failing.specs.Named.{NamesCall, NamesNothing, NamesReads}
use Rattle.rc_job.specs.declared.job.Job.{Job}
use Rattle.rc_volume.specs.Waits.{Paused}
use Rattle.rc_jobfiles.specs.declared.resolving.Resolved.{Resolved}
use Rattle.rc_run.specs.declared.outcome.Outcome.{Outcome}
use Rattle.rc_run.specs.declared.outcome.Outcome.TheVariants.{JobFault, SinkFault}
use Rattle.rc_run.specs.Keeping.{Keeps, ShowsJob}
use Rattle.rc_run.specs.Mirroring.{Mirrors}
use Rattle.rc_run.specs.Outcome.{CausesInSink, CausesInStore, IfDone, IsOrFault, IsOrNoMemory}
use Rattle.rc_run.specs.Words.{IfRefused, IfRun, IfShown, asked}
use Rattle.rc_sitetext.specs.SiteText.{Jobs}
use Rattle.rc_drillwords.specs.declared.reading.FailingCall.{FailingCall}
use Rattle.rc_drillwords.specs.declared.reading.FailingReads.{FailingReads}
use Rattle.drill.specs.Drilling.{EndsBy}
use Rattle.drill.specs.Finishing.{start_at}
use Rattle.drill.specs.Runs.{End, Ends, IsSetUp, IsUntouched, MayEnd, MayShow, NamesAllReads, NamesCalls, Start}
use Rattle.drill.proofs.Ends.{an_end, never}

-- Lists

-- what a list begins with, and what it has behind that
pub begins : {A : Type 0} (xs : List A) (first : A) → 1 ≤ length xs → first ≡ get_or xs 0 first → xs ≡ first ∷ take (length xs - 1) (drop 1 xs)
begins [] first some is = absurd (omega (arith, some))
begins (x ∷ xs) first some is = ap (λ y. y ∷ xs) (sym is) ∙ ap (λ rest. first ∷ rest) (sym (take_rest (x ∷ xs) 1))

pub begins_at : {A : Type 0} (xs : List A) (other : A) → 1 ≤ length xs → xs ≡ get_or xs 0 other ∷ take (length xs - 1) (drop 1 xs)
begins_at [] other some = absurd (omega (arith, some))
begins_at (x ∷ xs) other some = ap (λ rest. x ∷ rest) (sym (take_rest (x ∷ xs) 1))

pub length_zero : {A : Type 0} (xs : List A) → length xs < 1 → xs ≡ []
length_zero [] none = refl
length_zero (x ∷ xs) none = absurd (omega (arith, none))

-- One more that is named

pub calls_on : (all rest later : List FailingCall) (first : FailingCall) (start now new : Named) → rest ≡ first ∷ later → ((end : Named) → NamesCalls rest now end → NamesCalls all start end) → NamesCall first.part first.number now new → (end : Named) → NamesCalls later new end → NamesCalls all start end
calls_on all rest later first start now new is leads named end behind = leads end (subst (λ (r : List FailingCall). NamesCalls r now end) (sym is) (new, named, behind))

pub calls_end : (all rest : List FailingCall) (start now : Named) → length rest < 1 → ((end : Named) → NamesCalls rest now end → NamesCalls all start end) → NamesCalls all start now
calls_end all rest start now none leads = leads now (subst (λ (r : List FailingCall). NamesCalls r now now) (sym (length_zero rest none)) refl)

pub reads_on : (all rest later : List FailingReads) (first : FailingReads) (start now new : Named) → rest ≡ first ∷ later → ((end : Named) → NamesAllReads rest now end → NamesAllReads all start end) → NamesReads (key_of first.path) first.times now new → (end : Named) → NamesAllReads later new end → NamesAllReads all start end
reads_on all rest later first start now new is leads named end behind = leads end (subst (λ (r : List FailingReads). NamesAllReads r now end) (sym is) (new, named, behind))

pub reads_end : (all rest : List FailingReads) (start now : Named) → length rest < 1 → ((end : Named) → NamesAllReads rest now end → NamesAllReads all start end) → NamesAllReads all start now
reads_end all rest start now none leads = leads now (subst (λ (r : List FailingReads). NamesAllReads r now now) (sym (length_zero rest none)) refl)

-- The site

pub set_up : (calls : List FailingCall) (reads : List FailingReads) (site : MemSite) (begun mid end : FailingSite) → IsFreshSite (told_by site) (seen_by site) → begun.behind ≡ site → NamesNothing begun.named → ((part : Part) → failures_in begun part ≡ 0)
    → NamesCalls calls begun.named mid.named → seen_failing mid ≡ seen_failing begun → NamesAllReads reads mid.named end.named → seen_failing end ≡ seen_failing mid → IsSetUp calls reads (told_by site) end
set_up calls reads site begun mid end fresh behind nothing zero names_calls one names_reads two =
    let same : seen_failing end ≡ seen_failing begun = two ∙ one in
    record {
      fresh = subst (IsFreshSite (told_by site)) (sym same) (record {
        reads = ap told_by behind;
        log = ap (λ (s : MemSite). (seen_by s).log) behind ∙ fresh.log;
        opened = ap (λ (s : MemSite). (seen_by s).opened) behind ∙ fresh.opened;
        bound = ap (λ (s : MemSite). (seen_by s).bound) behind ∙ fresh.bound;
      });
      faults = λ part. ap (λ (seen : Seen). seen.faults part) same ∙ zero part;
      nothing = begun.named;
      is_nothing = nothing;
      with_calls = mid.named;
      names_calls = names_calls;
      names_reads = names_reads;
    }

-- The run

-- what a run over such a site says, whose report and job files do not fail
pub record Says (words : List (List ℕ)) (last : ℕ) (before after : FailingSite) (outcome : Outcome) (sent report : List ℕ) (old new : Jobs) (p q : Paused) : Type 0 where
  pub refused : IfRefused (asked words old) (λ refusal. IsOrFault refusal outcome)
  pub untouched : IfRefused (asked words old) (λ refusal. (told_by after.behind ≡ told_by before.behind) × (report ≡ sent))
  pub shown : IfShown (asked words old) (λ job. ShowsJob true job outcome sent report)
  pub rests : IfShown (asked words old) (λ job. told_by after.behind ≡ told_by before.behind)
  pub run : IfRun (asked words old) (λ job. Mirrors true true job last outcome (seen_failing before) (seen_failing after) sent report p q)
  pub begun : IfDone outcome (λ bits at. at ≡ last)
  pub kept : Keeps (asked words old) outcome old new
  pub sink : CausesInSink outcome 0 0
  pub store : CausesInStore outcome 0 0

no_sink_fault : (outcome : Outcome) → CausesInSink outcome 0 0 → outcome ≡ SinkFault → ⊥
no_sink_fault outcome cause same = never (subst (λ (o : Outcome). CausesInSink o 0 0) same cause).1

no_store_fault : (outcome : Outcome) → CausesInStore outcome 0 0 → outcome ≡ JobFault → ⊥
no_store_fault outcome cause same = never (subst (λ (o : Outcome). CausesInStore o 0 0) same cause).1

may_end_so : (calls : List FailingCall) (reads : List FailingReads) (words : List (List ℕ)) (moment : ℕ) (before after : FailingSite) (told : Told) (outcome : Outcome) (report : List ℕ) (old new : Jobs) (p q : Paused) → IsSetUp calls reads told before → Says words moment before after outcome [] report old new p q
    → MayEnd calls reads words (start_at told moment old) (an_end report outcome (told_by after.behind) new)
may_end_so calls reads words moment before after told outcome report old new p q set says = record {
  before = before;
  set_up = set;
  after = after;
  now = refl;
  waited_before = p;
  waited_after = q;
  moment_is = says.begun;
  reported = no_sink_fault outcome says.sink;
  stored = no_store_fault outcome says.store;
  kept = says.kept;
  refused = by_refusal (asked words old) says.refused says.untouched;
  shown = by_shown (asked words old) says.shown says.rests;
  run = says.run;
}
  where
    or_memory : (refusal : Outcome) → IsOrFault refusal outcome → IsOrNoMemory refusal outcome
    or_memory refusal (inl same) = inl same
    or_memory refusal (inr (inl memory)) = inr memory
    or_memory refusal (inr (inr failed)) = absurd (no_store_fault outcome says.store failed)

    by_refusal : (a : Result Resolved Outcome) → IfRefused a (λ refusal. IsOrFault refusal outcome) → IfRefused a (λ refusal. (told_by after.behind ≡ told_by before.behind) × (report ≡ []))
        → IfRefused a (λ refusal. IsUntouched refusal (start_at told moment old) (an_end report outcome (told_by after.behind) new))
    by_refusal (Ok accepted) one two = _
    by_refusal (Err refusal) one two = record { outcome = or_memory refusal one; report = two.1; now = two.0 ∙ set.fresh.reads }

    by_shown : (a : Result Resolved Outcome) → IfShown a (λ job. ShowsJob true job outcome [] report) → IfShown a (λ job. told_by after.behind ≡ told_by before.behind)
        → IfShown a (λ job. MayShow job (start_at told moment old) (an_end report outcome (told_by after.behind) new))
    by_shown (Ok accepted) shows rests = λ quits. record { shows = shows quits; now = rests quits ∙ set.fresh.reads }
    by_shown (Err refusal) shows rests = _

-- whatever the moment and the report were called
pub may_end : (calls : List FailingCall) (reads : List FailingReads) (words : List (List ℕ)) (moment last : ℕ) (before after : FailingSite) (told : Told) (outcome : Outcome) (sent report : List ℕ) (old new : Jobs) (p q : Paused) → last ≡ moment → sent ≡ [] → IsSetUp calls reads told before → Says words last before after outcome sent report old new p q
    → MayEnd calls reads words (start_at told moment old) (an_end report outcome (told_by after.behind) new)
may_end calls reads words moment last before after told outcome sent report old new p q at none set says =
    may_end_so calls reads words moment before after told outcome report old new p q set
    (subst (λ (b : List ℕ). Says words moment before after outcome b report old new p q) none
    (subst (λ (m : ℕ). Says words m before after outcome sent report old new p q) at says))

-- a site that is the one that was handed in tells the same
pub refused_same : (a : Result Resolved Outcome) (site end : FailingSite) (before report : List ℕ) (more : Type 0) → IfRefused a (λ refusal. (end ≡ site) × (report ≡ before) × more) → IfRefused a (λ refusal. (told_by end.behind ≡ told_by site.behind) × (report ≡ before))
refused_same (Ok accepted) site end before report more h = _
refused_same (Err refusal) site end before report more h = (ap (λ (s : FailingSite). told_by s.behind) h.0, h.1)

pub shown_same : (a : Result Resolved Outcome) (site end : FailingSite) (more : Type 0) → IfShown a (λ job. (end ≡ site) × more) → IfShown a (λ job. told_by end.behind ≡ told_by site.behind)
shown_same (Ok accepted) site end more h = λ quits. ap (λ (s : FailingSite). told_by s.behind) (h quits).0
shown_same (Err refusal) site end more h = _

-- Both

abbrev names_none : List FailingCall → List FailingReads → Bool
names_none calls reads = eqb (length calls) 0 && eqb (length reads) 0

pub ends_whole : (calls : List FailingCall) (reads : List FailingReads) (words : List (List ℕ)) (start : Start) (end : End) → names_none calls reads ≡ true → Ends words start end → EndsBy calls reads words start end
ends_whole [] [] words start end none ends = ends
ends_whole [] (r ∷ reads) words start end none ends =
    absurd (omega (arith, eqb-true (length (r ∷ reads)) 0 (and_parts (eqb (length {A = FailingCall} []) 0) (eqb (length (r ∷ reads)) 0) none).1))
ends_whole (c ∷ calls) reads words start end none ends =
    absurd (omega (arith, eqb-true (length (c ∷ calls)) 0 (and_parts (eqb (length (c ∷ calls)) 0) (eqb (length reads) 0) none).0))

pub ends_failing : (calls : List FailingCall) (reads : List FailingReads) (words : List (List ℕ)) (start : Start) (end : End) → names_none calls reads ≡ false → MayEnd calls reads words start end → EndsBy calls reads words start end
ends_failing [] [] words start end some ends = absurd (true≢false some)
ends_failing [] (r ∷ reads) words start end some ends = ends
ends_failing (c ∷ calls) reads words start end some ends = ends
