-- What the lines of a text have said is spelled by these lines.
use Rattle.std.proofs.Common.{◌≡◌, ◌≢◌, ℕ, ◌+◌, ◌≤◌, Bool, true, false, ◌&&◌, cond, eqb, List, [], ◌∷◌, ◌++◌, length, Option, Some, None, Ok, Err, refl, sym, ap, subst, ◌∙◌, append_assoc, arith, inl, inr}
use Rattle.std.specs.Prelude.{codes, Result}
use Rattle.std.specs.Fmt.{decimal}
use Rattle.std.specs.List.{AllByRecursion, flat_map, join_with_byte, onto_first}
use Rattle.std.specs.Str.{bytes_eq, is_utf8}
use Rattle.std.specs.FinMap.{empty, entries}
use Rattle.std.proofs.lemmas.Bool.{and_parts, cases_Bool, eqb-true, ne_eqb}
use Rattle.std.proofs.lemmas.Bool.Decides.{eqb_tells}
use Rattle.std.proofs.lemmas.List.{append-nil, nil_from_length}
use Rattle.std.proofs.lemmas.List.Concat.{flat_map-append, flat_map-cons}
use Rattle.std.proofs.lemmas.List.Splits.{join_with_byte-slice_split}
use Rattle.hex.specs.Hex.{IsBytes}
use Rattle.rc_tree.specs.declared.moment.TheConstants.{GREATEST_MOMENT}
use Rattle.rc_tree.specs.Tree.{Tree}
use Rattle.rc_volume.specs.Site.{Told}
use Rattle.rc_sitetext.specs.declared.draft.Place.{Place}
use Rattle.rc_sitetext.specs.declared.draft.Place.TheVariants.{AtSite, AtMoment, AtSource, InSource, InTarget, InJobs, Done}
use Rattle.rc_sitetext.specs.declared.err.FaultKind.{FaultKind}
use Rattle.rc_sitetext.specs.declared.err.SiteTextErr.{SiteTextErr}
use Rattle.rc_sitetext.specs.SiteText.{AreFiles, FitsJob, IsSpellable, JobText, Jobs, Spells, head_text, job_line, record_line, site_text, tree_lines}
use Rattle.rc_sitetext.specs.Reading.{hex_at, is_numeral, number_at, value_behind}
use Rattle.rc_sitetext.specs.Faults.{Draft, added_at, behind_line, ended, filed_at, holds, is_done, line_read, lines_in, lines_read, moment_at, needs, recorded_or_added, start, text_read, text_read_whole, version_at}
use Rattle.rc_sitetext.proofs.Binds.{bind_ok, holds_ok, needs_ok, ok_is}
use Rattle.rc_sitetext.proofs.ByteSpells.{hex_field}
use Rattle.rc_sitetext.proofs.JobLaws.{all_files, files_more, filed_take, job_line_is, no_jobs}
use Rattle.rc_sitetext.proofs.LineAgain.{IsLine}
use Rattle.rc_sitetext.proofs.LineLaws.{behind_takes, moments, same_text}
use Rattle.rc_sitetext.proofs.TreeLaws.{added_take, lines_empty, lines_grown, more_spellable, spellable_empty}

abbrev kinded : {A : Type 0} → A → Result A FaultKind
kinded x = Ok x

-- a last step that gave a value
value_ok : {A : Type 0} (kind : FaultKind) (o : Option A) (y : A) → needs kind o ≡ Ok y → o ≡ Some y
value_ok kind (Some x) y e = ap Some (ok_is x y e)
value_ok kind None y e = absurd cc

test_ok : {A : Type 0} (kind : FaultKind) (b : Bool) (x y : A) → holds kind b x ≡ Ok y → (b ≡ true) × (x ≡ y)
test_ok kind true x y e = (refl, ok_is x y e)
test_ok kind false x y e = absurd cc

-- Single lines

version_take : (line version : List ℕ) → version_at line ≡ Ok version → line ≡ codes "SITE\t1"
unfolding version_at
version_take line version e =
    let k = needs_ok _ (value_behind (codes "SITE") line) _ version e in
    let q = test_ok _ (bytes_eq k.0 (codes "1")) k.0 version k.2 in
    behind_takes (codes "SITE") line k.0 k.1 ∙ ap (λ (t : List ℕ). codes "SITE" ++ 9 ∷ t) (same_text k.0 (codes "1") q.0)

moment_take : (line : List ℕ) (moment : ℕ) → moment_at line ≡ Ok moment → (line ≡ codes "MOMENT\t" ++ decimal moment) × (moment ≤ GREATEST_MOMENT)
unfolding moment_at
moment_take line moment e =
    let k = needs_ok _ (value_behind (codes "MOMENT") line) _ moment e in
    let q = holds_ok _ (is_numeral k.0) k.0 _ moment k.2 in
    let n = moments.takes k.0 moment (value_ok _ (number_at GREATEST_MOMENT k.0) moment q.1) in
    (behind_takes (codes "MOMENT") line k.0 k.1 ∙ ap (λ (t : List ℕ). codes "MOMENT\t" ++ t) n.0, n.1)

-- The text so far

told : Draft → Told
told d = record { source = d.source; target = d.target; notes = d.notes }

-- the lines up to a place
front : Place → Draft → List JobText → List ℕ
front AtSite d files = []
front AtMoment d files = codes "SITE\t1\n"
front AtSource d files = codes "SITE\t1\nMOMENT\t" ++ (decimal d.moment ++ codes "\n")
front InSource d files = head_text d.moment ++ tree_lines d.source
front InTarget d files = head_text d.moment ++ (tree_lines d.source ++ codes "TARGET\n") ++ tree_lines d.target
front InJobs d files = head_text d.moment ++ (tree_lines d.source ++ codes "TARGET\n") ++ (tree_lines d.target ++ record_line d.notes) ++ flat_map job_line files
front Done d files = site_text d.moment (told d) files

-- what no line has spoken of yet
IsAhead : Place → Draft → Type 0
IsAhead AtSite d = (d.source ≡ empty) × (d.target ≡ empty) × (d.jobs ≡ empty)
IsAhead AtMoment d = (d.source ≡ empty) × (d.target ≡ empty) × (d.jobs ≡ empty)
IsAhead AtSource d = (d.source ≡ empty) × (d.target ≡ empty) × (d.jobs ≡ empty)
IsAhead InSource d = (d.target ≡ empty) × (d.jobs ≡ empty)
IsAhead InTarget d = d.jobs ≡ empty
IsAhead InJobs d = Unit {0}
IsAhead Done d = Unit {0}

record Fits (d : Draft) : Type 0 where
  moment : d.moment ≤ GREATEST_MOMENT
  source : IsSpellable d.source
  target : IsSpellable d.target
  notes : IsBytes d.notes

-- a text spells what a draft says at a place
record Begun (text : List ℕ) (place : Place) (d : Draft) : Type 0 where
  fits : Fits d
  files : List JobText
  filed : AreFiles d.jobs files
  files_fit : AllByRecursion FitsJob files
  ahead : IsAhead place d
  spelled : text ≡ front place d files

no_files : (jobs : Jobs) (files : List JobText) → jobs ≡ empty → AreFiles jobs files → files ≡ []
no_files jobs [] none are = refl
no_files jobs (job ∷ files) none are = absurd (let e = are ∙ ap entries none ∙ no_jobs in omega (arith, ap length e))

-- the steps, place by place

abbrev and_line : List ℕ → List ℕ → List ℕ
and_line text line = text ++ (line ++ 10 ∷ [])

step_site : (text line : List ℕ) (d : Draft) → line ≡ codes "SITE\t1" → Begun text AtSite d → Begun (and_line text line) AtMoment d
unfolding front IsAhead
step_site text line d is b =
    record {
      fits = b.fits;
      files = b.files;
      filed = b.filed;
      files_fit = b.files_fit;
      ahead = b.ahead;
      spelled = ap (λ (t : List ℕ). and_line t line) b.spelled ∙ ap (λ (t : List ℕ). t ++ 10 ∷ []) is;
    }

step_moment : (text line : List ℕ) (d : Draft) (moment : ℕ) → line ≡ codes "MOMENT\t" ++ decimal moment → moment ≤ GREATEST_MOMENT → Begun text AtMoment d → Begun (and_line text line) AtSource (record d { moment = moment })
unfolding front IsAhead
step_moment text line d moment is le b =
    record {
      fits = record { moment = le; source = b.fits.source; target = b.fits.target; notes = b.fits.notes };
      files = b.files;
      filed = b.filed;
      files_fit = b.files_fit;
      ahead = b.ahead;
      spelled =
          ap (λ (t : List ℕ). and_line t line) b.spelled ∙ ap (λ (t : List ℕ). codes "SITE\t1\n" ++ (t ++ 10 ∷ [])) is
          ∙ ap (λ (t : List ℕ). codes "SITE\t1\n" ++ t) (append_assoc (codes "MOMENT\t") (decimal moment) (10 ∷ []));
    }

step_source : (text line : List ℕ) (d : Draft) → line ≡ codes "SOURCE" → Begun text AtSource d → Begun (and_line text line) InSource d
unfolding front IsAhead
step_source text line d is b =
    record {
      fits = b.fits;
      files = b.files;
      filed = b.filed;
      files_fit = b.files_fit;
      ahead = (b.ahead.1, b.ahead.2);
      spelled =
          ap (λ (t : List ℕ). and_line t line) b.spelled ∙ ap (λ (t : List ℕ). (codes "SITE\t1\nMOMENT\t" ++ (decimal d.moment ++ codes "\n")) ++ (t ++ 10 ∷ [])) is
          ∙ grouped (codes "SITE\t1\nMOMENT\t") (decimal d.moment) (codes "\n") (codes "SOURCE\n")
          ∙ sym (append-nil (head_text d.moment)) ∙ ap (λ (t : List ℕ). head_text d.moment ++ t) (sym (ap tree_lines b.ahead.0 ∙ lines_empty));
    }
  where
    grouped : (a m e s : List ℕ) → (a ++ (m ++ e)) ++ s ≡ a ++ (m ++ (e ++ s))
    grouped a m e s = simp append_assoc

step_target : (text line : List ℕ) (d : Draft) → line ≡ codes "TARGET" → Begun text InSource d → Begun (and_line text line) InTarget d
unfolding front IsAhead
step_target text line d is b =
    record {
      fits = b.fits;
      files = b.files;
      filed = b.filed;
      files_fit = b.files_fit;
      ahead = b.ahead.1;
      spelled =
          ap (λ (t : List ℕ). and_line t line) b.spelled ∙ ap (λ (t : List ℕ). (head_text d.moment ++ tree_lines d.source) ++ (t ++ 10 ∷ [])) is
          ∙ append_assoc (head_text d.moment) (tree_lines d.source) (codes "TARGET\n")
          ∙ sym (append-nil (head_text d.moment ++ (tree_lines d.source ++ codes "TARGET\n")))
          ∙ ap (λ (t : List ℕ). head_text d.moment ++ (tree_lines d.source ++ codes "TARGET\n") ++ t) (sym (ap tree_lines b.ahead.0 ∙ lines_empty));
    }

grown_line : (front lines fields : List ℕ) → (front ++ lines) ++ (fields ++ 10 ∷ []) ≡ front ++ (lines ++ (fields ++ 10 ∷ []))
grown_line front lines fields = append_assoc front lines (fields ++ 10 ∷ [])

step_in_source : (text line : List ℕ) (d : Draft) (more : Tree) → added_at d.source line ≡ Ok more → Begun text InSource d → Begun (and_line text line) InSource (record d { source = more })
unfolding front IsAhead
step_in_source text line d more e b =
    let a = added_take d.source more line e in
    let is : tree_lines more ≡ tree_lines d.source ++ (line ++ 10 ∷ []) =
    ap tree_lines a.grown ∙ lines_grown d.source a.path a.node b.fits.source a.comes a.fits ∙ ap (λ (t : List ℕ). tree_lines d.source ++ (t ++ 10 ∷ [])) (sym a.text) in
    record {
      fits = record { moment = b.fits.moment; source = subst IsSpellable (sym a.grown) (more_spellable d.source a.path a.node b.fits.source a.comes a.fits); target = b.fits.target; notes = b.fits.notes };
      files = b.files;
      filed = b.filed;
      files_fit = b.files_fit;
      ahead = b.ahead;
      spelled = ap (λ (t : List ℕ). and_line t line) b.spelled ∙ grown_line (head_text d.moment) (tree_lines d.source) line ∙ ap (λ (t : List ℕ). head_text d.moment ++ t) (sym is);
    }

step_in_target : (text line : List ℕ) (d : Draft) (more : Tree) → added_at d.target line ≡ Ok more → Begun text InTarget d → Begun (and_line text line) InTarget (record d { target = more })
unfolding front IsAhead
step_in_target text line d more e b =
    let a = added_take d.target more line e in
    let before : List ℕ = head_text d.moment ++ (tree_lines d.source ++ codes "TARGET\n") in
    let is : tree_lines more ≡ tree_lines d.target ++ (line ++ 10 ∷ []) =
    ap tree_lines a.grown ∙ lines_grown d.target a.path a.node b.fits.target a.comes a.fits ∙ ap (λ (t : List ℕ). tree_lines d.target ++ (t ++ 10 ∷ [])) (sym a.text) in
    record {
      fits = record { moment = b.fits.moment; source = b.fits.source; target = subst IsSpellable (sym a.grown) (more_spellable d.target a.path a.node b.fits.target a.comes a.fits); notes = b.fits.notes };
      files = b.files;
      filed = b.filed;
      files_fit = b.files_fit;
      ahead = b.ahead;
      spelled = ap (λ (t : List ℕ). and_line t line) b.spelled ∙ grown_line before (tree_lines d.target) line ∙ ap (λ (t : List ℕ). before ++ t) (sym is);
    }

step_record : (text line hex notes : List ℕ) (d : Draft) → value_behind (codes "RECORD") line ≡ Some hex → hex_at hex ≡ Some notes → Begun text InTarget d → Begun (and_line text line) InJobs (record d { notes = notes })
unfolding front IsAhead
step_record text line hex notes d behind read b =
    let h = hex_field.takes hex notes read in
    let before : List ℕ = head_text d.moment ++ (tree_lines d.source ++ codes "TARGET\n") in
    let is : line ++ 10 ∷ [] ≡ record_line notes =
    ap (λ (t : List ℕ). t ++ 10 ∷ []) (behind_takes (codes "RECORD") line hex behind ∙ ap (λ (t : List ℕ). codes "RECORD\t" ++ t) h.0) in
    record {
      fits = record { moment = b.fits.moment; source = b.fits.source; target = b.fits.target; notes = h.1 };
      files = b.files;
      filed = b.filed;
      files_fit = b.files_fit;
      ahead = tt;
      spelled =
          ap (λ (t : List ℕ). and_line t line) b.spelled ∙ append_assoc before (tree_lines d.target) (line ++ 10 ∷ [])
          ∙ ap (λ (t : List ℕ). before ++ (tree_lines d.target ++ t)) is
          ∙ sym (append-nil (before ++ (tree_lines d.target ++ record_line notes)))
          ∙ ap (λ (files : List JobText). before ++ (tree_lines d.target ++ record_line notes) ++ flat_map job_line files) (sym (no_files d.jobs b.files b.ahead b.filed));
    }

step_job : (text line : List ℕ) (d : Draft) (more : Jobs) → IsLine line → filed_at d.jobs line ≡ Ok more → Begun text InJobs d → Begun (and_line text line) InJobs (record d { jobs = more })
unfolding front IsAhead
step_job text line d more whole e b =
    let f = filed_take d.jobs more line whole e in
    let before : List ℕ = head_text d.moment ++ (tree_lines d.source ++ codes "TARGET\n") ++ (tree_lines d.target ++ record_line d.notes) in
    let is : flat_map job_line (b.files ++ f.job ∷ []) ≡ flat_map job_line b.files ++ (line ++ 10 ∷ []) =
    flat_map-append job_line b.files (f.job ∷ [])
    ∙ ap (λ (t : List ℕ). flat_map job_line b.files ++ t) (flat_map-cons job_line f.job [] ∙ append-nil (job_line f.job) ∙ job_line_is f.job ∙ ap (λ (t : List ℕ). t ++ 10 ∷ []) (sym f.text)) in
    record {
      fits = record { moment = b.fits.moment; source = b.fits.source; target = b.fits.target; notes = b.fits.notes };
      files = b.files ++ f.job ∷ [];
      filed = subst (λ (jobs : Jobs). AreFiles jobs (b.files ++ f.job ∷ [])) (sym f.grown) (files_more d.jobs b.files f.job b.filed f.above);
      files_fit = all_files FitsJob b.files f.job b.files_fit f.fits;
      ahead = tt;
      spelled = ap (λ (t : List ℕ). and_line t line) b.spelled ∙ append_assoc before (flat_map job_line b.files) (line ++ 10 ∷ []) ∙ ap (λ (t : List ℕ). before ++ t) (sym is);
    }

step_end : (text line : List ℕ) (d : Draft) → line ≡ codes "END" → Begun text InJobs d → Begun (and_line text line) Done d
unfolding front IsAhead told
step_end text line d is b =
    let before : List ℕ = head_text d.moment ++ (tree_lines d.source ++ codes "TARGET\n") ++ (tree_lines d.target ++ record_line d.notes) in
    record {
      fits = b.fits;
      files = b.files;
      filed = b.filed;
      files_fit = b.files_fit;
      ahead = tt;
      spelled = ap (λ (t : List ℕ). and_line t line) b.spelled ∙ append_assoc before (flat_map job_line b.files) (line ++ 10 ∷ []) ∙ ap (λ (t : List ℕ). before ++ (flat_map job_line b.files ++ (t ++ 10 ∷ []))) is;
    }

-- the place of a draft counts for nothing there
placed : (text : List ℕ) (place at : Place) (d : Draft) → Begun text place d → Begun text place (record d { place = at })
unfolding front IsAhead told
placed text AtSite at d b = record { fits = record { moment = b.fits.moment; source = b.fits.source; target = b.fits.target; notes = b.fits.notes }; files = b.files; filed = b.filed; files_fit = b.files_fit; ahead = b.ahead; spelled = b.spelled }
placed text AtMoment at d b = record { fits = record { moment = b.fits.moment; source = b.fits.source; target = b.fits.target; notes = b.fits.notes }; files = b.files; filed = b.filed; files_fit = b.files_fit; ahead = b.ahead; spelled = b.spelled }
placed text AtSource at d b = record { fits = record { moment = b.fits.moment; source = b.fits.source; target = b.fits.target; notes = b.fits.notes }; files = b.files; filed = b.filed; files_fit = b.files_fit; ahead = b.ahead; spelled = b.spelled }
placed text InSource at d b = record { fits = record { moment = b.fits.moment; source = b.fits.source; target = b.fits.target; notes = b.fits.notes }; files = b.files; filed = b.filed; files_fit = b.files_fit; ahead = b.ahead; spelled = b.spelled }
placed text InTarget at d b = record { fits = record { moment = b.fits.moment; source = b.fits.source; target = b.fits.target; notes = b.fits.notes }; files = b.files; filed = b.filed; files_fit = b.files_fit; ahead = b.ahead; spelled = b.spelled }
placed text InJobs at d b = record { fits = record { moment = b.fits.moment; source = b.fits.source; target = b.fits.target; notes = b.fits.notes }; files = b.files; filed = b.filed; files_fit = b.files_fit; ahead = b.ahead; spelled = b.spelled }
placed text Done at d b = record { fits = record { moment = b.fits.moment; source = b.fits.source; target = b.fits.target; notes = b.fits.notes }; files = b.files; filed = b.filed; files_fit = b.files_fit; ahead = b.ahead; spelled = b.spelled }

abbrev Goes : List ℕ → Draft → Type 0
Goes text d = Begun text d.place d

recorded : (hex : Option (List ℕ)) (text line : List ℕ) (d more : Draft) → value_behind (codes "RECORD") line ≡ hex → recorded_or_added hex d line ≡ Ok more → d.place ≡ InTarget → Begun text InTarget d → Goes (and_line text line) more
recorded (Some hex) text line d more is e at b =
    let k = needs_ok _ (hex_at hex) _ more e in
    subst (Goes (and_line text line)) (ok_is (record d { place = InJobs; notes = k.0 }) more k.2) (placed _ InJobs InJobs (record d { notes = k.0 }) (step_record text line hex k.0 d is k.1 b))
recorded None text line d more is e at b =
    let k = bind_ok (added_at d.target line) _ more e in
    subst (Goes (and_line text line)) (ok_is (record d { target = k.0 }) more k.2) (subst (λ (place : Place). Begun (and_line text line) place (record d { target = k.0 })) (sym at) (step_in_target text line d k.0 k.1 b))

-- one more line
step : (place : Place) (text line : List ℕ) (d more : Draft) → IsLine line → d.place ≡ place → text_read place d line ≡ Ok more → Begun text place d → Goes (and_line text line) more
unfolding text_read
step AtSite text line d more whole at e b =
    let k = bind_ok (version_at line) _ more e in
    subst (Goes (and_line text line)) (ok_is (record d { place = AtMoment }) more k.2) (placed _ AtMoment AtMoment d (step_site text line d (version_take line k.0 k.1) b))
step AtMoment text line d more whole at e b =
    let k = bind_ok (moment_at line) _ more e in
    let m = moment_take line k.0 k.1 in
    subst (Goes (and_line text line)) (ok_is (record d { place = AtSource; moment = k.0 }) more k.2) (placed _ AtSource AtSource (record d { moment = k.0 }) (step_moment text line d k.0 m.0 m.1 b))
step AtSource text line d more whole at e b =
    let q = test_ok _ (bytes_eq line (codes "SOURCE")) (record d { place = InSource }) more e in
    subst (Goes (and_line text line)) q.1 (placed _ InSource InSource d (step_source text line d (same_text line (codes "SOURCE") q.0) b))
step InSource text line d more whole at e b =
    elim (cases_Bool (bytes_eq line (codes "TARGET"))) [
      | inl here ↦
          let is : record d { place = InTarget } ≡ more = ok_is (record d { place = InTarget }) more (rw here at e) in
          subst (Goes (and_line text line)) is (placed _ InTarget InTarget d (step_target text line d (same_text line (codes "TARGET") here) b))
      | inr other ↦
          let k = bind_ok (added_at d.source line) _ more (rw other at e) in
          subst (Goes (and_line text line)) (ok_is (record d { source = k.0 }) more k.2) (subst (λ (place : Place). Begun (and_line text line) place (record d { source = k.0 })) (sym at) (step_in_source text line d k.0 k.1 b))
    ]
step InTarget text line d more whole at e b = recorded (value_behind (codes "RECORD") line) text line d more refl e at b
step InJobs text line d more whole at e b =
    elim (cases_Bool (bytes_eq line (codes "END"))) [
      | inl here ↦
          let is : record d { place = Done } ≡ more = ok_is (record d { place = Done }) more (rw here at e) in
          subst (Goes (and_line text line)) is (placed _ Done Done d (step_end text line d (same_text line (codes "END") here) b))
      | inr other ↦
          let k = bind_ok (filed_at d.jobs line) _ more (rw other at e) in
          subst (Goes (and_line text line)) (ok_is (record d { jobs = k.0 }) more k.2) (subst (λ (place : Place). Begun (and_line text line) place (record d { jobs = k.0 })) (sym at) (step_job text line d k.0 whole k.1 b))
    ]
step Done text line d more whole at e b = absurd cc

not_done : {A : Type 0} (b : Bool) (kind : FaultKind) (r : Result A FaultKind) (y : A) → cond b (Err kind) r ≡ Ok y → r ≡ Ok y
not_done true kind r y e = absurd cc
not_done false kind r y e = e

line_step : (text line : List ℕ) (d more : Draft) → IsLine line → line_read d line ≡ Ok more → Goes text d → Goes (and_line text line) more
unfolding line_read
line_step text line d more whole e b =
    let q = holds_ok _ (is_utf8 line) line _ more (not_done (is_done d.place) _ _ more e) in
    step d.place text line d more whole refl q.1 b

-- Whole texts

parts_first : (x : ℕ) (parts : List (List ℕ)) → x ≢ 10 → AllByRecursion IsLine parts → AllByRecursion IsLine (onto_first x parts)
unfolding IsLine
parts_first x [] other lines = ((other, tt), tt)
parts_first x (part ∷ parts) other lines = ((other, lines.0), lines.1)

parts_are_lines : (text : List ℕ) → AllByRecursion IsLine (lines_in text)
unfolding IsLine
parts_are_lines [] = (tt, tt)
parts_are_lines (x ∷ text) =
    elim (eqb_tells x 10) [
      | inl end ↦ rw end.0 (tt, parts_are_lines text)
      | inr other ↦ rw other.0 (parts_first x (lines_in text) other.1 (parts_are_lines text))
    ]

abbrev read_whole : {A : Type 0} → A → Result A SiteTextErr
read_whole x = Ok x

whole_is : {A : Type 0} (x y : A) → read_whole x ≡ read_whole y → x ≡ y
whole_is x y e = cc

end_ok : {A : Type 0} (b : Bool) (x y : A) (e : SiteTextErr) → cond b (Ok x) (Err e) ≡ read_whole y → (b ≡ true) × (x ≡ y)
end_ok true x y e is = (refl, whole_is x y is)
end_ok false x y e is = absurd cc

behind_ok : (n : ℕ) (r : Result Draft FaultKind) (f : Draft → Result Draft SiteTextErr) (y : Draft) → behind_line n r f ≡ Ok y → (x : Draft) × (r ≡ Ok x) × (f x ≡ Ok y)
behind_ok n (Ok x) f y e = (x, refl, e)
behind_ok n (Err kind) f y e = absurd cc

record Whole (text : List ℕ) (e : Draft) : Type 0 where
  spells : Goes text e
  done : is_done e.place ≡ true

ended_whole : (n : ℕ) (text rest : List ℕ) (d e : Draft) → ended n d rest ≡ Ok e → Goes text d → Whole (text ++ rest) e
ended_whole n text rest d e is b =
    let q = end_ok (is_done d.place && eqb (length rest) 0) d e _ is in
    let both = and_parts (is_done d.place) (eqb (length rest) 0) q.0 in
    let none : rest ≡ [] = nil_from_length rest (eqb-true (length rest) 0 both.1) in
    let same : text ≡ text ++ rest = sym (append-nil text) ∙ ap (λ (t : List ℕ). text ++ t) (sym none) in
    subst (Whole (text ++ rest)) q.1 (record { spells = subst (λ (t : List ℕ). Goes t d) same b; done = both.0 })

lines_whole : (n : ℕ) (text : List ℕ) (d e : Draft) (parts : List (List ℕ)) → AllByRecursion IsLine parts → lines_read n d parts ≡ Ok e → Goes text d → Whole (text ++ join_with_byte 10 parts) e
unfolding lines_read
lines_whole n text d e [] lines is b = ended_whole n text [] d e is b
lines_whole n text d e (line ∷ []) lines is b = ended_whole n text line d e is b
lines_whole n text d e (line ∷ next ∷ parts) lines is b =
    let some : eqb (length (next ∷ parts)) 0 ≡ false = ne_eqb (length (next ∷ parts)) 0 (λ z. omega (arith, z)) in
    let k = behind_ok n (line_read d line) (λ more. lines_read (n + 1) more (next ∷ parts)) e (rw some at is) in
    let later = lines_whole (n + 1) (and_line text line) k.0 e (next ∷ parts) lines.1 k.2 (line_step text line d k.0 lines.0 k.1 b) in
    subst (λ (t : List ℕ). Whole t e) (grouped text line (join_with_byte 10 (next ∷ parts))) later
  where
    grouped : (a b c : List ℕ) → (a ++ (b ++ 10 ∷ [])) ++ c ≡ a ++ (b ++ 10 ∷ c)
    grouped a b c = append_assoc a (b ++ 10 ∷ []) c ∙ ap (λ (t : List ℕ). a ++ t) (append_assoc b (10 ∷ []) c)

begun_start : Goes [] start
unfolding front IsAhead
begun_start =
    record {
      fits = record { moment = omega arith; source = spellable_empty; target = spellable_empty; notes = λ i. omega arith };
      files = [];
      filed = sym no_jobs;
      files_fit = tt;
      ahead = (refl, refl, refl);
      spelled = refl;
    }

at_the_end : (place : Place) (text : List ℕ) (d : Draft) → is_done place ≡ true → Begun text place d → Spells text d.moment (record { source = d.source; target = d.target; notes = d.notes }) d.jobs
unfolding front told
at_the_end Done text d done b =
    record {
      moment_fits = b.fits.moment;
      source_fits = b.fits.source;
      target_fits = b.fits.target;
      notes_fit = b.fits.notes;
      files = b.files;
      filed = b.filed;
      files_fit = b.files_fit;
      spelled = b.spelled;
    }
at_the_end _ text d done b = absurd cc

-- a text that was read is spelled so
pub text_taken : (text : List ℕ) (e : Draft) → text_read_whole text ≡ Ok e → Spells text e.moment (record { source = e.source; target = e.target; notes = e.notes }) e.jobs
text_taken text e is =
    let w = lines_whole 1 [] start e (lines_in text) (parts_are_lines text) is begun_start in
    at_the_end e.place text e w.done (subst (λ (t : List ℕ). Goes t e) (join_with_byte-slice_split 10 text) w.spells)
