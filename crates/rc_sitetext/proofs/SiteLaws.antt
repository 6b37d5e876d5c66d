-- What a reader of whole texts answers.
use Rattle.std.proofs.Common.{◌≡◌, ℕ, List, None, Ok, Err, refl, sym, ap, subst, ◌∙◌}
use Rattle.std.specs.Prelude.{IfErr, IfOk, MatchResult, Result}
use Rattle.rc_volume.specs.Site.{Told}
use Rattle.rc_mem.specs.MemSite.{told_by}
use Rattle.rc_sitetext.specs.declared.draft.Place.TheVariants.{Done}
use Rattle.rc_sitetext.specs.declared.err.SiteTextErr.{SiteTextErr}
use Rattle.rc_sitetext.specs.declared.err.SiteTextErr.TheVariants.{At, NoMemory}
use Rattle.rc_sitetext.specs.declared.site_file.SiteFile.{SiteFile}
use Rattle.rc_sitetext.specs.SiteText.{Jobs, Spells}
use Rattle.rc_sitetext.specs.Faults.{Draft, Follows, Refuses, text_fault, text_read_whole}
use Rattle.rc_sitetext.proofs.Completeness.{text_again}
use Rattle.rc_sitetext.proofs.Soundness.{text_taken}

-- a file has what a draft says
pub record IsFile (d : Draft) (file : SiteFile) : Type 0 where
  pub moment : file.moment ≡ d.moment
  pub told : told_by file.site ≡ record { source = d.source; target = d.target; notes = d.notes }
  pub jobs : file.jobs ≡ d.jobs

pub is_found : (text : List ℕ) (d : Draft) (file : SiteFile) → text_read_whole text ≡ Ok d → IsFile d file → Spells text file.moment (told_by file.site) file.jobs
is_found text d file read is =
    let told : Told = record { source = d.source; target = d.target; notes = d.notes } in
    subst (λ (m : ℕ). Spells text m (told_by file.site) file.jobs) (sym is.moment)
    (subst (λ (t : Told). Spells text d.moment t file.jobs) (sym is.told)
    (subst (λ (j : Jobs). Spells text d.moment told j) (sym is.jobs) (text_taken text d read)))

abbrev read_whole : Draft → Result Draft SiteTextErr
read_whole d = Ok d

one_draft : (d e : Draft) → read_whole d ≡ read_whole e → d ≡ e
one_draft d e is = cc

pub is_only : (text : List ℕ) (d : Draft) (file : SiteFile) → text_read_whole text ≡ Ok d → IsFile d file → (moment : ℕ) (told : Told) (jobs : Jobs) → Spells text moment told jobs
    → (file.moment ≡ moment) × (told_by file.site ≡ told) × (file.jobs ≡ jobs)
is_only text d file read is moment told jobs spells =
    let final : Draft = record { place = Done; moment = moment; source = told.source; target = told.target; notes = told.notes; jobs = jobs } in
    let same : d ≡ final = one_draft d final (sym read ∙ text_again text moment told jobs spells) in (
      is.moment ∙ ap (λ (x : Draft). x.moment) same,
      is.told ∙ ap (λ (x : Draft). record { source = x.source; target = x.target; notes = x.notes }) same,
      is.jobs ∙ ap (λ (x : Draft). x.jobs) same,
    )

pub no_fault : (text : List ℕ) (d : Draft) → text_read_whole text ≡ Ok d → text_fault text ≡ None
unfolding text_fault
no_fault text d read = rw read refl

pub only_error : {X : Type 0} (view : X → Draft) (text : List ℕ) (e : SiteTextErr) → Follows view (Err e) (text_read_whole text) → (moment : ℕ) (told : Told) (jobs : Jobs) → Spells text moment told jobs → e ≡ NoMemory
only_error view text NoMemory follows moment told jobs spells = refl
only_error view text (At line kind) follows moment told jobs spells = absurd (let no : Err (At line kind) ≡ read_whole _ = sym follows ∙ text_again text moment told jobs spells in cc)

pub error_refuses : {X : Type 0} (Y : Type 0) (view : X → Draft) (text : List ℕ) (e : SiteTextErr) → Follows view (Err e) (text_read_whole text) → Refuses {X = Y} (Err e) (text_fault text)
unfolding text_fault
error_refuses Y view text NoMemory follows = tt
error_refuses Y view text (At line kind) follows = rw follows refl

-- the file of a draft, unless memory ran out
pub record GivesFile (d : Draft) (r : Result SiteFile SiteTextErr) : Type 0 where
  pub moment : IfOk r (λ file. file.moment ≡ d.moment)
  pub told : IfOk r (λ file. told_by file.site ≡ record { source = d.source; target = d.target; notes = d.notes })
  pub jobs : IfOk r (λ file. file.jobs ≡ d.jobs)
  pub memory : IfErr r (λ e. e ≡ NoMemory)

pub file_found : (text : List ℕ) (d : Draft) (r : Result SiteFile SiteTextErr) → text_read_whole text ≡ Ok d → GivesFile d r → IfOk r (λ file. Spells text file.moment (told_by file.site) file.jobs)
file_found text d (Ok file) read gives = is_found text d file read (record { moment = gives.moment; told = gives.told; jobs = gives.jobs })
file_found text d (Err e) read gives = tt

pub file_only : (text : List ℕ) (d : Draft) (r : Result SiteFile SiteTextErr) → text_read_whole text ≡ Ok d → GivesFile d r → (moment : ℕ) (told : Told) (jobs : Jobs) → Spells text moment told jobs
    → MatchResult r (λ file. (file.moment ≡ moment) × (told_by file.site ≡ told) × (file.jobs ≡ jobs)) (λ e. e ≡ NoMemory)
file_only text d (Ok file) read gives moment told jobs spells = is_only text d file read (record { moment = gives.moment; told = gives.told; jobs = gives.jobs }) moment told jobs spells
file_only text d (Err e) read gives moment told jobs spells = gives.memory

pub file_refused : (text : List ℕ) (d : Draft) (r : Result SiteFile SiteTextErr) → text_read_whole text ≡ Ok d → GivesFile d r → Refuses r (text_fault text)
file_refused text d (Ok file) read gives = no_fault text d read
file_refused text d (Err e) read gives = subst (λ (x : SiteTextErr). Refuses {X = SiteFile} (Err x) (text_fault text)) (sym gives.memory) tt
