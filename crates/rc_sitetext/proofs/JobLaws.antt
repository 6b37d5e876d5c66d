-- The lines of job files: one more line is one more file, and the files of a store are read again.
use Rattle.std.proofs.Common.{◌≡◌, ◌≢◌, ℕ, zero, suc, ◌<◌, Bool, true, false, not, ◌&&◌, ◌||◌, cond, eqb, ltb, List, [], ◌∷◌, ◌++◌, length, map, Option, Some, None, Ok, refl, sym, ap, subst, ◌∙◌, append_assoc, arith}
use Rattle.std.specs.Prelude.{codes, T, chars, option_map}
use Rattle.std.specs.List.{AllByRecursion, list_all}
use Rattle.std.specs.Ordering.{is_lt}
use Rattle.std.specs.Str.{IsUtf8, all_scalars, bytes_eq, encode_utf8_all, is_utf8}
use Rattle.std.specs.FinMap.{entries, insert, empty, is_sorted, entries_sorted, len-entries, len-empty}
use Rattle.std.proofs.lemmas.Bool.{and_from, and_parts, lt-ltb, ltb-true, eqb-false, ne_eqb, or_parts, not-true}
use Rattle.std.proofs.lemmas.List.{map-append, nil_from_length}
use Rattle.std.proofs.lemmas.Str.{IsUtf8-append, IsUtf8-from_is_utf8, chars-encodes, chars-nil, encodes-chars, is_utf8-from_IsUtf8, scalars-chars}
use Rattle.hex.specs.Hex.{IsBytes}
use Rattle.rc_tree.specs.Name.{folded}
use Rattle.rc_tree.specs.Path.{name_cmp}
use Rattle.rc_tree.proofs.Keys.{name_cmp-total}
use Rattle.rc_sitetext.specs.SiteText.{AreFiles, FitsJob, IsJobName, JobText, Jobs, hex_text, job_filed, job_line}
use Rattle.rc_sitetext.specs.Reading.{cut, hex_at, is_above, job_at, job_name_at, job_texts, last_field}
use Rattle.rc_sitetext.specs.Faults.{filed_at}
use Rattle.rc_sitetext.proofs.Binds.{holds_ok, needs_ok, ok_is}
use Rattle.rc_sitetext.proofs.ByteSpells.{hex_field}
use Rattle.rc_sitetext.proofs.Cuts.{cut_at}
use Rattle.rc_sitetext.proofs.LineAgain.{IsLine, plain_line}
use Rattle.rc_sitetext.proofs.LineLaws.{IsField_text, last_again, last_takes, no_tab, same_text}
use Rattle.rc_sitetext.proofs.Printable.{ascii_utf8}
use Rattle.rc_sitetext.proofs.Rising.{above_front, entries-insert_last}
use Rattle.rc_sitetext.proofs.Spells.{some_is, bind_some, if_some, cut_takes}

-- the line of a job file without its end
unfoldable pub job_fields : JobText → List ℕ
job_fields job = codes "JOB" ++ 9 ∷ (encode_utf8_all job.0 ++ 9 ∷ hex_text job.1)

pub job_line_is : (job : JobText) → job_line job ≡ job_fields job ++ 10 ∷ []
unfolding job_fields
job_line_is job = sym (ap (λ (t : List ℕ). codes "JOB\t" ++ t) (append_assoc (encode_utf8_all job.0) (9 ∷ hex_text job.1) (10 ∷ [])))

-- Fronts of lines

abbrev HasNo : ℕ → List ℕ → Type 0
HasNo c text = AllByRecursion (λ b. b ≢ c) text

free_here : (b c : ℕ) (here : Bool) (text front rest : List ℕ) (later : Option (List ℕ × List ℕ)) → eqb b c ≡ here
    → ((more : List ℕ) → later ≡ Some (more, rest) → HasNo c more)
    → cond {A = Option (List ℕ × List ℕ)} here (Some ([], text)) (option_map (λ p. (b ∷ p.0, p.1)) later) ≡ Some (front, rest) → HasNo c front
free_here b c true text front rest later is more e =
    let pair : ◌≡◌ {A = List ℕ × List ℕ} ([], text) (front, rest) = some_is ([], text) (front, rest) e in
    subst (HasNo c) (ap (λ (p : List ℕ × List ℕ). p.0) pair) tt
free_here b c false text front rest None is more e = absurd cc
free_here b c false text front rest (Some p) is more e =
    let pair : ◌≡◌ {A = List ℕ × List ℕ} (b ∷ p.0, p.1) (front, rest) = some_is (b ∷ p.0, p.1) (front, rest) e in
    let left : p.1 ≡ rest = ap (λ (q : List ℕ × List ℕ). q.1) pair in
    subst (HasNo c) (ap (λ (q : List ℕ × List ℕ). q.0) pair) (eqb-false b c is, more p.0 (ap (λ (r : List ℕ). Some (p.0, r)) left))

-- the front that is cut off has no such byte
cut_free : (c : ℕ) (text front rest : List ℕ) → cut c text ≡ Some (front, rest) → HasNo c front
unfolding cut
cut_free c [] front rest e = absurd cc
cut_free c (b ∷ text) front rest e = free_here b c (eqb b c) text front rest (cut c text) refl (λ more h. cut_free c text more rest h) e

front_free : (c : ℕ) (a b : List ℕ) → HasNo c (a ++ b) → HasNo c a
front_free c [] b h = tt
front_free c (x ∷ a) b h = (h.0, front_free c a b h.1)

back_free : (c : ℕ) (a b : List ℕ) → HasNo c (a ++ b) → HasNo c b
back_free c [] b h = h
back_free c (x ∷ a) b h = back_free c a b h.1

is_line-free : (text : List ℕ) → IsLine text → HasNo 10 text
unfolding IsLine
is_line-free text h = h

free-is_line : (text : List ℕ) → HasNo 10 text → IsLine text
unfolding IsLine
free-is_line text h = h

neither : (b : ℕ) → b ≢ 9 → b ≢ 10 → not (eqb b 9 || eqb b 10) ≡ true
neither b tab end = rw (ne_eqb b 9 tab, ne_eqb b 10 end) refl

one_field_is : (text : List ℕ) → HasNo 9 text → HasNo 10 text → list_all (λ b. not (eqb b 9 || eqb b 10)) text ≡ true
one_field_is [] tab end = refl
one_field_is (b ∷ text) tab end = and_from (not (eqb b 9 || eqb b 10)) (list_all (λ b. not (eqb b 9 || eqb b 10)) text) (neither b tab.0 end.0) (one_field_is text tab.1 end.1)

no_tab_in : (text : List ℕ) → list_all (λ b. not (eqb b 9 || eqb b 10)) text ≡ true → IsField_text text
no_tab_in [] h i lt = absurd (omega arith)
no_tab_in (b ∷ text) h zero lt =
    let p = and_parts (not (eqb b 9 || eqb b 10)) (list_all (λ b. not (eqb b 9 || eqb b 10)) text) h in
    eqb-false b 9 (or_parts (eqb b 9) (eqb b 10) (not-true (eqb b 9 || eqb b 10) p.0)).0
no_tab_in (b ∷ text) h (suc i) lt =
    let p = and_parts (not (eqb b 9 || eqb b 10)) (list_all (λ b. not (eqb b 9 || eqb b 10)) text) h in
    no_tab_in text p.1 i (omega arith)

no_end_in : (text : List ℕ) → list_all (λ b. not (eqb b 9 || eqb b 10)) text ≡ true → HasNo 10 text
no_end_in [] h = tt
no_end_in (b ∷ text) h =
    let p = and_parts (not (eqb b 9 || eqb b 10)) (list_all (λ b. not (eqb b 9 || eqb b 10)) text) h in
    (eqb-false b 10 (or_parts (eqb b 9) (eqb b 10) (not-true (eqb b 9 || eqb b 10) p.0)).1, no_end_in text p.1)

-- What is read

some_chars : (name text : List ℕ) → text ≡ encode_utf8_all name → 0 < length text → 0 < length name
some_chars [] text is some = absurd (omega (arith, some, ap length is))
some_chars (c ∷ cs) text is some = omega arith

-- the name of a job file, but for tabs and line ends
record NameSpells (text name : List ℕ) : Type 0 where
  spelled : text ≡ encode_utf8_all name
  some : 0 < length name
  characters : all_scalars name ≡ true

name_takes : (text name : List ℕ) → job_name_at text ≡ Some name → NameSpells text name
unfolding job_name_at
name_takes text name e =
    let p = if_some (is_utf8 text && ltb 0 (length text)) (Some (chars text)) name e in
    let both = and_parts (is_utf8 text) (ltb 0 (length text)) p.0 in
    let utf8 = IsUtf8-from_is_utf8 text both.0 in
    let is : chars text ≡ name = some_is (chars text) name p.1 in
    let spelled : text ≡ encode_utf8_all name = sym (encodes-chars text utf8) ∙ ap encode_utf8_all is in
    record {
      spelled = spelled;
      some = some_chars name text spelled (ltb-true 0 (length text) both.1);
      characters = ap all_scalars (sym is) ∙ scalars-chars text utf8;
    }

record TextsSpell (line name bytes : List ℕ) : Type 0 where
  text : line ≡ codes "JOB" ++ 9 ∷ (name ++ 9 ∷ bytes)
  no_tab : HasNo 9 name

job_texts_take : (line name bytes : List ℕ) → job_texts line ≡ Some (name, bytes) → TextsSpell line name bytes
unfolding job_texts
job_texts_take line name bytes e =
    let k0 = bind_some (cut 9 line) _ (name, bytes) e in
    let k1 = bind_some (cond (bytes_eq k0.0.0 (codes "JOB")) (cut 9 k0.0.1) None) _ (name, bytes) k0.2 in
    let q = if_some (bytes_eq k0.0.0 (codes "JOB")) (cut 9 k0.0.1) k1.0 k1.1 in
    let k2 = bind_some (last_field k1.0.1) _ (name, bytes) k1.2 in
    let pair : ◌≡◌ {A = List ℕ × List ℕ} (k1.0.0, k2.0) (name, bytes) = some_is (k1.0.0, k2.0) (name, bytes) k2.2 in
    let n : k1.0.0 ≡ name = ap (λ (p : List ℕ × List ℕ). p.0) pair in
    let b : k2.0 ≡ bytes = ap (λ (p : List ℕ × List ℕ). p.1) pair in
    record {
      text =
          cut_takes 9 line k0.0.0 k0.0.1 k0.1 ∙ ap (λ (t : List ℕ). t ++ 9 ∷ k0.0.1) (same_text k0.0.0 (codes "JOB") q.0)
          ∙ ap (λ (t : List ℕ). codes "JOB" ++ 9 ∷ t) (cut_takes 9 k0.0.1 k1.0.0 k1.0.1 q.1 ∙ ap (λ (t : List ℕ). t ++ 9 ∷ k1.0.1) n ∙ ap (λ (t : List ℕ). name ++ 9 ∷ t) (last_takes k1.0.1 k2.0 k2.1 ∙ b));
      no_tab = subst (HasNo 9) n (cut_free 9 k0.0.1 k1.0.0 k1.0.1 q.1);
    }

record JobSpells (name bytes : List ℕ) (job : JobText) : Type 0 where
  name_is : NameSpells name job.0
  bytes_are : (bytes ≡ hex_text job.1) × IsBytes job.1

job_takes : (name bytes : List ℕ) (job : JobText) → job_at (name, bytes) ≡ Some job → JobSpells name bytes job
unfolding job_at
job_takes name bytes job e =
    let k0 = bind_some (job_name_at name) _ job e in
    let k1 = bind_some (hex_at bytes) _ job k0.2 in
    let made : JobText = (k0.0, k1.0) in
    subst (JobSpells name bytes) (some_is made job k1.2) (record { name_is = name_takes name k0.0 k0.1; bytes_are = hex_field.takes bytes k1.0 k1.1 })

-- a line that was read: its job file, and the files with it
pub record Filed (jobs : Jobs) (line : List ℕ) (more : Jobs) : Type 0 where
  pub job : JobText
  pub text : line ≡ job_fields job
  pub fits : FitsJob job
  pub above : list_all (λ e. is_lt (name_cmp e.0 (folded job.0))) (entries jobs) ≡ true
  pub grown : more ≡ insert jobs (folded job.0) job.1

pub filed_take : (jobs more : Jobs) (line : List ℕ) → IsLine line → filed_at jobs line ≡ Ok more → Filed jobs line more
unfolding filed_at is_above job_fields
filed_take jobs more line whole e =
    let k0 = needs_ok _ (job_texts line) _ more e in
    let k1 = needs_ok _ (job_at k0.0) _ more k0.2 in
    let k2 = holds_ok _ (is_above jobs (folded k1.0.0)) (folded k1.0.0) _ more k1.2 in
    let texts = job_texts_take line k0.0.0 k0.0.1 k0.1 in
    let job = job_takes k0.0.0 k0.0.1 k1.0 k1.1 in
    let no_end : HasNo 10 k0.0.0 = front_free 10 k0.0.0 (9 ∷ k0.0.1) (back_free 10 (codes "JOB\t") (k0.0.0 ++ 9 ∷ k0.0.1) (subst (HasNo 10) texts.text (is_line-free line whole))) in
    record {
      job = k1.0;
      text =
          texts.text ∙ ap (λ (t : List ℕ). codes "JOB" ++ 9 ∷ (t ++ 9 ∷ k0.0.1)) job.name_is.spelled
          ∙ ap (λ (t : List ℕ). codes "JOB" ++ 9 ∷ (encode_utf8_all k1.0.0 ++ 9 ∷ t)) job.bytes_are.0;
      fits = record {
        name = record {
          some = job.name_is.some;
          characters = job.name_is.characters;
          one_field = subst (λ (t : List ℕ). list_all (λ b. not (eqb b 9 || eqb b 10)) t ≡ true) job.name_is.spelled (one_field_is k0.0.0 texts.no_tab no_end);
        };
        bytes = job.bytes_are.1;
      };
      above = k2.0;
      grown = sym (ok_is (insert jobs (folded k1.0.0) k1.0.1) more k2.1);
    }

-- What is spelled

encoded_some : (name : List ℕ) → all_scalars name ≡ true → 0 < length name → 0 < length (encode_utf8_all name)
encoded_some name scalars some = longer (encode_utf8_all name) refl
  where
    longer : (text : List ℕ) → text ≡ encode_utf8_all name → 0 < length (encode_utf8_all name)
    longer [] is = absurd (let none : name ≡ [] = sym (chars-encodes name scalars) ∙ ap chars (sym is) ∙ chars-nil in omega (arith, some, ap length none))
    longer (c ∷ text) is = omega (arith, ap length is)

name_again : (name : List ℕ) → IsJobName name → job_name_at (encode_utf8_all name) ≡ Some name
unfolding job_name_at
name_again name fits =
    rw (is_utf8-from_IsUtf8 (encode_utf8_all name) (name, (fits.characters, refl)), lt-ltb 0 (length (encode_utf8_all name)) (encoded_some name fits.characters fits.some)) (ap (λ (n : List ℕ). Some n) (chars-encodes name fits.characters))

job_texts_again : (job : JobText) → FitsJob job → job_texts (job_fields job) ≡ Some (encode_utf8_all job.0, hex_text job.1)
unfolding job_texts job_fields
job_texts_again job fits =
    rw (cut_at 9 (codes "JOB") (encode_utf8_all job.0 ++ 9 ∷ hex_text job.1) (no_tab_in (codes "JOB") refl))
    (rw (cut_at 9 (encode_utf8_all job.0) (hex_text job.1) (no_tab_in (encode_utf8_all job.0) fits.name.one_field))
    (rw (last_again (hex_text job.1) (no_tab (hex_text job.1) (hex_field.plain job.1 fits.bytes))) refl))

job_again : (job : JobText) → FitsJob job → job_at (encode_utf8_all job.0, hex_text job.1) ≡ Some job
unfolding job_at
job_again job fits = rw (name_again job.0 fits.name, hex_field.again job.1 fits.bytes) refl

pub filed_again : (jobs : Jobs) (job : JobText) → FitsJob job → list_all (λ e. is_lt (name_cmp e.0 (folded job.0))) (entries jobs) ≡ true → filed_at jobs (job_fields job) ≡ Ok (insert jobs (folded job.0) job.1)
unfolding filed_at is_above
filed_again jobs job fits above = rw (job_texts_again job fits) (rw (job_again job fits) (rw above refl))

pub job_is_line : (job : JobText) → FitsJob job → IsLine (job_fields job)
unfolding job_fields
job_is_line job fits =
    free-is_line _ (
      (λ e. omega (arith, e)),
      (
        (λ e. omega (arith, e)),
        (
          (λ e. omega (arith, e)),
          (
            (λ e. omega (arith, e)),
            both (encode_utf8_all job.0) (9 ∷ hex_text job.1) (no_end_in (encode_utf8_all job.0) fits.name.one_field) ((λ e. omega (arith, e)), is_line-free (hex_text job.1) (plain_line (hex_text job.1) (hex_field.plain job.1 fits.bytes))),
          ),
        ),
      ),
    )
  where
    both : (a b : List ℕ) → HasNo 10 a → HasNo 10 b → HasNo 10 (a ++ b)
    both [] b p q = q
    both (c ∷ a) b p q = (p.0, both a b p.1 q)

pub job_utf8 : (job : JobText) → FitsJob job → IsUtf8 (job_fields job)
unfolding job_fields
job_utf8 job fits =
    IsUtf8-append (codes "JOB\t") (encode_utf8_all job.0 ++ 9 ∷ hex_text job.1) (ascii_utf8 (codes "JOB\t") refl)
    (IsUtf8-append (encode_utf8_all job.0) (9 ∷ hex_text job.1) (job.0, (fits.name.characters, refl))
    (IsUtf8-append (9 ∷ []) (hex_text job.1) (ascii_utf8 (9 ∷ []) refl) (hex_field.utf8 job.1 fits.bytes)))

-- The files of a store

pub no_jobs : entries {R = name_cmp} (empty {X = List ℕ}) ≡ []
no_jobs = nil_from_length (entries {R = name_cmp} (empty {X = List ℕ})) (sym (len-entries (empty {X = List ℕ} {R = name_cmp})) ∙ len-empty name_cmp (List ℕ))

pub files_more : (jobs : Jobs) (files : List JobText) (job : JobText) → AreFiles jobs files → list_all (λ e. is_lt (name_cmp e.0 (folded job.0))) (entries jobs) ≡ true → AreFiles (insert jobs (folded job.0) job.1) (files ++ job ∷ [])
files_more jobs files job are above =
    map-append job_filed files (job ∷ []) ∙ ap (λ (es : List (List ℕ × List ℕ)). es ++ job_filed job ∷ []) are
    ∙ sym (entries-insert_last name_cmp name_cmp-total jobs (folded job.0) job.1 above)

-- the next file of a store comes behind those before it
pub above_next : (jobs now : Jobs) (job : JobText) (files : List JobText) → entries now ≡ entries jobs ++ map job_filed (job ∷ files) → list_all (λ e. is_lt (name_cmp e.0 (folded job.0))) (entries jobs) ≡ true
above_next jobs now job files is = above_front name_cmp (entries jobs) (job_filed job) (map job_filed files) (subst (λ (l : List (List ℕ × List ℕ)). T (is_sorted name_cmp l)) is (entries_sorted now))

pub files_next : (jobs now : Jobs) (job : JobText) (files : List JobText) → entries now ≡ entries jobs ++ map job_filed (job ∷ files) → list_all (λ e. is_lt (name_cmp e.0 (folded job.0))) (entries jobs) ≡ true → entries now ≡ entries (insert jobs (folded job.0) job.1) ++ map job_filed files
files_next jobs now job files is above =
    is ∙ sym (append_assoc (entries jobs) (job_filed job ∷ []) (map job_filed files))
    ∙ ap (λ (es : List (List ℕ × List ℕ)). es ++ map job_filed files) (sym (entries-insert_last name_cmp name_cmp-total jobs (folded job.0) job.1 above))

pub all_files : (P : JobText → Type 0) (files : List JobText) (job : JobText) → AllByRecursion P files → P job → AllByRecursion P (files ++ job ∷ [])
all_files P [] job h one = (one, tt)
all_files P (f ∷ files) job h one = (h.0, all_files P files job h.1 one)
