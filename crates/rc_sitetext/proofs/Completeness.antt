-- What is spelled is read: each line of a site text is read in its place.
use Rattle.std.proofs.Common.{◌≡◌, ◌≢◌, ℕ, zero, suc, ◌+◌, ◌<◌, ◌≤◌, true, false, not, eqb, List, [], ◌∷◌, ◌++◌, length, map, get_or, Some, None, Ok, refl, sym, ap, subst, ◌∙◌, append_assoc, arith}
use Rattle.std.specs.Prelude.{codes}
use Rattle.std.specs.Fmt.{decimal}
use Rattle.std.specs.List.{AllByRecursion, flat_map, list_all}
use Rattle.std.specs.Str.{IsUtf8, bytes_eq}
use Rattle.std.specs.FinMap.{empty, entries, insert, same_entries_map}
use Rattle.std.proofs.lemmas.Bool.{and_parts, eqb-false, ne_eqb, not-true}
use Rattle.std.proofs.lemmas.List.{append-nil}
use Rattle.std.proofs.lemmas.List.Concat.{flat_map-cons}
use Rattle.std.proofs.lemmas.List.Elements.{All-from_get_or}
use Rattle.std.proofs.lemmas.List.Splits.{slice_split_at}
use Rattle.std.proofs.lemmas.Str.{IsUtf8-append}
use Rattle.hex.specs.Hex.{IsBytes}
use Rattle.rc_tree.specs.declared.attr.Kind.{Kind}
use Rattle.rc_tree.specs.declared.attr.Kind.TheVariants.{Dir, File}
use Rattle.rc_tree.specs.declared.moment.TheConstants.{GREATEST_MOMENT}
use Rattle.rc_tree.specs.Name.{folded}
use Rattle.rc_tree.specs.Path.{key_of, name_cmp}
use Rattle.rc_tree.specs.Spelled.{spelled}
use Rattle.rc_tree.specs.Tree.{IsTree, Node, Tree}
use Rattle.rc_volume.specs.Site.{Told}
use Rattle.rc_sitetext.specs.declared.draft.Place.TheVariants.{AtSite, AtMoment, AtSource, InSource, InTarget, InJobs, Done}
use Rattle.rc_sitetext.specs.SiteText.{FitsJob, IsSpellable, JobText, Jobs, Spells, entry_fields, entry_line, head_text, hex_text, job_filed, job_line, kind_text, path_text, record_line, site_text, tree_lines}
use Rattle.rc_sitetext.specs.Reading.{cut, value_behind}
use Rattle.rc_sitetext.specs.Faults.{Draft, added_at, filed_at, is_done, line_read, lines_in, lines_read, moment_at, start, text_read, text_read_whole, version_at}
use Rattle.rc_sitetext.specs.Writing.{last_text}
use Rattle.rc_sitetext.proofs.ByteSpells.{hex_field}
use Rattle.rc_sitetext.proofs.Cuts.{cut_at, some_lines}
use Rattle.rc_sitetext.proofs.JobLaws.{above_next, filed_again, files_next, job_fields, job_is_line, job_line_is, job_utf8, no_jobs}
use Rattle.rc_sitetext.proofs.LineAgain.{IsLine, entry_is_line, entry_utf8, line_at_place, plain_line}
use Rattle.rc_sitetext.proofs.LineLaws.{behind_again, kind_field, moments, no_tab, number_fits}
use Rattle.rc_sitetext.proofs.LineTexts.{line_is, props_text}
use Rattle.rc_sitetext.proofs.Printable.{ascii_utf8}
use Rattle.rc_sitetext.proofs.Steps.{line_is_text}
use Rattle.rc_sitetext.proofs.TreeLaws.{EachStands, added_again, comes_next, each_stands, entries_empty, grown_next, line_in}

-- Lines, one after the other

-- from a draft on, this text leads to another draft, whatever comes behind it
Reads : Draft → List ℕ → Draft → Type 0
Reads d text e = (n : ℕ) (rest : List ℕ) → (m : ℕ) × (lines_read n d (lines_in (text ++ rest)) ≡ lines_read m e (lines_in rest))

reads_none : (d : Draft) → Reads d [] d
unfolding Reads
reads_none d n rest = (n, refl)

reads_then : (d e f : Draft) (a b : List ℕ) → Reads d a e → Reads e b f → Reads d (a ++ b) f
unfolding Reads
reads_then d e f a b first second n rest =
    let k = first n (b ++ rest) in
    let l = second k.0 rest in
    (l.0, ap (λ (t : List ℕ). lines_read n d (lines_in t)) (append_assoc a b rest) ∙ k.1 ∙ l.1)

-- the first line of a text
lines_first : (line rest : List ℕ) → IsLine line → lines_in (line ++ 10 ∷ rest) ≡ line ∷ lines_in rest
lines_first line rest is =
    slice_split_at (λ b. eqb b 10) line 10 rest
    (All-from_get_or (λ b. eqb b 10 ≡ false) line 0 (λ i lt. ne_eqb (get_or line i 0) 10 (line_at_place line i is lt))) refl

next_line : (n : ℕ) (d more : Draft) (line : List ℕ) (lines : List (List ℕ)) → eqb (length lines) 0 ≡ false → line_read d line ≡ Ok more → lines_read n d (line ∷ lines) ≡ lines_read (n + 1) more lines
unfolding lines_read
next_line n d more line lines some read = rw some (rw read refl)

reads_line : (d more : Draft) (line : List ℕ) → IsLine line → line_read d line ≡ Ok more → Reads d (line ++ 10 ∷ []) more
unfolding Reads
reads_line d more line is read n rest = (
  n + 1,
  ap (λ (t : List ℕ). lines_read n d (lines_in t)) (append_assoc line (10 ∷ []) rest) ∙ ap (lines_read n d) (lines_first line rest is)
      ∙ next_line n d more line (lines_in rest) (some_lines rest) read,
)

-- a line of text that is read in its place
reads_text : (d more : Draft) (line : List ℕ) → IsLine line → IsUtf8 line → is_done d.place ≡ false → text_read d.place d line ≡ Ok more → Reads d (line ++ 10 ∷ []) more
reads_text d more line is utf8 going read = reads_line d more line is (line_is_text d line going utf8 ∙ read)

-- literal lines

literal : (text : List ℕ) → list_all (λ b. not (eqb b 10)) text ≡ true → IsLine text
unfolding IsLine
literal [] h = tt
literal (c ∷ text) h =
    let p = and_parts (not (eqb c 10)) (list_all (λ b. not (eqb b 10)) text) h in
    (eqb-false c 10 (not-true (eqb c 10) p.0), literal text p.1)

tabless : (text : List ℕ) → list_all (λ b. not (eqb b 9)) text ≡ true → (i : ℕ) → i < length text → get_or text i 0 ≢ 9
tabless [] h i lt = absurd (omega arith)
tabless (c ∷ text) h zero lt = let p = and_parts (not (eqb c 9)) (list_all (λ b. not (eqb b 9)) text) h in eqb-false c 9 (not-true (eqb c 9) p.0)
tabless (c ∷ text) h (suc i) lt = let p = and_parts (not (eqb c 9)) (list_all (λ b. not (eqb b 9)) text) h in tabless text p.1 i (omega arith)

line_then : (a b : List ℕ) → IsLine a → IsLine b → IsLine (a ++ b)
unfolding IsLine
line_then [] b p q = q
line_then (c ∷ a) b p q = (p.0, line_then a b p.1 q)

-- The lines in front

version_again : version_at (codes "SITE\t1") ≡ Ok (codes "1")
unfolding version_at
version_again = rw (behind_again (codes "SITE") (codes "1") (tabless (codes "SITE") refl) (tabless (codes "1") refl)) refl

moment_again : (m : ℕ) → m ≤ GREATEST_MOMENT → moment_at (codes "MOMENT\t" ++ decimal m) ≡ Ok m
unfolding moment_at
moment_again m le =
    rw (behind_again (codes "MOMENT") (decimal m) (tabless (codes "MOMENT") refl) (no_tab (decimal m) (moments.plain m le)))
    (rw (number_fits GREATEST_MOMENT (decimal m) m (moments.again m le)) (rw (moments.again m le) refl))

module _ (m : ℕ) (le : m ≤ GREATEST_MOMENT) where
  at_moment : Draft
  at_moment = record start { place = AtMoment }

  at_source : Draft
  at_source = record start { place = AtSource; moment = m }

  pub in_source : Draft
  in_source = record start { place = InSource; moment = m }

  site_step : text_read AtSite start (codes "SITE\t1") ≡ Ok at_moment
  unfolding text_read at_moment
  site_step = rw version_again refl

  moment_step : text_read AtMoment at_moment (codes "MOMENT\t" ++ decimal m) ≡ Ok at_source
  unfolding text_read at_moment at_source
  moment_step = rw (moment_again m le) refl

  source_step : text_read AtSource at_source (codes "SOURCE") ≡ Ok in_source
  unfolding text_read at_source in_source
  source_step = refl

  moment_utf8 : IsUtf8 (codes "MOMENT\t" ++ decimal m)
  moment_utf8 = IsUtf8-append (codes "MOMENT\t") (decimal m) (ascii_utf8 (codes "MOMENT\t") refl) (moments.utf8 m le)

  moment_line : IsLine (codes "MOMENT\t" ++ decimal m)
  moment_line = line_then (codes "MOMENT\t") (decimal m) (literal (codes "MOMENT\t") refl) (plain_line (decimal m) (moments.plain m le))

  reads_head : Reads start (head_text m) in_source
  unfolding at_moment at_source
  reads_head =
      subst (λ (t : List ℕ). Reads start t in_source) (grouped (codes "SITE\t1\n") (codes "MOMENT\t") (decimal m))
      (reads_then start at_source in_source ((codes "SITE\t1" ++ 10 ∷ []) ++ ((codes "MOMENT\t" ++ decimal m) ++ 10 ∷ [])) (codes "SOURCE" ++ 10 ∷ [])
      (reads_then start at_moment at_source (codes "SITE\t1" ++ 10 ∷ []) ((codes "MOMENT\t" ++ decimal m) ++ 10 ∷ [])
      (reads_text start at_moment (codes "SITE\t1") (literal (codes "SITE\t1") refl) (ascii_utf8 (codes "SITE\t1") refl) refl site_step)
      (reads_text at_moment at_source (codes "MOMENT\t" ++ decimal m) moment_line moment_utf8 refl moment_step))
      (reads_text at_source in_source (codes "SOURCE") (literal (codes "SOURCE") refl) (ascii_utf8 (codes "SOURCE") refl) refl source_step))
    where
      grouped : (s t d : List ℕ) → (s ++ ((t ++ d) ++ 10 ∷ [])) ++ codes "SOURCE\n" ≡ (s ++ t) ++ (d ++ codes "\nSOURCE\n")
      grouped s t d = simp append_assoc

-- The entries of a side

entry_tag : (path : List (List ℕ)) (node : Node) → cut 9 (entry_fields path node) ≡ Some (kind_text node.kind, path_text path ++ 9 ∷ props_text node.props (last_text node.kind node.bytes))
entry_tag path node = ap (cut 9) (line_is path node) ∙ cut_at 9 (kind_text node.kind) (path_text path ++ 9 ∷ props_text node.props (last_text node.kind node.bytes)) (no_tab (kind_text node.kind) (kind_field.plain node.kind tt))

not_record : (kind : Kind) → bytes_eq (kind_text kind) (codes "RECORD") ≡ false
not_record File = refl
not_record Dir = refl

no_record : (path : List (List ℕ)) (node : Node) → value_behind (codes "RECORD") (entry_fields path node) ≡ None
unfolding value_behind
no_record path node = rw (entry_tag path node) (rw (not_record node.kind) refl)

kind_first : (kind : Kind) (rest : List ℕ) → bytes_eq (kind_text kind ++ rest) (codes "TARGET") ≡ false
kind_first File rest = refl
kind_first Dir rest = refl

not_target : (path : List (List ℕ)) (node : Node) → bytes_eq (entry_fields path node) (codes "TARGET") ≡ false
not_target path node = ap (λ (t : List ℕ). bytes_eq t (codes "TARGET")) (line_is path node) ∙ kind_first node.kind _

-- drafts that differ in the tree of a side alone, at the place of that side
record IsSide (put : Tree → Draft) : Type 0 where
  going : (tree : Tree) → is_done (put tree).place ≡ false
  adds : (tree more : Tree) (path : List (List ℕ)) (node : Node) → added_at tree (entry_fields path node) ≡ Ok more → text_read (put tree).place (put tree) (entry_fields path node) ≡ Ok (put more)

reads_entries : (put : Tree → Draft) → IsSide put → (es : List (List (List ℕ) × Node)) (tree now : Tree) → IsTree now → entries now ≡ entries tree ++ es → EachStands now es → Reads (put tree) (flat_map (line_in now) es) (put now)
reads_entries put side [] tree now shape is each =
    subst (λ (t : Tree). Reads (put tree) [] (put t)) (same_entries_map tree now (sym (append-nil (entries tree)) ∙ sym is)) (reads_none (put tree))
reads_entries put side (e ∷ es) tree now shape is each =
    let path : List (List ℕ) = spelled now e.0 in
    let more : Tree = insert tree (key_of path) e.1 in
    let comes = comes_next tree now e es shape is each.0 in
    let one = reads_text (put tree) (put more) (entry_fields path e.1) (entry_is_line path e.1 each.0.line) (entry_utf8 path e.1 each.0.line) (side.going tree) (side.adds tree more path e.1 (added_again tree path e.1 each.0.line comes)) in
    subst (λ (t : List ℕ). Reads (put tree) t (put now)) (sym (flat_map-cons (line_in now) e es))
    (reads_then (put tree) (put more) (put now) (entry_line path e.1) (flat_map (line_in now) es) one
    (reads_entries put side es more now shape (grown_next tree now e es is each.0 comes) each.1))

reads_tree : (put : Tree → Draft) → IsSide put → (tree : Tree) → IsSpellable tree → Reads (put empty) (tree_lines tree) (put tree)
reads_tree put side tree shape =
    reads_entries put side (entries tree) empty tree shape.0 (ap (λ (es : List (List (List ℕ) × Node)). es ++ entries tree) (sym entries_empty)) (each_stands tree [] (entries tree) refl shape)

source_side : (d : Draft) → d.place ≡ InSource → IsSide (λ tree. record d { source = tree })
unfolding text_read
source_side d at =
    record {
      going = λ tree. ap is_done at;
      adds = λ tree more path node added. rw at (rw (not_target path node) (rw added refl));
    }

target_side : (d : Draft) → d.place ≡ InTarget → IsSide (λ tree. record d { target = tree })
unfolding text_read
target_side d at =
    record {
      going = λ tree. ap is_done at;
      adds = λ tree more path node added. rw at (rw (no_record path node) (rw added refl));
    }

-- The record, the job files and the end

record_step : (d : Draft) (notes : List ℕ) → d.place ≡ InTarget → IsBytes notes → text_read d.place d (codes "RECORD\t" ++ hex_text notes) ≡ Ok (record d { place = InJobs; notes = notes })
unfolding text_read
record_step d notes at fits =
    rw at (rw (behind_again (codes "RECORD") (hex_text notes) (tabless (codes "RECORD") refl) (no_tab (hex_text notes) (hex_field.plain notes fits))) (rw (hex_field.again notes fits) refl))

reads_record : (d : Draft) (notes : List ℕ) → d.place ≡ InTarget → IsBytes notes → Reads d (record_line notes) (record d { place = InJobs; notes = notes })
reads_record d notes at fits =
    subst (λ (t : List ℕ). Reads d t (record d { place = InJobs; notes = notes })) (append_assoc (codes "RECORD\t") (hex_text notes) (10 ∷ []))
    (reads_text d (record d { place = InJobs; notes = notes }) (codes "RECORD\t" ++ hex_text notes)
    (line_then (codes "RECORD\t") (hex_text notes) (literal (codes "RECORD\t") refl) (plain_line (hex_text notes) (hex_field.plain notes fits)))
    (IsUtf8-append (codes "RECORD\t") (hex_text notes) (ascii_utf8 (codes "RECORD\t") refl) (hex_field.utf8 notes fits))
    (ap is_done at) (record_step d notes at fits))

not_end : (job : JobText) → bytes_eq (job_fields job) (codes "END") ≡ false
unfolding job_fields
not_end job = refl

job_step : (d : Draft) (job : JobText) (more : Jobs) → d.place ≡ InJobs → filed_at d.jobs (job_fields job) ≡ Ok more → text_read d.place d (job_fields job) ≡ Ok (record d { jobs = more })
unfolding text_read
job_step d job more at filed = rw at (rw (not_end job) (rw filed refl))

reads_jobs : (d : Draft) → d.place ≡ InJobs → (files : List JobText) (jobs now : Jobs) → entries now ≡ entries jobs ++ map job_filed files → AllByRecursion FitsJob files → Reads (record d { jobs = jobs }) (flat_map job_line files) (record d { jobs = now })
reads_jobs d at [] jobs now is fits =
    subst (λ (j : Jobs). Reads (record d { jobs = jobs }) [] (record d { jobs = j })) (same_entries_map jobs now (sym (append-nil (entries jobs)) ∙ sym is)) (reads_none (record d { jobs = jobs }))
reads_jobs d at (job ∷ files) jobs now is fits =
    let more : Jobs = insert jobs (folded job.0) job.1 in
    let above = above_next jobs now job files is in
    let old : Draft = record d { jobs = jobs } in
    let new : Draft = record d { jobs = more } in
    let one = reads_text old new (job_fields job) (job_is_line job fits.0) (job_utf8 job fits.0) (ap is_done at) (job_step old job more at (filed_again jobs job fits.0 above)) in
    subst (λ (t : List ℕ). Reads old t (record d { jobs = now })) (sym (flat_map-cons job_line job files))
    (reads_then old new (record d { jobs = now }) (job_line job) (flat_map job_line files)
    (subst (λ (t : List ℕ). Reads old t new) (sym (job_line_is job)) one)
    (reads_jobs d at files more now (files_next jobs now job files is above) fits.1))

end_step : (d : Draft) → d.place ≡ InJobs → text_read d.place d (codes "END") ≡ Ok (record d { place = Done })
unfolding text_read
end_step d at = rw at refl

target_step : (d : Draft) → d.place ≡ InSource → text_read d.place d (codes "TARGET") ≡ Ok (record d { place = InTarget })
unfolding text_read
target_step d at = rw at refl

-- Whole texts

said : ℕ → Told → Jobs → Draft
said moment told jobs = record { place = Done; moment = moment; source = told.source; target = told.target; notes = told.notes; jobs = jobs }

reads_site : (moment : ℕ) (told : Told) (jobs : Jobs) (text : List ℕ) (s : Spells text moment told jobs) → Reads start (site_text moment told s.files) (said moment told jobs)
unfolding in_source said
reads_site moment told jobs text s =
    let d0 : Draft = record start { place = InSource; moment = moment } in
    let d1 : Draft = record d0 { source = told.source } in
    let d2 : Draft = record d1 { place = InTarget } in
    let d3 : Draft = record d2 { target = told.target } in
    let d4 : Draft = record d3 { place = InJobs; notes = told.notes } in
    let d5 : Draft = record d4 { jobs = jobs } in
    let d6 : Draft = record d5 { place = Done } in
    let all : entries jobs ≡ entries {R = name_cmp} empty ++ map job_filed s.files = sym s.filed ∙ ap (λ (es : List (List ℕ × List ℕ)). es ++ map job_filed s.files) (sym no_jobs) in
    let a = reads_head moment s.moment_fits in
    let b = reads_tree (λ tree. record d0 { source = tree }) (source_side d0 refl) told.source s.source_fits in
    let c = reads_text d1 d2 (codes "TARGET") (literal (codes "TARGET") refl) (ascii_utf8 (codes "TARGET") refl) refl (target_step d1 refl) in
    let t = reads_tree (λ tree. record d2 { target = tree }) (target_side d2 refl) told.target s.target_fits in
    let r = reads_record d3 told.notes refl s.notes_fit in
    let j = reads_jobs d4 refl s.files empty jobs all s.files_fit in
    let e = reads_text d5 d6 (codes "END") (literal (codes "END") refl) (ascii_utf8 (codes "END") refl) refl (end_step d5 refl) in
    reads_then start d4 d6 (head_text moment ++ (tree_lines told.source ++ codes "TARGET\n") ++ (tree_lines told.target ++ record_line told.notes)) (flat_map job_line s.files ++ codes "END\n")
    (reads_then start d2 d4 (head_text moment ++ (tree_lines told.source ++ codes "TARGET\n")) (tree_lines told.target ++ record_line told.notes)
    (reads_then start d0 d2 (head_text moment) (tree_lines told.source ++ codes "TARGET\n") a (reads_then d0 d1 d2 (tree_lines told.source) (codes "TARGET\n") b c))
    (reads_then d2 d3 d4 (tree_lines told.target) (record_line told.notes) t r))
    (reads_then d4 d5 d6 (flat_map job_line s.files) (codes "END\n") j e)

lines_done : (m : ℕ) (d : Draft) → is_done d.place ≡ true → lines_read m d (lines_in []) ≡ Ok d
unfolding lines_read
lines_done m d done = rw done refl

-- a text that spells something is read as that
pub text_again : (text : List ℕ) (moment : ℕ) (told : Told) (jobs : Jobs) → Spells text moment told jobs → text_read_whole text ≡ Ok (record { place = Done; moment = moment; source = told.source; target = told.target; notes = told.notes; jobs = jobs })
unfolding Reads said
text_again text moment told jobs s =
    let k = reads_site moment told jobs text s 1 [] in
    ap (λ (t : List ℕ). lines_read 1 start (lines_in t)) (s.spelled ∙ sym (append-nil (site_text moment told s.files))) ∙ k.1 ∙ lines_done k.0 _ refl
