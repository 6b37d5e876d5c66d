-- Steps of a reader of lines.
use Rattle.std.proofs.Common.{◌≡◌, ◌≢◌, Bool, true, false, cond, eqb, ltb, List, [], ◌∷◌, ℕ, ◌+◌, ◌-◌, ◌<◌, Option, Some, None, Result, Ok, Err, length, take, drop, refl, sym, ap, ◌∙◌, arith}
use Rattle.std.specs.Prelude.{IsSomeAnd}
use Rattle.std.specs.List.{position, position_or_len}
use Rattle.std.specs.Cmp.{tied_itself}
use Rattle.std.specs.Ordering.{is_eq}
use Rattle.std.specs.FinMap.{get, insert, get-insert, same_map}
use Rattle.std.specs.Str.{IsUtf8, is_utf8}
use Rattle.std.proofs.lemmas.Bool.{and_parts, false_from_ne_true, ltb-false, ltb-true}
use Rattle.std.proofs.lemmas.List.{take_rest}
use Rattle.std.proofs.lemmas.List.Elements.{All-from_get_or}
use Rattle.std.proofs.lemmas.List.Splits.{slice_split_first, slice_split_none}
use Rattle.std.proofs.lemmas.List.Sums.{fails_before_first}
use Rattle.std.proofs.lemmas.Str.{IsUtf8-from_is_utf8, is_utf8-from_IsUtf8}
use Rattle.rc_tree.specs.Name.{folded}
use Rattle.rc_tree.specs.Path.{key_of, name_cmp, parent_of}
use Rattle.rc_tree.specs.Tree.{IsDirectory, Tree}
use Rattle.rc_tree.proofs.Keys.{name_cmp-total, name_cmp-IsAntisymmetric}
use Rattle.rc_tree.specs.Spelled.{spelled}
use Rattle.rc_mem.specs.Directories.{is_dir}
use Rattle.rc_mem.proofs.Maps.{key_or}
use Rattle.rc_mem.proofs.Order.{not_eq-apart}
use Rattle.rc_sitetext.specs.declared.err.FaultKind.TheVariants as fault
use Rattle.rc_sitetext.specs.declared.err.LineErr.{LineErr}
use Rattle.rc_sitetext.specs.declared.err.LineErr.TheVariants as line_err
use Rattle.rc_sitetext.specs.declared.err.SiteTextErr.{SiteTextErr}
use Rattle.rc_sitetext.specs.declared.err.SiteTextErr.TheVariants.{At}
use Rattle.rc_sitetext.specs.Faults.{◌>>=◌, Draft, Follows, Stops, added_at, ended, filed_at, is_done, line_at, line_read, lines_in, lines_read, needs, text_read}
use Rattle.rc_sitetext.specs.Reading.{EntryFields, EntryTexts, EntryValues, are_same, bytes_of, entry_texts, fields_at, is_above, is_within, job_at, job_texts, node_of, values_at}
use Rattle.rc_sitetext.specs.SiteText.{JobText, Jobs}
use Rattle.rc_sitetext.proofs.Cuts.{some_lines}
use Rattle.rc_sitetext.proofs.Spells.{if_some, some_is}
use Rattle.rc_sitetext.proofs.Ways.{directory-from}

-- Lines

pub line_is_text : (d : Draft) (line : List ℕ) → is_done d.place ≡ false → IsUtf8 line → line_read d line ≡ text_read d.place d line
unfolding line_read
line_is_text d line going utf8 = rw (going, is_utf8-from_IsUtf8 line utf8) refl

pub line_is_no_text : (d : Draft) (line : List ℕ) → is_done d.place ≡ false → (IsUtf8 line → ⊥) → line_read d line ≡ Err fault.Utf8
unfolding line_read
line_is_no_text d line going never = rw (going, false_from_ne_true (is_utf8 line) (λ e. never (IsUtf8-from_is_utf8 line e))) refl

-- Entries

-- a line whose values were read
pub record Valued (line : List ℕ) (t : EntryTexts) (f : EntryFields) (v : EntryValues) : Type 0 where
  pub texts : entry_texts line ≡ Some t
  pub fields : fields_at t ≡ Some f
  pub values : values_at t f ≡ Some v

pub added_is : (tree : Tree) (line : List ℕ) (t : EntryTexts) (f : EntryFields) (v : EntryValues) (bytes : List ℕ) → Valued line t f v → is_within tree (parent_of v.path) ≡ true → is_above tree (key_of v.path) ≡ true → bytes_of t.kind v.size t.content ≡ Some bytes
    → added_at tree line ≡ Ok (insert tree (key_of v.path) (node_of t.kind v bytes))
unfolding added_at
added_is tree line t f v bytes read within above content = rw read.texts (rw read.fields (rw read.values (rw within (rw above (rw content refl)))))

pub added_late : (tree : Tree) (line : List ℕ) (t : EntryTexts) (f : EntryFields) (v : EntryValues) → Valued line t f v → is_within tree (parent_of v.path) ≡ true → is_above tree (key_of v.path) ≡ false → added_at tree line ≡ Err fault.Order
unfolding added_at
added_late tree line t f v read within above = rw read.texts (rw read.fields (rw read.values (rw within (rw above refl))))

pub added_unread : (e : LineErr) (tree : Tree) (line : List ℕ) (t : EntryTexts) (f : EntryFields) (v : EntryValues) → Valued line t f v → is_within tree (parent_of v.path) ≡ true → is_above tree (key_of v.path) ≡ true
    → Stops e (needs fault.Content (bytes_of t.kind v.size t.content) >>= λ bytes. Ok (insert tree (key_of v.path) (node_of t.kind v bytes))) → Stops e (added_at tree line)
unfolding added_at
added_unread e tree line t f v read within above stops = rw read.texts (rw read.fields (rw read.values (rw within (rw above stops))))

pub directory_from : (tree : Tree) (parent : Option (List (List ℕ))) → is_within tree parent ≡ true → IsSomeAnd parent (λ dir. IsDirectory tree (key_of dir))
directory_from tree None is = absurd cc
directory_from tree (Some []) is = tt
directory_from tree (Some (name ∷ names)) is =
    let key : List (List ℕ) = key_of (name ∷ names) in
    directory-from tree key (and_parts (is_dir tree key) (are_same (spelled tree key) (name ∷ names)) is).0

-- Job files

pub filed_late : (jobs : Jobs) (line name bytes : List ℕ) (job : JobText) → job_texts line ≡ Some (name, bytes) → job_at (name, bytes) ≡ Some job → is_above jobs (folded job.0) ≡ false → filed_at jobs line ≡ Err fault.Order
unfolding filed_at
filed_late jobs line name bytes job texts read above = rw texts (rw read (rw above refl))

pub filed_is : (jobs : Jobs) (line name bytes : List ℕ) (job : JobText) → job_texts line ≡ Some (name, bytes) → job_at (name, bytes) ≡ Some job → is_above jobs (folded job.0) ≡ true → filed_at jobs line ≡ Ok (insert jobs (folded job.0) job.1)
unfolding filed_at
filed_is jobs line name bytes job texts read above = rw texts (rw read (rw above refl))

put_here : (jobs : Jobs) (key bytes : List ℕ) → get (insert jobs key bytes) key ≡ Some bytes
put_here jobs key bytes = get-insert name_cmp-total jobs key bytes key ∙ ap (λ r. cond (is_eq r) (Some bytes) (get jobs key)) (tied_itself name_cmp-total key)

put_other : (jobs : Jobs) (key bytes other : List ℕ) → other ≢ key → get (insert jobs key bytes) other ≡ get jobs other
put_other jobs key bytes other apart =
    get-insert name_cmp-total jobs key bytes other
    ∙ ap (λ b. cond b (Some bytes) (get jobs other)) (not_eq-apart (name_cmp other key) (λ e. apart (name_cmp-IsAntisymmetric other key e)))

-- files that changed at one name alone
pub files_put : (old new : Jobs) (key bytes : List ℕ) → get new key ≡ Some bytes → ((other : List ℕ) → other ≢ key → get new other ≡ get old other) → new ≡ insert old key bytes
files_put old new key bytes here others =
    same_map name_cmp-total name_cmp-IsAntisymmetric new (insert old key bytes)
    (λ k. key_or name_cmp-IsAntisymmetric name_cmp-total k key
    (λ e. ap (get new) e ∙ here ∙ sym (ap (get (insert old key bytes)) e ∙ put_here old key bytes))
    (λ apart. others k apart ∙ sym (put_other old key bytes k apart)))

-- Texts

pub position_some : {X : Type 0} (p : X → Bool) (xs : List X) (i : ℕ) → position p xs ≡ Some i → (position_or_len p xs ≡ i) × (i < length xs)
position_some p xs i e =
    let q = if_some (ltb (position_or_len p xs) (length xs)) (Some (position_or_len p xs)) i e in
    let is = some_is (position_or_len p xs) i q.1 in
    let lt = ltb-true (position_or_len p xs) (length xs) q.0 in
    (is, omega (arith, is, lt))

unless_none : {A : Type 0} (b : Bool) (x : A) → cond b (Some x) None ≡ None → b ≡ false
unless_none true x e = absurd cc
unless_none false x e = refl

-- the first line, where a line ends
pub first_found : (text : List ℕ) (end : ℕ) → position (λ b. eqb b 10) text ≡ Some end → lines_in text ≡ take end text ∷ lines_in (take (length text - (end + 1)) (drop (end + 1) text))
first_found text end e =
    let at = position_some (λ b. eqb b 10) text end e in
    slice_split_first (λ b. eqb b 10) text 0 (omega (arith, at.0, at.1))
    ∙ ap (λ (i : ℕ). take i text ∷ lines_in (drop (i + 1) text)) at.0
    ∙ ap (λ (t : List ℕ). take end text ∷ lines_in t) (sym (take_rest text (end + 1)))

-- and where none does
pub first_none : (text : List ℕ) → position (λ b. eqb b 10) text ≡ None → lines_in text ≡ text ∷ []
first_none text e =
    let far = ltb-false (position_or_len (λ b. eqb b 10) text) (length text) (unless_none (ltb (position_or_len (λ b. eqb b 10) text) (length text)) (position_or_len (λ b. eqb b 10) text) e) in
    slice_split_none (λ b. eqb b 10) text (All-from_get_or (λ b. eqb b 10 ≡ false) text 0 (λ k lt. fails_before_first (λ b. eqb b 10) text k 0 (omega (arith, far, lt))))

pub goes_on : (n : ℕ) (d more : Draft) (line rest : List ℕ) (parts : List (List ℕ)) (total : Result Draft SiteTextErr) → parts ≡ line ∷ lines_in rest → line_read d line ≡ Ok more → lines_read n d parts ≡ total → lines_read (n + 1) more (lines_in rest) ≡ total
unfolding lines_read
goes_on n d more line rest parts total first read so_far =
    let one : lines_read n d parts ≡ lines_read (n + 1) more (lines_in rest) = ap (lines_read n d) first ∙ rw (some_lines rest) (rw read refl) in
    sym one ∙ so_far

pub stops_at : {X : Type 0} (view : X → Draft) (n : ℕ) (d : Draft) (e : LineErr) (line rest : List ℕ) (parts : List (List ℕ)) (total : Result Draft SiteTextErr) → parts ≡ line ∷ lines_in rest → Stops e (line_read d line) → lines_read n d parts ≡ total → Follows view (Err (line_at n e)) total
unfolding lines_read
stops_at view n d (line_err.Fault kind) line rest parts total first stops so_far =
    let one : lines_read n d parts ≡ Err (At n kind) = ap (lines_read n d) first ∙ rw (some_lines rest) (rw stops refl) in
    sym so_far ∙ one
stops_at view n d line_err.NoMemory line rest parts total first stops so_far = tt

pub ends_there : (n : ℕ) (d : Draft) (rest : List ℕ) (parts : List (List ℕ)) (total : Result Draft SiteTextErr) → parts ≡ rest ∷ [] → lines_read n d parts ≡ total → total ≡ ended n d rest
unfolding lines_read
ends_there n d rest parts total last so_far = sym so_far ∙ ap (lines_read n d) last
