-- What the lines of a setting tell of its value.
use Rattle.std.proofs.Common.{◌≡◌, ℕ, ◌<◌, ◌^◌, Bool, true, false, ◌==◌, List, [], ◌∷◌, ◌++◌, map, drop, decimal, codes, bytes_eq, ◌||◌, Option, Some, None, All, refl, sym, ap, ◌∙◌, if◌then◌else◌}
use Rattle.std.specs.List.{list_any}
use Rattle.std.specs.Option.{IfSome}
use Rattle.std.proofs.lemmas.Bool.{eqb-true}
use Rattle.std.proofs.lemmas.Fmt.{decimal_injective}
use Rattle.std.proofs.lemmas.List.{append_cancel_left}
use Rattle.std.proofs.lemmas.List.Elements.{All-head, All-tail}
use Rattle.rc_tree.specs.Attr.{compared}
use Rattle.rc_tree.specs.declared.attr.Attr.{Attr}
use Rattle.rc_tree.specs.declared.entry.Scan.{Scan}
use Rattle.rc_tree.specs.declared.entry.Scan.TheVariants as scan
use Rattle.rc_wild.specs.Pattern.{pattern_fault}
use Rattle.rc_wild.specs.PathPattern.{is_separator}
use Rattle.rc_job.specs.Allowed.{is_root, exclude_fault}
use Rattle.rc_job.specs.Settings.{sub_lines, moving_lines, scan_lines}
use Rattle.rc_job.specs.Values.{Lines, switch_lines, number_lines, other_number_lines, quoted_root, root_lines, value_text, exclude_text, files_lines, excludes_lines, holds_space, begins_apart, letters_lines, copy_lines, directory_lines, attr_lines, changed_lines, copy_flag_letters, directory_letters, attr_letters, is_dat, is_attributes_alone}
use Rattle.rc_job.specs.declared.choices.Moving.{Moving}
use Rattle.rc_job.specs.declared.choices.Moving.TheVariants as moving
use Rattle.rc_job.specs.declared.choices.Sub.{Sub}
use Rattle.rc_job.specs.declared.choices.Sub.TheVariants as sub
use Rattle.rc_job.specs.declared.flags.CopyFlags.{CopyFlags}
use Rattle.rc_job.specs.declared.flags.DirectoryFlags.{DirectoryFlags}
use Rattle.rc_job.specs.declared.lists.Exclude.{Exclude}
use Rattle.rc_job.specs.declared.lists.Exclude.TheVariants as exclude
use Rattle.rc_job.proofs.Letters.{same_copy, same_directory, same_attr, dat_letters, alone_letters}
use Rattle.rc_job.proofs.Plain.{root_plain, pattern_plain, exclude_plain, no_separator, separator, unquoted, read_back}

-- One of a few

pub same_switch : (name : List ℕ) (on off : Bool) → switch_lines name on ≡ switch_lines name off → on ≡ off
same_switch name true true e = refl
same_switch name true false e = cc
same_switch name false true e = cc
same_switch name false false e = refl

sub_of : Lines → Sub
sub_of [] = sub.None
sub_of (line ∷ lines) = if bytes_eq line (codes "/S") then sub.NonEmpty else sub.All

sub_back : (s : Sub) → sub_of (sub_lines s) ≡ s
unfolding sub_of
sub_back sub.None = refl
sub_back sub.NonEmpty = refl
sub_back sub.All = refl

pub same_sub : (one two : Sub) → sub_lines one ≡ sub_lines two → one ≡ two
same_sub one two e = sym (sub_back one) ∙ ap sub_of e ∙ sub_back two

moving_of : Lines → Moving
moving_of [] = moving.No
moving_of (line ∷ lines) = if bytes_eq line (codes "/MOV") then moving.Files else moving.All

moving_back : (m : Moving) → moving_of (moving_lines m) ≡ m
unfolding moving_of
moving_back moving.No = refl
moving_back moving.Files = refl
moving_back moving.All = refl

pub same_moving : (one two : Moving) → moving_lines one ≡ moving_lines two → one ≡ two
same_moving one two e = sym (moving_back one) ∙ ap moving_of e ∙ moving_back two

pub same_scan : (one two : Scan) → scan_lines one ≡ scan_lines two → one ≡ two
same_scan scan.Size scan.Size e = refl
same_scan scan.Size scan.Digest e = cc
same_scan scan.Digest scan.Size e = cc
same_scan scan.Digest scan.Digest e = refl

-- Numbers

first_line : (line other : List ℕ) → line ∷ [] ≡ other ∷ [] → line ≡ other
first_line line other e = cc

pub same_number : (name : List ℕ) (one two : Option ℕ) → IfSome one (λ n. n < 2 ^ 64) → IfSome two (λ n. n < 2 ^ 64) → number_lines name one ≡ number_lines name two → one ≡ two
same_number name None None small also e = refl
same_number name None (Some m) small also e = cc
same_number name (Some n) None small also e = cc
same_number name (Some n) (Some m) small also e =
    ap (λ k. Some k) (decimal_injective n m small also (append_cancel_left name (decimal n) (decimal m) (first_line _ _ e)))

other_numbers : (name : List ℕ) (a b : Bool) (default n m : ℕ) → n < 2 ^ 64 → m < 2 ^ 64 → (a ≡ true → n ≡ default) → (b ≡ true → m ≡ default) → (if a then [] else (name ++ decimal n) ∷ []) ≡ (if b then [] else (name ++ decimal m) ∷ []) → n ≡ m
other_numbers name true true default n m small also here there e = here refl ∙ sym (there refl)
other_numbers name true false default n m small also here there e = cc
other_numbers name false true default n m small also here there e = cc
other_numbers name false false default n m small also here there e =
    decimal_injective n m small also (append_cancel_left name (decimal n) (decimal m) (first_line _ _ e))

pub same_other_number : (name : List ℕ) (default n m : ℕ) → n < 2 ^ 64 → m < 2 ^ 64 → other_number_lines name default n ≡ other_number_lines name default m → n ≡ m
same_other_number name default n m small also e =
    other_numbers name (n == default) (m == default) default n m small also (eqb-true n default) (eqb-true m default) e

-- Texts

pub same_root : (name : List ℕ) (one two : Option (List ℕ)) → IfSome one (λ root. is_root root ≡ true) → IfSome two (λ root. is_root root ≡ true) → root_lines name one ≡ root_lines name two → one ≡ two
same_root name None None plain also e = refl
same_root name None (Some s) plain also e = cc
same_root name (Some r) None plain also e = cc
same_root name (Some r) (Some s) plain also e =
    let same = append_cancel_left name (quoted_root r) (quoted_root s) (first_line _ _ e) in
    ap (λ root. Some root) (sym (read_back (holds_space r) r (root_plain r plain)) ∙ ap unquoted same ∙ read_back (holds_space s) s (root_plain s also))

-- the values behind a switch
values_of : Lines → Lines
values_of [] = []
values_of (name ∷ values) = map unquoted values

values_back : (values : Lines) → All (λ value. pattern_fault value ≡ None) values → map unquoted (map value_text values) ≡ values
values_back [] all = refl
values_back (value ∷ values) all =
    let first = read_back (holds_space value || begins_apart value) value (pattern_plain value (All-head (λ value. pattern_fault value ≡ None) value values all)) in
    let rest = values_back values (All-tail (λ value. pattern_fault value ≡ None) value values all) in
    cc (first, rest)

pub same_files : (name : List ℕ) (one two : Lines) → All (λ value. pattern_fault value ≡ None) one → All (λ value. pattern_fault value ≡ None) two → files_lines name one ≡ files_lines name two → one ≡ two
unfolding values_of
same_files name one two allowed also e = sym (values_back one allowed) ∙ ap values_of e ∙ values_back two also

exclude_of : List ℕ → Exclude
exclude_of text = if list_any is_separator text then exclude.Path text else exclude.Name text

exclude_back : (value : Exclude) → exclude_fault value ≡ None → exclude_of (unquoted (value_text (exclude_text value))) ≡ value
unfolding exclude_of
exclude_back (exclude.Name text) fine =
    rw (read_back (holds_space text || begins_apart text) text (pattern_plain text fine)) (rw (no_separator text fine) refl)
exclude_back (exclude.Path text) fine =
    rw (read_back (holds_space text || begins_apart text) text (exclude_plain (exclude.Path text) fine)) (rw (separator text fine) refl)

excludes_of : Lines → List Exclude
excludes_of [] = []
excludes_of (name ∷ values) = map (λ value. exclude_of (unquoted value)) values

all_back : (values : List Exclude) → All (λ value. exclude_fault value ≡ None) values → map (λ value. exclude_of (unquoted value)) (map (λ v. value_text (exclude_text v)) values) ≡ values
all_back [] all = refl
all_back (value ∷ values) all =
    let first = exclude_back value (All-head (λ value. exclude_fault value ≡ None) value values all) in
    let rest = all_back values (All-tail (λ value. exclude_fault value ≡ None) value values all) in
    cc (first, rest)

excludes_back : (name : List ℕ) (values : List Exclude) → All (λ value. exclude_fault value ≡ None) values → excludes_of (excludes_lines name values) ≡ values
unfolding excludes_of
excludes_back name [] all = refl
excludes_back name (value ∷ values) all = all_back (value ∷ values) all

pub same_excludes : (name : List ℕ) (one two : List Exclude) → All (λ value. exclude_fault value ≡ None) one → All (λ value. exclude_fault value ≡ None) two → excludes_lines name one ≡ excludes_lines name two → one ≡ two
same_excludes name one two allowed also e = sym (excludes_back name one allowed) ∙ ap excludes_of e ∙ excludes_back name two also

-- Letters

copy_of : Lines → List ℕ
copy_of [] = codes "DAT"
copy_of (line ∷ lines) = if bytes_eq line (codes "/NOCOPY") then [] else drop 6 line

written_letters : (cs : List ℕ) → copy_of (letters_lines (codes "/COPY:") (codes "/NOCOPY" ∷ []) cs) ≡ cs
unfolding copy_of
written_letters [] = refl
written_letters (c ∷ cs) = refl

copy_back : (default : Bool) (cs : List ℕ) → (default ≡ true → cs ≡ codes "DAT") → copy_of (if default then [] else letters_lines (codes "/COPY:") (codes "/NOCOPY" ∷ []) cs) ≡ cs
unfolding copy_of
copy_back true cs is = sym (is refl)
copy_back false cs is = written_letters cs

copy_letters : (f : CopyFlags) → copy_of (copy_lines f) ≡ copy_flag_letters f
copy_letters f = copy_back (is_dat f) (copy_flag_letters f) (dat_letters f.data_bytes f.attributes f.times f.security f.owner f.auditing)

pub same_copy_lines : (f g : CopyFlags) → copy_lines f ≡ copy_lines g → f ≡ g
same_copy_lines f g e = same_copy f g (sym (copy_letters f) ∙ ap copy_of e ∙ copy_letters g)

directory_of : Lines → List ℕ
directory_of [] = codes "A"
directory_of (line ∷ lines) = if bytes_eq line (codes "/NODCOPY") then [] else drop 7 line

written_directory : (cs : List ℕ) → directory_of (letters_lines (codes "/DCOPY:") (codes "/NODCOPY" ∷ []) cs) ≡ cs
unfolding directory_of
written_directory [] = refl
written_directory (c ∷ cs) = refl

directory_back : (default : Bool) (cs : List ℕ) → (default ≡ true → cs ≡ codes "A") → directory_of (if default then [] else letters_lines (codes "/DCOPY:") (codes "/NODCOPY" ∷ []) cs) ≡ cs
unfolding directory_of
directory_back true cs is = sym (is refl)
directory_back false cs is = written_directory cs

directory_letters_back : (f : DirectoryFlags) → directory_of (directory_lines f) ≡ directory_letters f
directory_letters_back f = directory_back (is_attributes_alone f) (directory_letters f) (alone_letters f.attributes f.times)

pub same_directory_lines : (f g : DirectoryFlags) → directory_lines f ≡ directory_lines g → f ≡ g
same_directory_lines f g e = same_directory f g (sym (directory_letters_back f) ∙ ap directory_of e ∙ directory_letters_back g)

same_letters : (name cs ds : List ℕ) → letters_lines name [] cs ≡ letters_lines name [] ds → cs ≡ ds
same_letters name [] [] e = refl
same_letters name [] (d ∷ ds) e = cc
same_letters name (c ∷ cs) [] e = cc
same_letters name (c ∷ cs) (d ∷ ds) e = append_cancel_left name (c ∷ cs) (d ∷ ds) (first_line _ _ e)

pub same_attr_lines : (name : List ℕ) (a b : Attr) → a.sparse ≡ false → b.sparse ≡ false → attr_lines name a ≡ attr_lines name b → a ≡ b
same_attr_lines name a b none also e = same_attr a b (none ∙ sym also) (same_letters name (attr_letters a) (attr_letters b) e)

pub same_changed_lines : (name : List ℕ) (a b : Attr) → compared a ≡ a → compared b ≡ b → changed_lines name a ≡ changed_lines name b → a ≡ b
same_changed_lines name a b is also e = sym is ∙ same_attr_lines name (compared a) (compared b) refl refl e ∙ also
