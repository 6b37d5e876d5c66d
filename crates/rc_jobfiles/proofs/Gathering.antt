-- A list of words, read setting by setting.
use Rattle.std.proofs.Common.{◌≡◌, ◌⊎◌, inl, inr, ℕ, ◌+◌, List, [], ◌∷◌, ◌++◌, Option, None, Some, Result, Ok, Err, refl, sym, ap, subst, ◌∙◌, append_assoc}
use Rattle.std.proofs.lemmas.List.{append-nil}
use Rattle.std.proofs.lemmas.List.Elements.{filter_map-append}
use Rattle.rc_words.specs.declared.setting.Placed.{Placed}
use Rattle.rc_words.specs.declared.setting.Setting.{Setting}
use Rattle.rc_jobfiles.specs.declared.job_err.JobErr.{JobErr}
use Rattle.rc_jobfiles.specs.declared.listed.ListValues.{ListValues}
use Rattle.rc_jobfiles.specs.declared.reading.Progress.{Progress}
use Rattle.rc_jobfiles.specs.Merge.{excluded_dir_of, excluded_dirs_in, excluded_file_of, excluded_files_in, file_of, files_in}
use Rattle.rc_jobfiles.specs.Parts.{Parts, NoPart, OwnPart, FilePart, all, own}
use Rattle.rc_jobfiles.specs.Reading.{Joins, Passes, ranked, ranked_files}
use Rattle.rc_jobfiles.specs.Resolving.{Gathered, Gathering, and_then, full_name, gathered, gathered_part, named, with_file, with_own}

abbrev pub File : Type 0
File = ℕ → List ℕ → ℕ → Gathering

-- Parts behind others

abbrev pub append : Parts → Parts → Parts
append NoPart qs = qs
append (OwnPart p ps) qs = OwnPart p (append ps qs)
append (FilePart p inner ps) qs = FilePart p inner (append ps qs)

append_none : (ps : Parts) → append ps NoPart ≡ ps
append_none NoPart = refl
append_none (OwnPart p ps) = ap (λ (qs : Parts). OwnPart p qs) (append_none ps)
append_none (FilePart p inner ps) = ap (λ (qs : Parts). FilePart p inner qs) (append_none ps)

append_more : (ps qs rs : Parts) → append (append ps qs) rs ≡ append ps (append qs rs)
append_more NoPart qs rs = refl
append_more (OwnPart p ps) qs rs = ap (λ (xs : Parts). OwnPart p xs) (append_more ps qs rs)
append_more (FilePart p inner ps) qs rs = ap (λ (xs : Parts). FilePart p inner xs) (append_more ps qs rs)

own_append : (ps qs : Parts) → own (append ps qs) ≡ own ps ++ own qs
own_append NoPart qs = refl
own_append (OwnPart p ps) qs = ap (λ (xs : List Placed). p ∷ xs) (own_append ps qs)
own_append (FilePart p inner ps) qs = ap (λ (xs : List Placed). p ∷ xs) (own_append ps qs)

all_append : (ps qs : Parts) → all (append ps qs) ≡ all ps ++ all qs
all_append NoPart qs = refl
all_append (OwnPart p ps) qs = ap (λ (xs : List Placed). p ∷ xs) (all_append ps qs)
all_append (FilePart p inner ps) qs =
    ap (λ (xs : List Placed). all inner ++ xs) (all_append ps qs) ∙ sym (append_assoc (all inner) (all ps) (all qs))

ranked_append : (ps qs : Parts) → ranked_files (append ps qs) ≡ ranked_files ps ++ ranked_files qs
ranked_append NoPart qs = refl
ranked_append (OwnPart p ps) qs = ranked_append ps qs
ranked_append (FilePart p inner ps) qs =
    ap (λ (xs : List (List Placed)). (ranked_files inner ++ own inner ∷ []) ++ xs) (ranked_append ps qs)
    ∙ sym (append_assoc (ranked_files inner ++ own inner ∷ []) (ranked_files ps) (ranked_files qs))

-- Settings behind others

abbrev pub behind : Parts → Gathering → Gathering
behind ps (Ok g) = Ok (record { parts = append ps g.parts; begun = g.begun })
behind ps (Err e) = Err e

abbrev pub followed : Gathering → (ℕ → Gathering) → Gathering
followed (Ok g) rest = behind g.parts (rest g.begun)
followed (Err e) rest = Err e

behind_none : (r : Gathering) → r ≡ behind NoPart r
behind_none (Ok g) = refl
behind_none (Err e) = refl

behind_more : (ps qs : Parts) (r : Gathering) → behind ps (behind qs r) ≡ behind (append ps qs) r
behind_more ps qs (Ok g) = ap (λ (xs : Parts). Ok (record { parts = xs; begun = g.begun })) (sym (append_more ps qs g.parts))
behind_more ps qs (Err e) = refl

own_behind : (p : Placed) (r : Gathering) → with_own p r ≡ behind (OwnPart p NoPart) r
own_behind p (Ok g) = refl
own_behind p (Err e) = refl

file_behind : (p : Placed) (inner : Parts) (r : Gathering) → with_file p inner r ≡ behind (FilePart p inner NoPart) r
file_behind p inner (Ok g) = refl
file_behind p inner (Err e) = refl

file_more : (file : File) (p : Placed) (x : Gathering) (rest : ℕ → Gathering) → and_then p x rest ≡ followed (and_then p x (gathered file [])) rest
file_more file p (Ok g) rest = file_behind p g.parts (rest g.begun)
file_more file p (Err e) rest = refl

part_more : (file : File) (p : Placed) (name : Option (List ℕ)) (rest : ℕ → Gathering) (n : ℕ) → gathered_part file p name rest n ≡ followed (gathered_part file p name (gathered file []) n) rest
part_more file p (Some name) rest n = file_more file p (file p.place (full_name name) n) rest
part_more file p None rest n = own_behind p (rest n)

-- A setting alone gives itself

abbrev own_of : Gathering → List Placed
own_of (Ok g) = own g.parts
own_of (Err e) = []

file_own : (file : File) (p : Placed) (x : Gathering) (g : Gathered) → and_then p x (gathered file []) ≡ Ok g → own g.parts ≡ p ∷ []
file_own file p (Ok h) g e = sym (ap own_of e)
file_own file p (Err d) g e = cc

part_own : (file : File) (p : Placed) (name : Option (List ℕ)) (n : ℕ) (g : Gathered) → gathered_part file p name (gathered file []) n ≡ Ok g → own g.parts ≡ p ∷ []
part_own file p (Some name) n g e = file_own file p (file p.place (full_name name) n) g e
part_own file p None n g e = sym (ap own_of e)

-- Values and lists that were joined

joins_none : (values : ListValues) → Joins values values []
joins_none values = record {
  files = sym (append-nil values.files.items);
  excluded_files = sym (append-nil values.excluded_files.items);
  excluded_dirs = sym (append-nil values.excluded_dirs.items);
}

appended : {A : Type 0} (old mid new xs ys both : List A) → mid ≡ old ++ xs → new ≡ mid ++ ys → both ≡ xs ++ ys → new ≡ old ++ both
appended {A} old mid new xs ys both one two e =
    two ∙ ap (λ (zs : List A). zs ++ ys) one ∙ append_assoc old xs ys ∙ ap (λ (zs : List A). old ++ zs) (sym e)

joins_then : (old mid new : ListValues) (xs ys : List Placed) → Joins old mid xs → Joins mid new ys → Joins old new (xs ++ ys)
joins_then old mid new xs ys one two = record {
  files = appended old.files.items mid.files.items new.files.items (files_in xs) (files_in ys) (files_in (xs ++ ys)) one.files two.files (filter_map-append (λ (p : Placed). file_of p.setting) xs ys);
  excluded_files = appended old.excluded_files.items mid.excluded_files.items new.excluded_files.items (excluded_files_in xs) (excluded_files_in ys) (excluded_files_in (xs ++ ys)) one.excluded_files two.excluded_files (filter_map-append (λ (p : Placed). excluded_file_of p.setting) xs ys);
  excluded_dirs = appended old.excluded_dirs.items mid.excluded_dirs.items new.excluded_dirs.items (excluded_dirs_in xs) (excluded_dirs_in ys) (excluded_dirs_in (xs ++ ys)) one.excluded_dirs two.excluded_dirs (filter_map-append (λ (p : Placed). excluded_dir_of p.setting) xs ys);
}

-- The settings before the rest of a list were read

pub record Done (file : File) (old new : Progress) (settings rest : List Placed) : Type 0 where
  pub done : Gathered
  pub whole : gathered file settings old.begun ≡ behind done.parts (gathered file rest new.begun)
  pub own_is : settings ≡ own done.parts ++ rest
  pub passes : Passes old new (ranked_files done.parts) done

pub begin_list : (file : File) (progress : Progress) (settings : List Placed) → Done file progress progress settings settings
begin_list file progress settings = record {
  done = record { parts = NoPart; begun = progress.begun };
  whole = behind_none (gathered file settings progress.begun);
  own_is = refl;
  passes = record {
    chain = refl;
    begun = refl;
    values = joins_none progress.values;
    lists = sym (append-nil progress.lists.items);
  };
}

-- what is due for the rest, where its first setting gives this
first_of : (file : File) (old mid : Progress) (settings ps : List Placed) (p : Placed) (is : Done file old mid settings (p ∷ ps)) → (x : Gathering) → gathered file (p ∷ []) mid.begun ≡ x → gathered file settings old.begun ≡ behind is.done.parts (followed x (gathered file ps))
first_of file old mid settings ps p is x e =
    is.whole
    ∙ ap (λ (r : Gathering). behind is.done.parts r) (part_more file p (named p.setting) (gathered file ps) mid.begun)
    ∙ ap (λ (y : Gathering). behind is.done.parts (followed y (gathered file ps))) e

pub next_part : (file : File) (old mid new : Progress) (settings ps : List Placed) (p : Placed) (g : Gathered) → Done file old mid settings (p ∷ ps) → gathered file (p ∷ []) mid.begun ≡ Ok g → Passes mid new (ranked_files g.parts) g → Done file old new settings ps
next_part file old mid new settings ps p g is e passes = record {
  done = record { parts = append is.done.parts g.parts; begun = g.begun };
  whole =
      first_of file old mid settings ps p is (Ok g) e
      ∙ behind_more is.done.parts g.parts (gathered file ps g.begun)
      ∙ ap (λ (n : ℕ). behind (append is.done.parts g.parts) (gathered file ps n)) (sym passes.begun);
  own_is =
      is.own_is
      ∙ ap (λ (xs : List Placed). own is.done.parts ++ (xs ++ ps)) (sym (part_own file p (named p.setting) mid.begun g e))
      ∙ sym (append_assoc (own is.done.parts) (own g.parts) ps)
      ∙ ap (λ (xs : List Placed). xs ++ ps) (sym (own_append is.done.parts g.parts));
  passes = record {
    chain = passes.chain ∙ is.passes.chain;
    begun = passes.begun;
    values = subst (λ (xs : List Placed). Joins old.values new.values xs) (sym (all_append is.done.parts g.parts)) (joins_then old.values mid.values new.values (all is.done.parts) (all g.parts) is.passes.values passes.values);
    lists = appended old.lists.items mid.lists.items new.lists.items (ranked_files is.done.parts) (ranked_files g.parts) (ranked_files (append is.done.parts g.parts)) is.passes.lists passes.lists (ranked_append is.done.parts g.parts);
  };
}

pub refused_part : (file : File) (old mid : Progress) (settings ps : List Placed) (p : Placed) (e : JobErr) → Done file old mid settings (p ∷ ps) → gathered file (p ∷ []) mid.begun ≡ Err e → gathered file settings old.begun ≡ Err e
refused_part file old mid settings ps p e is due = first_of file old mid settings ps p is (Err e) due

-- The list itself stands behind its files

pub record Whole (file : File) (old new : Progress) (settings : List Placed) : Type 0 where
  pub gathered_is : Gathered
  pub due : gathered file settings old.begun ≡ Ok gathered_is
  pub passes : Passes old new (ranked gathered_is.parts) gathered_is

pub end_list : (file : File) (old mid new : Progress) (settings : List Placed) → Done file old mid settings [] → new.chain ≡ mid.chain → new.begun ≡ mid.begun → new.values ≡ mid.values → new.lists.items ≡ mid.lists.items ++ settings ∷ [] → Whole file old new settings
end_list file old mid new settings is chain begun values lists = record {
  gathered_is = is.done;
  due =
      is.whole
      ∙ ap (λ (n : ℕ). Ok (record { parts = append is.done.parts NoPart; begun = n })) is.passes.begun
      ∙ ap (λ (ps : Parts). Ok (record { parts = ps; begun = is.done.begun })) (append_none is.done.parts);
  passes = record {
    chain = ap (λ v. v.items) chain ∙ is.passes.chain;
    begun = begun ∙ is.passes.begun;
    values = subst (λ (v : ListValues). Joins old.values v (all is.done.parts)) (sym values) is.passes.values;
    lists =
        lists
        ∙ ap (λ (xs : List (List Placed)). xs ++ settings ∷ []) is.passes.lists
        ∙ append_assoc old.lists.items (ranked_files is.done.parts) (settings ∷ [])
        ∙ ap (λ (s : List Placed). old.lists.items ++ (ranked_files is.done.parts ++ s ∷ [])) (is.own_is ∙ append-nil (own is.done.parts));
  };
}
