-- What each step of a reader answers: a setting alone, the file that it names, and the list in which it stands.
use Rattle.std.proofs.Common.{◌≡◌, ◌⊎◌, inl, inr, ℕ, ◌+◌, ◌-◌, Bool, true, false, List, [], ◌∷◌, ◌++◌, ◌==◌, zero, suc, Option, None, Some, Result, Ok, Err, refl, sym, ap, subst, ◌∙◌, ◌≤◌, ◌<◌, length, get_or, take, drop, arith}
use Rattle.std.specs.Prelude.{◌&&◌, is_none}
use Rattle.std.proofs.lemmas.Bool.{eqb-true}
use Rattle.std.proofs.lemmas.List.{append-nil, length-append, take_rest}
use Rattle.std.proofs.Math.Seq.{take-append_seam}
use Rattle.rc_words.specs.declared.setting.Placed.{Placed}
use Rattle.rc_jobfiles.specs.declared.job_err.JobErr.{JobErr}
use Rattle.rc_jobfiles.specs.declared.listed.ListValues.{ListValues}
use Rattle.rc_jobfiles.specs.declared.reading.Progress.{Progress}
use Rattle.rc_jobfiles.specs.Parts.{Parts, NoPart, OwnPart, FilePart, all, own}
use Rattle.rc_jobfiles.specs.Reading.{Joins, Passes, Reads, ranked, ranked_files}
use Rattle.rc_jobfiles.specs.Resolving.{Gathered, Gathering, Store, and_then, at_word, file_gathered, full_name, gathered, gathered_part, named, names_none, opened, within}
use Rattle.rc_jobfiles.proofs.Gathering.{Done, File, Whole, begin_list, end_list, next_part, refused_part}

-- What is due

never_due : (g : Gathered) (e : JobErr) (X B : Type 0) → (◌≡◌ {A = Gathering} (Ok g) (Err e)) ⊎ B → X ⊎ B
never_due g e X B (inl q) = cc
never_due g e X B (inr free) = inr free

pub due_by : {A B C : Type 0} → (A → B) → A ⊎ C → B ⊎ C
due_by by (inl a) = inl (by a)
due_by by (inr c) = inr c

-- A file that a setting names

by_file : {T : Type 0} (r : Result T JobErr) (file : File) (p : Placed) (x : Gathering) (old new : Progress) → Reads r x (λ g. Passes old new (ranked g.parts) g) → Reads r (and_then p x (gathered file [])) (λ g. Passes old new (ranked_files g.parts) g)
by_file (Ok done) file p (Ok g) old new h = record {
  chain = h.chain;
  begun = h.begun;
  values = subst (λ (xs : List Placed). Joins old.values new.values xs) (sym (append-nil (all g.parts))) h.values;
  lists = h.lists ∙ ap (λ (xs : List (List Placed)). old.lists.items ++ xs) (sym (append-nil (ranked g.parts)));
}
by_file (Ok done) file p (Err e) old new h = h
by_file (Err e) file p (Ok g) old new h = never_due g e _ _ h
by_file (Err e) file p (Err d) old new h = h

pub file_part : {T : Type 0} (r : Result T JobErr) (file : File) (p : Placed) (word : List ℕ) (old new : Progress) → named p.setting ≡ Some word → Reads r (file p.place (full_name word) old.begun) (λ g. Passes old new (ranked g.parts) g) → Reads r (gathered file (p ∷ []) old.begun) (λ g. Passes old new (ranked_files g.parts) g)
file_part r file p word old new e h =
    subst (λ (n : Option (List ℕ)). Reads r (gathered_part file p n (gathered file []) old.begun) (λ g. Passes old new (ranked_files g.parts) g)) (sym e) (by_file r file p (file p.place (full_name word) old.begun) old new h)

-- A setting that names none

pub own_part : {T : Type 0} (done : T) (file : File) (p : Placed) (old new : Progress) → named p.setting ≡ None → new.chain.items ≡ old.chain.items → new.begun ≡ old.begun → new.lists.items ≡ old.lists.items → Joins old.values new.values (p ∷ []) → Reads (Ok done) (gathered file (p ∷ []) old.begun) (λ g. Passes old new (ranked_files g.parts) g)
own_part done file p old new e chain begun lists joins =
    subst (λ (n : Option (List ℕ)). Reads (Ok done) (gathered_part file p n (gathered file []) old.begun) (λ g. Passes old new (ranked_files g.parts) g)) (sym e)
    (record {
      chain = chain;
      begun = begun;
      values = joins;
      lists = lists ∙ sym (append-nil old.lists.items);
    })

-- A file

file_read : (room : ℕ) (store : Store) (chain : List (List ℕ)) (file : List ℕ) (place : ℕ) (name : List ℕ) (begun : ℕ) (deep : Bool) (settings : List Placed) → deep ≡ (room == 0) → deep ≡ false → opened deep store (at_word chain file place) name begun ≡ Ok settings → file_gathered room store chain file place name begun ≡ gathered (file_gathered (room - 1) store (chain ++ name ∷ []) name) settings (begun + 1)
unfolding file_gathered
file_read room store chain file place name begun true settings d free e = cc
file_read zero store chain file place name begun false settings d free e = cc
file_read (suc room) store chain file place name begun false settings d free e =
    let less : room ≡ suc room - 1 = omega arith in
    ap (λ (r : Result (List Placed) JobErr). within (λ (s : List Placed). gathered (file_gathered room store (chain ++ name ∷ []) name) s (begun + 1)) r) e
    ∙ ap (λ (n : ℕ). gathered (file_gathered n store (chain ++ name ∷ []) name) settings (begun + 1)) less

pub file_refused : (room : ℕ) (store : Store) (chain at : List (List ℕ)) (file : List ℕ) (place : ℕ) (name : List ℕ) (begun : ℕ) (deep : Bool) (e : JobErr) → at ≡ chain → deep ≡ (room == 0) → opened deep store (at_word at file place) name begun ≡ Err e → file_gathered room store chain file place name begun ≡ Err e
unfolding file_gathered
file_refused zero store chain at file place name begun false e here d is = cc
file_refused zero store chain at file place name begun true e here d is =
    ap (λ (r : Result (List Placed) JobErr). within (λ (s : List Placed). Ok (record { parts = NoPart; begun = begun })) r) (ap (λ (c : List (List ℕ)). opened true store (at_word c file place) name begun) (sym here) ∙ is)
file_refused (suc room) store chain at file place name begun true e here d is =
    let none : suc room ≡ 0 = eqb-true (suc room) 0 (sym d) in
    absurd (omega (arith, none))
file_refused (suc room) store chain at file place name begun false e here d is =
    ap (λ (r : Result (List Placed) JobErr). within (λ (s : List Placed). gathered (file_gathered room store (chain ++ name ∷ []) name) s (begun + 1)) r) (ap (λ (c : List (List ℕ)). opened false store (at_word c file place) name begun) (sym here) ∙ is)

pub opened_read : {T : Type 0} (r : Result T JobErr) (room : ℕ) (now old : Store) (chain at : List (List ℕ)) (file : List ℕ) (place : ℕ) (name : List ℕ) (begun : ℕ) (deep : Bool) (settings : List Placed) (P : Gathered → Type 0) → now ≡ old → at ≡ chain → deep ≡ (room == 0) → deep ≡ false → opened deep old (at_word at file place) name begun ≡ Ok settings → Reads r (gathered (file_gathered (room - 1) now (chain ++ name ∷ []) name) settings (begun + 1)) P → Reads r (file_gathered room old chain file place name begun) P
opened_read r room now old chain at file place name begun deep settings P same here d free e h =
    subst (λ (x : Gathering). Reads r x P) (sym (file_read room old chain file place name begun deep settings d free (ap (λ (c : List (List ℕ)). opened deep old (at_word c file place) name begun) (sym here) ∙ e)))
    (subst (λ (fs : Store). Reads r (gathered (file_gathered (room - 1) fs (chain ++ name ∷ []) name) settings (begun + 1)) P) same h)

-- The file that was entered is left

front : (xs : List (List ℕ)) (x : List ℕ) → take (length (xs ++ x ∷ []) - 1) (xs ++ x ∷ []) ≡ xs
front xs x =
    let e : length (xs ++ x ∷ []) - 1 ≡ length xs = omega (arith, length-append xs (x ∷ [])) in
    ap (λ (n : ℕ). take n (xs ++ x ∷ [])) e ∙ take-append_seam xs (x ∷ [])

left : {T : Type 0} (r : Result T JobErr) (due : Gathering) (old mid ended new : Progress) (name : List ℕ) → mid.chain.items ≡ old.chain.items ++ name ∷ [] → mid.values ≡ old.values → mid.lists.items ≡ old.lists.items → new.chain.items ≡ take (length ended.chain.items - 1) ended.chain.items → new.begun ≡ ended.begun → new.values ≡ ended.values → new.lists.items ≡ ended.lists.items → Reads r due (λ g. Passes mid ended (ranked g.parts) g) → Reads r due (λ g. Passes old new (ranked g.parts) g)
left (Ok done) (Ok g) old mid ended new name chain values lists chain2 begun2 values2 lists2 h = record {
  chain = chain2 ∙ ap (λ (xs : List (List ℕ)). take (length xs - 1) xs) (h.chain ∙ chain) ∙ front old.chain.items name;
  begun = begun2 ∙ h.begun;
  values = subst (λ (v : ListValues). Joins old.values v (all g.parts)) (sym values2) (subst (λ (v : ListValues). Joins v ended.values (all g.parts)) values h.values);
  lists = lists2 ∙ h.lists ∙ ap (λ (xs : List (List Placed)). xs ++ ranked g.parts) lists;
}
left (Ok done) (Err e) old mid ended new name chain values lists chain2 begun2 values2 lists2 h = h
left (Err e) due old mid ended new name chain values lists chain2 begun2 values2 lists2 h = h

abbrev pub Next : Type 0
Next = List (List ℕ) → ℕ → Gathering

entered : (next : Next) (old mid : Progress) (name : List ℕ) → mid.chain.items ≡ old.chain.items ++ name ∷ [] → mid.begun ≡ old.begun + 1 → next mid.chain.items mid.begun ≡ next (old.chain.items ++ name ∷ []) (old.begun + 1)
entered next old mid name chain begun =
    ap (λ (xs : List (List ℕ)). next xs mid.begun) chain ∙ ap (λ (n : ℕ). next (old.chain.items ++ name ∷ []) n) begun

pub left_file : {T : Type 0} (r : Result T JobErr) (next : Next) (old mid ended new : Progress) (name : List ℕ) → mid.chain.items ≡ old.chain.items ++ name ∷ [] → mid.begun ≡ old.begun + 1 → mid.values ≡ old.values → mid.lists.items ≡ old.lists.items → new.chain.items ≡ take (length ended.chain.items - 1) ended.chain.items → new.begun ≡ ended.begun → new.values ≡ ended.values → new.lists.items ≡ ended.lists.items → Reads r (next mid.chain.items mid.begun) (λ g. Passes mid ended (ranked g.parts) g) → Reads r (next (old.chain.items ++ name ∷ []) (old.begun + 1)) (λ g. Passes old new (ranked g.parts) g)
left_file r next old mid ended new name chain begun values lists chain2 begun2 values2 lists2 h =
    left r (next (old.chain.items ++ name ∷ []) (old.begun + 1)) old mid ended new name chain values lists chain2 begun2 values2 lists2
    (subst (λ (x : Gathering). Reads r x (λ g. Passes mid ended (ranked g.parts) g)) (entered next old mid name chain begun) h)

pub refused_file : (T : Type 0) (e : JobErr) (next : Next) (old mid : Progress) (name : List ℕ) (P Q : Gathered → Type 0) → mid.chain.items ≡ old.chain.items ++ name ∷ [] → mid.begun ≡ old.begun + 1 → Reads {T = T} (Err e) (next mid.chain.items mid.begun) P → Reads {T = T} (Err e) (next (old.chain.items ++ name ∷ []) (old.begun + 1)) Q
refused_file T e next old mid name P Q chain begun h =
    due_by (λ (is : next mid.chain.items mid.begun ≡ Err e). sym (entered next old mid name chain begun) ∙ is) h

-- A setting of a list

pub next_setting : (rest : List Placed) (p d : Placed) → 1 ≤ length rest → p ≡ get_or rest 0 d → rest ≡ p ∷ take (length rest - 1) (drop 1 rest)
next_setting [] p d h e = absurd (omega (arith, h))
next_setting (first ∷ rest) p d h e =
    ap (λ (x : Placed). x ∷ rest) (sym e) ∙ ap (λ (xs : List Placed). p ∷ xs) (sym (take_rest (first ∷ rest) 1))

pub no_setting : (rest : List Placed) → length rest < 1 → rest ≡ []
no_setting [] h = refl
no_setting (first ∷ rest) h = absurd (omega (arith, h))

pub begin_from : (file : File) (progress : Progress) (settings rest : List Placed) → rest ≡ settings → Done file progress progress settings rest
begin_from file progress settings rest e =
    subst (λ (xs : List Placed). Done file progress progress settings xs) (sym e) (begin_list file progress settings)

pub files_stand : {S : Type 0} (files : S → Store) (now old : S) (tells none : Type 0) → (tells → files now ≡ files old) → (none → now ≡ old) → tells ⊎ none → files now ≡ files old
files_stand files now old tells none by_told by_none (inl t) = by_told t
files_stand files now old tells none by_told by_none (inr n) = ap files (by_none n)

pub same_file : (room : ℕ) (fs gs : Store) (xs ys : List (List ℕ)) (file : List ℕ) → fs ≡ gs → xs ≡ ys → file_gathered room fs xs file ≡ file_gathered room gs ys file
same_file room fs gs xs ys file one two =
    ap (λ (s : Store). file_gathered room s xs file) one ∙ ap (λ (zs : List (List ℕ)). file_gathered room gs zs file) two

both : (a b : Bool) → (a && b) ≡ true → (a ≡ true) × (b ≡ true)
both true b h = (refl, h)
both false b h = cc

pub first_none : (rest later : List Placed) (p : Placed) → rest ≡ p ∷ later → names_none rest ≡ true → (is_none (named p.setting) ≡ true) × (names_none later ≡ true)
first_none rest later p e h = both (is_none (named p.setting)) (names_none later) (sym (ap names_none e) ∙ h)

pub first_known : {tells none : Type 0} (rest later : List Placed) (p : Placed) → rest ≡ p ∷ later → (none → names_none rest ≡ true) → tells ⊎ none → tells ⊎ (is_none (named p.setting) ≡ true)
first_known rest later p e by (inl t) = inl t
first_known rest later p e by (inr n) = inr (first_none rest later p e (by n)).0

next_by : {T : Type 0} (done : T) (x : Gathering) (file : File) (old mid new : Progress) (settings ps : List Placed) (p : Placed) → Done file old mid settings (p ∷ ps) → gathered file (p ∷ []) mid.begun ≡ x → Reads (Ok done) x (λ g. Passes mid new (ranked_files g.parts) g) → Done file old new settings ps
next_by done (Ok g) file old mid new settings ps p is e h = next_part file old mid new settings ps p g is e h
next_by done (Err d) file old mid new settings ps p is e h = elim h [ ]

pub list_next : {T : Type 0} (done : T) (file now : File) (old mid new : Progress) (settings rest ps : List Placed) (p : Placed) → rest ≡ p ∷ ps → now ≡ file → Done file old mid settings rest → Reads (Ok done) (gathered now (p ∷ []) mid.begun) (λ g. Passes mid new (ranked_files g.parts) g) → Done file old new settings ps
list_next done file now old mid new settings rest ps p e same is h =
    next_by done (gathered file (p ∷ []) mid.begun) file old mid new settings ps p (subst (λ (xs : List Placed). Done file old mid settings xs) e is) refl
    (subst (λ (f : File). Reads (Ok done) (gathered f (p ∷ []) mid.begun) (λ g. Passes mid new (ranked_files g.parts) g)) same h)

pub list_refused : (T : Type 0) (e : JobErr) (file now : File) (old mid : Progress) (settings rest ps : List Placed) (p : Placed) (P Q : Gathered → Type 0) → rest ≡ p ∷ ps → now ≡ file → Done file old mid settings rest → Reads {T = T} (Err e) (gathered now (p ∷ []) mid.begun) P → Reads {T = T} (Err e) (gathered file settings old.begun) Q
list_refused T e file now old mid settings rest ps p P Q first same is h =
    due_by
    (λ (due : gathered now (p ∷ []) mid.begun ≡ Err e). refused_part file old mid settings ps p e (subst (λ (xs : List Placed). Done file old mid settings xs) first is) (sym (ap (λ (f : File). gathered f (p ∷ []) mid.begun) same) ∙ due))
    h

-- The end of a list

pub list_read : {T : Type 0} (done : T) (file : File) (old mid new : Progress) (settings rest : List Placed) → rest ≡ [] → Done file old mid settings rest → new.chain ≡ mid.chain → new.begun ≡ mid.begun → new.values ≡ mid.values → new.lists.items ≡ mid.lists.items ++ settings ∷ [] → Reads (Ok done) (gathered file settings old.begun) (λ g. Passes old new (ranked g.parts) g)
list_read done file old mid new settings rest e is chain begun values lists =
    let w = end_list file old mid new settings (subst (λ (xs : List Placed). Done file old mid settings xs) e is) chain begun values lists in
    subst (λ (x : Gathering). Reads (Ok done) x (λ g. Passes old new (ranked g.parts) g)) (sym w.due) w.passes
