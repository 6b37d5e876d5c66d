-- What is picked key by key from what reads and what was synced last may be left, and stays so from call to call.
use Rattle.std.proofs.Common.{◌≡◌, ◌≢◌, ◌⊎◌, ◌≤◌, ℕ, ◌+◌, ◌-◌, min, arith, true, cond, List, [], ◌∷◌, ◌++◌, length, take, drop, replicate, Option, Some, None, Ok, refl, sym, ap, subst, ◌∙◌, inl, inr, length-append}
use Rattle.std.specs.Prelude.{IfSome, IsSomeAnd}
use Rattle.std.specs.Ordering.{is_eq}
use Rattle.std.specs.Cmp.{tied_itself}
use Rattle.std.specs.FinMap.{empty, get, insert, remove, get-remove}
use Rattle.std.proofs.lemmas.Bool.{cases_lt}
use Rattle.std.proofs.lemmas.List.{length-take, length-drop, length-replicate}
use Rattle.std.proofs.lemmas.List.Elements.{filter-append}
use Rattle.rc_tree.specs.declared.attr.Kind.TheVariants.{Dir}
use Rattle.rc_tree.specs.Path.{key_cmp}
use Rattle.rc_tree.specs.Tree.{Node, Tree, FitsAt, IsDirectory, IsTree}
use Rattle.rc_tree.proofs.Fronts.{above-more}
use Rattle.rc_tree.proofs.Keys.{key_cmp-total, key_cmp-IsAntisymmetric, same_tree}
use Rattle.rc_volume.specs.declared.site.Part.{Part}
use Rattle.rc_volume.specs.declared.site.Part.TheVariants.{Record}
use Rattle.rc_volume.specs.declared.site.Side.{Side}
use Rattle.rc_volume.specs.declared.site.Side.TheVariants.{Source, Target}
use Rattle.rc_volume.specs.Faults.{part_for}
use Rattle.rc_volume.specs.Images.{Half, IsMade, IsMadeOver, LeftAfter, LeftBy, MayLeave, MayLeaveNotes, NotesLeftBy, StepsNotes}
use Rattle.rc_volume.specs.Log.{EntryCall, Event, LogsOn, NotesCall, changed, synced, noted, notes_synced, make, put, resize, set_props, remove as removed, write, cut, events_on, is_on}
use Rattle.rc_volume.specs.Site.{IsTornBytes, Maybe}
use Rattle.rc_volume.proofs.ImageLemmas.{each_step, each_notes_step, not_begun, only_notes, only_tree}
use Rattle.rc_volume.proofs.ReadLemmas.{write_steps}
use Rattle.rc_stop.specs.Kept.{IsFresh, Kept, KeptNotes, MayPick, MayPickNotes, after_all, filled, kept_by, kept_in, notes_by, notes_in, spoiled}
use Rattle.rc_mem.proofs.Order.{not_eq-apart}
use Rattle.rc_mem.proofs.Trees.{IsTree-changed, differ_or, get-inserted, get-inserted_other, no_bytes-in}

-- One more event

on-part : (at : Part) (log : List Event) (event : Event) → is_on at event ≡ true → events_on at (log ++ event ∷ []) ≡ events_on at log ++ event ∷ []
on-part at log event is = filter-append (is_on at) log (event ∷ []) ∙ ap (λ b. events_on at log ++ cond b (event ∷ []) []) is

after-more : {K : Type 0} (by : Event → K → K) (kept : K) (events : List Event) (event : Event) → after_all by kept (events ++ event ∷ []) ≡ by event (after_all by kept events)
after-more by kept [] event = refl
after-more by kept (first ∷ events) event = after-more by (by first kept) events event

abbrev none_kept : Kept
none_kept = record { tree = empty; touched = empty }

pub kept-more : (side : Side) (log : List Event) (event : Event) → is_on (part_for side) event ≡ true → kept_in side (log ++ event ∷ []) ≡ kept_by side event (kept_in side log)
kept-more side log event is = ap (after_all (kept_by side) none_kept) (on-part (part_for side) log event is) ∙ after-more (kept_by side) none_kept (events_on (part_for side) log) event

pub kept-called : (side : Side) (log : List Event) (key : List (List ℕ)) (call : EntryCall) → kept_in side (log ++ changed side key call ∷ []) ≡ record (kept_in side log) { touched = insert (kept_in side log).touched key tt }
kept-called Source log key call = kept-more Source log (changed Source key call) refl
kept-called Target log key call = kept-more Target log (changed Target key call) refl

pub kept-synced : (side : Side) (log : List Event) (tree : Tree) → kept_in side (log ++ synced side tree ∷ []) ≡ record { tree = tree; touched = empty }
kept-synced Source log tree = kept-more Source log (synced Source tree) refl
kept-synced Target log tree = kept-more Target log (synced Target tree) refl

abbrev no_notes : KeptNotes
no_notes = record { bytes = []; calls = [] }

notes-more : (log : List Event) (event : Event) → is_on Record event ≡ true → notes_in (log ++ event ∷ []) ≡ notes_by event (notes_in log)
notes-more log event is = ap (after_all notes_by no_notes) (on-part Record log event is) ∙ after-more notes_by no_notes (events_on Record log) event

pub notes-called : (log : List Event) (call : NotesCall) → notes_in (log ++ noted call ∷ []) ≡ record (notes_in log) { calls = (notes_in log).calls ++ call ∷ [] }
notes-called log call = notes-more log (noted call) refl

pub notes-synced : (log : List Event) (notes : List ℕ) → notes_in (log ++ notes_synced notes ∷ []) ≡ record { bytes = notes; calls = [] }
notes-synced log notes = notes-more log (notes_synced notes) refl

-- Something else at one key of a tree

abbrev set_at : Tree → List (List ℕ) → Option Node → Tree
set_at tree key None = remove tree key
set_at tree key (Some node) = insert tree key node

set-here : (tree : Tree) (key : List (List ℕ)) (found : Option Node) → get (set_at tree key found) key ≡ found
set-here tree key (Some node) = get-inserted tree key node
set-here tree key None = get-remove key_cmp-total tree key key ∙ ap (λ r. cond (is_eq r) None (get tree key)) (tied_itself key_cmp-total key)

set-other : (tree : Tree) (key : List (List ℕ)) (found : Option Node) (other : List (List ℕ)) → other ≢ key → get (set_at tree key found) other ≡ get tree other
set-other tree key (Some node) other apart = get-inserted_other tree key node other apart
set-other tree key None other apart = get-remove key_cmp-total tree key other ∙ ap (λ b. cond b None (get tree other)) (not_eq-apart (key_cmp other key) (λ e. apart (key_cmp-IsAntisymmetric other key e)))

-- the same found is as much of a directory
pub same_dir : (a b : Tree) (key : List (List ℕ)) → get a key ≡ get b key → IsDirectory b key → IsDirectory a key
same_dir a b [] same is = tt
same_dir a b (n ∷ ns) same is = (subst (λ (o : Option Node). IfSome o (λ x. x.kind ≡ Dir)) (sym same) is.0, λ none. is.1 (sym same ∙ none))

-- where a directory is not the root something stands
dir_stands : (tree : Tree) (key : List (List ℕ)) → key ≢ [] → IsDirectory tree key → get tree key ≢ None
dir_stands tree [] some is = absurd (some refl)
dir_stands tree (n ∷ ns) some is = is.1

pub not_own : (dir : List (List ℕ)) (name : List ℕ) (key : List (List ℕ)) → dir ++ name ∷ [] ≡ key → dir ≢ key
not_own dir name key is same = omega (arith, ap length (is ∙ sym same), length-append dir (name ∷ []))

some_apart : (o : Option Node) (node : Node) → o ≡ Some node → o ≢ None
some_apart o node is none = (let no : Some node ≡ None = sym is ∙ none in cc)

some_key : (tree : Tree) (key : List (List ℕ)) → IsTree tree → get tree key ≢ None → key ≢ []
some_key tree key is there root = there (ap (get tree) root ∙ is.0)

module _ (old new : Tree) (key : List (List ℕ)) (is : IsTree old) (rooted : key ≢ []) (others : (other : List (List ℕ)) → other ≢ key → get new other ≡ get old other)
    (here : (dir : List (List ℕ)) (name : List ℕ) → dir ++ name ∷ [] ≡ key → IfSome (get new key) (FitsAt old dir name)) (below : (name : List ℕ) → get old (key ++ name ∷ []) ≢ None → IsDirectory new key) where
  fits-still : (dir : List (List ℕ)) (name : List ℕ) (o : Option Node) → (o ≢ None → IsDirectory old dir → IsDirectory new dir) → IfSome o (FitsAt old dir name) → IfSome o (FitsAt new dir name)
  fits-still dir name None keeps h = tt
  fits-still dir name (Some x) keeps h = record { spelled = h.spelled; named = h.named; within = keeps (λ none. cc) h.within; depth = h.depth; no_bytes = h.no_bytes }

  above : (dir : List (List ℕ)) (name : List ℕ) → get old (dir ++ name ∷ []) ≢ None → IsDirectory old dir → IsDirectory new dir
  above dir name there dir_is = differ_or dir key
      (λ same. subst (IsDirectory new) (sym same) (below name (λ none. there (ap (λ k. get old (k ++ name ∷ [])) same ∙ none))))
      (λ apart. same_dir new old dir (others dir apart) dir_is)

  fits-each : (dir : List (List ℕ)) (name : List ℕ) → IfSome (get new (dir ++ name ∷ [])) (FitsAt new dir name)
  fits-each dir name = differ_or (dir ++ name ∷ []) key
      (λ same. subst (λ k. IfSome (get new k) (FitsAt new dir name)) (sym same)
      (fits-still dir name (get new key) (λ there dir_is. same_dir new old dir (others dir (not_own dir name key same)) dir_is) (here dir name same)))
      (λ apart. subst (λ (o : Option Node). IfSome o (FitsAt new dir name)) (sym (others (dir ++ name ∷ []) apart)) (fits-still dir name (get old (dir ++ name ∷ [])) (above dir name) (is.1 dir name)))

  -- a tree with something else at a key is a tree, where that fits and what stands in it still stands in a directory
  IsTree-at : IsTree new
  IsTree-at = (others [] (λ e. rooted (sym e)) ∙ is.0, fits-each)

-- One call

module _ (side : Side) (log : List Event) (key : List (List ℕ)) (call : EntryCall) (reads now : Tree) (may : MayPick side log reads) (others : (other : List (List ℕ)) → other ≢ key → get now other ≡ get reads other) where
  abbrev was : Tree
  was = (kept_in side log).tree

  abbrev Either : Tree → Tree → List (List ℕ) → Type 0
  Either tree image k = (get image k ≡ get tree k) ⊎ (get image k ≡ get was k)

  abbrev Left : Tree → Type 0
  Left image = MayLeave side (log ++ changed side key call ∷ []) image

  module _ (image : Tree) (is : IsTree image) (picks : (k : List (List ℕ)) → Either now image k) where
    either-other : (k : List (List ℕ)) → k ≢ key → Either reads image k
    either-other k apart = elim (picks k) [
      | inl same ↦ inl (same ∙ others k apart)
      | inr same ↦ inr same
    ]

    -- the call not begun
    stays : Either reads image key → Left image
    stays here = not_begun side log key call image (may.picks image is (λ k. differ_or k key (λ same. subst (Either reads image) (sym same) here) (either-other k)))

    either-set : (found : Option Node) → (found ≡ get reads key) ⊎ (found ≡ get was key) → (k : List (List ℕ)) → Either reads (set_at image key found) k
    either-set found from k = differ_or k key
        (λ same. elim from [
          | inl e ↦ inl (ap (get (set_at image key found)) same ∙ set-here image key found ∙ e ∙ ap (get reads) (sym same))
          | inr e ↦ inr (ap (get (set_at image key found)) same ∙ set-here image key found ∙ e ∙ ap (get was) (sym same))
        ])
        (λ apart. elim (either-other k apart) [
          | inl e ↦ inl (set-other image key found k apart ∙ e)
          | inr e ↦ inr (set-other image key found k apart ∙ e)
        ])

    -- the call begun where this was left
    begun : (found : Option Node) → (found ≡ get reads key) ⊎ (found ≡ get was key) → IsTree (set_at image key found) → Half call found (get image key) → Left image
    begun found from tree half = each_step side log key call (set_at image key found) image (may.picks (set_at image key found) tree (either-set found from))
        (record { here = inr (subst (λ (o : Option Node). Half call o (get image key)) (sym (set-here image key found)) half); others = λ other apart. sym (set-other image key found other apart); tree = is })

    -- a node changed in place
    in_place : (before after : Node) → get reads key ≡ Some before → get now key ≡ Some after → after.spelling ≡ before.spelling → after.kind ≡ before.kind → get image key ≡ get now key → Half call (get reads key) (get now key) → Left image
    in_place before after stood stands spelling kind same half =
        begun (Some before) (inl (sym stood)) (IsTree-changed image key after before is (same ∙ stands) (sym spelling) (sym kind) (no_bytes-in reads key before may.tree stood))
        (subst (λ (o : Option Node). Half call o (get image key)) stood (subst (λ (o : Option Node). Half call (get reads key) o) (sym same) half))

  -- the node that was synced fits where a directory is
  fits-was : (image : Tree) (found : Option Node) → get was key ≡ found → ((dir : List (List ℕ)) (name : List ℕ) → dir ++ name ∷ [] ≡ key → found ≢ None → IsDirectory image dir) → (dir : List (List ℕ)) (name : List ℕ) → dir ++ name ∷ [] ≡ key
      → IfSome (get (set_at image key found) key) (FitsAt image dir name)
  fits-was image found at within dir name same =
      subst (λ (o : Option Node). IfSome o (FitsAt image dir name)) (sym (set-here image key found))
      (moved found (within dir name same) (subst (λ (o : Option Node). IfSome o (FitsAt was dir name)) (ap (get was) same ∙ at) (may.kept.1 dir name)))
    where
      moved : (o : Option Node) → (o ≢ None → IsDirectory image dir) → IfSome o (FitsAt was dir name) → IfSome o (FitsAt image dir name)
      moved None keeps h = tt
      moved (Some x) keeps h = record { spelled = h.spelled; named = h.named; within = keeps (λ none. cc); depth = h.depth; no_bytes = h.no_bytes }

-- a node is made
module _ (side : Side) (log : List Event) (key : List (List ℕ)) (fresh : Node) (reads now : Tree) (may : MayPick side log reads) (others : (other : List (List ℕ)) → other ≢ key → get now other ≡ get reads other)
    (none : get reads key ≡ None) (no_bytes : fresh.bytes ≡ []) (came : get now key ≡ Some fresh) (image : Tree) (is : IsTree image) (picks : (k : List (List ℕ)) → (get image k ≡ get now k) ⊎ (get image k ≡ get (kept_in side log).tree k)) (same : get image key ≡ get now key) where
  abbrev synced_tree : Tree
  synced_tree = (kept_in side log).tree

  abbrev found_then : Option Node
  found_then = get (kept_in side log).tree key

  rooted_key : key ≢ []
  rooted_key = some_key image key is (some_apart (get image key) fresh (same ∙ came))

  -- a node made over what was synced
  made_over : (found : Option Node) → Half (make fresh) found (get image key)
  made_over None = same ∙ came
  made_over (Some old) = subst (λ (o : Option Node). IsSomeAnd o (IsMadeOver fresh old)) (sym (same ∙ came)) (record {
    spelling = inr refl;
    kind = inr refl;
    props = record { attr = inr refl; created = inr refl; written = inr refl; access = inr refl; owner = inr refl; audit = inr refl };
    no_longer = omega (arith, ap length no_bytes);
  })

  below_made : (name : List ℕ) → get image (key ++ name ∷ []) ≢ None → IsDirectory (set_at image key found_then) key
  below_made name there = elim (picks (key ++ name ∷ [])) [
    | inl reading ↦ absurd (dir_stands reads key rooted_key
        (above-more reads key name may.tree (λ gone. there (reading ∙ others (key ++ name ∷ []) (λ e. not_own key name (key ++ name ∷ []) refl (sym e)) ∙ gone))) none)
    | inr kept ↦ same_dir (set_at image key found_then) synced_tree key (set-here image key found_then) (above-more synced_tree key name may.kept (λ gone. there (kept ∙ gone)))
  ]

  pub makes : MayLeave side (log ++ changed side key (make fresh) ∷ []) image
  makes = begun side log key (make fresh) reads now may others image is picks found_then (inr refl)
      (IsTree-at image (set_at image key found_then) key is rooted_key (set-other image key found_then)
      (fits-was side log key (make fresh) reads now may others image found_then refl (λ dir name at there. above-more image dir name is (λ gone. some_apart (get image key) fresh (same ∙ came) (ap (get image) (sym at) ∙ gone))))
      below_made)
      (made_over found_then)

-- an entry is removed
module _ (side : Side) (log : List Event) (key : List (List ℕ)) (reads now : Tree) (may : MayPick side log reads) (others : (other : List (List ℕ)) → other ≢ key → get now other ≡ get reads other)
    (gone : get now key ≡ None) (image : Tree) (is : IsTree image) (picks : (k : List (List ℕ)) → (get image k ≡ get now k) ⊎ (get image k ≡ get (kept_in side log).tree k)) (same : get image key ≡ get now key) where
  within_dir : get reads key ≢ None → get (kept_in side log).tree key ≢ None → (dir : List (List ℕ)) (name : List ℕ) → dir ++ name ∷ [] ≡ key → IsDirectory image dir
  within_dir stood kept dir name at = elim (picks dir) [
    | inl reading ↦ same_dir image reads dir (reading ∙ others dir (not_own dir name key at)) (above-more reads dir name may.tree (λ e. stood (ap (get reads) (sym at) ∙ e)))
    | inr synced_one ↦ same_dir image (kept_in side log).tree dir synced_one (above-more (kept_in side log).tree dir name may.kept (λ e. kept (ap (get (kept_in side log).tree) (sym at) ∙ e)))
  ]

  removes_some : (read kept : Option Node) → get reads key ≡ read → get (kept_in side log).tree key ≡ kept → MayLeave side (log ++ changed side key removed ∷ []) image
  removes_some None kept at_reads at_kept = stays side log key removed reads now may others image is picks (inl (same ∙ gone ∙ sym at_reads))
  removes_some (Some read) None at_reads at_kept = stays side log key removed reads now may others image is picks (inr (same ∙ gone ∙ sym at_kept))
  removes_some (Some read) (Some kept) at_reads at_kept =
      let rooted : key ≢ [] = some_key (kept_in side log).tree key may.kept (some_apart (get (kept_in side log).tree key) kept at_kept) in
      begun side log key removed reads now may others image is picks (Some kept) (inr (sym at_kept))
      (IsTree-at image (set_at image key (Some kept)) key is rooted (set-other image key (Some kept))
      (fits-was side log key removed reads now may others image (Some kept) at_kept
      (λ dir name at there. within_dir (some_apart (get reads key) read at_reads) (some_apart (get (kept_in side log).tree key) kept at_kept) dir name at))
      (λ name there. absurd (dir_stands image key rooted (above-more image key name is there) (same ∙ gone))))
      (same ∙ gone)

  pub removes : MayLeave side (log ++ changed side key removed ∷ []) image
  removes = removes_some (get reads key) (get (kept_in side log).tree key) refl refl

-- any call
module _ (side : Side) (log : List Event) (key : List (List ℕ)) (reads now : Tree) (may : MayPick side log reads) (others : (other : List (List ℕ)) → other ≢ key → get now other ≡ get reads other)
    (image : Tree) (is : IsTree image) (picks : (k : List (List ℕ)) → (get image k ≡ get now k) ⊎ (get image k ≡ get (kept_in side log).tree k)) (same : get image key ≡ get now key) where
  done : (call : EntryCall) → Half call (get reads key) (get now key) → IsFresh call (get reads key) → MayLeave side (log ++ changed side key call ∷ []) image
  done (make fresh) half free = makes side log key fresh reads now may others free.0 free.1 (subst (λ (o : Option Node). IsMade fresh o (get now key)) free.0 half) image is picks same
  done (put off len) half free = in_place side log key (put off len) reads now may others image is picks half.before half.now half.was half.is (ap (λ (x : Node). x.spelling) half.by.rest) (ap (λ (x : Node). x.kind) half.by.rest) same half
  done (resize len) half free = in_place side log key (resize len) reads now may others image is picks half.before half.now half.was half.is (ap (λ (x : Node). x.spelling) half.by.rest) (ap (λ (x : Node). x.kind) half.by.rest) same half
  done (set_props props) half free =
      in_place side log key (set_props props) reads now may others image is picks half.before half.now half.was half.is (ap (λ (x : Node). x.spelling) half.by.rest) (ap (λ (x : Node). x.kind) half.by.rest) same half
  done removed half free = removes side log key reads now may others half image is picks same

  pub left_by : (call : EntryCall) → Maybe (Half call) (get reads key) (get now key) → IsFresh call (get reads key) → MayLeave side (log ++ changed side key call ∷ []) image
  left_by call (inl stood) free = stays side log key call reads now may others image is picks (inl (same ∙ stood))
  left_by call (inr half) free = done call half free

-- what is picked may be left behind a call
pub picks-called : (side : Side) (log : List Event) (key : List (List ℕ)) (call : EntryCall) (reads now : Tree) → MayPick side log reads → Maybe (Half call) (get reads key) (get now key) → IsFresh call (get reads key)
    → ((other : List (List ℕ)) → other ≢ key → get now other ≡ get reads other) → IsTree now → MayPick side (log ++ changed side key call ∷ []) now
picks-called side log key call reads now may step free others tree =
    let same : (kept_in side (log ++ changed side key call ∷ [])).tree ≡ (kept_in side log).tree = ap (λ (k : Kept). k.tree) (kept-called side log key call) in
    record {
      kept = subst IsTree (sym same) may.kept;
      tree = tree;
      picks = λ image is either.
          let picks : (k : List (List ℕ)) → (get image k ≡ get now k) ⊎ (get image k ≡ get (kept_in side log).tree k) = (λ k. subst (λ t. (get image k ≡ get now k) ⊎ (get image k ≡ get t k)) same (either k)) in
          elim (picks key) [
            | inl here ↦ left_by side log key reads now may others image is picks here call step free
            | inr here ↦ stays side log key call reads now may others image is picks (inr here)
          ];
    }

-- behind a sync
pub picks-synced : (side : Side) (log : List Event) (tree : Tree) → IsTree tree → MayPick side (log ++ synced side tree ∷ []) tree
picks-synced side log tree is =
    let same : (kept_in side (log ++ synced side tree ∷ [])).tree ≡ tree = ap (λ (k : Kept). k.tree) (kept-synced side log tree) in
    record {
      kept = subst IsTree (sym same) is;
      tree = is;
      picks = λ image image_is either. subst (MayLeave side (log ++ synced side tree ∷ []))
          (sym (same_tree image tree (λ k. elim (either k) [
            | inl e ↦ e
            | inr e ↦ e ∙ ap (λ t. get t k) same
          ])))
          (only_tree side log tree is).left;
    }

-- and behind events of another part
pub picks-other : (at : Part) (side : Side) (old new : List Event) (reads : Tree) → LogsOn at old new → part_for side ≢ at → MayPick side old reads → MayPick side new reads
picks-other at side old new reads logs apart may =
    let same : events_on (part_for side) new ≡ events_on (part_for side) old = logs (part_for side) apart in
    let tree : (kept_in side new).tree ≡ (kept_in side old).tree = ap (λ events. (after_all (kept_by side) none_kept events).tree) same in
    record {
      kept = subst IsTree (sym tree) may.kept;
      tree = may.tree;
      picks = λ image is either. subst (λ events. LeftAfter (LeftBy side) IsTree events image) (sym same)
          (may.picks image is (λ k. subst (λ t. (get image k ≡ get reads k) ⊎ (get image k ≡ get t k)) tree (either k)));
    }

pub kept-other : (at : Part) (side : Side) (old new : List Event) → LogsOn at old new → part_for side ≢ at → kept_in side new ≡ kept_in side old
kept-other at side old new logs apart = ap (after_all (kept_by side) none_kept) (logs (part_for side) apart)

-- The record

spoiled-more : (byte limit : ℕ) (calls : List NotesCall) (call : NotesCall) (bytes : List ℕ) → spoiled byte limit (calls ++ call ∷ []) bytes ≡ filled byte limit call (spoiled byte limit calls bytes)
spoiled-more byte limit [] call bytes = refl
spoiled-more byte limit (first ∷ calls) call bytes = spoiled-more byte limit calls call (filled byte limit first bytes)

pub length-filled : (byte limit : ℕ) (call : NotesCall) (bytes : List ℕ) → limit ≤ length bytes → length (filled byte limit call bytes) ≡ length bytes
length-filled byte limit (cut len) bytes le = refl
length-filled byte limit (write off len) bytes le =
    let middle : List ℕ = replicate (min (off + len) limit - min off limit) byte in
    omega (
      arith,
      length-append (take (min off limit) bytes ++ middle) (drop (min (off + len) limit) bytes),
      length-append (take (min off limit) bytes) middle,
      length-take (min off limit) bytes,
      length-drop (min (off + len) limit) bytes,
      length-replicate {A = ℕ} (min (off + len) limit - min off limit) byte,
    )

length-spoiled : (byte limit : ℕ) (calls : List NotesCall) (bytes : List ℕ) → limit ≤ length bytes → length (spoiled byte limit calls bytes) ≡ length bytes
length-spoiled byte limit [] bytes le = refl
length-spoiled byte limit (call ∷ calls) bytes le =
    length-spoiled byte limit calls (filled byte limit call bytes) (omega (arith, length-filled byte limit call bytes le)) ∙ length-filled byte limit call bytes le

-- a part of a range is torn, and so is the range
torn-wider : (a n off len limit : ℕ) (old new : List ℕ) → a ≡ min off limit → a + n ≡ min (off + len) limit → limit ≤ length old → IsTornBytes a n old new → IsTornBytes off len old new
torn-wider a n off len limit old new start end le torn = record {
  no_shorter = torn.no_shorter;
  no_longer = omega (arith, torn.no_longer);
  before = λ i is lt. elim (cases_lt i a) [
    | inl in_front ↦ torn.before i is in_front
    | inr behind ↦ torn.after i is (omega arith)
  ];
  after = λ i is ge. torn.after i is (omega arith);
}

filled-steps : (byte limit : ℕ) (call : NotesCall) (old : List ℕ) → limit ≤ length old → StepsNotes call old (filled byte limit call old)
filled-steps byte limit (cut len) old le = record { no_shorter = omega arith; no_longer = omega arith; front = λ i lt. refl }
filled-steps byte limit (write off len) old le =
    let a : ℕ = min off limit in
    let n : ℕ = min (off + len) limit - min off limit in
    let middle : List ℕ = replicate (min (off + len) limit - min off limit) byte in
    let long : length (replicate (min (off + len) limit - min off limit) byte) ≡ min (off + len) limit - min off limit = length-replicate {A = ℕ} (min (off + len) limit - min off limit) byte in
    let end : min off limit + length (replicate (min (off + len) limit - min off limit) byte) ≡ min (off + len) limit = omega (arith, long) in
    let torn : IsTornBytes (min off limit) (length (replicate (min (off + len) limit - min off limit) byte)) old (filled byte limit (write off len) old) =
    write_steps {T = ℕ} (Ok 0) (min off limit) middle old (filled byte limit (write off len) old) (omega arith) (ap (λ k. take (min off limit) old ++ middle ++ drop k old) (sym end)) in
    torn-wider (min off limit) (length (replicate (min (off + len) limit - min off limit) byte)) off len limit old (filled byte limit (write off len) old) refl end le torn

pub notes-picks-called : (log : List Event) (call : NotesCall) (reads now : List ℕ) → MayPickNotes log reads → StepsNotes call reads now → MayPickNotes (log ++ noted call ∷ []) now
notes-picks-called log call reads now may step =
    let kept = notes_in log in
    let same = notes-called log call in
    record {
      stands = each_notes_step log call reads now may.stands step;
      spoils = λ byte limit le.
          let short : limit ≤ length (notes_in log).bytes = subst (λ (k : KeptNotes). limit ≤ length k.bytes) same le in
          subst (λ (k : KeptNotes). MayLeaveNotes (log ++ noted call ∷ []) (spoiled byte limit k.calls k.bytes)) (sym same)
          (subst (MayLeaveNotes (log ++ noted call ∷ [])) (sym (spoiled-more byte limit (notes_in log).calls call (notes_in log).bytes))
          (each_notes_step log call (spoiled byte limit (notes_in log).calls (notes_in log).bytes) (filled byte limit call (spoiled byte limit (notes_in log).calls (notes_in log).bytes)) (may.spoils byte limit short)
          (filled-steps byte limit call (spoiled byte limit (notes_in log).calls (notes_in log).bytes) (omega (arith, length-spoiled byte limit (notes_in log).calls (notes_in log).bytes short)))));
    }

pub notes-picks-synced : (log : List Event) (notes : List ℕ) → MayPickNotes (log ++ notes_synced notes ∷ []) notes
notes-picks-synced log notes =
    let left = (only_notes log notes).left in
    record {
      stands = left;
      spoils = λ byte limit le. subst (λ (k : KeptNotes). MayLeaveNotes (log ++ notes_synced notes ∷ []) (spoiled byte limit k.calls k.bytes)) (sym (notes-synced log notes)) left;
    }

pub notes-kept-other : (at : Part) (old new : List Event) → LogsOn at old new → Record ≢ at → notes_in new ≡ notes_in old
notes-kept-other at old new logs apart = ap (after_all notes_by no_notes) (logs Record apart)

pub notes-picks-other : (at : Part) (old new : List Event) (reads : List ℕ) → LogsOn at old new → Record ≢ at → MayPickNotes old reads → MayPickNotes new reads
notes-picks-other at old new reads logs apart may =
    let same : events_on Record new ≡ events_on Record old = logs Record apart in
    record {
      stands = subst (λ events. LeftAfter NotesLeftBy (λ _. Unit {0}) events reads) (sym same) may.stands;
      spoils = λ byte limit le. subst (λ (k : KeptNotes). MayLeaveNotes new (spoiled byte limit k.calls k.bytes)) (sym (notes-kept-other at old new logs apart))
          (subst (λ events. LeftAfter NotesLeftBy (λ _. Unit {0}) events (spoiled byte limit (notes_in old).calls (notes_in old).bytes)) (sym same)
          (may.spoils byte limit (subst (λ (k : KeptNotes). limit ≤ length k.bytes) (notes-kept-other at old new logs apart) le)));
    }
