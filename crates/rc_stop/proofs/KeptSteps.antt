-- What a site keeps of its parts stays what its log says, from call to call.
use Rattle.std.proofs.Common.{◌≡◌, ◌≢◌, ◌≤◌, ℕ, zero, suc, ◌+◌, ◌-◌, arith, true, false, cond, List, [], ◌∷◌, ◌++◌, length, take, drop, map, filter, Result, Ok, Err, refl, sym, ap, subst, ◌∙◌, inl, inr, length-append, append-nil}
use Rattle.std.specs.FinMap.{empty, get, insert}
use Rattle.std.proofs.lemmas.List.{drop_all, take-append-le, take_all, map-append}
use Rattle.std.proofs.lemmas.List.Elements.{filter-append}
use Rattle.rc_tree.specs.Path.{key_of}
use Rattle.rc_tree.specs.Tree.{Tree, IsTree}
use Rattle.rc_tree.proofs.Keys.{same_tree}
use Rattle.rc_volume.specs.declared.site.Part.{Part}
use Rattle.rc_volume.specs.declared.site.Part.TheVariants as part
use Rattle.rc_volume.specs.declared.site.Side.{Side}
use Rattle.rc_volume.specs.declared.site.Side.TheVariants.{Source, Target}
use Rattle.rc_volume.specs.declared.site.SiteErr.{SiteErr}
use Rattle.rc_volume.specs.declared.site.SiteErr.TheVariants.{Failed, NoMemory}
use Rattle.rc_volume.specs.Faults.{part_for}
use Rattle.rc_volume.specs.Frames.{ChangesOnly}
use Rattle.rc_volume.specs.Images.{Half, StepsNotes}
use Rattle.rc_volume.specs.Log.{EntryCall, Event, Logs, LogsOn, changed, noted, notes_synced, synced}
use Rattle.rc_volume.specs.Site.{Change, Done, Maybe, NotesDone, Told, node_at}
use Rattle.rc_stop.specs.declared.kept.SyncedNotes.{SyncedNotes}
use Rattle.rc_stop.specs.declared.kept.SyncedSide.{SyncedSide}
use Rattle.rc_stop.specs.declared.kept.Touched.{Touched}
use Rattle.rc_mem.specs.declared.site.MemSite.{MemSite}
use Rattle.rc_mem.specs.declared.logged.NotesCall.{NotesCall as Called}
use Rattle.rc_stop.specs.Kept.{IsFresh, Kept, KeptNotes, Keys, MayPick, MayPickNotes}
use Rattle.rc_mem.specs.Logged.{notes_call_of}
use Rattle.rc_stop.specs.KeptSite.{AreKeptNotes, IsKept, IsKeptSide, gathered, kept_of, keys_on, same_side}
use Rattle.rc_mem.specs.MemSite.{seen_by, told_by}
use Rattle.rc_stop.proofs.Picks.{kept-called, kept-other, kept-synced, notes-called, notes-kept-other, notes-picks-called, notes-picks-other, notes-picks-synced, notes-synced, picks-called, picks-other, picks-synced}
use Rattle.rc_mem.proofs.Trees.{differ_or}

-- Keys

pub gathered-more : (keys : List (List (List ℕ))) (key : List (List ℕ)) (others : Keys) → gathered (keys ++ key ∷ []) others ≡ insert (gathered keys others) key tt
gathered-more [] key others = refl
gathered-more (first ∷ keys) key others = gathered-more keys key (insert others first tt)

keys-more : (side : Side) (touched : List Touched) (call : Touched) → keys_on side (touched ++ call ∷ []) ≡ keys_on side touched ++ keys_on side (call ∷ [])
keys-more side touched call =
    ap (map (λ (t : Touched). key_of t.path)) (filter-append (λ (t : Touched). same_side side t.side) touched (call ∷ []))
    ∙ map-append (λ (t : Touched). key_of t.path) (filter (λ (t : Touched). same_side side t.side) touched) (filter (λ (t : Touched). same_side side t.side) (call ∷ []))

drop-more : (n : ℕ) (touched : List Touched) (call : Touched) → n ≤ length touched → drop n (touched ++ call ∷ []) ≡ drop n touched ++ call ∷ []
drop-more zero touched call le = refl
drop-more (suc n) [] call le = absurd (omega arith)
drop-more (suc n) (first ∷ touched) call le = drop-more n touched call (omega arith)

itself : (side : Side) → same_side side side ≡ true
itself Source = refl
itself Target = refl

abbrev call_on : Side → List (List ℕ) → Touched
call_on side path = record { side = side; path = path }

-- one more call on a side
kept-here : (side : Side) (synced_one : SyncedSide) (touched : List Touched) (path : List (List ℕ)) → synced_one.from ≤ length touched
    → kept_of side synced_one (touched ++ call_on side path ∷ []) ≡ record (kept_of side synced_one touched) { touched = insert (kept_of side synced_one touched).touched (key_of path) tt }
kept-here side synced_one touched path within =
    let keys : keys_on side (drop synced_one.from (touched ++ call_on side path ∷ [])) ≡ keys_on side (drop synced_one.from touched) ++ key_of path ∷ [] =
    ap (keys_on side) (drop-more synced_one.from touched (call_on side path) within)
    ∙ keys-more side (drop synced_one.from touched) (call_on side path)
    ∙ ap (λ b. keys_on side (drop synced_one.from touched) ++ map (λ (t : Touched). key_of t.path) (cond b (call_on side path ∷ []) [])) (itself side) in
    ap (λ ks. record { tree = synced_one.tree; touched = gathered ks empty }) keys ∙ ap (λ ks. record { tree = synced_one.tree; touched = ks }) (gathered-more (keys_on side (drop synced_one.from touched)) (key_of path) empty)

-- and one on the other
kept-there : (side other : Side) (synced_one : SyncedSide) (touched : List Touched) (path : List (List ℕ)) → same_side other side ≡ false → synced_one.from ≤ length touched → kept_of other synced_one (touched ++ call_on side path ∷ []) ≡ kept_of other synced_one touched
kept-there side other synced_one touched path apart within =
    let keys : keys_on other (drop synced_one.from (touched ++ call_on side path ∷ [])) ≡ keys_on other (drop synced_one.from touched) ++ [] =
    ap (keys_on other) (drop-more synced_one.from touched (call_on side path) within)
    ∙ keys-more other (drop synced_one.from touched) (call_on side path)
    ∙ ap (λ b. keys_on other (drop synced_one.from touched) ++ map (λ (t : Touched). key_of t.path) (cond b (call_on side path ∷ []) [])) apart in
    ap (λ ks. record { tree = synced_one.tree; touched = gathered ks empty }) (keys ∙ append-nil (keys_on other (drop synced_one.from touched)))

-- One side

side-came : (side : Side) (log now_log : List Event) (path : List (List ℕ)) (call : EntryCall) (reads now : Tree) (synced_one : SyncedSide) (touched : List Touched) → now_log ≡ log ++ changed side (key_of path) call ∷ []
    → IsKeptSide side log reads synced_one touched → Maybe (Half call) (get reads (key_of path)) (get now (key_of path)) → IsFresh call (get reads (key_of path)) → ((other : List (List ℕ)) → other ≢ key_of path → get now other ≡ get reads other) → IsTree now
    → IsKeptSide side now_log now synced_one (touched ++ call_on side path ∷ [])
side-came side log now_log path call reads now synced_one touched logged kept step free others tree =
    subst (λ (l : List Event). IsKeptSide side l now synced_one (touched ++ call_on side path ∷ [])) (sym logged) (record {
      within = omega (arith, kept.within, length-append touched (call_on side path ∷ []));
      same = kept-here side synced_one touched path kept.within ∙ ap (λ (k : Kept). record k { touched = insert k.touched (key_of path) tt }) kept.same ∙ sym (kept-called side log (key_of path) call);
      may = picks-called side log (key_of path) call reads now kept.may step free others tree;
    })

side-else : (at : Part) (side other : Side) (log now_log : List Event) (path : List (List ℕ)) (reads now : Tree) (synced_one : SyncedSide) (touched : List Touched) → same_side other side ≡ false → LogsOn at log now_log → part_for other ≢ at → now ≡ reads
    → IsKeptSide other log reads synced_one touched → IsKeptSide other now_log now synced_one (touched ++ call_on side path ∷ [])
side-else at side other log now_log path reads now synced_one touched apart logs foreign same kept = record {
  within = omega (arith, kept.within, length-append touched (call_on side path ∷ []));
  same = kept-there side other synced_one touched path apart kept.within ∙ kept.same ∙ sym (kept-other at other log now_log logs foreign);
  may = subst (MayPick other now_log) (sym same) (picks-other at other log now_log reads logs foreign kept.may);
}

-- what stands in the log and on the side stays kept
side-still : (side : Side) (log now_log : List Event) (reads now : Tree) (synced_one : SyncedSide) (touched : List Touched) → now_log ≡ log → now ≡ reads → IsKeptSide side log reads synced_one touched → IsKeptSide side now_log now synced_one touched
side-still side log now_log reads now synced_one touched logged same kept =
    subst (λ (l : List Event). IsKeptSide side l now synced_one touched) (sym logged) (subst (λ (t : Tree). IsKeptSide side log t synced_one touched) (sym same) kept)

-- and so it does behind events of another part
pub side-apart : (at : Part) (side : Side) (log now_log : List Event) (reads now : Tree) (synced_one : SyncedSide) (touched : List Touched) → LogsOn at log now_log → part_for side ≢ at → now ≡ reads → IsKeptSide side log reads synced_one touched
    → IsKeptSide side now_log now synced_one touched
side-apart at side log now_log reads now synced_one touched logs foreign same kept = record {
  within = kept.within;
  same = kept.same ∙ sym (kept-other at side log now_log logs foreign);
  may = subst (MayPick side now_log) (sym same) (picks-other at side log now_log reads logs foreign kept.may);
}

pub side-synced : (side : Side) (log now_log : List Event) (tree now copy : Tree) (synced_one : SyncedSide) (touched : List Touched) → now_log ≡ log ++ synced side tree ∷ [] → IsTree tree → now ≡ tree → synced_one.tree ≡ tree → synced_one.from ≡ length touched
    → IsKeptSide side now_log now synced_one touched
side-synced side log now_log tree now copy synced_one touched logged is same kept from =
    subst (λ (l : List Event). IsKeptSide side l now synced_one touched) (sym logged) (record {
      within = omega (arith, from);
      same = ap (λ ks. record { tree = synced_one.tree; touched = gathered (keys_on side ks) empty }) (drop_all synced_one.from touched (omega (arith, from)))
          ∙ ap (λ t. record { tree = t; touched = empty }) kept ∙ sym (kept-synced side log tree);
      may = subst (MayPick side (log ++ synced side tree ∷ [])) (sym same) (picks-synced side log tree is);
    })

pub notes-apart : (at : Part) (log now_log : List Event) (reads now : List ℕ) (notes : SyncedNotes) → LogsOn at log now_log → part.Record ≢ at → now ≡ reads → AreKeptNotes log reads notes → AreKeptNotes now_log now notes
notes-apart at log now_log reads now notes logs foreign same kept = record {
  same = kept.same ∙ sym (notes-kept-other at log now_log logs foreign);
  may = subst (MayPickNotes now_log) (sym same) (notes-picks-other at log now_log reads logs foreign kept.may);
}

notes-still : (log now_log : List Event) (reads now : List ℕ) (notes : SyncedNotes) → now_log ≡ log → now ≡ reads → AreKeptNotes log reads notes → AreKeptNotes now_log now notes
notes-still log now_log reads now notes logged same kept = subst (λ (l : List Event). AreKeptNotes l now notes) (sym logged) (subst (λ (bytes : List ℕ). AreKeptNotes log bytes notes) (sym same) kept)

-- The whole

-- nothing came
pub kept-still : (O N : MemSite) (source target : SyncedSide) (notes : SyncedNotes) (touched : List Touched) → IsKept O source target notes touched → (seen_by N).log ≡ (seen_by O).log → (told_by N).source ≡ (told_by O).source → (told_by N).target ≡ (told_by O).target → (told_by N).notes ≡ (told_by O).notes
    → IsKept N source target notes touched
kept-still O N source target notes touched kept logged src tgt bytes = record {
  source_kept = side-still Source (seen_by O).log (seen_by N).log (told_by O).source (told_by N).source source touched logged src kept.source_kept;
  target_kept = side-still Target (seen_by O).log (seen_by N).log (told_by O).target (told_by N).target target touched logged tgt kept.target_kept;
  notes_kept = notes-still (seen_by O).log (seen_by N).log (told_by O).notes (told_by N).notes notes logged bytes kept.notes_kept;
}

-- but for one key all stood, and there too
same_side_tree : (key : List (List ℕ)) (old new : Tree) → ((other : List (List ℕ)) → other ≢ key → get new other ≡ get old other) → get new key ≡ get old key → new ≡ old
same_side_tree key old new others here = same_tree new old (λ q. differ_or q key (λ same. ap (get new) same ∙ here ∙ ap (get old) (sym same)) (others q))

stood : (O N : MemSite) (source target : SyncedSide) (notes : SyncedNotes) (touched : List Touched) (side : Side) (key : List (List ℕ)) → IsKept O source target notes touched → (seen_by N).log ≡ (seen_by O).log → ChangesOnly side key (told_by O) (told_by N)
    → node_at (told_by N) side key ≡ node_at (told_by O) side key → IsKept N source target notes touched
stood O N source target notes touched Source key kept logged only here = kept-still O N source target notes touched kept logged (same_side_tree key (told_by O).source (told_by N).source only.others here) only.other_tree only.notes
stood O N source target notes touched Target key kept logged only here = kept-still O N source target notes touched kept logged only.other_tree (same_side_tree key (told_by O).target (told_by N).target only.others here) only.notes

-- a call came
came : (O N : MemSite) (source target : SyncedSide) (notes : SyncedNotes) (touched : List Touched) (side : Side) (path : List (List ℕ)) (call : EntryCall) → IsKept O source target notes touched
    → (seen_by N).log ≡ (seen_by O).log ++ changed side (key_of path) call ∷ [] → LogsOn (part_for side) (seen_by O).log (seen_by N).log → ChangesOnly side (key_of path) (told_by O) (told_by N)
    → Maybe (Half call) (node_at (told_by O) side (key_of path)) (node_at (told_by N) side (key_of path)) → IsFresh call (node_at (told_by O) side (key_of path)) → IsTree (told_by N).source → IsTree (told_by N).target → IsKept N source target notes (touched ++ call_on side path ∷ [])
came O N source target notes touched Source path call kept logged logs only step free src tgt = record {
  source_kept = side-came Source (seen_by O).log (seen_by N).log path call (told_by O).source (told_by N).source source touched logged kept.source_kept step free only.others src;
  target_kept = side-else part.Source Source Target (seen_by O).log (seen_by N).log path (told_by O).target (told_by N).target target touched refl logs (λ e. cc) only.other_tree kept.target_kept;
  notes_kept = notes-apart part.Source (seen_by O).log (seen_by N).log (told_by O).notes (told_by N).notes notes logs (λ e. cc) only.notes kept.notes_kept;
}
came O N source target notes touched Target path call kept logged logs only step free src tgt = record {
  source_kept = side-else part.Target Target Source (seen_by O).log (seen_by N).log path (told_by O).source (told_by N).source source touched refl logs (λ e. cc) only.other_tree kept.source_kept;
  target_kept = side-came Target (seen_by O).log (seen_by N).log path call (told_by O).target (told_by N).target target touched logged kept.target_kept step free only.others tgt;
  notes_kept = notes-apart part.Target (seen_by O).log (seen_by N).log (told_by O).notes (told_by N).notes notes logs (λ e. cc) only.notes kept.notes_kept;
}

take-last : {X : Type 0} (xs : List X) (x : X) → take (length (xs ++ x ∷ []) - 1) (xs ++ x ∷ []) ≡ xs
take-last xs x =
    ap (λ n. take n (xs ++ x ∷ [])) (one_less (length (xs ++ x ∷ [])) (length xs) (length-append xs (x ∷ []))) ∙ take-append-le (length xs) xs (x ∷ []) (omega arith) ∙ take_all (length xs) xs (omega arith)
  where
    one_less : (n m : ℕ) → n ≡ m + 1 → n - 1 ≡ m
    one_less n m e = omega arith

-- what is noted of the calls, where the one that was noted last is taken back if it is not in the log
pub record Settles {X : Type 0} (one : X) (before now : ℕ) (old more new : List X) : Type 0 where
  pub noted : more ≡ old ++ one ∷ []
  pub stood : now ≡ before → new ≡ take (length more - 1) more
  pub came : now ≢ before → new ≡ more

settled-stood : {X : Type 0} (x : X) (before now : ℕ) (old more new : List X) → Settles x before now old more new → now ≡ before → new ≡ old
settled-stood x before now old more new s same = s.stood same ∙ ap (λ xs. take (length xs - 1) xs) s.noted ∙ take-last old x

settled-came : {X : Type 0} (x : X) (before now : ℕ) (old more new : List X) → Settles x before now old more new → now ≢ before → new ≡ old ++ x ∷ []
settled-came x before now old more new s apart = s.came apart ∙ s.noted

longer : (log : List Event) (event : Event) (now : List Event) → now ≡ log ++ event ∷ [] → length now ≢ length log
longer log event now is same = omega (arith, ap length is, length-append log (event ∷ []), same)

module _ (O N : MemSite) (source target : SyncedSide) (notes : SyncedNotes) (touched more new : List Touched) (side : Side) (path : List (List ℕ)) (call : EntryCall) (before : ℕ) (kept : IsKept O source target notes touched) (counted : before ≡ length (seen_by O).log)
    (settles : Settles (call_on side path) before (length (seen_by N).log) touched more new) (logs : LogsOn (part_for side) (seen_by O).log (seen_by N).log) (only : ChangesOnly side (key_of path) (told_by O) (told_by N))
    (step : Maybe (Half call) (node_at (told_by O) side (key_of path)) (node_at (told_by N) side (key_of path))) (free : IsFresh call (node_at (told_by O) side (key_of path))) (src : IsTree (told_by N).source) (tgt : IsTree (told_by N).target) where
  call_came : (seen_by N).log ≡ (seen_by O).log ++ changed side (key_of path) call ∷ [] → IsKept N source target notes new
  call_came logged = subst (IsKept N source target notes) (sym (settled-came (call_on side path) before (length (seen_by N).log) touched more new settles (λ same. longer (seen_by O).log (changed side (key_of path) call) (seen_by N).log logged (same ∙ counted))))
      (came O N source target notes touched side path call kept logged logs only step free src tgt)

  call_stood : (seen_by N).log ≡ (seen_by O).log → node_at (told_by N) side (key_of path) ≡ node_at (told_by O) side (key_of path) → IsKept N source target notes new
  call_stood logged here = subst (IsKept N source target notes) (sym (settled-stood (call_on side path) before (length (seen_by N).log) touched more new settles (ap length logged ∙ sym counted)))
      (stood O N source target notes touched side (key_of path) kept logged only here)

  -- whatever a call on an entry answers, what is kept is what the log says
  pub kept-behind : {R : Type 0} (result : Result R SiteErr) (done half : Change) → Done result done half (node_at (told_by O) side (key_of path)) (node_at (told_by N) side (key_of path)) → Logs result (changed side (key_of path) call) (seen_by O).log (seen_by N).log
      → IsKept N source target notes new
  kept-behind (Ok value) done half here logged = call_came logged
  kept-behind (Err Failed) done half here logged = call_came logged
  kept-behind (Err NoMemory) done half here (inl logged) = call_stood logged here
  kept-behind (Err NoMemory) done half here (inr logged) = call_came logged

-- A sync

pub kept-source : (O N : MemSite) (source target now : SyncedSide) (notes : SyncedNotes) (touched : List Touched) → IsKept O source target notes touched → (seen_by N).log ≡ (seen_by O).log ++ synced Source (told_by O).source ∷ [] → LogsOn part.Source (seen_by O).log (seen_by N).log
    → told_by N ≡ told_by O → IsTree (told_by O).source → now.tree ≡ (told_by O).source → now.from ≡ length touched → IsKept N now target notes touched
kept-source O N source target now notes touched kept logged logs told is tree from = record {
  source_kept = side-synced Source (seen_by O).log (seen_by N).log (told_by O).source (told_by N).source now.tree now touched logged is (ap (λ (t : Told). t.source) told) tree from;
  target_kept = side-apart part.Source Target (seen_by O).log (seen_by N).log (told_by O).target (told_by N).target target touched logs (λ e. cc) (ap (λ (t : Told). t.target) told) kept.target_kept;
  notes_kept = notes-apart part.Source (seen_by O).log (seen_by N).log (told_by O).notes (told_by N).notes notes logs (λ e. cc) (ap (λ (t : Told). t.notes) told) kept.notes_kept;
}

pub kept-target : (O N : MemSite) (source target now : SyncedSide) (notes : SyncedNotes) (touched : List Touched) → IsKept O source target notes touched → (seen_by N).log ≡ (seen_by O).log ++ synced Target (told_by O).target ∷ [] → LogsOn part.Target (seen_by O).log (seen_by N).log
    → told_by N ≡ told_by O → IsTree (told_by O).target → now.tree ≡ (told_by O).target → now.from ≡ length touched → IsKept N source now notes touched
kept-target O N source target now notes touched kept logged logs told is tree from = record {
  source_kept = side-apart part.Target Source (seen_by O).log (seen_by N).log (told_by O).source (told_by N).source source touched logs (λ e. cc) (ap (λ (t : Told). t.source) told) kept.source_kept;
  target_kept = side-synced Target (seen_by O).log (seen_by N).log (told_by O).target (told_by N).target now.tree now touched logged is (ap (λ (t : Told). t.target) told) tree from;
  notes_kept = notes-apart part.Target (seen_by O).log (seen_by N).log (told_by O).notes (told_by N).notes notes logs (λ e. cc) (ap (λ (t : Told). t.notes) told) kept.notes_kept;
}

-- and where all that is told and the log stood
pub kept-told : (O N : MemSite) (source target : SyncedSide) (notes : SyncedNotes) (touched : List Touched) → IsKept O source target notes touched → (seen_by N).log ≡ (seen_by O).log → told_by N ≡ told_by O → IsKept N source target notes touched
kept-told O N source target notes touched kept logged told =
    kept-still O N source target notes touched kept logged (ap (λ (t : Told). t.source) told) (ap (λ (t : Told). t.target) told) (ap (λ (t : Told). t.notes) told)

-- The record

module _ (O N : MemSite) (source target : SyncedSide) (notes now : SyncedNotes) (touched : List Touched) (kept : IsKept O source target notes touched) (logs : LogsOn part.Record (seen_by O).log (seen_by N).log) (src : (told_by N).source ≡ (told_by O).source) (tgt : (told_by N).target ≡ (told_by O).target) where
  -- both sides stand
  notes-only : AreKeptNotes (seen_by N).log (told_by N).notes now → IsKept N source target now touched
  notes-only are = record {
    source_kept = side-apart part.Record Source (seen_by O).log (seen_by N).log (told_by O).source (told_by N).source source touched logs (λ e. cc) src kept.source_kept;
    target_kept = side-apart part.Record Target (seen_by O).log (seen_by N).log (told_by O).target (told_by N).target target touched logs (λ e. cc) tgt kept.target_kept;
    notes_kept = are;
  }

  pub kept-notes-synced : (seen_by N).log ≡ (seen_by O).log ++ notes_synced (told_by O).notes ∷ [] → (told_by N).notes ≡ (told_by O).notes → now.bytes.items ≡ (told_by O).notes → now.calls.items ≡ [] → IsKept N source target now touched
  kept-notes-synced logged stands bytes calls = notes-only (subst (λ (l : List Event). AreKeptNotes l (told_by N).notes now) (sym logged) (record {
    same = ap (λ b. record { bytes = b; calls = map notes_call_of now.calls.items }) bytes ∙ ap (λ cs. record { bytes = (told_by O).notes; calls = map notes_call_of cs }) calls ∙ sym (notes-synced (seen_by O).log (told_by O).notes);
    may = subst (MayPickNotes ((seen_by O).log ++ notes_synced (told_by O).notes ∷ [])) (sym stands) (notes-picks-synced (seen_by O).log (told_by O).notes);
  }))

  module _ (call : Called) (before : ℕ) (noted_calls : List Called) (counted : before ≡ length (seen_by O).log) (settles : Settles call before (length (seen_by N).log) notes.calls.items noted_calls now.calls.items) (bytes : now.bytes.items ≡ notes.bytes.items)
      (step : StepsNotes (notes_call_of call) (told_by O).notes (told_by N).notes) where
    notes_came : (seen_by N).log ≡ (seen_by O).log ++ noted (notes_call_of call) ∷ [] → IsKept N source target now touched
    notes_came logged =
        let calls : now.calls.items ≡ notes.calls.items ++ call ∷ [] =
        settled-came call before (length (seen_by N).log) notes.calls.items noted_calls now.calls.items settles (λ same. longer (seen_by O).log (noted (notes_call_of call)) (seen_by N).log logged (same ∙ counted)) in
        notes-only (subst (λ (l : List Event). AreKeptNotes l (told_by N).notes now) (sym logged) (record {
          same = ap (λ b. record { bytes = b; calls = map notes_call_of now.calls.items }) bytes ∙ ap (λ cs. record { bytes = notes.bytes.items; calls = cs }) (ap (map notes_call_of) calls ∙ map-append notes_call_of notes.calls.items (call ∷ []))
              ∙ ap (λ (k : KeptNotes). record k { calls = k.calls ++ notes_call_of call ∷ [] }) kept.notes_kept.same ∙ sym (notes-called (seen_by O).log (notes_call_of call));
          may = notes-picks-called (seen_by O).log (notes_call_of call) (told_by O).notes (told_by N).notes kept.notes_kept.may step;
        }))

    notes_stood : (seen_by N).log ≡ (seen_by O).log → (told_by N).notes ≡ (told_by O).notes → IsKept N source target now touched
    notes_stood logged stands =
        let calls : now.calls.items ≡ notes.calls.items = settled-stood call before (length (seen_by N).log) notes.calls.items noted_calls now.calls.items settles (ap length logged ∙ sym counted) in
        notes-only (notes-still (seen_by O).log (seen_by N).log (told_by O).notes (told_by N).notes now logged stands (record {
          same = ap (λ b. record { bytes = b; calls = map notes_call_of now.calls.items }) bytes ∙ ap (λ cs. record { bytes = notes.bytes.items; calls = map notes_call_of cs }) calls ∙ kept.notes_kept.same;
          may = kept.notes_kept.may;
        }))

    pub kept-notes-behind : {R : Type 0} (result : Result R SiteErr) (full : List ℕ) (half : List ℕ → List ℕ → Type 0) → NotesDone result full half (told_by O).notes (told_by N).notes → Logs result (noted (notes_call_of call)) (seen_by O).log (seen_by N).log → IsKept N source target now touched
    kept-notes-behind (Ok value) full half here logged = notes_came logged
    kept-notes-behind (Err Failed) full half here logged = notes_came logged
    kept-notes-behind (Err NoMemory) full half here (inl logged) = notes_stood logged here
    kept-notes-behind (Err NoMemory) full half here (inr logged) = notes_came logged

-- A site on which no call came

pub kept-new : (N : MemSite) (src tgt : Tree) (bytes : List ℕ) (source target : SyncedSide) (notes : SyncedNotes) (touched : List Touched) → (seen_by N).log ≡ synced Source src ∷ synced Target tgt ∷ notes_synced bytes ∷ [] → told_by N ≡ record { source = src; target = tgt; notes = bytes }
    → IsTree src → IsTree tgt → source ≡ record { tree = src; from = 0 } → target ≡ record { tree = tgt; from = 0 } → notes.bytes.items ≡ bytes → notes.calls.items ≡ [] → touched ≡ [] → IsKept N source target notes touched
kept-new N src tgt bytes source target notes touched logged told src_is tgt_is source_kept target_kept notes_kept calls none = record {
  source_kept = side-still Source log (seen_by N).log src (told_by N).source source touched logged (ap (λ (t : Told). t.source) told)
      (subst (λ (s : SyncedSide). IsKeptSide Source log src s touched) (sym source_kept) (subst (IsKeptSide Source log src (record { tree = src; from = 0 })) (sym none) (record { within = omega arith; same = refl; may = first })));
  target_kept = side-still Target log (seen_by N).log tgt (told_by N).target target touched logged (ap (λ (t : Told). t.target) told)
      (subst (λ (s : SyncedSide). IsKeptSide Target log tgt s touched) (sym target_kept) (subst (IsKeptSide Target log tgt (record { tree = tgt; from = 0 })) (sym none) (record { within = omega arith; same = refl; may = second })));
  notes_kept = notes-still log (seen_by N).log bytes (told_by N).notes notes logged (ap (λ (t : Told). t.notes) told) (record {
    same = ap (λ b. record { bytes = b; calls = map notes_call_of notes.calls.items }) notes_kept ∙ ap (λ cs. record { bytes = bytes; calls = map notes_call_of cs }) calls;
    may = third;
  });
}
  where
    log : List Event
    log = synced Source src ∷ synced Target tgt ∷ notes_synced bytes ∷ []

    first : MayPick Source (synced Source src ∷ synced Target tgt ∷ notes_synced bytes ∷ []) src
    first = (let one = picks-synced Source [] src src_is in record { kept = one.kept; tree = one.tree; picks = one.picks })

    second : MayPick Target (synced Source src ∷ synced Target tgt ∷ notes_synced bytes ∷ []) tgt
    second = (let one = picks-synced Target [] tgt tgt_is in record { kept = one.kept; tree = one.tree; picks = one.picks })

    third : MayPickNotes (synced Source src ∷ synced Target tgt ∷ notes_synced bytes ∷ []) bytes
    third = (let one = notes-picks-synced [] bytes in record { stands = one.stands; spoils = one.spoils })
