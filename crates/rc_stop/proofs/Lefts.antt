-- Each image that a choice picks is one that a stop may leave.
use Rattle.std.proofs.Common.{◌≡◌, ◌⊎◌, ℕ, zero, suc, ◌+◌, ◌-◌, min, arith, true, false, cond, List, [], ◌∷◌, ◌++◌, length, take, drop, replicate, refl, sym, ap, subst, ◌∙◌, inl, inr}
use Rattle.std.specs.Prelude.{◌&&◌, ◌%◌}
use Rattle.std.specs.FinMap.{get}
use Rattle.rc_tree.specs.Tree.{Tree, IsTree}
use Rattle.rc_volume.specs.declared.site.Side.{Side}
use Rattle.rc_volume.specs.declared.site.Side.TheVariants.{Source, Target}
use Rattle.rc_volume.specs.Images.{IsImage, MayLeave, MayLeaveNotes}
use Rattle.rc_volume.specs.Log.{Event, NotesCall, write, cut}
use Rattle.rc_volume.specs.Site.{Told}
use Rattle.rc_stop.specs.declared.kept.SyncedNotes.{SyncedNotes}
use Rattle.rc_stop.specs.declared.kept.SyncedSide.{SyncedSide}
use Rattle.rc_stop.specs.declared.kept.Touched.{Touched}
use Rattle.rc_mem.specs.declared.site.MemSite.{MemSite}
use Rattle.rc_stop.specs.Kept.{Kept, KeptNotes, MayPick, MayPickNotes, filled, kept_in, notes_in, spoiled}
use Rattle.rc_stop.specs.KeptSite.{IsKept, kept_of, notes_of}
use Rattle.rc_mem.specs.MemSite.{seen_by, told_by}
use Rattle.rc_stop.specs.Stops.{any_call, draws_odd, drawn, is_odd, next_state, record_left, side_left}
use Rattle.rc_stop.proofs.Growing.{picked-either}

-- of a side
left_side : (side : Side) (log : List Event) (reads : Tree) (kept : Kept) (choice x : ℕ) (image : Tree) → kept ≡ kept_in side log → MayPick side log reads → side_left choice x kept reads image → MayLeave side log image
left_side side log reads kept zero x image same may is =
    may.picks image (subst IsTree (sym is) may.tree) (λ key. inl (ap (λ t. get t key) is))
left_side side log reads kept (suc zero) x image same may is =
    let tree : image ≡ (kept_in side log).tree = is ∙ ap (λ (k : Kept). k.tree) same in
    may.picks image (subst IsTree (sym tree) may.kept) (λ key. inr (ap (λ t. get t key) tree))
left_side side log reads kept (suc (suc n)) x image same may is =
    let tree : kept.tree ≡ (kept_in side log).tree = ap (λ (k : Kept). k.tree) same in
    may.picks image is.tree (λ key. subst (λ t. (get image key ≡ get reads key) ⊎ (get image key ≡ get t key)) tree
    (picked-either (draws_odd x kept.touched) kept.tree reads image (subst IsTree (sym tree) may.kept) may.tree is key))

-- below no limit nothing is filled
filled-none : (byte : ℕ) (call : NotesCall) (bytes : List ℕ) → filled byte 0 call bytes ≡ bytes
filled-none byte (cut len) bytes = refl
filled-none byte (write off len) bytes =
    let first : min off 0 ≡ 0 = omega arith in
    let second : min (off + len) 0 ≡ 0 = omega arith in
    ap (λ n. take n bytes ++ replicate (min (off + len) 0 - n) byte ++ drop (min (off + len) 0) bytes) first
    ∙ ap (λ n. take 0 bytes ++ replicate (n - 0) byte ++ drop n bytes) second

spoiled-none : (byte : ℕ) (calls : List NotesCall) (bytes : List ℕ) → spoiled byte 0 calls bytes ≡ bytes
spoiled-none byte [] bytes = refl
spoiled-none byte (call ∷ calls) bytes = ap (spoiled byte 0 calls) (filled-none byte call bytes) ∙ spoiled-none byte calls bytes

-- of the record
left_notes : (log : List Event) (reads : List ℕ) (choice x : ℕ) → MayPickNotes log reads → MayLeaveNotes log (record_left choice x (notes_in log) reads)
left_notes log reads zero x may = may.stands
left_notes log reads (suc zero) x may = subst (MayLeaveNotes log) (spoiled-none 0 (notes_in log).calls (notes_in log).bytes) (may.spoils 0 0 (omega arith))
left_notes log reads (suc (suc n)) x may =
    elim (any_call (notes_in log).calls && is_odd (next_state x)) as (λ b. MayLeaveNotes log (cond b (spoiled (drawn (next_state x) % 256) (min (length (notes_in log).bytes) (length reads)) (notes_in log).calls (notes_in log).bytes) reads)) [
      | true ↦ may.spoils (drawn (next_state x) % 256) (min (length (notes_in log).bytes) (length reads)) (omega arith)
      | false ↦ may.stands
    ]

pub image-left : (site : MemSite) (source target : SyncedSide) (notes : SyncedNotes) (touched : List Touched) (choice one two three : ℕ) (first second : Tree) (bytes : List ℕ) (image : Told) → IsKept site source target notes touched
    → side_left choice one (kept_of Source source touched) (told_by site).source first → side_left choice two (kept_of Target target touched) (told_by site).target second → bytes ≡ record_left choice three (notes_of notes) (told_by site).notes
    → image ≡ record { source = first; target = second; notes = bytes } → IsImage (seen_by site).log image
image-left site source target notes touched choice one two three first second bytes image kept a b c is = subst (IsImage (seen_by site).log) (sym is) (record {
  source = left_side Source (seen_by site).log (told_by site).source (kept_of Source source touched) choice one first kept.source_kept.same kept.source_kept.may a;
  target = left_side Target (seen_by site).log (told_by site).target (kept_of Target target touched) choice two second kept.target_kept.same kept.target_kept.may b;
  notes = subst (MayLeaveNotes (seen_by site).log) (sym (c ∙ ap (λ (k : KeptNotes). record_left choice three k (told_by site).notes) kept.notes_kept.same)) (left_notes (seen_by site).log (told_by site).notes choice three kept.notes_kept.may);
})
