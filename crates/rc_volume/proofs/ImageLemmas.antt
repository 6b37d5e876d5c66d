-- What a stop may leave when one more event is in the log, and at earlier moments.
use Rattle.std.proofs.Common.{◌≡◌, ◌≢◌, ◌⊎◌, ◌≤◌, ℕ, arith, true, false, cond, List, [], ◌∷◌, ◌++◌, length, Option, refl, sym, ap, subst, ◌∙◌, inl, inr, length-append, append-nil, append_assoc}
use Rattle.std.proofs.lemmas.Bool.{cases_lt}
use Rattle.std.proofs.lemmas.List.{take_all, take-append-le}
use Rattle.std.proofs.lemmas.List.Elements.{filter-append}
use Rattle.std.specs.FinMap.{get}
use Rattle.rc_tree.specs.Tree.{Node, Tree, IsTree}
use Rattle.rc_volume.specs.declared.site.Part.{Part}
use Rattle.rc_volume.specs.declared.site.Part.TheVariants as part
use Rattle.rc_volume.specs.declared.site.Side.{Side}
use Rattle.rc_volume.specs.declared.site.Side.TheVariants.{Source, Target}
use Rattle.rc_volume.specs.Faults.{part_for}
use Rattle.rc_volume.specs.Images.{AllElsewhere, AllNoSync, CameBy, GoesBy, Half, IsElsewhere, IsNoSync, StepsBy, IsImage, IsImageSince, IsOnlyTree, AreOnlyNotes, LeftAfter, LeftBy, NotesLeftBy, MayLeave, MayLeaveNotes, StepsAt, StepsNotes}
use Rattle.rc_volume.specs.Log.{Event, EntryCall, NotesCall, LogsOn, changed, synced, noted, notes_synced, is_on, events_on}
use Rattle.rc_volume.specs.Site.{Maybe, Told}

-- One more event

on-this : (at : Part) (log : List Event) (event : Event) → is_on at event ≡ true → events_on at (log ++ event ∷ []) ≡ events_on at log ++ event ∷ []
on-this at log event is = filter-append (is_on at) log (event ∷ []) ∙ ap (λ b. events_on at log ++ cond b (event ∷ []) []) is

module _ {I : Type 0} (by : Event → (I → Type 0) → I → Type 0) where
  after-to : (left : I → Type 0) (events : List Event) (event : Event) (image : I) → LeftAfter by left (events ++ event ∷ []) image → by event (LeftAfter by left events) image
  after-to left [] event image h = h
  after-to left (first ∷ events) event image h = after-to (by first left) events event image h

  after-from : (left : I → Type 0) (events : List Event) (event : Event) (image : I) → by event (LeftAfter by left events) image → LeftAfter by left (events ++ event ∷ []) image
  after-from left [] event image h = h
  after-from left (first ∷ events) event image h = after-from (by first left) events event image h

  -- what is left by the events of a part when one more of them comes
  more-to : (at : Part) (left : I → Type 0) (log : List Event) (event : Event) (image : I) → is_on at event ≡ true → LeftAfter by left (events_on at (log ++ event ∷ [])) image → by event (LeftAfter by left (events_on at log)) image
  more-to at left log event image is h = after-to left (events_on at log) event image (subst (λ events. LeftAfter by left events image) (on-this at log event is) h)

  more-from : (at : Part) (left : I → Type 0) (log : List Event) (event : Event) (image : I) → is_on at event ≡ true → by event (LeftAfter by left (events_on at log)) image → LeftAfter by left (events_on at (log ++ event ∷ [])) image
  more-from at left log event image is h = subst (λ events. LeftAfter by left events image) (sym (on-this at log event is)) (after-from left (events_on at log) event image h)

-- Trees

-- what an event leaves is a tree
tree_by : (side : Side) (event : Event) (left : Tree → Type 0) (image : Tree) → ((tree : Tree) → left tree → IsTree tree) → LeftBy side event left image → IsTree image
tree_by Source (changed Source key call) left image trees h = h.2.tree
tree_by Target (changed Target key call) left image trees h = h.2.tree
tree_by Source (changed Target key call) left image trees h = trees image h
tree_by Target (changed Source key call) left image trees h = trees image h
tree_by Source (synced Source tree) left image trees h = h.1
tree_by Target (synced Target tree) left image trees h = h.1
tree_by Source (synced Target tree) left image trees h = trees image h
tree_by Target (synced Source tree) left image trees h = trees image h
tree_by Source (noted call) left image trees h = trees image h
tree_by Target (noted call) left image trees h = trees image h
tree_by Source (notes_synced notes) left image trees h = trees image h
tree_by Target (notes_synced notes) left image trees h = trees image h

trees_after : (side : Side) (left : Tree → Type 0) (events : List Event) (image : Tree) → ((tree : Tree) → left tree → IsTree tree) → LeftAfter (LeftBy side) left events image → IsTree image
trees_after side left [] image trees h = trees image h
trees_after side left (event ∷ events) image trees h =
    trees_after side (LeftBy side event left) events image (λ tree by. tree_by side event left tree trees by) h

pub images_are_trees : (side : Side) (log : List Event) (image : Tree) → MayLeave side log image → IsTree image
images_are_trees side log image h = trees_after side IsTree (events_on (part_for side) log) image (λ tree is. is) h

-- Calls and syncs

pub one_step : (side : Side) (log : List Event) (key : List (List ℕ)) (call : EntryCall) (image : Tree) → MayLeave side (log ++ changed side key call ∷ []) image → (old : Tree) × MayLeave side log old × StepsAt key call old image
one_step Source log key call image h = more-to (LeftBy Source) part.Source IsTree log (changed Source key call) image refl h
one_step Target log key call image h = more-to (LeftBy Target) part.Target IsTree log (changed Target key call) image refl h

pub each_step : (side : Side) (log : List Event) (key : List (List ℕ)) (call : EntryCall) (old image : Tree) → MayLeave side log old → StepsAt key call old image → MayLeave side (log ++ changed side key call ∷ []) image
each_step Source log key call old image left step = more-from (LeftBy Source) part.Source IsTree log (changed Source key call) image refl (old, left, step)
each_step Target log key call old image left step = more-from (LeftBy Target) part.Target IsTree log (changed Target key call) image refl (old, left, step)

pub not_begun : (side : Side) (log : List Event) (key : List (List ℕ)) (call : EntryCall) (image : Tree) → MayLeave side log image → MayLeave side (log ++ changed side key call ∷ []) image
not_begun side log key call image left = each_step side log key call image image left (record { here = inl refl; others = λ other apart. refl; tree = images_are_trees side log image left })

pub only_tree : (side : Side) (log : List Event) (tree : Tree) → IsTree tree → IsOnlyTree side (log ++ synced side tree ∷ []) tree
only_tree Source log tree is = record {
  left = more-from (LeftBy Source) part.Source IsTree log (synced Source tree) tree refl (refl, is);
  only = λ image h. (more-to (LeftBy Source) part.Source IsTree log (synced Source tree) image refl h).0;
}
only_tree Target log tree is = record {
  left = more-from (LeftBy Target) part.Target IsTree log (synced Target tree) tree refl (refl, is);
  only = λ image h. (more-to (LeftBy Target) part.Target IsTree log (synced Target tree) image refl h).0;
}

pub one_notes_step : (log : List Event) (call : NotesCall) (image : List ℕ) → MayLeaveNotes (log ++ noted call ∷ []) image → (old : List ℕ) × MayLeaveNotes log old × StepsNotes call old image
one_notes_step log call image h = more-to NotesLeftBy part.Record (λ _. Unit {0}) log (noted call) image refl h

pub each_notes_step : (log : List Event) (call : NotesCall) (old image : List ℕ) → MayLeaveNotes log old → StepsNotes call old image → MayLeaveNotes (log ++ noted call ∷ []) image
each_notes_step log call old image left step = more-from NotesLeftBy part.Record (λ _. Unit {0}) log (noted call) image refl (old, left, step)

pub only_notes : (log : List Event) (notes : List ℕ) → AreOnlyNotes (log ++ notes_synced notes ∷ []) notes
only_notes log notes = record {
  left = more-from NotesLeftBy part.Record (λ _. Unit {0}) log (notes_synced notes) notes refl refl;
  only = λ image h. more-to NotesLeftBy part.Record (λ _. Unit {0}) log (notes_synced notes) image refl h;
}

-- Other parts

pub tree_stands : (at : Part) (side : Side) (old new : List Event) (image : Tree) → LogsOn at old new → part_for side ≢ at → MayLeave side new image → MayLeave side old image
tree_stands at side old new image logs apart h = subst (λ events. LeftAfter (LeftBy side) IsTree events image) (logs (part_for side) apart) h

pub notes_stand : (at : Part) (old new : List Event) (image : List ℕ) → LogsOn at old new → part.Record ≢ at → MayLeaveNotes new image → MayLeaveNotes old image
notes_stand at old new image logs apart h = subst (λ events. LeftAfter NotesLeftBy (λ _. Unit {0}) events image) (logs part.Record apart) h

-- Later calls

-- a foreign event changes nothing that is left of a side
skip : (at : Part) (log : List Event) (event : Event) → is_on at event ≡ false → events_on at (log ++ event ∷ []) ≡ events_on at log
skip at log event is = filter-append (is_on at) log (event ∷ []) ∙ ap (λ b. events_on at log ++ cond b (event ∷ []) []) is ∙ append-nil (events_on at log)

foreign : (side : Side) (log : List Event) (event : Event) (image : Tree) → is_on (part_for side) event ≡ false → MayLeave side (log ++ event ∷ []) image → MayLeave side log image
foreign side log event image is h = subst (λ events. LeftAfter (LeftBy side) IsTree events image) (skip (part_for side) log event is) h

-- the one step back from an image over a log with one more event
pub record Back (side : Side) (log : List Event) (event : Event) (image : Tree) : Type 0 where
  pub old : Tree
  pub left : MayLeave side log old
  pub steps : (key : List (List ℕ)) → StepsBy side key event (get old key) (get image key)

stays_back : (side : Side) (log : List Event) (event : Event) (image : Tree) → MayLeave side log image → ((key : List (List ℕ)) (node : Option Node) → StepsBy side key event node node) → Back side log event image
stays_back side log event image left same = record { old = image; left = left; steps = λ key. same key (get image key) }

pub back : (side : Side) (log : List Event) (event : Event) (image : Tree) → IsNoSync side event → MayLeave side (log ++ event ∷ []) image → Back side log event image
back Source log (changed Source at call) image no_sync h =
    let step = one_step Source log at call image h in
    record {
      old = step.0;
      left = step.1;
      steps = λ key. (λ same. subst (λ k. Maybe (Half call) (get step.0 k) (get image k)) same step.2.here, λ apart. step.2.others key (λ e. apart (sym e)));
    }
back Target log (changed Target at call) image no_sync h =
    let step = one_step Target log at call image h in
    record {
      old = step.0;
      left = step.1;
      steps = λ key. (λ same. subst (λ k. Maybe (Half call) (get step.0 k) (get image k)) same step.2.here, λ apart. step.2.others key (λ e. apart (sym e)));
    }
back Source log (changed Target at call) image no_sync h = stays_back Source log (changed Target at call) image (foreign Source log (changed Target at call) image refl h) (λ key node. refl)
back Target log (changed Source at call) image no_sync h = stays_back Target log (changed Source at call) image (foreign Target log (changed Source at call) image refl h) (λ key node. refl)
back Source log (synced Source tree) image no_sync h = absurd no_sync
back Target log (synced Target tree) image no_sync h = absurd no_sync
back Source log (synced Target tree) image no_sync h = stays_back Source log (synced Target tree) image (foreign Source log (synced Target tree) image refl h) (λ key node. refl)
back Target log (synced Source tree) image no_sync h = stays_back Target log (synced Source tree) image (foreign Target log (synced Source tree) image refl h) (λ key node. refl)
back Source log (noted call) image no_sync h = stays_back Source log (noted call) image (foreign Source log (noted call) image refl h) (λ key node. refl)
back Target log (noted call) image no_sync h = stays_back Target log (noted call) image (foreign Target log (noted call) image refl h) (λ key node. refl)
back Source log (notes_synced notes) image no_sync h = stays_back Source log (notes_synced notes) image (foreign Source log (notes_synced notes) image refl h) (λ key node. refl)
back Target log (notes_synced notes) image no_sync h = stays_back Target log (notes_synced notes) image (foreign Target log (notes_synced notes) image refl h) (λ key node. refl)

-- an image over later events is one before them, gone on by those events
pub came_by : (side : Side) (log later : List Event) (image : Tree) → AllNoSync side later → MayLeave side (log ++ later) image → (old : Tree) × MayLeave side log old × CameBy side later old image
came_by side log [] image none h = (image, subst (λ events. MayLeave side events image) (append-nil log) h, record { each = λ key. refl })
came_by side log (event ∷ later) image none h =
    let rest = came_by side (log ++ event ∷ []) later image none.1 (subst (λ events. MayLeave side events image) (sym (append_assoc log (event ∷ []) later)) h) in
    let one = back side log event rest.0 none.0 rest.1 in
    (one.old, one.left, record { each = λ key. (get rest.0 key, one.steps key, rest.2.each key) })

-- a key without calls stands
pub stands_by : (side : Side) (key : List (List ℕ)) (later : List Event) (old new : Option Node) → AllElsewhere side key later → GoesBy side key later old new → new ≡ old
stands_by side key [] old new none h = h
stands_by side key (event ∷ later) old new none h = stands_by side key later h.0 new none.1 h.2 ∙ stands_at side event none.0 h.1
  where
    stands_at : (side : Side) (event : Event) {old mid : Option Node} → IsElsewhere side key event → StepsBy side key event old mid → mid ≡ old
    stands_at Source (changed Source at call) apart step = step.1 apart
    stands_at Target (changed Target at call) apart step = step.1 apart
    stands_at Source (changed Target at call) apart step = step
    stands_at Target (changed Source at call) apart step = step
    stands_at Source (synced Source tree) apart step = step
    stands_at Target (synced Target tree) apart step = step
    stands_at Source (synced Target tree) apart step = step
    stands_at Target (synced Source tree) apart step = step
    stands_at Source (noted call) apart step = step
    stands_at Target (noted call) apart step = step
    stands_at Source (notes_synced notes) apart step = step
    stands_at Target (notes_synced notes) apart step = step

-- Moments

pub now_is_since : (log : List Event) (start : ℕ) (image : Told) → start ≤ length log → IsImage log image → IsImageSince log start image
now_is_since log start image le left = record {
  moment = length log;
  later = le;
  passed = omega arith;
  left = subst (λ events. IsImage events image) (sym (take_all (length log) log (omega arith))) left;
}

pub since_now : (log : List Event) (image : Told) → IsImageSince log (length log) image → IsImage log image
since_now log image since = subst (λ events. IsImage events image) (take_all since.moment log since.later) since.left

pub time_goes_on : (log : List Event) (event : Event) (start : ℕ) (image : Told) → IsImageSince (log ++ event ∷ []) start image → IsImageSince log start image ⊎ IsImage (log ++ event ∷ []) image
time_goes_on log event start image since = elim (cases_lt (length log) since.moment) [
  | inr le ↦ inl (record {
    moment = since.moment;
    later = since.later;
    passed = le;
    left = subst (λ events. IsImage events image) (take-append-le since.moment log (event ∷ []) le) since.left;
  })
  | inl gt ↦ inr (subst (λ events. IsImage events image) (take_all since.moment (log ++ event ∷ []) (omega (arith, length-append log (event ∷ [])))) since.left)
]

pub past_stands : (log : List Event) (event : Event) (start : ℕ) (image : Told) → IsImageSince log start image → IsImageSince (log ++ event ∷ []) start image
past_stands log event start image since = record {
  moment = since.moment;
  later = since.later;
  passed = omega (arith, length-append log (event ∷ []), since.passed);
  left = subst (λ events. IsImage events image) (sym (take-append-le since.moment log (event ∷ []) since.passed)) since.left;
}

-- How logs join

pub logs_then : (at : Part) (old mid new : List Event) → LogsOn at old mid → LogsOn at mid new → LogsOn at old new
logs_then at old mid new first then other apart = then other apart ∙ first other apart

pub logs_behind : (at : Part) (old mid new : List Event) → mid ≡ old → LogsOn at mid new → LogsOn at old new
logs_behind at old mid new same then = subst (λ (log : List Event). LogsOn at log new) same then
