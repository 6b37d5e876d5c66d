-- What calls on one key of a side make of a site, one attempt after another.
use Rattle.std.proofs.Common.{◌≡◌, ◌≤◌, ℕ, ◌+◌, Bool, List, ◌++◌, Option, Some, None, replicate, refl, sym, ap, subst, ◌∙◌, inl, inr, arith, append_assoc, append-nil}
use Rattle.std.proofs.lemmas.List.{replicate-append-replicate}
use Rattle.std.specs.Prelude.{Result, Ok, Err, IsSome, option_map}
use Rattle.rc_tree.specs.declared.props.Props.{Props}
use Rattle.rc_tree.specs.Tree.{Node}
use Rattle.rc_volume.specs.declared.site.Part.{Part}
use Rattle.rc_volume.specs.declared.site.Side.{Side}
use Rattle.rc_volume.specs.declared.site.SiteErr.{SiteErr}
use Rattle.rc_volume.specs.declared.site.SiteErr.TheVariants as site_err
use Rattle.rc_volume.specs.Faults.{Cause, Counts, free, on, quiet, part_cause, part_for}
use Rattle.rc_volume.specs.Frames.{ChangesAt}
use Rattle.rc_volume.specs.Log.{Event, Logs}
use Rattle.rc_volume.specs.Site.{Becomes, Change, Maybe, Seen, SetsProps, with_props}
use Rattle.rc_volume.proofs.ImageLemmas.{logs_then}
use Rattle.rc_finish.specs.declared.err.FinishErr.{FinishErr}
use Rattle.rc_finish.specs.Calls.{fault_of, finish_cause, LogsEach}
use Rattle.rc_finish.specs.Passes.{IsNow}

-- two calls at one key
pub changes_then : (side : Side) (tells : Bool) (key : List (List ℕ)) (first second both : Change) (one two cause : Cause) (start mid new : Seen) → ((o m n : Option Node) → first o m → second m n → both o n) → (Counts one start.faults mid.faults → Counts two mid.faults new.faults → Counts cause start.faults new.faults) → ChangesAt tells side key first one start mid → ChangesAt tells side key second two mid new → ChangesAt tells side key both cause start new
changes_then side tells key first second both one two cause start mid new join counts f g = record {
  here = λ t. join _ _ _ (f.here t) (g.here t);
  elsewhere = λ t. record {
    others = λ other apart. (g.elsewhere t).others other apart ∙ (f.elsewhere t).others other apart;
    other_tree = (g.elsewhere t).other_tree ∙ (f.elsewhere t).other_tree;
    notes = (g.elsewhere t).notes ∙ (f.elsewhere t).notes;
  };
  log = λ t. logs_then (part_for side) _ _ _ (f.log t) (g.log t);
  opened = g.opened ∙ f.opened;
  bound = g.bound ∙ f.bound;
  counts = counts f.counts g.counts;
}

-- Counts of faults

free_counts : (at : Part) (n : ℕ) (a b c : Part → ℕ) → Counts (on at n) a b → Counts quiet b c → Counts free a c
free_counts at n a b c rose same part = omega (arith, rose.1 part, same part)

more_counts : (at : Part) (e : SiteErr) (n : ℕ) (a b c : Part → ℕ) → e ≡ site_err.Failed → Counts (on at n) a b → Counts (part_cause {T = Unit {0}} at (Err e)) b c → Counts (on at (n + 1)) a c
more_counts at site_err.Failed n a b c is rose again = (omega (arith, rose.0, again.0), λ part. omega (arith, rose.1 part, again.1 part))
more_counts at site_err.NoMemory n a b c is rose again = absurd (differ is)
  where
    differ : site_err.NoMemory ≡ site_err.Failed → ⊥
    differ e = cc

memory_counts : (at : Part) (e : SiteErr) (n : ℕ) (a b c : Part → ℕ) → Counts (on at n) a b → Counts (part_cause {T = Unit {0}} at (Err e)) b c → Counts free a c
memory_counts at site_err.Failed n a b c rose again part = omega (arith, rose.1 part, again.1 part)
memory_counts at site_err.NoMemory n a b c rose again part = omega (arith, rose.1 part, again part)

last_counts : (side : Side) (e : SiteErr) (n retries : ℕ) (a b c : Part → ℕ) → retries ≤ n → Counts (on (part_for side) n) a b → Counts (part_cause {T = Unit {0}} (part_for side) (Err e)) b c → Counts (finish_cause {T = Unit {0}} retries (Err (fault_of e side))) a c
last_counts side site_err.Failed n retries a b c le rose again = (omega (arith, le, rose.0, again.0), λ part. omega (arith, rose.1 part, again.1 part))
last_counts side site_err.NoMemory n retries a b c le rose again = λ part. omega (arith, rose.1 part, again part)

-- A change that is the same when it is done again

module _ (side : Side) (change : Option Node → Option Node) (again : (o : Option Node) → change (change o) ≡ change o) where
  maybe_done : (o m n : Option Node) → Maybe (IsNow change) o m → IsNow change m n → IsNow change o n
  maybe_done o m n (inl stays) done = done ∙ ap change stays
  maybe_done o m n (inr was) done = done ∙ ap change was ∙ again o

  maybe_more : (o m n : Option Node) → Maybe (IsNow change) o m → Maybe (IsNow change) m n → Maybe (IsNow change) o n
  maybe_more o m n first (inr done) = inr (maybe_done o m n first done)
  maybe_more o m n (inl same) (inl stays) = inl (stays ∙ same)
  maybe_more o m n (inr was) (inl stays) = inr (stays ∙ was)

  -- the attempt that succeeds
  pub done_at_last : (tells : Bool) (key : List (List ℕ)) (n : ℕ) (start mid new : Seen) → ChangesAt tells side key (Maybe (IsNow change)) (on (part_for side) n) start mid → ChangesAt tells side key (IsNow change) quiet mid new → ChangesAt tells side key (IsNow change) free start new
  done_at_last tells key n start mid new = changes_then side tells key (Maybe (IsNow change)) (IsNow change) (IsNow change) (on (part_for side) n) quiet free start mid new maybe_done (free_counts (part_for side) n start.faults mid.faults new.faults)

  -- one that fails, and is not the last
  pub failed_once_more : (tells : Bool) (key : List (List ℕ)) (n : ℕ) (e : SiteErr) (start mid new : Seen) → e ≡ site_err.Failed → ChangesAt tells side key (Maybe (IsNow change)) (on (part_for side) n) start mid → ChangesAt tells side key (Maybe (IsNow change)) (part_cause {T = Unit {0}} (part_for side) (Err e)) mid new → ChangesAt tells side key (Maybe (IsNow change)) (on (part_for side) (n + 1)) start new
  failed_once_more tells key n e start mid new is = changes_then side tells key (Maybe (IsNow change)) (Maybe (IsNow change)) (Maybe (IsNow change)) (on (part_for side) n) (part_cause {T = Unit {0}} (part_for side) (Err e)) (on (part_for side) (n + 1)) start mid new maybe_more (more_counts (part_for side) e n start.faults mid.faults new.faults is)

  -- one for which memory is wanting
  pub out_of_memory : (tells : Bool) (key : List (List ℕ)) (n : ℕ) (e : SiteErr) (start mid new : Seen) → ChangesAt tells side key (Maybe (IsNow change)) (on (part_for side) n) start mid → ChangesAt tells side key (Maybe (IsNow change)) (part_cause {T = Unit {0}} (part_for side) (Err e)) mid new → ChangesAt tells side key (Maybe (IsNow change)) free start new
  out_of_memory tells key n e start mid new = changes_then side tells key (Maybe (IsNow change)) (Maybe (IsNow change)) (Maybe (IsNow change)) (on (part_for side) n) (part_cause {T = Unit {0}} (part_for side) (Err e)) free start mid new maybe_more (memory_counts (part_for side) e n start.faults mid.faults new.faults)

  -- and the last one
  pub failed_at_last : (tells : Bool) (key : List (List ℕ)) (n retries : ℕ) (e : SiteErr) (err : FinishErr) (start mid new : Seen) → err ≡ fault_of e side → retries ≤ n → ChangesAt tells side key (Maybe (IsNow change)) (on (part_for side) n) start mid → ChangesAt tells side key (Maybe (IsNow change)) (part_cause {T = Unit {0}} (part_for side) (Err e)) mid new → ChangesAt tells side key (Maybe (IsNow change)) (finish_cause {T = Unit {0}} retries (Err err)) start new
  failed_at_last tells key n retries e err start mid new is le f g =
      subst (λ (x : FinishErr). ChangesAt tells side key (Maybe (IsNow change)) (finish_cause {T = Unit {0}} retries (Err x)) start new) (sym is)
      (changes_then side tells key (Maybe (IsNow change)) (Maybe (IsNow change)) (Maybe (IsNow change)) (on (part_for side) n) (part_cause {T = Unit {0}} (part_for side) (Err e)) (finish_cause {T = Unit {0}} retries (Err (fault_of e side))) start mid new maybe_more (last_counts side e n retries start.faults mid.faults new.faults le) f g)

-- The log

pub each_then : (event : Event) (old mid new : List Event) → LogsEach event old mid → LogsEach event mid new → LogsEach event old new
each_then event old mid new first second =
    (first.0 + second.0, second.1 ∙ ap (λ (log : List Event). log ++ replicate second.0 event) first.1 ∙ append_assoc old (replicate first.0 event) (replicate second.0 event) ∙ ap (λ (more : List Event). old ++ more) (replicate-append-replicate first.0 second.0 event))

pub each_logs : (result : Result (Unit {0}) SiteErr) (event : Event) (old new : List Event) → Logs result event old new → LogsEach event old new
each_logs (Ok value) event old new is = (1, is)
each_logs (Err site_err.Failed) event old new is = (1, is)
each_logs (Err site_err.NoMemory) event old new (inl same) = (0, same ∙ sym (append-nil old))
each_logs (Err site_err.NoMemory) event old new (inr is) = (1, is)

-- Properties

pub set_again : (props : Props) (o : Option Node) → option_map (with_props props) (option_map (with_props props) o) ≡ option_map (with_props props) o
set_again props None = refl
set_again props (Some node) = refl

-- what a failed call says in the words of an attempt
pub set_perhaps : (side : Side) (e : SiteErr) (props : Props) (cause : Cause) (tells : Bool) (key : List (List ℕ)) (mid new : Seen) → ChangesAt tells side key (SetsProps {T = Unit {0}} (Err e) props) cause mid new → ChangesAt tells side key (Maybe (Becomes (with_props props))) cause mid new
set_perhaps side e props cause tells key mid new f = record {
  here = λ t. by e (f.here t);
  elsewhere = f.elsewhere;
  log = f.log;
  opened = f.opened;
  bound = f.bound;
  counts = f.counts;
}
  where
    by : (e : SiteErr) {o n : Option Node} → SetsProps {T = Unit {0}} (Err e) props o n → Maybe (Becomes (with_props props)) o n
    by site_err.Failed h = h
    by site_err.NoMemory h = inl h

pub still_some : (props : Props) (o n : Option Node) → IsSome o → Maybe (Becomes (with_props props)) o n → IsSome n
still_some props o n some (inl same) = subst IsSome (sym same) some
still_some props None n some (inr done) = subst IsSome (sym done) some
still_some props (Some node) n some (inr done) = subst IsSome (sym done) some
