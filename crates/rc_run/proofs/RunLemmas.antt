-- What the steps of a run say of it, by how it ends.
use Rattle.std.proofs.Common.{◌≡◌, ℕ, ◌+◌, zero, suc, ◌<◌, ◌≤◌, Bool, true, false, not, ◌&&◌, ◌||◌, List, [], ◌∷◌, ◌++◌, Option, Some, None, length, get_or, inl, inr, refl, sym, ap, subst, ◌∙◌, arith}
use Rattle.std.proofs.Math.Seq.{take-length}
use Rattle.std.proofs.lemmas.Bool.{true≢false, ltb-false}
use Rattle.std.proofs.lemmas.List.{append-nil}
use Rattle.std.specs.Prelude.{◌^◌, ◌⊎◌, All, Result, Ok, Err, option_map, nat_lt, if◌then◌else◌}
use Rattle.std.specs.FinMap.{get}
use Rattle.std.specs.List.{count_by, list_any}
use Rattle.rc_tree.specs.Tree.{IsTree, Node, Tree}
use Rattle.rc_tree.proofs.Keys.{same_tree}
use Rattle.rc_class.specs.declared.decision.Act.{Act}
use Rattle.rc_class.specs.declared.decision.Act.TheVariants.{Copy, Make, Touch, Fix, Purge, Extra, Mismatch, Keep}
use Rattle.rc_class.specs.declared.item.Item.{Item}
use Rattle.rc_class.specs.declared.plan.Plan.{Plan}
use Rattle.rc_class.specs.Goal.{is_left, source_goal, target_goal}
use Rattle.rc_class.specs.Items.{item_at}
use Rattle.rc_class.specs.Sides.{IsDecidedIn}
use Rattle.rc_class.specs.Start.{IsPlanOf}
use Rattle.rc_class.specs.Units.{is_copy}
use Rattle.rc_copy.specs.declared.err.CopyErr.{CopyErr}
use Rattle.rc_copy.specs.declared.err.CopyErr.TheVariants as copy_err
use Rattle.rc_copy.specs.Copying.{AreDecided, AreSmallCopies, CopiesFiles, Rests, copies_any, copy_cause}
use Rattle.rc_copy.proofs.ItemLemmas.{found_item}
use Rattle.rc_finish.specs.Passes.{HasPassed, given, gives_props, has_any, is_purge, pass_at, with_given}
use Rattle.rc_job.specs.declared.job.Job.{Job}
use Rattle.rc_filter.specs.Acts.{copies_bytes, rules_of}
use Rattle.rc_filter.specs.Decided.{decided_at, start_of}
use Rattle.rc_class.specs.declared.rules.Rules.{Rules}
use Rattle.rc_finish.specs.declared.err.FinishErr.{FinishErr}
use Rattle.rc_finish.specs.declared.err.FinishErr.TheVariants as finish_err
use Rattle.rc_finish.specs.Calls.{Gives, IsCallFor, LogsPass, finish_cause}
use Rattle.rc_volume.specs.declared.site.Part.{Part}
use Rattle.rc_volume.specs.declared.site.Part.TheVariants as part
use Rattle.rc_volume.specs.declared.site.Side.TheVariants as side
use Rattle.rc_volume.specs.declared.site.Side.TheVariants.{Target}
use Rattle.rc_volume.specs.Faults.{Cause, Counts, free, on, part_for}
use Rattle.rc_volume.specs.Frames.{ChangesSide}
use Rattle.rc_volume.specs.Images.{IsOnlyTree}
use Rattle.rc_volume.specs.Log.{Event, LogsOn, synced}
use Rattle.rc_plan.specs.declared.plan.PlanErr.{PlanErr}
use Rattle.rc_plan.specs.declared.plan.PlanErr.TheVariants as plan_err
use Rattle.rc_plan.specs.Limits.{first_too_big, has_source, has_target, is_too_big, limit_of, too_big}
use Rattle.rc_plan.specs.Plan.{AreTrees, MayRefuse, limit_in, start_in}
use Rattle.rc_report.specs.Report.{report_of}
use Rattle.rc_volume.specs.Streams.{AppendsFront}
use Rattle.rc_volume.specs.Site.{Seen, Told}
use Rattle.rc_run.specs.declared.outcome.Outcome.{Outcome}
use Rattle.rc_run.specs.declared.outcome.Outcome.TheVariants.{NotYet}
use Rattle.rc_run.specs.declared.outcome.Unbuilt.TheVariants as unbuilt
use Rattle.rc_run.specs.Answers.{Answers, IsInMode, IsSilentBefore, RunLeaves, Sends, copying_of, is_empty, report_by, report_in, site_refusal, uncopied, unfinished, unplanned}
use Rattle.rc_run.specs.Goal.{IsMirrored, items_at}
use Rattle.rc_run.specs.Outcome.{Ending, EndsAt, at_copies, at_end, at_limits, at_listing, at_record, at_report, at_words, cause_of, ending, failed, finished, first_step, is_reported, last_step, listed, out_of_memory, refused, unreported, unstored}
use Rattle.rc_run.specs.Under.{AreReleased, AreReleasing, AreUnderWay, HaveGoals, IsLasting, IsLastingOn, IsReleasing, ReleasesLast, changes_any}
use Rattle.rc_run.proofs.PassLemmas.{ArePassable}

-- What is written

pub AppendsFront-none : (old bytes : List ℕ) → AppendsFront old bytes old
AppendsFront-none old bytes = (0, omega arith, sym (append-nil old))

-- all of the bytes are a front of them
pub AppendsFront-all : (old bytes new : List ℕ) → new ≡ old ++ bytes → AppendsFront old bytes new
AppendsFront-all old bytes new e = (length bytes, omega arith, e ∙ ap (λ (bs : List ℕ). old ++ bs) (sym (take-length bytes)))

-- How it ends

-- an answer of some steps comes between them
pub EndsAt-first : (from to : ℕ) (holds : Type 0) (e : Ending) → EndsAt from to holds e → first_step e ≤ to
EndsAt-first from to holds (refused step) h = h.1
EndsAt-first from to holds (failed step part) h = h.1
EndsAt-first from to holds unstored h = h.1
EndsAt-first from to holds unreported h = h.1
EndsAt-first from to holds finished h = h.1
EndsAt-first from to holds listed h = h.1
EndsAt-first from to holds out_of_memory h = omega arith

pub EndsAt-last : (from to : ℕ) (holds : Type 0) (e : Ending) → EndsAt from to holds e → from ≤ last_step e
EndsAt-last from to holds (refused step) h = h.0
EndsAt-last from to holds (failed step part) h = h.0
EndsAt-last from to holds unstored h = h.0
EndsAt-last from to holds unreported h = h.0
EndsAt-last from to holds finished h = h.0
EndsAt-last from to holds listed h = h.0
EndsAt-last from to holds out_of_memory h = h

-- and the report is whole behind the last of them alone
pub EndsAt-unreported : (from to : ℕ) (holds : Type 0) (e : Ending) → to < at_end → EndsAt from to holds e → is_reported e ≡ true → ⊥
EndsAt-unreported from to holds (refused step) l h same = absurd (true≢false (sym same))
EndsAt-unreported from to holds (failed step part) l h same = absurd (true≢false (sym same))
EndsAt-unreported from to holds unstored l h same = absurd (true≢false (sym same))
EndsAt-unreported from to holds unreported l h same = absurd (true≢false (sym same))
EndsAt-unreported from to holds finished l h same = absurd (omega (arith, h.1, l))
EndsAt-unreported from to holds listed l h same = absurd (omega (arith, h.1, l))
EndsAt-unreported from to holds out_of_memory l h same = absurd (true≢false (sym same))

-- so the plan is neither listed nor carried out
pub EndsAt-mode : (job : Job) (from to : ℕ) (holds : Type 0) (o : Outcome) → to < at_end → EndsAt from to holds (ending o) → IsInMode job o
EndsAt-mode job from to holds o early h = record {
  listed = λ same. absurd (EndsAt-unreported from to holds (ending o) early h (ap is_reported same));
  done = λ same. absurd (EndsAt-unreported from to holds (ending o) early h (ap is_reported same));
}

-- a refusal among them is that of which it holds
pub EndsAt-refused : (from to : ℕ) (holds : Type 0) (e : Ending) (step : ℕ) → EndsAt from to holds e → e ≡ refused step → holds
EndsAt-refused from to holds (refused at) step h same = h.2
EndsAt-refused from to holds (failed at part) step h same = cc
EndsAt-refused from to holds unstored step h same = cc
EndsAt-refused from to holds unreported step h same = cc
EndsAt-refused from to holds finished step h same = cc
EndsAt-refused from to holds listed step h same = cc
EndsAt-refused from to holds out_of_memory step h same = cc

-- what an answer of these steps says of the site
pub answers_so : (tells : Bool) (job : Job) (told : Told) (moment from to : ℕ) (holds : Type 0) (o : Outcome) → EndsAt from to holds (ending o) → IsInMode job o → at_words < from → (holds → tells ≡ true → site_refusal job told moment ≡ Some o) → (at_record < to → job.list_only ≡ false → tells ≡ true → told.notes ≡ []) → (at_limits < to → tells ≡ true → limit_in job told moment ≡ None) → Answers tells job told moment o
answers_so tells job told moment from to holds o h mode behind refusal notes within =
    let first = EndsAt-first from to holds (ending o) h in
    let last = EndsAt-last from to holds (ending o) h in
    record {
      behind_words = inl (omega (arith, behind, last));
      mode = mode;
      refusal = λ step same. refusal (EndsAt-refused from to holds (ending o) step h same);
      no_record = λ l. notes (omega (arith, l, first));
      within = λ l. within (omega (arith, l, first));
    }

-- a site with a record is refused for it, where that is read, and another for a limit
abbrev refusal_by : Bool → Bool → Job → Told → ℕ → Option Outcome
refusal_by lists none job told moment = if lists || none then option_map unplanned (limit_in job told moment) else Some (NotYet unbuilt.Record)

pub record_refusal : (job : Job) (told : Told) (moment : ℕ) (o : Outcome) → o ≡ NotYet unbuilt.Record → job.list_only ≡ false → is_empty told.notes ≡ false → site_refusal job told moment ≡ Some o
record_refusal job told moment o same reads some =
    ap (λ (lists : Bool). refusal_by lists (is_empty told.notes) job told moment) reads
    ∙ ap (λ (none : Bool). refusal_by false none job told moment) some
    ∙ ap (λ (x : Outcome). Some x) (sym same)

pub limit_refusal : (job : Job) (told : Told) (moment : ℕ) (o : Outcome) → (job.list_only ≡ false → told.notes ≡ []) → option_map unplanned (limit_in job told moment) ≡ Some o → site_refusal job told moment ≡ Some o
limit_refusal job told moment o none passed = by job.list_only none ∙ passed
  where
    by : (lists : Bool) → (lists ≡ false → told.notes ≡ []) → refusal_by lists (is_empty told.notes) job told moment ≡ option_map unplanned (limit_in job told moment)
    by true none = refl
    by false none = ap (λ (is : Bool). refusal_by false is job told moment) (ap is_empty (none refl))

-- a plan is refused by the limit that is passed
pub plan_ends : (e : PlanErr) (tells : Bool) (passed : Option PlanErr) → (tells ≡ true → MayRefuse passed e) → EndsAt at_listing at_limits (tells ≡ true → option_map unplanned passed ≡ Some (unplanned e)) (ending (unplanned e))
plan_ends (plan_err.ListFault side) tells passed is = (omega arith, omega arith)
plan_ends (plan_err.TooMany side count) tells passed is = (omega arith, omega arith, λ told. ap (λ (o : Option PlanErr). option_map unplanned o) (is told))
plan_ends (plan_err.TooBig path size) tells passed is = (omega arith, omega arith, λ told. ap (λ (o : Option PlanErr). option_map unplanned o) (is told))
plan_ends plan_err.NoMemory tells passed is = omega arith

-- an answer that comes before the copies leaves all as it was
pub leaves_all : (job : Job) (moment : ℕ) (start end : Told) (o : Outcome) (from to : ℕ) (holds : Type 0) → EndsAt from to holds (ending o) → to < at_copies → end ≡ start → RunLeaves job moment start end o
leaves_all job moment start end o from to holds h early same = record {
  mirrored = λ _ l. absurd (omega (arith, l, early, EndsAt-first from to holds (ending o) h));
  listed = λ _. same;
  unchanged = λ _. same;
  between = λ key. inl (ap (λ (told : Told). get told.target key) same);
  releasing = λ key. inl (ap (λ (told : Told). get told.source key) same);
  notes = ap (λ (told : Told). told.notes) same;
}

pub sends_nothing : (job : Job) (moment : ℕ) (start : Told) (o : Outcome) (from to : ℕ) (holds : Type 0) (old new : List ℕ) → EndsAt from to holds (ending o) → to < at_end → new ≡ old → Sends job moment start o old new
sends_nothing job moment start o from to holds old new h early same = record {
  whole = λ done. absurd (EndsAt-unreported from to holds (ending o) early h done);
  front = subst (λ (bs : List ℕ). AppendsFront old (report_in job start moment) bs) (sym same) (AppendsFront-none old (report_in job start moment));
}

-- the report of a plan is that of the job
pub report_so : (job : Job) (plan : Plan) (now start : Told) (moment : ℕ) → plan.items ≡ items_at job now plan.moment → now ≡ start → plan.moment ≡ moment → report_by job plan ≡ report_in job start moment
report_so job plan now start moment are same begun =
    ap (λ (i : List Item). report_of job plan.moment i []) (are ∙ ap (λ (told : Told). items_at job told plan.moment) same)
    ∙ ap (λ (m : ℕ). report_in job start m) begun

pub sends_so : (job : Job) (plan : Plan) (now start : Told) (moment : ℕ) (o : Outcome) (old new : List ℕ) → plan.items ≡ items_at job now plan.moment → now ≡ start → plan.moment ≡ moment → (is_reported (ending o) ≡ true → new ≡ old ++ report_by job plan) → AppendsFront old (report_by job plan) new → Sends job moment start o old new
sends_so job plan now start moment o old new are same begun whole front =
    let is = report_so job plan now start moment are same begun in
    record {
      whole = λ done. whole done ∙ ap (λ (bs : List ℕ). old ++ bs) is;
      front = subst (λ (bs : List ℕ). AppendsFront old bs new) is front;
    }

-- What a plan's items say

-- the law of decided items
abbrev Law : Type 0
Law = (job : Job) (source target : Tree) (moment : ℕ) (key : List (List ℕ)) (item : Item) → IsTree source → IsTree target → decided_at job source target moment key ≡ Some item → IsDecidedIn (start_of job source target) moment key item

some_none : {A : Type 0} (x : A) → Some x ≡ None → ⊥
some_none x e = cc

-- the law, of the two trees of a plan
pub law_of : (job : Job) (told : Told) (moment : ℕ) → Law → AreTrees told → (key : List (List ℕ)) (item : Item) → decided_at job told.source told.target moment key ≡ Some item → IsDecidedIn (start_in job told) moment key item
law_of job told moment law trees key item e = law job told.source told.target moment key item trees.source trees.target e

-- what the plan of two trees says of each key
pub passable : (job : Job) (told : Told) (plan : Plan) → Law → AreTrees told → IsPlanOf (start_in job told) plan → ArePassable plan.items told
passable job told plan law trees is key item e =
    let decided : decided_at job told.source told.target plan.moment key ≡ Some item = sym (is.items key) ∙ e in
    let says = law job told.source told.target plan.moment key item trees.source trees.target decided in
    record { beside = says.beside; allowed = says.allowed }

-- and so of both sides
pub decided_so : (items : List Item) (told : Told) → ArePassable items told → AreDecided items told
decided_so items told are key item e = ((are key item e).beside, (are key item e).allowed)

-- Limits

unlimited : (many theirs : Bool) (a b big : Option PlanErr) → (if many then a else if theirs then b else big) ≡ None → (a ≡ None → ⊥) → (b ≡ None → ⊥) → big ≡ None
unlimited true theirs a b big e na nb = absurd (na e)
unlimited false true a b big e na nb = absurd (nb e)
unlimited false false a b big e na nb = e

none_big : (items : List Item) → too_big (first_too_big items) ≡ None → first_too_big items ≡ None
none_big items = by (first_too_big items)
  where
    by : (o : Option Item) → too_big o ≡ None → o ≡ None
    by None e = refl
    by (Some item) e = cc

not_big : (item : Item) (rest : Option Item) → (if is_too_big item then Some item else rest) ≡ None → (is_too_big item ≡ false) × (rest ≡ None)
not_big item rest = by (is_too_big item)
  where
    by : (b : Bool) → (if b then Some item else rest) ≡ None → (b ≡ false) × (rest ≡ None)
    by true e = cc
    by false e = (refl, e)

size_small : (b : Bool) (n : ℕ) → b && nat_lt (2 ^ 40) n ≡ false → b ≡ true → n ≤ 2 ^ 40
size_small true n e copies = ltb-false (2 ^ 40) n e
size_small false n e copies = absurd (true≢false (sym copies))

all_small : (items : List Item) → first_too_big items ≡ None → AreSmallCopies items
all_small [] none k d l = absurd (omega (arith, l))
all_small (item ∷ items) none zero d l = size_small (is_copy item.act) item.facts.size (not_big item (first_too_big items) none).0
all_small (item ∷ items) none (suc k) d l = all_small items (not_big item (first_too_big items) none).1 k d (omega (arith, l))

-- no file that is copied with its bytes is too big, within the limits
pub small_copies : (items : List Item) (with_bytes : Bool) → limit_of with_bytes items ≡ None → with_bytes ≡ true → AreSmallCopies items
small_copies items false within is = absurd (true≢false (sym is))
small_copies items true within is = all_small items (none_big items (unlimited (nat_lt 500000 (count_by has_source items)) (nat_lt 500000 (count_by has_target items)) (Some (plan_err.TooMany side.Source 500001)) (Some (plan_err.TooMany side.Target 500001)) (too_big (first_too_big items)) within (some_none (plan_err.TooMany side.Source 500001)) (some_none (plan_err.TooMany side.Target 500001))))

-- What stands in the end

-- where each key has its item's goal, both trees are the goals
pub mirrored : (job : Job) (plan : Plan) (start now : Told) → IsPlanOf (start_in job start) plan → HaveGoals (copying_of job plan.moment) plan.items start now.target → AreReleased plan.items start now.source → now.notes ≡ start.notes → start.notes ≡ [] → IsMirrored (start_in job start) plan.moment now
mirrored job plan start now is goals released notes none = record {
  target = λ key.
      goals key
      ∙ ap (λ o. target_goal (rules_of job) (copies_bytes job) plan.moment o (get start.source key) (get start.target key)) (is.items key);
  source = λ key. released key ∙ ap (λ o. source_goal o (get start.source key)) (is.items key);
  notes = notes ∙ none;
}

-- and so leave what a run that did all leaves
pub leaves_done : (job : Job) (plan : Plan) (start now : Told) (o : Outcome) → plan.items ≡ items_at job start plan.moment → (job.list_only ≡ false → IsMirrored (start_in job start) plan.moment now) → (job.list_only ≡ true → now ≡ start) → AreUnderWay (copying_of job plan.moment) plan.items start now.target → AreReleasing plan.items start now.source → now.notes ≡ start.notes → EndsAt at_report at_end ⊥ (ending o) → RunLeaves job plan.moment start now o
leaves_done job plan start now o planned done stays between releasing notes ends = record {
  mirrored = λ carried _. done carried;
  listed = stays;
  unchanged = λ early. absurd (let last = EndsAt-last at_report at_end ⊥ (ending o) ends in omega (arith, early, last));
  between = subst (λ (i : List Item). AreUnderWay (copying_of job plan.moment) i start now.target) planned between;
  releasing = subst (λ (i : List Item). AreReleasing i start now.source) planned releasing;
  notes = notes;
}

-- and what one leaves that failed on its way
pub leaves_failed : (job : Job) (plan : Plan) (start now : Told) (o : Outcome) → plan.items ≡ items_at job start plan.moment → (job.list_only ≡ true → now ≡ start) → AreUnderWay (copying_of job plan.moment) plan.items start now.target → AreReleasing plan.items start now.source → now.notes ≡ start.notes → EndsAt at_copies at_copies ⊥ (ending o) → RunLeaves job plan.moment start now o
leaves_failed job plan start now o planned stays between releasing notes ends = record {
  listed = stays;
  mirrored = λ _ late. absurd (let first = EndsAt-first at_copies at_copies ⊥ (ending o) ends in omega (arith, late, first));
  unchanged = λ early. absurd (let last = EndsAt-last at_copies at_copies ⊥ (ending o) ends in omega (arith, early, last));
  between = subst (λ (i : List Item). AreUnderWay (copying_of job plan.moment) i start now.target) planned between;
  releasing = subst (λ (i : List Item). AreReleasing i start now.source) planned releasing;
  notes = notes;
}

-- nothing is sent before that
pub silent_so : (received_old received_new : List ℕ) (job : Job) (moment : ℕ) (start now : Told) → (job.list_only ≡ false → IsMirrored (start_in job start) moment now) → IsSilentBefore received_old received_new job moment start now
silent_so received_old received_new job moment start now done = by job.list_only refl
  where
    by : (b : Bool) → job.list_only ≡ b → IsSilentBefore received_old received_new job moment start now
    by true lists = inr (inr lists)
    by false carried = inr (inl (done carried))

-- the items of a plan are those that were decided at the start
pub lasting_so : (job : Job) (items : List Item) (mid start : Told) (moment last : ℕ) (seen : Seen) → items ≡ items_at job mid moment → mid ≡ start → moment ≡ last → IsLasting items seen → IsLasting (items_at job start last) seen
lasting_so job items mid start moment last seen decided told read lasting =
    subst (λ (m : ℕ). IsLasting (items_at job start m) seen) read
    (subst (λ (t : Told). IsLasting (items_at job t moment) seen) told (subst (λ (some : List Item). IsLasting some seen) decided lasting))

pub in_order_so : (job : Job) (items : List Item) (mid start end : Seen) (moment last : ℕ) → items ≡ items_at job mid.told moment → mid.told ≡ start.told → mid.log ≡ start.log → moment ≡ last → ReleasesLast (copying_of job moment) items mid end → ReleasesLast (copying_of job last) (items_at job start.told last) start end
in_order_so job items mid start end moment last decided told logged read order =
    subst (λ (m : ℕ). Released m (items_at job start.told m) start.told start.log) read
    (subst (λ (log : List Event). Released moment (items_at job start.told moment) start.told log) logged
    (subst (λ (t : Told). Released moment (items_at job t moment) t mid.log) told
    (subst (λ (some : List Item). Released moment some mid.told mid.log) decided order)))
  where
    Released : ℕ → List Item → Told → List Event → Type 0
    Released m some at log = ((end.told.source ≡ at.source) × LogsOn part.Target log end.log) ⊎ IsReleasing (copying_of job m) some at log end

-- What a list has none of

or_none : (a b : Bool) → a || b ≡ false → (a ≡ false) × (b ≡ false)
or_none true b e = absurd (true≢false e)
or_none false b e = (refl, e)

none_at : (p : Item → Bool) (items : List Item) (k : ℕ) (d : Item) → list_any p items ≡ false → k < length items → p (get_or items k d) ≡ false
none_at p [] k d none l = absurd (omega (arith, l))
none_at p (item ∷ items) zero d none l = (or_none (p item) (list_any p items) none).0
none_at p (item ∷ items) (suc k) d none l = none_at p items k d (or_none (p item) (list_any p items) none).1 (omega (arith, l))

left_by : (does : Act) → gives_props does ≡ false → is_copy does ≡ false → is_purge does ≡ false → not (is_left does) ≡ false
left_by Make g c p = absurd (true≢false g)
left_by Touch g c p = absurd (true≢false g)
left_by Fix g c p = absurd (true≢false g)
left_by Copy g c p = absurd (true≢false c)
left_by Purge g c p = absurd (true≢false p)
left_by Extra g c p = refl
left_by Mismatch g c p = refl
left_by (Keep reason) g c p = refl

none_changed : (items : List Item) → has_any gives_props items ≡ false → copies_any items ≡ false → has_any is_purge items ≡ false → changes_any Target items ≡ false
none_changed [] g c p = refl
none_changed (item ∷ items) g c p =
    let gives = or_none (gives_props item.act) (has_any gives_props items) g in
    let copies = or_none (is_copy item.act) (copies_any items) c in
    let purges = or_none (is_purge item.act) (has_any is_purge items) p in
    ap (λ (b : Bool). b || changes_any Target items) (left_by item.act gives.0 copies.0 purges.0) ∙ none_changed items gives.1 copies.1 purges.1

-- Without an item for it, a pass leaves all as it was

no_calls : (rules : Rules) (moment : ℕ) (start : Told) (items : List Item) (events : List Event) → has_any gives_props items ≡ false → All (IsCallFor (Gives (given rules moment) start) items) events → events ≡ []
no_calls rules moment start items [] none each = refl
no_calls rules moment start items (event ∷ events) none each =
    let call = each 0 event (omega arith) in
    let found = call.has in
    let gives : gives_props call.item.act ≡ false =
    ap (λ (i : Item). gives_props i.act) (sym found.2) ∙ none_at (λ i. gives_props i.act) items found.0 call.item none found.1 in
    absurd (true≢false (sym call.allowed.0 ∙ gives))

idle_log : (rules : Rules) (moment : ℕ) (start : Told) (items : List Item) (tree : Tree) (old new : List Event) → has_any gives_props items ≡ false → LogsPass (has_any gives_props items) (Gives (given rules moment) start) items tree old new → new ≡ old
idle_log rules moment start items tree old new none pass =
    pass.is
    ∙ ap (λ (b : Bool). pass.before ++ (if b then synced Target tree ∷ [] else [])) none
    ∙ append-nil pass.before
    ∙ pass.called.is
    ∙ ap (λ (es : List Event). old ++ es) (no_calls rules moment start items pass.called.events none pass.called.each)
    ∙ append-nil old

idle_at : (rules : Rules) (moment : ℕ) (items : List Item) (key : List (List ℕ)) (source target : Option Node) → has_any gives_props items ≡ false → (found : Option Item) → item_at items key ≡ found → pass_at (given rules moment) found source target ≡ target
idle_at rules moment items key source target none None e = refl
idle_at rules moment items key None target none (Some item) e = refl
idle_at rules moment items key (Some from) target none (Some item) e =
    let found = found_item items key item e in
    ap (λ (b : Bool). if b then option_map (with_given rules moment item.act from.props) target else target)
    (ap (λ (i : Item). gives_props i.act) (sym found.2) ∙ none_at (λ i. gives_props i.act) items found.0 item none found.1)

idle_tree : (rules : Rules) (moment : ℕ) (items : List Item) (two : Told) (end : Tree) → has_any gives_props items ≡ false → HasPassed (given rules moment) items two end → end ≡ two.target
idle_tree rules moment items two end none gives =
    same_tree end two.target (λ key. gives key ∙ idle_at rules moment items key (get two.source key) (get two.target key) none (item_at items key) refl)

-- behind the last pass a stop leaves of the target what reads
pub lasting : (rules : Rules) (moment : ℕ) (items copied : List Item) (one two end : Seen) → ((tree : Tree) (old new : List Event) → LogsPass true (Gives (given rules moment) two.told) items tree old new → IsOnlyTree Target new tree) → copied ≡ items → (has_any is_purge items ≡ true → IsOnlyTree Target one.log one.told.target) → (copies_any copied ≡ false → Rests one two) → (copies_any copied ≡ true → IsOnlyTree Target two.log two.told.target) → LogsPass (has_any gives_props items) (Gives (given rules moment) two.told) items end.told.target two.log end.log → HasPassed (given rules moment) items two.told end.told.target → IsLastingOn Target items end.log end.told.target
lasting rules moment items copied one two end law same purges idle copies logs gives changes =
    by (has_any gives_props items) refl
  where
    -- no properties are given: what lasted before lasts
    on : has_any gives_props items ≡ false → IsOnlyTree Target two.log two.told.target → IsOnlyTree Target end.log end.told.target
    on none two_lasts =
        subst (λ (log : List Event). IsOnlyTree Target log end.told.target) (sym (idle_log rules moment two.told items end.told.target two.log end.log none logs))
        (subst (λ (tree : Tree). IsOnlyTree Target two.log tree) (sym (idle_tree rules moment items two.told end.told.target none gives)) two_lasts)

    -- and no file is copied
    rests : copies_any items ≡ false → IsOnlyTree Target one.log one.told.target → IsOnlyTree Target two.log two.told.target
    rests none one_lasts =
        let stands = idle (ap copies_any same ∙ none) in
        subst (λ (log : List Event). IsOnlyTree Target log two.told.target) (sym stands.log)
        (subst (λ (told : Told). IsOnlyTree Target one.log told.target) (sym stands.told) one_lasts)

    by_purges : has_any gives_props items ≡ false → copies_any items ≡ false → (p : Bool) → has_any is_purge items ≡ p → IsOnlyTree Target end.log end.told.target
    by_purges none uncopied true some = on none (rests uncopied (purges some))
    by_purges none uncopied false other = absurd (true≢false (sym changes ∙ none_changed items none uncopied other))

    by_copies : has_any gives_props items ≡ false → (c : Bool) → copies_any items ≡ c → IsOnlyTree Target end.log end.told.target
    by_copies none true some = on none (copies (ap copies_any same ∙ some))
    by_copies none false other = by_purges none other (has_any is_purge items) refl

    by : (b : Bool) → has_any gives_props items ≡ b → IsOnlyTree Target end.log end.told.target
    by true some = law end.told.target two.log end.log (subst (λ (b : Bool). LogsPass b (Gives (given rules moment) two.told) items end.told.target two.log end.log) some logs)
    by false none = by_copies none (copies_any items) refl

-- Frames

-- of two steps, the first of which was done
pub counts_free : (a b c : Part → ℕ) → Counts free a b → Counts free b c → Counts free a c
counts_free a b c first second = λ part. omega (arith, first part, second part)

counts_on : (at : Part) (n : ℕ) (a b c : Part → ℕ) → Counts free a b → Counts (on at n) b c → Counts (on at n) a c
counts_on at n a b c first second =
    let low = first at in
    let rose = second.0 in
    (omega (arith, low, rose), λ part. omega (arith, first part, second.1 part))

counts_once : (at : Part) (retries : ℕ) (a b c : Part → ℕ) → Counts free a b → Counts (on at (retries + 1)) b c → Counts (on at 1) a c
counts_once at retries a b c first second =
    let low = first at in
    let rose = second.0 in
    (omega (arith, low, rose), λ part. omega (arith, first part, second.1 part))

finish_counts : (retries : ℕ) (result : Result (Unit {0}) FinishErr) (a b c : Part → ℕ) → Counts free a b → Counts (finish_cause retries result) b c → Counts (finish_cause retries result) a c
finish_counts retries (Ok value) a b c first second = counts_free a b c first second
finish_counts retries (Err (finish_err.SiteFault side)) a b c first second = counts_on (part_for side) (retries + 1) a b c first second
finish_counts retries (Err finish_err.NoMemory) a b c first second = counts_free a b c first second

-- two passes over the target
pub two_passes : (tells : Bool) (retries : ℕ) (result : Result (Unit {0}) FinishErr) (start one end : Seen) → ChangesSide tells Target free start one → ChangesSide tells Target (finish_cause retries result) one end → ChangesSide tells Target (finish_cause retries result) start end
two_passes tells retries result start one end first second = record {
  other_tree = λ told. second.other_tree told ∙ first.other_tree told;
  notes = λ told. second.notes told ∙ first.notes told;
  log = λ told other apart. second.log told other apart ∙ first.log told other apart;
  opened = second.opened ∙ first.opened;
  bound = second.bound ∙ first.bound;
  counts = finish_counts retries result start.faults one.faults end.faults first.counts second.counts;
}

-- the causes of an answer of the passes
pub fault_counts : (retries : ℕ) (e : FinishErr) (a b c : Part → ℕ) → Counts free a b → Counts (finish_cause {T = Unit {0}} retries (Err e)) b c → Counts (cause_of retries (ending (unfinished e))) a c
fault_counts retries (finish_err.SiteFault side) a b c first second = counts_once (part_for side) retries a b c first second
fault_counts retries finish_err.NoMemory a b c first second = counts_free a b c first second

pub copy_counts : (retries : ℕ) (e : CopyErr) (a b c : Part → ℕ) → Counts free a b → Counts (copy_cause {T = Unit {0}} (Err e)) b c → Counts (cause_of retries (ending (uncopied e))) a c
copy_counts retries (copy_err.Failed side) a b c first second = counts_on (part_for side) 1 a b c first second
copy_counts retries copy_err.NoMemory a b c first second = counts_free a b c first second

-- directories were made, and copies failed
pub made_then_failed : (retries : ℕ) (tells : Bool) (e : CopyErr) (start one two : Seen) → ChangesSide tells Target free start one → CopiesFiles tells (copy_cause {T = Unit {0}} (Err e)) one two → CopiesFiles tells (cause_of retries (ending (uncopied e))) start two
made_then_failed retries tells e start one two makes copies = record {
  source = λ told. copies.source told ∙ makes.other_tree told;
  notes = λ told. copies.notes told ∙ makes.notes told;
  log = λ told other apart. copies.log told other apart ∙ makes.log told other apart;
  bound = copies.bound ∙ makes.bound;
  counts = copy_counts retries e start.faults one.faults two.faults makes.counts copies.counts;
}

-- all three passes went on, the last one to some end
pub three_passes : (tells : Bool) (last cause : Cause) (start one two end : Seen) → ChangesSide tells Target free start one → CopiesFiles tells free one two → ChangesSide tells Target last two end → Counts cause start.faults end.faults → CopiesFiles tells cause start end
three_passes tells last cause start one two end makes copies gives counts = record {
  source = λ told. gives.other_tree told ∙ copies.source told ∙ makes.other_tree told;
  notes = λ told. gives.notes told ∙ copies.notes told ∙ makes.notes told;
  log = λ told other apart. gives.log told other apart ∙ copies.log told other apart ∙ makes.log told other apart;
  bound = gives.bound ∙ copies.bound ∙ makes.bound;
  counts = counts;
}

pub all_passed : (tells : Bool) (start one two end : Seen) → ChangesSide tells Target free start one → CopiesFiles tells free one two → ChangesSide tells Target free two end → CopiesFiles tells free start end
all_passed tells start one two end makes copies gives =
    three_passes tells free free start one two end makes copies gives
    (counts_free start.faults two.faults end.faults (counts_free start.faults one.faults two.faults makes.counts copies.counts) gives.counts)

pub given_then_failed : (retries : ℕ) (tells : Bool) (e : FinishErr) (start one two end : Seen) → ChangesSide tells Target free start one → CopiesFiles tells free one two → ChangesSide tells Target (finish_cause {T = Unit {0}} retries (Err e)) two end → CopiesFiles tells (cause_of retries (ending (unfinished e))) start end
given_then_failed retries tells e start one two end makes copies gives =
    three_passes tells _ _ start one two end makes copies gives
    (fault_counts retries e start.faults two.faults end.faults (counts_free start.faults one.faults two.faults makes.counts copies.counts) gives.counts)

-- what all items of a plan have in common
pub same_copying : (job : Job) (plan : Plan) (rules : Rules) → rules ≡ rules_of job → plan.with_bytes ≡ copies_bytes job → record { rules = rules; with_bytes = plan.with_bytes; moment = plan.moment } ≡ copying_of job plan.moment
same_copying job plan rules same bytes =
    ap (λ (r : Rules). record { rules = r; with_bytes = plan.with_bytes; moment = plan.moment }) same
    ∙ ap (λ (b : Bool). record { rules = rules_of job; with_bytes = b; moment = plan.moment }) bytes
