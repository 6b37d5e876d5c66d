use Rattle.std.proofs.Common.{◌≡◌, ◌∙◌, ap, sym, subst, true, false, Some, Ok, Err, List, ℕ, refl}
use Rattle.std.specs.FinMap.{insert}
use Rattle.rc_tree.specs.Name.{folded}
use Rattle.rc_tree.specs.Path.{name_cmp}
use Rattle.rc_tree.proofs.Keys.{name_cmp-total}
use Rattle.rc_sitetext.specs.declared.err.FaultKind.TheVariants as fault
use Rattle.rc_sitetext.specs.Drafts.{job_of}
use Rattle.rc_sitetext.specs.Faults.{filed_at}
use Rattle.rc_sitetext.specs.Reading.{is_above, is_behind, job_at, job_texts, last_key}
use Rattle.rc_sitetext.specs.SiteText.{Jobs}
use Rattle.rc_sitetext.proofs.Binds.{gives_value}
use Rattle.rc_sitetext.proofs.FieldValues.{is_above_behind, last_key_added}
use Rattle.rc_sitetext.proofs.Steps.{filed_is, filed_late, files_put}
use Rattle.rc_sitetext.proofs.jobs.JobFiles.with.Goals as goal

pub returns-then-not-is_behind : goal.returns-then-not-is_behind
returns-then-not-is_behind c =
    let line = c.args.line.now in
    let t = c.in_ok-texts.texts in
    let job = c.in_ok-job.job in
    let files = c.self.inside.files in
    let key : c.in_ok-key.key ≡ folded job.name = c.in_ok-key.ensures ∙ ap folded c.text.ensures in
    let texts = gives_value (λ x. (x.name.now, x.bytes.now)) fault.Line c.job_texts.result (job_texts line) t c.job_texts.ensures (sym c.needed.ensures ∙ c.in_ok-texts.was) in
    let read = gives_value job_of fault.Field c.job_of.result (job_at (t.name.now, t.bytes.now)) job c.job_of.ensures (sym c.needed-2.ensures ∙ c.in_ok-job.was) in
    let above : is_above files (folded job.name) ≡ false =
    is_above_behind name_cmp name_cmp-total files c.self.inside.last (folded job.name) c.self.invariant
    ∙ ap (is_behind name_cmp c.self.inside.last) (sym key) ∙ sym c.is_behind.ensures ∙ c.if-not-is_behind.true in
    subst (λ (j : Jobs). filed_at j line ≡ Err fault.Order) c.self.view_is (filed_late files line t.name.now t.bytes.now (job_of job) texts read above)

pub invariant_of-result : goal.invariant_of-result
invariant_of-result c =
    let job = c.in_ok-job.job in
    let files = c.self.inside.files in
    let key : c.in_ok-key.key ≡ folded job.name = c.in_ok-key.ensures ∙ ap folded c.text.ensures in
    let above : is_above files (folded job.name) ≡ true =
    is_above_behind name_cmp name_cmp-total files c.self.inside.last (folded job.name) c.self.invariant
    ∙ ap (is_behind name_cmp c.self.inside.last) (sym key) ∙ sym c.is_behind.ensures ∙ c.if-not-is_behind.false in
    let put : c.write.new.self ≡ insert files (folded job.name) job.bytes.items =
    files_put files c.write.new.self (folded job.name) job.bytes.items (c.in-Ok.ensures.written refl ∙ ap (λ (b : List ℕ). Some b) c.deref.ensures.value) (c.in-Ok.ensures.others refl) in
    ap last_key put ∙ last_key_added name_cmp name_cmp-total files (folded job.name) job.bytes.items above ∙ ap (λ (k : List ℕ). Some k) (sym key)

pub returns-in-Ok : goal.returns-in-Ok
returns-in-Ok c =
    let line = c.args.line.now in
    let t = c.in_ok-texts.texts in
    let job = c.in_ok-job.job in
    let files = c.self.inside.files in
    let key : c.in_ok-key.key ≡ folded job.name = c.in_ok-key.ensures ∙ ap folded c.text.ensures in
    let texts = gives_value (λ x. (x.name.now, x.bytes.now)) fault.Line c.job_texts.result (job_texts line) t c.job_texts.ensures (sym c.needed.ensures ∙ c.in_ok-texts.was) in
    let read = gives_value job_of fault.Field c.job_of.result (job_at (t.name.now, t.bytes.now)) job c.job_of.ensures (sym c.needed-2.ensures ∙ c.in_ok-job.was) in
    let above : is_above files (folded job.name) ≡ true =
    is_above_behind name_cmp name_cmp-total files c.self.inside.last (folded job.name) c.self.invariant
    ∙ ap (is_behind name_cmp c.self.inside.last) (sym key) ∙ sym c.is_behind.ensures ∙ c.if-not-is_behind.false in
    let put : c.write.new.self ≡ insert files (folded job.name) job.bytes.items =
    files_put files c.write.new.self (folded job.name) job.bytes.items (c.in-Ok.ensures.written refl ∙ ap (λ (b : List ℕ). Some b) c.deref.ensures.value) (c.in-Ok.ensures.others refl) in
    subst (λ (j : Jobs). filed_at j line ≡ Ok c.write.new.self) c.self.view_is
    (filed_is files line t.name.now t.bytes.now (job_of job) texts read above ∙ ap (λ (j : Jobs). Ok j) (sym put))
