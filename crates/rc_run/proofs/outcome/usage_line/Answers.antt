use Rattle.std.proofs.Common.{◌≡◌, ◌≢◌, ℕ, ◌++◌, List, length, eqb, false, chars, codes, string_bytes, sym, ap, ◌∙◌, arith}
use Rattle.std.proofs.lemmas.Bool.{eqb-true, false≢true}
use Rattle.rc_run.specs.declared.outcome.Outcome.TheVariants.{Usage}
use Rattle.rc_run.specs.Outcome.{line_of}
use Rattle.rc_run.proofs.OutcomeLemmas.{command_chars, job_chars}
use Rattle.rc_run.proofs.outcome.usage_line.Goals as goal
use Rattle.rc_run.proofs.outcome.usage_line.Goals.{then-not-is_empty+in_ok-push_str+in_ok-push_str-2, else-not-is_empty}

some_long : (n : ℕ) → eqb n 0 ≡ false → n ≢ 0
some_long n none e = false≢true (sym none ∙ ap (λ (k : ℕ). eqb k 0) e)

pub returns : goal.returns
returns c =
    let file = c.text-file.result.now in
    let spelled = ap (λ (cs : List ℕ). line_of (Usage cs c.args.place c.args.kind)) c.text-file.ensures in
    elim c.if-not-is_empty.branch [
      | then-not-is_empty+in_ok-push_str+in_ok-push_str-2 w ↦
          ap chars (ap string_bytes w.line-is ∙ w.in_ok-push_str-2.ensures.bytes ∙ ap (λ (bs : List ℕ). bs ++ file) (w.in_ok-push_str.ensures.bytes ∙ ap (λ (bs : List ℕ). bs ++ codes " of job file ") c.in_ok-line.ensures))
          ∙ job_chars c.args.place c.args.kind file (omega arith) (omega arith) c.text-file.utf8 (some_long (length file) (sym c.is_empty.ensures ∙ w.if-not-is_empty.true)) ∙ spelled
      | else-not-is_empty w ↦
          ap chars (ap string_bytes w.line-is ∙ c.in_ok-line.ensures)
          ∙ command_chars c.args.place c.args.kind file (omega arith) (omega arith) (eqb-true (length file) 0 (sym c.is_empty.ensures ∙ w.if-not-is_empty.false)) ∙ spelled
    ]
