use Rattle.std.proofs.Common.{◌++◌, [], ap, sym, ◌∙◌, List, ℕ}
use Rattle.std.specs.Prelude.{codes}
use Rattle.std.proofs.lemmas.List.{append-nil}
use Rattle.rc_sitetext.proofs.Appends.{behind}
use Rattle.rc_sitetext.proofs.Sends.{on_err, front_in, front_first, file_lines, file_lines_are}
use Rattle.rc_sitetext.proofs.writer.send_jobs.Goals as goal

pub returns-in_err-send_files-clause-front : goal.returns-in_err-send_files-clause-front
returns-in_err-send_files-clause-front g c = λ told.
    on_err c.from_residual.result
    (front_first (g.K.Sink.received c.args.out.now) (g.K.Sink.received c.send_files.new.out) (file_lines c.args.files) (codes "END\n") _
    (c.in_err-send_files.ensures.front told) (ap (λ (t : List ℕ). t ++ codes "END\n") (sym (file_lines_are c.args.files))))

pub returns-in_err-write-clause-front : goal.returns-in_err-write-clause-front
returns-in_err-write-clause-front g c = λ told.
    on_err c.from_residual-in_err-write.result
    (front_in (g.K.Sink.received c.args.out.now) (g.K.Sink.received c.send_files.new.out) (g.K.Sink.received c.write.new.self) (file_lines c.args.files) (codes "END\n") [] _
    (c.in_ok-send_files.ensures.written told)
    (rw c.as_bytes.ensures.value at (c.in_err-write.ensures.front told))
    (ap (λ (t : List ℕ). t ++ codes "END\n") (sym (file_lines_are c.args.files)) ∙ ap (λ (t : List ℕ). file_lines c.args.files ++ t) (sym (append-nil (codes "END\n")))))

pub returns-clause-written : goal.returns-clause-written
returns-clause-written g c = λ told.
    behind (g.K.Sink.received c.args.out.now) (file_lines c.args.files) (codes "END\n") (g.K.Sink.received c.send_files.new.out) (g.K.Sink.received c.write.new.self)
    (c.in_ok-send_files.ensures.written told)
    (c.in_ok-write.ensures.written told ∙ ap (λ t. g.K.Sink.received c.send_files.new.out ++ t) c.as_bytes.ensures.value)
    ∙ ap (λ (t : List ℕ). g.K.Sink.received c.args.out.now ++ (t ++ codes "END\n")) (file_lines_are c.args.files)
