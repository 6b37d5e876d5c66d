use Rattle.std.proofs.Common.{List, ℕ, None, refl, subst, length, arith}
use Rattle.std.proofs.lemmas.Result.{IfErr-weaker, IfOk-weaker}
use Rattle.drill.specs.Drilling.{IsSiteText}
use Rattle.drill.specs.Finishing.{IsStop, start_of}
use Rattle.drill.proofs.ReadTexts.{all_read, file_read, left_of, on_ok, stop_of}
use Rattle.drill.proofs.begin.read_file.Goals as goal

pub returns-in-Ok-clause-file : goal.returns-in-Ok-clause-file
returns-in-Ok-clause-file g c =
    IfOk-weaker c.file_of.result _ _
    (λ file is. file_read g.I.Input.tells (g.I.Input.rest c.args.input.now) c.in-Ok.text.items (g.I.Input.rest c.read_text.new.input) (start_of file) c.in-Ok.ensures.taken (λ t s. c.in-Ok.ensures.end t (omega (arith, s, c.in-Ok.text.ok.0))) (subst (λ (t : List ℕ). IsSiteText t (start_of file)) c.deref.ensures.value is))
    c.file_of.ensures.file

pub returns-in-Ok-clause-stop : goal.returns-in-Ok-clause-stop
returns-in-Ok-clause-stop g c =
    IfErr-weaker c.file_of.result _ _
    (λ stop is. stop_of g.I.Input.tells (g.I.Input.rest c.args.input.now) c.in-Ok.text.items (g.I.Input.rest c.read_text.new.input) stop c.in-Ok.ensures.taken (λ t s. c.in-Ok.ensures.end t (omega (arith, s, c.in-Ok.text.ok.0))) (subst (λ (t : List ℕ). IsStop None t stop) c.deref.ensures.value is))
    c.file_of.ensures.stop

pub returns-in-Ok-clause-read : goal.returns-in-Ok-clause-read
returns-in-Ok-clause-read g c = λ told.
    on_ok c.file_of.result (all_read 268435456 (g.I.Input.rest c.args.input.now) c.in-Ok.text.items (g.I.Input.rest c.read_text.new.input) (c.in-Ok.ensures.taken told) (omega (arith, c.in-Ok.ensures.bound, c.in-Ok.text.ok.0)) (λ s. c.in-Ok.ensures.end told (omega (arith, s, c.in-Ok.text.ok.0))))

pub returns-in-Ok-clause-read_all : goal.returns-in-Ok-clause-read_all
returns-in-Ok-clause-read_all g c = λ told h.
    all_read 268435456 (g.I.Input.rest c.args.input.now) c.in-Ok.text.items (g.I.Input.rest c.read_text.new.input) (c.in-Ok.ensures.taken told) (omega (arith, c.in-Ok.ensures.bound, c.in-Ok.text.ok.0)) (λ s. c.in-Ok.ensures.end told (omega (arith, s, c.in-Ok.text.ok.0)))

pub returns-in-Ok-clause-no_further : goal.returns-in-Ok-clause-no_further
returns-in-Ok-clause-no_further g c = λ told. (
  length c.in-Ok.text.items,
  omega (arith, c.in-Ok.ensures.bound, c.in-Ok.text.ok.0),
  left_of (g.I.Input.rest c.args.input.now) c.in-Ok.text.items (g.I.Input.rest c.read_text.new.input) (c.in-Ok.ensures.taken told),
)

pub returns-in-Err-Failed-clause-stop : goal.returns-in-Err-Failed-clause-stop
returns-in-Err-Failed-clause-stop g c = (g.I.Input.rest c.args.input.now, λ t. refl, refl)

pub returns-in-Err-NoMemory-clause-stop : goal.returns-in-Err-NoMemory-clause-stop
returns-in-Err-NoMemory-clause-stop g c = (g.I.Input.rest c.args.input.now, λ t. refl, tt)
