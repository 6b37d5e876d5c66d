use Rattle.std.proofs.Common.{subst, sym, refl, ℕ, Option}
use Rattle.std.specs.Prelude.{IfErr, IfOk}
use Rattle.drill.specs.Drilling.{Begins, OfSome}
use Rattle.drill.specs.Finishing.{IsStop, start_of}
use Rattle.drill.proofs.begin.begin.Goals as goal

pub returns-in-Ok-clause-file : goal.returns-in-Ok-clause-file
returns-in-Ok-clause-file g c =
    let rest = g.I.Input.rest c.args.input.now in
    (rest, λ t. refl, subst (λ (n : Option ℕ). Begins n rest (start_of c.in-Ok.file)) (sym c.in-Some.is) c.in-Ok.ensures.made)

pub returns-in-Err-clause-stop : goal.returns-in-Err-clause-stop
returns-in-Err-clause-stop g c = (g.I.Input.rest c.args.input.now, λ t. refl, tt)

pub returns-in-None-clause-file : goal.returns-in-None-clause-file
returns-in-None-clause-file g c =
    subst (λ (n : Option ℕ). IfOk c.read_file.result (λ file. OfSome g.I.Input.tells (g.I.Input.rest c.args.input.now) (λ text. Begins n text (start_of file)))) (sym c.in-None.is) c.read_file.ensures.file

pub returns-in-None-clause-stop : goal.returns-in-None-clause-stop
returns-in-None-clause-stop g c =
    subst (λ (n : Option ℕ). IfErr c.read_file.result (λ stop. OfSome g.I.Input.tells (g.I.Input.rest c.args.input.now) (λ text. IsStop n text stop))) (sym c.in-None.is) c.read_file.ensures.stop
