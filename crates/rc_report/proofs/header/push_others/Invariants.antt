use Rattle.std.proofs.Common.{◌≡◌, ◌++◌, ◌∷◌, take, string_bytes}
use Rattle.std.specs.Prelude.{encode_utf8_all}
use Rattle.std.specs.List.{flat_map}
use Rattle.rc_report.proofs.header.push_others.Given as goal

abbrev pub invariant-loop-file : goal.invariant-loop-file
invariant-loop-file l = string_bytes l.line ≡ string_bytes l.initial.line ++ flat_map (λ next. 32 ∷ encode_utf8_all next) (take l.file-index l.files)
