-- The numbers of classes, reasons, acts and what comes after a copy, as records keep them.
use Rattle.std.specs.Prelude.{ℕ}
use Rattle.rc_class.specs.declared.class.Class.{Class}
use Rattle.rc_class.specs.declared.class.Class.TheVariants as class
use Rattle.rc_class.specs.declared.decision.Act.{Act}
use Rattle.rc_class.specs.declared.decision.Act.TheVariants as act
use Rattle.rc_class.specs.declared.decision.After.{After}
use Rattle.rc_class.specs.declared.decision.After.TheVariants as after
use Rattle.rc_class.specs.declared.decision.Reason.{Reason}
use Rattle.rc_class.specs.declared.decision.Reason.TheVariants as reason

abbrev pub class_code : Class → ℕ
class_code class.Lonely = 1
class_code class.Extra = 2
class_code class.Newer = 3
class_code class.Older = 4
class_code class.Changed = 5
class_code class.Tweaked = 6
class_code class.Same = 7
class_code class.Mismatched = 8

abbrev pub reason_code : Reason → ℕ
reason_code reason.NotNamed = 16
reason_code reason.Excluded = 17
reason_code reason.Attr = 18
reason_code reason.Size = 19
reason_code reason.Age = 20
reason_code reason.Class = 21
reason_code reason.Empty = 22
reason_code reason.Same = 23

abbrev pub act_code : Act → ℕ
act_code act.Copy = 1
act_code act.Make = 2
act_code act.Touch = 3
act_code act.Fix = 4
act_code act.Purge = 5
act_code act.Extra = 6
act_code act.Mismatch = 7
act_code (act.Keep reason) = reason_code reason

abbrev pub after_code : After → ℕ
after_code after.Nothing = 0
after_code after.RemoveSource = 1
after_code after.ClearArchive = 2
