use Rattle.std.proofs.Common.{◌≡◌, ◌≤◌, ◌-◌, []}
use Rattle.rc_record.specs.declared.room.TheConstants.{UNITS_MAX}
use Rattle.rc_record.specs.Grammar.{items_at, units_in}
use Rattle.rc_record.proofs.items.items_at.Given as goal

abbrev pub invariant-loop : goal.invariant-loop
invariant-loop l = record {
  read : items_at l.head (l.count - l.counter) l.items.items l.end l.bytes ≡ items_at l.head l.count [] l.off l.bytes;
  units : l.units ≡ units_in l.head l.items.items;
  bound : l.units ≤ UNITS_MAX;
}
