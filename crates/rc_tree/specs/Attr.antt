-- How attributes are stored, and which of them a mirror compares and copies.
use Rattle.std.specs.Prelude.{ℕ, ◌+◌, Bool, false, if◌then◌else◌, ◌==◌}
use Rattle.rc_tree.specs.declared.attr.Attr.{Attr}
use Rattle.rc_tree.specs.declared.attr.Kind.{Kind}
use Rattle.rc_tree.specs.declared.attr.Kind.TheVariants.{File, Dir}

-- a bit where the attribute is there
abbrev pub bit : Bool → ℕ → ℕ
bit has value = if has then value else 0

abbrev pub attribute_bits : Attr → ℕ
attribute_bits a =
    bit a.readonly 0x1 + bit a.hidden 0x2 + bit a.system 0x4 + bit a.archive 0x20 + bit a.temporary 0x100
    + bit a.sparse 0x200 + bit a.compressed 0x800 + bit a.offline 0x1000 + bit a.not_indexed 0x2000 + bit a.encrypted 0x4000

-- a directory has DIRECTORY beside its bits, and a file without any bit is NORMAL
abbrev pub stored_of : Kind → Attr → ℕ
stored_of Dir a = attribute_bits a + 0x10
stored_of File a = if attribute_bits a == 0 then 0x80 else attribute_bits a

abbrev pub no_attr : Attr
no_attr = record {
  readonly = false;
  hidden = false;
  system = false;
  archive = false;
  temporary = false;
  sparse = false;
  compressed = false;
  offline = false;
  not_indexed = false;
  encrypted = false;
}

-- R, A, S, H, N and T as they are, and no other
abbrev pub compared : Attr → Attr
compared a = record a { sparse = false; compressed = false; offline = false; encrypted = false }
