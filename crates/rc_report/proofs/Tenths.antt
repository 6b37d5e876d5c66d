-- Whole units and their tenths.
use Rattle.std.proofs.Common.{◌≡◌, ℕ, ◌*◌, ◌/◌, ◌%◌, ◌⊎◌, inl, inr, arith}
use Rattle.rc_report.specs.Report.{tenths}

-- a size's whole units
pub whole_is : (unit size : ℕ) → (unit ≡ 1048576) ⊎ (unit ≡ 1073741824) → size / unit ≡ tenths unit size / 10
whole_is unit size (inl e) = rw e (omega arith)
whole_is unit size (inr e) = rw e (omega arith)

-- the tenth behind them
pub tenth_is : (unit size : ℕ) → (unit ≡ 1048576) ⊎ (unit ≡ 1073741824) → size % unit * 10 / unit ≡ tenths unit size % 10
tenth_is unit size (inl e) = rw e (omega arith)
tenth_is unit size (inr e) = rw e (omega arith)
