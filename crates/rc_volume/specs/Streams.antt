-- What goes into a sink and comes out of an input, and which calls of streams, stores and readers failed.
use Rattle.std.specs.Prelude.{◌≡◌, ℕ, ◌≤◌, Bool, true, false, List, ◌++◌, length, take, Result, Ok, Err}
use Rattle.rc_volume.specs.declared.input.InputErr.{InputErr}
use Rattle.rc_volume.specs.declared.input.InputErr.TheVariants as input_err
use Rattle.rc_volume.specs.declared.job_store.StoreErr.{StoreErr}
use Rattle.rc_volume.specs.declared.job_store.StoreErr.TheVariants as store_err
use Rattle.rc_volume.specs.declared.reader.ReadErr.{ReadErr}
use Rattle.rc_volume.specs.declared.reader.ReadErr.TheVariants as read_err
use Rattle.rc_volume.specs.declared.sink.SinkErr.{SinkErr}
use Rattle.rc_volume.specs.declared.sink.SinkErr.TheVariants as sink_err

-- new is old with a front of these bytes behind it
abbrev pub AppendsFront : List ℕ → List ℕ → List ℕ → Type 0
AppendsFront old bytes new = (n : ℕ) × (n ≤ length bytes) × (new ≡ old ++ take n bytes)

-- Whether a call failed, which want of memory is not

abbrev pub input_failed : {T : Type 0} → Result T InputErr → Bool
input_failed (Ok value) = false
input_failed (Err input_err.Failed) = true
input_failed (Err input_err.NoMemory) = false

abbrev pub store_failed : {T : Type 0} → Result T StoreErr → Bool
store_failed (Ok value) = false
store_failed (Err store_err.Failed) = true
store_failed (Err store_err.NoMemory) = false

abbrev pub read_failed : {T : Type 0} → Result T ReadErr → Bool
read_failed (Ok value) = false
read_failed (Err read_err.Failed) = true
read_failed (Err read_err.NoMemory) = false

abbrev pub sink_failed : {T : Type 0} → Result T SinkErr → Bool
sink_failed (Ok value) = false
sink_failed (Err sink_err.Failed) = true
sink_failed (Err sink_err.NoMemory) = false
