-- The disk that a call leaves, in its answer or handed back.
use Rattle.std.specs.Prelude.{Result, Ok, Err}

abbrev pub disk_then : {D E : Type 0} → Result D (D × E) → D
disk_then (Ok disk) = disk
disk_then (Err refused) = refused.0

-- in an answer with more
abbrev pub disk_read : {D T E : Type 0} → Result (D × T) (D × E) → D
disk_read (Ok answer) = answer.0
disk_read (Err refused) = refused.0
