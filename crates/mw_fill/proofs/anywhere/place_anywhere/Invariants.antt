use Rattle.std.proofs.Common.{◌≡◌, ◌<◌, ◌≤◌, List, drop, length}
use Rattle.std.specs.Prelude.{All}
use Rattle.mw_multi.specs.Joint.{Joint}
use Rattle.mw_multi.specs.Placement.{Put}
use Rattle.mw_fill.specs.Fill.{placed_anywhere}
use Rattle.mw_fill.specs.Kept.{CopyKept, OpeningKept, IsHeldFor, AreTaken}
use Rattle.mw_fill.proofs.anywhere.place_anywhere.Given as goal

-- what is put so far, and the copies that are left give the whole
abbrev pub invariant-loop-copy : goal.invariant-loop-copy
invariant-loop-copy l = record {
  from : l.from ≤ length l.openings;
  taken : AreTaken l.held l.openings l.from;
  within : All (λ s. s.place < length l.held) l.openings;
  so_far : (joint : Joint) (puts : List Put) → All (CopyKept joint) l.copies → All (OpeningKept joint) l.openings → IsHeldFor joint puts l.initial.held
      → (more : List Put) × IsHeldFor joint more l.held × (placed_anywhere l.openings l.copies puts ≡ placed_anywhere l.openings (drop l.copy-index l.copies) more);
}
