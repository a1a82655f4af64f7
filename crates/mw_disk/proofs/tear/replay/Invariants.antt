use Rattle.std.proofs.Common.{◌≡◌, take}
use Rattle.mw_disk.specs.Calls.{bytes_of, IsImage}
use Rattle.mw_disk.proofs.tear.replay.Given as goal

-- the calls so far were replayed
abbrev pub invariant-loop-made : goal.invariant-loop-made
invariant-loop-made l = record {
  bytes : l.bytes.items ≡ bytes_of l.start (take l.made-index l.calls);
  image : IsImage l.start (take l.made-index l.calls) l.image.items;
}
