use Rattle.std.proofs.Common.{◌≡◌, [], drop}
use denote.Text.{Utf8}
use denote.Shadow.{shadow}
use Rattle.mw_packets_in.specs.PacketsOf.{outermost}
use Rattle.mw_packets_in.proofs.told.outermost.Given as goal

abbrev pub invariant-loop-step : goal.invariant-loop-step
invariant-loop-step l = shadow (Utf8 l.name) × (outermost l.name (drop l.step-index l.path) ≡ outermost [] l.path)
