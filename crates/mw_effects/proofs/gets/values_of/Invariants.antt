use Rattle.std.proofs.Common.{◌≡◌, drop}
use Rattle.mw_model.specs.Json.{members, no_members}
use Rattle.mw_json.specs.View.{members_view}
use Rattle.mw_packets_out.specs.Kept.{IsSound}
use Rattle.mw_protocol.specs.Reading.{read_value, with_values}
use Rattle.mw_effects.specs.Parts.{standing_of}
use Rattle.mw_effects.specs.Reading.{AreRead}
use Rattle.mw_effects.proofs.gets.values_of.Given as goal

abbrev pub invariant-loop-key : goal.invariant-loop-key
invariant-loop-key l = record {
  value : with_values l.standing.log.seed (standing_of l.standing) (members_view l.values) (drop l.key-index l.keys)
      ≡ with_values l.standing.log.seed (standing_of l.standing) no_members l.keys;
  read : AreRead (read_value l.standing.log.seed (standing_of l.standing)) (members_view l.values);
  sound : IsSound (members (members_view l.values));
}
