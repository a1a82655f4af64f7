use Rattle.std.proofs.Common.{rules, codes, refl}
use Rattle.mw_json.specs.Grammar.{number_at}
use Rattle.mw_json.specs.View.{members_view}
use Rattle.mw_packets_in.specs.Fields.{wholes_at}
use Rattle.mw_packets_in.proofs.Kept.{hint_choice_kept}
use Rattle.mw_packets_in.proofs.Ranges.{wholes_kept}
use Rattle.mw_packets_in.proofs.locations.scouts_of.Goals as goal

pub invariant_of-result : goal.invariant_of-result
invariant_of-result c =
    let ms = members_view c.args.members.now in
    record {
      locations = wholes_kept c.in_ok-locations.locations ms c.requires (c.in_ok-locations.ensures wholes_at (codes "locations") refl (search rules));
      create_as_hint = hint_choice_kept c.in_ok-create_as_hint.create_as_hint ms (c.in_ok-create_as_hint.ensures (number_at 0 2) (codes "create_as_hint") 0 refl refl (search rules));
    }
