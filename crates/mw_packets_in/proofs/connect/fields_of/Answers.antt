use Rattle.std.proofs.Common.{None, rules, codes, refl}
use Rattle.mw_json.specs.Parts.{null_or_at}
use Rattle.mw_json.specs.View.{members_view}
use Rattle.mw_packets_in.specs.Fields.{whole_at}
use Rattle.mw_packets_in.specs.Rows.{version_at}
use Rattle.mw_packets_in.proofs.Ranges.{version_kept, items_handling_kept}
use Rattle.mw_packets_in.proofs.connect.fields_of.Goals as goal

pub invariant_of-result : goal.invariant_of-result
invariant_of-result c =
    let ms = members_view c.args.members.now in
    record {
      version = version_kept c.in_ok-version.version ms c.requires (c.in_ok-version.ensures version_at (codes "version") refl (search rules));
      items_handling = items_handling_kept c.in_ok-items_handling.items_handling ms c.requires (c.in_ok-items_handling.ensures (null_or_at whole_at) (codes "items_handling") None refl refl (search rules));
    }
