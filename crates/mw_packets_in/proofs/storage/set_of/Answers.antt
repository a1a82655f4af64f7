use Rattle.std.proofs.Common.{rules, codes, refl, sym, pos}
use Rattle.mw_model.specs.Json.{whole}
use Rattle.mw_json.specs.TreeCode.{stands_for_it}
use Rattle.mw_json.specs.View.{view, members_view}
use Rattle.mw_packets_in.specs.Fields.{any_at}
use Rattle.mw_packets_in.proofs.Passed.{set_kept}
use Rattle.mw_packets_in.proofs.storage.set_of.Goals as goal

pub invariant_of-set : goal.invariant_of-set
invariant_of-set c =
    set_kept c.in_ok-key.key (view c.in_ok-default.default) c.in_ok-want_reply.want_reply c.in_ok-operations.operations (members_view c.in_ok-further.further) (members_view c.args.members.now) c.requires
    (c.in_ok-default.ensures any_at (codes "default") (whole (pos 0)) refl (sym (stands_for_it (whole (pos 0)))) (search rules)) c.in_ok-operations.ensures c.in_ok-further.ensures
