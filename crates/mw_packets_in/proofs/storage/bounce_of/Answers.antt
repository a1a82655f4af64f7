use Rattle.std.proofs.Common.{rules, codes, refl}
use Rattle.mw_json.specs.View.{members_view}
use Rattle.mw_packets_in.specs.Fields.{wholes_at}
use Rattle.mw_packets_in.proofs.Passed.{bounce_kept}
use Rattle.mw_packets_in.proofs.storage.bounce_of.Goals as goal

pub invariant_of-bounce : goal.invariant_of-bounce
invariant_of-bounce c =
    bounce_kept c.in_ok-games.games c.in_ok-tags.tags c.in_ok-slots.slots (members_view c.in_ok-further.further) (members_view c.args.members.now) c.requires
    (c.in_ok-slots.ensures wholes_at (codes "slots") refl (search rules)) c.in_ok-further.ensures
