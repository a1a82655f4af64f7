use Rattle.mw_client.proofs.Rising.{lists_only_grow}
use Rattle.mw_client.proofs.laws.lists_only_grow.Goals as goal

pub returns : goal.returns
returns c = lists_only_grow c.clients_apply.ensures c.lives_keep.ensures c.events_tell.ensures c.whole_views_are_owed.ensures c.strangers_hear.ensures
