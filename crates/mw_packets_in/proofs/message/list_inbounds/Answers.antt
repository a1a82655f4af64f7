use Rattle.mw_packets_in.proofs.Passed.{elements_read}
use Rattle.mw_packets_in.proofs.message.list_inbounds.Goals as goal

pub inbounds-requires : goal.inbounds-requires
inbounds-requires c = elements_read c.args.items.now c.requires
