-- What a Bounce does.
use Rattle.std.specs.Prelude.{◌∷◌, [], unwrap_or}
use Rattle.mw_protocol.specs.Connecting.{Member}
use Rattle.mw_protocol.specs.Effect.{Effect, recording}
use Rattle.mw_protocol.specs.Heard.{Named, named_hear}
use Rattle.mw_protocol.specs.Messages.{bounced}
use Rattle.mw_protocol.specs.Packets.{Bounce}

-- what isn't given names nobody
abbrev pub named_by : Bounce → Named
named_by b =
    record {
      games = unwrap_or b.games [];
      slots = unwrap_or b.slots [];
      tags = unwrap_or b.tags [];
    }

-- its members come, under another command, to those of the sender's team whom it names, the sender among them
abbrev pub bouncing : Member → Bounce → Effect
bouncing m b =
    recording [] (record { audience = named_hear m.team (named_by b); packet = bounced b } ∷ [])
