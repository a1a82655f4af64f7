-- Effects as plain data.
use Rattle.std.specs.Prelude.{◌≡◌, map}
use Rattle.mw_packets_out.specs.View as told_by
use Rattle.mw_protocol.specs.Effect as plain
use Rattle.mw_protocol.specs.Heard as heard
use Rattle.mw_protocol.specs.Messages.{ServerPacket}
use Rattle.mw_protocol.specs.Prints.{item_send, printed}
use Rattle.mw_records.specs.Records.{record_view}
use Rattle.mw_effects.specs.Parts.{IsLogged}
use Rattle.mw_effects.specs.declared.effect.Announced.{Announced}
use Rattle.mw_effects.specs.declared.effect.Audience.{Audience}
use Rattle.mw_effects.specs.declared.effect.Audience.TheVariants.{Team, Slots, Sender, Watchers, Named}
use Rattle.mw_effects.specs.declared.effect.Effect.{Effect}
use Rattle.mw_effects.specs.declared.standing.Standing.{Standing}
use Rattle.mw_effects.specs.declared.told.Told.{Told}
use Rattle.mw_effects.specs.declared.told.Told.TheVariants.{Packet, Found}

abbrev pub audience_view : Audience → heard.Audience
audience_view (Team team) = heard.team_hears team
audience_view (Slots team finder receiver) = heard.slots_hear team finder receiver
audience_view Sender = heard.sender_hears
audience_view (Watchers key replies) = heard.watchers_hear key replies
audience_view (Named team whom) = heard.named_hear team whom

abbrev pub told_view : Told → ServerPacket
told_view (Packet packet) = told_by.packet_view packet
told_view (Found item receiver) = printed (item_send item receiver)

abbrev pub announced_view : Announced → heard.Announced
announced_view a = record { audience = audience_view a.audience; packet = told_view a.told }

abbrev pub effect_view : Effect → plain.Effect
effect_view e = record {
  records = map record_view e.records;
  answers = map told_by.packet_view e.answers;
  whole = e.whole;
  member = e.member;
  announced = map announced_view e.announced;
}

-- the effect is what is due, and is logged
pub record IsEffect (effect : Effect) (now : Standing) (due : plain.Effect) : Type 0 where
  pub is : effect_view effect ≡ due
  pub logged : IsLogged now effect
