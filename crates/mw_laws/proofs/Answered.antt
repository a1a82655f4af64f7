-- What one element of a message owes a session that plays no slot.
use Rattle.std.proofs.Common.{◌≡◌, List, ◌∷◌, [], ◌++◌, true, Option, Some, None, refl, ap, ap₂, ◌∙◌, append-nil}
use Rattle.mw_model.specs.Seed.{Seed}
use Rattle.mw_protocol.specs.Asked.{view}
use Rattle.mw_protocol.specs.Checks.{view_in}
use Rattle.mw_protocol.specs.Connecting.{Member, member_by}
use Rattle.mw_protocol.specs.Entering.{joining, to_team, name_of}
use Rattle.mw_protocol.specs.Heard.{heard}
use Rattle.mw_protocol.specs.Messages.{ServerPacket, connected}
use Rattle.mw_protocol.specs.Owed.{items_from, owed, growth_owed, view_of}
use Rattle.mw_protocol.specs.Packets.{good, wrong, Connect, connect, connect_update, sync, location_checks, location_scouts, update_hint, status_update, say, get_data_package, bounce, get, change, set_notify}
use Rattle.mw_protocol.specs.Players.{connected_of}
use Rattle.mw_protocol.specs.Prints.{joined}
use Rattle.mw_protocol.specs.Records.{Record}
use Rattle.mw_protocol.specs.Rooms.{member_after}
use Rattle.mw_protocol.specs.Standing.{Standing, standing}
use Rattle.mw_laws.specs.Strangers.{IsAnswerToStranger, StrangersAreAnswered, StrangersHearNoOthers}
use Rattle.mw_laws.proofs.Journal.{standing_checked}
use Rattle.mw_laws.proofs.Updates.{no_update}

pub view_is : (seed : Seed) (journal : List Record) (m : Member) → view_of seed (standing seed journal) m ≡ view seed m.mask m.team m.slot journal
view_is seed journal m = ap (view_in seed m.mask m.team m.slot) (standing_checked seed journal)

-- where nothing is recorded, the whole view is all that is owed beside the answers and prints
whole_is : (seed : Seed) (journal : List Record) (m : Member)
    → growth_owed true seed (standing seed journal) (standing seed (journal ++ [])) (Some m) ≡ items_from 0 (view seed m.mask m.team m.slot journal)
whole_is seed journal m =
    ap (λ j. growth_owed true seed (standing seed journal) (standing seed j) (Some m)) (append-nil journal)
    ∙ ap₂ (λ us is. us ++ is) (no_update seed (standing seed journal) m) (ap (items_from 0) (view_is seed journal m))

-- what a Connect owes
abbrev owed_by_joining : Seed → List Record → Connect → Option Member → List ServerPacket
owed_by_joining seed journal fields made =
    let effect = joining seed (standing seed journal) fields made in
    owed seed (standing seed journal) (standing seed (journal ++ effect.records)) effect true (member_after effect true None)

joining_answers : (seed : Seed) (journal : List Record) (fields : Connect) (made : Option Member)
    → IsAnswerToStranger seed journal (member_after (joining seed (standing seed journal) fields made) true None) (owed_by_joining seed journal fields made)
joining_answers seed journal fields None = refl
joining_answers seed journal fields (Some m) =
    let told = heard seed (to_team m.team (joined m.team m.slot m.tags (name_of seed m.team m.slot)) ∷ []) true m in
    ap (λ is. connected (connected_of seed (standing seed journal) m) ∷ is ++ told) (whole_is seed journal m)

joining_records : (seed : Seed) (now : Standing) (fields : Connect) (made : Option Member) → (joining seed now fields made).records ≡ []
joining_records seed now fields None = refl
joining_records seed now fields (Some m) = refl

pub strangers_are_answered : StrangersAreAnswered
strangers_are_answered seed journal members (wrong bad) = record { answer = refl; records = refl }
strangers_are_answered seed journal members (good (connect fields)) = record {
  answer = joining_answers seed journal fields (member_by seed fields);
  records = joining_records seed (standing seed journal) fields (member_by seed fields);
}
strangers_are_answered seed journal members (good (get_data_package games)) = record { answer = refl; records = refl }
strangers_are_answered seed journal members (good (connect_update u)) = record { answer = tt; records = refl }
strangers_are_answered seed journal members (good sync) = record { answer = tt; records = refl }
strangers_are_answered seed journal members (good (location_checks numbers)) = record { answer = tt; records = refl }
strangers_are_answered seed journal members (good (location_scouts numbers as_hint)) = record { answer = tt; records = refl }
strangers_are_answered seed journal members (good (update_hint u)) = record { answer = tt; records = refl }
strangers_are_answered seed journal members (good (status_update s)) = record { answer = tt; records = refl }
strangers_are_answered seed journal members (good (say text)) = record { answer = tt; records = refl }
strangers_are_answered seed journal members (good (bounce b)) = record { answer = tt; records = refl }
strangers_are_answered seed journal members (good (get keys further)) = record { answer = tt; records = refl }
strangers_are_answered seed journal members (good (change set)) = record { answer = tt; records = refl }
strangers_are_answered seed journal members (good (set_notify keys)) = record { answer = tt; records = refl }

pub strangers_hear_no_others : StrangersHearNoOthers
strangers_hear_no_others seed before later effect = refl
