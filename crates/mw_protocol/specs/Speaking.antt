-- What a new status does, and what a text says or asks for.
use Rattle.std.specs.Prelude.{ℕ, ◌==◌, ◌++◌, ◌∷◌, [], List, codes, decimal, if◌then◌else◌}
use Rattle.mw_model.specs.Seed.{Seed, held_at}
use Rattle.mw_protocol.specs.Commands.{status_records, where_new, is_allowed, help_text, players_text, missing_text, checked_text, remaining_text, points_text}
use Rattle.mw_protocol.specs.Connecting.{Member}
use Rattle.mw_protocol.specs.Effect.{Effect, recording, telling}
use Rattle.mw_protocol.specs.Entering.{to_team, name_of}
use Rattle.mw_protocol.specs.Heard.{Announced}
use Rattle.mw_protocol.specs.Hints.{Wanted, item_wanted, location_wanted, Answer, bought, no_such_name, nothing_to_hint, too_dear, bought_for}
use Rattle.mw_protocol.specs.Locating.{hint_told}
use Rattle.mw_protocol.specs.Prints.{chatted, reached_goal, released, collected}
use Rattle.mw_protocol.specs.Records.{Record, checks, release, collect, status, hint, hint_status, store}
use Rattle.mw_protocol.specs.Sayings as said
use Rattle.mw_protocol.specs.Standing.{Standing, is_checked, status_in, cost, points}

-- ---- statuses

-- the team is told of a goal, a release and a collect
abbrev pub record_told : Seed → Record → List Announced
record_told seed (checks team slot locations) = []
record_told seed (release team slot) =
    to_team team (released team slot (name_of seed team slot)) ∷ []
record_told seed (collect team slot) =
    to_team team (collected team slot (name_of seed team slot)) ∷ []
record_told seed (status team slot s) =
    if s == 30 then to_team team (reached_goal team slot (name_of seed team slot)) ∷ [] else []
record_told seed (hint h) = []
record_told seed (hint_status team finder location s) = []
record_told seed (store key value) = []

abbrev pub records_told : Seed → List Record → List Announced
records_told seed [] = []
records_told seed (r ∷ rs) = record_told seed r ++ records_told seed rs

-- records that the team is told of
abbrev pub announcing : Seed → List Record → Effect
announcing seed records = recording records (records_told seed records)

abbrev pub stating : Seed → Standing → Member → ℕ → Effect
stating seed now m s = announcing seed (status_records seed now m s)

-- ---- texts

abbrev pub chatting : Seed → Member → List ℕ → Effect
chatting seed m text =
    recording [] (to_team m.team (chatted m.team m.slot (name_of seed m.team m.slot) text) ∷ [])

-- the record, where it asks for a check that isn't there yet
abbrev pub giving : Seed → List Record → Effect
giving seed [] = telling (codes "nothing left")
giving seed (r ∷ rs) = announcing seed (r ∷ rs)

abbrev pub where_allowed : ℕ → ℕ → Effect → Effect
where_allowed permission s effect =
    if is_allowed permission s then effect else telling (codes "not allowed")

-- a hint that is bought is told to those whom it concerns, and why it isn't to the sender
abbrev pub buying : Seed → Standing → Answer → Effect
buying seed now (bought h) =
    recording (hint h ∷ []) (hint_told now h (held_at seed h.finder h.location))
buying seed now no_such_name = telling (codes "no such name")
buying seed now nothing_to_hint = telling (codes "nothing to hint")
buying seed now (too_dear price left) =
    telling (decimal price ++ codes " points needed, " ++ decimal left ++ codes " there")

abbrev pub wanting : Seed → Standing → Member → Wanted → Effect
wanting seed now m wanted =
    buying seed now
    (bought_for seed (is_checked now) (points seed now m.team m.slot) now.hints m.team m.slot
    wanted)

-- of a member, among the members of all open sessions
abbrev pub saying : Seed → Standing → List Member → Member → said.Said → Effect
saying seed now members m (said.chat text) = chatting seed m text
saying seed now members m said.help = telling help_text
saying seed now members m said.players = telling (players_text seed m.team members)
saying seed now members m said.missing = telling (missing_text seed (is_checked now) m.team m.slot)
saying seed now members m said.checked = telling (checked_text seed (is_checked now) m.team m.slot)
saying seed now members m said.remaining =
    where_allowed seed.server.remaining (status_in now m.team m.slot)
    (telling (remaining_text seed (is_checked now) m.team m.slot))
saying seed now members m said.release =
    where_allowed seed.server.release (status_in now m.team m.slot)
    (giving seed (where_new seed now (release m.team m.slot)))
saying seed now members m said.collect =
    where_allowed seed.server.collect (status_in now m.team m.slot)
    (giving seed (where_new seed now (collect m.team m.slot)))
saying seed now members m (said.hint []) =
    telling (points_text (points seed now m.team m.slot) (cost seed m.slot))
saying seed now members m (said.hint (c ∷ cs)) = wanting seed now m (item_wanted (c ∷ cs))
saying seed now members m (said.hint_location name) = wanting seed now m (location_wanted name)
saying seed now members m said.unknown_command = telling (codes "unknown command")
