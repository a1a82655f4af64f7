-- What a Connect, a ConnectUpdate and the end of a session do.
use Rattle.std.specs.Prelude.{ℕ, ◌==◌, ◌&&◌, ◌∷◌, [], List, Bool, true, false, Option, Some, None, not, bytes_eq, if◌then◌else◌}
use Rattle.mw_model.specs.Seed.{Seed, Slot, slot_of}
use Rattle.mw_protocol.specs.Connecting.{Member, connect_errors, updated}
use Rattle.mw_protocol.specs.Effect.{Effect, nothing, answering, recording}
use Rattle.mw_protocol.specs.Heard.{Announced, team_hears}
use Rattle.mw_protocol.specs.Messages.{connected, connection_refused}
use Rattle.mw_protocol.specs.Packets.{Connect, ConnectUpdate}
use Rattle.mw_protocol.specs.Players.{connected_of, name_in}
use Rattle.mw_protocol.specs.Prints.{Print, printed, joined, left, changed_tags}
use Rattle.mw_protocol.specs.Standing.{Standing}

-- ---- who is told what

abbrev pub to_team : ℕ → Print → Announced
to_team team print = record { audience = team_hears team; packet = printed print }

abbrev pub name_at : ℕ → Option Slot → List ℕ
name_at team None = []
name_at team (Some slot) = name_in team slot

-- the name of a slot in a team
abbrev pub name_of : Seed → ℕ → ℕ → List ℕ
name_of seed team slot = name_at team (slot_of seed slot)

-- ---- Connect and ConnectUpdate

-- its team is told who joined
abbrev pub joining : Seed → Standing → Connect → Option Member → Effect
joining seed now fields None = answering (connection_refused (connect_errors seed fields))
joining seed now fields (Some m) = record {
  records = [];
  answers = connected (connected_of seed now m) ∷ [];
  whole = true;
  member = Some m;
  announced = to_team m.team (joined m.team m.slot m.tags (name_of seed m.team m.slot)) ∷ [];
}

-- the same texts in the same order
abbrev pub same_texts : List (List ℕ) → List (List ℕ) → Bool
same_texts [] [] = true
same_texts (t ∷ ts) (u ∷ us) = bytes_eq t u && same_texts ts us
same_texts _ _ = false

-- a member whose tags differ from these
abbrev pub tags_told : Seed → List (List ℕ) → Member → List Announced
tags_told seed before m =
    if same_texts before m.tags then []
    else to_team m.team (changed_tags m.team m.slot m.tags (name_of seed m.team m.slot)) ∷ []

-- the whole view again where the mask differs
abbrev pub updating : Seed → Member → ConnectUpdate → Effect
updating seed m u =
    let new = updated m u in
    record {
      records = [];
      answers = [];
      whole = not (new.mask == m.mask);
      member = Some new;
      announced = tags_told seed m.tags new;
    }

-- ---- the end of a session

-- its team is told who left
abbrev pub parting : Seed → Option Member → Effect
parting seed None = nothing
parting seed (Some m) =
    recording [] (to_team m.team (left m.team m.slot (name_of seed m.team m.slot)) ∷ [])
