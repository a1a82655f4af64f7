-- What a client's packet does: its records, and what it answers, tells and changes.
use Rattle.std.specs.Prelude.{ℕ, ◌∷◌, [], List, Bool, Option, None, false}
use Rattle.mw_protocol.specs.Connecting.{Member}
use Rattle.mw_protocol.specs.Heard.{Announced, sender_hears}
use Rattle.mw_protocol.specs.Messages.{ServerPacket}
use Rattle.mw_protocol.specs.Prints.{printed, command_result}
use Rattle.mw_protocol.specs.Records.{Record}

-- the records, the answers to the sender, whether it is owed its whole view, the member that it becomes, if it becomes one, and what is told beside who hears it
pub record Effect : Type 0 where
  pub records : List Record
  pub answers : List ServerPacket
  pub whole : Bool
  pub member : Option Member
  pub announced : List Announced

-- records, and what is told of them
abbrev pub recording : List Record → List Announced → Effect
recording records announced =
    record { records = records; answers = []; whole = false; member = None; announced = announced }

abbrev pub nothing : Effect
nothing = recording [] []

abbrev pub answering : ServerPacket → Effect
answering packet =
    record { records = []; answers = packet ∷ []; whole = false; member = None; announced = [] }

-- the sender is told a text
abbrev pub telling : List ℕ → Effect
telling text =
    recording [] (record { audience = sender_hears; packet = printed (command_result text) } ∷ [])
