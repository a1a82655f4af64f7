-- A Set's answer and records, by whether its value is kept already.
use Rattle.std.specs.Prelude.{◌≡◌, ℕ, ◌∷◌, [], List, Bool, Option, Some, None, Err, codes, if◌then◌else◌}
use Rattle.mw_model.specs.Json.{Json}
use Rattle.mw_model.specs.Sets.{SetPacket}
use Rattle.mw_protocol.specs.Connecting.{Member}
use Rattle.mw_protocol.specs.Effect.{Effect}
use Rattle.mw_protocol.specs.Heard.{Announced, watchers_hear}
use Rattle.mw_protocol.specs.Messages.{set_reply}
use Rattle.mw_protocol.specs.Packets.{Bad, bad_arguments}
use Rattle.mw_protocol.specs.Records.{Record, store}
use Rattle.mw_protocol.specs.Standing.{Standing}
use Rattle.mw_protocol.specs.Storage.{Kept, Changed, set_case}
use Rattle.mw_protocol.specs.Storing.{changing, reply_to}
use Rattle.mw_storage.specs.Refusals.{GivesBy, changed_view}
use Rattle.mw_storage.specs.declared.refusal.StoreRefusal.{StoreRefusal}
use Rattle.mw_effects.specs.declared.effect.Effect.{Effect as RustEffect}

-- a Set is refused with this text
abbrev pub set_bad : List ℕ → Bad
set_bad text = record { kind = bad_arguments; cmd = Some (codes "Set"); why = text }

-- it is the effect of each Set that is refused so
abbrev pub IsRefusal : StoreRefusal → Effect → Type 0
IsRefusal refusal effect = (now : Standing) (m : Member) (set : SetPacket)
    → GivesBy changed_view (Err refusal) (set_case now.storage set) → effect ≡ changing now m set

abbrev pub records_where : Bool → List ℕ → Json → List Record
records_where is_kept key value = if is_kept then [] else store key value ∷ []

abbrev pub stored_where : Bool → List ℕ → Json → Option Kept
stored_where is_kept key value = if is_kept then None else Some record { key = key; value = value }

-- what is told of a change
abbrev pub told_of : Member → SetPacket → Changed → List Announced
told_of m set c =
    record {
      audience = watchers_hear set.key set.want_reply;
      packet = set_reply (reply_to m set c);
    } ∷ []

-- it comes to a key's value alone
pub record IsKeeping (e : RustEffect) : Type 0 where
  pub new : e.new ≡ []
  pub status : e.status ≡ None
  pub hints : e.hints ≡ []
  pub payer : e.payer ≡ None
