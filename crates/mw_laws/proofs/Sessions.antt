-- What telling a session leaves, and what an effect makes of each session.
use Rattle.std.proofs.Common.{◌≡◌, ℕ, ◌+◌, ◌==◌, List, Bool, true, false, cond, ◌∷◌, [], Option, Some, None, is_some, map, length, refl, ap, true≢false}
use Rattle.std.proofs.lemmas.Bool.{cond_both}
use Rattle.mw_model.specs.Seed.{Seed}
use Rattle.mw_protocol.specs.Connecting.{Member}
use Rattle.mw_protocol.specs.Effect.{Effect}
use Rattle.mw_protocol.specs.Messages.{ServerPacket, room_info}
use Rattle.mw_protocol.specs.Owed.{owed}
use Rattle.mw_protocol.specs.Players.{room_info_of}
use Rattle.mw_protocol.specs.Standing.{Standing}
use Rattle.mw_protocol.specs.Rooms.{Message, Session, is_full, text_of, untaken, overrun_by, with_message, with_member, told, Room, session_after, new_session, or_else, member_after}

pub no_member : {A : Type 0} (x : A) → Some x ≡ None → ⊥
no_member x e = true≢false (ap is_some e)

-- whatever holds of a session, of it overrun and of it with the message, holds of it once it is told
pub told_any : (P : Session → Type 0) (packets : List ServerPacket) (length : ℕ) (s : Session)
    → P s → P (overrun_by s) → P (with_message record { packets = packets; carries = length } s) → P (told packets length s)
told_any P [] length s same over more = same
told_any P (p ∷ ps) length s same over more =
    let m : Message = record { packets = p ∷ ps; carries = length } in
    let full = is_full (map text_of (untaken s)) in
    cond_both s.overrun s (cond full (overrun_by s) (with_message m s)) P (λ _. same) (λ _. cond_both full (overrun_by s) (with_message m s) P (λ _. over) (λ _. more))

pub told_number : (packets : List ServerPacket) (length : ℕ) (s : Session) → (told packets length s).number ≡ s.number
told_number packets length s = told_any (λ t. t.number ≡ s.number) packets length s refl refl refl

pub told_member : (packets : List ServerPacket) (length : ℕ) (s : Session) → (told packets length s).member ≡ s.member
told_member packets length s = told_any (λ t. t.member ≡ s.member) packets length s refl refl refl

pub after_number : (seed : Seed) (before after : Standing) (length : ℕ) (effect : Effect) (sender : ℕ) (s : Session) → (session_after seed before after length effect sender s).number ≡ s.number
after_number seed before after length effect sender s =
    let then = member_after effect (s.number == sender) s.member in
    told_number (owed seed before after effect (s.number == sender) then) length (with_member then s)

pub new_number : (room : Room) (time : ℕ) → (new_session room time).number ≡ room.opened + 1
new_number room time =
    told_number (room_info (room_info_of room.seed time) ∷ []) (length room.journal) record { number = room.opened + 1; member = None; owed = []; taken = 0; overrun = false }

-- who plays no slot after an effect played none before, and doesn't by the effect
pub none_before : (effect : Effect) (sends : Bool) (member : Option Member) → member_after effect sends member ≡ None → member ≡ None
none_before effect false member e = e
none_before effect true member e = by effect.member e
  where
    by : (made : Option Member) → or_else made member ≡ None → member ≡ None
    by None e = e
    by (Some m) e = absurd (no_member m e)

pub none_made : (effect : Effect) (member : Option Member) → member_after effect true member ≡ None → effect.member ≡ None
none_made effect member e = by effect.member e
  where
    by : (made : Option Member) → or_else made member ≡ None → made ≡ None
    by None e = refl
    by (Some m) e = absurd (no_member m e)
