-- What an effect makes of one session.
use Rattle.std.proofs.Common.{◌≡◌, ℕ, List, Bool, true, false, Option, Some, None, refl, sym, ap, ap₂, ◌∙◌}
use Rattle.mw_protocol.specs.Connecting.{Member}
use Rattle.mw_protocol.specs.Effect.{Effect}
use Rattle.mw_protocol.specs.Rooms.{member_after, or_else}
use Rattle.mw_room.specs.Known.{Shown, told, with_member}
use Rattle.mw_room.specs.Views.{session_view, made_for, due_by, IsChange}
use Rattle.mw_room.specs.declared.session.Change.{Change}
use Rattle.mw_room.specs.declared.session.Session.{Session}

-- the same is due
pub change_due : (o : Option Change) (at : ℕ) (due other : ℕ → Shown → Shown) (s : Session) → ((len : ℕ) → due len (session_view s) ≡ other len (session_view s)) → IsChange o at due s → IsChange o at other s
change_due None at due other s same h = λ len. sym (same len) ∙ h len
change_due (Some c) at due other s same h = (h.0, (λ len. h.1 len ∙ same len), h.2)

pub member_made : (effect : Effect) (sends : Bool) (member : Option Member) → or_else (made_for effect sends) member ≡ member_after effect sends member
member_made effect true member = refl
member_made effect false member = refl

-- a new member and a text, where the member is the effect's
pub due_is : (effect : Effect) (sends : Bool) (made : Option Member) (text due : Option (List ℕ)) (len : ℕ) (s : Shown) → made ≡ made_for effect sends → text ≡ due
    → due_by made text len s ≡ told due len (with_member (member_after effect sends s.member) s)
due_is effect sends made text due len s is same =
    ap₂ (λ (m : Option Member) (t : Option (List ℕ)). told t len (with_member (or_else m s.member) s)) is same
    ∙ ap (λ (m : Option Member). told due len (with_member m s)) (member_made effect sends s.member)
