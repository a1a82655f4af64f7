-- Texts one behind the other, up to a message.
use Rattle.std.proofs.Common.{◌≡◌, ℕ, ◌<◌, List, [], ◌∷◌, ◌++◌, None, Some, true, length, map, refl, sym, ap, ◌∙◌, append_assoc, append-nil, arith}
use Rattle.std.proofs.lemmas.List.{map-append}
use Rattle.mw_protocol.specs.Messages.{ServerPacket, packet_text}
use Rattle.mw_packets_out.specs.Joined.{joined}
use Rattle.mw_packets_out.proofs.Joined.{message_in_brackets}
use Rattle.mw_owed.specs.Written.{all_behind, behind, closed, mark_after, message_of}

pub first_mark : (out : List ℕ) → length out ≡ 0 → 91 ∷ [] ≡ mark_after out
first_mark [] h = refl
first_mark (c ∷ cs) h = absurd (omega arith)

pub later_mark : (out : List ℕ) → 0 < length out → 44 ∷ [] ≡ mark_after out
later_mark [] h = absurd (omega arith)
later_mark (c ∷ cs) h = refl

pub none_closed : (out : List ℕ) → length out ≡ 0 → None ≡ closed out
none_closed [] h = refl
none_closed (c ∷ cs) h = absurd (omega arith)

pub some_closed : (out : List ℕ) → 0 < length out → Some (out ++ 93 ∷ []) ≡ closed out
some_closed [] h = absurd (omega arith)
some_closed (c ∷ cs) h = refl

pub all_behind-append : (out : List ℕ) (ts us : List (List ℕ)) → all_behind out (ts ++ us) ≡ all_behind (all_behind out ts) us
all_behind-append out [] us = refl
all_behind-append out (t ∷ ts) us = all_behind-append (behind out t) ts us

-- once there is a text each further one comes after a comma
all_after : (c : ℕ) (cs : List ℕ) (ts : List (List ℕ)) → all_behind (c ∷ cs) ts ≡ (c ∷ cs) ++ joined true ts
all_after c cs [] = sym (append-nil (c ∷ cs))
all_after c cs (t ∷ ts) =
    ap (λ (out : List ℕ). all_behind out ts) (append_assoc (c ∷ cs) (44 ∷ []) t)
    ∙ all_after c (cs ++ 44 ∷ t) ts
    ∙ append_assoc (c ∷ cs) (44 ∷ t) (joined true ts)

-- what is behind nothing, once it is closed, is the message
pub closed_is : (ps : List ServerPacket) → closed (all_behind [] (map packet_text ps)) ≡ message_of ps
closed_is [] = refl
closed_is (p ∷ ps) =
    ap closed (all_after 91 (packet_text p) (map packet_text ps))
    ∙ ap Some (message_in_brackets [] (p ∷ ps) (map packet_text (p ∷ ps)) refl)

pub message_is : (first second third : List ServerPacket) → closed (all_behind (all_behind (all_behind [] (map packet_text first)) (map packet_text second)) (map packet_text third)) ≡ message_of (first ++ second ++ third)
message_is first second third =
    let texts = map packet_text in
    ap closed (ap (λ (out : List ℕ). all_behind out (texts third)) (sym (all_behind-append [] (texts first) (texts second)))
    ∙ sym (all_behind-append [] (texts first ++ texts second) (texts third))
    ∙ ap (λ (ts : List (List ℕ)). all_behind [] (ts ++ texts third)) (sym (map-append packet_text first second))
    ∙ ap (all_behind []) (sym (map-append packet_text (first ++ second) third)))
    ∙ closed_is (first ++ second ++ third)
