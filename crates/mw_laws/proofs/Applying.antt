-- A client that follows the protocol never asks for Sync, and has a front of its view.
use Rattle.std.proofs.Common.{◌≡◌, ◌⊎◌, inl, inr, ℕ, ◌≤◌, zero, suc, ◌==◌, ◌||◌, List, true, false, cond, ◌∷◌, [], ◌++◌, length, take, drop, filter, refl, sym, ap, ◌∙◌, true≢false}
use Rattle.std.proofs.lemmas.Bool.{cond_both, both_ways}
use Rattle.std.specs.List.{list_any}
use Rattle.mw_model.specs.Items.{NetItem}
use Rattle.mw_protocol.specs.Messages.{ServerPacket, room_info, connected, received_items, room_update, connection_refused, location_info, data_package, invalid_packet, print, retrieved, set_reply, bounced}
use Rattle.mw_protocol.specs.Rooms.{Message}
use Rattle.mw_laws.specs.Applied.{Client, given, applied_packets, applied_messages, having, has_items}
use Rattle.mw_laws.specs.Views.{is_received_items}
use Rattle.mw_laws.proofs.Each.{Each}

-- ---- clients

-- who asked once, asked
asked_still : (c : Client) (ps : List ServerPacket) → c.asks ≡ true → (applied_packets c ps).asks ≡ true
asked_still c [] h = h
asked_still c (received_items index items ∷ ps) h =
    asked_still (given c index items) ps
    (cond_both {A = Client} (index == 0) record { list = items; asks = c.asks } (cond (index == length c.list) record { list = c.list ++ items; asks = c.asks } record { list = c.list; asks = true }) (λ d. d.asks ≡ true) (λ _. h)
    (λ _. cond_both {A = Client} (index == length c.list) record { list = c.list ++ items; asks = c.asks } record { list = c.list; asks = true } (λ d. d.asks ≡ true) (λ _. h) (λ _. refl)))
asked_still c (room_info info ∷ ps) h = asked_still c ps h
asked_still c (connected fields ∷ ps) h = asked_still c ps h
asked_still c (room_update locations points ∷ ps) h = asked_still c ps h
asked_still c (connection_refused errors ∷ ps) h = asked_still c ps h
asked_still c (location_info items ∷ ps) h = asked_still c ps h
asked_still c (data_package content ∷ ps) h = asked_still c ps h
asked_still c (invalid_packet bad ∷ ps) h = asked_still c ps h
asked_still c (print p ∷ ps) h = asked_still c ps h
asked_still c (retrieved r ∷ ps) h = asked_still c ps h
asked_still c (set_reply r ∷ ps) h = asked_still c ps h
asked_still c (bounced b ∷ ps) h = asked_still c ps h

asked_later : (c : Client) (ms : List Message) → c.asks ≡ true → (applied_messages c ms).asks ≡ true
asked_later c [] h = h
asked_later c (m ∷ ms) h = asked_later (applied_packets c m.packets) ms (asked_still c m.packets h)

-- only ReceivedItems change it
pub applied_filter : (c : Client) (ps : List ServerPacket) → applied_packets c ps ≡ applied_packets c (filter is_received_items ps)
applied_filter c [] = refl
applied_filter c (received_items index items ∷ ps) = applied_filter (given c index items) ps
applied_filter c (room_info info ∷ ps) = applied_filter c ps
applied_filter c (connected fields ∷ ps) = applied_filter c ps
applied_filter c (room_update locations points ∷ ps) = applied_filter c ps
applied_filter c (connection_refused errors ∷ ps) = applied_filter c ps
applied_filter c (location_info items ∷ ps) = applied_filter c ps
applied_filter c (data_package content ∷ ps) = applied_filter c ps
applied_filter c (invalid_packet bad ∷ ps) = applied_filter c ps
applied_filter c (print p ∷ ps) = applied_filter c ps
applied_filter c (retrieved r ∷ ps) = applied_filter c ps
applied_filter c (set_reply r ∷ ps) = applied_filter c ps
applied_filter c (bounced b ∷ ps) = applied_filter c ps

pub applied_push : (c : Client) (ms : List Message) (m : Message) → applied_messages c (ms ++ m ∷ []) ≡ applied_packets (applied_messages c ms) m.packets
applied_push c [] m = refl
applied_push c (n ∷ ms) m = applied_push (applied_packets c n.packets) ms m

-- ---- the first ReceivedItems replaces any list, unless it is one to ask at

-- after packets of which some are ReceivedItems, the list before them doesn't matter, or the client without one asked
abbrev Forgets : (list : List NetItem) → Client → Client → Type 0
Forgets list with without = (with ≡ without) ⊎ (without.asks ≡ true)

given_forgets : (list : List NetItem) (index : ℕ) (items : List NetItem) → Forgets list (given (having list) index items) (given (having []) index items)
given_forgets list index items =
    elim (index == 0) as (λ b. index == 0 ≡ b → Forgets list
    (cond b (having items) (cond (index == length list) (having (list ++ items)) record { list = list; asks = true }))
    (cond b (having items) (cond (index == 0) (having items) record { list = []; asks = true }))) [
      | true ↦ λ _. inl refl
      | false ↦ λ other. inr (cond_both {A = Client} (index == 0) (having items) record { list = []; asks = true } (λ c. c.asks ≡ true) (λ is. absurd (both_ways (index == 0) other is)) (λ _. refl))
    ] refl

then_forgets : (list : List NetItem) (with without : Client) (ps : List ServerPacket) → Forgets list with without → Forgets list (applied_packets with ps) (applied_packets without ps)
then_forgets list with without ps (inl same) = inl (ap (λ c. applied_packets c ps) same)
then_forgets list with without ps (inr asks) = inr (asked_still without ps asks)

packets_forget : (list : List NetItem) (ps : List ServerPacket)
    → ((list_any is_received_items ps ≡ false) × ((any : List NetItem) → applied_packets (having any) ps ≡ having any)) ⊎ ((list_any is_received_items ps ≡ true) × Forgets list (applied_packets (having list) ps) (applied_packets (having []) ps))
packets_forget list [] = inl (refl, λ any. refl)
packets_forget list (received_items index items ∷ ps) = inr (refl, then_forgets list (given (having list) index items) (given (having []) index items) ps (given_forgets list index items))
packets_forget list (room_info info ∷ ps) = packets_forget list ps
packets_forget list (connected fields ∷ ps) = packets_forget list ps
packets_forget list (room_update locations points ∷ ps) = packets_forget list ps
packets_forget list (connection_refused errors ∷ ps) = packets_forget list ps
packets_forget list (location_info items ∷ ps) = packets_forget list ps
packets_forget list (data_package content ∷ ps) = packets_forget list ps
packets_forget list (invalid_packet bad ∷ ps) = packets_forget list ps
packets_forget list (print p ∷ ps) = packets_forget list ps
packets_forget list (retrieved r ∷ ps) = packets_forget list ps
packets_forget list (set_reply r ∷ ps) = packets_forget list ps
packets_forget list (bounced b ∷ ps) = packets_forget list ps

-- the list before messages doesn't matter
abbrev pub Forgotten : List NetItem → List Message → Type 0
Forgotten list ms = has_items ms ≡ true → (applied_messages (having []) ms).asks ≡ false → applied_messages (having list) ms ≡ applied_messages (having []) ms

message_forgets : (list : List NetItem) (m : Message) (ms : List Message) → Forgotten list ms
    → ((list_any is_received_items m.packets ≡ false) × ((any : List NetItem) → applied_packets (having any) m.packets ≡ having any))
    ⊎ ((list_any is_received_items m.packets ≡ true) × Forgets list (applied_packets (having list) m.packets) (applied_packets (having []) m.packets))
    → Forgotten list (m ∷ ms)
message_forgets list m ms later (inl none) has fine =
    ap (λ c. applied_messages c ms) (none.1 list)
    ∙ later (ap (λ b. b || has_items ms) (sym none.0) ∙ has) (ap (λ c. (applied_messages c ms).asks) (sym (none.1 [])) ∙ fine)
    ∙ ap (λ c. applied_messages c ms) (sym (none.1 []))
message_forgets list m ms later (inr (some, inl same)) has fine = ap (λ c. applied_messages c ms) same
message_forgets list m ms later (inr (some, inr asks)) has fine =
    absurd (both_ways (applied_messages (having []) (m ∷ ms)).asks fine (asked_later (applied_packets (having []) m.packets) ms asks))

pub messages_forget : (list : List NetItem) (ms : List Message) → Forgotten list ms
messages_forget list [] has fine = absurd (true≢false (sym has))
messages_forget list (m ∷ ms) has fine = message_forgets list m ms (messages_forget list ms) (packets_forget list m.packets) has fine

-- ---- what holds of a client all along

-- it holds of the client before the messages, and after each of them, with the length that the last message carries which it heard
abbrev pub Along : (ℕ → Client → Type 0) → ℕ → Client → List Message → Type 0
Along P n c [] = P n c
Along P n c (m ∷ ms) = P n c × Along P m.carries (applied_packets c m.packets) ms

-- the length that the last message carries, or this one where there is none
abbrev pub last_carried : ℕ → List Message → ℕ
last_carried n [] = n
last_carried n (m ∷ ms) = last_carried m.carries ms

pub last_at_most : (high n : ℕ) (ms : List Message) → n ≤ high → Each (λ m. m.carries ≤ high) ms → last_carried n ms ≤ high
last_at_most high n [] low h = low
last_at_most high n (m ∷ ms) low h = last_at_most high m.carries ms h.0 h.1

module _ (P : ℕ → Client → Type 0) where
  along_first : (n : ℕ) (c : Client) (ms : List Message) → Along P n c ms → P n c
  along_first n c [] h = h
  along_first n c (m ∷ ms) h = h.0

  pub along_last : (n : ℕ) (c : Client) (ms : List Message) → Along P n c ms → P (last_carried n ms) (applied_messages c ms)
  along_last n c [] h = h
  along_last n c (m ∷ ms) h = along_last m.carries (applied_packets c m.packets) ms h.1

  pub along_take : (count n : ℕ) (c : Client) (ms : List Message) → Along P n c ms → Along P n c (take count ms)
  along_take zero n c ms h = along_first n c ms h
  along_take (suc count) n c [] h = h
  along_take (suc count) n c (m ∷ ms) h = (h.0, along_take count m.carries (applied_packets c m.packets) ms h.1)

  -- a front of the messages has a front of those from a point on
  pub along_front : (from count n : ℕ) (c : Client) (ms : List Message) → Along P n c (drop from ms) → Along P n c (drop from (take count ms))
  along_front zero count n c ms h = along_take count n c ms h
  along_front (suc from) zero n c ms h = along_first n c (drop (suc from) ms) h
  along_front (suc from) (suc count) n c [] h = h
  along_front (suc from) (suc count) n c (m ∷ ms) h = along_front from count n c ms h

  pub along_push : (n : ℕ) (c : Client) (ms : List Message) (m : Message) → Along P n c ms → P m.carries (applied_messages c (ms ++ m ∷ [])) → Along P n c (ms ++ m ∷ [])
  along_push n c [] m h last = (h, last)
  along_push n c (k ∷ ms) m h last = (h.0, along_push k.carries (applied_packets c k.packets) ms m h.1 last)

  pub along_weaker : (Q : ℕ → Client → Type 0) → ((n : ℕ) (c : Client) → P n c → Q n c) → (n : ℕ) (c : Client) (ms : List Message) → Along P n c ms → Along Q n c ms
  along_weaker Q f n c [] h = f n c h
  along_weaker Q f n c (m ∷ ms) h = (f n c h.0, along_weaker Q f m.carries (applied_packets c m.packets) ms h.1)
