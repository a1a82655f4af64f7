-- The calls of a session are its own: they take its messages alone, and none of them ends it before its last.
use Rattle.std.proofs.Common.{◌≡◌, ℕ, List, [], ◌∷◌, ◌++◌, Bool, true, false, if◌then◌else◌, map, length, refl}
use Rattle.std.specs.List.{AllByRecursion}
use Rattle.std.specs.Prelude.{nat_lt}
use mathlib.Core.List.{IsPrefix}
use Rattle.mw_protocol.specs.Lives.{Call, happens, commits, takes}
use Rattle.mw_protocol.specs.Packets.{Inbound, good, wrong}
use Rattle.mw_protocol.specs.Rooms.{opened, sent, failed, lost}
use Rattle.mw_packets_in.specs.PacketsOf.{packets_of}
use Rattle.mw_link.specs.declared.link.Heard.{Heard}
use Rattle.mw_link.specs.declared.link.Heard.TheVariants.{Words, Binary, NotYet, End}
use Rattle.mw_session.specs.Asked.{asked_by, asks, call_for, limit, no_json, turns}
use Rattle.mw_session.proofs.Lists.{all_append, all_prefix, all_push}

abbrev pub IsOwn : ℕ → Call → Type 0
IsOwn session (happens (opened time)) = Unit {0}
IsOwn session (happens (sent n packet)) = Unit {0}
IsOwn session (happens (failed n bad)) = Unit {0}
IsOwn session (happens (lost n)) = ⊥
IsOwn session commits = Unit {0}
IsOwn session (takes n) = n ≡ session

own_call : (session : ℕ) (i : Inbound) → IsOwn session (call_for session i)
own_call session (good packet) = tt
own_call session (wrong bad) = tt

own_map : (session : ℕ) (is : List Inbound) → AllByRecursion (IsOwn session) (map (call_for session) is)
own_map session [] = tt
own_map session (i ∷ is) = (own_call session i, own_map session is)

own_asks : (session : ℕ) (text : List ℕ) → AllByRecursion (IsOwn session) (asks session text)
unfolding asks
own_asks session text = own_map session (packets_of text)

own_if : (session : ℕ) (text : List ℕ) (b : Bool) → AllByRecursion (IsOwn session) (if b then [] else asks session text)
own_if session text true = tt
own_if session text false = own_asks session text

own_asked : (session : ℕ) (h : Heard) → AllByRecursion (IsOwn session) (asked_by session h)
own_asked session (Words text) = own_if session text (nat_lt limit (length text))
own_asked session Binary = own_asks session no_json
own_asked session NotYet = tt
own_asked session End = tt

own_turns : (session : ℕ) (heard : List Heard) → AllByRecursion (IsOwn session) (turns session heard)
own_turns session [] = tt
own_turns session (h ∷ hs) = (refl, all_append (IsOwn session) (asked_by session h) (turns session hs) (own_asked session h) (own_turns session hs))

pub own_front : (session : ℕ) (calls : List Call) (heard : List Heard) → IsPrefix calls (turns session heard ++ takes session ∷ []) → AllByRecursion (IsOwn session) calls
own_front session calls heard front =
    all_prefix (IsOwn session) calls (turns session heard ++ takes session ∷ []) front (all_push (IsOwn session) (turns session heard) (takes session) (own_turns session heard) refl)
