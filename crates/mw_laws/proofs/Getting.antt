-- What a Get is answered.
use Rattle.std.proofs.Common.{◌≡◌, ℕ, ◌||◌, List, Bool, true, false, cond, ◌∷◌, [], Option, Some, None, refl, sym, ap, subst, ◌∙◌, bytes_eq, nat_cmp, is_eq, Less, Equal, Greater}
use Rattle.std.proofs.lemmas.Bool.{cond-true, cond-false}
use Rattle.std.proofs.lemmas.Map.Lookups.{exact_bytes}
use Rattle.std.proofs.lemmas.Map.Text.{is_eq-slice_cmp}
use Rattle.std.proofs.lemmas.Slice.Eq.{bytes_eq-Decides}
use Rattle.std.specs.Cmp.Lexicographic.{slice_cmp, nat_list_eq_equiv, nat_list_cmp_total}
use Rattle.std.specs.Ordering.{ordering_reverse}
use Rattle.mw_model.specs.Json.{Json, Members, no_members, member, find_member, ComeAfter}
use Rattle.mw_model.specs.Seed.{Seed}
use Rattle.mw_model.specs.Texts.{has_text}
use Rattle.mw_protocol.specs.Connecting.{Member}
use Rattle.mw_protocol.specs.Effects.{effect_of}
use Rattle.mw_protocol.specs.Messages.{retrieved}
use Rattle.mw_protocol.specs.Operations.{set_member}
use Rattle.mw_protocol.specs.Packets.{get}
use Rattle.mw_protocol.specs.Reading.{read_value, with_values}
use Rattle.mw_protocol.specs.Rooms.{Room, member_in, members_in, affected}
use Rattle.mw_protocol.specs.Standing.{Standing}
use Rattle.mw_laws.specs.Stored.{AreInOrder, IsAnswered, GetsAreAnswered}
use Rattle.mw_laws.specs.Turns.{now}
use Rattle.mw_laws.proofs.Quiet.{answered}

-- names in an order are different
apart_by : (xs ys : List ℕ) → slice_cmp nat_cmp xs ys ≡ Greater → bytes_eq ys xs ≡ false
apart_by xs ys is = nat_list_eq_equiv.symm ys xs ∙ sym (is_eq-slice_cmp xs ys) ∙ ap is_eq is

-- a member that is set is found, and others as before
find_set : (key : List ℕ) (value : Json) (ms : Members) → find_member key (set_member key value ms) ≡ Some value
find_set key value no_members = cond-true (bytes_eq key key) (Some value) None ((bytes_eq-Decides key key).1 refl)
find_set key value (member k j ms) =
    elim (slice_cmp nat_cmp key k) as (λ o. slice_cmp nat_cmp key k ≡ o → find_member key (elim o [ Less ↦ member key value (member k j ms) | Equal ↦ member k value ms | Greater ↦ member k j (set_member key value ms) ]) ≡ Some value) [
      | Less ↦ λ _. cond-true (bytes_eq key key) (Some value) (find_member key (member k j ms)) ((bytes_eq-Decides key key).1 refl)
      | Equal ↦ λ is. cond-true (bytes_eq k key) (Some value) (find_member key ms) ((bytes_eq-Decides k key).1 (sym (exact_bytes key k is)))
      | Greater ↦ λ is. cond-false (bytes_eq k key) (Some j) (find_member key (set_member key value ms)) (apart_by key k is) ∙ find_set key value ms
    ] refl

find_other : (key other : List ℕ) (value : Json) (ms : Members) → bytes_eq other key ≡ false → find_member key (set_member other value ms) ≡ find_member key ms
find_other key other value no_members apart = cond-false (bytes_eq other key) (Some value) None apart
find_other key other value (member k j ms) apart =
    elim (slice_cmp nat_cmp other k) as (λ o. slice_cmp nat_cmp other k ≡ o → find_member key (elim o [ Less ↦ member other value (member k j ms) | Equal ↦ member k value ms | Greater ↦ member k j (set_member other value ms) ]) ≡ find_member key (member k j ms)) [
      | Less ↦ λ _. cond-false (bytes_eq other key) (Some value) (find_member key (member k j ms)) apart
      | Equal ↦ λ is.
          let differs : bytes_eq k key ≡ false = ap (λ name. bytes_eq name key) (sym (exact_bytes other k is)) ∙ apart in
          cond-false (bytes_eq k key) (Some value) (find_member key ms) differs ∙ sym (cond-false (bytes_eq k key) (Some j) (find_member key ms) differs)
      | Greater ↦ λ _. ap (cond (bytes_eq k key) (Some j)) (find_other key other value ms apart)
    ] refl

find_values : (seed : Seed) (s : Standing) (keys : List (List ℕ)) (ms : Members) (key : List ℕ)
    → find_member key (with_values seed s ms keys) ≡ cond (has_text keys key) (Some (read_value seed s key)) (find_member key ms)
find_values seed s [] ms key = refl
find_values seed s (k ∷ ks) ms key =
    let value = read_value seed s k in
    find_values seed s ks (set_member k value ms) key
    ∙ elim (bytes_eq k key) as (λ b. bytes_eq k key ≡ b → cond (has_text ks key) (Some (read_value seed s key)) (find_member key (set_member k value ms)) ≡ cond (b || has_text ks key) (Some (read_value seed s key)) (find_member key ms)) [
      | true ↦ λ is.
          let same = (bytes_eq-Decides k key).0 is in
          ap (cond (has_text ks key) (Some (read_value seed s key))) (subst (λ name. find_member name (set_member k value ms) ≡ Some (read_value seed s name)) same (find_set k value ms))
          ∙ either (has_text ks key) (Some (read_value seed s key))
      | false ↦ λ apart. ap (cond (has_text ks key) (Some (read_value seed s key))) (find_other key k value ms apart)
    ] refl
  where
    either : (b : Bool) (x : Option Json) → cond b x x ≡ x
    either true x = refl
    either false x = refl

-- ---- in order

come_through : (k l : List ℕ) (ms : Members) → slice_cmp nat_cmp k l ≡ Less → ComeAfter l ms → ComeAfter k ms
come_through k l no_members less h = tt
come_through k l (member m j ms) less h = (nat_list_cmp_total.trans k l m less h.0, come_through k l ms less h.1)

set_after : (l key : List ℕ) (value : Json) (ms : Members) → slice_cmp nat_cmp l key ≡ Less → ComeAfter l ms → ComeAfter l (set_member key value ms)
set_after l key value no_members less h = (less, tt)
set_after l key value (member k j ms) less h =
    elim (slice_cmp nat_cmp key k) as (λ o. ComeAfter l (elim o [ Less ↦ member key value (member k j ms) | Equal ↦ member k value ms | Greater ↦ member k j (set_member key value ms) ])) [
      | Less ↦ (less, h)
      | Equal ↦ h
      | Greater ↦ (h.0, set_after l key value ms less h.1)
    ]

set_in_order : (key : List ℕ) (value : Json) (ms : Members) → AreInOrder ms → AreInOrder (set_member key value ms)
set_in_order key value no_members h = (tt, tt)
set_in_order key value (member k j ms) h =
    elim (slice_cmp nat_cmp key k) as (λ o. slice_cmp nat_cmp key k ≡ o → AreInOrder (elim o [ Less ↦ member key value (member k j ms) | Equal ↦ member k value ms | Greater ↦ member k j (set_member key value ms) ])) [
      | Less ↦ λ is. ((is, come_through key k ms is h.0), h)
      | Equal ↦ λ _. h
      | Greater ↦ λ is. (set_after k key value ms (nat_list_cmp_total.antisymm k key ∙ ap ordering_reverse is) h.0, set_in_order key value ms h.1)
    ] refl

values_in_order : (seed : Seed) (s : Standing) (keys : List (List ℕ)) (ms : Members) → AreInOrder ms → AreInOrder (with_values seed s ms keys)
values_in_order seed s [] ms h = h
values_in_order seed s (k ∷ ks) ms h = values_in_order seed s ks (set_member k (read_value seed s k) ms) (set_in_order k (read_value seed s k) ms h)

-- ---- rooms

-- a Get of a member is its effect alone
pub got : (room : Room) (number : ℕ) (m : Member) (keys : List (List ℕ)) (further : Members) → member_in room.sessions number ≡ Some m
    → IsAnswered room number (get keys further) (retrieved record { keys = with_values room.seed (now room) no_members keys; further = further })
got room number m keys further is =
    ap (λ member. affected room number (effect_of room.seed (now room) (members_in room.sessions) member (get keys further))) is
    ∙ answered room number (retrieved record { keys = with_values room.seed (now room) no_members keys; further = further })

pub gets_are_answered : GetsAreAnswered
gets_are_answered room number m keys further is =
    (with_values room.seed (now room) no_members keys, got room number m keys further is, find_values room.seed (now room) keys no_members, values_in_order room.seed (now room) keys no_members tt)
