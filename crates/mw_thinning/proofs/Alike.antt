-- What packets do in two standings that differ in the order of their storage alone, and what is then owed.
use Rattle.std.proofs.Common.{◌≡◌, ℕ, ◌==◌, ◌||◌, List, Bool, cond, ◌∷◌, [], ◌++◌, Option, Some, None, Result, Ok, Err, length, nat_lt, refl, sym, ap, subst, ◌∙◌}
use Rattle.mw_model.specs.Json.{Json, Members, no_members}
use Rattle.mw_model.specs.Seed.{Seed}
use Rattle.mw_model.specs.Sets.{SetPacket}
use Rattle.mw_protocol.specs.Asked.{asked_by}
use Rattle.mw_protocol.specs.Checks.{Check, unseen}
use Rattle.mw_protocol.specs.Commands.{at_goal, if_some, is_automatic, where_new}
use Rattle.mw_protocol.specs.Connecting.{Member}
use Rattle.mw_protocol.specs.Effect.{Effect, answering, recording}
use Rattle.mw_protocol.specs.Effects.{effect_of, stranger_effect, member_effect}
use Rattle.mw_protocol.specs.Heard.{watchers_hear}
use Rattle.mw_protocol.specs.Messages.{retrieved, set_reply}
use Rattle.mw_protocol.specs.Operations.{set_member}
use Rattle.mw_protocol.specs.Owed.{owed}
use Rattle.mw_protocol.specs.Packets.{Packet, connect, connect_update, sync, location_checks, location_scouts, update_hint, status_update, say, get_data_package, bounce, get, change, set_notify}
use Rattle.mw_protocol.specs.Reading.{private_value, or_null, read_value, with_values}
use Rattle.mw_protocol.specs.Records.{Record, Hint, release, collect, status, store}
use Rattle.mw_protocol.specs.Speaking.{announcing, stating}
use Rattle.mw_protocol.specs.Standing.{Standing, start, standing, status_in}
use Rattle.mw_protocol.specs.Statuses.{SlotStatus}
use Rattle.mw_protocol.specs.Storage.{Kept, Refused, private_key, store_full, Changed, is_private, put, before, kept_after, run_from, set_case, storage, value_or, bytes_kept, ◌then◌}
use Rattle.mw_protocol.specs.Storing.{changing, is_kept, reply_to, storing}
use Rattle.mw_laws.proofs.Journal.{standing_checked, steps_checked}
use Rattle.mw_thinning.specs.Same.{Same}
use Rattle.mw_thinning.proofs.Kept.{AlikeKept, IsOnce, alike_bytes, alike_count, all_once, put_alike, put_once}
use Rattle.mw_thinning.proofs.Thinned.{standing_hints, standing_statuses, standing_storage}

-- the standing with other storage
abbrev pub with_storage : List Kept → Standing → Standing
with_storage kept s = record { checked = s.checked; statuses = s.statuses; hints = s.hints; storage = kept }

-- as the limits say
abbrev judged : ℕ → ℕ → Json → Json → Result Changed Refused
judged bytes count old new = cond (nat_lt 4194304 bytes || nat_lt 65536 count) (Err (store_full bytes count)) (Ok record { old = old; new = new })

abbrev made : List Check → List SlotStatus → List Hint → List Kept → Standing
made checks given told kept = record { checked = checks; statuses = given; hints = told; storage = kept }

module _ (seed : Seed) (s : Standing) (kept : List Kept) (once : IsOnce s.storage) (other : IsOnce kept) (same : AlikeKept s.storage kept) where
  abbrev t : Standing
  t = with_storage kept s

  -- ---- Get

  read_same : (key : List ℕ) → read_value seed s key ≡ read_value seed t key
  read_same key = ap (λ v. cond (is_private key) (private_value seed s key) (or_null v)) (same key)

  values_same : (keys : List (List ℕ)) (ms : Members) → with_values seed s ms keys ≡ with_values seed t ms keys
  values_same [] ms = refl
  values_same (k ∷ ks) ms = ap (λ v. with_values seed s (set_member k v ms) ks) (read_same k) ∙ values_same ks (set_member k (read_value seed t k) ms)

  reading_same : (keys : List (List ℕ)) (further : Members) (ms : Members)
      → answering (retrieved record { keys = with_values seed s ms keys; further = further }) ≡ answering (retrieved record { keys = with_values seed t ms keys; further = further })
  reading_same keys further ms = ap (λ vs. answering (retrieved record { keys = vs; further = further })) (values_same keys ms)

  -- ---- Set

  module _ (set : SetPacket) where
    before_same : before s.storage set ≡ before kept set
    before_same = ap (value_or set.fallback) (same set.key)

    -- what would stand is as large
    after_same : (new : Json) → kept_after s.storage set new ≡ kept_after kept set new
    after_same new =
        let xs = put set.key new s.storage in
        let ys = put set.key new kept in
        let one = put_once set.key new s.storage once in
        let two = put_once set.key new kept other in
        let alike = put_alike set.key new s.storage kept same in
        ap (λ bytes. judged bytes (length xs) (before s.storage set) new) (alike_bytes xs ys one two alike)
        ∙ ap (λ count. judged (bytes_kept ys) count (before s.storage set) new) (alike_count xs ys one two alike)
        ∙ ap (λ old. judged (bytes_kept ys) (length ys) old new) before_same

    then_same : (r : Result Json Refused) → (r then kept_after s.storage set) ≡ (r then kept_after kept set)
    then_same (Ok new) = after_same new
    then_same (Err e) = refl

    case_same : set_case s.storage set ≡ set_case kept set
    case_same =
        ap (λ j. cond (is_private set.key) (Err private_key) (run_from 0 set.operations j then kept_after s.storage set)) before_same
        ∙ ap (cond (is_private set.key) (Err private_key)) (then_same (run_from 0 set.operations (before kept set)))

    storing_same : (m : Member) (done : Result Changed Refused) → storing s m set done ≡ storing t m set done
    storing_same m (Err r) = refl
    storing_same m (Ok c) =
        ap (λ v. recording (cond (is_kept c.new v) [] (store set.key c.new ∷ [])) (record { audience = watchers_hear set.key set.want_reply; packet = set_reply (reply_to m set c) } ∷ [])) (same set.key)

    changing_same : (m : Member) → changing s m set ≡ changing t m set
    changing_same m = ap (storing s m set) case_same ∙ storing_same m (set_case kept set)

  -- ---- StatusUpdate

  goal_same : (team slot : ℕ) → at_goal seed s team slot ≡ at_goal seed t team slot
  goal_same team slot =
      let collected = cond (is_automatic seed.server.collect) (where_new seed s (collect team slot)) [] in
      ap (λ cs. collected ++ cond (is_automatic seed.server.release) (if_some (unseen cs (asked_by seed (release team slot))) (release team slot)) [])
      (steps_checked seed s collected ∙ sym (steps_checked seed t collected))

  stating_same : (m : Member) (number : ℕ) → stating seed s m number ≡ stating seed t m number
  stating_same m number =
      let before = status_in s m.team m.slot in
      ap (λ rs. announcing seed (cond ((before == 30) || (before == number)) [] (status m.team m.slot number ∷ cond (number == 30) rs []))) (goal_same m.team m.slot)

  -- ---- all packets

  stranger_same : (p : Packet) → stranger_effect seed s p ≡ stranger_effect seed t p
  stranger_same p = refl

  member_same : (members : List Member) (m : Member) (p : Packet) → member_effect seed s members m p ≡ member_effect seed t members m p
  member_same members m (get keys further) = reading_same keys further no_members
  member_same members m (change set) = changing_same set m
  member_same members m (connect fields) = refl
  member_same members m (connect_update u) = refl
  member_same members m sync = refl
  member_same members m (location_checks numbers) = refl
  member_same members m (location_scouts numbers as_hint) = refl
  member_same members m (update_hint u) = refl
  member_same members m (status_update number) = stating_same m number
  member_same members m (say text) = refl
  member_same members m (get_data_package games) = refl
  member_same members m (bounce b) = refl
  member_same members m (set_notify keys) = refl

  pub effect_same : (members : List Member) (member : Option Member) (p : Packet) → effect_of seed s members member p ≡ effect_of seed t members member p
  effect_same members None p = stranger_same p
  effect_same members (Some m) p = member_same members m p

-- what is owed doesn't ask for the storage
pub owed_same : (seed : Seed) (s later : Standing) (kept more : List Kept) (effect : Effect) (sends : Bool) (member : Option Member)
    → owed seed s later effect sends member ≡ owed seed (with_storage kept s) (with_storage more later) effect sends member
owed_same seed s later kept more effect sends member = refl

-- ---- of two journals

module _ (seed : Seed) (xs ys : List Record) (same : Same seed xs ys) where
  pub standings_same : with_storage (storage ys) (standing seed xs) ≡ standing seed ys
  standings_same =
      let s = standing seed xs in
      let t = standing seed ys in
      let cs : s.checked ≡ t.checked = standing_checked seed xs ∙ same.checked ∙ sym (standing_checked seed ys) in
      let hs : s.hints ≡ t.hints = standing_hints seed start xs ∙ same.hints ∙ sym (standing_hints seed start ys) in
      let ss : s.statuses ≡ t.statuses = standing_statuses seed start xs ∙ same.statuses ∙ sym (standing_statuses seed start ys) in
      ap (λ c. made c s.statuses s.hints (storage ys)) cs
      ∙ ap (λ st. made t.checked st s.hints (storage ys)) ss
      ∙ ap (λ h. made t.checked t.statuses h (storage ys)) hs
      ∙ ap (made t.checked t.statuses t.hints) (sym (standing_storage seed start ys))

  pub effects_same : (members : List Member) (member : Option Member) (p : Packet) → effect_of seed (standing seed xs) members member p ≡ effect_of seed (standing seed ys) members member p
  effects_same members member p =
      let kept : (standing seed xs).storage ≡ storage xs = standing_storage seed start xs in
      effect_same seed (standing seed xs) (storage ys) (subst IsOnce (sym kept) (all_once xs [] tt)) (all_once ys [] tt) (subst (λ k. AlikeKept k (storage ys)) (sym kept) same.storage) members member p
      ∙ ap (λ s. effect_of seed s members member p) standings_same
