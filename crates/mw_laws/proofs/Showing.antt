-- What every effect shows is checked once its records are made.
use Rattle.std.proofs.Common.{◌≡◌, ℕ, pos, ◌==◌, ◌&&◌, ◌||◌, List, Bool, true, false, not, cond, ◌∷◌, [], Option, Some, None, is_some, map, take, drop, length, nat_lt, int_le, bytes_eq, codes, nat_cmp, Less, Equal, Greater, refl, sym, ap, subst, ◌∙◌, arith, eqb-true}
use Rattle.std.proofs.lemmas.Bool.{and_parts, cond_both, cond-true}
use Rattle.std.proofs.lemmas.List.{take-take}
use Rattle.std.proofs.lemmas.Map.Lookups.{exact_bytes}
use Rattle.std.proofs.lemmas.Slice.Eq.{bytes_eq-Decides}
use Rattle.std.specs.Cmp.Lexicographic.{slice_cmp}
use Rattle.std.specs.List.{position_or_len, before_first, after_first}
use Rattle.mw_model.specs.Json.{Json, Members, no_members, member}
use Rattle.mw_model.specs.Seed.{Seed, Held, slot_of, held_at, is_owner}
use Rattle.mw_model.specs.Trees.{items_of}
use Rattle.mw_protocol.specs.Checks.{Check}
use Rattle.mw_protocol.specs.Heard.{Announced, hears, heard, wants_no_text}
use Rattle.mw_protocol.specs.Hints.{ToldHint, receives, told_hint, told_hints}
use Rattle.mw_protocol.specs.Locating.{sent_at, sends, hint_told, hints_told}
use Rattle.mw_protocol.specs.Connecting.{Member}
use Rattle.mw_protocol.specs.Messages.{ServerPacket, retrieved}
use Rattle.mw_protocol.specs.Operations.{set_member}
use Rattle.mw_protocol.specs.Reading.{is_underscore, numbered, player_with, player_at, hint_json, hints_of, private_value, or_null, read_value, with_values}
use Rattle.mw_protocol.specs.Records.{Hint}
use Rattle.mw_protocol.specs.Shown.{at_locations, hint_shown, hints_shown, value_shown, team_with, team_at, hints_team, key_shown, keys_shown, shown_by}
use Rattle.mw_protocol.specs.Standing.{Standing, is_checked}
use Rattle.mw_protocol.specs.Storage.{is_private, value_of}
use Rattle.mw_laws.proofs.Among.{Among}
use Rattle.mw_laws.proofs.Each.{Each}
use Rattle.mw_laws.proofs.Once.{held_place}
use Rattle.mw_laws.proofs.Pairs.{each_append}

-- what a packet shows is among the checks
abbrev pub ShowsAmong : List Check → ℕ → ℕ → ServerPacket → Type 0
ShowsAmong cs team slot p = Each (Among cs) (shown_by team slot p)

-- so it is of what is announced, for each member that hears it
abbrev pub AnnouncesAmong : Seed → List Check → Announced → Type 0
AnnouncesAmong seed cs a = (sends : Bool) (m : Member) → hears seed a.audience sends m ≡ true → ShowsAmong cs m.team m.slot a.packet

pub heard_among : (seed : Seed) (cs : List Check) (announced : List Announced) (sends : Bool) (m : Member) → Each (AnnouncesAmong seed cs) announced → Each (ShowsAmong cs m.team m.slot) (heard seed announced sends m)
heard_among seed cs [] sends m h = tt
heard_among seed cs (a ∷ others) sends m h =
    let rest = heard seed others sends m in
    elim (hears seed a.audience sends m) as (λ b. hears seed a.audience sends m ≡ b → Each (ShowsAmong cs m.team m.slot) (cond b (a.packet ∷ rest) rest)) [
      | true ↦ λ is. (h.0 sends m is, heard_among seed cs others sends m h.1)
      | false ↦ λ _. heard_among seed cs others sends m h.1
    ] refl

-- ---- finds and hints

-- a single check, at a location
one_among : (cs : List Check) (c : Check) → Among cs c → Each (Among cs) (at_locations (c ∷ []))
one_among cs c h = cond_both (int_le (pos 1) c.location) (c ∷ []) [] (Each (Among cs)) (λ _. (h, tt)) (λ _. tt)

sent_among : (seed : Seed) (cs : List Check) (c : Check) (at : Option Held) → ((h : Held) → at ≡ Some h → (h.slot ≡ c.slot) × (h.location ≡ c.location)) → Among cs c → Each (AnnouncesAmong seed cs) (sent_at c.team at)
sent_among seed cs c None place h = tt
sent_among seed cs c (Some at) place h = (
  λ sending m heard.
      let team = eqb-true m.team c.team (and_parts (not (wants_no_text m)) (m.team == c.team) heard).1 in
      let here = place at refl in
      one_among cs record { team = m.team; slot = at.slot; location = at.location }
      (subst (λ t. Among cs record { team = t; slot = at.slot; location = at.location }) (sym team)
      (subst (λ n. Among cs record { team = c.team; slot = n; location = at.location }) (sym here.0) (subst (λ l. Among cs record { team = c.team; slot = c.slot; location = l }) (sym here.1) h))),
  tt,
)

-- what is told of what was found at checks
pub sends_among : (seed : Seed) (cs finds : List Check) → Each (Among cs) finds → Each (AnnouncesAmong seed cs) (sends seed finds)
sends_among seed cs [] h = tt
sends_among seed cs (c ∷ finds) h =
    each_append (AnnouncesAmong seed cs) (sent_at c.team (held_at seed c.slot c.location)) (sends seed finds)
    (sent_among seed cs c (held_at seed c.slot c.location) (held_place seed.locations c.slot c.location) h.0) (sends_among seed cs finds h.1)

module _ (seed : Seed) (now : Standing) (cs : List Check) (more : (c : Check) → Among now.checked c → Among cs c) where
  hint_among : (h : Hint) (at : Option Held) → ((here : Held) → at ≡ Some here → (here.slot ≡ h.finder) × (here.location ≡ h.location)) → Each (AnnouncesAmong seed cs) (hint_told now h at)
  hint_among h None place = tt
  hint_among h (Some at) place = (
    λ sending m heard.
        let found = is_checked now h.team h.finder h.location in
        let named = and_parts (not (wants_no_text m) && (m.team == h.team)) ((m.slot == h.finder) || is_owner seed at.receiver m.slot) heard in
        let team = eqb-true m.team h.team (and_parts (not (wants_no_text m)) (m.team == h.team) named.0).1 in
        let here = place at refl in
        let c : Check = record { team = m.team; slot = at.slot; location = at.location } in
        cond_both found (at_locations (c ∷ [])) [] (Each (Among cs))
        (λ is.
        one_among cs c
        (subst (λ t. Among cs record { team = t; slot = at.slot; location = at.location }) (sym team)
        (subst (λ n. Among cs record { team = h.team; slot = n; location = at.location }) (sym here.0)
        (subst (λ l. Among cs record { team = h.team; slot = h.finder; location = l }) (sym here.1) (more record { team = h.team; slot = h.finder; location = h.location } is)))))
        (λ _. tt),
    tt,
  )

  pub hint_at_among : (h : Hint) → Each (AnnouncesAmong seed cs) (hint_told now h (held_at seed h.finder h.location))
  hint_at_among h = hint_among h (held_at seed h.finder h.location) (held_place seed.locations h.finder h.location)

  pub hints_among : (hs : List Hint) → Each (AnnouncesAmong seed cs) (hints_told seed now hs)
  hints_among [] = tt
  hints_among (h ∷ hs) = each_append (AnnouncesAmong seed cs) (hint_told now h (held_at seed h.finder h.location)) (hints_told seed now hs) (hint_at_among h) (hints_among hs)

-- ---- what a Get is answered

-- a hint that is told of a team is among the checks, if it is found
abbrev ToldAmong : List Check → ℕ → ToldHint → Type 0
ToldAmong cs team t = Each (Among cs) (hint_shown team (hint_json t))

all_told : (cs : List Check) (team : ℕ) (ts : List ToldHint) → Each (ToldAmong cs team) ts → Each (Among cs) (hints_shown team (items_of (map hint_json ts)))
all_told cs team [] h = tt
all_told cs team (t ∷ ts) h = each_append (Among cs) (hint_shown team (hint_json t)) (hints_shown team (items_of (map hint_json ts))) h.0 (all_told cs team ts h.1)

one_told : (now : Standing) (team : ℕ) (h : Hint) (at : Option Held) → h.team ≡ team → Each (ToldAmong now.checked team) (told_hint (is_checked now) h at)
one_told now team h None same = tt
one_told now team h (Some at) same = (
  cond_both (is_checked now h.team h.finder h.location) (record { team = team; slot = h.finder; location = h.location } ∷ []) [] (Each (Among now.checked))
      (λ is. (subst (λ t. Among now.checked record { team = t; slot = h.finder; location = h.location }) same is, tt)) (λ _. tt),
  tt,
)

told_among : (seed : Seed) (now : Standing) (team slot : ℕ) (hs : List Hint) → Each (ToldAmong now.checked team) (told_hints seed (is_checked now) team slot hs)
told_among seed now team slot [] = tt
told_among seed now team slot (h ∷ hs) =
    let at = held_at seed h.finder h.location in
    let concerns = (h.finder == slot) || receives seed slot at in
    each_append (ToldAmong now.checked team) (cond ((h.team == team) && concerns) (told_hint (is_checked now) h at) []) (told_hints seed (is_checked now) team slot hs)
    (cond_both ((h.team == team) && concerns) (told_hint (is_checked now) h at) [] (Each (ToldAmong now.checked team))
    (λ is. one_told now team h at (eqb-true h.team team (and_parts (h.team == team) concerns is).0)) (λ _. tt))
    (told_among seed now team slot hs)

player_among : (seed : Seed) (now : Standing) (team slot : Option ℕ) → Each (Among now.checked) (key_shown (team_with team slot) (hints_of seed now (player_with seed team slot)))
player_among seed now team None = tt
player_among seed now None (Some slot) = tt
player_among seed now (Some team) (Some slot) =
    cond_both (nat_lt team seed.teams && is_some (slot_of seed slot)) (Some record { team = team; slot = slot }) None (λ p. Each (Among now.checked) (value_shown team (hints_of seed now p)))
    (λ _. all_told now.checked team (told_hints seed (is_checked now) team slot now.hints) (told_among seed now team slot now.hints)) (λ _. tt)

text_among : (seed : Seed) (now : Standing) (text : List ℕ) → Each (Among now.checked) (key_shown (team_at text) (hints_of seed now (player_at seed text)))
text_among seed now text =
    let team = numbered (before_first is_underscore text) in
    let slot = numbered (after_first is_underscore text) in
    elim (nat_lt (position_or_len is_underscore text) (length text)) as (λ b. Each (Among now.checked) (key_shown (cond b (team_with team slot) None) (hints_of seed now (cond b (player_with seed team slot) None)))) [
      | true ↦ player_among seed now team slot
      | false ↦ tt
    ]

-- a key that names hints is read alone
reads_alone : (key : List ℕ) → bytes_eq (take 12 key) (codes "_read_hints_") ≡ true → is_private key ≡ true
reads_alone key is =
    let front : take 6 key ≡ codes "_read_" = sym (take-take 6 12 key (omega arith)) ∙ ap (take 6) ((bytes_eq-Decides (take 12 key) (codes "_read_hints_")).0 is) in
    ap (bytes_eq (codes "_read_")) front

-- a key's value shows what is among the checks
abbrev KeyAmong : List Check → List ℕ → Json → Type 0
KeyAmong cs key value = Each (Among cs) (key_shown (hints_team key) value)

read_among : (seed : Seed) (now : Standing) (key : List ℕ) → KeyAmong now.checked key (read_value seed now key)
read_among seed now key =
    let hints = bytes_eq (take 12 key) (codes "_read_hints_") in
    elim hints as (λ b. hints ≡ b → Each (Among now.checked) (key_shown (cond b (team_at (drop 12 key)) None) (read_value seed now key))) [
      | true ↦ λ is.
          let value : read_value seed now key ≡ hints_of seed now (player_at seed (drop 12 key)) =
          cond-true (is_private key) (private_value seed now key) (or_null (value_of key now.storage)) (reads_alone key is) ∙ cond-true hints (hints_of seed now (player_at seed (drop 12 key))) _ is in
          subst (λ v. Each (Among now.checked) (key_shown (team_at (drop 12 key)) v)) (sym value) (text_among seed now (drop 12 key))
      | false ↦ λ _. tt
    ] refl

module _ (P : List ℕ → Json → Type 0) where
  -- it holds of each key and its value
  abbrev EachKey : Members → Type 0
  EachKey no_members = Unit {0}
  EachKey (member key value ms) = P key value × EachKey ms

  set_key : (key : List ℕ) (value : Json) (ms : Members) → P key value → EachKey ms → EachKey (set_member key value ms)
  set_key key value no_members p h = (p, tt)
  set_key key value (member k j ms) p h =
      elim (slice_cmp nat_cmp key k) as (λ o. slice_cmp nat_cmp key k ≡ o → EachKey (elim o [ Less ↦ member key value (member k j ms) | Equal ↦ member k value ms | Greater ↦ member k j (set_member key value ms) ])) [
        | Less ↦ λ _. (p, h)
        | Equal ↦ λ is. (subst (λ name. P name value) (exact_bytes key k is) p, h.1)
        | Greater ↦ λ _. (h.0, set_key key value ms p h.1)
      ] refl

values_among : (seed : Seed) (now : Standing) (keys : List (List ℕ)) (ms : Members) → EachKey (KeyAmong now.checked) ms → EachKey (KeyAmong now.checked) (with_values seed now ms keys)
values_among seed now [] ms h = h
values_among seed now (k ∷ ks) ms h =
    values_among seed now ks (set_member k (read_value seed now k) ms) (set_key (KeyAmong now.checked) k (read_value seed now k) ms (read_among seed now k) h)

keys_among : (cs : List Check) (ms : Members) → EachKey (KeyAmong cs) ms → Each (Among cs) (keys_shown ms)
keys_among cs no_members h = tt
keys_among cs (member key value ms) h = each_append (Among cs) (key_shown (hints_team key) value) (keys_shown ms) h.0 (keys_among cs ms h.1)

pub reading_among : (seed : Seed) (now : Standing) (keys : List (List ℕ)) (further : Members) (team slot : ℕ) → ShowsAmong now.checked team slot (retrieved record { keys = with_values seed now no_members keys; further = further })
reading_among seed now keys further team slot = keys_among now.checked (with_values seed now no_members keys) (values_among seed now keys no_members tt)
