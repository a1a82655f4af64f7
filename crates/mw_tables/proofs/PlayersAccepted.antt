-- A players file that is accepted stands for players.
use Rattle.std.proofs.Common.{◌≡◌, ◌≤◌, ◌<◌, ℕ, ◌+◌, ◌-◌, ◌⊎◌, get_or, Option, None, Some, inl, inr, ap, List, [], ◌∷◌, ◌++◌, length, map, Bool, true, false, Ok, All, refl, sym, ◌∙◌, subst, arith, append-nil, append_assoc}
use Rattle.std.specs.Str.{chars}
use Rattle.std.specs.Prelude.{IfOk, codes, nat_le, sum_by, flat_map, bytes_eq, not}
use Rattle.std.specs.List.{IsDistinct}
use Rattle.std.proofs.lemmas.Cmp.{nat_list_eq_equiv}
use Rattle.std.proofs.lemmas.Grind.{common_steps}
use Rattle.std.specs.List.Sorted.{IsStrictlyIncreasing}
use Rattle.std.proofs.lemmas.List.Elements.{All-nil, All-cons}
use Rattle.std.proofs.lemmas.Map.Keys.{IsDistinct-push}
use Rattle.std.proofs.lemmas.Result.{IfOk-weaker, IfOk-at_ok}
use Rattle.mw_model.specs.Json.{Json, Items, no_items, item, Members}
use Rattle.mw_json.specs.Grammar.{under, number_at, text_at, name_of, name_at, list_at, items_length, list_up_to, object_at, field_at}
use Rattle.mw_json.specs.Parts.{not_empty, list_of_length}
use Rattle.mw_json.specs.Readers.{each_from, list_of_at, field_or_at, each_member_at}
use Rattle.mw_json.specs.Settings.{password_at, remaining_at, permission_at}
use Rattle.mw_json.specs.declared.refusal.Kind.{Kind}
use Rattle.mw_json.specs.declared.refusal.Kind.TheVariants.{WrongKind, TooMany, NameTooLong, DuplicateName, UnknownName, WrongOrder}
use Rattle.mw_json.specs.declared.refusal.Step.TheVariants.{Name, Index}
use Rattle.mw_multi.specs.Names.{IsName}
use Rattle.mw_multi.specs.Players.{StartEntry, Player, ItemLink, Players}
use Rattle.mw_multi.specs.PlayersKept.{RoomKept, StartKept, start_count, start_name, OptionsKept, PlayerKept, player_names, ItemLinkKept, link_name, IsPlayers}
use Rattle.mw_tables.specs.Names.{demand}
use Rattle.mw_tables.specs.PlayersOf.{has_name, names_differ, players_named, is_above, member_named, members_named, link_named, links_named, names_of_players, all_named}
use Rattle.mw_tables.specs.PlayersShape.{room_at, usual_room, wishes_at, start_entry_at, start_inventory_at, access_in, options_at, no_options, team_names_at, player_at, player_list_at, slot_number_at, several_of, link_members_at, link_at, links_in, form_at, players_shape_at}
use Rattle.mw_tables.proofs.Distinct.{regroup}
use Rattle.mw_json.proofs.Passing.{past, after, within, where_true, in_field}
use Rattle.mw_json.proofs.Kept.{number_kept, in_field_or, either, AreKept, HasLength, counted, each_kept, list_kept, object_valid, in_valid_field, in_valid_field_or, list_valid, each_valid_kept, AreNamed, members_kept}
use Rattle.mw_json.specs.Valid.{IsValid, ItemsAreValid, MembersAreValid}
use Rattle.mw_model.specs.Ascending.{NamesAscend}
use Rattle.mw_tables.proofs.Read.{called_kept, name_kept}

-- ---- the room

abbrev IsPassword : List ℕ → Type 0
IsPassword s = length (chars s) ≤ 128

few_characters : (n : ℕ) → nat_le n 128 ≡ true → n ≤ 128
few_characters n h = grind (arith, common_steps)

password_kept : (j : Json) → IfOk (password_at j) IsPassword
unfolding password_at
password_kept j = past IsPassword (text_at j) _ (λ s. where_true IsPassword (nat_le (length (chars s)) 128) s NameTooLong (λ e. few_characters (length (chars s)) e))

abbrev IsRemaining : ℕ → Type 0
IsRemaining n = n ≤ 2

remaining_kept : (j : Json) → IfOk (remaining_at j) IsRemaining
unfolding remaining_at
remaining_kept j = past IsRemaining (text_at j) _ (λ s.
    either IsRemaining (bytes_eq s (codes "disabled")) (Ok 0) _ (omega arith)
    (either IsRemaining (bytes_eq s (codes "enabled")) (Ok 1) _ (omega arith)
    (either IsRemaining (bytes_eq s (codes "goal")) (Ok 2) _ (omega arith) tt)))

abbrev IsUpTo : ℕ → ℕ → ℕ → Type 0
IsUpTo low high n = (low ≤ n) × (n ≤ high)

room_kept : (j : Json) → IfOk (room_at j) RoomKept
unfolding room_at chars
room_kept j =
    past RoomKept (object_at j) _ (λ ms.
    after IsPassword RoomKept (field_or_at (codes "password") [] password_at ms) _ (in_field_or IsPassword (codes "password") [] password_at ms (omega arith) password_kept) (λ password p.
    after (IsUpTo 0 1000) RoomKept (field_or_at (codes "hint_cost") 10 (number_at 0 1000) ms) _ (in_field_or (IsUpTo 0 1000) (codes "hint_cost") 10 (number_at 0 1000) ms (omega arith, omega arith) (number_kept 0 1000)) (λ hint_cost c.
    after (IsUpTo 0 1000000) RoomKept (field_or_at (codes "location_check_points") 1 (number_at 0 1000000) ms) _ (in_field_or (IsUpTo 0 1000000) (codes "location_check_points") 1 (number_at 0 1000000) ms (omega arith, omega arith) (number_kept 0 1000000)) (λ points l.
    past RoomKept (field_or_at (codes "release") 6 permission_at ms) _ (λ release.
    past RoomKept (field_or_at (codes "collect") 6 permission_at ms) _ (λ collect.
    after IsRemaining RoomKept (field_or_at (codes "remaining") 2 remaining_at ms) _ (in_field_or IsRemaining (codes "remaining") 2 remaining_at ms (omega arith) remaining_kept) (λ remaining r.
    record { password = p; hint_cost = c.1; location_check_points = l.1; remaining = r })))))))

usual_kept : RoomKept usual_room
unfolding chars
usual_kept = record { password = omega arith; hint_cost = omega arith; location_check_points = omega arith; remaining = omega arith }

-- ---- options

names_there : (most : ℕ) (js : Items) → IfOk (each_from (name_at most) 0 js) (λ ns. (length ns ≡ items_length js) × All (IsName most) ns)
names_there most js = each_kept (IsName most) (name_at most) (name_kept most) 0 js

wishes_kept : (j : Json) → IfOk (wishes_at j) (All (IsName 128))
unfolding wishes_at
wishes_kept j = past (All (IsName 128)) (list_at j) _ (λ js. IfOk-weaker (each_from (name_at 128) 0 js) (λ ns. (length ns ≡ items_length js) × All (IsName 128) ns) (All (IsName 128)) (λ ns h. h.1) (names_there 128 js))

entry_kept : (name : List ℕ) (j : Json) → IsValid j → IfOk (start_entry_at name j) (λ s. (start_name s ≡ name) × StartKept s)
unfolding start_entry_at
entry_kept name j o =
    let P : StartEntry → Type 0 = λ s. (start_name s ≡ name) × StartKept s in
    after (λ t. (t ≡ name) × IsName 128 t) P (name_of 128 name) _ (called_kept 128 name) (λ named n.
    after (IsUpTo 1 256) P (number_at 1 256 j) _ (number_kept 1 256 j) (λ count c.
    (n.0, record { name = n.1; low = c.0; high = c.1 })))

record StartsKept (ss : List StartEntry) : Type 0 where
  each : All StartKept ss
  ascend : NamesAscend (map start_name ss)
  together : sum_by start_count ss ≤ 256

few_items : (n : ℕ) → nat_le n 256 ≡ true → n ≤ 256
few_items n h = grind (arith, common_steps)

starts_kept : (j : Json) → IsValid j → IfOk (start_inventory_at j) StartsKept
unfolding start_inventory_at
starts_kept j o =
    after MembersAreValid StartsKept (object_at j) _ (object_valid j o) (λ ms v.
    after (AreNamed StartKept start_name start_entry_at entry_kept ms) StartsKept (each_member_at start_entry_at ms) _ (members_kept StartKept start_name start_entry_at entry_kept ms v) (λ ss h.
    where_true StartsKept (nat_le (sum_by start_count ss) 256) ss TooMany (λ e. record { each = h.each; ascend = h.ascend; together = few_items (sum_by start_count ss) e })))

no_starts : StartsKept []
no_starts = record { each = All-nil StartKept; ascend = tt; together = omega arith }

options_kept : (second : Bool) (j : Json) → IsValid j → IfOk (options_at second j) OptionsKept
unfolding options_at
options_kept second j o =
    let Wishes = All (IsName 128) in
    after MembersAreValid OptionsKept (object_at j) _ (object_valid j o) (λ ms v.
    after Wishes OptionsKept (field_or_at (codes "local_items") [] wishes_at ms) _ (in_field_or Wishes (codes "local_items") [] wishes_at ms (All-nil (IsName 128)) wishes_kept) (λ local a.
    after Wishes OptionsKept (field_or_at (codes "non_local_items") [] wishes_at ms) _ (in_field_or Wishes (codes "non_local_items") [] wishes_at ms (All-nil (IsName 128)) wishes_kept) (λ non_local b.
    after Wishes OptionsKept (field_or_at (codes "exclude_locations") [] wishes_at ms) _ (in_field_or Wishes (codes "exclude_locations") [] wishes_at ms (All-nil (IsName 128)) wishes_kept) (λ exclude c.
    after Wishes OptionsKept (field_or_at (codes "priority_locations") [] wishes_at ms) _ (in_field_or Wishes (codes "priority_locations") [] wishes_at ms (All-nil (IsName 128)) wishes_kept) (λ priority d.
    after StartsKept OptionsKept (field_or_at (codes "start_inventory") [] start_inventory_at ms) _ (in_valid_field_or StartsKept (codes "start_inventory") [] start_inventory_at ms v no_starts starts_kept) (λ start s.
    past OptionsKept (access_in second ms) _ (λ access.
    record { local_items = a; non_local_items = b; exclude_locations = c; priority_locations = d; start_inventory = s.each; ascend = s.ascend; together = s.together })))))))

no_options_kept : OptionsKept no_options
no_options_kept = record { local_items = All-nil (IsName 128); non_local_items = All-nil (IsName 128); exclude_locations = All-nil (IsName 128); priority_locations = All-nil (IsName 128); start_inventory = All-nil StartKept; ascend = tt; together = omega arith }

-- ---- players

abbrev HasNames : ℕ → List (List ℕ) → Type 0
HasNames teams ns = (length ns ≡ teams) × All (IsName 16) ns

team_names_kept : (teams : ℕ) (j : Json) → IfOk (team_names_at teams j) (HasNames teams)
unfolding team_names_at
team_names_kept teams j =
    after (HasLength teams) (HasNames teams) (list_of_length teams j) _ (counted teams j) (λ js h.
    IfOk-weaker (each_from (name_at 16) 0 js) (λ ns. (length ns ≡ items_length js) × All (IsName 16) ns) (HasNames teams) (λ ns k. (k.0 ∙ h, k.1)) (names_there 16 js))

player_kept : (second : Bool) (teams : ℕ) (j : Json) → IsValid j → IfOk (player_at second teams j) (PlayerKept teams)
unfolding player_at
player_kept second teams j o =
    after MembersAreValid (PlayerKept teams) (object_at j) _ (object_valid j o) (λ ms v.
    after (HasNames teams) (PlayerKept teams) (field_at (codes "names") (team_names_at teams) ms) _ (in_field (HasNames teams) (codes "names") (team_names_at teams) ms (team_names_kept teams)) (λ names n.
    after (IsName 128) (PlayerKept teams) (field_at (codes "world") (name_at 128) ms) _ (in_field (IsName 128) (codes "world") (name_at 128) ms (name_kept 128)) (λ world w.
    after OptionsKept (PlayerKept teams) (field_or_at (codes "options") no_options (options_at second) ms) _ (in_valid_field_or OptionsKept (codes "options") no_options (options_at second) ms v no_options_kept (options_kept second)) (λ options p.
    record { count = n.0; names = n.1; world = w; options = p }))))

record ListKept (teams : ℕ) (ps : List Player) : Type 0 where
  some_players : 1 ≤ length ps
  few_players : length ps ≤ 1024
  each : All (PlayerKept teams) ps

-- at most 1,024 values of a reading
record IsListed (js : Items) : Type 0 where
  valid : ItemsAreValid js
  few : items_length js ≤ 1024

listed : (j : Json) → IsValid j → IfOk (list_up_to 1024 j) IsListed
unfolding list_up_to
listed j o =
    after ItemsAreValid IsListed (list_at j) _ (list_valid j o) (λ js v.
    where_true IsListed _ js TooMany (λ e. record { valid = v; few = grind (arith, common_steps, e) }))

some_there : (js : Items) → IsListed js → IfOk (not_empty js) (λ some. IsListed some × (1 ≤ items_length some))
some_there no_items h = tt
some_there (item j js) h = (h, omega arith)

players_kept : (second : Bool) (teams : ℕ) (j : Json) → IsValid j → IfOk (player_list_at second teams j) (ListKept teams)
unfolding player_list_at
players_kept second teams j o =
    after IsListed (ListKept teams) (list_up_to 1024 j) _ (listed j o) (λ js h.
    after (λ some. IsListed some × (1 ≤ items_length some)) (ListKept teams) (not_empty js) _ (some_there js h) (λ some k.
    IfOk-weaker (each_from (player_at second teams) 0 some) (AreKept (PlayerKept teams) (items_length some)) (ListKept teams)
    (λ ps l. record { some_players = omega (arith, l.0, k.1); few_players = omega (arith, l.0, k.0.few); each = l.1 })
    (each_valid_kept (PlayerKept teams) (player_at second teams) (player_kept second teams) 0 some k.0.valid)))

-- ---- links

record MembersShaped (ms : List ℕ) : Type 0 where
  several : 2 ≤ length ms
  each : All (λ m. (1 ≤ m) × (m ≤ 1024)) ms

-- at least two elements
two_there : (js : Items) → IfOk (several_of js) (λ several. 2 ≤ items_length several)
two_there js = where_true (λ several. 2 ≤ items_length several) (nat_le 2 (items_length js)) js WrongKind (λ e. grind (arith, common_steps, e))

link_members_kept : (j : Json) → IfOk (link_members_at j) MembersShaped
unfolding link_members_at
link_members_kept j =
    past MembersShaped (list_at j) _ (λ js.
    after (λ several. 2 ≤ items_length several) MembersShaped (several_of js) _ (two_there js) (λ several h.
    IfOk-weaker (each_from slot_number_at 0 several) (λ ms. (length ms ≡ items_length several) × All (λ m. (1 ≤ m) × (m ≤ 1024)) ms) MembersShaped
    (λ ms k. record { several = omega (arith, k.0, h); each = k.1 })
    (each_kept (λ m. (1 ≤ m) × (m ≤ 1024)) slot_number_at (number_kept 1 1024) 0 several)))

record LinkShaped (l : ItemLink) : Type 0 where
  name : IsName 16 l.name
  members : MembersShaped l.members
  items : All (IsName 128) l.items

link_kept : (j : Json) → IfOk (link_at j) LinkShaped
unfolding link_at
link_kept j =
    past LinkShaped (object_at j) _ (λ ms.
    after (IsName 16) LinkShaped (field_at (codes "name") (name_at 16) ms) _ (in_field (IsName 16) (codes "name") (name_at 16) ms (name_kept 16)) (λ name n.
    after MembersShaped LinkShaped (field_at (codes "members") link_members_at ms) _ (in_field MembersShaped (codes "members") link_members_at ms link_members_kept) (λ numbers m.
    after (All (IsName 128)) LinkShaped (field_at (codes "items") wishes_at ms) _ (in_field (All (IsName 128)) (codes "items") wishes_at ms wishes_kept) (λ items i.
    record { name = n; members = m; items = i }))))

record LinksShaped (players : ℕ) (ls : List ItemLink) : Type 0 where
  few : players + length ls ≤ 1024
  each : All LinkShaped ls

links_shaped : (second : Bool) (players : ℕ) (ms : Members) → players ≤ 1024 → IfOk (links_in second players ms) (LinksShaped players)
links_shaped false players ms few = record { few = omega (arith, few); each = All-nil LinkShaped }
links_shaped true players ms few =
    let These : List ItemLink → Type 0 = λ ls. (length ls ≤ 1024 - players) × All LinkShaped ls in
    IfOk-weaker (field_or_at (codes "links") [] (list_of_at (1024 - players) link_at) ms) These (LinksShaped players)
    (λ ls h. record { few = omega (arith, few, h.0); each = h.1 })
    (in_field_or These (codes "links") [] (list_of_at (1024 - players) link_at) ms (omega arith, All-nil LinkShaped) (list_kept LinkShaped link_at link_kept (1024 - players)))

-- ---- the whole

record IsShaped (p : Players) : Type 0 where
  some_teams : 1 ≤ p.teams
  few_teams : p.teams ≤ 8
  room : RoomKept p.room
  players : ListKept p.teams p.players
  links : LinksShaped (length p.players) p.links

abbrev IsTeams : ℕ → Type 0
IsTeams n = (1 ≤ n) × (n ≤ 8)

shaped : (j : Json) → IsValid j → IfOk (players_shape_at j) IsShaped
unfolding players_shape_at
shaped j o =
    after MembersAreValid IsShaped (object_at j) _ (object_valid j o) (λ ms v.
    past IsShaped (field_at (codes "format") form_at ms) _ (λ second.
    after IsTeams IsShaped (field_or_at (codes "teams") 1 (number_at 1 8) ms) _ (in_field_or IsTeams (codes "teams") 1 (number_at 1 8) ms (omega arith, omega arith) (number_kept 1 8)) (λ teams t.
    after RoomKept IsShaped (field_or_at (codes "room") usual_room room_at ms) _ (in_field_or RoomKept (codes "room") usual_room room_at ms usual_kept room_kept) (λ room r.
    after (ListKept teams) IsShaped (field_at (codes "players") (player_list_at second teams) ms) _ (in_valid_field (ListKept teams) (codes "players") (player_list_at second teams) ms v (players_kept second teams)) (λ players p.
    after (LinksShaped (length players)) IsShaped (links_in second (length players) ms) _ (links_shaped second (length players) ms p.few_players) (λ links l.
    record { some_teams = t.0; few_teams = t.1; room = r; players = p; links = l }))))))

-- ---- names

not_there : (b : Bool) → IfOk (demand DuplicateName (not b)) (λ _. b ≡ false)
not_there true = tt
not_there false = refl

abbrev Apart : List (List ℕ) → Type 0
Apart ns = IsDistinct bytes_eq ns

apart : (before : List (List ℕ)) (i : ℕ) (ns : List (List ℕ)) → Apart before → IfOk (names_differ before i ns) (λ _. Apart (before ++ ns))
apart before i [] d = subst Apart (sym (append-nil before)) d
apart before i (n ∷ ns) d =
    let New : Unit {0} → Type 0 = λ _. has_name before n ≡ false in
    after New (λ _. Apart (before ++ n ∷ ns)) (under (Index i) (demand DuplicateName (not (has_name before n)))) _ (within New (Index i) (demand DuplicateName (not (has_name before n))) (not_there (has_name before n))) (λ t h.
    subst (λ whole. IfOk (names_differ (before ++ n ∷ []) (i + 1) ns) (λ _. Apart whole)) (sym (regroup before n ns)) (apart (before ++ n ∷ []) (i + 1) ns (IsDistinct-push nat_list_eq_equiv before n d h)))

all_apart : (before : List (List ℕ)) (i : ℕ) (ps : List Player) → Apart before → IfOk (players_named before i ps) (λ _. Apart (before ++ flat_map player_names ps))
all_apart before i [] d = subst Apart (sym (append-nil before)) d
all_apart before i (p ∷ ps) d =
    let These : Unit {0} → Type 0 = λ _. Apart (before ++ p.names) in
    after These (λ _. Apart (before ++ flat_map player_names (p ∷ ps))) (under (Index i) (under (Name (codes "names")) (names_differ before 0 p.names))) _
    (within These (Index i) (under (Name (codes "names")) (names_differ before 0 p.names)) (within These (Name (codes "names")) (names_differ before 0 p.names) (apart before 0 p.names d))) (λ t h.
    subst (λ whole. IfOk (players_named (before ++ p.names) (i + 1) ps) (λ _. Apart whole)) (append_assoc before p.names (flat_map player_names ps)) (all_apart (before ++ p.names) (i + 1) ps h))

none_twice : Apart []
unfolding IsDistinct
none_twice = tt

-- ---- the links' names and members

record AreMembers (slots : ℕ) (before : Option ℕ) (ms : List ℕ) : Type 0 where
  there : All (λ m. m ≤ slots) ms
  begins : is_above before (get_or ms 0 0) ≡ true ⊎ (ms ≡ [])
  ascend : IsStrictlyIncreasing ms

not_so : (kind : Kind) (b : Bool) → IfOk (demand kind b) (λ _. b ≡ true)
not_so kind true = refl
not_so kind false = tt

increasing_cons : (m : ℕ) (ms : List ℕ) → m < get_or ms 0 0 → IsStrictlyIncreasing ms → IsStrictlyIncreasing (m ∷ ms)
increasing_cons m ms below rise = λ k h. grind (arith, common_steps, below, rise)

ascends : (m : ℕ) (ms : List ℕ) → ((is_above (Some m) (get_or ms 0 0) ≡ true) ⊎ (ms ≡ [])) → IsStrictlyIncreasing ms → IsStrictlyIncreasing (m ∷ ms)
ascends m ms (inl above) rise = λ k h. increasing_cons m ms (grind (arith, above)) rise k h
ascends m ms (inr none) rise = λ k h. absurd (omega (arith, ap length none, h))

members_kept_named : (slots : ℕ) (before : Option ℕ) (i : ℕ) (ms : List ℕ) → IfOk (members_named slots before i ms) (λ _. AreMembers slots before ms)
unfolding member_named
members_kept_named slots before i [] = record { there = All-nil (λ m. m ≤ slots); begins = inr refl; ascend = λ k h. absurd (omega arith) }
members_kept_named slots before i (m ∷ ms) =
    let Here : Unit {0} → Type 0 = λ _. (nat_le m slots ≡ true) × (is_above before m ≡ true) in
    let Q : Unit {0} → Type 0 = λ _. AreMembers slots before (m ∷ ms) in
    after Here Q (under (Index i) (member_named slots before m)) _
    (within Here (Index i) (member_named slots before m)
    (after (λ _. nat_le m slots ≡ true) Here (demand UnknownName (nat_le m slots)) _ (not_so UnknownName (nat_le m slots)) (λ t h.
    IfOk-weaker (demand WrongOrder (is_above before m)) (λ _. is_above before m ≡ true) Here (λ u k. (h, k)) (not_so WrongOrder (is_above before m))))) (λ t h.
    IfOk-weaker (members_named slots (Some m) (i + 1) ms) (λ _. AreMembers slots (Some m) ms) Q (λ u r. record {
      there = All-cons (λ m. m ≤ slots) m ms (grind (arith, h.0)) r.there;
      begins = inl h.1;
      ascend = ascends m ms r.begins r.ascend;
    }) (members_kept_named slots (Some m) (i + 1) ms))

record LinkNamed (slots : ℕ) (l : ItemLink) : Type 0 where
  there : All (λ m. m ≤ slots) l.members
  ascend : IsStrictlyIncreasing l.members

record LinksNamed (slots : ℕ) (before : List (List ℕ)) (ls : List ItemLink) : Type 0 where
  each : All (LinkNamed slots) ls
  differ : Apart (before ++ map link_name ls)

link_is_named : (slots : ℕ) (before : List (List ℕ)) (l : ItemLink) → IfOk (link_named slots before l) (λ _. (has_name before l.name ≡ false) × LinkNamed slots l)
unfolding link_named
link_is_named slots before l =
    let New : Unit {0} → Type 0 = λ _. has_name before l.name ≡ false in
    let M : Unit {0} → Type 0 = λ _. AreMembers slots None l.members in
    let Q : Unit {0} → Type 0 = λ _. (has_name before l.name ≡ false) × LinkNamed slots l in
    after New Q (under (Name (codes "name")) (demand DuplicateName (not (has_name before l.name)))) _
    (within New (Name (codes "name")) (demand DuplicateName (not (has_name before l.name))) (not_there (has_name before l.name))) (λ t h.
    IfOk-weaker (under (Name (codes "members")) (members_named slots None 0 l.members)) M Q (λ u m. (h, record { there = m.there; ascend = m.ascend }))
    (within M (Name (codes "members")) (members_named slots None 0 l.members) (members_kept_named slots None 0 l.members)))

links_are_named : (slots : ℕ) (before : List (List ℕ)) (i : ℕ) (ls : List ItemLink) → Apart before → IfOk (links_named slots before i ls) (λ _. LinksNamed slots before ls)
links_are_named slots before i [] d = record { each = All-nil (LinkNamed slots); differ = subst Apart (sym (append-nil before)) d }
links_are_named slots before i (l ∷ ls) d =
    let Here : Unit {0} → Type 0 = λ _. (has_name before l.name ≡ false) × LinkNamed slots l in
    let Q : Unit {0} → Type 0 = λ _. LinksNamed slots before (l ∷ ls) in
    after Here Q (under (Index i) (link_named slots before l)) _ (within Here (Index i) (link_named slots before l) (link_is_named slots before l)) (λ t h.
    IfOk-weaker (links_named slots (before ++ l.name ∷ []) (i + 1) ls) (λ _. LinksNamed slots (before ++ l.name ∷ []) ls) Q (λ u r. record {
      each = All-cons (LinkNamed slots) l ls h.1 r.each;
      differ = subst Apart (sym (regroup before l.name (map link_name ls))) r.differ;
    }) (links_are_named slots (before ++ l.name ∷ []) (i + 1) ls (IsDistinct-push nat_list_eq_equiv before l.name d h.0)))

link_kept_both : (slots : ℕ) (l : ItemLink) → LinkShaped l → LinkNamed slots l → ItemLinkKept slots l
link_kept_both slots l s n = record {
  name = s.name;
  several = s.members.several;
  ascend = n.ascend;
  members = λ i d h. record { low = (s.members.each i d h).0; high = n.there i d h };
  items = s.items;
}

-- what has the shape and names that differ is players
pub is_players : (j : Json) (p : Players) (t : Unit {0}) → IsValid j → players_shape_at j ≡ Ok p → all_named p ≡ Ok t → IsPlayers p
unfolding all_named
is_players j p t valid shape names =
    let h = IfOk-at_ok IsShaped shape (shaped j valid) in
    let These : Unit {0} → Type 0 = λ _. Apart (names_of_players p.players) in
    let Links : Unit {0} → Type 0 = λ _. LinksNamed (length p.players) (names_of_players p.players) p.links in
    let named : LinksNamed (length p.players) (names_of_players p.players) p.links = IfOk-at_ok Links names
    (after These Links (under (Name (codes "players")) (players_named [] 0 p.players)) _ (within These (Name (codes "players")) (players_named [] 0 p.players) (all_apart [] 0 p.players none_twice)) (λ u d.
    within Links (Name (codes "links")) (links_named (length p.players) (names_of_players p.players) 0 p.links) (links_are_named (length p.players) (names_of_players p.players) 0 p.links d))) in
    record {
      some_teams = h.some_teams;
      few_teams = h.few_teams;
      room = h.room;
      some_players = h.players.some_players;
      few_players = h.players.few_players;
      each = h.players.each;
      few_receivers = h.links.few;
      links = λ i d k. link_kept_both (length p.players) (get_or p.links i d) (h.links.each i d k) (named.each i d k);
      differ = named.differ;
    }
