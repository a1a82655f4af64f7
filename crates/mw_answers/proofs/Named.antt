-- Names of locations and items by id.
use Rattle.std.proofs.Common.{◌≡◌, ℕ, ℤ, ◌==◌, ◌&&◌, ◌<◌, ◌+◌, ◌++◌, [], ◌∷◌, List, Bool, true, false, not, Option, Some, None, length, map, filter, take, get_or, refl, sym, ap, ap₂, ◌∙◌, codes, if◌then◌else◌}
use Rattle.std.proofs.lemmas.List.{take_more}
use Rattle.mw_model.specs.Seed.{Seed, Game, Held, NamedId, is_owner}
use Rattle.mw_protocol.specs.Asked.{locations_among, locations_of}
use Rattle.mw_protocol.specs.Checks.{CheckedAt}
use Rattle.mw_protocol.specs.Commands.{location_name, item_name, name_among, remaining_items, game_of, counted, remaining_text}
use Rattle.mw_answers.specs.Names.{location_names, item_names, name_if, is_as}

location_named : (game : Option Game) (id : ℤ) → name_among id (location_names game) ≡ location_name game id
location_named None id = refl
location_named (Some g) id = refl

item_named : (game : Option Game) (id : ℤ) → name_among id (item_names game) ≡ item_name game id
item_named None id = refl
item_named (Some g) id = refl

pub locations_named : (game : Option Game) (ids : List ℤ) → map (λ l. name_among l (location_names game)) ids ≡ map (location_name game) ids
locations_named game [] = refl
locations_named game (id ∷ ids) = ap₂ (λ n ns. n ∷ ns) (location_named game id) (locations_named game ids)

pub items_named : (game : Option Game) (ids : List ℤ) → map (λ l. name_among l (item_names game)) ids ≡ map (item_name game) ids
items_named game [] = refl
items_named game (id ∷ ids) = ap₂ (λ n ns. n ∷ ns) (item_named game id) (items_named game ids)

-- ---- one location more

-- the names of a slot's locations of this kind
abbrev pub names_where : (ℤ → List ℕ) → (ℤ → Bool) → ℕ → List Held → List (List ℕ)
names_where name is slot hs = map name (filter is (locations_among slot hs))

where_one : (name : ℤ → List ℕ) (is : ℤ → Bool) (slot : ℕ) (h : Held) → names_where name is slot (h ∷ []) ≡ name_if ((h.slot == slot) && is h.location) (name h.location)
where_one name is slot h =
    elim (h.slot == slot) as (λ b. map name (filter is (if b then h.location ∷ [] else [])) ≡ name_if (b && is h.location) (name h.location)) [
      | true ↦ elim (is h.location) as (λ b. map name (if b then h.location ∷ [] else []) ≡ name_if b (name h.location)) [ true ↦ refl | false ↦ refl ]
      | false ↦ refl
    ]

where_more : (name : ℤ → List ℕ) (is : ℤ → Bool) (slot : ℕ) (hs : List Held) (h : Held) → names_where name is slot (hs ++ h ∷ []) ≡ names_where name is slot hs ++ names_where name is slot (h ∷ [])
where_more name is slot [] h = refl
where_more name is slot (g ∷ hs) h =
    elim (g.slot == slot) as (λ b. map name (filter is (if b then g.location ∷ locations_among slot (hs ++ h ∷ []) else locations_among slot (hs ++ h ∷ [])))
    ≡ map name (filter is (if b then g.location ∷ locations_among slot hs else locations_among slot hs)) ++ names_where name is slot (h ∷ [])) [
      | true ↦ elim (is g.location) as (λ b. map name (if b then g.location ∷ filter is (locations_among slot (hs ++ h ∷ [])) else filter is (locations_among slot (hs ++ h ∷ [])))
          ≡ map name (if b then g.location ∷ filter is (locations_among slot hs) else filter is (locations_among slot hs)) ++ names_where name is slot (h ∷ [])) [
            | true ↦ ap (λ ns. name g.location ∷ ns) (where_more name is slot hs h)
            | false ↦ where_more name is slot hs h
          ]
      | false ↦ where_more name is slot hs h
    ]

pub where_next : (name : ℤ → List ℕ) (is : ℤ → Bool) (slot i : ℕ) (hs : List Held) (h : Held) (old new : List (List ℕ)) (wanted : Bool) → i < length hs → h ≡ get_or hs i h
    → wanted ≡ ((h.slot == slot) && is h.location) → old ≡ names_where name is slot (take i hs) → new ≡ old ++ name_if wanted (name h.location)
    → new ≡ names_where name is slot (take (i + 1) hs)
where_next name is slot i hs h old new wanted within here when before made =
    let grown : take (i + 1) hs ≡ take i hs ++ h ∷ [] = take_more hs i h within ∙ ap (λ y. take i hs ++ y ∷ []) (sym here) in
    let one : name_if wanted (name h.location) ≡ names_where name is slot (h ∷ []) = ap (λ b. name_if b (name h.location)) when ∙ sym (where_one name is slot h) in
    made ∙ ap₂ (λ o n. o ++ n) before one ∙ sym (where_more name is slot (take i hs) h) ∙ ap (names_where name is slot) (sym grown)

left_more : (name : ℤ → List ℕ) (seed : Seed) (found : CheckedAt) (team slot : ℕ) (hs : List Held) (h : Held)
    → map name (remaining_items seed found team slot (hs ++ h ∷ [])) ≡ map name (remaining_items seed found team slot hs) ++ map name (remaining_items seed found team slot (h ∷ []))
left_more name seed found team slot [] h = refl
left_more name seed found team slot (g ∷ hs) h =
    elim (is_owner seed g.receiver slot && not (found team g.slot g.location)) as (λ b.
    map name (if b then g.item ∷ remaining_items seed found team slot (hs ++ h ∷ []) else remaining_items seed found team slot (hs ++ h ∷ []))
    ≡ map name (if b then g.item ∷ remaining_items seed found team slot hs else remaining_items seed found team slot hs) ++ map name (remaining_items seed found team slot (h ∷ []))) [
      | true ↦ ap (λ ns. name g.item ∷ ns) (left_more name seed found team slot hs h)
      | false ↦ left_more name seed found team slot hs h
    ]

one_left : (name : ℤ → List ℕ) (h : Held) (b : Bool) → name_if b (name h.item) ≡ map name (if b then h.item ∷ [] else [])
one_left name h true = refl
one_left name h false = refl

pub left_next : (name : ℤ → List ℕ) (seed : Seed) (found : CheckedAt) (team slot i : ℕ) (hs : List Held) (h : Held) (old new : List (List ℕ)) (left : Bool) → i < length hs → h ≡ get_or hs i h
    → left ≡ (is_owner seed h.receiver slot && not (found team h.slot h.location)) → old ≡ map name (remaining_items seed found team slot (take i hs)) → new ≡ old ++ name_if left (name h.item)
    → new ≡ map name (remaining_items seed found team slot (take (i + 1) hs))
left_next name seed found team slot i hs h old new left within here when before made =
    let grown : take (i + 1) hs ≡ take i hs ++ h ∷ [] = take_more hs i h within ∙ ap (λ y. take i hs ++ y ∷ []) (sym here) in
    let one : name_if left (name h.item) ≡ map name (remaining_items seed found team slot (h ∷ [])) = ap (λ b. name_if b (name h.item)) when ∙ one_left name h (is_owner seed h.receiver slot && not (found team h.slot h.location)) in
    made ∙ ap₂ (λ o n. o ++ n) before one ∙ sym (left_more name seed found team slot (take i hs) h) ∙ ap (λ t. map name (remaining_items seed found team slot t)) (sym grown)

-- ---- texts

pub places_named : (seed : Seed) (found : CheckedAt) (team slot : ℕ) (names : List NamedId) (locations : List Held) (wanted : Bool) (shown : List (List ℕ)) (word : List ℕ)
    → names ≡ location_names (game_of seed slot) → locations ≡ seed.locations → shown ≡ names_where (λ l. name_among l names) (λ l. is_as wanted (found team slot l)) slot locations
    → counted word shown ≡ counted word (map (location_name (game_of seed slot)) (filter (λ l. is_as wanted (found team slot l)) (locations_of seed slot)))
places_named seed found team slot names locations wanted shown word of_game all e =
    ap (counted word)
    (e ∙ (λ i. names_where (λ l. name_among l (of_game i)) (λ l. is_as wanted (found team slot l)) slot (all i))
    ∙ locations_named (game_of seed slot) (filter (λ l. is_as wanted (found team slot l)) (locations_of seed slot)))

pub left_named : (seed : Seed) (found : CheckedAt) (team slot : ℕ) (names : List NamedId) (locations : List Held) (shown : List (List ℕ))
    → names ≡ item_names (game_of seed slot) → locations ≡ seed.locations → shown ≡ map (λ i. name_among i names) (remaining_items seed found team slot locations)
    → counted (codes " remaining: ") shown ≡ remaining_text seed found team slot
left_named seed found team slot names locations shown of_game all e =
    ap (counted (codes " remaining: "))
    (e ∙ (λ i. map (λ id. name_among id (of_game i)) (remaining_items seed found team slot (all i))) ∙ items_named (game_of seed slot) (remaining_items seed found team slot seed.locations))
