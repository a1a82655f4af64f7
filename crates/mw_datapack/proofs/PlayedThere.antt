-- A game that a slot of a seed plays is among the seed's games.
use Rattle.std.proofs.Common.{◌≡◌, ℕ, List, [], ◌∷◌, Option, Some, None, Bool, true, false, ◌||◌, ◌⊎◌, is_some, inl, inr, refl, subst}
use Rattle.std.specs.Prelude.{All, IsSome, bytes_eq, option_map}
use Rattle.std.proofs.lemmas.List.Elements.{All-head, All-tail}
use Rattle.std.proofs.lemmas.Slice.Eq.{bytes_eq-Decides}
use Rattle.mw_protocol.specs.Players.{plays}
use Rattle.mw_model.specs.Seed.{Seed, Slot, Game}
use Rattle.mw_multidata.specs.Names.{find_game}
use Rattle.mw_multidata.specs.SeedKept.{IsSeed}

-- the slot's game is among these
abbrev IsAmong : List Game → Slot → Type 0
IsAmong games s = is_some (find_game games s.game) ≡ true

one_of : (a b : Bool) → (a || b) ≡ true → (a ≡ true) ⊎ (b ≡ true)
one_of true b e = inl refl
one_of false b e = inr e

by_one : (games : List Game) (s : Slot) (name : List ℕ) (P : Type 0) → IsAmong games s → (P → is_some (find_game games name) ≡ true) → (bytes_eq s.game name ≡ true) ⊎ P → is_some (find_game games name) ≡ true
by_one games s name P here others (inl e) = subst (λ n. is_some (find_game games n) ≡ true) ((bytes_eq-Decides s.game name).0 e) here
by_one games s name P here others (inr p) = others p

played_among : (games : List Game) (ss : List Slot) (name : List ℕ) → All (IsAmong games) ss → plays ss name ≡ true → is_some (find_game games name) ≡ true
played_among games [] name h played = cc
played_among games (s ∷ ss) name h played =
    by_one games s name (plays ss name ≡ true) (All-head (IsAmong games) s ss h) (played_among games ss name (All-tail (IsAmong games) s ss h)) (one_of (bytes_eq s.game name) (plays ss name) played)

-- a game that a slot plays is there
pub played_there : (seed : Seed) (name : List ℕ) → IsSeed seed → plays seed.slots name ≡ true → is_some (find_game seed.games name) ≡ true
played_there seed name h played = played_among seed.games seed.slots name (λ k d l. (h.slots.each k d l).game) played

pub some_seen : {X Y : Type 0} (f : X → Y) (found : Option X) → is_some (option_map f found) ≡ true → IsSome found
some_seen f None h = cc
some_seen f (Some x) h = refl
