-- The games of slots, gathered one after the other.
use Rattle.std.proofs.Common.{◌≡◌, ◌<◌, ◌≤◌, ◌+◌, ◌||◌, ℕ, suc, List, [], ◌∷◌, ◌++◌, Bool, true, false, MatchBool, length, map, take, get_or, bytes_eq, IsPermutation, refl, sym, ap, subst, ◌∙◌, arith}
use Rattle.std.specs.Prelude.{All, Contains}
use Rattle.std.specs.List.{IsDistinct, AllByRecursion}
use Rattle.std.proofs.lemmas.List.{map_push, take_all}
use Rattle.std.proofs.lemmas.List.Elements.{All-nil, All-push, All-more, All-weaker, Contains-get_or, Contains-append_left, Contains-push}
use Rattle.std.proofs.lemmas.List.Sorted.{All-permutation, Contains-permutation, IsPermutation-map}
use Rattle.std.proofs.lemmas.Slice.Eq.{bytes_eq-Decides}
use Rattle.mw_model.specs.Seed.{Game}
use Rattle.mw_multi.specs.Names.{NamesDiffer}
use Rattle.mw_multi.specs.Joint.{Slot}
use Rattle.mw_multidata.specs.Names.{has_name}
use Rattle.mw_model.specs.Ascending.{NamesAscend}
use Rattle.mw_multidata.specs.SeedKept.{game_name}
use Rattle.mw_seeds.specs.GamesMet.{has_game, IsGameAdded, AreDifferent}
use Rattle.mw_seeds.specs.SeedFile.{IsGameOf, IsPlayed, HasGameOf, AreGames}

-- the games of the first slots
pub record AreMet (slots : List Slot) (i : ℕ) (games : List Game) : Type 0 where
  pub differ : NamesDiffer (map game_name games)
  pub played : All (IsPlayed slots) games
  pub all : All (HasGameOf games) (take i slots)

by_first : (n : List ℕ) (names : List (List ℕ)) (name : List ℕ) (b : Bool) → bytes_eq n name ≡ b → (b || has_name names name) ≡ true → (has_name names name ≡ true → Contains names name) → Contains (n ∷ names) name
by_first n names name true e h later = (0, omega arith, (bytes_eq-Decides n name).0 e)
by_first n names name false e h later = let there = later h in (suc there.0, omega (arith, there.1), there.2)

name_there : (names : List (List ℕ)) (name : List ℕ) → has_name names name ≡ true → Contains names name
name_there [] name h = cc
name_there (n ∷ names) name h = by_first n names name (bytes_eq n name) refl h (name_there names name)

either_false : (a b : Bool) → (a || b) ≡ false → (a ≡ false) × (b ≡ false)
either_false true b h = cc
either_false false b h = (refl, h)

name_apart : (n : List ℕ) (names : List (List ℕ)) (name : List ℕ) → AllByRecursion (λ y. bytes_eq n y ≡ false) names → bytes_eq n name ≡ false → AllByRecursion (λ y. bytes_eq n y ≡ false) (names ++ name ∷ [])
name_apart n [] name h e = (e, tt)
name_apart n (m ∷ names) name h e = (h.0, name_apart n names name h.1 e)

new_name : (names : List (List ℕ)) (name : List ℕ) → NamesDiffer names → has_name names name ≡ false → NamesDiffer (names ++ name ∷ [])
unfolding IsDistinct
new_name [] name d h = (tt, tt)
new_name (n ∷ names) name d h = let parts = either_false (bytes_eq n name) (has_name names name) h in (name_apart n names name d.0 parts.0, new_name names name d.1 parts.1)

has_one : (games : List Game) (name : List ℕ) → has_game games name ≡ has_name (map game_name games) name
has_one [] name = refl
has_one (g ∷ games) name = ap (λ b. bytes_eq g.name name || b) (has_one games name)

named_later : (games : List Game) (g : Game) (s : Slot) → HasGameOf games s → HasGameOf (games ++ g ∷ []) s
named_later games g s h = subst (λ names. Contains names s.world.game) (sym (map_push game_name games g)) (Contains-append_left (map game_name games) (g.name ∷ []) s.world.game h)

module _ (slots : List Slot) (i : ℕ) (s : Slot) (within : i < length slots) (is : s ≡ get_or slots i s) where
  same_games : (before : List Game) → has_name (map game_name before) s.world.game ≡ true → AreMet slots i before → AreMet slots (i + 1) before
  same_games before h met = record {
    differ = met.differ;
    played = met.played;
    all = All-more (HasGameOf before) slots i s within met.all (subst (HasGameOf before) is (name_there (map game_name before) s.world.game h));
  }

  one_game : (before : List Game) (g : Game) → has_name (map game_name before) s.world.game ≡ false → IsGameOf s.world g → AreMet slots i before → AreMet slots (i + 1) (before ++ g ∷ [])
  one_game before g h of met =
      let names : map game_name (before ++ g ∷ []) ≡ map game_name before ++ g.name ∷ [] = map_push game_name before g in
      let fresh : has_name (map game_name before) g.name ≡ false = ap (has_name (map game_name before)) of.name ∙ h in
      let there : Contains slots s = subst (Contains slots) (sym is) (Contains-get_or slots i s within) in
      let here : HasGameOf (before ++ g ∷ []) s = subst (λ ns. Contains ns s.world.game) (sym names) (subst (Contains (map game_name before ++ g.name ∷ [])) of.name (Contains-push (map game_name before) g.name)) in
      record {
        differ = subst NamesDiffer (sym names) (new_name (map game_name before) g.name met.differ fresh);
        played = All-push (IsPlayed slots) before g met.played (s, there, of);
        all = All-more (HasGameOf (before ++ g ∷ [])) slots i s within (All-weaker (HasGameOf before) (HasGameOf (before ++ g ∷ [])) (named_later before g) (take i slots) met.all) (subst (HasGameOf (before ++ g ∷ [])) is here);
      }

  by_test : (b : Bool) (before after : List Game) → has_name (map game_name before) s.world.game ≡ b → MatchBool b (after ≡ before) ((g : Game) × IsGameOf s.world g × (after ≡ before ++ g ∷ [])) → AreMet slots i before → AreMet slots (i + 1) after
  by_test true before after h e met = subst (AreMet slots (i + 1)) (sym e) (same_games before h met)
  by_test false before after h (g, of, e) met = subst (AreMet slots (i + 1)) (sym e) (one_game before g h of met)

  -- with the game of one slot more
  pub game_met : (before after : List Game) → IsGameAdded before s.world after → AreMet slots i before → AreMet slots (i + 1) after
  game_met before after added met = by_test (has_game before s.world.game) before after (sym (has_one before s.world.game)) added met

pub none_met : (slots : List Slot) → AreMet slots 0 []
unfolding IsDistinct
none_met slots = record { differ = tt; played = All-nil (IsPlayed slots); all = All-nil (HasGameOf []) }

pub all_met : (slots : List Slot) (i : ℕ) (games : List Game) → length slots ≤ i → AreMet slots i games → AreDifferent slots games
all_met slots i games past met = record { differ = met.differ; played = met.played; all = subst (All (HasGameOf games)) (take_all i slots past) met.all }

-- in another order
pub games_sorted : (slots : List Slot) (games sorted : List Game) → AreDifferent slots games → IsPermutation games sorted → NamesAscend (map game_name sorted) → AreGames slots sorted
games_sorted slots games sorted h p ascend = record {
  ascend = ascend;
  played = All-permutation (IsPlayed slots) games sorted p h.played;
  all = λ k d l. Contains-permutation (map game_name games) (map game_name sorted) (get_or slots k d).world.game (IsPermutation-map game_name games sorted p) (h.all k d l);
}
