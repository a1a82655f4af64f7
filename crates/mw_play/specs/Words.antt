-- The words of `multiplay`.
use Rattle.std.specs.Prelude.{◌≡◌, ◌≤◌, ℕ, List, ◌∷◌, decimal, option_to_list}
use Rattle.mw_play.specs.declared.words.PlayWords.{PlayWords}

-- the address, the slot's name, its game, the save file, how many turns, and the password, if one
-- is given
pub record IsPlay (words : List (List ℕ)) (asked : PlayWords) : Type 0 where
  pub are : words ≡ asked.address ∷ asked.who.name ∷ asked.who.game ∷ asked.save
      ∷ decimal asked.turns ∷ option_to_list asked.who.password
  pub some : 1 ≤ asked.turns
  pub few : asked.turns ≤ 1000000
