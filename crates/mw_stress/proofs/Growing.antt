-- Tables that grow by a row.
use Rattle.std.proofs.Common.{◌≡◌, ◌+◌, ℕ, List, [], ◌∷◌, ◌++◌, ap, add-one}
use Rattle.mw_stress.specs.Lines.{received, slot_line, slot_lines}
use Rattle.mw_stress.specs.declared.taken.Taken.{Taken}
use Rattle.mw_stress.specs.Stress.{region, regions_below, entrance, entrances_below, spot, spots_below, key, keys_below, copies, singles_below, items_below, player, players_below}

pub regions_more : (i : ℕ) → regions_below (i + 1) ≡ regions_below i ++ region i ∷ []
regions_more i = ap regions_below (add-one i)

pub entrances_more : (i : ℕ) → entrances_below (i + 1) ≡ entrances_below i ++ entrance i ∷ []
entrances_more i = ap entrances_below (add-one i)

pub spots_more : (i : ℕ) → spots_below (i + 1) ≡ spots_below i ++ spot i ∷ []
spots_more i = ap spots_below (add-one i)

pub keys_more : (i : ℕ) → keys_below (i + 1) ≡ keys_below i ++ key i ∷ []
keys_more i = ap keys_below (add-one i)

pub singles_more : (i : ℕ) → singles_below (i + 1) ≡ singles_below i ++ copies i 1 ∷ []
singles_more i = ap singles_below (add-one i)

pub items_more : (i : ℕ) → items_below (i + 1) ≡ items_below i ++ i ∷ []
items_more i = ap items_below (add-one i)

pub players_more : (i : ℕ) → players_below (i + 1) ≡ players_below i ++ player i ∷ []
players_more i = ap players_below (add-one i)

-- the lines of one slot more
pub lines_more : (taken : List Taken) (n : ℕ) → slot_lines taken (n + 1) ≡ slot_lines taken n ++ slot_line (n + 1) (received taken (n + 1))
lines_more taken n = ap (slot_lines taken) (add-one n)
