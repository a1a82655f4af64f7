-- Tables that grow by a row.
use Rattle.std.proofs.Common.{◌≡◌, ◌<◌, ◌+◌, ◌*◌, ℕ, List, [], ◌∷◌, ◌++◌, length, take, ap, add-one, append_assoc}
use Rattle.std.proofs.Math.Seq.{take-suc}
use Rattle.std.specs.List.{AllZip}
use Rattle.mw_rules.specs.Rule.{Rule, never}
use Rattle.mw_rules.specs.Ruling.{rule_at}
use Rattle.mw_rules.specs.declared.named.Named.{Named}
use Rattle.mw_native.specs.Told.{IsNamed}
use Rattle.mw_clock.specs.Tables.{floor_json, floors_json, stair_json, stairs_json, box_json, boxes_json}
use Rattle.mw_clock.specs.Clockwork.{floor, floors_below, stair, stairs_below, box, boxes_below}

pub floors_more : (i : ℕ) → floors_below (i + 1) ≡ floors_below i ++ floor i ∷ []
floors_more i = ap floors_below (add-one i)

pub stairs_more : (i : ℕ) → stairs_below (i + 1) ≡ stairs_below i ++ stair i ∷ []
stairs_more i = ap stairs_below (add-one i)

pub boxes_more : (i : ℕ) → boxes_below (i + 1) ≡ boxes_below i ++ box (2 * i + 1) i ∷ box (2 * i + 2) i ∷ []
boxes_more i = ap boxes_below (add-one i)

pub floors_json_more : (i : ℕ) → floors_json (i + 1) ≡ floors_json i ++ floor_json i ∷ []
floors_json_more i = ap floors_json (add-one i)

pub stairs_json_more : (i : ℕ) → stairs_json (i + 1) ≡ stairs_json i ++ stair_json i ∷ []
stairs_json_more i = ap stairs_json (add-one i)

pub boxes_json_more : (i : ℕ) → boxes_json (i + 1) ≡ boxes_json i ++ box_json (2 * i + 1) i ∷ box_json (2 * i + 2) i ∷ []
boxes_json_more i = ap boxes_json (add-one i)

-- two rows, one after the other
pub two_more : {A : Type 0} (rows : List A) (x y : A) → (rows ++ x ∷ []) ++ y ∷ [] ≡ rows ++ x ∷ y ∷ []
two_more rows x y = append_assoc rows (x ∷ []) (y ∷ [])

names_more : (rules : List Rule) (named : List Named) (r : Rule) (n : Named) → AllZip IsNamed rules named → IsNamed r n → AllZip IsNamed (rules ++ r ∷ []) (named ++ n ∷ [])
names_more [] [] r n all is = (is, tt)
names_more [] (m ∷ named) r n all is = absurd all
names_more (q ∷ rules) [] r n all is = absurd all
names_more (q ∷ rules) (m ∷ named) r n all is = (all.0, names_more rules named r n all.1 is)

-- the names of one rule more
pub named_more : (rules : List Rule) (i : ℕ) (named : List Named) (n : Named) → i < length rules → AllZip IsNamed (take i rules) named → IsNamed (rule_at rules i) n
    → AllZip IsNamed (take (i + 1) rules) (named ++ n ∷ [])
named_more rules i named n low all is = rw (add-one, take-suc rules i never low) (names_more (take i rules) named (rule_at rules i) n all is)
