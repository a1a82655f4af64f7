-- Records as bytes beside their definition.
use Rattle.std.specs.Prelude.{◌≡◌, pos, true, ◌∷◌, [], codes, refl}
use Rattle.std.specs.Fmt.{digits}
use Rattle.json.specs.Print.{print_from, escape_byte}
use Rattle.mw_model.specs.Json.{whole, many, no_items, item}
use Rattle.mw_protocol.specs.Records.{checks, hint, store}
use Rattle.mw_protocol.specs.Spelled.{record_bytes}

-- slot 1 of team 0 checked location 101
pub one_check : record_bytes (checks 0 1 (pos 101 ∷ []))
    ≡ 1 ∷ 0 ∷ 0 ∷ 1 ∷ 0 ∷ 0 ∷ 0 ∷ 1 ∷ 0 ∷ 0 ∷ 0 ∷ 0 ∷ 0 ∷ 0 ∷ 0 ∷ 101 ∷ []
one_check = refl

-- a hint of location 201 of slot 2, with priority, which slot 1 bought
pub bought_hint : record_bytes
    (hint record {
      team = 0;
      finder = 2;
      location = pos 201;
      bought = true;
      buyer = 1;
      status = 30;
    })
    ≡ 5 ∷ 0 ∷ 0 ∷ 2 ∷ 0 ∷ 0 ∷ 0 ∷ 0 ∷ 0 ∷ 0 ∷ 0 ∷ 201 ∷ 1 ∷ 0 ∷ 1 ∷ 30 ∷ []
bought_hint = refl

-- the key k holds the list of 5
pub one_value : record_bytes (store (codes "k") (many (item (whole (pos 5)) no_items)))
    ≡ 7 ∷ 0 ∷ 0 ∷ 0 ∷ 1 ∷ 107 ∷ 0 ∷ 0 ∷ 0 ∷ 3 ∷ 91 ∷ 53 ∷ 93 ∷ []
unfolding print_from escape_byte digits
one_value = refl
